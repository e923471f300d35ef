use Rattle.std.proofs.Common.{◌<◌, ◌-◌, length, take, drop, rules, arith, refl}
use Rattle.wire.proofs.FieldsRead.{whole_rest}
use Rattle.wire.proofs.ValuesRead.{no_value, value_found}
use Rattle.wire.proofs.value.take_fields.Goals as goal

pub returns-in_default-2 : goal.returns-in_default-2
returns-in_default-2 c = λ value rest is spelled.
    let none = rw c.in_default-2.is at c.in_ok-fields.ensures in
    no_value c.args.bytes.now (take (length c.args.bytes.now - 1) (drop 1 c.args.bytes.now)) rest _ value refl (whole_rest 1 c.args.bytes.now) none is spelled

pub returns : goal.returns
returns c =
    let found = rw c.in-Some.is at c.in_ok-fields.ensures in
    let some : 0 < length c.args.bytes.now = search rules in
    value_found c.args.bytes.now (take (length c.args.bytes.now - 1) (drop 1 c.args.bytes.now)) c.in-Some.rest.now _ c.in-Some.fields
    (λ i. omega (arith, c.type_inv.bytes i)) some refl (whole_rest 1 c.args.bytes.now) (search rules) found

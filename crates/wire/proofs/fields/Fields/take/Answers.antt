use Rattle.std.proofs.Common.{◌≡◌, ℕ, ◌-◌, ◌≤◌, arith, List, length, take, ap}
use Rattle.wire.specs.Fields.{rest_at}
use Rattle.wire.proofs.FieldsRead.{fields_alone, rest_at_most}
use Rattle.wire.proofs.fields.Fields.take.Goals as goal

pub slice_bounds-of-count : goal.slice_bounds-of-count
slice_bounds-of-count c = rw c.in-Some.ensures.1 (rest_at_most c.args.count c.args.bytes.now)

pub invariant_of-result : goal.invariant_of-result
invariant_of-result c =
    let bytes = c.args.bytes.now in
    let few : c.args.count ≤ 16 = omega (arith, c.if-count-gt16.false) in
    let is : take (length bytes - length c.in-Some.rest.now) bytes ≡ take (length bytes - length (rest_at c.args.count bytes)) bytes =
    ap (λ (l : List ℕ). take (length bytes - length l) bytes) c.in-Some.ensures.1 in
    rw c.in_ok-spelled.ensures (fields_alone c.args.count bytes _ (λ i. omega (arith, c.type_inv.bytes i)) few c.in-Some.ensures.0 is).0

pub returns : goal.returns
returns c =
    let bytes = c.args.bytes.now in
    let few : c.args.count ≤ 16 = omega (arith, c.if-count-gt16.false) in
    let is : take (length bytes - length c.in-Some.rest.now) bytes ≡ take (length bytes - length (rest_at c.args.count bytes)) bytes =
    ap (λ (l : List ℕ). take (length bytes - length l) bytes) c.in-Some.ensures.1 in (
      few,
      c.in-Some.ensures.0,
      rw c.in_ok-spelled.ensures (fields_alone c.args.count bytes _
          (λ i. omega (arith, c.type_inv.bytes i)) few c.in-Some.ensures.0 is).1,
      c.in-Some.ensures.1,
    )

use Rattle.std.proofs.Common.{◌≡◌, ◌∙◌, [], ap, sym, length, true, arith}
use Rattle.std.proofs.lemmas.Bool.Decides.{nat_tests}
use Rattle.std.proofs.lemmas.List.{append-nil}
use Rattle.wire.specs.Values.{value_bytes}
use Rattle.wire.proofs.ValuesRead.{one_value}
use Rattle.c_engine.proofs.values.read_value.Goals as goal

pub returns-in-None : goal.returns-in-None
returns-in-None c = λ spelled.
    let none = rw c.in-None.is at c.in_ok-take_fields.ensures in
    none spelled.0 [] spelled.1 (spelled.2 ∙ sym (append-nil (value_bytes spelled.0)))

pub returns-else-is_empty : goal.returns-else-is_empty
returns-else-is_empty c = λ spelled.
    let some = rw c.in-Some.is at c.in_ok-take_fields.ensures in
    let both = one_value spelled.0 c.in-Some.value [] c.in-Some.rest.now (append-nil (value_bytes spelled.0) ∙ sym spelled.2 ∙ some.1) in
    let none : length c.in-Some.rest.now ≡ 0 = ap length (sym both.1) in
    let test : c.is_empty.result ≡ true = c.is_empty.ensures ∙ grind (arith, nat_tests) in
    cc (test, c.if-is_empty.false)

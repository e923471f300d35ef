use Rattle.std.proofs.Common.{◌≡◌, ◌∙◌, ℕ, List, [], ◌∷◌, ap, sym}
use Rattle.std.specs.Cmp.Lexicographic.{bytes_decides}
use Rattle.std.specs.Int.{w32, to_le_bytes}
use Rattle.workload.proofs.Rounds.{one-field}
use Rattle.workload.proofs.in_memory.has_round.Goals as goal

pub returns-then-len-eq1 : goal.returns-then-len-eq1
returns-then-len-eq1 c = λ equal.
    let field : c.in-Some.field.now ≡ to_le_bytes w32 c.args.round =
    (bytes_decides _ _).0 (sym c.eq.ensures ∙ equal) ∙ c.as_slice.ensures ∙ c.field_of.ensures in
    let one = one-field c.value-value.result.now c.in-Some.field.now (sym c.len.ensures.is ∙ c.if-len-eq1.true) (sym c.in-Some.ensures) in
    sym c.value-value.ensures ∙ one ∙ ap (λ (f : List ℕ). f ∷ []) field

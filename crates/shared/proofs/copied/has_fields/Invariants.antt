use Rattle.std.proofs.Common.{◌≡◌, length, map}
use Rattle.shared.proofs.copied.has_fields.Given as goal

abbrev pub invariant-loop-rest : goal.invariant-loop-rest
invariant-loop-rest l = map (λ field. field.now) l.rest ≡ l.left → map (λ field. field.now) l.fields ≡ l.value

abbrev pub decreases-loop-rest : goal.decreases-loop-rest
decreases-loop-rest l = length l.rest

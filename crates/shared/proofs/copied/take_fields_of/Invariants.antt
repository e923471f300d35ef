use Rattle.std.proofs.Common.{◌≡◌, ℕ, ◌+◌, ◌≤◌, List, ◌++◌, map, take, length, Bor}
use Rattle.shared.proofs.copied.take_fields_of.Given as goal

abbrev pub invariant-loop-field : goal.invariant-loop-field
invariant-loop-field l =
    (l.count + length l.fields ≤ 16) × (length l.parts ≡ 16) × (map (λ (part : Bor (List ℕ)). part.now) (take l.count l.parts) ++ l.fields ≡ l.value)

abbrev pub decreases-loop-field : goal.decreases-loop-field
decreases-loop-field l = length l.fields

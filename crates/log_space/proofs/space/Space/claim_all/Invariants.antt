use Rattle.std.proofs.Common.{◌≡◌, ℕ, ◌≤◌, ◌<◌, ◌+◌, length}
use Rattle.std.specs.List.{AllByRecursion}
use Rattle.log_space.specs.Uses.{all_used, used_count}
use Rattle.log_space.proofs.space.Space.claim_all.Given as goal

abbrev pub invariant-loop-number : goal.invariant-loop-number
invariant-loop-number l = record {
  low : AllByRecursion (λ (number : ℕ). 0 < number) l.rest;
  is : all_used l.self l.rest ≡ all_used l.fn.self l.fn.numbers;
  most : used_count l.self + length l.rest ≤ used_count l.fn.self + length l.fn.numbers;
}

abbrev pub decreases-loop-number : goal.decreases-loop-number
decreases-loop-number l = length l.rest

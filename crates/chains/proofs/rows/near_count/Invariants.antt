use Rattle.std.proofs.Common.{◌≡◌, ◌≤◌, ◌+◌, ℕ, length}
use Rattle.chains.specs.Rows.{versions_upto}
use Rattle.chains.proofs.rows.near_count.Given as goal

abbrev pub invariant-loop-rest : goal.invariant-loop-rest
invariant-loop-rest l = record {
  most : l.count + length l.rest ≤ length l.writes;
  left : (end : ℕ) → l.count + length (versions_upto end l.rest) ≡ length (versions_upto end l.writes);
}

abbrev pub decreases-loop-rest : goal.decreases-loop-rest
decreases-loop-rest l = length l.rest

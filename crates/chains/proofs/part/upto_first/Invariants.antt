use Rattle.std.proofs.Common.{◌≡◌, ◌+◌, ℕ, length, drop}
use Rattle.chains.specs.Rows.{versions_upto}
use Rattle.chains.proofs.part.upto_first.Given as goal

abbrev pub invariant-loop-rest : goal.invariant-loop-rest
invariant-loop-rest l = record {
  count : l.passed + length l.rest ≡ length l.writes;
  left : l.rest ≡ drop l.passed l.writes;
  none : (end : ℕ) → versions_upto end l.rest ≡ versions_upto end l.writes;
}

abbrev pub decreases-loop-rest : goal.decreases-loop-rest
decreases-loop-rest l = length l.rest

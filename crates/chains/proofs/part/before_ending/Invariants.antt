use Rattle.std.proofs.Common.{◌≡◌, ◌+◌, length, drop}
use Rattle.std.specs.Prelude.{find}
use Rattle.history.specs.Versions.{ends_after}
use Rattle.chains.specs.Rows.{versions_upto}
use Rattle.chains.proofs.part.before_ending.Given as goal

abbrev pub invariant-loop-rest : goal.invariant-loop-rest
invariant-loop-rest l = record {
  count : l.passed + length l.rest ≡ length l.writes;
  left : l.rest ≡ drop l.passed l.writes;
  found : find (ends_after l.time) (versions_upto l.end l.rest) ≡ find (ends_after l.time) (versions_upto l.end l.writes);
}

abbrev pub decreases-loop-rest : goal.decreases-loop-rest
decreases-loop-rest l = length l.rest

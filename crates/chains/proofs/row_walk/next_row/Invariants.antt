use Rattle.std.proofs.Common.{◌≡◌, length}
use Rattle.history.specs.Time.{IsRisingAfter}
use Rattle.history.specs.Versions.{rows}
use Rattle.chains.specs.Rows.{versions_upto}
use Rattle.chains.proofs.row_walk.next_row.Given as goal

abbrev pub invariant-loop-rest : goal.invariant-loop-rest
invariant-loop-rest l = record {
  rising : IsRisingAfter 0 l.rest;
  left : rows (versions_upto l.end l.rest) l.from l.upto ≡ rows (versions_upto l.end l.writes) l.from l.upto;
}

abbrev pub decreases-loop-rest : goal.decreases-loop-rest
decreases-loop-rest l = length l.rest

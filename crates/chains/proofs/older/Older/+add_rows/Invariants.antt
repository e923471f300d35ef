use Rattle.std.proofs.Common.{◌≡◌, ◌++◌, ◌<◌, length}
use Rattle.history.specs.Time.{IsRisingAfter}
use Rattle.history.specs.Versions.{rows}
use Rattle.chains.specs.Shapes.{all_of, highest}
use Rattle.chains.specs.Rows.{versions_upto}
use Rattle.chains.proofs.older.Older.+add_rows.Given as goal

abbrev pub decreases-add_rows : goal.decreases-add_rows
decreases-add_rows l = goal.size-add_rows l

-- what is left is no higher than what lies below the fork, and its rows are those that were not put yet
abbrev pub invariant-loop-rest : goal.invariant-loop-rest
invariant-loop-rest l = record {
  low : highest l.rest < l.self.height;
  rising : IsRisingAfter 0 (all_of l.rest);
  left : l.found.items ++ rows (versions_upto l.end (all_of l.rest)) l.a l.b ≡ l.fn.found.items ++ rows (versions_upto l.end l.self.chunks) l.a l.b;
}

abbrev pub decreases-loop-rest : goal.decreases-loop-rest
decreases-loop-rest l = length l.rest

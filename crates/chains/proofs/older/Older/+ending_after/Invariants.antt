use Rattle.std.proofs.Common.{◌≡◌, ◌<◌, length}
use Rattle.std.specs.Prelude.{find}
use Rattle.history.specs.Versions.{ends_after}
use Rattle.chains.specs.Shapes.{all_of, highest}
use Rattle.chains.specs.Rows.{versions_upto}
use Rattle.chains.proofs.older.Older.+ending_after.Given as goal

abbrev pub decreases-ending_after : goal.decreases-ending_after
decreases-ending_after l = goal.size-ending_after l

-- what is left is no higher than what lies below the fork, and the version is found in it
abbrev pub invariant-loop-rest : goal.invariant-loop-rest
invariant-loop-rest l = record {
  low : highest l.rest < l.self.height;
  found : find (ends_after l.time) (versions_upto l.end (all_of l.rest)) ≡ find (ends_after l.time) (versions_upto l.end l.self.chunks);
}

abbrev pub decreases-loop-rest : goal.decreases-loop-rest
decreases-loop-rest l = length l.rest

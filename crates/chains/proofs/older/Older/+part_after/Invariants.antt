use Rattle.std.proofs.Common.{◌<◌, Option, length}
use Rattle.chains.specs.Shapes.{all_of, highest}
use Rattle.chains.specs.Found.{Versions, IsFound}
use Rattle.chains.specs.Rows.{versions_upto}
use Rattle.chains.proofs.older.Older.+part_after.Given as goal

abbrev pub decreases-part_after : goal.decreases-part_after
decreases-part_after l = goal.size-part_after l

-- what is left is no higher than what lies below the fork, and what is found in it is found in all
abbrev pub invariant-loop-rest : goal.invariant-loop-rest
invariant-loop-rest l = record {
  low : highest l.rest < l.self.height;
  found : (o : Option Versions) → IsFound l.time (versions_upto l.end (all_of l.rest)) o → IsFound l.time (versions_upto l.end l.self.chunks) o;
}

abbrev pub decreases-loop-rest : goal.decreases-loop-rest
decreases-loop-rest l = length l.rest

use Rattle.std.proofs.Common.{◌≡◌, ◌<◌, length}
use Rattle.std.specs.Prelude.{find}
use Rattle.chains.specs.Shapes.{all_of, highest}
use Rattle.chains.specs.Writes.{is_after}
use Rattle.chains.proofs.older.Older.+next_after.Given as goal

abbrev pub decreases-next_after : goal.decreases-next_after
decreases-next_after l = goal.size-next_after l

-- what is left is no higher than what lies below the fork, and the write is found in it
abbrev pub invariant-loop-rest : goal.invariant-loop-rest
invariant-loop-rest l = record {
  low : highest l.rest < l.self.height;
  found : find (is_after l.time) (all_of l.rest) ≡ find (is_after l.time) l.self.chunks;
}

abbrev pub decreases-loop-rest : goal.decreases-loop-rest
decreases-loop-rest l = length l.rest

use Rattle.std.proofs.Common.{◌≤◌, ◌-◌}
use Rattle.chains.proofs.full_chunk.FullChunk.later_from.Given as goal

abbrev pub invariant-loop-begun : goal.invariant-loop-begun
invariant-loop-begun l = l.begun ≤ 32

abbrev pub decreases-loop-begun : goal.decreases-loop-begun
decreases-loop-begun l = 32 - l.begun

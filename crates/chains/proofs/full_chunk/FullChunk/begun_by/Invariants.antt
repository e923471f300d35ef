use Rattle.std.proofs.Common.{ℕ, ◌<◌, ◌≤◌, get_or}
use Rattle.chains.specs.Writes.{Write}
use Rattle.chains.proofs.full_chunk.FullChunk.begun_by.Given as goal

abbrev pub invariant-loop-begun : goal.invariant-loop-begun
invariant-loop-begun l = record {
  within : l.begun ≤ 32;
  after : (k : ℕ) (d : Write) → l.begun ≤ k → k < 32 → l.time < (get_or l.self k d).time;
}

abbrev pub decreases-loop-begun : goal.decreases-loop-begun
decreases-loop-begun l = l.begun

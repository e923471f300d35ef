use Rattle.std.proofs.Common.{ℕ, ◌<◌, ◌≤◌, length, get_or}
use Rattle.chains.specs.Writes.{Write}
use Rattle.chains.proofs.write.begun_by.Given as goal

abbrev pub invariant-loop-begun : goal.invariant-loop-begun
invariant-loop-begun l = record {
  within : l.begun ≤ length l.writes;
  after : (k : ℕ) (d : Write) → l.begun ≤ k → k < length l.writes → l.time < (get_or l.writes k d).time;
}

abbrev pub decreases-loop-begun : goal.decreases-loop-begun
decreases-loop-begun l = l.begun

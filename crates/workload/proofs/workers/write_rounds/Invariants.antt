use Rattle.std.proofs.Common.{◌≡◌, ◌≤◌}
use Rattle.workload.proofs.workers.write_rounds.Given as goal

abbrev pub invariant-loop-round : goal.invariant-loop-round
invariant-loop-round g l = (l.share.parts ≡ 1) × (l.share.amount ≡ l.done) × (l.done ≤ l.round)

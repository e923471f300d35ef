use Rattle.std.proofs.Common.{◌≡◌}
use Rattle.bench.proofs.many_callers.crew.write.Given as goal

abbrev pub invariant-loop-version : goal.invariant-loop-version
invariant-loop-version g l = l.share.parts ≡ 1

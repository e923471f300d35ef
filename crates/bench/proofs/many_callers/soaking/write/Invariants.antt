use Rattle.std.proofs.Common.{◌<◌}
use Rattle.bench.proofs.many_callers.soaking.write.Given as goal

abbrev pub invariant-loop-round : goal.invariant-loop-round
invariant-loop-round g l = 0 < l.share.parts

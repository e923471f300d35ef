use Rattle.std.proofs.Common.{length}
use Rattle.bench.proofs.one_caller.asking.walks_versions.Given as goal

abbrev pub decreases-loop-row : goal.decreases-loop-row
decreases-loop-row l = length l.walk

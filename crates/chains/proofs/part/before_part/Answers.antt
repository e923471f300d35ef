use Rattle.chains.proofs.Found.{found-in, none-in}
use Rattle.std.proofs.Common.{arith}
use Rattle.chains.proofs.part.before_part.Goals as goal

pub returns-then-versions-eq0-clause-is : goal.returns-then-versions-eq0-clause-is
returns-then-versions-eq0-clause-is c =
    none-in c.args.time c.args.end c.args.writes.now c.before_ending-passed.result c.version_count-versions.result c.before_ending-passed.ensures.found
    (c.version_count-versions.ensures.is c.args.end) c.if-versions-eq0.true

pub returns-clause-is : goal.returns-clause-is
returns-clause-is c =
    found-in c.args.time c.args.end c.args.writes.now c.before_ending-passed.result c.version_count-versions.result c.before_ending-passed.ensures.found
    (c.version_count-versions.ensures.is c.args.end) (omega arith)

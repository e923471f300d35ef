use Rattle.std.proofs.Common.{refl}
use Rattle.log_recovery.proofs.Following.{next_raised}
use Rattle.log_recovery.proofs.rules.with_raised.Goals as goal

pub loop-floor-preserved : goal.loop-floor-preserved
loop-floor-preserved c =
    next_raised c.args.floors.now c.loop-floor.raised c.in_ok-raised-2.raised c.args.more.now c.loop-floor.floor-index _ _ c.loop-floor-test.true refl
    c.in_ok-raised-2.ensures.is c.loop-floor.invariant

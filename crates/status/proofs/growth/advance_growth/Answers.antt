use Rattle.std.proofs.Common.{◌<◌, Ok, subst, arith}
use Rattle.status.specs.Growth.{IsGrowthCall}
use Rattle.status.specs.GrowthState.{GrowthState}
use Rattle.status.proofs.Growing.{zeros-are_call}
use Rattle.status.proofs.growth.advance_growth.Goals as goal

pub returns-in_ok-write_zeros-in-Zeroing-clause-call : goal.returns-in_ok-write_zeros-in-Zeroing-clause-call
returns-in_ok-write_zeros-in-Zeroing-clause-call g c = λ told.
    let few : c.in-Zeroing.parts < 16 = omega (arith, c.if-parts-lt-PARTS.true) in
    subst (λ (x : GrowthState). IsGrowthCall x.stage x.slots x.piece (Ok tt) (g.D.Disk.state c.args.disk.now).areas
    (g.D.Disk.state c.write_zeros.new.disk).areas) c.growth.view_is
    (zeros-are_call c.growth.inside.stage c.in-Zeroing.parts c.growth.inside.slots c.growth.inside.piece (Ok tt) _ _ c.in-Zeroing.is few
    (c.in_ok-write_zeros-in-Zeroing.ensures.call told))

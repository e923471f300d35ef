use Rattle.std.proofs.Common.{refl}
use denote.Param.Always.{mut_next}
use Rattle.shared.proofs.Fronts.{later-then}
use Rattle.shared.proofs.shared.SharedStore.run_committer.Goals as goal

pub loop-preserved-then-not-over : goal.loop-preserved-then-not-over
loop-preserved-then-not-over g c =
    let later = later-then _ _ _ c.loop.invariant.2 c.step-did.ensures.later in
    (tt, tt, later, mut_next g.F.FnMut _ _ _ _ _ c.pause.ensures refl c.loop.invariant.3)

pub loop-preserved : goal.loop-preserved
loop-preserved g c =
    let later = later-then _ _ _ c.loop.invariant.2 c.step-did.ensures.later in
    (tt, tt, later, mut_next g.F.FnMut _ _ _ _ _ c.pause.ensures refl c.loop.invariant.3)

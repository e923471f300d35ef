use Rattle.std.proofs.Common.{refl}
use denote.Param.Always.{mut_next}
use Rattle.shared.proofs.Fronts.{later-then}
use Rattle.shared.proofs.shared.SharedStore.run_vacuum.Goals as goal

pub loop-preserved-in-Goes : goal.loop-preserved-in-Goes
loop-preserved-in-Goes g c =
    let later = later-then _ _ _ c.loop.invariant.2 c.vacuum-answer.ensures.later in
    (tt, tt, later, (c.vacuum-answer.ensures.happens, c.in-Goes.ensures.leads), mut_next g.F.FnMut _ _ _ _ _ c.pause.ensures refl c.loop.invariant.4)

pub loop-preserved : goal.loop-preserved
loop-preserved g c =
    let later = later-then _ _ _ c.loop.invariant.2 c.vacuum-answer.ensures.later in
    (tt, tt, later, (c.vacuum-answer.ensures.happens, c.in-Waits.ensures.leads), mut_next g.F.FnMut _ _ _ _ _ c.pause.ensures refl c.loop.invariant.4)

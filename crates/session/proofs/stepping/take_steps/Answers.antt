use Rattle.session.proofs.StepLemmas.{work-ends, work-fewer, work-goes_on}
use Rattle.session.proofs.stepping.take_steps.Goals as goal

pub returns-then-is_last : goal.returns-then-is_last
returns-then-is_last g c = c.loop-work.invariant _ _ (work-ends g.D.Disk.tells c.args.work c.loop-work.store _ _ _ c.if-is_last.true c.take_step-reply.ensures)

pub loop-work-preserved : goal.loop-work-preserved
loop-work-preserved g c =
    λ r end rest. c.loop-work.invariant r end
    (work-goes_on g.D.Disk.tells c.args.work c.loop-work.store _ end _ r _ (λ last. let not = c.if-is_last.false in cc) c.take_step-reply.ensures rest)

pub loop-work-smaller : goal.loop-work-smaller
loop-work-smaller g c =
    work-fewer g.D.Disk.tells c.args.work c.loop-work.store c.take_step-reply.new.store _ _ (λ last. let not = c.if-is_last.false in cc)
    c.take_step-reply.ensures

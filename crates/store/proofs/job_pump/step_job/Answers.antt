use Rattle.std.proofs.Common.{◌∙◌}
use Rattle.store.proofs.JobSteps.{at-writing, at-stored, at-turning}
use Rattle.store.proofs.job_pump.step_job.Goals as goal

pub returns-in-Writing : goal.returns-in-Writing
returns-in-Writing g c = λ turn same.
    at-writing _ c.args.job.work c.args.job.stage _ c.args.log.now turn c.args.archived.now.upto c.args.archived.now.runs_end c.args.archived.now.archive _ _ _
    c.in-Writing.is
    (c.store_next.ensures turn c.args.archived.now.upto c.args.archived.now.runs_end c.args.archived.now.archive)

pub returns-else-is_turning : goal.returns-else-is_turning
returns-else-is_turning g c = λ turn same.
    at-stored _ c.args.job.work c.args.job.stage _ c.args.log.now turn c.args.archived.now.upto c.args.archived.now.runs_end c.args.archived.now.archive _ _ _
    c.in-Stored.is (same ∙ c.if-is_turning.false)
    (c.begin_slot.ensures turn)

pub returns-in-Turning : goal.returns-in-Turning
returns-in-Turning g c = λ turn same.
    at-turning _ c.args.job.work c.args.job.stage c.in-Turning.turn _ c.args.log.now turn c.args.archived.now.upto c.args.archived.now.runs_end
    c.args.archived.now.archive _ _ _ c.in-Turning.is (c.turn_job_slot.ensures turn)

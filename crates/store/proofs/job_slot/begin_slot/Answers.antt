use Rattle.store.specs.Jobs.{stored}
use Rattle.store.proofs.JobSteps.{began}
use Rattle.store.proofs.job_slot.begin_slot.Goals as goal

pub returns : goal.returns
returns g c = λ turn.
    began _ (stored c.args.work) _ c.in-Ok-begin_slot.turn c.args.log.now _ c.args.transactions.now _ turn _ _ _ _ _ _ _ c.slot_body.ensures
    c.in-Ok-begin_slot.ensures.number c.in-Ok-begin_slot.ensures.bytes c.in-Ok-begin_slot.ensures.stage c.in-Ok-begin_slot.ensures.writing
    (c.in-Ok.ensures.ok c.args.log.now turn _ _ _ _ _) (c.turn_job_slot.ensures turn _)

use Rattle.std.proofs.Common.{◌≡◌, subst, inl, inr, ◌∙◌}
use Rattle.disk.specs.Calls.{DiskState}
use Rattle.status.specs.Reading.{HoldsLog, IsLogFault, refused_by}
use Rattle.shell.proofs.vacuuming.log_of.Goals as goal

pub returns-in-Err-clause-fault : goal.returns-in-Err-clause-fault
returns-in-Err-clause-fault g c = (λ tells. inl (c.in-Err.ensures.fault, c.in-Err.ensures.only tells), c.in-Err.ensures.same)

pub returns-in-Ok-read_log-clause-log : goal.returns-in-Ok-read_log-clause-log
returns-in-Ok-read_log-clause-log g c =
    let kept = c.in-Ok.ensures.same in (
      c.in-Ok.header,
      c.in-Ok.ensures.found,
      λ tells. subst (λ (s : DiskState). HoldsLog c.in-Ok.header s.areas.status.bytes c.in-Ok-read_log.slots.items) kept (c.in-Ok-read_log.ensures.log tells),
      c.in-Ok-read_log.ensures.same ∙ kept,
    )

pub returns-in-Err-read_log-clause-fault : goal.returns-in-Err-read_log-clause-fault
returns-in-Err-read_log-clause-fault g c =
    let kept = c.in-Ok.ensures.same in (
      λ tells. inr (
        c.in-Ok.header,
        c.in-Ok.ensures.found tells,
        subst (λ (s : DiskState). IsLogFault c.in-Ok.header s.areas.status.bytes c.in-Err-read_log.fault) kept (c.in-Err-read_log.ensures.fault tells),
      ),
      subst (λ (s : DiskState). g.D.Disk.state c.read_log.new.disk ≡ refused_by c.in-Err-read_log.fault s) kept c.in-Err-read_log.ensures.same,
    )

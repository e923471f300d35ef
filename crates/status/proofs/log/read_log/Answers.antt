use Rattle.std.proofs.Common.{Ok, Err}
use Rattle.status.proofs.Opening.{only_log}
use Rattle.status.proofs.log.read_log.Goals as goal

pub returns-in-Ok-clause-only : goal.returns-in-Ok-clause-only
returns-in-Ok-clause-only g c = λ told slots log.
    only_log c.one_spelling.ensures c.args.header.now (g.D.Disk.state c.args.disk.now).areas.status.bytes (Ok c.in-Ok.log.slots) slots
    (c.in-Ok.ensures.log told) tt log

pub returns-in-Err-clause-only : goal.returns-in-Err-clause-only
returns-in-Err-clause-only g c = λ told slots log.
    only_log c.one_spelling.ensures c.args.header.now (g.D.Disk.state c.args.disk.now).areas.status.bytes (Err c.in-Err.fault) slots tt
    (c.in-Err.ensures.fault told) log

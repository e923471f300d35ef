use Rattle.disk.proofs.Stops.{LeavesImage-read}
use Rattle.law_any_store.proofs.Reopened.{close-leaves}
use Rattle.run.proofs.opening.close.Goals as goal

pub returns-clause-stands : goal.returns-clause-stands
returns-clause-stands g c = λ m stands told. close-leaves g.D.Disk.tells c.args.store m (g.D.Disk.state c.close.result) stands told c.close.ensures

pub returns-clause-reads : goal.returns-clause-reads
returns-clause-reads g c = λ told. LeavesImage-read (g.D.Disk.state c.close.result).areas (g.met.D.Disk.sound c.close.result told)

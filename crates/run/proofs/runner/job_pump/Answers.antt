use Rattle.law_any_store.proofs.Few.{pumped-few}
use Rattle.run.proofs.Archiving.{pumped-goes}
use Rattle.run.proofs.runner.job_pump.Goals as goal

pub returns-clause-goes : goal.returns-clause-goes
returns-clause-goes g c =
    pumped-goes g.D.Disk.tells c.args.store.now c.job_pump.new.self c.args.places.now c.job_pump.result c.job_pump.ensures.sound c.job_pump.ensures.is

pub returns-clause-made : goal.returns-clause-made
returns-clause-made g c = pumped-few g.D.Disk.tells c.args.store.now c.job_pump.new.self c.job_pump.result c.job_pump.ensures.is

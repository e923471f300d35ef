use Rattle.law_any_store.proofs.Few.{pump-few}
use Rattle.run.proofs.Pumping.{pump-goes}
use Rattle.run.proofs.runner.pump.Goals as goal

pub returns-clause-goes : goal.returns-clause-goes
returns-clause-goes g c = pump-goes g.D.Disk.tells c.args.store.now c.pump.new.self c.args.places.now c.pump.result c.pump.ensures.sound c.pump.ensures.is

pub returns-clause-made : goal.returns-clause-made
returns-clause-made g c = pump-few g.D.Disk.tells c.args.store.now c.pump.new.self c.pump.result c.pump.ensures.is

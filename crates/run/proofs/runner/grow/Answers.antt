use Rattle.law_any_store.proofs.Few.{grow-few}
use Rattle.run.proofs.GrowCalls.{grow-goes}
use Rattle.run.proofs.runner.grow.Goals as goal

pub returns-clause-goes : goal.returns-clause-goes
returns-clause-goes g c = grow-goes g.D.Disk.tells c.args.store.now c.grow_start.new.self c.args.places.now c.grow_start.result c.grow_start.ensures

pub returns-clause-made : goal.returns-clause-made
returns-clause-made g c = grow-few c.args.store.now c.grow_start.new.self c.grow_start.result c.grow_start.ensures

use Rattle.law_any_store.proofs.Few.{floor-few}
use Rattle.run.proofs.FloorCalls.{floor-goes}
use Rattle.run.proofs.runner.raise_floor.Goals as goal

pub returns-clause-goes : goal.returns-clause-goes
returns-clause-goes g c =
    floor-goes g.D.Disk.tells c.args.store.now c.start_floor.new.self c.args.places.now c.args.scope c.args.floor c.start_floor.result c.start_floor.ensures

pub returns-clause-made : goal.returns-clause-made
returns-clause-made g c = floor-few c.args.store.now c.start_floor.new.self c.args.scope c.args.floor c.start_floor.result c.start_floor.ensures

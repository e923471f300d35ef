use Rattle.law_any_store.proofs.Few.{reclaim-few}
use Rattle.run.proofs.Archiving.{reclaim-goes}
use Rattle.run.proofs.runner.reclaim.Goals as goal

pub returns-clause-goes : goal.returns-clause-goes
returns-clause-goes g c = reclaim-goes g.D.Disk.tells c.args.store.now c.reclaim_start.new.self c.args.places.now c.reclaim_start.result c.reclaim_start.ensures

pub returns-clause-made : goal.returns-clause-made
returns-clause-made g c = reclaim-few c.args.store.now c.reclaim_start.new.self c.reclaim_start.result c.reclaim_start.ensures

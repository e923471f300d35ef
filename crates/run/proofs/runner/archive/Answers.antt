use Rattle.law_any_store.proofs.Few.{start-few}
use Rattle.run.proofs.Archiving.{start-goes}
use Rattle.run.proofs.runner.archive.Goals as goal

pub returns-clause-goes : goal.returns-clause-goes
returns-clause-goes g c =
    start-goes g.D.Disk.tells c.args.store.now c.archive_start.new.self c.args.places.now c.args.upto c.archive_start.result c.archive_start.ensures

pub returns-clause-made : goal.returns-clause-made
returns-clause-made g c = start-few c.args.store.now c.archive_start.new.self c.args.upto c.archive_start.result c.archive_start.ensures

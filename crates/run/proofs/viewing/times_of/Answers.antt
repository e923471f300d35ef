use Rattle.law_any_store.proofs.Few.{times-few}
use Rattle.run.proofs.Views.{times-goes}
use Rattle.run.proofs.viewing.times_of.Goals as goal

pub returns-clause-goes : goal.returns-clause-goes
returns-clause-goes g c =
    times-goes g.D.Disk.tells c.args.store.now c.times_of.new.self c.args.places.now c.args.label c.times_of.result c.times_of.ensures

pub returns-clause-made : goal.returns-clause-made
returns-clause-made g c = times-few g.D.Disk.tells c.args.store.now c.times_of.new.self c.args.label c.times_of.result c.times_of.ensures

use Rattle.run.proofs.Linking.{links}
use Rattle.run.proofs.runner.step.Goals as goal

pub returns-clause-links : goal.returns-clause-links
returns-clause-links g c =
    λ start is. links g.D.Disk.tells c.args.store.now c.answer_call.new.store c.args.places.now _ c.args.call c.answer_call.result.0 start is
    c.answer_call.ensures.goes c.answer_call.ensures.made

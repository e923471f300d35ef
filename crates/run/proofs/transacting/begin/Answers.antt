use Rattle.std.proofs.Common.{[], ◌∷◌, ◌++◌, subst, sym}
use Rattle.run.specs.declared.calls.Call.TheVariants as call
use Rattle.run.specs.declared.calls.Answer.{Answer}
use Rattle.run.specs.declared.held.Held.{Held}
use Rattle.run.specs.Runs.{Goes}
use Rattle.run.proofs.Steps.{begin-goes}
use Rattle.run.proofs.transacting.begin.Goals as goal

pub returns-clause-goes : goal.returns-clause-goes
returns-clause-goes g c =
    subst (λ (r : Answer × Held). Goes g.D.Disk.tells c.args.store.now c.args.places.now call.Begin r.0 c.begin.new.self (c.args.places.now ++ r.1
    ∷ [])) (sym c.begun.ensures) (begin-goes g.D.Disk.tells c.args.store.now c.begin.new.self c.args.places.now c.begin.result c.begin.ensures)

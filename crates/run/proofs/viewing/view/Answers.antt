use Rattle.std.proofs.Common.{[], ◌∷◌, ◌++◌, subst, sym}
use Rattle.run.specs.declared.calls.Call.TheVariants as call
use Rattle.run.specs.declared.calls.Answer.{Answer}
use Rattle.run.specs.declared.held.Held.{Held}
use Rattle.run.specs.Runs.{Goes}
use Rattle.run.proofs.Views.{view-goes}
use Rattle.run.proofs.viewing.view.Goals as goal

pub returns : goal.returns
returns g c =
    subst (λ (r : Answer × Held). Goes g.D.Disk.tells c.args.store.now c.args.places.now call.View r.0 c.args.store.now (c.args.places.now ++ r.1
    ∷ [])) (sym c.viewed.ensures) (view-goes g.D.Disk.tells c.args.store.now c.args.places.now c.view.result c.view.ensures)

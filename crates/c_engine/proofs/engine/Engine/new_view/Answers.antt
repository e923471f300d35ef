use Rattle.std.proofs.Common.{refl, inr}
use Rattle.c_engine.specs.declared.places.Held.TheVariants.{View}
use Rattle.c_engine.proofs.Named.{kept_after}
use Rattle.c_engine.proofs.engine.Engine.new_view.Goals as goal

pub returns-in-Ok : goal.returns-in-Ok
returns-in-Ok c =
    let kept =
    kept_after (View c.in-Ok.view) c.keep_free-info.result c.args.self.now.places c.make_free.new.self c.keep_free-info.new.self c.make_free.ensures.same
    c.keep_free-info.ensures in
    inr (inr (refl, (refl, refl, refl), (c.in-Ok.view, c.in-Ok.ensures, kept)))

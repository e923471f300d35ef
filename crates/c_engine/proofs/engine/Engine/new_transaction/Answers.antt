use Rattle.std.proofs.Common.{Ok, refl, inr}
use Rattle.c_engine.specs.declared.places.Held.TheVariants.{Transaction}
use Rattle.c_engine.proofs.Named.{kept_after}
use Rattle.c_engine.proofs.engine.Engine.new_transaction.Goals as goal

pub returns-in-Ok : goal.returns-in-Ok
returns-in-Ok c =
    let kept =
    kept_after (Transaction c.in-Ok.txn) c.keep_free-info.result c.args.self.now.places c.make_free.new.self c.keep_free-info.new.self
    c.make_free.ensures.same c.keep_free-info.ensures in
    inr (refl, refl, (Ok c.in-Ok.txn, c.in-Ok.ensures, (refl, c.snapshot-info.ensures, kept)))

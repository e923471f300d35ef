use Rattle.std.proofs.Common.{◌≡◌, ◌∙◌, sym, false, Some}
use Rattle.any_store.specs.Values.{archive_of}
use Rattle.c_engine.specs.Held.{view_under}
use Rattle.c_engine.specs.Queries.{is_none}
use Rattle.c_engine.proofs.engine.Engine.at.Goals as goal

pub returns : goal.returns
returns c =
    let some : is_none c.args.archive.now c.in-Some.view.now ≡ false = sym c.is_none.ensures ∙ c.if-is_none.false in
    let found : view_under c.args.self.now c.args.view ≡ Some c.in-Some.view.now = sym c.in-Some.ensures in
    rw (found, some) (c.new-lent.result, c.lent_out.new.lent, c.new-lent.ensures, c.lent_out.ensures (archive_of c.args.self.now.store))

use Rattle.std.proofs.Common.{◌≡◌, ◌∙◌, sym, false}
use Rattle.c_engine.specs.Queries.{is_none}
use Rattle.c_engine.proofs.queries.between.Goals as goal

pub returns : goal.returns
returns c = λ v.
    let some : is_none c.args.archive.now c.args.view.now ≡ false = sym c.is_none.ensures ∙ c.if-is_none.false in
    rw some (c.new-lent.result, c.between.new.self, c.new-lent.ensures, c.between.ensures v)

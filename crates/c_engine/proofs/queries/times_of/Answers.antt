use Rattle.std.proofs.Common.{◌≡◌, ◌∙◌, sym, false}
use Rattle.c_engine.specs.Queries.{lacks_rolls}
use Rattle.c_engine.proofs.queries.times_of.Goals as goal

pub returns : goal.returns
returns c =
    let lent : lacks_rolls c.args.archive.now c.args.store.now ≡ false = sym c.lacks_rolls.ensures ∙ c.if-lacks_rolls.false in
    rw lent (c.new-lent.result, c.times_of.new.self, c.new-lent.ensures, c.times_of.ensures)

use Rattle.std.proofs.Common.{sym, ◌∙◌}
use Rattle.chains.proofs.CommitParts.{own-none, own-later, own-here}
use Rattle.chains.proofs.committing.own_write.Goals as goal

pub returns-in_default : goal.returns-in_default
returns-in_default c = own-none c.args.key c.args.writes.now c.in_default.ensures.cases

pub returns-then-is_before : goal.returns-then-is_before
returns-then-is_before c =
    own-later c.args.key c.args.writes.now c.in-Some.first.now c.in-Some.after.now c.in-Some.ensures.cases.0 c.requires.rising (sym c.is_before.ensures
    ∙ c.if-is_before.true)

pub returns : goal.returns
returns c =
    own-here c.args.key c.args.writes.now c.in-Some.first.now c.in-Some.after.now c.in-Some.ensures.cases.0 c.requires.rising c.requires.from
    (sym c.is_before.ensures ∙ c.if-is_before.false)

use Rattle.std.proofs.lemmas.Grind.{common_steps}
use Rattle.std.proofs.Common.{rules, sym, subst, true, arith}
use Rattle.std.specs.Prelude.{IsTrue}
use Rattle.status.proofs.Walks.{walk_more}
use Rattle.status.proofs.log.Walk.take_slot.Goals as goal

pub returns-clause-walk : goal.returns-clause-walk
returns-clause-walk c =
    let slots = c.args.self.now.slots.items in
    let yes : IsTrue true = search rules in
    let may = (c.may_be_followed.ensures c.in-Ok.ensures.found.in_range slots c.requires.walk.ends).0 (subst IsTrue (sym c.if-not-may_be_followed.false) yes) in
    rw c.in_ok-push.ensures.items
    (walk_more c.args.self.now.profile slots c.in-Ok.slot c.args.self.now.end c.with-end.result c.len-number.result _ c.requires.walk
    (search rules) c.in-Ok.ensures.found
    may (c.with-end.ensures slots c.requires.walk.ends))

pub returns-in_default-clause-fault : goal.returns-in_default-clause-fault
returns-in_default-clause-fault c = grind (arith, common_steps)

pub returns-clause-takes : goal.returns-clause-takes
returns-clause-takes c = grind (arith, common_steps)

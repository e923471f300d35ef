use Rattle.std.proofs.lemmas.Grind.{common_steps}
use Rattle.std.proofs.Common.{◌≤◌, is_some, ap, sym, ◌∙◌, arith}
use Rattle.snapshot.specs.OpenTable.{least_free}
use Rattle.snapshot.proofs.Opened.{taken-below, free-is, free-within}
use Rattle.snapshot.proofs.open_table.OpenTable.least_free.Goals as goal

pub loop-place-preserved : goal.loop-place-preserved
loop-place-preserved c =
    taken-below c.args.self.now c.loop-place.place (sym (ap is_some c.snapshot_of.ensures) ∙ sym c.is_some.ensures
    ∙ c.loop-place-test.true) c.loop-place.invariant

pub returns-clause-is : goal.returns-clause-is
returns-clause-is c =
    free-is c.args.self.now c.loop-place.place (sym (ap is_some c.snapshot_of.ensures) ∙ sym c.is_some.ensures ∙ c.loop-place-test.false) c.loop-place.invariant

pub returns-clause-within : goal.returns-clause-within
returns-clause-within c = let least = free-within c.args.self.now in let low : c.loop-place.place ≤ least_free c.args.self.now =
    c.loop-place.invariant in omega arith

pub loop-place-init : goal.loop-place-init
loop-place-init c = grind (arith, common_steps)

use Rattle.std.proofs.Common.{List, [], ◌∷◌, ◌++◌, subst, sym, arith}
use Rattle.std.specs.Prelude.{slice_set}
use Rattle.run.specs.declared.calls.Call.TheVariants as call
use Rattle.run.specs.declared.calls.Answer.{Answer}
use Rattle.run.specs.declared.held.Held.{Held}
use Rattle.run.specs.declared.held.Held.TheVariants as held
use Rattle.run.specs.Runs.{Goes}
use Rattle.run.proofs.Steps.{unknown-goes}
use Rattle.run.proofs.Submitting.{submit-goes}
use Rattle.run.proofs.transacting.submit.Goals as goal

pub returns-in_default-clause-goes : goal.returns-in_default-clause-goes
returns-in_default-clause-goes g c =
    let none = c.in_default.ensures.none in
    unknown-goes g.D.Disk.tells c.args.store.now c.args.places.now c.take_transaction.new.places (call.Submit c.args.transaction c.args.label c.args.now) none.1
    none.0

pub returns-clause-goes : goal.returns-clause-goes
returns-clause-goes g c =
    let some = c.in-Some.ensures.some in
    subst (λ (l : List Held). Goes g.D.Disk.tells c.args.store.now c.args.places.now (call.Submit c.args.transaction c.args.label c.args.now)
    c.submitted.result.0 c.submit.new.self (l ++ c.submitted.result.1 ∷ [])) (sym some.1)
    (subst (λ (r : Answer
    × Held). Goes g.D.Disk.tells c.args.store.now c.args.places.now (call.Submit c.args.transaction c.args.label c.args.now) r.0 c.submit.new.self
    (slice_set c.args.places.now c.args.transaction held.Nothing ++ r.1 ∷ [])) (sym c.submitted.ensures)
    (submit-goes g.D.Disk.tells c.args.store.now c.submit.new.self c.args.places.now c.args.transaction c.in-Some.txn c.args.label c.args.now c.submit.result
    some.0 c.writes-count.ensures.are (omega arith) c.submit.ensures))

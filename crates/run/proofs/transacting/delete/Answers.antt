use Rattle.std.proofs.Common.{◌≡◌, List, [], ◌∷◌, ◌++◌, subst, sym, ap, ◌∙◌}
use Rattle.std.specs.Prelude.{slice_get, slice_set}
use Rattle.run.specs.declared.calls.Call.TheVariants as call
use Rattle.run.specs.declared.calls.Answer.TheVariants as answer
use Rattle.run.specs.declared.held.Held.{Held}
use Rattle.run.specs.declared.held.Held.TheVariants as held
use Rattle.run.specs.Runs.{Goes}
use Rattle.run.proofs.Lists.{set-set, get-set_same}
use Rattle.run.proofs.Steps.{unknown-goes}
use Rattle.run.proofs.Reading.{delete-goes}
use Rattle.run.proofs.transacting.delete.Goals as goal

pub returns-in_default : goal.returns-in_default
returns-in_default g c =
    let none = c.in_default.ensures.none in
    unknown-goes g.D.Disk.tells c.args.store.now c.args.places.now c.take_transaction.new.places (call.Delete c.args.transaction c.args.key) none.1 none.0

pub put_back-requires : goal.put_back-requires
put_back-requires g c =
    let some = c.in-Some.ensures.some in
    ap (λ (l : List Held). slice_get l c.args.transaction) some.1
    ∙ get-set_same c.args.places.now c.args.transaction (held.Transaction c.in-Some.txn) held.Nothing some.0

pub returns : goal.returns
returns g c =
    let some = c.in-Some.ensures.some in
    let new : Held = held.Transaction c.delete-outcome.new.self in
    let now : c.put_back.new.places ≡ slice_set c.args.places.now c.args.transaction new =
    c.put_back.ensures ∙ ap (λ (l : List Held). slice_set l c.args.transaction new) some.1
    ∙ set-set c.args.places.now c.args.transaction held.Nothing new in
    subst (λ (l : List Held). Goes g.D.Disk.tells c.args.store.now c.args.places.now (call.Delete c.args.transaction c.args.key)
    (answer.Delete c.delete-outcome.result) c.args.store.now (l ++ held.Nothing ∷ [])) (sym now)
    (delete-goes g.D.Disk.tells c.args.store.now c.args.places.now c.args.transaction c.args.key c.in-Some.txn c.delete-outcome.new.self c.delete-outcome.result
    some.0 c.delete-outcome.ensures.ok c.delete-outcome.ensures.missing c.delete-outcome.ensures.too_many c.delete-outcome.ensures.bad
    c.delete-outcome.ensures.err)

use Rattle.std.proofs.Common.{List, [], ◌∷◌, ◌++◌, subst, sym}
use Rattle.run.specs.declared.calls.Call.TheVariants as call
use Rattle.run.specs.declared.calls.Answer.TheVariants as answer
use Rattle.run.specs.declared.held.Held.{Held}
use Rattle.run.specs.declared.held.Held.TheVariants as held
use Rattle.run.specs.Runs.{Goes}
use Rattle.run.proofs.Steps.{unknown-goes}
use Rattle.run.proofs.Views.{end-goes}
use Rattle.run.proofs.viewing.end.Goals as goal

pub returns-in_default-clause-goes : goal.returns-in_default-clause-goes
returns-in_default-clause-goes g c =
    let none = c.in_default.ensures.none in
    unknown-goes g.D.Disk.tells c.args.store.now c.args.places.now c.take_view.new.places (call.End c.args.view) none.1 none.0

pub returns-clause-goes : goal.returns-clause-goes
returns-clause-goes g c =
    let some = c.in-Some.ensures.some in
    subst (λ (l : List Held). Goes g.D.Disk.tells c.args.store.now c.args.places.now (call.End c.args.view) answer.End c.end.new.self (l ++ held.Nothing
    ∷ [])) (sym some.1) (end-goes g.D.Disk.tells c.args.store.now c.end.new.self c.args.places.now c.args.view c.in-Some.ended some.0 c.end.ensures)

use Rattle.std.proofs.Common.{List, [], ◌∷◌, ◌++◌, subst, sym}
use Rattle.run.specs.declared.calls.Call.TheVariants as call
use Rattle.run.specs.declared.calls.Answer.TheVariants as answer
use Rattle.run.specs.declared.held.Held.{Held}
use Rattle.run.specs.declared.held.Held.TheVariants as held
use Rattle.run.specs.Runs.{Goes}
use Rattle.run.proofs.Steps.{unknown-goes}
use Rattle.run.proofs.Tickets.{give_up-goes}
use Rattle.run.proofs.redeeming.give_up.Goals as goal

pub returns-in_default : goal.returns-in_default
returns-in_default g c =
    let none = c.in_default.ensures.none in
    unknown-goes g.D.Disk.tells c.args.store.now c.args.places.now c.take_ticket.new.places (call.GiveUp c.args.ticket) none.1 none.0

pub returns : goal.returns
returns g c =
    let some = c.in-Some.ensures.some in
    subst (λ (l : List Held). Goes g.D.Disk.tells c.args.store.now c.args.places.now (call.GiveUp c.args.ticket) answer.GiveUp c.args.store.now (l
    ++ held.Nothing ∷ [])) (sym some.1) (give_up-goes g.D.Disk.tells c.args.store.now c.args.places.now c.args.ticket c.in-Some.given some.0)

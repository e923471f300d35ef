use Rattle.std.proofs.Common.{◌≡◌, List, [], ◌∷◌, ◌++◌, subst, sym, ap, ◌∙◌}
use Rattle.std.specs.Prelude.{slice_get, slice_set}
use Rattle.run.specs.declared.calls.Call.TheVariants as call
use Rattle.run.specs.declared.calls.Answer.{Answer}
use Rattle.run.specs.declared.held.Held.{Held}
use Rattle.run.specs.declared.held.Held.TheVariants as held
use Rattle.run.specs.Runs.{Goes}
use Rattle.run.proofs.Lists.{set-set, get-set_same}
use Rattle.run.proofs.Steps.{unknown-goes}
use Rattle.run.proofs.Tickets.{redeem-goes}
use Rattle.run.proofs.redeeming.redeem.Goals as goal

pub returns-in_default-clause-goes : goal.returns-in_default-clause-goes
returns-in_default-clause-goes g c =
    let none = c.in_default.ensures.none in
    unknown-goes g.D.Disk.tells c.args.store.now c.args.places.now c.take_ticket.new.places (call.Redeem c.args.ticket) none.1 none.0

pub put_back-requires : goal.put_back-requires
put_back-requires g c =
    let some = c.in-Some.ensures.some in
    ap (λ (l : List Held). slice_get l c.args.ticket) some.1 ∙ get-set_same c.args.places.now c.args.ticket (held.Ticket c.in-Some.shown) held.Nothing some.0

pub returns-clause-goes : goal.returns-clause-goes
returns-clause-goes g c =
    let some = c.in-Some.ensures.some in
    let left : Held = c.redeemed-answer.result.1 in
    let now : c.put_back.new.places ≡ slice_set c.args.places.now c.args.ticket left =
    c.put_back.ensures ∙ ap (λ (l : List Held). slice_set l c.args.ticket left) some.1 ∙ set-set c.args.places.now c.args.ticket held.Nothing left in
    subst (λ (l : List Held). Goes g.D.Disk.tells c.args.store.now c.args.places.now (call.Redeem c.args.ticket) c.redeemed-answer.result.0 c.redeem.new.self (l
    ++ held.Nothing ∷ [])) (sym now)
    (subst (λ (r : Answer
    × Held). Goes g.D.Disk.tells c.args.store.now c.args.places.now (call.Redeem c.args.ticket) r.0 c.redeem.new.self
    (slice_set c.args.places.now c.args.ticket r.1 ++ held.Nothing ∷ [])) (sym c.redeemed-answer.ensures)
    (redeem-goes g.D.Disk.tells c.args.store.now c.redeem.new.self c.args.places.now c.args.ticket c.in-Some.shown c.redeem.result some.0 c.redeem.ensures))

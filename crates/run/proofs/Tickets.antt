-- The calls of tickets.
use Rattle.std.proofs.Common.{◌≡◌, inr, ℕ, Bool, List, [], ◌∷◌, ◌++◌, Some, refl, sym, ◌∙◌, ap, subst}
use Rattle.std.specs.Prelude.{slice_get, slice_set}
use Rattle.history.specs.Answers as answers
use Rattle.group.specs.CommitOrder as orders
use Rattle.group.specs.Tickets.{TicketValue}
use Rattle.group.specs.declared.answers.Redeemed.{Redeemed}
use Rattle.group.specs.declared.answers.Redeemed.TheVariants as redeemed
use Rattle.commits.specs.Values.{CommitsValue}
use Rattle.any_store.specs.Values.{StoreValue, commits_of}
use Rattle.any_store.specs.Calls as stores
use Rattle.law_refinement.specs.Laws.{RedeemsAs}
use Rattle.law_any_store.specs.Standing.{Stands}
use Rattle.law_any_store.specs.Leaving.{LeftByRedeem}
use Rattle.law_any_store.proofs.Calls.{redeem-stands}
use Rattle.law_any_store.proofs.Leaving.{redeem-leaves}
use Rattle.law_any_store.proofs.Names.{redeem-names}
use Rattle.law_any_store.proofs.Views as lasting
use Rattle.run.specs.declared.calls.Call.TheVariants as call
use Rattle.run.specs.declared.calls.Answer.TheVariants as answer
use Rattle.run.specs.declared.calls.RedeemOutcome.TheVariants as told
use Rattle.run.specs.declared.held.Held.{Held}
use Rattle.run.specs.declared.held.Held.TheVariants as held
use Rattle.run.specs.Places.{Place, Free, place_at, ShowsAs, Clash, ArePlaces, redeem_answer}
use Rattle.run.specs.Worlds.{World, IsWorld, same, spent}
use Rattle.run.specs.Runs.{Does, Goes, Leads, Redeems, GivesUp, Follows}
use Rattle.run.proofs.Runs.{no-step, Lasts}
use Rattle.run.proofs.Lists.{set-get}
use Rattle.run.proofs.Places.{reads-plain, reads-set, push_nothing, free, move, freed_apart, own_ticket, at_ticket, goes_on-same, Keeps, stays}
use Rattle.run.proofs.Places.{awaited-redeemed}
use Rattle.run.proofs.Steps.{kept-world, spent-world, keeps-same}

redeemed-keeps : (v : CommitsValue) (k : TicketValue) (x : Held) → (Clash (held.Ticket k) x → ⊥)
    → Keeps v (record v { heads = orders.redeemed k.time v.heads }) x
redeemed-keeps v k held.Nothing apart = tt
redeemed-keeps v k (held.Transaction t) apart = (refl, refl)
redeemed-keeps v k (held.Ticket t) apart = (refl, λ waits. awaited-redeemed v.heads t.time k.time (λ same. apart (sym same)) waits)
redeemed-keeps v k (held.View t) apart = refl

redeem-leads : (tells : Bool) (v v' : StoreValue) (xs : List Held) (i : ℕ) (k : TicketValue) (r : Redeemed) → slice_get xs i ≡ Some (held.Ticket k)
    → stores.Redeems v k r v'
    → Leads tells v xs (call.Redeem i) (redeem_answer r).0 v' (slice_set xs i (redeem_answer r).1 ++ held.Nothing ∷ [])
redeem-leads tells v v' xs i k r here redeems w is =
    let h = w.machine.published in
    let shows = is.places.each i (held.Ticket k) here in
    let did = redeem-stands tells v v' k r w.machine is.stands redeems in
    let left = redeem-leaves v v' k r redeems in
    let freed = free (commits_of v) h xs w.places i (held.Ticket k) is.places here in
    let moved =
    move (commits_of v) (record (commits_of v) { heads = orders.redeemed k.time (commits_of v).heads }) h h (slice_set xs i held.Nothing)
    (slice_set w.places i Free) freed
    (λ j x p at shown. stays (commits_of v) (record (commits_of v) { heads = orders.redeemed k.time (commits_of v).heads }) h h x p
    (redeemed-keeps (commits_of v) k x (λ clash. freed_apart (commits_of v) h xs w.places i (held.Ticket k) is.places here j x at clash)) (goes_on-same h)
    shown) in
    by-result r left did.0 shows did.1 freed moved
  where
    lasts : Lasts tells v v'
    lasts = record { goes = lasting.redeem-goes tells v v' k r redeems; names = redeem-names v v' k r redeems }

    by-result : (o : Redeemed) → LeftByRedeem (commits_of v) (stores.last v) k o (commits_of v') → RedeemsAs (answers.redeemed_by w.machine k.time) o
        → ShowsAs (commits_of v) w.machine.published (held.Ticket k) (place_at w.places i) → Stands tells v' w.machine
        → ArePlaces (commits_of v) w.machine.published (slice_set xs i held.Nothing) (slice_set w.places i Free)
        → ArePlaces (record (commits_of v) { heads = orders.redeemed k.time (commits_of v).heads }) w.machine.published (slice_set xs i held.Nothing)
        (slice_set w.places i Free)
        → (next : World) × Does tells w (call.Redeem i) (redeem_answer o).0 next × Follows w.machine next.machine
        × IsWorld tells v' (slice_set xs i (redeem_answer o).1 ++ held.Nothing ∷ []) next
    by-result (redeemed.Done time) left says shows stands freed moved = (
      spent w i,
      at_ticket (λ (p : Place). Redeems w i p (told.Done time) (spent w i)) (commits_of v) w.machine.published k (place_at w.places i) shows (says, refl),
      no-step w.machine,
      spent-world tells v v' xs w w.machine is lasts stands i held.Nothing Free tt
          (push_nothing (commits_of v') w.machine.published (slice_set xs i held.Nothing) (slice_set w.places i Free)
          (subst (λ (t : CommitsValue). ArePlaces t w.machine.published (slice_set xs i held.Nothing) (slice_set w.places i Free)) (sym left.3) moved))
          moved.many,
    )
    by-result (redeemed.Waiting back) left says shows stands freed moved =
        let still : slice_set xs i (held.Ticket back) ≡ xs =
        ap (λ (t : TicketValue). slice_set xs i (held.Ticket t)) left.0 ∙ set-get xs i (held.Ticket k) here in (
          same w,
          at_ticket (λ (p : Place). Redeems w i p told.Waiting (same w)) (commits_of v) w.machine.published k (place_at w.places i) shows (says, refl),
          no-step w.machine,
          subst (λ (l : List Held). IsWorld tells v' (l ++ held.Nothing ∷ []) (same w)) (sym still)
              (kept-world tells v v' xs w w.machine is lasts stands (goes_on-same w.machine.published) (keeps-same (commits_of v) (commits_of v') left.1)),
        )
    by-result redeemed.InDoubt left says shows stands freed moved = (
      spent w i,
      at_ticket (λ (p : Place). Redeems w i p told.InDoubt (spent w i)) (commits_of v) w.machine.published k (place_at w.places i) shows (says, refl),
      no-step w.machine,
      spent-world tells v v' xs w w.machine is lasts stands i held.Nothing Free tt
          (push_nothing (commits_of v') w.machine.published (slice_set xs i held.Nothing) (slice_set w.places i Free)
          (subst (λ (t : CommitsValue). ArePlaces t w.machine.published (slice_set xs i held.Nothing) (slice_set w.places i Free)) (sym left) freed))
          freed.many,
    )
    by-result redeemed.Stranger left says shows stands freed moved =
        let own = own_ticket (commits_of v) w.machine.published k (place_at w.places i) shows in
        absurd (left.1 own.mark own.awaited)

give_up-leads : (tells : Bool) (v : StoreValue) (xs : List Held) (i : ℕ) (k : TicketValue) → slice_get xs i ≡ Some (held.Ticket k)
    → Leads tells v xs (call.GiveUp i) answer.GiveUp v (slice_set xs i held.Nothing ++ held.Nothing ∷ [])
give_up-leads tells v xs i k here w is = (
  spent w i,
  at_ticket (λ (p : Place). GivesUp w i p (spent w i)) (commits_of v) w.machine.published k (place_at w.places i) (is.places.each i (held.Ticket k) here) refl,
  no-step w.machine,
  record {
    stands = is.stands;
    layout = is.layout;
    names = is.names;
    places = push_nothing (commits_of v) w.machine.published (slice_set xs i held.Nothing) (slice_set w.places i Free)
        (free (commits_of v) w.machine.published xs w.places i (held.Ticket k) is.places here);
    views = reads-plain tells v (slice_set xs i held.Nothing) (slice_set w.places i Free) held.Nothing Free
        (free (commits_of v) w.machine.published xs w.places i (held.Ticket k) is.places here).many tt
        (reads-set tells v xs w.places i held.Nothing Free tt is.views);
  },
)

pub redeem-goes : (tells : Bool) (v v' : StoreValue) (xs : List Held) (i : ℕ) (k : TicketValue) (r : Redeemed) → slice_get xs i ≡ Some (held.Ticket k)
    → stores.Redeems v k r v'
    → Goes tells v xs (call.Redeem i) (redeem_answer r).0 v' (slice_set xs i (redeem_answer r).1 ++ held.Nothing ∷ [])
redeem-goes tells v v' xs i k r here redeems = record { makes = inr (k, r, here, redeems, (refl, refl)); leads = redeem-leads tells v v' xs i k r here redeems }

pub give_up-goes : (tells : Bool) (v : StoreValue) (xs : List Held) (i : ℕ) (k : TicketValue) → slice_get xs i ≡ Some (held.Ticket k)
    → Goes tells v xs (call.GiveUp i) answer.GiveUp v (slice_set xs i held.Nothing ++ held.Nothing ∷ [])
give_up-goes tells v xs i k here = record { makes = inr (k, here, refl, (refl, refl)); leads = give_up-leads tells v xs i k here }

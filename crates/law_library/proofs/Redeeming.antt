-- A ticket is redeemed.
use Rattle.std.proofs.Common.{◌≡◌, ℕ, ◌<◌, ◌≤◌, ◌++◌, Bool, true, false, List, [], ◌∷◌, Option, Some, None, MatchBool, MatchOption, refl, sym, ◌∙◌, ap, subst}
use Rattle.std.proofs.Common.{inl, inr, arith, Contains}
use Rattle.std.specs.Prelude.{slice_get, slice_set}
use Rattle.std.proofs.lemmas.Bool.{false≢true, leb-true}
use Rattle.std.proofs.lemmas.List.Elements.{Contains-append_cases}
use Rattle.disk.specs.Areas.{Areas}
use Rattle.disk.specs.Within.{LeavesWithin}
use Rattle.disk.specs.Calls.{DiskState}
use Rattle.history.specs.Histories.{Commit, History, last, last_after, HasRisingTimes}
use Rattle.history.proofs.Runs.{run-shows}
use Rattle.std.proofs.lemmas.List.{append_assoc}
use Rattle.law_image.specs.Values.{Value, IsValue}
use Rattle.group.specs.Tickets.{TicketValue}
use Rattle.group.specs.declared.answers.Redeemed.{Redeemed}
use Rattle.group.specs.declared.answers.Redeemed.TheVariants as redeemed
use Rattle.any_store.specs.Calls as stores
use Rattle.any_store.specs.Values.{commits_of, disk_of}
use Rattle.law_refinement.proofs.Conflicts.{rising-behind}
use Rattle.law_commits.proofs.Order.{published-rises}
use Rattle.law_any_store.proofs.Memory.{memory-stands}
use Rattle.run.specs.declared.calls.Call.TheVariants as call
use Rattle.run.specs.declared.calls.Answer.TheVariants as answer
use Rattle.run.specs.declared.calls.RedeemOutcome.TheVariants as told
use Rattle.run.specs.declared.held.Held.{Held}
use Rattle.run.specs.declared.held.Held.TheVariants as held
use Rattle.run.specs.Moments.{Moment, HasCommitAt, IsAtMoment}
use Rattle.run.specs.Runs.{Does, Follows}
use Rattle.run.specs.Worlds.{World, IsWorld}
use Rattle.run.proofs.Acknowledging.{call-acknowledges}
use Rattle.run.proofs.Commits.{commit-later}
use Rattle.run.proofs.Tickets.{redeem-goes}
use Rattle.c_engine.specs.Engines.{RedeemsEngine, RedeemsTaken, TellsRedeemed, was_published, asks, is_failed}
use Rattle.c_engine.specs.Held.{named, ticket_under, IsTaken, IsKept}
use Rattle.c_engine.specs.declared.code.Code.{Code}
use Rattle.c_engine.specs.declared.code.Code.TheVariants as code
use Rattle.c_engine.specs.declared.engine.Engine.{Engine}
use Rattle.c_engine.specs.declared.engine.EngineState.{EngineState}
use Rattle.c_engine.specs.declared.engine.EngineState.TheVariants.{Settled, Asks, Failed}
use Rattle.c_engine.specs.declared.engine.Published.{Published}
use Rattle.c_engine.specs.declared.places.Held.TheVariants.{Ticket}
use Rattle.c_engine.specs.declared.places.Places.{Places}
use Rattle.law_library.specs.Calls.{Reply, Redeem, with_redeemed}
use Rattle.law_library.specs.Hosts.{Host, Event, Calls, with_event}
use Rattle.law_library.specs.Moments.{HostMoment, Holds, IsAtStage, IsHostMoment, held_as}
use Rattle.law_library.specs.Promise.{HostLink}
use Rattle.law_library.proofs.Carrying.{SameDisk, by-call, stays}
use Rattle.law_library.proofs.Disks.{redeem-disk}
use Rattle.law_library.proofs.Numbers as numbers

-- a commit that is not later than the last of a front is of the front
of-front : (h more : History Value) (c : Commit Value) → HasRisingTimes 0 (h ++ more) → Contains (h ++ more) c → c.time ≤ last h → Contains h c
of-front h more c rising has early = elim (Contains-append_cases h more c has) [
  | inl front ↦ front
  | inr behind ↦ let later : last_after 0 h < c.time = commit-later (last_after 0 h) more c (rising-behind 0 h more rising) behind in absurd
      (omega (arith, later, early))
]

module _ (n : ℕ) (r : Reply) (m : HostMoment) (new : Host) (is : IsHostMoment m) (areas : new.areas ≡ m.host.areas) where
  abbrev pub event : Event
  event = Calls (Redeem n) r

  abbrev pub old : Engine
  old = m.host.engine

  abbrev pub after : Engine
  after = new.engine

  abbrev pub i : ℕ
  i = is.place n

  -- such a code acknowledges nothing
  silent : (c : Code) → with_redeemed c r.info.a m.at.done ≡ m.at.done → r.said ≡ c → with_event event m.at.done ≡ m.at.done
  silent c nothing said = ap (λ (x : Code). with_redeemed x r.info.a m.at.done) said ∙ nothing

  -- ---- what is acknowledged

  -- the moment with one commit more that is acknowledged
  abbrev at-done : ℕ → List Held → World → Moment
  at-done time ys w = record { store = after.store; held = ys; world = w; done = time ∷ m.at.done }

  acknowledges : asks old.state ≡ false → (time : ℕ) (w : World) (place : ℕ → ℕ) (ys : List Held) → r.said ≡ code.Ok → r.info.a ≡ time
      → was_published old.state old.before time ≡ true → Does true m.at.world (call.Redeem i) (answer.Redeem (told.Done time)) w
      → Follows m.at.world.machine w.machine
      → IsWorld true after.store ys w → Holds after.places ys place → SameDisk old after → HostLink event m new
  acknowledges answered time w place ys said named_is was does follows world holds same = by-state old.state refl is.stage was
    where
      has : HasCommitAt w.machine.published time
      has = (call-acknowledges true m.at.world (call.Redeem i) (answer.Redeem (told.Done time)) w m.at.done does follows is.is.published).0

      is-at : IsAtMoment true after.store ys (at-done time ys w)
      is-at = record {
        store = refl;
        places = refl;
        world = world;
        published =
            call-acknowledges true m.at.world (call.Redeem i) (answer.Redeem (told.Done time)) w m.at.done does follows is.is.published;
      }

      is-done : time ∷ m.at.done ≡ with_event event m.at.done
      is-done = sym (ap (λ (x : Code). with_redeemed x r.info.a m.at.done) said ∙ ap (λ (t : ℕ). t ∷ m.at.done) named_is)

      link : (before : Option Moment) → IsAtStage after.state
          (record { host = record { engine = after; areas = m.host.areas }; at = at-done time ys w; before = before }) → HostLink event m new
      link before st = record {
        after = record { host = record { engine = after; areas = m.host.areas }; at = at-done time ys w; before = before };
        host = λ k. record { engine = after; areas = sym areas k };
        done = is-done;
        follows = follows;
        is = record { held = ys; is = is-at; place = place; numbers = holds; stage = st };
      }

      shown-early : (o : Option Published) (h : History Value) → was_published Failed o time ≡ true → MatchOption o ⊥ (λ (p : Published). p.last ≡ last h)
          → time ≤ last h
      shown-early None h early never = absurd never
      shown-early (Some p) h early same = subst (λ (k : ℕ). time ≤ k) same (leb-true time p.last early)

      by-state : (s : EngineState) → old.state ≡ s → IsAtStage s m → was_published s old.before time ≡ true → HostLink event m new
      by-state Settled settled st was = link None (subst (λ (s : EngineState).
          IsAtStage s (record { host = record { engine = after; areas = m.host.areas }; at = at-done time ys w; before = None })) (sym (same.state ∙ settled))
          (record { none = refl; areas = st.areas ∙ sym same.areas; sound = st.sound }))
      by-state (Asks step) asking st was = absurd (false≢true (sym answered ∙ ap asks asking))
      by-state Failed failed st was =
          let b = st.before in
          let shown = run-shows IsValue m.at.world.machine w.machine follows.0 follows.1 in
          let more : History Value = st.was.more ++ shown.0 in
          let whole : w.machine.published ≡ b.world.machine.published ++ more = shown.1 ∙ ap (λ (h : History Value). h ++ shown.0) st.was.goes_on
          ∙ append_assoc b.world.machine.published st.was.more shown.0 in
          let memory = memory-stands true after.store w.machine world.stands in
          let rising : HasRisingTimes 0 (b.world.machine.published ++ more) =
          subst (λ (h : History Value). HasRisingTimes 0 h) whole (published-rises (commits_of after.store) w.machine memory.0 memory.1) in
          let early : time ≤ last b.world.machine.published = shown-early old.before b.world.machine.published was st.was.shown in
          let there : HasCommitAt b.world.machine.published time = (
            has.0,
            of-front b.world.machine.published more has.0 rising (subst (λ (h : History Value). Contains h has.0) whole has.1)
                (subst (λ (t : ℕ). t ≤ last b.world.machine.published) (sym has.2) early),
            has.2,
          ) in
          let before : Moment = record b { done = time ∷ b.done } in
          link (Some before) (subst (λ (s : EngineState). IsAtStage s
          (record { host = record { engine = after; areas = m.host.areas }; at = at-done time ys w; before = Some before })) (sym (same.state ∙ failed))
          (record {
            before = before;
            was = record {
              is_before = refl;
              held = st.was.held;
              was = record { store = st.was.was.store; places = st.was.was.places; world = st.was.was.world; published = (there, st.was.was.published) };
              done = ap (λ (l : List ℕ). time ∷ l) st.was.done;
              more = more;
              goes_on = whole;
              shown = subst (λ (o : Option Published). MatchOption o ⊥ (λ (p : Published). p.last ≡ last b.world.machine.published)) (sym same.before)
                  st.was.shown;
            };
            left = λ image l. subst (λ (a : Areas). LeavesWithin (disk_of b.store).areas a image) (sym same.areas) (st.left image l);
          }))

  -- ---- each answer

  module _ (t : TicketValue) (mid : Places) (named_is : held_as (named old.places n) ≡ Some (held.Ticket t)) (taken : IsTaken n old.places mid) where
    here : slice_get is.held i ≡ Some (held.Ticket t)
    here = is.numbers.same n (held.Ticket t) named_is

    -- the places once it is out, with another value there
    out : (z w : Held) (p : Places) → p ≡ mid → Holds p (slice_set is.held i z ++ w ∷ []) is.place
    out z w p same = numbers.pushed p (slice_set is.held i z) is.place w
        (subst (λ (q : Places). Holds q (slice_set is.held i z) is.place) (sym same)
        (numbers.taken n old.places mid is.held is.place (held.Ticket t) z taken.names named_is is.numbers))

    by-answer : asks old.state ≡ false → (o : Redeemed) → stores.Redeems old.store t o after.store → after.state ≡ old.state → after.before ≡ old.before
        → TellsRedeemed o (record old { places = mid }) r.said r.info after.places → HostLink event m new
    by-answer answered (redeemed.Done time) redeems state before tells = by-published (was_published old.state old.before time) refl tells.1
      where
        same : SameDisk old after
        same = record {
          areas = ap (λ (d : DiskState). d.areas) (redeem-disk old.store after.store t
              (redeemed.Done time) redeems);
          state = state;
          before = before;
        }

        by-published : (b : Bool) → was_published old.state old.before time ≡ b
            → MatchBool b ((r.said ≡ code.Ok) × (r.info.a ≡ time)) (r.said ≡ code.InDoubt) → HostLink event m new
        by-published true was tell =
            let did = (redeem-goes true old.store after.store is.held i t (redeemed.Done time) here redeems).leads m.at.world is.is.world in
            acknowledges answered time did.0 is.place (slice_set is.held i held.Nothing ++ held.Nothing ∷ []) tell.0 tell.1 was did.1 did.2 did.3
            (out held.Nothing held.Nothing after.places tells.0) same
        by-published false was tell =
            by-call event m new is is.held (slice_set is.held i held.Nothing ++ held.Nothing ∷ []) is.is is.place (call.Redeem i)
            (answer.Redeem (told.Done time))
            (redeem-goes true old.store after.store is.held i t (redeemed.Done time) here redeems) (out held.Nothing held.Nothing after.places tells.0) same
            areas (silent code.InDoubt refl tell)
    by-answer answered (redeemed.Waiting back) redeems state before tells = by-failed (is_failed old.state) tells
      where
        same : SameDisk old after
        same = record {
          areas = ap (λ (d : DiskState). d.areas) (redeem-disk old.store after.store t
              (redeemed.Waiting back) redeems);
          state = state;
          before = before;
        }

        by-failed : (b : Bool) → MatchBool b ((r.said ≡ code.InDoubt) × (after.places ≡ mid))
            ((r.said ≡ code.Waiting) × IsKept (Ticket back) r.info.a mid after.places) → HostLink event m new
        by-failed true doubt =
            by-call event m new is is.held (slice_set is.held i (held.Ticket back) ++ held.Nothing ∷ []) is.is is.place (call.Redeem i)
            (answer.Redeem told.Waiting)
            (redeem-goes true old.store after.store is.held i t (redeemed.Waiting back) here redeems)
            (out (held.Ticket back) held.Nothing after.places doubt.1) same areas (silent code.InDoubt refl doubt.0)
        by-failed false kept =
            let place = numbers.placed r.info.a i is.place in
            by-call event m new is is.held (slice_set is.held i (held.Ticket back) ++ held.Nothing ∷ []) is.is place (call.Redeem i)
            (answer.Redeem told.Waiting) (redeem-goes true old.store after.store is.held i t (redeemed.Waiting back) here redeems)
            (numbers.pushed after.places (slice_set is.held i (held.Ticket back)) place held.Nothing
            (numbers.put-back n r.info.a (Ticket back) (held.Ticket t) (held.Ticket back) old.places mid after.places is.held is.place refl named_is
            taken.names kept.1 is.numbers)) same areas (silent code.Waiting refl kept.0)
    by-answer answered redeemed.InDoubt redeems state before tells =
        by-call event m new is is.held (slice_set is.held i held.Nothing ++ held.Nothing ∷ []) is.is is.place (call.Redeem i) (answer.Redeem told.InDoubt)
        (redeem-goes true old.store after.store is.held i t redeemed.InDoubt here redeems) (out held.Nothing held.Nothing after.places tells.0)
        (record {
          areas = ap (λ (d : DiskState). d.areas)
              (redeem-disk old.store after.store t redeemed.InDoubt redeems);
          state = state;
          before = before;
        }) areas (silent code.InDoubt refl tells.1)
    by-answer answered redeemed.Stranger redeems state before tells =
        by-call event m new is is.held (slice_set is.held i held.Nothing ++ held.Nothing ∷ []) is.is is.place (call.Redeem i) (answer.Redeem told.Stranger)
        (redeem-goes true old.store after.store is.held i t redeemed.Stranger here redeems) (out held.Nothing held.Nothing after.places tells.0)
        (record {
          areas = ap (λ (d : DiskState). d.areas)
              (redeem-disk old.store after.store t redeemed.Stranger redeems);
          state = state;
          before = before;
        }) areas (silent code.Stranger refl tells.1)

  pub redeems : RedeemsEngine n old r.said r.info after → HostLink event m new
  redeems done = by-asked (asks old.state) refl done
    where
      by-found : asks old.state ≡ false → (o : Option TicketValue) → ticket_under old n ≡ o
          → MatchOption o ((r.said ≡ code.Unknown) × (after ≡ old))
          (λ t. (mid : Places) × IsTaken n old.places mid × RedeemsTaken t (record old { places = mid }) r.said r.info after) → HostLink event m new
      by-found answered None none refused = stays event m new is refused.1 areas (silent code.Unknown refl refused.0)
      by-found answered (Some t) some does = by-answer t does.0 (numbers.as-ticket (named old.places n) t some) does.1 answered does.2.2.0 does.2.2.1
          does.2.0 does.2.1 does.2.2.2

      by-asked : (b : Bool) → asks old.state ≡ b → MatchBool b ((r.said ≡ code.Pending) × (after ≡ old))
          (MatchOption (ticket_under old n) ((r.said ≡ code.Unknown) × (after ≡ old))
          (λ t. (mid : Places) × IsTaken n old.places mid × RedeemsTaken t (record old { places = mid }) r.said r.info after))
          → HostLink event m new
      by-asked true asking refused = stays event m new is refused.1 areas (silent code.Pending refl refused.0)
      by-asked false answered does = by-found answered (ticket_under old n) refl does

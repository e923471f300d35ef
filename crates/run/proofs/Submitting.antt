-- A submit.
use Rattle.std.proofs.Common.{◌≡◌, inr, ℕ, ◌<◌, ◌^◌, Bool, true, false, List, [], ◌∷◌, ◌++◌, Option, Some, Result, Ok, Err, MatchBool, refl, sym, ap}
use Rattle.std.proofs.Common.{◌∙◌, subst, arith}
use Rattle.std.specs.Prelude.{slice_get, slice_set}
use Rattle.history.specs.Histories.{History}
use Rattle.history.specs.Machine.{Machine}
use Rattle.history.specs.Steps.{Event, Step, Decided}
use Rattle.history.specs.Steps as steps
use Rattle.history.specs.Submissions as submissions
use Rattle.history.specs.Submissions.{commit_made}
use Rattle.law_image.specs.Values.{Value, IsValue}
use Rattle.snapshot.specs.OpenTable.{snapshot_of}
use Rattle.snapshot.specs.Txn.{TxnValue, AreTxnWrites}
use Rattle.group.specs.CommitOrder.{is_awaited, last_time, last_time_after, IsRisingAfter}
use Rattle.group.specs.Tickets.{TicketValue}
use Rattle.group.specs.declared.commit_order.CommitHead.{CommitHead}
use Rattle.group.specs.declared.answers.Submitted.{Submitted}
use Rattle.group.specs.declared.answers.Submitted.TheVariants as submitted
use Rattle.group.specs.declared.answers.SubmitFault.{SubmitFault}
use Rattle.group.specs.declared.answers.SubmitFault.TheVariants as refused
use Rattle.commits.specs.Values.{CommitsValue, is_own, over}
use Rattle.any_store.specs.Values.{StoreValue, commits_of}
use Rattle.any_store.specs.Calls as stores
use Rattle.law_refinement.specs.Laws.{submission_of, event_of}
use Rattle.law_any_store.specs.Standing.{Stands}
use Rattle.law_any_store.specs.Leaving.{JoinsOrder, LeftBySubmit}
use Rattle.law_any_store.proofs.Memory.{memory-stands}
use Rattle.law_any_store.proofs.Calls.{submit-stands}
use Rattle.law_any_store.proofs.Leaving.{submit-leaves}
use Rattle.law_any_store.proofs.Names.{submit-names}
use Rattle.law_any_store.proofs.Tickets.{ticket-time}
use Rattle.law_any_store.proofs.Views as lasting
use Rattle.run.specs.declared.calls.Call.TheVariants as call
use Rattle.run.specs.declared.calls.SubmitOutcome.{SubmitOutcome}
use Rattle.run.specs.declared.calls.SubmitOutcome.TheVariants as outcome
use Rattle.run.specs.declared.held.Held.{Held}
use Rattle.run.specs.declared.held.Held.TheVariants as held
use Rattle.run.specs.Places.{Place, Free, Waits, place_at, IsOwnTicket, ShowsAs, Clash, ArePlaces, submit_answer}
use Rattle.run.specs.Worlds.{World, IsWorld, leaves, put, moved}
use Rattle.run.specs.Runs.{Does, Goes, Leads, Submits, Follows}
use Rattle.run.specs.Runs as told
use Rattle.run.proofs.Runs.{Lasts}
use Rattle.run.proofs.Places.{push, push_nothing, move, own_transaction, own_ticket, at_transaction, goes_on-same}
use Rattle.run.proofs.Places.{run-goes_on, Keeps, stays, awaited-push, awaited-early, awaited-new}
use Rattle.run.proofs.Steps.{own-is, over-places, spent-world}

-- the last is later than those before it
rising-later : (t : ℕ) (heads : List CommitHead) (head : CommitHead) → IsRisingAfter t (heads ++ head ∷ []) → last_time_after t heads < head.time
rising-later t [] head rising = rising.0
rising-later t (x ∷ xs) head rising = rising-later x.time xs head rising.2

queued-keeps : (old new : CommitsValue) (label time : ℕ) (x : Held) → JoinsOrder old label time new → Keeps old new x
queued-keeps old new label time held.Nothing joins = tt
queued-keeps old new label time (held.Transaction u) joins = (joins.mark, ap (λ (o : List (Option ℕ)). snapshot_of u.number o) joins.opened)
queued-keeps old new label time (held.Ticket u) joins = (
  joins.mark,
  λ waits. subst (λ (heads : List CommitHead). is_awaited u.time heads ≡ true) (sym joins.heads)
      (awaited-push old.heads (record { time = time; label = label; awaited = true }) u.time waits),
)
queued-keeps old new label time (held.View u) joins = joins.mark

-- a ticket of a later time is no other's
later-apart : (v : CommitsValue) (h : History Value) (ticket : TicketValue) (b : Held) (p : Place) → IsRisingAfter 0 v.heads
    → last_time v.heads < ticket.time → ShowsAs v h b p → Clash (held.Ticket ticket) b → ⊥
later-apart v h ticket held.Nothing p rising later shows clash = clash
later-apart v h ticket (held.Transaction u) p rising later shows clash = clash
later-apart v h ticket (held.Ticket u) p rising later shows clash =
    let early = awaited-early 0 u.time v.heads rising (own_ticket v h u p shows).awaited in
    absurd (omega (arith, early, later, clash))
later-apart v h ticket (held.View u) p rising later shows clash = clash

submit-leads : (tells : Bool) (v v' : StoreValue) (xs : List Held) (i : ℕ) (t : TxnValue) (label now : ℕ) (r : Result Submitted SubmitFault)
    → slice_get xs i ≡ Some (held.Transaction t) → AreTxnWrites t.state t.snapshot t.writes → label < 2 ^ 64
    → stores.Submits v t label now r v'
    → Leads tells v xs (call.Submit i label now) (submit_answer r).0 v' (slice_set xs i held.Nothing ++ (submit_answer r).1 ∷ [])
submit-leads tells v v' xs i t label now r here are range submits w is =
    let m = w.machine in
    let c : CommitsValue = commits_of v in
    let shows = is.places.each i (held.Transaction t) here in
    let own = own_transaction c m.published t (place_at w.places i) shows in
    let mine = own-is v m tells t is.stands are own in
    let did = by-own (is_own c t) mine (submit-stands tells v v' t label now r m is.stands are range submits) in
    let left = by-over (is_own c t) mine (submit-leaves v v' t label now r submits) in
    let machine = (memory-stands tells v' did.0 did.2).1 in
    let goes = run-goes_on m did.0 (event_of m (submission_of t label now) r ∷ []) machine (did.0, did.1, refl) in
    let places = over-places c m.published did.0.published xs w.places i t here goes is.places in
    by-result r left did.0 did.1 did.2 shows places
  where
    by-own : (b : Bool) → b ≡ true
        → MatchBool b ((after : Machine Value) × Step IsValue w.machine (event_of w.machine (submission_of t label now) r) after
        × Stands tells v' after) (Stands tells v' w.machine)
        → (after : Machine Value) × Step IsValue w.machine (event_of w.machine (submission_of t label now) r) after × Stands tells v' after
    by-own true mine did = did
    by-own false mine did = absurd cc

    by-over : (b : Bool) → b ≡ true
        → MatchBool b (LeftBySubmit (over (commits_of v) t.number) t label r (commits_of v'))
        ((r ≡ Err refused.Stranger) × (commits_of v' ≡ commits_of v)) → LeftBySubmit (over (commits_of v) t.number) t label r (commits_of v')
    by-over true mine did = did
    by-over false mine did = absurd cc

    lasts : Lasts tells v v'
    lasts = record { goes = lasting.submit-goes tells v v' t label now r submits; names = submit-names v v' t label now r submits }

    -- it is over, and leaves nothing
    nothing : (said : Result SubmitOutcome SubmitFault) (event : Event Value) (after : Machine Value) → Step IsValue w.machine event after
        → Stands tells v' after → ShowsAs (commits_of v) w.machine.published (held.Transaction t) (place_at w.places i)
        → ArePlaces (over (commits_of v) t.number) after.published (slice_set xs i held.Nothing) (slice_set w.places i Free)
        → commits_of v' ≡ over (commits_of v) t.number → told.Submitted w.machine (submission_of t label now) said event Free
        → (next : World) × Submits w i label now (place_at w.places i) said next × Follows w.machine next.machine
        × IsWorld tells v' (slice_set xs i held.Nothing ++ held.Nothing ∷ []) next
    nothing said event after step stands shows places same says = (
      leaves (put (moved w after) i Free) Free,
      at_transaction (λ (p : Place). Submits w i label now p said (leaves (put (moved w after) i Free) Free)) (commits_of v) w.machine.published t
          (place_at w.places i) shows (event, after, Free, says, step, refl),
      (event ∷ [], (after, step, refl)),
      spent-world tells v v' xs w after is lasts stands i held.Nothing Free tt
          (push_nothing (commits_of v') after.published (slice_set xs i held.Nothing) (slice_set w.places i Free)
          (subst (λ (u : CommitsValue). ArePlaces u after.published (slice_set xs i held.Nothing) (slice_set w.places i Free)) (sym same) places))
          places.many,
    )

    by-result : (o : Result Submitted SubmitFault) → LeftBySubmit (over (commits_of v) t.number) t label o (commits_of v') → (after : Machine Value)
        → Step IsValue w.machine (event_of w.machine (submission_of t label now) o) after → Stands tells v' after
        → ShowsAs (commits_of v) w.machine.published (held.Transaction t) (place_at w.places i)
        → ArePlaces (over (commits_of v) t.number) after.published (slice_set xs i held.Nothing) (slice_set w.places i Free)
        → (next : World) × Does tells w (call.Submit i label now) (submit_answer o).0 next × Follows w.machine next.machine
        × IsWorld tells v' (slice_set xs i held.Nothing ++ (submit_answer o).1 ∷ []) next
    by-result (Ok (submitted.ReadOnly snapshot)) left after step stands shows places =
        nothing (Ok (outcome.ReadOnly snapshot)) (Decided (submission_of t label now) submissions.Reads) after step stands shows places left.1 (
          left.0,
          refl,
          refl,
        )
    by-result (Ok (submitted.Queued ticket)) left after step stands shows places =
        let m = w.machine in
        let s = submission_of t label now in
        let old = over (commits_of v) t.number in
        let new = commits_of v' in
        let joins = left.1 in
        let before = (memory-stands tells v m is.stands).0 in
        let memory = memory-stands tells v' after stands in
        let head : CommitHead = record { time = ticket.time; label = label; awaited = true } in
        let rising_new : IsRisingAfter 0 (old.heads ++ head ∷ []) = subst (λ (heads : List CommitHead). IsRisingAfter 0 heads) joins.heads memory.0.rising in
        let later = rising-later 0 old.heads head rising_new in
        let time = ticket-time old new m after label ticket s joins memory.0 memory.1 step in
        let kept =
        move old new after.published after.published (slice_set xs i held.Nothing) (slice_set w.places i Free) places
        (λ j x p at shown. stays old new after.published after.published x p (queued-keeps old new label ticket.time x joins)
        (goes_on-same after.published) shown) in
        let own : IsOwnTicket new ticket = record {
          mark = left.0 ∙ sym joins.mark;
          awaited = subst (λ (heads : List CommitHead). is_awaited ticket.time heads ≡ true) (sym joins.heads)
              (awaited-new 0 old.heads ticket.time label before.rising later);
        } in
        let pushed =
        push new after.published (slice_set xs i held.Nothing) (slice_set w.places i Free) (held.Ticket ticket) (Waits (commit_made m s).time) kept (
          own,
          time,
        )
        (λ j b at clash. later-apart old after.published ticket b (place_at (slice_set w.places i Free) j) before.rising later (places.each j b at)
        clash) in (
          leaves (put (moved w after) i Free) (Waits (commit_made m s).time),
          at_transaction (λ (p : Place). Submits w i label now p (Ok outcome.Queued) (leaves (put (moved w after) i Free) (Waits (commit_made m s).time)))
              (commits_of v) w.machine.published t (place_at w.places i) shows
              (Decided s (submissions.Queues (commit_made m s)), after, Waits (commit_made m s).time, (refl, refl), step, refl),
          (Decided s (submissions.Queues (commit_made m s)) ∷ [], (after, step, refl)),
          spent-world tells v v' xs w after is lasts stands i (held.Ticket ticket) (Waits (commit_made m s).time) tt pushed places.many,
        )
    by-result (Err (refused.Conflict key)) left after step stands shows places =
        nothing (Err (refused.Conflict key)) (Decided (submission_of t label now) (submissions.Conflicts key)) after step stands shows places left (refl, refl)
    by-result (Err refused.HeapFull) left after step stands shows places =
        nothing (Err refused.HeapFull) (steps.Refused (submission_of t label now) steps.NoRoom) after step stands shows places left (refl, refl)
    by-result (Err refused.StatusFull) left after step stands shows places =
        nothing (Err refused.StatusFull) (steps.Refused (submission_of t label now) steps.NoRoom) after step stands shows places left (refl, refl)
    by-result (Err refused.ClockEnd) left after step stands shows places =
        nothing (Err refused.ClockEnd) (Decided (submission_of t label now) submissions.Ends) after step stands shows places left (refl, refl)
    by-result (Err refused.NoMemory) left after step stands shows places =
        nothing (Err refused.NoMemory) (steps.Refused (submission_of t label now) steps.NoMemory) after step stands shows places left (refl, refl)
    by-result (Err refused.Failed) left after step stands shows places =
        nothing (Err refused.Failed) (steps.Refused (submission_of t label now) steps.Failed) after step stands shows places left (refl, refl)
    by-result (Err refused.Stranger) left after step stands shows places = absurd left

pub submit-goes : (tells : Bool) (v v' : StoreValue) (xs : List Held) (i : ℕ) (t : TxnValue) (label now : ℕ) (r : Result Submitted SubmitFault)
    → slice_get xs i ≡ Some (held.Transaction t) → AreTxnWrites t.state t.snapshot t.writes → label < 2 ^ 64
    → stores.Submits v t label now r v'
    → Goes tells v xs (call.Submit i label now) (submit_answer r).0 v' (slice_set xs i held.Nothing ++ (submit_answer r).1 ∷ [])
submit-goes tells v v' xs i t label now r here are range submits =
    record { makes = inr (t, r, here, submits, (refl, refl)); leads = submit-leads tells v v' xs i t label now r here are range submits }

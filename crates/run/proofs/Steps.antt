-- Each call leads from a world to the next.
use Rattle.std.proofs.Common.{◌≡◌, inl, inr, ℕ, ◌≤◌, ◌==◌, ◌||◌, Bool, true, false, cond, List, [], ◌∷◌, ◌++◌, length, Some, None, Option, Result, Ok, Err}
use Rattle.std.proofs.Common.{MatchBool, refl, sym, ◌∙◌, ap, subst, arith}
use Rattle.std.specs.Prelude.{slice_get, slice_set, is_some}
use Rattle.std.specs.List.{AllByRecursion, list_all}
use Rattle.std.proofs.lemmas.Bool.Decides.{nat_tests}
use Rattle.history.specs.declared.key.Key.{Key}
use Rattle.history.specs.declared.key.KeyWrite.{KeyWrite}
use Rattle.history.specs.Histories.{History, last}
use Rattle.history.specs.Machine.{Machine}
use Rattle.history.specs.Steps.{Step, Began, Aborted, begun}
use Rattle.law_image.specs.Values.{Value, IsValue}
use Rattle.chains.specs.KeyWrites.{KeyWrites}
use Rattle.snapshot.specs.OpenTable.{snapshot_of, with_opened}
use Rattle.snapshot.specs.Txn.{TxnValue, at_snapshot, AreTxnWrites, EndsASeenValue}
use Rattle.group.specs.declared.answers.BeginFault.{BeginFault}
use Rattle.group.specs.declared.answers.BeginFault.TheVariants as begin
use Rattle.group.specs.Values.{is_snapshot, is_of_value}
use Rattle.commits.specs.Values.{CommitsValue, is_own, over}
use Rattle.any_store.specs.Values.{StoreValue, commits_of}
use Rattle.any_store.specs.Calls as stores
use Rattle.law_any_store.specs.Standing.{Stands}
use Rattle.law_any_store.specs.Calls.{BeginsOn}
use Rattle.law_any_store.specs.Leaving.{LeftByBegin}
use Rattle.law_any_store.proofs.Memory.{memory-stands, begun-sees, open-sees}
use Rattle.law_any_store.proofs.Calls.{begin-stands, abort-stands}
use Rattle.law_any_store.proofs.Leaving.{begin-leaves, abort-leaves}
use Rattle.law_any_store.proofs.Names.{begin-names, abort-names}
use Rattle.law_any_store.proofs.Views as lasting
use Rattle.run.specs.declared.calls.Call.{Call}
use Rattle.run.specs.declared.calls.Call.TheVariants as call
use Rattle.run.specs.declared.calls.Answer.TheVariants as answer
use Rattle.run.specs.declared.held.Held.{Held}
use Rattle.run.specs.declared.held.Held.TheVariants as held
use Rattle.run.specs.Places.{Place, Free, Running, place_at, IsOwnTransaction, ShowsAs, Clash, ArePlaces, HasNoView, begin_answer}
use Rattle.run.specs.Worlds.{World, IsWorld, leaves, put, moved, same, spent}
use Rattle.run.specs.Makes.{LacksNamed}
use Rattle.run.specs.Runs.{Does, Goes, Leads, Follows, NamesNone, Aborts}
use Rattle.run.proofs.Runs.{no-step, Lasts, next-world}
use Rattle.run.proofs.Places.{reads-move, reads-plain, reads-set, push, push_nothing, free, move, freed_apart, own_transaction, at_transaction, no_transaction}
use Rattle.run.proofs.Places.{no_ticket, no_view, GoesOn, goes_on-same, run-goes_on, Keeps, stays, closed_other, opened_other, opened_here}

-- ---- calls that change nothing

pub same-world : (tells : Bool) (v : StoreValue) (xs : List Held) (w : World) → IsWorld tells v xs w → IsWorld tells v (xs ++ held.Nothing ∷ []) (same w)
same-world tells v xs w is =
    record {
      stands = is.stands;
      layout = is.layout;
      names = is.names;
      places = push_nothing (commits_of v) w.machine.published xs w.places is.places;
      views = reads-plain tells v xs w.places held.Nothing Free is.places.many tt is.views;
    }

-- ---- worlds after a call

module _ (tells : Bool) (v v' : StoreValue) (xs : List Held) (w : World) (m : Machine Value) (is : IsWorld tells v xs w) (lasts : Lasts tells v v')
    (stands : Stands tells v' m) where
  -- what is held is as it was
  pub kept-world : GoesOn w.machine.published m.published → ((x : Held) → Keeps (commits_of v) (commits_of v') x)
      → IsWorld tells v' (xs ++ held.Nothing ∷ []) (same (moved w m))
  kept-world goes keeps =
      next-world tells v v' xs (xs ++ held.Nothing ∷ []) w m (w.places ++ Free ∷ []) is lasts stands
      (push_nothing (commits_of v') m.published xs w.places
      (move (commits_of v) (commits_of v') w.machine.published m.published xs w.places is.places
      (λ i x p at shows. stays (commits_of v) (commits_of v') w.machine.published m.published x p (keeps x) goes shows)))
      (reads-plain tells v' xs w.places held.Nothing Free is.places.many tt (reads-move tells v v' xs w.places lasts.goes is.views))

  -- what a place held is spent, and the call's own holds this
  pub spent-world : (i : ℕ) (x : Held) (p : Place) → HasNoView (Some x)
      → ArePlaces (commits_of v') m.published (slice_set xs i held.Nothing ++ x ∷ []) (slice_set w.places i Free ++ p ∷ [])
      → length (slice_set xs i held.Nothing) ≡ length (slice_set w.places i Free)
      → IsWorld tells v' (slice_set xs i held.Nothing ++ x ∷ []) (leaves (put (moved w m) i Free) p)
  spent-world i x p plain places many =
      next-world tells v v' xs (slice_set xs i held.Nothing ++ x ∷ []) w m (slice_set w.places i Free ++ p ∷ []) is lasts stands places
      (reads-plain tells v' (slice_set xs i held.Nothing) (slice_set w.places i Free) x p many plain
      (reads-set tells v' xs w.places i held.Nothing Free tt (reads-move tells v v' xs w.places lasts.goes is.views)))

-- what is in memory is as it was
pub keeps-same : (old new : CommitsValue) → new ≡ old → (x : Held) → Keeps old new x
keeps-same old new is x = subst (λ (c : CommitsValue). Keeps old c x) (sym is) (all x)
  where
    all : (x : Held) → Keeps old old x
    all held.Nothing = tt
    all (held.Transaction t) = (refl, refl)
    all (held.Ticket t) = (refl, λ waits. waits)
    all (held.View t) = refl

-- ---- a call that names nothing

-- a place that the callers hold no such value in stands for none
names-none : (tells : Bool) (v : StoreValue) (xs : List Held) (c : Call) → LacksNamed c xs → (w : World) → IsWorld tells v xs w → NamesNone w c
names-none tells v xs call.Begin lacks w is = lacks
names-none tells v xs (call.Put i key fields) lacks w is = no_transaction (commits_of v) w.machine.published xs w.places i is.places lacks
names-none tells v xs (call.Delete i key) lacks w is = no_transaction (commits_of v) w.machine.published xs w.places i is.places lacks
names-none tells v xs (call.Get i key) lacks w is = no_transaction (commits_of v) w.machine.published xs w.places i is.places lacks
names-none tells v xs (call.Scan i relation) lacks w is = no_transaction (commits_of v) w.machine.published xs w.places i is.places lacks
names-none tells v xs (call.Submit i label now) lacks w is = no_transaction (commits_of v) w.machine.published xs w.places i is.places lacks
names-none tells v xs (call.Abort i) lacks w is = no_transaction (commits_of v) w.machine.published xs w.places i is.places lacks
names-none tells v xs call.Pump lacks w is = lacks
names-none tells v xs (call.Redeem i) lacks w is = no_ticket (commits_of v) w.machine.published xs w.places i is.places lacks
names-none tells v xs (call.GiveUp i) lacks w is = no_ticket (commits_of v) w.machine.published xs w.places i is.places lacks
names-none tells v xs call.View lacks w is = lacks
names-none tells v xs (call.At i key time) lacks w is = no_view (commits_of v) w.machine.published xs w.places i is.places lacks
names-none tells v xs (call.ScanAt i relation time) lacks w is = no_view (commits_of v) w.machine.published xs w.places i is.places lacks
names-none tells v xs (call.Between i key a b) lacks w is = no_view (commits_of v) w.machine.published xs w.places i is.places lacks
names-none tells v xs (call.ScanBetween i relation a b) lacks w is = no_view (commits_of v) w.machine.published xs w.places i is.places lacks
names-none tells v xs (call.Recent i key time) lacks w is = no_view (commits_of v) w.machine.published xs w.places i is.places lacks
names-none tells v xs (call.End i) lacks w is = no_view (commits_of v) w.machine.published xs w.places i is.places lacks
names-none tells v xs (call.TimesOf label) lacks w is = lacks
names-none tells v xs (call.Archive upto) lacks w is = lacks
names-none tells v xs call.Reclaim lacks w is = lacks
names-none tells v xs (call.Floor scope floor) lacks w is = lacks
names-none tells v xs call.Grow lacks w is = lacks
names-none tells v xs call.JobPump lacks w is = lacks

pub unknown-goes : (tells : Bool) (v : StoreValue) (xs new : List Held) (c : Call) → new ≡ xs → LacksNamed c xs
    → Goes tells v xs c answer.Unknown v (new ++ held.Nothing ∷ [])
unknown-goes tells v xs new c is lacks = record {
  makes = inl (lacks, refl, (refl, ap (λ (l : List Held). l ++ held.Nothing ∷ []) is));
  leads = λ w world. (
    same w,
    (names-none tells v xs c lacks w world, refl),
    no-step w.machine,
    subst (λ (l : List Held). IsWorld tells v (l ++ held.Nothing ∷ []) (same w)) (sym is) (same-world tells v xs w world),
  );
}

-- ---- begin

begun-keeps : (v : CommitsValue) (h : History Value) (number snapshot : ℕ) (x : Held) (p : Place) → snapshot_of number v.opened ≡ None
    → number ≤ length v.opened → ShowsAs v h x p → Keeps v (record v { opened = with_opened v.opened number snapshot }) x
begun-keeps v h number snapshot held.Nothing p fresh within shows = tt
begun-keeps v h number snapshot (held.Transaction t) p fresh within shows =
    let own = own_transaction v h t p shows in (
      refl,
      opened_other v.opened t.number number snapshot within (λ same. let here : snapshot_of number v.opened
          ≡ Some t.snapshot = ap (λ (n : ℕ). snapshot_of n v.opened) (sym same) ∙ own.number in absurd (none-some (sym fresh ∙ here))),
    )
  where
    none-some : {n : ℕ} → Path (Option ℕ) None (Some n) → ⊥
    none-some is = cc
begun-keeps v h number snapshot (held.Ticket t) p fresh within shows = (refl, λ waits. waits)
begun-keeps v h number snapshot (held.View w) p fresh within shows = refl

fresh-apart : (v : CommitsValue) (h : History Value) (txn : TxnValue) (b : Held) (p : Place) → snapshot_of txn.number v.opened ≡ None → ShowsAs v h b p
    → Clash (held.Transaction txn) b → ⊥
fresh-apart v h txn held.Nothing p fresh shows clash = clash
fresh-apart v h txn (held.Transaction u) p fresh shows clash =
    let found : snapshot_of txn.number v.opened ≡ Some u.snapshot = ap (λ (n : ℕ). snapshot_of n v.opened) clash ∙ (own_transaction v h u p shows).number in
    let is : Path (Option ℕ) None (Some u.snapshot) = sym fresh ∙ found in cc
fresh-apart v h txn (held.Ticket u) p fresh shows clash = clash
fresh-apart v h txn (held.View u) p fresh shows clash = clash

begin-leads : (tells : Bool) (v v' : StoreValue) (xs : List Held) (r : Result TxnValue BeginFault) → stores.Begins v r v'
    → Leads tells v xs call.Begin (begin_answer r).0 v' (xs ++ (begin_answer r).1 ∷ [])
begin-leads tells v v' xs r begins w is =
    by-result r (begin-stands tells v v' r w.machine is.stands begins) (begin-leaves v v' r begins)
  where
    m : Machine Value
    m = w.machine

    h : History Value
    h = m.published

    old : CommitsValue
    old = commits_of v

    new : CommitsValue
    new = commits_of v'

    lasts : Lasts tells v v'
    lasts = record { goes = lasting.begin-goes tells v v' r begins; names = begin-names v v' r begins }

    by-result : (o : Result TxnValue BeginFault) → BeginsOn tells m o v' → LeftByBegin old o new
        → (next : World) × Does tells w call.Begin (begin_answer o).0 next × Follows m next.machine
        × IsWorld tells v' (xs ++ (begin_answer o).1 ∷ []) next
    by-result (Ok txn) did b =
        let memory = memory-stands tells v m is.stands in
        let after = record old { opened = with_opened old.opened txn.number txn.snapshot } in
        let snapshot : txn.snapshot ≡ last h = did.0.1 in
        let own : IsOwnTransaction after h txn = record {
          mark = b.mark;
          number = opened_here old.opened txn.number txn.snapshot b.within;
          published = omega (arith, snapshot);
          reads = λ key. ap (λ (s : List KeyWrites). at_snapshot s txn.snapshot key) b.state
              ∙ begun-sees old m memory.0 memory.1 txn.snapshot snapshot key;
        } in
        let kept =
        move old after h h xs w.places is.places
        (λ i x p at shows. stays old after h h x p (begun-keeps old h txn.number txn.snapshot x p b.fresh b.within shows) (goes_on-same h) shows) in
        let places : ArePlaces after h (xs ++ held.Transaction txn ∷ []) (w.places ++ Running (last h) [] ∷ []) =
        push after h xs w.places (held.Transaction txn) (Running (last h) []) kept (
          own,
          snapshot,
          b.writes,
        ) (λ j x at clash. fresh-apart old h txn x (place_at w.places j) b.fresh (is.places.each j x at) clash) in (
          leaves (moved w (begun m)) (Running (last h) []),
          ((did.0.0, refl, refl), refl),
          (Began (last h) ∷ [], (begun m, (did.0.0, refl, refl), refl)),
          next-world tells v v' xs (xs ++ held.Transaction txn ∷ []) w (begun m) (w.places ++ Running (last h) [] ∷ []) is lasts did.1
              (subst (λ (t : CommitsValue). ArePlaces t h (xs ++ held.Transaction txn ∷ []) (w.places ++ Running (last h) [] ∷ [])) (sym b.new_is) places)
              (reads-plain tells v' xs w.places (held.Transaction txn) (Running (last h) []) is.places.many tt
              (reads-move tells v v' xs w.places lasts.goes is.views)),
        )
    by-result (Err begin.NoMemory) did same_memory =
        (same w, (did.0, refl), no-step m, kept-world tells v v' xs w m is lasts did.1 (goes_on-same h) (keeps-same old new same_memory))
    by-result (Err begin.Failed) did same_memory =
        (same w, (did.0, refl), no-step m, kept-world tells v v' xs w m is lasts did.1 (goes_on-same h) (keeps-same old new same_memory))

pub begin-goes : (tells : Bool) (v v' : StoreValue) (xs : List Held) (r : Result TxnValue BeginFault) → stores.Begins v r v'
    → Goes tells v xs call.Begin (begin_answer r).0 v' (xs ++ (begin_answer r).1 ∷ [])
begin-goes tells v v' xs r begins = record { makes = inr (r, begins, (refl, refl)); leads = begin-leads tells v v' xs r begins }

-- ---- the store's own transaction

both : (a b : Bool) → a ≡ true → b ≡ true → cond a b false ≡ true
both true true first second = refl
both true false first second = absurd cc
both false b first second = absurd cc

-- what a transaction's own writes end has a value at its snapshot
writes-own : (v : CommitsValue) (h : History Value) (state_seen : List KeyWrites) (snapshot : ℕ) (writes : List (KeyWrite Value))
    → ((key : Key) → at_snapshot state_seen snapshot key ≡ at_snapshot v.versions snapshot key)
    → AllByRecursion (EndsASeenValue state_seen snapshot) writes → list_all (is_of_value v.versions snapshot) writes ≡ true
writes-own v h state_seen snapshot [] reads gone = refl
writes-own v h state_seen snapshot (w ∷ ws) reads gone =
    let first : is_of_value v.versions snapshot w ≡ true = by-write w.write refl in
    let rest = writes-own v h state_seen snapshot ws reads gone.1 in
    rw (first, rest) refl
  where
    by-write : (o : Option Value) → w.write ≡ o → (is_some o || is_some (at_snapshot v.versions snapshot w.key)) ≡ true
    by-write (Some value) is = refl
    by-write None is = subst (λ (o : Option Value). is_some o ≡ true) (reads w.key) (gone.0 is)

pub own-is : (v : StoreValue) (m : Machine Value) (tells : Bool) (t : TxnValue) → Stands tells v m → AreTxnWrites t.state t.snapshot t.writes
    → IsOwnTransaction (commits_of v) m.published t → is_own (commits_of v) t ≡ true
own-is v m tells t stands are own =
    let c : CommitsValue = commits_of v in
    let memory = memory-stands tells v m stands in
    let mark : (t.mark == c.mark) ≡ true = let is = own.mark in grind (arith, nat_tests) in
    let open_ : is_snapshot (snapshot_of t.number c.opened) t.snapshot ≡ true =
    ap (λ (o : Option ℕ). is_snapshot o t.snapshot) own.number ∙ grind (arith, nat_tests) in
    let reads : (key : Key) → at_snapshot t.state t.snapshot key ≡ at_snapshot c.versions t.snapshot key =
    λ key. own.reads key ∙ sym (open-sees c m memory.0 memory.1 t.number t.snapshot own.number key) in
    let writes = writes-own c m.published t.state t.snapshot t.writes reads are.gone in
    both (t.mark == c.mark) (cond (is_snapshot (snapshot_of t.number c.opened) t.snapshot) (list_all (is_of_value c.versions t.snapshot) t.writes) false) mark
    (both (is_snapshot (snapshot_of t.number c.opened) t.snapshot) (list_all (is_of_value c.versions t.snapshot) t.writes) open_ writes)

-- where a transaction is over, any other is as it was
pub over-keeps : (v : CommitsValue) (t : TxnValue) (x : Held) → (Clash (held.Transaction t) x → ⊥) → Keeps v (over v t.number) x
over-keeps v t held.Nothing apart = tt
over-keeps v t (held.Transaction u) apart = (refl, closed_other v.opened u.number t.number (λ same. apart (sym same)))
over-keeps v t (held.Ticket u) apart = (refl, λ waits. waits)
over-keeps v t (held.View u) apart = refl

-- the places without the transaction that is over, where the machine goes on
pub over-places : (v : CommitsValue) (h h' : History Value) (xs : List Held) (ps : List Place) (i : ℕ) (t : TxnValue) → slice_get xs i
    ≡ Some (held.Transaction t) → GoesOn h h' → ArePlaces v h xs ps
    → ArePlaces (over v t.number) h' (slice_set xs i held.Nothing) (slice_set ps i Free)
over-places v h h' xs ps i t here goes are =
    move v (over v t.number) h h' (slice_set xs i held.Nothing) (slice_set ps i Free) (free v h xs ps i (held.Transaction t) are here)
    (λ j x p at shown. stays v (over v t.number) h h' x p (over-keeps v t x (λ clash. freed_apart v h xs ps i (held.Transaction t) are here j x at clash)) goes
    shown)

-- ---- abort

abort-leads : (tells : Bool) (v v' : StoreValue) (xs : List Held) (i : ℕ) (t : TxnValue) → slice_get xs i ≡ Some (held.Transaction t)
    → AreTxnWrites t.state t.snapshot t.writes → stores.Aborts v t v'
    → Leads tells v xs (call.Abort i) answer.Abort v' (slice_set xs i held.Nothing ++ held.Nothing ∷ [])
abort-leads tells v v' xs i t here are aborts w is =
    let m = w.machine in
    let c : CommitsValue = commits_of v in
    let shows = is.places.each i (held.Transaction t) here in
    let own = own_transaction c m.published t (place_at w.places i) shows in
    let mine = own-is v m tells t is.stands are own in
    let did = by-own (is_own c t) mine (abort-stands tells v v' t m is.stands aborts) in
    let after = did.0 in
    let over_is : commits_of v' ≡ over c t.number = by-over (is_own c t) mine (abort-leaves v v' t aborts) in
    let machine = (memory-stands tells v' after did.2).1 in
    let goes = run-goes_on m after (Aborted t.snapshot ∷ []) machine (after, did.1, refl) in
    let places = over-places c m.published after.published xs w.places i t here goes is.places in
    let lasts : Lasts tells v v' = record { goes = lasting.abort-goes tells v v' t aborts; names = abort-names v v' t aborts } in (
      spent (moved w after) i,
      at_transaction (λ (p : Place). Aborts w i p (spent (moved w after) i)) c m.published t (place_at w.places i) shows (after, did.1, refl),
      (Aborted t.snapshot ∷ [], (after, did.1, refl)),
      spent-world tells v v' xs w after is lasts did.2 i held.Nothing Free tt
          (push_nothing (commits_of v') after.published (slice_set xs i held.Nothing) (slice_set w.places i Free)
          (subst (λ (u : CommitsValue). ArePlaces u after.published (slice_set xs i held.Nothing) (slice_set w.places i Free)) (sym over_is) places))
          places.many,
    )
  where
    by-own : (b : Bool) → b ≡ true
        → MatchBool b ((after : Machine Value) × Step IsValue w.machine (Aborted t.snapshot) after × Stands tells v' after) (Stands tells v' w.machine)
        → (after : Machine Value) × Step IsValue w.machine (Aborted t.snapshot) after × Stands tells v' after
    by-own true mine did = did
    by-own false mine did = absurd cc

    by-over : (b : Bool) → b ≡ true → commits_of v' ≡ cond b (over (commits_of v) t.number) (commits_of v) → commits_of v' ≡ over (commits_of v) t.number
    by-over true mine did = did
    by-over false mine did = absurd cc

pub abort-goes : (tells : Bool) (v v' : StoreValue) (xs : List Held) (i : ℕ) (t : TxnValue) → slice_get xs i ≡ Some (held.Transaction t)
    → AreTxnWrites t.state t.snapshot t.writes → stores.Aborts v t v'
    → Goes tells v xs (call.Abort i) answer.Abort v' (slice_set xs i held.Nothing ++ held.Nothing ∷ [])
abort-goes tells v v' xs i t here are aborts = record { makes = inr (t, here, aborts, (refl, refl)); leads = abort-leads tells v v' xs i t here are aborts }

-- The calls of a transaction that is not over.
use Rattle.std.proofs.Common.{◌≡◌, ◌≢◌, inr, ℕ, Bool, List, [], ◌∷◌, ◌++◌, map, Some, None, Option, Result, Ok, Err, Bor, Vec, refl, sym, ◌∙◌, ap, subst}
use Rattle.std.specs.Prelude.{◌↔◌, slice_get, slice_set, unwrap_or, IfOk, OnOk, OnErr, IsSome}
use Rattle.std.specs.declared.alloc.Global.{Global}
use Rattle.std.specs.declared.alloc.AllocError.{AllocError}
use Rattle.history.specs.declared.key.Key.{Key}
use Rattle.history.specs.declared.key.KeyWrite.{KeyWrite}
use Rattle.history.specs.Key.{write_in}
use Rattle.history.specs.Histories.{History, state}
use Rattle.history.specs.Queries.{seen, IsScan}
use Rattle.law_image.specs.Values.{Value}
use Rattle.wire.specs.Values.{HasSizes}
use Rattle.snapshot.specs.Txn.{TxnValue, at_snapshot, seen_by, IsFullFor, with_put, with_delete, writes_after_delete}
use Rattle.snapshot.specs.WriteSets.{with_write}
use Rattle.snapshot.specs.declared.txn.TxnFault.{TxnFault}
use Rattle.snapshot.specs.declared.txn.TxnFault.TheVariants as fault
use Rattle.commits.specs.Values.{CommitsValue}
use Rattle.any_store.specs.Values.{StoreValue, commits_of}
use Rattle.run.specs.declared.calls.Call.{Call}
use Rattle.run.specs.declared.calls.Call.TheVariants as call
use Rattle.run.specs.declared.calls.Answer.{Answer}
use Rattle.run.specs.declared.calls.Answer.TheVariants as answer
use Rattle.run.specs.declared.held.Held.{Held}
use Rattle.run.specs.declared.held.Held.TheVariants as held
use Rattle.run.specs.Places.{Place, Free, Running, place_at, transaction_in, HasNoTransaction, IsOwnTransaction, Clash, ArePlaces}
use Rattle.run.specs.Worlds.{World, IsWorld, put, same}
use Rattle.run.specs.Runs.{Does, Goes, Leads, Puts, Deletes, Gets, Scans, PutSays, DeleteSays}
use Rattle.run.proofs.Runs.{no-step}
use Rattle.run.proofs.Places.{reads-plain, reads-set, set, push_nothing, own_transaction, at_transaction}
use Rattle.run.proofs.Steps.{same-world}

-- what is looked for in a place

pub held-transaction : (o : Option Held) (t : TxnValue) → Path (Option TxnValue) (Some t) (transaction_in o) → o ≡ Some (held.Transaction t)
held-transaction None t is = absurd cc
held-transaction (Some held.Nothing) t is = absurd cc
held-transaction (Some (held.Transaction u)) t is = let same : u ≡ t = cc in ap (λ (x : TxnValue). Some (held.Transaction x)) same
held-transaction (Some (held.Ticket k)) t is = absurd cc
held-transaction (Some (held.View k)) t is = absurd cc

pub held-no_transaction : (o : Option Held) → Path (Option TxnValue) None (transaction_in o) → HasNoTransaction o
held-no_transaction None is = tt
held-no_transaction (Some held.Nothing) is = tt
held-no_transaction (Some (held.Transaction u)) is = absurd cc
held-no_transaction (Some (held.Ticket k)) is = tt
held-no_transaction (Some (held.View k)) is = tt

-- what a transaction sees is what the history says
sees : (v : CommitsValue) (h : History Value) (t : TxnValue) (key : Key) → IsOwnTransaction v h t → seen_by t key ≡ seen h t.snapshot t.writes key
sees v h t key own = ap (λ (o : Option Value). unwrap_or (write_in t.writes key) o) (own.reads key)

-- ---- get and scan

get-leads : (tells : Bool) (v : StoreValue) (xs : List Held) (i : ℕ) (key : Key) (t : TxnValue) (r : Result (Option Value) AllocError)
    → slice_get xs i ≡ Some (held.Transaction t) → IfOk r (λ value. value ≡ seen_by t key)
    → Leads tells v xs (call.Get i key) (answer.Get r) v (xs ++ held.Nothing ∷ [])
get-leads tells v xs i key t r here says w is =
    let h = w.machine.published in
    let shows = is.places.each i (held.Transaction t) here in
    let own = own_transaction (commits_of v) h t (place_at w.places i) shows in (
      same w,
      at_transaction (λ (p : Place). Gets w key p r (same w)) (commits_of v) h t (place_at w.places i) shows
          (by-result r says (sees (commits_of v) h t key own), refl),
      no-step w.machine,
      same-world tells v xs w is,
    )
  where
    by-result : (o : Result (Option Value) AllocError) → IfOk o (λ value. value ≡ seen_by t key) → {x : Option Value} → seen_by t key ≡ x
        → IfOk o (λ value. value ≡ x)
    by-result (Ok value) says is = says ∙ is
    by-result (Err why) says is = tt

scan-leads : (tells : Bool) (v : StoreValue) (xs : List Held) (i relation : ℕ) (t : TxnValue) (r : Result (Vec (ℕ × Value) Global) AllocError)
    → slice_get xs i ≡ Some (held.Transaction t) → IfOk r (λ found. IsScan (seen_by t) relation found.items)
    → Leads tells v xs (call.Scan i relation) (answer.Scan r) v (xs ++ held.Nothing ∷ [])
scan-leads tells v xs i relation t r here says w is =
    let h = w.machine.published in
    let shows = is.places.each i (held.Transaction t) here in
    let own = own_transaction (commits_of v) h t (place_at w.places i) shows in
    let reads : Path (Key → Option Value) (seen_by t) (seen h t.snapshot t.writes) = λ k key. sees (commits_of v) h t key own k in (
      same w,
      at_transaction (λ (p : Place). Scans w relation p r (same w)) (commits_of v) h t (place_at w.places i) shows
          (subst (λ (f : Key → Option Value). IfOk r (λ found. IsScan f relation found.items)) reads says, refl),
      no-step w.machine,
      same-world tells v xs w is,
    )

pub get-goes : (tells : Bool) (v : StoreValue) (xs : List Held) (i : ℕ) (key : Key) (t : TxnValue) (r : Result (Option Value) AllocError)
    → slice_get xs i ≡ Some (held.Transaction t) → IfOk r (λ value. value ≡ seen_by t key)
    → Goes tells v xs (call.Get i key) (answer.Get r) v (xs ++ held.Nothing ∷ [])
get-goes tells v xs i key t r here says = record { makes = inr (r, (t, here, says, refl, (refl, refl))); leads = get-leads tells v xs i key t r here says }

pub scan-goes : (tells : Bool) (v : StoreValue) (xs : List Held) (i relation : ℕ) (t : TxnValue) (r : Result (Vec (ℕ × Value) Global) AllocError)
    → slice_get xs i ≡ Some (held.Transaction t) → IfOk r (λ found. IsScan (seen_by t) relation found.items)
    → Goes tells v xs (call.Scan i relation) (answer.Scan r) v (xs ++ held.Nothing ∷ [])
scan-goes tells v xs i relation t r here says =
    record { makes = inr (r, (t, here, says, refl, (refl, refl))); leads = scan-leads tells v xs i relation t r here says }

-- ---- put and delete

-- a transaction whose writes alone are others
pub rewritten-places : (v : CommitsValue) (h : History Value) (xs : List Held) (ps : List Place) (i : ℕ) (t : TxnValue) (ws : List (KeyWrite Value))
    → slice_get xs i ≡ Some (held.Transaction t) → ArePlaces v h xs ps
    → ArePlaces v h (slice_set xs i (held.Transaction (record t { writes = ws }))) (slice_set ps i (Running t.snapshot ws))
rewritten-places v h xs ps i t ws here are =
    let own = own_transaction v h t (place_at ps i) (are.each i (held.Transaction t) here) in
    set v h xs ps i (held.Transaction t) (held.Transaction (record t { writes = ws })) (Running t.snapshot ws) are here (
      record {
        mark = own.mark;
        number = own.number;
        published = own.published;
        reads = own.reads;
      },
      refl,
      refl,
    ) alike
  where
    alike : (b : Held) → Clash (held.Transaction (record t { writes = ws })) b → Clash (held.Transaction t) b
    alike held.Nothing clash = clash
    alike (held.Transaction u) clash = clash
    alike (held.Ticket u) clash = clash
    alike (held.View u) clash = clash

rewrite-leads : (tells : Bool) (v : StoreValue) (xs : List Held) (i : ℕ) (t t' : TxnValue) (ws : List (KeyWrite Value)) (c : Call) (a : Answer)
    → slice_get xs i ≡ Some (held.Transaction t) → t' ≡ record t { writes = ws }
    → ((w : World) → IsWorld tells v xs w → Does tells w c a (same (put w i (Running t.snapshot ws))))
    → Leads tells v xs c a v (slice_set xs i (held.Transaction t') ++ held.Nothing ∷ [])
rewrite-leads tells v xs i t t' ws c a here is does w world = (
  same (put w i (Running t.snapshot ws)),
  does w world,
  no-step w.machine,
  subst (λ (x : TxnValue). IsWorld tells v (slice_set xs i (held.Transaction x) ++ held.Nothing
      ∷ []) (same (put w i (Running t.snapshot ws)))) (sym is) (record {
        stands = world.stands;
        layout = world.layout;
        names = world.names;
        places = push_nothing (commits_of v) w.machine.published (slice_set xs i (held.Transaction (record t { writes = ws })))
            (slice_set w.places i (Running t.snapshot ws))
            (rewritten-places (commits_of v) w.machine.published xs w.places i t ws here world.places);
        views = reads-plain tells v (slice_set xs i (held.Transaction (record t { writes = ws })))
            (slice_set w.places i (Running t.snapshot ws)) held.Nothing Free
            (rewritten-places (commits_of v) w.machine.published xs w.places i t ws here world.places).many tt
            (reads-set tells v xs w.places i (held.Transaction (record t { writes = ws })) (Running t.snapshot ws) tt world.views);
      }),
)

put-leads : (tells : Bool) (v : StoreValue) (xs : List Held) (i : ℕ) (key : Key) (fields : Bor (List (Bor (List ℕ)))) (t t' : TxnValue)
    (r : Result (Unit {0}) TxnFault) → slice_get xs i ≡ Some (held.Transaction t)
    → OnOk r (t' ≡ with_put t key (map (λ (field : Bor (List ℕ)). field.now) fields.now)) → r ≢ Err fault.Missing → (r ≡ Err fault.TooManyKeys)
    ↔ IsFullFor t.writes key
    → (r ≡ Err fault.BadValue) ↔ ((¬ IsFullFor t.writes key) × (¬ HasSizes (map (λ (field : Bor (List ℕ)). field.now) fields.now))) → OnErr r (t' ≡ t)
    → Leads tells v xs (call.Put i key fields) (answer.Put r) v (slice_set xs i (held.Transaction t') ++ held.Nothing ∷ [])
put-leads tells v xs i key fields t t' r here ok missing too_many bad err = by-result r ok missing too_many bad err
  where
    value : Value
    value = map (λ (field : Bor (List ℕ)). field.now) fields.now

    at-place : (o : Result (Unit {0}) TxnFault) (ws : List (KeyWrite Value)) → PutSays t.writes key value o ws → (w : World) → IsWorld tells v xs w
        → Puts w i key value (place_at w.places i) o (same (put w i (Running t.snapshot ws)))
    at-place o ws says w is =
        at_transaction (λ (p : Place). Puts w i key value p o (same (put w i (Running t.snapshot ws)))) (commits_of v) w.machine.published t
        (place_at w.places i) (is.places.each i (held.Transaction t) here) (ws, says, refl)

    by-result : (o : Result (Unit {0}) TxnFault) → OnOk o (t' ≡ with_put t key value) → o ≢ Err fault.Missing → (o ≡ Err fault.TooManyKeys)
        ↔ IsFullFor t.writes key → (o ≡ Err fault.BadValue) ↔ ((¬ IsFullFor t.writes key) × (¬ HasSizes value)) → OnErr o (t' ≡ t)
        → Leads tells v xs (call.Put i key fields) (answer.Put o) v (slice_set xs i (held.Transaction t') ++ held.Nothing ∷ [])
    by-result (Ok u) ok missing too_many bad err =
        let ws : List (KeyWrite Value) = with_write t.writes (record { key = key; write = Some value }) in
        rewrite-leads tells v xs i t t' ws (call.Put i key fields) (answer.Put (Ok u)) here ok
        (at-place (Ok u) ws (record { ok = refl; missing = missing; too_many = too_many; bad = bad; err = tt }))
    by-result (Err why) ok missing too_many bad err =
        rewrite-leads tells v xs i t t' t.writes (call.Put i key fields) (answer.Put (Err why)) here err
        (at-place (Err why) t.writes (record { ok = tt; missing = missing; too_many = too_many; bad = bad; err = refl }))

delete-leads : (tells : Bool) (v : StoreValue) (xs : List Held) (i : ℕ) (key : Key) (t t' : TxnValue) (r : Result (Unit {0}) TxnFault)
    → slice_get xs i ≡ Some (held.Transaction t)
    → OnOk r (t' ≡ with_delete t key) → (r ≡ Err fault.Missing) ↔ (seen_by t key ≡ None) → (r ≡ Err fault.TooManyKeys)
    ↔ (IsSome (seen_by t key) × IsFullFor t.writes key) → r ≢ Err fault.BadValue → OnErr r (t' ≡ t)
    → Leads tells v xs (call.Delete i key) (answer.Delete r) v (slice_set xs i (held.Transaction t') ++ held.Nothing ∷ [])
delete-leads tells v xs i key t t' r here ok missing too_many bad err = by-result r ok missing too_many bad err
  where
    at-place : (o : Result (Unit {0}) TxnFault) (ws : List (KeyWrite Value)) → DeleteSays (at_snapshot t.state t.snapshot key) (seen_by t key) t.writes key o ws
        → (w : World) → IsWorld tells v xs w
        → Deletes w i key (place_at w.places i) o (same (put w i (Running t.snapshot ws)))
    at-place o ws says w is =
        let h = w.machine.published in
        let shows = is.places.each i (held.Transaction t) here in
        let own = own_transaction (commits_of v) h t (place_at w.places i) shows in
        let by_history : DeleteSays (state h t.snapshot key) (seen h t.snapshot t.writes key) t.writes key o ws =
        subst (λ (x : Option Value). DeleteSays x (unwrap_or (write_in t.writes key) x) t.writes key o ws) (own.reads key) says in
        at_transaction (λ (p : Place). Deletes w i key p o (same (put w i (Running t.snapshot ws)))) (commits_of v) h t (place_at w.places i) shows (
          ws,
          by_history,
          refl,
        )

    by-result : (o : Result (Unit {0}) TxnFault) → OnOk o (t' ≡ with_delete t key) → (o ≡ Err fault.Missing) ↔ (seen_by t key ≡ None)
        → (o ≡ Err fault.TooManyKeys) ↔ (IsSome (seen_by t key) × IsFullFor t.writes key) → o ≢ Err fault.BadValue → OnErr o (t' ≡ t)
        → Leads tells v xs (call.Delete i key) (answer.Delete o) v (slice_set xs i (held.Transaction t') ++ held.Nothing ∷ [])
    by-result (Ok u) ok missing too_many bad err =
        rewrite-leads tells v xs i t t' (writes_after_delete t key) (call.Delete i key) (answer.Delete (Ok u)) here ok
        (at-place (Ok u) (writes_after_delete t key) (record { ok = refl; missing = missing; too_many = too_many; bad = bad; err = tt }))
    by-result (Err why) ok missing too_many bad err =
        rewrite-leads tells v xs i t t' t.writes (call.Delete i key) (answer.Delete (Err why)) here err
        (at-place (Err why) t.writes (record { ok = tt; missing = missing; too_many = too_many; bad = bad; err = refl }))

-- ---- as the transaction's own clauses say

pub put-goes : (tells : Bool) (v : StoreValue) (xs : List Held) (i : ℕ) (key : Key) (fields : Bor (List (Bor (List ℕ)))) (t t' : TxnValue)
    (r : Result (Unit {0}) TxnFault) → slice_get xs i ≡ Some (held.Transaction t)
    → OnOk r (t' ≡ with_put t key (map (λ (field : Bor (List ℕ)). field.now) fields.now)) → r ≢ Err fault.Missing
    → (r ≡ Err fault.TooManyKeys) ↔ IsFullFor t.writes key
    → (r ≡ Err fault.BadValue) ↔ ((¬ IsFullFor t.writes key) × (¬ HasSizes (map (λ (field : Bor (List ℕ)). field.now) fields.now))) → OnErr r (t' ≡ t)
    → Goes tells v xs (call.Put i key fields) (answer.Put r) v (slice_set xs i (held.Transaction t') ++ held.Nothing ∷ [])
put-goes tells v xs i key fields t t' r here ok missing too_many bad err =
    record { makes = inr (r, (t, t', here, (ok, err), refl, (refl, refl))); leads = put-leads tells v xs i key fields t t' r here ok missing too_many bad err }

pub delete-goes : (tells : Bool) (v : StoreValue) (xs : List Held) (i : ℕ) (key : Key) (t t' : TxnValue) (r : Result (Unit {0}) TxnFault)
    → slice_get xs i ≡ Some (held.Transaction t)
    → OnOk r (t' ≡ with_delete t key) → (r ≡ Err fault.Missing) ↔ (seen_by t key ≡ None)
    → (r ≡ Err fault.TooManyKeys) ↔ (IsSome (seen_by t key) × IsFullFor t.writes key) → r ≢ Err fault.BadValue → OnErr r (t' ≡ t)
    → Goes tells v xs (call.Delete i key) (answer.Delete r) v (slice_set xs i (held.Transaction t') ++ held.Nothing ∷ [])
delete-goes tells v xs i key t t' r here ok missing too_many bad err =
    record { makes = inr (r, (t, t', here, (ok, err), refl, (refl, refl))); leads = delete-leads tells v xs i key t t' r here ok missing too_many bad err }

-- What a call keeps of the places of earlier calls, and what it gives its own.
use Rattle.std.proofs.Common.{◌≡◌, ◌⊎◌, inl, inr, ◌<◌, ◌≤◌, ◌++◌, ℕ, zero, suc, Bool, true, false, cond, List, [], ◌∷◌, length, map, Option, Some, None, Result}
use Rattle.std.proofs.Common.{Ok, Err, MatchBool, Bor, refl, ap, sym, subst, ◌∙◌, arith}
use Rattle.std.specs.Prelude.{slice_set, is_some}
use Rattle.std.proofs.lemmas.Bool.Decides.{nat_tests}
use Rattle.std.specs.declared.alloc.AllocError.{AllocError}
use Rattle.std.specs.declared.alloc.Global.{Global}
use Rattle.std.specs.declared.vec.Vec.{Vec}
use Rattle.history.specs.declared.time.Version.{Version}
use Rattle.timequery.specs.declared.fault.QueryFault.{QueryFault}
use Rattle.history.specs.declared.key.Key.{Key}
use Rattle.history.specs.declared.key.KeyWrite.{KeyWrite}
use Rattle.history.specs.Key.{write_in, same_key}
use Rattle.history.specs.Histories.{last, state}
use Rattle.history.specs.Machine.{Machine}
use Rattle.history.specs.Queries.{seen}
use Rattle.history.specs.Steps.{Event, Step, Decided}
use Rattle.history.specs.Steps as steps
use Rattle.history.specs.Submissions as submissions
use Rattle.history.specs.Submissions.{commit_made}
use Rattle.law_image.specs.Values.{Value, IsValue}
use Rattle.group.specs.declared.answers.BeginFault.{BeginFault}
use Rattle.group.specs.declared.answers.BeginFault.TheVariants as begin
use Rattle.group.specs.declared.answers.SubmitFault.{SubmitFault}
use Rattle.group.specs.declared.answers.SubmitFault.TheVariants as refused
use Rattle.snapshot.specs.WriteSets.{with_write, without}
use Rattle.snapshot.specs.declared.txn.TxnFault.{TxnFault}
use Rattle.snapshot.proofs.WriteSetLemmas.{write_in-with_write}
use Rattle.store.specs.declared.job.StartFault.{StartFault}
use Rattle.store.specs.declared.job.StartFault.TheVariants as start
use Rattle.law_refinement.specs.Calls.{raising_to}
use Rattle.run.specs.declared.calls.Call.{Call}
use Rattle.run.specs.declared.calls.Call.TheVariants as call
use Rattle.run.specs.declared.calls.Answer.{Answer}
use Rattle.run.specs.declared.calls.Answer.TheVariants as answer
use Rattle.run.specs.declared.calls.SubmitOutcome.{SubmitOutcome}
use Rattle.run.specs.declared.calls.SubmitOutcome.TheVariants as outcome
use Rattle.run.specs.declared.calls.RedeemOutcome.{RedeemOutcome}
use Rattle.run.specs.declared.calls.RedeemOutcome.TheVariants as told
use Rattle.run.specs.Places.{Place, Free, Running, Waits, Views, place_at}
use Rattle.run.specs.Worlds.{World, leaves, put, moved, same, spent}
use Rattle.run.specs.Runs.{Does, Begins, Puts, Deletes, Gets, Scans, Submits, Submitted, Aborts, Redeems, GivesUp, Shows, Asks, AsksScan, AsksBetween}
use Rattle.run.specs.Runs.{AsksScanBetween, AsksRecent, Closes, Archives, Reclaims, Raises, Grows, PutSays, DeleteSays, deleted, submission}
use Rattle.run.specs.Traces.{LeavesKey}
use Rattle.run.proofs.Lists.{length-set, length-push, place-push_old, place-push_new}

-- ---- what a call gives

-- the call queued a commit of this time
pub record QueuesAt (w : World) (c : Call) (a : Answer) (next : World) (t : ℕ) : Type 0 where
  pub transaction : ℕ
  pub label : ℕ
  pub now : ℕ
  pub snapshot : ℕ
  pub writes : List (KeyWrite Value)
  pub asked : c ≡ call.Submit transaction label now
  pub said : a ≡ answer.Submit (Ok outcome.Queued)
  pub running : place_at w.places transaction ≡ Running snapshot writes
  pub stamped : t ≡ (commit_made w.machine (submission snapshot writes label now)).time
  pub step : Step IsValue w.machine
      (Decided (submission snapshot writes label now) (submissions.Queues (commit_made w.machine (submission snapshot writes label now)))) next.machine

-- what the call's own place holds, if that is a ticket or a view
abbrev pub Gives : World → Call → Answer → World → Place → Type 0
Gives w c a next Free = Unit {0}
Gives w c a next (Running snapshot writes) = Unit {0}
Gives w c a next (Waits t) = QueuesAt w c a next t
Gives w c a next (Views h floors reclaimed) =
    (c ≡ call.View) × (a ≡ answer.View (Ok tt)) × (h ≡ w.machine.published) × (floors ≡ w.machine.floors) × (reclaimed ≤ last w.machine.published)

-- a ticket or a view, which no later call changes
abbrev pub IsGiven : Place → Type 0
IsGiven Free = ⊥
IsGiven (Running snapshot writes) = ⊥
IsGiven (Waits t) = Unit {0}
IsGiven (Views h floors reclaimed) = Unit {0}

-- the transaction was running, with the same write of the key
pub record WasRunning (w : World) (j s : ℕ) (ws : List (KeyWrite Value)) (key : Key) : Type 0 where
  pub writes : List (KeyWrite Value)
  pub at : place_at w.places j ≡ Running s writes
  pub same_write : write_in ws key ≡ write_in writes key

pub record Passes (w : World) (c : Call) (a : Answer) (next : World) : Type 0 where
  pub longer : length next.places ≡ suc (length w.places)
  pub back : (i : ℕ) (p : Place) → IsGiven p → i < length w.places → place_at next.places i ≡ p → place_at w.places i ≡ p
  pub made : Gives w c a next (place_at next.places (length w.places))
  pub running : (j s : ℕ) (ws : List (KeyWrite Value)) (key : Key) → j < length w.places → LeavesKey j key c → place_at next.places j ≡ Running s ws
      → WasRunning w j s ws key

-- ---- beside the call's own place

record Beside (c : Call) (w x : World) : Type 0 where
  long : length x.places ≡ length w.places
  back : (i : ℕ) (p : Place) → IsGiven p → place_at x.places i ≡ p → place_at w.places i ≡ p
  running : (j s : ℕ) (ws : List (KeyWrite Value)) (key : Key) → LeavesKey j key c → place_at x.places j ≡ Running s ws → WasRunning w j s ws key

set-back : (ps : List Place) (i k : ℕ) (p target : Place) → (p ≡ target → ⊥) → place_at (slice_set ps i p) k ≡ target → place_at ps k ≡ target
set-back [] i k p target not at = at
set-back (q ∷ ps) zero zero p target not at = absurd (not at)
set-back (q ∷ ps) zero (suc k) p target not at = at
set-back (q ∷ ps) (suc i) zero p target not at = at
set-back (q ∷ ps) (suc i) (suc k) p target not at = set-back ps i k p target not at

-- it is there or elsewhere
set-cases : (ps : List Place) (i k : ℕ) (p : Place) → ((i ≡ k) × (place_at (slice_set ps i p) k ≡ p)) ⊎ (place_at (slice_set ps i p) k ≡ place_at ps k)
set-cases [] i k p = inr refl
set-cases (q ∷ ps) zero zero p = inl (refl, refl)
set-cases (q ∷ ps) zero (suc k) p = inr refl
set-cases (q ∷ ps) (suc i) zero p = inr refl
set-cases (q ∷ ps) (suc i) (suc k) p = elim (set-cases ps i k p) [ inl here ↦ inl (ap suc here.0, here.1) | inr there ↦ inr there ]

leaves-passes : (w x : World) (p : Place) (c : Call) (a : Answer) (next : World) → Beside c w x → next ≡ leaves x p → Gives w c a next p → Passes w c a next
leaves-passes w x p c a next beside is gives =
    let own : place_at next.places (length w.places) ≡ p =
    ap (λ (y : World). place_at y.places (length w.places)) is ∙ ap (λ (n : ℕ). place_at (x.places ++ p ∷ []) n) (sym beside.long)
    ∙ place-push_new x.places p in
    record {
      longer = ap (λ (y : World). length y.places) is ∙ length-push x.places p ∙ ap suc beside.long;
      back = λ i q given low at. beside.back i q given (sym (place-push_old x.places i p (omega (arith, low, beside.long)))
          ∙ sym (ap (λ (y : World). place_at y.places i) is) ∙ at);
      made = subst (Gives w c a next) (sym own) gives;
      running =
          λ j s ws key low apart at. beside.running j s ws key apart (sym (place-push_old x.places j p (omega (arith, low, beside.long)))
          ∙ sym (ap (λ (y : World). place_at y.places j) is) ∙ at);
    }

-- only the machine is another
beside-moved : (c : Call) (w : World) (m : Machine Value) → Beside c w (moved w m)
beside-moved c w m = record { long = refl; back = λ i p given at. at; running = λ j s ws key apart at. record { writes = ws; at = at; same_write = refl } }

beside-same : (c : Call) (w : World) → Beside c w w
beside-same c w = beside-moved c w w.machine

not-given : (p target : Place) → (IsGiven p → ⊥) → IsGiven target → p ≡ target → ⊥
not-given p target not given is = not (subst IsGiven (sym is) given)

free-not_running : (s : ℕ) (ws : List (KeyWrite Value)) → Path Place Free (Running s ws) → ⊥
free-not_running s ws is = absurd cc

-- an earlier place is free from then on
beside-freed : (c : Call) (w x : World) (i : ℕ) → Beside c w x → Beside c w (put x i Free)
beside-freed c w x i beside = record {
  long = length-set x.places i Free ∙ beside.long;
  back = λ k p given at. beside.back k p given (set-back x.places i k Free p (not-given Free p (λ no. no) given) at);
  running = λ j s ws key apart at. beside.running j s ws key apart (set-back x.places i j Free (Running s ws) (free-not_running s ws) at);
}

running-is : (a b : ℕ) (xs ys : List (KeyWrite Value)) → Path Place (Running a xs) (Running b ys) → (a ≡ b) × (xs ≡ ys)
running-is a b xs ys is = (cc, cc)

-- an earlier transaction has other writes from then on
beside-rewritten : (c : Call) (w : World) (i snapshot : ℕ) (writes after : List (KeyWrite Value)) → place_at w.places i ≡ Running snapshot writes
    → ((j : ℕ) (key : Key) → i ≡ j → LeavesKey j key c → write_in after key ≡ write_in writes key) → Beside c w (put w i (Running snapshot after))
beside-rewritten c w i snapshot writes after here apart_same = record {
  long = length-set w.places i (Running snapshot after);
  back = λ k p given at. set-back w.places i k (Running snapshot after) p (not-given (Running snapshot after) p (λ no. no) given) at;
  running = λ j s ws key apart at. elim (set-cases w.places i j (Running snapshot after)) [
    | inl there ↦
        let same = running-is snapshot s after ws (sym there.1 ∙ at) in
        record {
          writes = writes;
          at = ap (λ (n : ℕ). place_at w.places n) (sym there.0) ∙ here ∙ ap (λ (n : ℕ). Running n writes) same.0;
          same_write = ap (λ (l : List (KeyWrite Value)). write_in l key) (sym same.1) ∙ apart_same j key there.0 apart;
        }
    | inr other ↦ record { writes = ws; at = sym other ∙ at; same_write = refl }
  ];
}

-- nothing is given
gives-nothing : (w x : World) (c : Call) (a : Answer) (next : World) → Beside c w x → next ≡ leaves x Free → Passes w c a next
gives-nothing w x c a next beside is = leaves-passes w x Free c a next beside is tt

-- ---- call by call

begin-passes : (w : World) (said : Result (Unit {0}) BeginFault) (next : World) → Begins w said next → Passes w call.Begin (answer.Begin said) next
begin-passes w (Ok u) next does =
    leaves-passes w (moved w (steps.begun w.machine)) _ call.Begin (answer.Begin (Ok u)) next (beside-moved call.Begin w (steps.begun w.machine)) does.1 tt
begin-passes w (Err begin.NoMemory) next does = gives-nothing w w call.Begin (answer.Begin (Err begin.NoMemory)) next (beside-same call.Begin w) does.1
begin-passes w (Err begin.Failed) next does = gives-nothing w w call.Begin (answer.Begin (Err begin.Failed)) next (beside-same call.Begin w) does.1

put-keeps : (i : ℕ) (key : Key) (fields : Bor (List (Bor (List ℕ)))) (value : Value) (writes : List (KeyWrite Value)) (said : Result (Unit {0}) TxnFault)
    (after : List (KeyWrite Value)) → PutSays writes key value said after
    → (j : ℕ) (other : Key) → i ≡ j → LeavesKey j other (call.Put i key fields) → write_in after other ≡ write_in writes other
put-keeps i key fields value writes (Ok u) after says j other here apart =
    ap (λ (l : List (KeyWrite Value)). write_in l other) says.ok ∙ write_in-with_write (record { key = key; write = Some value }) writes other
    ∙ ap (λ (b : Bool). cond b (Some (Some value)) (write_in writes other)) (apart here)
put-keeps i key fields value writes (Err why) after says j other here apart = ap (λ (l : List (KeyWrite Value)). write_in l other) says.err

put-passes : (w : World) (i : ℕ) (key : Key) (fields : Bor (List (Bor (List ℕ)))) (p : Place) (said : Result (Unit {0}) TxnFault) (next : World)
    → place_at w.places i ≡ p → Puts w i key (map (λ (field : Bor (List ℕ)). field.now) fields.now) p said next
    → Passes w (call.Put i key fields) (answer.Put said) next
put-passes w i key fields (Running snapshot writes) said next here does =
    gives-nothing w (put w i (Running snapshot does.0)) (call.Put i key fields) (answer.Put said) next
    (beside-rewritten (call.Put i key fields) w i snapshot writes does.0 here
    (put-keeps i key fields (map (λ (field : Bor (List ℕ)). field.now) fields.now) writes said does.0 does.1)) does.2
put-passes w i key fields Free said next here does = absurd does
put-passes w i key fields (Waits t) said next here does = absurd does
put-passes w i key fields (Views h floors reclaimed) said next here does = absurd does

-- what is taken out is not another key's
without-other : (writes : List (KeyWrite Value)) (key other : Key) → same_key key other ≡ false → write_in (without writes key) other ≡ write_in writes other
without-other [] key other apart = refl
without-other (w ∷ ws) key other apart =
    let Goal : Bool → Type 0 = λ b. same_key w.key key ≡ b → write_in (cond b ws (w ∷ without ws key)) other ≡ write_in (w ∷ ws) other in
    elim (same_key w.key key) as Goal [
      | true ↦ λ twin. let not : same_key w.key other ≡ false = grind (arith, nat_tests, twin, apart) in rw not refl
      | false ↦ λ two. ap (λ (o : Option (Option Value)). cond (same_key w.key other) (Some w.write) o) (without-other ws key other apart)
    ] refl

deleted-keeps : (here : Option Value) (writes : List (KeyWrite Value)) (key other : Key) → same_key key other ≡ false → write_in (deleted here writes key) other
    ≡ write_in writes other
deleted-keeps here writes key other apart =
    elim (is_some here) as (λ b. write_in (cond b (with_write writes (record { key = key; write = None })) (without writes key)) other
    ≡ write_in writes other) [
      | true ↦ write_in-with_write (record { key = key; write = None }) writes other ∙ ap (λ (b : Bool). cond b (Some None) (write_in writes other)) apart
      | false ↦ without-other writes key other apart
    ]

delete-keeps : (i : ℕ) (key : Key) (here sees : Option Value) (writes : List (KeyWrite Value)) (said : Result (Unit {0}) TxnFault)
    (after : List (KeyWrite Value)) → DeleteSays here sees writes key said after
    → (j : ℕ) (other : Key) → i ≡ j → LeavesKey j other (call.Delete i key) → write_in after other ≡ write_in writes other
delete-keeps i key here sees writes (Ok u) after says j other same apart =
    ap (λ (l : List (KeyWrite Value)). write_in l other) says.ok ∙ deleted-keeps here writes key other (apart same)
delete-keeps i key here sees writes (Err why) after says j other same apart = ap (λ (l : List (KeyWrite Value)). write_in l other) says.err

delete-passes : (w : World) (i : ℕ) (key : Key) (p : Place) (said : Result (Unit {0}) TxnFault) (next : World) → place_at w.places i ≡ p
    → Deletes w i key p said next → Passes w (call.Delete i key) (answer.Delete said) next
delete-passes w i key (Running snapshot writes) said next here does =
    gives-nothing w (put w i (Running snapshot does.0)) (call.Delete i key) (answer.Delete said) next
    (beside-rewritten (call.Delete i key) w i snapshot writes does.0 here
    (delete-keeps i key (state w.machine.published snapshot key) (seen w.machine.published snapshot writes key) writes said does.0 does.1)) does.2
delete-passes w i key Free said next here does = absurd does
delete-passes w i key (Waits t) said next here does = absurd does
delete-passes w i key (Views h floors reclaimed) said next here does = absurd does

pub get-same : (w : World) (key : Key) (p : Place) (said : Result (Option Value) AllocError) (next : World) → Gets w key p said next → next ≡ same w
get-same w key (Running snapshot writes) said next does = does.1
get-same w key Free said next does = absurd does
get-same w key (Waits t) said next does = absurd does
get-same w key (Views h floors reclaimed) said next does = absurd does

-- a submit that is queued gives the ticket of its commit, and any other gives nothing
submitted-gives : (w : World) (i label now snapshot : ℕ) (writes : List (KeyWrite Value)) (said : Result SubmitOutcome SubmitFault) (event : Event Value)
    (place : Place) (next : World)
    → Submitted w.machine (submission snapshot writes label now) said event place → place_at w.places i ≡ Running snapshot writes
    → Step IsValue w.machine event next.machine → Gives w (call.Submit i label now) (answer.Submit said) next place
submitted-gives w i label now snapshot writes (Ok outcome.Queued) event place next is at step =
    let s = submission snapshot writes label now in
    subst (Gives w (call.Submit i label now) (answer.Submit (Ok outcome.Queued)) next) (sym is.1) (record {
      transaction = i;
      label = label;
      now = now;
      snapshot = snapshot;
      writes = writes;
      asked = refl;
      said = refl;
      running = at;
      stamped = refl;
      step = subst (λ (e : Event Value). Step IsValue w.machine e next.machine) is.0 step;
    })
submitted-gives w i label now snapshot writes (Ok (outcome.ReadOnly time)) event place next is at step =
    subst (Gives w (call.Submit i label now) (answer.Submit (Ok (outcome.ReadOnly time))) next) (sym is.2) tt
submitted-gives w i label now snapshot writes (Err (refused.Conflict key)) event place next is at step =
    subst (Gives w (call.Submit i label now) (answer.Submit (Err (refused.Conflict key))) next) (sym is.1) tt
submitted-gives w i label now snapshot writes (Err refused.ClockEnd) event place next is at step =
    subst (Gives w (call.Submit i label now) (answer.Submit (Err refused.ClockEnd)) next) (sym is.1) tt
submitted-gives w i label now snapshot writes (Err refused.HeapFull) event place next is at step =
    subst (Gives w (call.Submit i label now) (answer.Submit (Err refused.HeapFull)) next) (sym is.1) tt
submitted-gives w i label now snapshot writes (Err refused.StatusFull) event place next is at step =
    subst (Gives w (call.Submit i label now) (answer.Submit (Err refused.StatusFull)) next) (sym is.1) tt
submitted-gives w i label now snapshot writes (Err refused.NoMemory) event place next is at step =
    subst (Gives w (call.Submit i label now) (answer.Submit (Err refused.NoMemory)) next) (sym is.1) tt
submitted-gives w i label now snapshot writes (Err refused.Failed) event place next is at step =
    subst (Gives w (call.Submit i label now) (answer.Submit (Err refused.Failed)) next) (sym is.1) tt
submitted-gives w i label now snapshot writes (Err refused.Stranger) event place next is at step = absurd is

submit-passes : (w : World) (i label now : ℕ) (p : Place) (said : Result SubmitOutcome SubmitFault) (next : World) → place_at w.places i ≡ p
    → Submits w i label now p said next → Passes w (call.Submit i label now) (answer.Submit said) next
submit-passes w i label now (Running snapshot writes) said next at does =
    let step : Step IsValue w.machine does.0 next.machine =
    subst (λ (m : Machine Value). Step IsValue w.machine does.0 m) (sym (ap (λ (y : World). y.machine) does.5)) does.4 in
    leaves-passes w (put (moved w does.1) i Free) does.2 (call.Submit i label now) (answer.Submit said) next
    (beside-freed (call.Submit i label now) w (moved w does.1) i (beside-moved (call.Submit i label now) w does.1)) does.5
    (submitted-gives w i label now snapshot writes said does.0 does.2 next does.3 at step)
submit-passes w i label now Free said next at does = absurd does
submit-passes w i label now (Waits t) said next at does = absurd does
submit-passes w i label now (Views h floors reclaimed) said next at does = absurd does

abort-passes : (w : World) (i : ℕ) (p : Place) (next : World) → Aborts w i p next → Passes w (call.Abort i) answer.Abort next
abort-passes w i (Running snapshot writes) next does =
    gives-nothing w (put (moved w does.0) i Free) (call.Abort i) answer.Abort next
    (beside-freed (call.Abort i) w (moved w does.0) i (beside-moved (call.Abort i) w does.0)) does.2
abort-passes w i Free next does = absurd does
abort-passes w i (Waits t) next does = absurd does
abort-passes w i (Views h floors reclaimed) next does = absurd does

moves-passes : (w : World) (c : Call) (a : Answer) (next : World) (failed : Bool) (Says : Type 0) (Is : Type 0) (Runs : Machine Value → Type 0)
    → MatchBool failed (Says × (next ≡ same w)) ((after : Machine Value) × Is × Runs after × (next ≡ same (moved w after))) → Passes w c a next
moves-passes w c a next true Says Is Runs does = gives-nothing w w c a next (beside-same c w) does.1
moves-passes w c a next false Says Is Runs does = gives-nothing w (moved w does.0) c a next (beside-moved c w does.0) does.3

redeem-passes : (w : World) (i : ℕ) (p : Place) (said : RedeemOutcome) (next : World) → Redeems w i p said next
    → Passes w (call.Redeem i) (answer.Redeem said) next
redeem-passes w i (Waits time) (told.Done t) next does =
    gives-nothing w (put w i Free) (call.Redeem i) (answer.Redeem (told.Done t)) next (beside-freed (call.Redeem i) w w i (beside-same (call.Redeem i) w))
    does.1
redeem-passes w i (Waits time) told.Waiting next does =
    gives-nothing w w (call.Redeem i) (answer.Redeem told.Waiting) next (beside-same (call.Redeem i) w) does.1
redeem-passes w i (Waits time) told.InDoubt next does =
    gives-nothing w (put w i Free) (call.Redeem i) (answer.Redeem told.InDoubt) next (beside-freed (call.Redeem i) w w i (beside-same (call.Redeem i) w)) does.1
redeem-passes w i (Waits time) told.Stranger next does = absurd does
redeem-passes w i Free said next does = absurd does
redeem-passes w i (Running snapshot writes) said next does = absurd does
redeem-passes w i (Views h floors reclaimed) said next does = absurd does

spent-passes : (w : World) (i : ℕ) (c : Call) (a : Answer) (next : World) → next ≡ spent w i → Passes w c a next
spent-passes w i c a next is = gives-nothing w (put w i Free) c a next (beside-freed c w w i (beside-same c w)) is

pub give_up-spent : (w : World) (i : ℕ) (p : Place) (next : World) → GivesUp w i p next → next ≡ spent w i
give_up-spent w i (Waits time) next does = does
give_up-spent w i Free next does = absurd does
give_up-spent w i (Running snapshot writes) next does = absurd does
give_up-spent w i (Views h floors reclaimed) next does = absurd does

pub closes-spent : (w : World) (i : ℕ) (p : Place) (next : World) → Closes w i p next → next ≡ spent w i
closes-spent w i (Views h floors reclaimed) next does = does
closes-spent w i Free next does = absurd does
closes-spent w i (Running snapshot writes) next does = absurd does
closes-spent w i (Waits t) next does = absurd does

pub archive-same : (w : World) (upto : ℕ) (said : Result (Unit {0}) StartFault) (next : World) → Archives w upto said next → next ≡ same w
archive-same w upto (Ok u) next does = does.2
archive-same w upto (Err start.Failed) next does = does.1
archive-same w upto (Err start.WrongProfile) next does = absurd does
archive-same w upto (Err start.JobBusy) next does = does
archive-same w upto (Err start.NothingToDo) next does = does
archive-same w upto (Err (start.NotYet time)) next does = does.2
archive-same w upto (Err start.StatusFull) next does = does.1
archive-same w upto (Err start.ArchiveFull) next does = does
archive-same w upto (Err (start.InUse time)) next does = absurd does
archive-same w upto (Err start.HeapFull) next does = does.1
archive-same w upto (Err start.NoMemory) next does = does
archive-same w upto (Err start.NotGrowable) next does = absurd does

pub reclaim-same : (w : World) (said : Result (Unit {0}) StartFault) (next : World) → Reclaims w said next → next ≡ same w
reclaim-same w (Ok u) next does = does.1
reclaim-same w (Err start.Failed) next does = does.1
reclaim-same w (Err start.WrongProfile) next does = absurd does
reclaim-same w (Err start.JobBusy) next does = does
reclaim-same w (Err start.NothingToDo) next does = does
reclaim-same w (Err (start.InUse time)) next does = does.1
reclaim-same w (Err start.StatusFull) next does = does.1
reclaim-same w (Err start.HeapFull) next does = does
reclaim-same w (Err start.NoMemory) next does = does
reclaim-same w (Err (start.NotYet time)) next does = absurd does
reclaim-same w (Err start.ArchiveFull) next does = does.1
reclaim-same w (Err start.NotGrowable) next does = absurd does

pub grow-same : (w : World) (said : Result (Unit {0}) StartFault) (next : World) → Grows w said next → next ≡ same w
grow-same w (Ok u) next does = does.1
grow-same w (Err start.Failed) next does = does.1
grow-same w (Err start.JobBusy) next does = does
grow-same w (Err start.NotGrowable) next does = does
grow-same w (Err start.WrongProfile) next does = absurd does
grow-same w (Err start.NothingToDo) next does = absurd does
grow-same w (Err (start.NotYet time)) next does = absurd does
grow-same w (Err (start.InUse time)) next does = absurd does
grow-same w (Err start.StatusFull) next does = absurd does
grow-same w (Err start.ArchiveFull) next does = absurd does
grow-same w (Err start.HeapFull) next does = absurd does
grow-same w (Err start.NoMemory) next does = absurd does

view-passes : (w : World) (said : Result (Unit {0}) AllocError) (next : World) → Shows w said next → Passes w call.View (answer.View said) next
view-passes w (Ok u) next does =
    leaves-passes w w (Views w.machine.published w.machine.floors does.0) call.View (answer.View (Ok u)) next (beside-same call.View w) does.2 (
      refl,
      refl,
      refl,
      refl,
      does.1,
    )
view-passes w (Err why) next does = gives-nothing w w call.View (answer.View (Err why)) next (beside-same call.View w) does

same-passes : (w : World) (c : Call) (a : Answer) (next : World) → next ≡ same w → Passes w c a next
same-passes w c a next is = gives-nothing w w c a next (beside-same c w) is

pub scan-same : (w : World) (relation : ℕ) (p : Place) (said : Result (Vec (ℕ × Value) Global) AllocError) (next : World) → Scans w relation p said next → next
    ≡ same w
scan-same w relation Free said next does = absurd does
scan-same w relation (Running snapshot writes) said next does = does.1
scan-same w relation (Waits t) said next does = absurd does
scan-same w relation (Views h floors reclaimed) said next does = absurd does

pub asks-same : (tells : Bool) (w : World) (key : Key) (time : ℕ) (p : Place) (said : Result (Option Value) QueryFault) (next : World)
    → Asks tells w key time p said next → next ≡ same w
asks-same tells w key time Free said next does = absurd does
asks-same tells w key time (Running snapshot writes) said next does = absurd does
asks-same tells w key time (Waits t) said next does = absurd does
asks-same tells w key time (Views h floors reclaimed) said next does = does.1

pub asks_scan-same : (tells : Bool) (w : World) (relation time : ℕ) (p : Place) (said : Result (Vec (ℕ × Value) Global) QueryFault) (next : World)
    → AsksScan tells w relation time p said next → next ≡ same w
asks_scan-same tells w relation time Free said next does = absurd does
asks_scan-same tells w relation time (Running snapshot writes) said next does = absurd does
asks_scan-same tells w relation time (Waits t) said next does = absurd does
asks_scan-same tells w relation time (Views h floors reclaimed) said next does = does.1

pub asks_between-same : (tells : Bool) (w : World) (key : Key) (a b : ℕ) (p : Place) (said : Result (Vec (Version Value) Global) QueryFault) (next : World)
    → AsksBetween tells w key a b p said next → next ≡ same w
asks_between-same tells w key a b Free said next does = absurd does
asks_between-same tells w key a b (Running snapshot writes) said next does = absurd does
asks_between-same tells w key a b (Waits t) said next does = absurd does
asks_between-same tells w key a b (Views h floors reclaimed) said next does = does.1

pub asks_scan_between-same : (tells : Bool) (w : World) (relation a b : ℕ) (p : Place) (said : Result (Vec (ℕ × Version Value) Global) QueryFault)
    (next : World) → AsksScanBetween tells w relation a b p said next → next ≡ same w
asks_scan_between-same tells w relation a b Free said next does = absurd does
asks_scan_between-same tells w relation a b (Running snapshot writes) said next does = absurd does
asks_scan_between-same tells w relation a b (Waits t) said next does = absurd does
asks_scan_between-same tells w relation a b (Views h floors reclaimed) said next does = does.1

pub asks_recent-same : (w : World) (key : Key) (time : ℕ) (p : Place) (said : Result (Option Value) QueryFault) (next : World)
    → AsksRecent w key time p said next → next ≡ same w
asks_recent-same w key time Free said next does = absurd does
asks_recent-same w key time (Running snapshot writes) said next does = absurd does
asks_recent-same w key time (Waits t) said next does = absurd does
asks_recent-same w key time (Views h floors reclaimed) said next does = does.1

-- a floor's start leaves the places
floor-passes : (w : World) (scope : Option ℕ) (floor : ℕ) (said : Result (Unit {0}) StartFault) (next : World) → Raises w scope floor said next
    → Passes w (call.Floor scope floor) (answer.Floor said) next
floor-passes w scope floor (Ok u) next does =
    gives-nothing w (moved w (steps.floor_started w.machine (raising_to scope floor))) (call.Floor scope floor) (answer.Floor (Ok u)) next
    (beside-moved (call.Floor scope floor) w (steps.floor_started w.machine (raising_to scope floor))) does.1
floor-passes w scope floor (Err start.NothingToDo) next does = same-passes w (call.Floor scope floor) (answer.Floor (Err start.NothingToDo)) next does.1
floor-passes w scope floor (Err (start.NotYet time)) next does = same-passes w (call.Floor scope floor) (answer.Floor (Err (start.NotYet time))) next does.1
floor-passes w scope floor (Err (start.InUse snapshot)) next does =
    same-passes w (call.Floor scope floor) (answer.Floor (Err (start.InUse snapshot))) next does.1
floor-passes w scope floor (Err start.Failed) next does = same-passes w (call.Floor scope floor) (answer.Floor (Err start.Failed)) next does.1
floor-passes w scope floor (Err start.WrongProfile) next does = same-passes w (call.Floor scope floor) (answer.Floor (Err start.WrongProfile)) next does
floor-passes w scope floor (Err start.JobBusy) next does = same-passes w (call.Floor scope floor) (answer.Floor (Err start.JobBusy)) next does
floor-passes w scope floor (Err start.StatusFull) next does = same-passes w (call.Floor scope floor) (answer.Floor (Err start.StatusFull)) next does
floor-passes w scope floor (Err start.ArchiveFull) next does = absurd does
floor-passes w scope floor (Err start.HeapFull) next does = same-passes w (call.Floor scope floor) (answer.Floor (Err start.HeapFull)) next does.1
floor-passes w scope floor (Err start.NoMemory) next does = same-passes w (call.Floor scope floor) (answer.Floor (Err start.NoMemory)) next does.1
floor-passes w scope floor (Err start.NotGrowable) next does = absurd does

-- each call passes
pub passes : (tells : Bool) (w : World) (c : Call) (a : Answer) (next : World) → Does tells w c a next → Passes w c a next
passes tells w c answer.Unknown next does = same-passes w c answer.Unknown next does.1
passes tells w call.Begin (answer.Begin said) next does = begin-passes w said next does
passes tells w (call.Put i key fields) (answer.Put said) next does = put-passes w i key fields (place_at w.places i) said next refl does
passes tells w (call.Delete i key) (answer.Delete said) next does = delete-passes w i key (place_at w.places i) said next refl does
passes tells w (call.Get i key) (answer.Get said) next does =
    same-passes w (call.Get i key) (answer.Get said) next (get-same w key (place_at w.places i) said next does)
passes tells w (call.Scan i relation) (answer.Scan said) next does =
    same-passes w (call.Scan i relation) (answer.Scan said) next (scan-same w relation (place_at w.places i) said next does)
passes tells w (call.Submit i label now) (answer.Submit said) next does = submit-passes w i label now (place_at w.places i) said next refl does
passes tells w (call.Abort i) answer.Abort next does = abort-passes w i (place_at w.places i) next does
passes tells w call.Pump (answer.Pump said) next does = moves-passes w call.Pump (answer.Pump said) next w.machine.failed _ _ _ does
passes tells w (call.Redeem i) (answer.Redeem said) next does = redeem-passes w i (place_at w.places i) said next does
passes tells w (call.GiveUp i) answer.GiveUp next does = spent-passes w i (call.GiveUp i) answer.GiveUp next (give_up-spent w i (place_at w.places i) next does)
passes tells w call.View (answer.View said) next does = view-passes w said next does
passes tells w (call.At i key time) (answer.At said) next does =
    same-passes w (call.At i key time) (answer.At said) next (asks-same tells w key time (place_at w.places i) said next does)
passes tells w (call.ScanAt i relation time) (answer.ScanAt said) next does =
    same-passes w (call.ScanAt i relation time) (answer.ScanAt said) next (asks_scan-same tells w relation time (place_at w.places i) said next does)
passes tells w (call.Between i key a b) (answer.Between said) next does =
    same-passes w (call.Between i key a b) (answer.Between said) next (asks_between-same tells w key a b (place_at w.places i) said next does)
passes tells w (call.ScanBetween i relation a b) (answer.ScanBetween said) next does =
    same-passes w (call.ScanBetween i relation a b) (answer.ScanBetween said) next
    (asks_scan_between-same tells w relation a b (place_at w.places i) said next does)
passes tells w (call.Recent i key time) (answer.Recent said) next does =
    same-passes w (call.Recent i key time) (answer.Recent said) next (asks_recent-same w key time (place_at w.places i) said next does)
passes tells w (call.End i) answer.End next does = spent-passes w i (call.End i) answer.End next (closes-spent w i (place_at w.places i) next does)
passes tells w (call.TimesOf label) (answer.TimesOf said) next does = same-passes w (call.TimesOf label) (answer.TimesOf said) next does.1
passes tells w (call.Archive upto) (answer.Archive said) next does =
    same-passes w (call.Archive upto) (answer.Archive said) next (archive-same w upto said next does)
passes tells w (call.Floor scope floor) (answer.Floor said) next does = floor-passes w scope floor said next does
passes tells w call.Reclaim (answer.Reclaim said) next does = same-passes w call.Reclaim (answer.Reclaim said) next (reclaim-same w said next does)
passes tells w call.Grow (answer.Grow said) next does = same-passes w call.Grow (answer.Grow said) next (grow-same w said next does)
passes tells w call.JobPump (answer.JobPump said) next does = moves-passes w call.JobPump (answer.JobPump said) next w.machine.failed _ _ _ does
passes tells w c a next does = absurd does

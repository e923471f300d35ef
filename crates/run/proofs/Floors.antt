-- What calls leave of the floors: a time that is kept stays so, unless a later floor is begun.
use Rattle.std.proofs.Common.{◌≡◌, ◌≤◌, ◌++◌, ℕ, Bool, true, false, cond, List, [], ◌∷◌, length, Option, None, Some, Result, Ok, Err, MatchBool, MatchOption}
use Rattle.std.proofs.Common.{refl, ap, sym, subst, ◌∙◌}
use Rattle.std.specs.Prelude.{nat_lt, ◌==◌, ◌&&◌, IsTrue, IfErr}
use Rattle.std.specs.List.{AllByRecursion}
use Rattle.std.specs.declared.alloc.AllocError.{AllocError}
use Rattle.history.specs.declared.key.Key.{Key}
use Rattle.history.specs.Floors.{Raising, covers, raised}
use Rattle.history.specs.Machine.{Machine, Gate, Shut, Due, MayBeOpen, OfGroup, OfFloor}
use Rattle.history.specs.Steps.{Event, Step, Decided, FloorStarted, FloorPublished, GroupBegan, GateDue, GateWritten, Published, Broke, Aborted, decided}
use Rattle.history.specs.Steps as steps
use Rattle.history.specs.Submissions as submissions
use Rattle.history.specs.Submissions.{Submission, Decision}
use Rattle.law_image.specs.Values.{Value, IsValue}
use Rattle.group.specs.declared.answers.BeginFault.{BeginFault}
use Rattle.group.specs.declared.answers.BeginFault.TheVariants as begin
use Rattle.group.specs.declared.answers.PumpFault.{PumpFault}
use Rattle.group.specs.declared.answers.PumpFault.TheVariants as pump
use Rattle.group.specs.declared.answers.SubmitFault.{SubmitFault}
use Rattle.group.specs.declared.answers.SubmitFault.TheVariants as refused
use Rattle.snapshot.specs.declared.txn.TxnFault.{TxnFault}
use Rattle.any_store.specs.declared.steps.Did.{Did}
use Rattle.any_store.specs.declared.steps.Did.TheVariants as did
use Rattle.any_store.specs.declared.steps.JobDid.{JobDid}
use Rattle.any_store.specs.declared.steps.JobDid.TheVariants as job_did
use Rattle.store.specs.declared.job.StartFault.{StartFault}
use Rattle.store.specs.declared.job.StartFault.TheVariants as start
use Rattle.law_any_store.specs.Calls.{group_ends, refused_in, pumped_in, floor_ends_in, floor_ends, job_ends_in}
use Rattle.law_refinement.specs.Laws.{begins_in, breaks_in, job_breaks_in}
use Rattle.run.specs.declared.calls.Call.{Call}
use Rattle.run.specs.declared.calls.Call.TheVariants as call
use Rattle.run.specs.declared.calls.Answer.{Answer}
use Rattle.run.specs.declared.calls.Answer.TheVariants as answer
use Rattle.run.specs.declared.calls.SubmitOutcome.{SubmitOutcome}
use Rattle.run.specs.declared.calls.SubmitOutcome.TheVariants as outcome
use Rattle.run.specs.declared.calls.RedeemOutcome.{RedeemOutcome}
use Rattle.run.specs.declared.calls.RedeemOutcome.TheVariants as told
use Rattle.run.specs.Places.{Place, Free, Running, Waits, Views, place_at}
use Rattle.run.specs.Worlds.{World, same, moved, spent}
use Rattle.run.specs.Runs.{Does, Begins, Puts, Deletes, Submits, Submitted, Aborts, Redeems, Shows, Raises, IsStepFault, submission}
use Rattle.run.specs.Laws.{IsKeptTime}
use Rattle.run.proofs.Passing.{get-same, scan-same, asks-same, asks_scan-same, asks_between-same, asks_scan_between-same, asks_recent-same, give_up-spent}
use Rattle.run.proofs.Passing.{closes-spent, archive-same, reclaim-same, grow-same}

-- the floors, and the one in the making, are the same
abbrev pub SameFloors : Machine Value → Machine Value → Type 0
SameFloors old new = (new.floors ≡ old.floors) × (new.raising ≡ old.raising)

all-same : (m new : Machine Value) → new ≡ m → SameFloors m new
all-same m new is = (ap (λ (x : Machine Value). x.floors) is, ap (λ (x : Machine Value). x.raising) is)

pub same-then : (a b c : Machine Value) → SameFloors a b → SameFloors b c → SameFloors a c
same-then a b c first second = (second.0 ∙ first.0, second.1 ∙ first.1)

-- ---- the machine's steps

-- it neither begins nor raises a floor
abbrev KeepsFloors : Event Value → Type 0
KeepsFloors (FloorStarted r) = ⊥
KeepsFloors (FloorPublished r) = ⊥
KeepsFloors event = Unit {0}

decided-floors : (m : Machine Value) (d : Decision Value) → SameFloors m (decided m d)
decided-floors m submissions.Reads = (refl, refl)
decided-floors m (submissions.Conflicts key) = (refl, refl)
decided-floors m submissions.Ends = (refl, refl)
decided-floors m (submissions.Queues c) = (refl, refl)

-- a state whose floors are those of another, once more
by-state : (m mid new : Machine Value) → SameFloors m mid → new ≡ mid → SameFloors m new
by-state m mid new first is = same-then m mid new first (all-same mid new is)

step-floors : (old : Machine Value) (event : Event Value) (new : Machine Value) → KeepsFloors event → Step IsValue old event new → SameFloors old new
step-floors old (steps.Began snapshot) new keeps step = by-state old _ new (refl, refl) step.2
step-floors old (steps.BeginRefused why) new keeps step = by-state old _ new (refl, refl) step.1
step-floors old (Aborted snapshot) new keeps step = by-state old _ new (refl, refl) step.2
step-floors old (Decided s d) new keeps step = by-state old _ new (decided-floors old d) step.3.2
step-floors old (steps.Refused s why) new keeps step = by-state old _ new (refl, refl) step.1.2
step-floors old GroupBegan new keeps step = by-state old _ new (refl, refl) step.3
step-floors old (Published size) new keeps step = by-state old _ new (refl, refl) step.4
step-floors old (FloorStarted r) new keeps step = absurd keeps
step-floors old (steps.FloorRefused r why) new keeps step = by-state old _ new (refl, refl) step.2
step-floors old (FloorPublished r) new keeps step = absurd keeps
step-floors old (GateDue change) new keeps step = by-state old _ new (refl, refl) step.3
step-floors old (GateWritten change) new keeps step = by-state old _ new (refl, refl) step.2
step-floors old Broke new keeps step = by-state old _ new (refl, refl) step.1

run-floors : (old : Machine Value) (events : List (Event Value)) (new : Machine Value) → AllByRecursion KeepsFloors events → steps.Run IsValue old events new
    → SameFloors old new
run-floors old [] new keeps run = all-same old new run
run-floors old (event ∷ events) new keeps run = same-then old run.0 new (step-floors old event run.0 keeps.0 run.1) (run-floors run.0 events new keeps.1 run.2)

begins-keep : (m : Machine Value) (rest : List (Event Value)) → AllByRecursion KeepsFloors rest → AllByRecursion KeepsFloors (begins_in m ++ rest)
begins-keep m rest keeps =
    elim ((m.group == 0) && nat_lt 0 (length m.queue)) as (λ b. AllByRecursion KeepsFloors (cond b (GroupBegan ∷ []) [] ++ rest)) [
      | true ↦ (
        tt,
        keeps,
      )
      | false ↦ keeps
    ]

begun-keep : (m : Machine Value) → AllByRecursion KeepsFloors (begins_in m)
begun-keep m =
    elim ((m.group == 0) && nat_lt 0 (length m.queue)) as (λ b. AllByRecursion KeepsFloors (cond b (GroupBegan ∷ []) [])) [
      | true ↦ (
        tt,
        tt,
      )
      | false ↦ tt
    ]

breaks-keep : (gate : Gate) → AllByRecursion KeepsFloors (breaks_in gate)
breaks-keep Shut = (tt, tt)
breaks-keep (Due OfGroup) = (tt, (tt, tt))
breaks-keep (Due OfFloor) = (tt, tt)
breaks-keep (MayBeOpen change) = (tt, tt)

ends-keep : (in_heap : Bool) (what : Did) → AllByRecursion KeepsFloors (group_ends in_heap what)
ends-keep in_heap did.Idle = tt
ends-keep in_heap did.WroteExtent = tt
ends-keep in_heap did.GateClosed = tt
ends-keep true did.HeapSynced = (tt, tt)
ends-keep false did.HeapSynced = tt
ends-keep in_heap did.BodyWritten = tt
ends-keep in_heap did.BodySynced = (tt, tt)
ends-keep in_heap did.GateWritten = (tt, tt)
ends-keep in_heap (did.Published count) = (tt, tt)

refused-keep : (in_heap : Bool) (m : Machine Value) (why : PumpFault) → AllByRecursion KeepsFloors (refused_in in_heap m why)
refused-keep true m pump.Busy = tt
refused-keep false m pump.Busy = begun-keep m
refused-keep true m pump.NoMemory = tt
refused-keep false m pump.NoMemory = begun-keep m
refused-keep in_heap m pump.Failed = begins-keep m (breaks_in m.gate) (breaks-keep m.gate)

-- so does a step of a group, in either layout
pumped-keep : (in_heap : Bool) (m : Machine Value) (said : Result Did PumpFault) → AllByRecursion KeepsFloors (pumped_in in_heap m said)
pumped-keep in_heap m (Ok what) = begins-keep m (group_ends in_heap what) (ends-keep in_heap what)
pumped-keep in_heap m (Err why) = refused-keep in_heap m why

-- ---- a time that is kept

held : (old new : Machine Value) (relation time : ℕ) → SameFloors old new → IsKeptTime old relation time → IsKeptTime new relation time
held old new relation time is kept = (
  subst (λ (f : ℕ → ℕ). f relation ≤ time) (sym is.0) kept.0,
  subst (λ (o : Option Raising). MatchOption o (Unit {0}) (λ r. IsTrue (covers r.scope relation) → r.floor ≤ time)) (sym is.1) kept.1,
)

-- no floor begins in it
abbrev BeginsNone : Event Value → Type 0
BeginsNone (FloorStarted r) = ⊥
BeginsNone event = Unit {0}

raised-kept : (m : Machine Value) (r : Raising) (relation time : ℕ) → m.raising ≡ Some r → IsKeptTime m relation time
    → IsKeptTime (steps.floor_published m r) relation time
raised-kept m r relation time is kept = (by-scope (covers r.scope relation) refl, tt)
  where
    late : IsTrue (covers r.scope relation) → r.floor ≤ time
    late = subst (λ (o : Option Raising). MatchOption o (Unit {0}) (λ x. IsTrue (covers x.scope relation) → x.floor ≤ time)) is kept.1

    by-scope : (b : Bool) → covers r.scope relation ≡ b → raised r.scope r.floor m.floors relation ≤ time
    by-scope true covered = rw covered (late covered)
    by-scope false other = rw other kept.0

event-kept : (old : Machine Value) (event : Event Value) (new : Machine Value) (relation time : ℕ) → BeginsNone event → Step IsValue old event new
    → IsKeptTime old relation time → IsKeptTime new relation time
event-kept old (steps.Began snapshot) new relation time none step kept = held old new relation time (step-floors old (steps.Began snapshot) new tt step) kept
event-kept old (steps.BeginRefused why) new relation time none step kept =
    held old new relation time (step-floors old (steps.BeginRefused why) new tt step) kept
event-kept old (Aborted snapshot) new relation time none step kept = held old new relation time (step-floors old (Aborted snapshot) new tt step) kept
event-kept old (Decided s d) new relation time none step kept = held old new relation time (step-floors old (Decided s d) new tt step) kept
event-kept old (steps.Refused s why) new relation time none step kept = held old new relation time (step-floors old (steps.Refused s why) new tt step) kept
event-kept old GroupBegan new relation time none step kept = held old new relation time (step-floors old GroupBegan new tt step) kept
event-kept old (Published size) new relation time none step kept = held old new relation time (step-floors old (Published size) new tt step) kept
event-kept old (FloorStarted r) new relation time none step kept = absurd none
event-kept old (steps.FloorRefused r why) new relation time none step kept =
    held old new relation time (step-floors old (steps.FloorRefused r why) new tt step) kept
event-kept old (FloorPublished r) new relation time none step kept =
    subst (λ (m : Machine Value). IsKeptTime m relation time) (sym step.3) (raised-kept old r relation time step.1 kept)
event-kept old (GateDue change) new relation time none step kept = held old new relation time (step-floors old (GateDue change) new tt step) kept
event-kept old (GateWritten change) new relation time none step kept = held old new relation time (step-floors old (GateWritten change) new tt step) kept
event-kept old Broke new relation time none step kept = held old new relation time (step-floors old Broke new tt step) kept

run-kept : (old : Machine Value) (events : List (Event Value)) (new : Machine Value) (relation time : ℕ) → AllByRecursion BeginsNone events
    → steps.Run IsValue old events new → IsKeptTime old relation time → IsKeptTime new relation time
run-kept old [] new relation time none run kept = subst (λ (m : Machine Value). IsKeptTime m relation time) (sym run) kept
run-kept old (event ∷ events) new relation time none run kept =
    run-kept run.0 events new relation time none.1 run.2 (event-kept old event run.0 relation time none.0 run.1 kept)

-- a step of a job begins no floor
floor-steps : (in_heap : Bool) (what : JobDid) (r : Raising) → AllByRecursion BeginsNone (floor_ends_in in_heap what r)
floor-steps in_heap job_did.Idle r = tt
floor-steps in_heap job_did.WroteRun r = tt
floor-steps in_heap job_did.RunSynced r = tt
floor-steps in_heap job_did.WroteExtent r = tt
floor-steps true job_did.HeapSynced r = (tt, tt)
floor-steps false job_did.HeapSynced r = tt
floor-steps in_heap job_did.WroteZeros r = tt
floor-steps in_heap job_did.ZerosSynced r = tt
floor-steps in_heap job_did.BodyWritten r = tt
floor-steps in_heap job_did.BodySynced r = (tt, tt)
floor-steps in_heap job_did.WroteEntry r = tt
floor-steps in_heap job_did.GateClosed r = tt
floor-steps in_heap job_did.WroteRoll r = tt
floor-steps in_heap job_did.RollSynced r = tt
floor-steps in_heap job_did.RootWritten r = tt
floor-steps in_heap job_did.RootSynced r = tt
floor-steps in_heap job_did.TurnWritten r = tt
floor-steps in_heap job_did.GateWritten r = (tt, tt)
floor-steps in_heap job_did.JobDone r = (tt, tt)

by-raising : (in_heap : Bool) (what : JobDid) (o : Option Raising) → AllByRecursion BeginsNone (floor_ends in_heap what o)
by-raising in_heap what None = tt
by-raising in_heap what (Some r) = floor-steps in_heap what r

job-breaks : (gate : Gate) → AllByRecursion BeginsNone (job_breaks_in gate)
job-breaks Shut = (tt, tt)
job-breaks (Due OfGroup) = (tt, tt)
job-breaks (Due OfFloor) = (tt, (tt, tt))
job-breaks (MayBeOpen change) = (tt, tt)

job-steps : (in_heap : Bool) (m : Machine Value) (said : Result JobDid PumpFault) → AllByRecursion BeginsNone (job_ends_in in_heap m said)
job-steps in_heap m (Ok what) = by-raising in_heap what m.raising
job-steps in_heap m (Err pump.Busy) = tt
job-steps in_heap m (Err pump.NoMemory) = tt
job-steps in_heap m (Err pump.Failed) = job-breaks m.gate

submitted-keeps : (m : Machine Value) (s : Submission Value) (said : Result SubmitOutcome SubmitFault) (event : Event Value) (place : Place)
    → Submitted m s said event place → KeepsFloors event
submitted-keeps m s (Ok (outcome.ReadOnly time)) event place is = subst KeepsFloors (sym is.1) tt
submitted-keeps m s (Ok outcome.Queued) event place is = subst KeepsFloors (sym is.0) tt
submitted-keeps m s (Err (refused.Conflict key)) event place is = subst KeepsFloors (sym is.0) tt
submitted-keeps m s (Err refused.ClockEnd) event place is = subst KeepsFloors (sym is.0) tt
submitted-keeps m s (Err refused.HeapFull) event place is = subst KeepsFloors (sym is.0) tt
submitted-keeps m s (Err refused.StatusFull) event place is = subst KeepsFloors (sym is.0) tt
submitted-keeps m s (Err refused.NoMemory) event place is = subst KeepsFloors (sym is.0) tt
submitted-keeps m s (Err refused.Failed) event place is = subst KeepsFloors (sym is.0) tt
submitted-keeps m s (Err refused.Stranger) event place is = absurd is

-- ---- call by call

same-floors : (w next : World) → next ≡ same w → SameFloors w.machine next.machine
same-floors w next is = all-same w.machine next.machine (ap (λ (x : World). x.machine) is)

spent-floors : (w : World) (i : ℕ) (next : World) → next ≡ spent w i → SameFloors w.machine next.machine
spent-floors w i next is = all-same w.machine next.machine (ap (λ (x : World). x.machine) is)

begin-floors : (w : World) (said : Result (Unit {0}) BeginFault) (next : World) → Begins w said next → SameFloors w.machine next.machine
begin-floors w (Ok u) next does = by-state w.machine (steps.begun w.machine) next.machine (refl, refl) (ap (λ (x : World). x.machine) does.1)
begin-floors w (Err begin.NoMemory) next does = same-floors w next does.1
begin-floors w (Err begin.Failed) next does = same-floors w next does.1

put-floors : (w : World) (i : ℕ) (key : Key) (value : Value) (p : Place) (said : Result (Unit {0}) TxnFault) (next : World) → Puts w i key value p said next
    → SameFloors w.machine next.machine
put-floors w i key value (Running snapshot writes) said next does = all-same w.machine next.machine (ap (λ (x : World). x.machine) does.2)
put-floors w i key value Free said next does = absurd does
put-floors w i key value (Waits t) said next does = absurd does
put-floors w i key value (Views h floors reclaimed) said next does = absurd does

delete-floors : (w : World) (i : ℕ) (key : Key) (p : Place) (said : Result (Unit {0}) TxnFault) (next : World) → Deletes w i key p said next
    → SameFloors w.machine next.machine
delete-floors w i key (Running snapshot writes) said next does = all-same w.machine next.machine (ap (λ (x : World). x.machine) does.2)
delete-floors w i key Free said next does = absurd does
delete-floors w i key (Waits t) said next does = absurd does
delete-floors w i key (Views h floors reclaimed) said next does = absurd does

submit-floors : (w : World) (i label now : ℕ) (p : Place) (said : Result SubmitOutcome SubmitFault) (next : World) → Submits w i label now p said next
    → SameFloors w.machine next.machine
submit-floors w i label now (Running snapshot writes) said next does =
    by-state w.machine does.1 next.machine
    (step-floors w.machine does.0 does.1 (submitted-keeps w.machine (submission snapshot writes label now) said does.0 does.2 does.3) does.4)
    (ap (λ (x : World). x.machine) does.5)
submit-floors w i label now Free said next does = absurd does
submit-floors w i label now (Waits t) said next does = absurd does
submit-floors w i label now (Views h floors reclaimed) said next does = absurd does

abort-floors : (w : World) (i : ℕ) (p : Place) (next : World) → Aborts w i p next → SameFloors w.machine next.machine
abort-floors w i (Running snapshot writes) next does =
    by-state w.machine does.0 next.machine (step-floors w.machine (Aborted snapshot) does.0 tt does.1) (ap (λ (x : World). x.machine) does.2)
abort-floors w i Free next does = absurd does
abort-floors w i (Waits t) next does = absurd does
abort-floors w i (Views h floors reclaimed) next does = absurd does

moves-floors : (w next : World) (failed : Bool) (Says : Type 0) (Is : Type 0) (events : List (Event Value)) → AllByRecursion KeepsFloors events
    → MatchBool failed (Says × (next ≡ same w)) ((after : Machine Value) × Is × steps.Run IsValue w.machine events after × (next ≡ same (moved w after)))
    → SameFloors w.machine next.machine
moves-floors w next true Says Is events keeps does = same-floors w next does.1
moves-floors w next false Says Is events keeps does =
    by-state w.machine does.0 next.machine (run-floors w.machine events does.0 keeps does.2) (ap (λ (x : World). x.machine) does.3)

redeem-floors : (w : World) (i : ℕ) (p : Place) (said : RedeemOutcome) (next : World) → Redeems w i p said next → SameFloors w.machine next.machine
redeem-floors w i (Waits time) (told.Done t) next does = spent-floors w i next does.1
redeem-floors w i (Waits time) told.Waiting next does = same-floors w next does.1
redeem-floors w i (Waits time) told.InDoubt next does = spent-floors w i next does.1
redeem-floors w i (Waits time) told.Stranger next does = absurd does
redeem-floors w i Free said next does = absurd does
redeem-floors w i (Running snapshot writes) said next does = absurd does
redeem-floors w i (Views h floors reclaimed) said next does = absurd does

view-floors : (w : World) (said : Result (Unit {0}) AllocError) (next : World) → Shows w said next → SameFloors w.machine next.machine
view-floors w (Ok u) next does = all-same w.machine next.machine (ap (λ (x : World). x.machine) does.2)
view-floors w (Err why) next does = same-floors w next does

-- the floor that a call begins, if it does and covers the relation, is no later
abbrev pub AllowsTime : (relation time : ℕ) → Call → Answer → Type 0
AllowsTime relation time c a =
    (scope : Option ℕ) (floor : ℕ) → c ≡ call.Floor scope floor → a ≡ answer.Floor (Ok tt) → IsTrue (covers scope relation) → floor ≤ time

abbrev pub KeepsTimes : World → Call → Answer → World → Type 0
KeepsTimes w c a next = (relation time : ℕ) → AllowsTime relation time c a → IsKeptTime w.machine relation time → IsKeptTime next.machine relation time

unraised : (w : World) (c : Call) (a : Answer) (next : World) → SameFloors w.machine next.machine → KeepsTimes w c a next
unraised w c a next is = λ relation time allows kept. held w.machine next.machine relation time is kept

floor-times : (w : World) (scope : Option ℕ) (floor : ℕ) (said : Result (Unit {0}) StartFault) (next : World) → Raises w scope floor said next
    → KeepsTimes w (call.Floor scope floor) (answer.Floor said) next
floor-times w scope floor (Ok u) next does =
    λ relation time allows kept. subst (λ (x : World). IsKeptTime x.machine relation time) (sym does.1) (
      kept.0,
      λ covered. allows scope floor refl refl covered,
    )
floor-times w scope floor (Err start.NothingToDo) next does = unraised w _ _ next (same-floors w next does.1)
floor-times w scope floor (Err (start.NotYet time)) next does = unraised w _ _ next (same-floors w next does.1)
floor-times w scope floor (Err (start.InUse snapshot)) next does = unraised w _ _ next (same-floors w next does.1)
floor-times w scope floor (Err start.Failed) next does = unraised w _ _ next (same-floors w next does.1)
floor-times w scope floor (Err start.WrongProfile) next does = unraised w _ _ next (same-floors w next does)
floor-times w scope floor (Err start.JobBusy) next does = unraised w _ _ next (same-floors w next does)
floor-times w scope floor (Err start.StatusFull) next does = unraised w _ _ next (same-floors w next does)
floor-times w scope floor (Err start.ArchiveFull) next does = absurd does
floor-times w scope floor (Err start.HeapFull) next does = unraised w _ _ next (same-floors w next does.1)
floor-times w scope floor (Err start.NoMemory) next does = unraised w _ _ next (same-floors w next does.1)
floor-times w scope floor (Err start.NotGrowable) next does = absurd does

job-times : (w : World) (said : Result JobDid PumpFault) (next : World) (failed : Bool)
    → MatchBool failed ((said ≡ Err pump.Failed) × (next ≡ same w)) ((after : Machine Value) × IfErr said IsStepFault
    × steps.Run IsValue w.machine (job_ends_in w.in_heap w.machine said) after × (next ≡ same (moved w after)))
    → KeepsTimes w call.JobPump (answer.JobPump said) next
job-times w said next true does = unraised w _ _ next (same-floors w next does.1)
job-times w said next false does = λ relation time allows kept.
    subst (λ (x : World). IsKeptTime x.machine relation time) (sym does.3)
    (run-kept w.machine (job_ends_in w.in_heap w.machine said) does.0 relation time (job-steps w.in_heap w.machine said) does.2 kept)

pub call-times : (tells : Bool) (w : World) (c : Call) (a : Answer) (next : World) → Does tells w c a next → KeepsTimes w c a next
call-times tells w c answer.Unknown next does = unraised w c answer.Unknown next (same-floors w next does.1)
call-times tells w call.Begin (answer.Begin said) next does = unraised w call.Begin (answer.Begin said) next (begin-floors w said next does)
call-times tells w (call.Put i key fields) (answer.Put said) next does =
    unraised w (call.Put i key fields) (answer.Put said) next (put-floors w i key _ (place_at w.places i) said next does)
call-times tells w (call.Delete i key) (answer.Delete said) next does =
    unraised w (call.Delete i key) (answer.Delete said) next (delete-floors w i key (place_at w.places i) said next does)
call-times tells w (call.Get i key) (answer.Get said) next does =
    unraised w (call.Get i key) (answer.Get said) next (same-floors w next (get-same w key (place_at w.places i) said next does))
call-times tells w (call.Scan i relation) (answer.Scan said) next does =
    unraised w (call.Scan i relation) (answer.Scan said) next (same-floors w next (scan-same w relation (place_at w.places i) said next does))
call-times tells w (call.Submit i label now) (answer.Submit said) next does =
    unraised w (call.Submit i label now) (answer.Submit said) next (submit-floors w i label now (place_at w.places i) said next does)
call-times tells w (call.Abort i) answer.Abort next does = unraised w (call.Abort i) answer.Abort next (abort-floors w i (place_at w.places i) next does)
call-times tells w call.Pump (answer.Pump said) next does =
    unraised w call.Pump (answer.Pump said) next (moves-floors w next w.machine.failed _ _ (pumped_in w.in_heap w.machine said)
    (pumped-keep w.in_heap w.machine said) does)
call-times tells w (call.Redeem i) (answer.Redeem said) next does =
    unraised w (call.Redeem i) (answer.Redeem said) next (redeem-floors w i (place_at w.places i) said next does)
call-times tells w (call.GiveUp i) answer.GiveUp next does =
    unraised w (call.GiveUp i) answer.GiveUp next (spent-floors w i next (give_up-spent w i (place_at w.places i) next does))
call-times tells w call.View (answer.View said) next does = unraised w call.View (answer.View said) next (view-floors w said next does)
call-times tells w (call.At i key time) (answer.At said) next does =
    unraised w (call.At i key time) (answer.At said) next (same-floors w next (asks-same tells w key time (place_at w.places i) said next does))
call-times tells w (call.ScanAt i relation time) (answer.ScanAt said) next does =
    unraised w (call.ScanAt i relation time) (answer.ScanAt said) next
    (same-floors w next (asks_scan-same tells w relation time (place_at w.places i) said next does))
call-times tells w (call.Between i key a b) (answer.Between said) next does =
    unraised w (call.Between i key a b) (answer.Between said) next (same-floors w next (asks_between-same tells w key a b (place_at w.places i) said next does))
call-times tells w (call.ScanBetween i relation a b) (answer.ScanBetween said) next does =
    unraised w (call.ScanBetween i relation a b) (answer.ScanBetween said) next
    (same-floors w next (asks_scan_between-same tells w relation a b (place_at w.places i) said next does))
call-times tells w (call.Recent i key time) (answer.Recent said) next does =
    unraised w (call.Recent i key time) (answer.Recent said) next (same-floors w next (asks_recent-same w key time (place_at w.places i) said next does))
call-times tells w (call.End i) answer.End next does =
    unraised w (call.End i) answer.End next (spent-floors w i next (closes-spent w i (place_at w.places i) next does))
call-times tells w (call.TimesOf label) (answer.TimesOf said) next does = unraised w (call.TimesOf label) (answer.TimesOf said) next (same-floors w next does.1)
call-times tells w (call.Archive upto) (answer.Archive said) next does =
    unraised w (call.Archive upto) (answer.Archive said) next (same-floors w next (archive-same w upto said next does))
call-times tells w call.Reclaim (answer.Reclaim said) next does =
    unraised w call.Reclaim (answer.Reclaim said) next (same-floors w next (reclaim-same w said next does))
call-times tells w (call.Floor scope floor) (answer.Floor said) next does = floor-times w scope floor said next does
call-times tells w call.Grow (answer.Grow said) next does = unraised w call.Grow (answer.Grow said) next (same-floors w next (grow-same w said next does))
call-times tells w call.JobPump (answer.JobPump said) next does = job-times w said next w.machine.failed does
call-times tells w c a next does = absurd does

-- What each call makes of a store and of what its callers hold, in the words of the store's own clauses.
use Rattle.std.specs.Prelude.{ℕ, ◌≡◌, ◌⊎◌, ◌++◌, Bool, List, [], ◌∷◌, map, slice_get, slice_set, Option, Some, Result, IfOk, OnOk, OnErr, Vec}
use Rattle.std.specs.declared.alloc.AllocError.{AllocError}
use Rattle.std.specs.declared.alloc.Global.{Global}
use Rattle.history.specs.declared.time.Version.{Version}
use Rattle.history.specs.Queries.{IsScan}
use Rattle.law_image.specs.Values.{Value}
use Rattle.snapshot.specs.Txn.{TxnValue, seen_by, with_put, with_delete}
use Rattle.snapshot.specs.declared.txn.TxnFault.{TxnFault}
use Rattle.group.specs.Tickets.{TicketValue}
use Rattle.group.specs.declared.answers.BeginFault.{BeginFault}
use Rattle.group.specs.declared.answers.PumpFault.{PumpFault}
use Rattle.group.specs.declared.answers.Redeemed.{Redeemed}
use Rattle.group.specs.declared.answers.Submitted.{Submitted}
use Rattle.group.specs.declared.answers.SubmitFault.{SubmitFault}
use Rattle.timequery.specs.View.{ViewValue}
use Rattle.timequery.specs.declared.fault.QueryFault.{QueryFault}
use Rattle.store.specs.declared.job.StartFault.{StartFault}
use Rattle.any_store.specs.declared.steps.Did.{Did}
use Rattle.any_store.specs.declared.steps.JobDid.{JobDid}
use Rattle.any_store.specs.Values.{StoreValue}
use Rattle.any_store.specs.Calls as stores
use Rattle.any_store.specs.Jobs.{StartsArchive, StartsReclaim, StartsFloor, StartsGrowth, PumpsJob}
use Rattle.any_store.specs.Queries as queries
use Rattle.law_opening.specs.Laws.{AnswersRecent}
use Rattle.run.specs.declared.calls.Call.{Call}
use Rattle.run.specs.declared.calls.Call.TheVariants as call
use Rattle.run.specs.declared.calls.Answer.{Answer}
use Rattle.run.specs.declared.calls.Answer.TheVariants as answer
use Rattle.run.specs.declared.held.Held.{Held}
use Rattle.run.specs.declared.held.Held.TheVariants as held
use Rattle.run.specs.Places.{HasNoTransaction, HasNoTicket, HasNoView, IsShared, begin_answer, submit_answer, redeem_answer, view_answer}

-- ---- what a call names

-- the place that the call names holds no such value
abbrev pub LacksNamed : Call → List Held → Type 0
LacksNamed (call.Put i key fields) xs = HasNoTransaction (slice_get xs i)
LacksNamed (call.Delete i key) xs = HasNoTransaction (slice_get xs i)
LacksNamed (call.Get i key) xs = HasNoTransaction (slice_get xs i)
LacksNamed (call.Scan i relation) xs = HasNoTransaction (slice_get xs i)
LacksNamed (call.Submit i label now) xs = HasNoTransaction (slice_get xs i)
LacksNamed (call.Abort i) xs = HasNoTransaction (slice_get xs i)
LacksNamed (call.Redeem i) xs = HasNoTicket (slice_get xs i)
LacksNamed (call.GiveUp i) xs = HasNoTicket (slice_get xs i)
LacksNamed (call.At i key time) xs = HasNoView (slice_get xs i)
LacksNamed (call.ScanAt i relation time) xs = HasNoView (slice_get xs i)
LacksNamed (call.Between i key a b) xs = HasNoView (slice_get xs i)
LacksNamed (call.ScanBetween i relation a b) xs = HasNoView (slice_get xs i)
LacksNamed (call.Recent i key time) xs = HasNoView (slice_get xs i)
LacksNamed (call.End i) xs = HasNoView (slice_get xs i)
LacksNamed c xs = ⊥

-- this is answered, and the call's own place, the next one, holds this
abbrev pub Yields : Answer → Answer → List Held → Held → List Held → Type 0
Yields said a xs x ys = (said ≡ a) × (ys ≡ xs ++ x ∷ [])

-- nothing is done where the place holds no such value
abbrev pub IsUnknown : StoreValue → List Held → Call → Answer → StoreValue → List Held → Type 0
IsUnknown old xs c said new ys = LacksNamed c xs × (new ≡ old) × Yields said answer.Unknown xs held.Nothing ys

-- ---- what a call leaves

-- the places hold what they held, and the call's own nothing
abbrev pub LeavesPlaces : Answer → Answer → List Held → List Held → Type 0
LeavesPlaces said a xs ys = Yields said a xs held.Nothing ys

-- a write of the transaction of a place changes that alone
abbrev pub WritesIn : StoreValue → List Held → ℕ → (TxnValue → TxnValue → Type 0) → Answer → Answer → StoreValue → List Held → Type 0
WritesIn old xs i Writes a said new ys =
    (t : TxnValue) × (after : TxnValue) × (slice_get xs i ≡ Some (held.Transaction t)) × Writes t after × (new ≡ old)
    × Yields said a (slice_set xs i (held.Transaction after)) held.Nothing ys

-- the transaction of a place is asked, and changes nothing
abbrev pub ReadsIn : StoreValue → List Held → ℕ → (TxnValue → Type 0) → Answer → Answer → StoreValue → List Held → Type 0
ReadsIn old xs i Reads a said new ys = (t : TxnValue) × (slice_get xs i ≡ Some (held.Transaction t)) × Reads t × (new ≡ old) × LeavesPlaces said a xs ys

-- the view of a place is asked
abbrev pub AsksIn : List Held → ℕ → (ViewValue → Type 0) → Answer → Answer → List Held → Type 0
AsksIn xs i Asks a said ys = (view : ViewValue) × (slice_get xs i ≡ Some (held.View view)) × Asks view × LeavesPlaces said a xs ys

-- ---- calls

-- the call is made of the store, and of what the place that it names holds
abbrev pub MakesCall : Bool → StoreValue → List Held → Call → Answer → StoreValue → List Held → Type 0
MakesCall tells old xs call.Begin a new ys =
    (said : Result TxnValue BeginFault) × stores.Begins old said new × Yields a (begin_answer said).0 xs (begin_answer said).1 ys
MakesCall tells old xs (call.Put i key fields) a new ys =
    (said : Result (Unit {0}) TxnFault)
    × WritesIn old xs i (λ t after. OnOk said (after ≡ with_put t key (map (λ field. field.now) fields.now))
    × OnErr said (after ≡ t)) (answer.Put said) a new ys
MakesCall tells old xs (call.Delete i key) a new ys =
    (said : Result (Unit {0}) TxnFault)
    × WritesIn old xs i (λ t after. OnOk said (after ≡ with_delete t key) × OnErr said (after ≡ t)) (answer.Delete said) a new ys
MakesCall tells old xs (call.Get i key) a new ys =
    (said : Result (Option Value) AllocError) × ReadsIn old xs i (λ t. IfOk said (λ value. value ≡ seen_by t key)) (answer.Get said) a new ys
MakesCall tells old xs (call.Scan i relation) a new ys =
    (said : Result (Vec (ℕ × Value) Global) AllocError)
    × ReadsIn old xs i (λ t. IfOk said (λ found. IsScan (seen_by t) relation found.items)) (answer.Scan said) a new ys
MakesCall tells old xs (call.Submit i label now) a new ys =
    (t : TxnValue) × (said : Result Submitted SubmitFault) × (slice_get xs i ≡ Some (held.Transaction t)) × stores.Submits old t label now said new
    × Yields a (submit_answer said).0 (slice_set xs i held.Nothing) (submit_answer said).1 ys
MakesCall tells old xs (call.Abort i) a new ys =
    (t : TxnValue) × (slice_get xs i ≡ Some (held.Transaction t)) × stores.Aborts old t new × LeavesPlaces a answer.Abort (slice_set xs i held.Nothing) ys
MakesCall tells old xs call.Pump a new ys = (said : Result Did PumpFault) × stores.Pumps tells old said new × LeavesPlaces a (answer.Pump said) xs ys
MakesCall tells old xs (call.Redeem i) a new ys =
    (k : TicketValue) × (said : Redeemed) × (slice_get xs i ≡ Some (held.Ticket k)) × stores.Redeems old k said new
    × LeavesPlaces a (redeem_answer said).0 (slice_set xs i (redeem_answer said).1) ys
MakesCall tells old xs (call.GiveUp i) a new ys =
    (k : TicketValue) × (slice_get xs i ≡ Some (held.Ticket k)) × (new ≡ old) × LeavesPlaces a answer.GiveUp (slice_set xs i held.Nothing) ys
MakesCall tells old xs call.View a new ys =
    (said : Result ViewValue AllocError) × IfOk said (queries.IsViewOf old) × (new ≡ old) × Yields a (view_answer said).0 xs (view_answer said).1 ys
MakesCall tells old xs (call.At i key time) a new ys =
    (said : Result (Option Value) QueryFault) × AsksIn xs i (λ view. queries.AnswersAtView tells old view key time said new) (answer.At said) a ys
MakesCall tells old xs (call.ScanAt i relation time) a new ys =
    (said : Result (Vec (ℕ × Value) Global) QueryFault)
    × AsksIn xs i (λ view. queries.AnswersScanAt tells old view relation time said new) (answer.ScanAt said) a ys
MakesCall tells old xs (call.Between i key from upto) a new ys =
    (said : Result (Vec (Version Value) Global) QueryFault)
    × AsksIn xs i (λ view. queries.AnswersRows tells old view key from upto said new) (answer.Between said) a ys
MakesCall tells old xs (call.ScanBetween i relation from upto) a new ys =
    (said : Result (Vec (ℕ × Version Value) Global) QueryFault)
    × AsksIn xs i (λ view. queries.AnswersScanRows tells old view relation from upto said new) (answer.ScanBetween said) a ys
MakesCall tells old xs (call.Recent i key time) a new ys =
    (said : Result (Option Value) QueryFault)
    × AsksIn xs i (λ view. ((found : Result (Option Value) QueryFault) × AnswersRecent view key time found × IsShared found said)
    × (new ≡ old)) (answer.Recent said) a ys
MakesCall tells old xs (call.End i) a new ys =
    (view : ViewValue) × (slice_get xs i ≡ Some (held.View view)) × (new ≡ old) × LeavesPlaces a answer.End (slice_set xs i held.Nothing) ys
MakesCall tells old xs (call.TimesOf label) a new ys =
    (said : Result (Vec ℕ Global) QueryFault) × queries.AnswersTimes tells old label said new × LeavesPlaces a (answer.TimesOf said) xs ys
MakesCall tells old xs (call.Archive upto) a new ys =
    (said : Result (Unit {0}) StartFault) × StartsArchive old upto said new × LeavesPlaces a (answer.Archive said) xs ys
MakesCall tells old xs call.Reclaim a new ys = (said : Result (Unit {0}) StartFault) × StartsReclaim old said new × LeavesPlaces a (answer.Reclaim said) xs ys
MakesCall tells old xs (call.Floor scope floor) a new ys =
    (said : Result (Unit {0}) StartFault) × StartsFloor old scope floor said new × LeavesPlaces a (answer.Floor said) xs ys
MakesCall tells old xs call.Grow a new ys = (said : Result (Unit {0}) StartFault) × StartsGrowth old said new × LeavesPlaces a (answer.Grow said) xs ys
MakesCall tells old xs call.JobPump a new ys = (said : Result JobDid PumpFault) × PumpsJob tells old said new × LeavesPlaces a (answer.JobPump said) xs ys

-- or nothing is done, where that place holds no such value
abbrev pub Makes : Bool → StoreValue → List Held → Call → Answer → StoreValue → List Held → Type 0
Makes tells old before c a new after = IsUnknown old before c a new after ⊎ MakesCall tells old before c a new after

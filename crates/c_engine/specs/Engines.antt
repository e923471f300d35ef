-- What the calls of an engine do to its store.
use Rattle.std.specs.Prelude.{◌≡◌, ◌≢◌, ◌⊎◌, ◌==◌, ◌&&◌, ◌%◌, ℕ, Bool, true, false, ℤ, List, [], filter, length, take, nat_le, Result, Ok, Err, Option, Some}
use Rattle.std.specs.Prelude.{None, MatchBool, MatchOption}
use Rattle.std.specs.declared.alloc.Global.{Global}
use Rattle.std.specs.declared.vec.Vec.{Vec}
use Rattle.disk.specs.Areas.{Areas, AreSound, Image}
use Rattle.disk.specs.Calls.{fresh_on}
use Rattle.group.specs.Tickets.{TicketValue}
use Rattle.group.specs.declared.answers.BeginFault.{BeginFault}
use Rattle.group.specs.declared.answers.PumpFault.{PumpFault}
use Rattle.group.specs.declared.answers.Redeemed.{Redeemed}
use Rattle.group.specs.declared.answers.Redeemed.TheVariants as redeemed
use Rattle.group.specs.declared.answers.Submitted.{Submitted}
use Rattle.group.specs.declared.answers.Submitted.TheVariants.{ReadOnly, Queued}
use Rattle.group.specs.declared.answers.SubmitFault.{SubmitFault}
use Rattle.recovery.specs.Faults as slot_faults
use Rattle.log_recovery.specs.Opening as log_faults
use Rattle.log_store.specs.Formats.{HasLogHeader}
use Rattle.recovery.specs.declared.fault.OpenFault.{OpenFault}
use Rattle.recovery.specs.declared.fault.OpenFault.TheVariants.{Device}
use Rattle.snapshot.specs.Txn.{TxnValue, AreTxnWrites}
use Rattle.snapshot.specs.declared.txn.TxnFault.{TxnFault}
use Rattle.any_store.specs.Calls.{Begins, Aborts, Submits, Redeems, Pumps, last, floors}
use Rattle.any_store.specs.Jobs.{StartsArchive, StartsReclaim, StartsFloor, StartsGrowth, PumpsJob}
use Rattle.any_store.specs.Opens.{Opens}
use Rattle.any_store.specs.Places.{log_area, job_area}
use Rattle.any_store.specs.Queries.{IsViewOf}
use Rattle.any_store.specs.Values.{StoreValue, disk_of, with_disk}
use Rattle.any_store.specs.declared.steps.Did.{Did}
use Rattle.any_store.specs.declared.steps.JobDid.{JobDid}
use Rattle.store.specs.declared.job.StartFault.{StartFault}
use Rattle.timequery.specs.View.{ViewValue}
use Rattle.timequery.specs.declared.fault.QueryFault.{QueryFault}
use Rattle.c_engine.specs.Codes.{IsOpenCode, begin_code, txn_code, IsSubmitCode, pump_code, IsStartCode, code_number}
use Rattle.c_engine.specs.FreePlaces.{AllTaken}
use Rattle.c_engine.specs.Held.{transaction_under, ticket_under, view_in, named, last_number, SameNumbers, IsKept, IsTaken, IsWritten}
use Rattle.c_engine.specs.HostCalls.{HostCall, call_in, Tells}
use Rattle.c_engine.specs.Queries.{LentTimes, IsFaultCode}
use Rattle.c_engine.specs.Steps.{call_of, told_step, told_due, of_group, of_job}
use Rattle.c_engine.specs.declared.code.Call.{Call}
use Rattle.c_engine.specs.declared.code.Code.{Code}
use Rattle.c_engine.specs.declared.code.Code.TheVariants as code
use Rattle.c_engine.specs.declared.code.Info.{Info}
use Rattle.c_engine.specs.declared.engine.Engine.{Engine}
use Rattle.c_engine.specs.declared.engine.Published.{Published}
use Rattle.c_engine.specs.declared.engine.EngineState.{EngineState}
use Rattle.c_engine.specs.declared.engine.EngineState.TheVariants.{Settled, Asks, Failed}
use Rattle.c_engine.specs.declared.device_call.DeviceCall.{DeviceCall}
use Rattle.c_engine.specs.declared.places.Held.TheVariants.{Transaction, Ticket, View}
use Rattle.c_engine.specs.declared.places.Places.{Places}
use Rattle.c_engine.specs.declared.step.Step.{Step}

-- ---- how an engine stands

-- why nothing is asked of the store now: a device call stands out, or one was refused
abbrev pub stopped_by : EngineState → Option Code
stopped_by Settled = None
stopped_by (Asks step) = Some code.Pending
stopped_by Failed = Some code.Failed

-- the store is what it was, and so is whether it is asked
abbrev pub KeepsStore : Engine → Engine → Type 0
KeepsStore old new = (new.store ≡ old.store) × (new.state ≡ old.state) × (new.before ≡ old.before)

-- and so is what stands under each number
abbrev pub KeepsNumbers : Engine → Engine → Type 0
KeepsNumbers old new = (new.places ≡ old.places) × (new.state ≡ old.state) × (new.before ≡ old.before)

-- there was no memory, and nothing has changed that a call can tell
abbrev pub LacksMemory : Engine → Code → Engine → Type 0
LacksMemory old said new = (said ≡ code.NoMemory) × KeepsStore old new × SameNumbers old.places new.places

-- all places are taken, and there is no room for one more
abbrev pub IsOutOfNumbers : Engine → Code → Engine → Type 0
IsOutOfNumbers old said new = AllTaken old.places.places.items × LacksMemory old said new

-- what is done while no device call stands out and none was refused; else the code says why, and nothing changes
abbrev pub WhileSettled : Engine → Code → Engine → Type 0 → Type 0
WhileSettled old said new Does = MatchOption (stopped_by old.state) Does (λ why. (said ≡ why) × (new ≡ old))

-- a device call stands out
abbrev pub asks : EngineState → Bool
asks Settled = false
asks (Asks step) = true
asks Failed = false

-- a device call was refused
abbrev pub is_failed : EngineState → Bool
is_failed Settled = false
is_failed (Asks step) = false
is_failed Failed = true

-- the step whose device call stands out
abbrev pub step_in : EngineState → Option Step
step_in Settled = None
step_in (Asks step) = Some step
step_in Failed = None

-- what is done while no device call stands out
abbrev pub UnlessAsked : Engine → Code → Engine → Type 0 → Type 0
UnlessAsked old said new Does = MatchBool (asks old.state) ((said ≡ code.Pending) × (new ≡ old)) Does

-- there is what was named, or else nothing changes
abbrev pub OfNumber : {T : Type 0} → Option T → Engine → Code → Engine → (T → Type 0) → Type 0
OfNumber found old said new Does = MatchOption found ((said ≡ code.Unknown) × (new ≡ old)) Does

-- nothing was asked of it yet: no number names anything, and each that it gives will have the lowest 15 bits of the mark
pub record IsNew (mark : ℕ) (e : Engine) : Type 0 where
  pub state : e.state ≡ Settled
  pub before : e.before ≡ None
  pub places : e.places.places.items ≡ []
  pub tag : e.places.tag ≡ mark % 32768

-- a store that is opened from these bytes, with nothing made yet; the times of its last commit and of its floor are told
abbrev pub OpensEngine : List ℕ → List ℕ → List ℕ → ℕ → Info → Engine → Type 0
OpensEngine status heap archive mark info e =
    (opened : StoreValue) × Opens true (fresh_on (record { status = status; heap = heap; archive = archive })) mark opened
    × (e.store ≡ with_disk opened (record { areas = (disk_of opened).areas; made = 0; refused = 0 })) × IsNew mark e × (info.a ≡ last e.store)
    × (info.b ≡ (floors e.store).every)

-- why an image is not read, by the first check that fails in the layout that its header says
abbrev pub IsImageFault : Image → OpenFault → Type 0
IsImageFault image why = ((¬ HasLogHeader image.status) × slot_faults.IsImageFault image why) ⊎ (HasLogHeader image.status × log_faults.IsImageFault image why)

-- no store is opened from these bytes, and why is told: bytes that are lent refuse no read
abbrev pub RefusesEngine : List ℕ → List ℕ → List ℕ → Code → Info → Type 0
RefusesEngine status heap archive said info =
    (why : OpenFault) × (why ≢ Device) × IsImageFault (record { status = status; heap = heap; archive = archive }) why × IsOpenCode why said info

-- the times of the last commit and of the floor; after a refused call those of before it
abbrev pub TellsTimes : EngineState → Engine → Code → Info → Type 0
TellsTimes Settled e result info = (result ≡ code.Ok) × (info.a ≡ last e.store) × (info.b ≡ (floors e.store).every)
TellsTimes (Asks step) e result info = result ≡ code.Pending
TellsTimes Failed e result info = MatchOption e.before (result ≡ code.Failed) (λ p. (result ≡ code.Ok) × (info.a ≡ p.last) × (info.b ≡ p.floor))

-- ---- device calls

-- this was published when the store was so
abbrev pub WasPublished : StoreValue → Published → Type 0
WasPublished v p = IsViewOf v p.view × (p.last ≡ last v) × (p.floor ≡ (floors v).every)

-- nothing stands out that did not, and nothing was refused since
abbrev pub KeepsState : Engine → Engine → Type 0
KeepsState old new = (new.state ≡ old.state) × (new.before ≡ old.before)

-- the step's device call stands out, if it has one, and what was published before it is kept; that it is due is told
abbrev pub StandsOut : Step → Published → Engine → Code → Info → Engine → Type 0
StandsOut step published old said info new = (new.store ≡ old.store) × (new.places ≡ old.places) × (said ≡ code.Ok) × (info ≡ told_due (call_of step))
    × MatchOption (call_of step) (KeepsState old new) (λ due. (new.state ≡ Asks step) × (new.before ≡ Some published))

-- a step was refused: where its device call was, which is counted, the store goes on no more
abbrev pub IsRefused : PumpFault → ℕ → Published → Engine → Code → Engine → Type 0
IsRefused why made published old said new = (new.store ≡ old.store) × (new.places ≡ old.places) × (said ≡ pump_code why)
    × MatchBool ((disk_of old.store).made == made) (KeepsState old new) ((new.state ≡ Failed) × (new.before ≡ Some published))

-- what was published when the store was so is kept
abbrev pub KeepsPublished : Engine → Engine → Type 0
KeepsPublished old new = MatchOption new.before ⊥ (WasPublished old.store)

-- A step was taken: its device call stands out, if it has one, and is told to be due. It was refused: where its device call was, which is counted, the store
-- goes on no more.
abbrev pub AfterStep : Result Step PumpFault → Engine → Code → Info → Engine → Type 0
AfterStep (Ok step) old said info new =
    (said ≡ code.Ok) × (info ≡ told_due (call_of step))
    × MatchOption (call_of step) (KeepsState old new) (λ due. (new.state ≡ Asks step) × KeepsPublished old new)
AfterStep (Err why) old said info new =
    (said ≡ pump_code why) × MatchBool ((disk_of new.store).made == (disk_of old.store).made) (KeepsState old new) ((new.state ≡ Failed)
    × KeepsPublished old new)

-- the device call that stands out, by its step
abbrev pub due_in : EngineState → Option DeviceCall
due_in Settled = None
due_in (Asks step) = call_of step
due_in Failed = None

-- which call that is, where these are the areas after it
abbrev pub due_call : Option DeviceCall → Areas → Option HostCall
due_call None areas = None
due_call (Some due) areas = call_in due areas

-- the device call that stands out is told, and none where none does
abbrev pub TellsCall : Engine → Code → Call → List ℕ → Type 0
TellsCall e said told out = Tells (due_call (due_in e.state) (disk_of e.store).areas) said told out

-- a call that stands out was made: what its step did is told, and the store goes on. Or it was refused, and it goes on no more.
abbrev pub HasCalled : Bool → Engine → Code → Info → Engine → Type 0
HasCalled made old said info new = MatchOption (step_in old.state) ((said ≡ code.None) × (new ≡ old))
    (λ step. (new.store ≡ old.store) × (new.places ≡ old.places)
    × MatchBool made ((said ≡ code.Ok) × (info ≡ told_step step) × (new.state ≡ Settled) × (new.before ≡ None)) ((said ≡ code.Failed) × (new.state ≡ Failed)
    × (new.before ≡ old.before)))

-- ---- transactions

-- what a begin answers is told; a transaction is kept, and its snapshot told
abbrev pub TellsBegin : Result TxnValue BeginFault → Places → Code → Info → Places → Type 0
TellsBegin (Ok txn) old said info new = (said ≡ code.Ok) × (info.b ≡ txn.snapshot) × IsKept (Transaction txn) info.a old new
TellsBegin (Err why) old said info new = (said ≡ begin_code why) × SameNumbers old new

-- there is no number for it, or a transaction begins
abbrev pub TakesTransaction : Engine → Code → Info → Engine → Type 0
TakesTransaction old said info new = IsOutOfNumbers old said new
    ⊎ ((new.state ≡ old.state) × (new.before ≡ old.before)
    × ((answer : Result TxnValue BeginFault) × Begins old.store answer new.store × TellsBegin answer old.places said info new.places))

-- begin: a transaction is kept under the number that is told, or the code says why not
abbrev pub BeginsEngine : Engine → Code → Info → Engine → Type 0
BeginsEngine old said info new = WhileSettled old said new (TakesTransaction old said info new)

-- the transaction of this number is written to so
abbrev pub Writes : ℕ → (TxnValue → Result (Unit {0}) TxnFault → TxnValue → Type 0) → Engine → Code → Engine → Type 0
Writes number Does old said new = OfNumber (transaction_under old number) old said new
    (λ _. KeepsStore old new × ((outcome : Result (Unit {0}) TxnFault) × IsWritten number Does outcome old.places new.places × (said ≡ txn_code outcome)))

-- what a submit answers is told; a ticket is kept
abbrev pub TellsSubmit : Result Submitted SubmitFault → Places → Code → Info → Places → Type 0
TellsSubmit (Ok (ReadOnly time)) old said info new = (said ≡ code.ReadOnly) × (info.a ≡ time) × (new ≡ old)
TellsSubmit (Ok (Queued ticket)) old said info new = (said ≡ code.Ok) × IsKept (Ticket ticket) info.a old new
TellsSubmit (Err why) old said info new = IsSubmitCode why said info × (new ≡ old)

-- the writes of a transaction that was taken out are queued; after a refused call it is given up
abbrev pub SubmitsTaken : TxnValue → ℕ → ℕ → Engine → Code → Info → Engine → Type 0
SubmitsTaken txn label now old said info new = AreTxnWrites txn.state txn.snapshot txn.writes × (new.state ≡ old.state) × (new.before ≡ old.before)
    × MatchBool (is_failed old.state) ((said ≡ code.Failed) × (new.places ≡ old.places) × Aborts old.store txn new.store)
    ((answer : Result Submitted SubmitFault) × Submits old.store txn label now answer new.store × TellsSubmit answer old.places said info new.places)

-- submit: the transaction's number is spent, and its writes are queued, or the code says why not
abbrev pub SubmitsEngine : ℕ → ℕ → ℕ → Engine → Code → Info → Engine → Type 0
SubmitsEngine number label now old said info new = UnlessAsked old said new (OfNumber (transaction_under old number) old said new
    (λ txn. (taken : Places) × IsTaken number old.places taken × SubmitsTaken txn label now (record old { places = taken }) said info new))

-- a transaction that was taken out is given up
abbrev pub AbortsTaken : TxnValue → Engine → Engine → Type 0
AbortsTaken txn old new = AreTxnWrites txn.state txn.snapshot txn.writes × KeepsNumbers old new × Aborts old.store txn new.store

-- abort: the transaction's number is spent, and its snapshot is given up
abbrev pub AbortsEngine : ℕ → Engine → Code → Engine → Type 0
AbortsEngine number old said new = OfNumber (transaction_under old number) old said new
    (λ txn. (said ≡ code.Ok) × ((taken : Places) × IsTaken number old.places taken × AbortsTaken txn (record old { places = taken }) new))

-- ---- groups and tickets

-- the store takes a step of its group; or there was no memory to keep what is published, and nothing changes
abbrev pub PumpsEngine : Engine → Code → Info → Engine → Type 0
PumpsEngine old said info new = WhileSettled old said new (((said ≡ code.NoMemory) × (new ≡ old))
    ⊎ ((answer : Result Did PumpFault) × Pumps true old.store answer new.store × AreSound (disk_of new.store).areas × (new.places ≡ old.places)
    × AfterStep (of_group (log_area old.store) answer) old said info new))

-- a commit of this time was published, also where a call was refused since
abbrev pub was_published : EngineState → Option Published → ℕ → Bool
was_published Settled before time = true
was_published (Asks step) None time = false
was_published (Asks step) (Some p) time = nat_le time p.last
was_published Failed None time = false
was_published Failed (Some p) time = nat_le time p.last

-- a ticket that waits is kept again; after a refused call it is in doubt
abbrev pub TellsWaiting : TicketValue → Engine → Code → Info → Places → Type 0
TellsWaiting ticket old said info new =
    MatchBool (is_failed old.state) ((said ≡ code.InDoubt) × (new ≡ old.places)) ((said ≡ code.Waiting) × IsKept (Ticket ticket) info.a old.places new)

-- a ticket that waits is kept again or is in doubt, and the store is what it was
abbrev pub KeepsTicket : TicketValue → Engine → Code → Info → Engine → Type 0
KeepsTicket ticket old said info new = KeepsStore old new × TellsWaiting ticket old said info new.places

-- what became of a ticket that was taken out is told
abbrev pub TellsRedeemed : Redeemed → Engine → Code → Info → Places → Type 0
TellsRedeemed (redeemed.Done time) old said info new =
    (new ≡ old.places) × MatchBool (was_published old.state old.before time) ((said ≡ code.Ok) × (info.a ≡ time)) (said ≡ code.InDoubt)
TellsRedeemed (redeemed.Waiting ticket) old said info new = TellsWaiting ticket old said info new
TellsRedeemed redeemed.InDoubt old said info new = (new ≡ old.places) × (said ≡ code.InDoubt)
TellsRedeemed redeemed.Stranger old said info new = (new ≡ old.places) × (said ≡ code.Stranger)

-- a ticket that was taken out is redeemed, and what became of it is told
abbrev pub RedeemsTaken : TicketValue → Engine → Code → Info → Engine → Type 0
RedeemsTaken ticket old said info new = (new.state ≡ old.state) × (new.before ≡ old.before)
    × ((answer : Redeemed) × Redeems old.store ticket answer new.store × TellsRedeemed answer old said info new.places)

-- redeem: the ticket is taken out, and what became of it is told; while it waits it is kept again
abbrev pub RedeemsEngine : ℕ → Engine → Code → Info → Engine → Type 0
RedeemsEngine number old said info new = UnlessAsked old said new (OfNumber (ticket_under old number) old said new
    (λ ticket. (taken : Places) × IsTaken number old.places taken × RedeemsTaken ticket (record old { places = taken }) said info new))

-- a ticket is spent, and the store is what it was
abbrev pub GivesUp : ℕ → Engine → Code → Engine → Type 0
GivesUp number old said new =
    OfNumber (ticket_under old number) old said new (λ _. (said ≡ code.Ok) × KeepsStore old new × IsTaken number old.places new.places)

-- of these times those that were published, also where a call was refused since
abbrev pub published_of : EngineState → Option Published → List ℕ → List ℕ
published_of Settled before times = times
published_of (Asks step) before times = times
published_of Failed None times = []
published_of Failed (Some p) times = filter (λ time. nat_le time p.last) times

-- so many times are told, and they stand in front, where there is room for all
abbrev pub AreTimesTold : List ℕ → Code → Info → List ℕ → Type 0
AreTimesTold found said info times =
    (info.a ≡ length found) × MatchBool (nat_le (length found) (length times)) ((said ≡ code.Ok) × (take info.a times ≡ found)) (said ≡ code.Small)

-- the times that were found are told, after a refused call those that were published before it; or the code says why they are not told
abbrev pub TellsFound : Result (Vec ℕ Global) QueryFault → Engine → Code → Info → List ℕ → Type 0
TellsFound (Ok found) e said info times = AreTimesTold (published_of e.state e.before found.items) said info times
TellsFound (Err why) e said info times = IsFaultCode why said info

-- the times of the commits with a label, over the archive that is lent
abbrev pub TellsLabels : List ℕ → ℕ → Engine → Code → Info → List ℕ → Type 0
TellsLabels archive label e said info times = MatchBool (asks e.state) (said ≡ code.Pending)
    ((answer : Result (Vec ℕ Global) QueryFault) × LentTimes archive e.store label answer × TellsFound answer e said info times)

-- ---- views

-- there is no number or no memory for one, or its number is told
abbrev pub TakesView : Engine → Code → Info → Engine → Type 0
TakesView old said info new =
    IsOutOfNumbers old said new ⊎ LacksMemory old said new
    ⊎ ((said ≡ code.Ok) × KeepsStore old new × ((view : ViewValue) × IsViewOf old.store view × IsKept (View view) info.a old.places new.places))

-- the number that is told names a view of what is published or, after a refused call, of what was before it
abbrev pub GivesView : Engine → Code → Info → Engine → Type 0
GivesView old said info new = UnlessAsked old said new (MatchBool (is_failed old.state)
    ((said ≡ code.Ok) × (new ≡ old) × (info.a ≡ last_number old.places))
    (TakesView old said info new))

-- a view is given back; that of before a refused call stays
abbrev pub EndsView : ℕ → Engine → Code → Engine → Type 0
EndsView number old said new = MatchBool ((number == last_number old.places) && is_failed old.state) ((said ≡ code.Ok) × (new ≡ old))
    (MatchOption (view_in (named old.places number)) ((said ≡ code.Unknown) × (new ≡ old)) (λ _. (said ≡ code.Ok) × KeepsStore old new
    × IsTaken number old.places new.places))

-- ---- jobs

-- whether a job began is told
abbrev pub TellsStart : Result (Unit {0}) StartFault → Code → Info → Type 0
TellsStart (Ok done) said info = said ≡ code.Ok
TellsStart (Err why) said info = IsStartCode why said info

-- a job begins so
abbrev pub StartsEngine : (StoreValue → Result (Unit {0}) StartFault → StoreValue → Type 0) → Engine → Code → Info → Engine → Type 0
StartsEngine Starts old said info new =
    WhileSettled old said new (KeepsNumbers old new
    × ((answer : Result (Unit {0}) StartFault) × Starts old.store answer new.store × TellsStart answer said info))

-- an archive up to a time begins, or the code says why not
abbrev pub ArchivesEngine : ℕ → Engine → Code → Info → Engine → Type 0
ArchivesEngine upto = StartsEngine (λ old answer new. StartsArchive old upto answer new)

-- a reclaim begins, or the code says why not
abbrev pub ReclaimsEngine : Engine → Code → Info → Engine → Type 0
ReclaimsEngine = StartsEngine StartsReclaim

-- a growth by one piece of slots begins, or the code says why not
abbrev pub GrowsEngine : Engine → Code → Info → Engine → Type 0
GrowsEngine = StartsEngine StartsGrowth

-- the floor of all relations begins to rise to a time, or the code says why not
abbrev pub RaisesEngine : ℕ → Engine → Code → Info → Engine → Type 0
RaisesEngine time = StartsEngine (λ old answer new. StartsFloor old None time answer new)

-- the floor of one relation begins to rise to a time, or the code says why not
abbrev pub RaisesFloorOf : ℕ → ℕ → Engine → Code → Info → Engine → Type 0
RaisesFloorOf relation time = StartsEngine (λ old answer new. StartsFloor old (Some relation) time answer new)

-- the store takes a step of its job, as it takes one of its group
abbrev pub PumpsJobOf : Engine → Code → Info → Engine → Type 0
PumpsJobOf old said info new = WhileSettled old said new (((said ≡ code.NoMemory) × (new ≡ old))
    ⊎ ((answer : Result JobDid PumpFault) × PumpsJob true old.store answer new.store × AreSound (disk_of new.store).areas × (new.places ≡ old.places)
    × AfterStep (of_job (job_area old.store) answer) old said info new))

-- ---- handles

-- what a call of a handle does to its engine, by the number of the code that it says; a handle with none stays so
abbrev pub OnHandle : (Engine → Code → Engine → Type 0) → Option Engine → ℤ → Option Engine → Type 0
OnHandle Does None number new = (number ≡ code_number code.Closed) × (new ≡ None)
OnHandle Does (Some old) number new = MatchOption new ⊥ (λ engine. (said : Code) × (number ≡ code_number said) × Does old said engine)

-- nothing changes
abbrev pub StaysSame : Option Engine → Option Engine → Type 0
StaysSame old new = new ≡ old

-- a handle is opened on these bytes, or stays without a store, and why is told; one that has a store keeps it
abbrev pub OpensHandle : List ℕ → List ℕ → List ℕ → ℕ → Option Engine → ℤ → Info → Option Engine → Type 0
OpensHandle status heap archive mark None number info None = (said : Code) × (number ≡ code_number said) × RefusesEngine status heap archive said info
OpensHandle status heap archive mark None number info (Some engine) = (number ≡ code_number code.Ok) × OpensEngine status heap archive mark info engine
OpensHandle status heap archive mark (Some old) number info new = (number ≡ code_number code.Busy) × (new ≡ Some old)

-- the store of a handle is ended, if it has one
abbrev pub ClosesHandle : Option Engine → ℤ → Option Engine → Type 0
ClosesHandle None number new = (number ≡ code_number code.Closed) × (new ≡ None)
ClosesHandle (Some old) number new = (number ≡ code_number code.Ok) × (new ≡ None)

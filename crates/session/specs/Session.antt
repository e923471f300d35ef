-- One line of the script, on a store and the names in use.
use Rattle.std.specs.Prelude.{◌≡◌, ◌≢◌, ◌==◌, if◌then◌else◌, ℕ, ◌+◌, ◌↔◌, Bool, true, false, not, ◌||◌, ◌⊎◌, ◌<◌, ◌^◌, nat_lt, List, [], ◌∷◌, ◌++◌, length}
use Rattle.std.specs.Prelude.{Option, Some, None, Result, Ok, Err, IfOk, OnOk, OnErr, IsSome, IsTrue, is_some, position, MatchOption, slice_get, remove}
use Rattle.std.specs.Str.{bytes_eq}
use Rattle.std.specs.declared.alloc.AllocError.{AllocError}
use Rattle.std.specs.declared.alloc.Global.{Global}
use Rattle.std.specs.declared.vec.Vec.{Vec}
use Rattle.disk.specs.Areas.{AreSound}
use Rattle.disk.specs.Calls.{DiskState}
use Rattle.history.specs.declared.key.Key.{Key}
use Rattle.history.specs.declared.time.Version.{Version}
use Rattle.group.specs.declared.answers.BeginFault.{BeginFault}
use Rattle.group.specs.declared.answers.Submitted.{Submitted}
use Rattle.group.specs.declared.answers.Submitted.TheVariants as submitted_as
use Rattle.group.specs.declared.answers.SubmitFault.{SubmitFault}
use Rattle.group.specs.declared.answers.PumpFault.{PumpFault}
use Rattle.group.specs.declared.answers.Redeemed.{Redeemed}
use Rattle.group.specs.declared.answers.Redeemed.TheVariants as redeemed_as
use Rattle.snapshot.specs.Txn.{TxnValue, AreTxnWrites, seen_by, with_put, with_delete, IsFullFor}
use Rattle.snapshot.specs.declared.txn.TxnFault.{TxnFault}
use Rattle.wire.specs.Values.{HasSizes}
use Rattle.snapshot.specs.declared.txn.TxnFault.TheVariants as refuses
use Rattle.timequery.specs.View.{ViewValue}
use Rattle.timequery.specs.declared.fault.QueryFault.{QueryFault}
use Rattle.timequery.specs.declared.fault.QueryFault.TheVariants as query
use Rattle.recovery.specs.declared.fault.OpenFault.{OpenFault}
use Rattle.store.specs.declared.job.StartFault.{StartFault}
use Rattle.any_store.specs.declared.steps.Did.{Did}
use Rattle.any_store.specs.declared.steps.Did.TheVariants as did
use Rattle.any_store.specs.declared.steps.JobDid.{JobDid}
use Rattle.any_store.specs.declared.steps.JobDid.TheVariants as job_did
use Rattle.any_store.specs.Values.{StoreValue, disk_of}
use Rattle.any_store.specs.Calls as stores
use Rattle.any_store.specs.Queries.{IsViewOf, AnswersAtView, AnswersScanAt, AnswersRows, AnswersTimes}
use Rattle.any_store.specs.Jobs.{StartsArchive, StartsReclaim, StartsFloor, StartsGrowth, PumpsJob}
use Rattle.any_store.specs.Opens.{Opens, OpenRefuses}
use Rattle.script.specs.declared.line.Line.{Line}
use Rattle.script.specs.declared.line.Line.TheVariants as line
use Rattle.session.specs.declared.fault.Fault.TheVariants as fault
use Rattle.session.specs.declared.names.OpenName.{OpenName}
use Rattle.session.specs.declared.names.TicketName.{TicketName}
use Rattle.session.specs.declared.reply.Reply.{Reply}
use Rattle.session.specs.declared.reply.Reply.TheVariants as reply
use Rattle.session.specs.declared.stepping.Work.{Work}
use Rattle.session.specs.declared.stepping.Work.TheVariants as work
use Rattle.session.specs.Texts.{Text}

-- what a session is: its store, and what each name in use stands for
pub record State : Type 0 where
  pub store : StoreValue
  -- the names of open transactions, and those of tickets
  pub opened : List OpenName
  pub tickets : List TicketName

-- a session that begins on a store, with no name in use
abbrev pub fresh : StoreValue → State
fresh store = record { store = store; opened = []; tickets = [] }

-- what a closed store gives back, and what a store is
abbrev pub Given : Type 0
Given = DiskState

-- what a store is, as the theorems tell it
abbrev pub Stored : Type 0
Stored = StoreValue

-- an open transaction has this name
abbrev pub names_txn : Text → OpenName → Bool
names_txn name e = bytes_eq e.name name

-- a ticket has this name
abbrev pub names_ticket : Text → TicketName → Bool
names_ticket name e = bytes_eq e.name name

-- where the open transaction of a name is in the list, if it is there
abbrev pub txn_place : Text → State → Option ℕ
txn_place name s = position (names_txn name) s.opened

-- where the ticket of a name is in the list, if it is there
abbrev pub ticket_place : Text → State → Option ℕ
ticket_place name s = position (names_ticket name) s.tickets

-- a name in use is not given again, and at most 64 are in use
abbrev pub is_taken : Text → State → Bool
is_taken name s = is_some (txn_place name s) || (is_some (ticket_place name s) || not (nat_lt (length s.opened + length s.tickets) 64))

-- nothing happens but that the name is refused
abbrev pub RefusesName : State → Reply → State → Type 0
RefusesName old r new = (r ≡ reply.Refused fault.Name) × (new ≡ old)

-- the one where the test is true, the other where it is false
abbrev pub IfTest : Bool → Type 0 → Type 0 → Type 0
IfTest b P Q = (b ≡ true → P) × (b ≡ false → Q)

-- the answer to `begin`: the snapshot, or why none begins
abbrev pub begun : Result TxnValue BeginFault → Reply
begun (Ok txn) = reply.Snapshot txn.snapshot
begun (Err f) = reply.Refused (fault.Begin f)

-- the open transactions after a begin: one more under its name, unless it was refused
abbrev pub with_begun : Text → List OpenName → Result TxnValue BeginFault → List OpenName
with_begun name opened (Ok txn) = opened ++ record { name = name; txn = txn } ∷ []
with_begun name opened (Err f) = opened

-- `begin` with a free name: the store begins a transaction, which stands under the name from then on
abbrev pub BeginStep : State → Text → Reply → State → Type 0
BeginStep old name r new = (answer : Result TxnValue BeginFault) × stores.Begins old.store answer new.store × (r ≡ begun answer)
    × (new.opened ≡ with_begun name old.opened answer) × (new.tickets ≡ old.tickets)

-- what a transaction answers to a put
pub record AnswersPut (old : TxnValue) (key : Key) (fields : List Text) (answer : Result (Unit {0}) TxnFault) (new : TxnValue) : Type 0 where
  pub ok : OnOk answer (new ≡ with_put old key fields)
  pub missing : answer ≢ Err refuses.Missing
  pub too_many : (answer ≡ Err refuses.TooManyKeys) ↔ IsFullFor old.writes key
  pub bad : (answer ≡ Err refuses.BadValue) ↔ ((¬ IsFullFor old.writes key) × (¬ HasSizes fields))
  pub err : OnErr answer (new ≡ old)

-- there is no memory for the fields, and the transaction is not asked
abbrev pub LacksMemory : TxnValue → Result (Unit {0}) TxnFault → TxnValue → Type 0
LacksMemory old answer new = (answer ≡ Err refuses.NoMemory) × (new ≡ old)

-- what a put answers
abbrev pub Puts : TxnValue → Key → List Text → Result (Unit {0}) TxnFault → TxnValue → Type 0
Puts old key fields answer new = LacksMemory old answer new ⊎ AnswersPut old key fields answer new

-- what a delete answers
pub record Deletes (old : TxnValue) (key : Key) (answer : Result (Unit {0}) TxnFault) (new : TxnValue) : Type 0 where
  pub ok : OnOk answer (new ≡ with_delete old key)
  pub missing : (answer ≡ Err refuses.Missing) ↔ (seen_by old key ≡ None)
  pub too_many : (answer ≡ Err refuses.TooManyKeys) ↔ (IsSome (seen_by old key) × IsFullFor old.writes key)
  pub bad : answer ≢ Err refuses.BadValue
  pub err : OnErr answer (new ≡ old)

-- the answer to a write of a transaction: ok, or why it is refused
abbrev pub done : Result (Unit {0}) TxnFault → Reply
done (Ok _) = reply.Ok
done (Err f) = reply.Refused (fault.Txn f)

-- the writes of a transaction are as a transaction's are
abbrev pub IsTxn : TxnValue → Type 0
IsTxn t = AreTxnWrites t.state t.snapshot t.writes

-- the transaction of a name becomes another, and the name goes to the end of the list
abbrev pub WithTxn : State → ℕ → OpenName → TxnValue → State → Type 0
WithTxn old i e txn new = (slice_get old.opened i ≡ Some e) × (new.store ≡ old.store)
    × (new.opened ≡ remove old.opened i ++ record e { txn = txn } ∷ []) × (new.tickets ≡ old.tickets)

-- `put`: the transaction at this place of the list writes the fields to the key, or refuses to
abbrev pub PutStep : State → ℕ → Key → List Text → Reply → State → Type 0
PutStep old i key fields r new = (e : OpenName) × (txn : TxnValue) × (answer : Result (Unit {0}) TxnFault)
    × WithTxn old i e txn new × Puts e.txn key fields answer txn × (r ≡ done answer)

-- `delete`: the transaction at this place of the list deletes the key, or refuses to
abbrev pub DeleteStep : State → ℕ → Key → Reply → State → Type 0
DeleteStep old i key r new = (e : OpenName) × (txn : TxnValue) × (answer : Result (Unit {0}) TxnFault)
    × WithTxn old i e txn new × Deletes e.txn key answer txn × (r ≡ done answer)

-- the answer to `get`: the value or none, or that there was no memory for it
abbrev pub seen : Result (Option (List Text)) AllocError → Reply
seen (Ok value) = reply.Found value
seen (Err e) = reply.Refused fault.NoMemory

-- `get`: what the transaction at this place of the list sees of the key; nothing changes
abbrev pub GetStep : State → ℕ → Key → Reply → State → Type 0
GetStep old i key r new = (e : OpenName) × (answer : Result (Option (List Text)) AllocError) × (slice_get old.opened i ≡ Some e)
    × IfOk answer (λ value. value ≡ seen_by e.txn key) × (r ≡ seen answer) × (new ≡ old)

-- `abort`: the store gives up the transaction at this place of the list, and its name is free
abbrev pub AbortStep : State → ℕ → Reply → State → Type 0
AbortStep old i r new = (e : OpenName) × (slice_get old.opened i ≡ Some e) × IsTxn e.txn × stores.Aborts old.store e.txn new.store × (r ≡ reply.Ok)
    × (new.opened ≡ remove old.opened i) × (new.tickets ≡ old.tickets)

-- the answer to `submit`: queued, or that it only reads, or why it is refused
abbrev pub submitted : Result Submitted SubmitFault → Reply
submitted (Ok (submitted_as.ReadOnly t)) = reply.ReadOnly t
submitted (Ok (submitted_as.Queued ticket)) = reply.Queued
submitted (Err f) = reply.Refused (fault.Submit f)

-- a queued commit's name stands for its ticket from then on; else it is free
abbrev pub with_submitted : Text → List TicketName → Result Submitted SubmitFault → List TicketName
with_submitted name tickets (Ok (submitted_as.ReadOnly t)) = tickets
with_submitted name tickets (Ok (submitted_as.Queued ticket)) = tickets ++ record { name = name; ticket = ticket } ∷ []
with_submitted name tickets (Err f) = tickets

-- `submit`: the store takes the transaction at this place, which is open no more whatever is answered
abbrev pub SubmitStep : State → ℕ → ℕ → ℕ → Reply → State → Type 0
SubmitStep old i label now r new = (e : OpenName) × (answer : Result Submitted SubmitFault) × (slice_get old.opened i ≡ Some e) × IsTxn e.txn × (label < 2 ^ 64)
    × stores.Submits old.store e.txn label now answer new.store × (r ≡ submitted answer)
    × (new.opened ≡ remove old.opened i) × (new.tickets ≡ with_submitted e.name old.tickets answer)

-- the answer to `redeem`: done at a time, waiting, in doubt, or refused as a stranger
abbrev pub redeemed : Redeemed → Reply
redeemed (redeemed_as.Done t) = reply.Done t
redeemed (redeemed_as.Waiting ticket) = reply.Waiting
redeemed redeemed_as.InDoubt = reply.InDoubt
redeemed redeemed_as.Stranger = reply.Refused fault.Stranger

-- the name stays in use only while its commit waits
abbrev pub with_redeemed : Text → List TicketName → Redeemed → List TicketName
with_redeemed name tickets (redeemed_as.Done t) = tickets
with_redeemed name tickets (redeemed_as.Waiting ticket) = tickets ++ record { name = name; ticket = ticket } ∷ []
with_redeemed name tickets redeemed_as.InDoubt = tickets
with_redeemed name tickets redeemed_as.Stranger = tickets

-- `redeem`: the ticket at this place of the list is redeemed, and stays under its name only while it waits
abbrev pub RedeemStep : State → ℕ → Reply → State → Type 0
RedeemStep old i r new = (e : TicketName) × (answer : Redeemed) × (slice_get old.tickets i ≡ Some e)
    × stores.Redeems old.store e.ticket answer new.store × (r ≡ redeemed answer)
    × (new.tickets ≡ with_redeemed e.name (remove old.tickets i) answer) × (new.opened ≡ old.opened)

-- a step is the last: it found nothing to do, or was refused
abbrev pub IsLast : {S : Type 0} → S → Result S PumpFault → Type 0
IsLast idle (Ok step) = step ≡ idle
IsLast idle (Err f) = Unit {0}

-- a step is taken and replied, and it is told whether it is the last
abbrev pub TakesOne : {S : Type 0} → (StoreValue → Result S PumpFault → StoreValue → Type 0) → S → (Result S PumpFault → Reply) → StoreValue → Reply → Bool
    → StoreValue → Type 0
TakesOne takes idle reply_of old r last new = (answer : Result _ PumpFault) × takes old answer new × (r ≡ reply_of answer) × (IsTrue last ↔ IsLast idle answer)

-- these steps are taken, and none of them is the last
abbrev pub TakesSteps : {S : Type 0} → (StoreValue → Result S PumpFault → StoreValue → Type 0) → S → StoreValue → List S → StoreValue → Type 0
TakesSteps takes idle old [] new = new ≡ old
TakesSteps takes idle old (step ∷ steps) new = (mid : StoreValue) × takes old (Ok step) mid × (step ≢ idle) × TakesSteps takes idle mid steps new

-- steps are taken until the last, which alone is replied
pub record TakesAll {S : Type 0} (takes : StoreValue → Result S PumpFault → StoreValue → Type 0) (idle : S) (reply_of : Result S PumpFault
    → Reply) (old : StoreValue) (r : Reply) (new : StoreValue) : Type 0 where
  pub steps : List S
  pub mid : StoreValue
  pub before : TakesSteps takes idle old steps mid
  pub answer : Result S PumpFault
  pub last : takes mid answer new
  pub ends : IsLast idle answer
  pub reply : r ≡ reply_of answer

-- the answer to a step of the group: what it did, or why it is refused
abbrev pub pumped : Result Did PumpFault → Reply
pumped (Ok step) = reply.Did step
pumped (Err f) = reply.Refused (fault.Pump f)

-- the store takes a step of the commits that are queued, and a disk that tells its bytes is sound after it
pub record StepsGroup (tells : Bool) (old : StoreValue) (answer : Result Did PumpFault) (new : StoreValue) : Type 0 where
  pub is : stores.Pumps tells old answer new
  pub sound : IsTrue tells → AreSound (disk_of new).areas

-- `pump`: the store takes one step of the commits that are queued
abbrev pub PumpStep : Bool → StoreValue → Reply → StoreValue → Type 0
PumpStep tells old r new = (answer : Result Did PumpFault) × StepsGroup tells old answer new × (r ≡ pumped answer)

-- `flush`: steps of the commits that are queued are taken until the last
abbrev pub Flushes : Bool → StoreValue → Reply → StoreValue → Type 0
Flushes tells old r new = TakesAll (StepsGroup tells) did.Idle pumped old r new

-- the answer to a line that begins a job: it has begun, or why it has not
abbrev pub started : Result (Unit {0}) StartFault → Reply
started (Ok _) = reply.Started
started (Err f) = reply.Refused (fault.Start f)

-- `archive`: the store begins an archive up to a time, or refuses to
abbrev pub ArchiveStep : StoreValue → ℕ → Reply → StoreValue → Type 0
ArchiveStep old upto r new = (answer : Result (Unit {0}) StartFault) × StartsArchive old upto answer new × (r ≡ started answer)

-- `reclaim`: the store begins a reclaim, or refuses to
abbrev pub ReclaimStep : StoreValue → Reply → StoreValue → Type 0
ReclaimStep old r new = (answer : Result (Unit {0}) StartFault) × StartsReclaim old answer new × (r ≡ started answer)

-- `floor`: the store begins to raise the floor of all relations or of one to a time, or refuses to
abbrev pub FloorStep : StoreValue → Option ℕ → ℕ → Reply → StoreValue → Type 0
FloorStep old scope time r new = (answer : Result (Unit {0}) StartFault) × StartsFloor old scope time answer new × (r ≡ started answer)

-- `grow`: the store begins a growth by one piece of slots, or refuses to
abbrev pub GrowStep : StoreValue → Reply → StoreValue → Type 0
GrowStep old r new = (answer : Result (Unit {0}) StartFault) × StartsGrowth old answer new × (r ≡ started answer)

-- the answer to a step of a job: what it did, or why it is refused
abbrev pub worked : Result JobDid PumpFault → Reply
worked (Ok step) = reply.JobDid step
worked (Err f) = reply.Refused (fault.Pump f)

-- the store takes a step of its job, and a disk that tells its bytes is sound after it
pub record StepsJob (tells : Bool) (old : StoreValue) (answer : Result JobDid PumpFault) (new : StoreValue) : Type 0 where
  pub is : PumpsJob tells old answer new
  pub sound : IsTrue tells → AreSound (disk_of new).areas

-- `job`: the store takes one step of its job
abbrev pub JobStep : Bool → StoreValue → Reply → StoreValue → Type 0
JobStep tells old r new = (answer : Result JobDid PumpFault) × StepsJob tells old answer new × (r ≡ worked answer)

-- `finish`: steps of the job are taken until the last
abbrev pub Finishes : Bool → StoreValue → Reply → StoreValue → Type 0
Finishes tells old r new = TakesAll (StepsJob tells) job_did.Idle worked old r new

-- a step of this work is taken
abbrev pub StepsWork : Bool → Work → StoreValue → Reply → Bool → StoreValue → Type 0
StepsWork tells work.Commits old r last new = TakesOne (StepsGroup tells) did.Idle pumped old r last new
StepsWork tells work.Job old r last new = TakesOne (StepsJob tells) job_did.Idle worked old r last new

-- steps of this work are taken until the last
abbrev pub EndsWork : Bool → Work → StoreValue → Reply → StoreValue → Type 0
EndsWork tells work.Commits old r new = Flushes tells old r new
EndsWork tells work.Job old r new = Finishes tells old r new

-- a view is taken, asked and ended; without memory for the view nothing is asked
abbrev pub Asks : Bool → StoreValue → Key → ℕ → Result (Option (List Text)) QueryFault → StoreValue → Type 0
Asks tells old key time answer new = (taken : Option ViewValue) × MatchOption taken ((answer ≡ Err query.NoMemory) × (new ≡ old))
    (λ view. IsViewOf old view × AnswersAtView tells old view key time answer new)

-- the answer to `at`: the value or none, or why the query is refused
abbrev pub found : Result (Option (List Text)) QueryFault → Reply
found (Ok value) = reply.Found value
found (Err f) = reply.Refused (fault.Query f)

-- `at`: what a view that is taken now says of a key at a time
abbrev pub AtStep : Bool → StoreValue → Key → ℕ → Reply → StoreValue → Type 0
AtStep tells old key time r new = (answer : Result (Option (List Text)) QueryFault) × Asks tells old key time answer new × (r ≡ found answer)

-- so for a scan at a time
abbrev pub AsksScan : Bool → StoreValue → ℕ → ℕ → Result (Vec (ℕ × List Text) Global) QueryFault → StoreValue → Type 0
AsksScan tells old relation time answer new = (taken : Option ViewValue) × MatchOption taken ((answer ≡ Err query.NoMemory) × (new ≡ old))
    (λ view. IsViewOf old view × AnswersScanAt tells old view relation time answer new)

-- the answer to `scan`: the records with their values, or why the query is refused
abbrev pub records_found : Result (Vec (ℕ × List Text) Global) QueryFault → Reply
records_found (Ok found) = reply.Records found
records_found (Err f) = reply.Refused (fault.Query f)

-- `scan`: what a view that is taken now says of a relation's records at a time
abbrev pub ScanStep : Bool → StoreValue → ℕ → ℕ → Reply → StoreValue → Type 0
ScanStep tells old relation time r new =
    (answer : Result (Vec (ℕ × List Text) Global) QueryFault) × AsksScan tells old relation time answer new × (r ≡ records_found answer)

-- and for the rows of an interval
abbrev pub AsksRows : Bool → StoreValue → Key → ℕ → ℕ → Result (Vec (Version (List Text)) Global) QueryFault → StoreValue → Type 0
AsksRows tells old key a b answer new = (taken : Option ViewValue) × MatchOption taken ((answer ≡ Err query.NoMemory) × (new ≡ old))
    (λ view. IsViewOf old view × AnswersRows tells old view key a b answer new)

-- the answer to `between`: the rows, or why the query is refused
abbrev pub rows_found : Result (Vec (Version (List Text)) Global) QueryFault → Reply
rows_found (Ok rows) = reply.Rows rows
rows_found (Err f) = reply.Refused (fault.Query f)

-- `between`: what a view that is taken now says of a key's rows from a to b
abbrev pub BetweenStep : Bool → StoreValue → Key → ℕ → ℕ → Reply → StoreValue → Type 0
BetweenStep tells old key a b r new =
    (answer : Result (Vec (Version (List Text)) Global) QueryFault) × AsksRows tells old key a b answer new × (r ≡ rows_found answer)

-- the answer to `times`: the times, or why the query is refused
abbrev pub times_found : Result (Vec ℕ Global) QueryFault → Reply
times_found (Ok times) = reply.Times times
times_found (Err f) = reply.Refused (fault.Query f)

-- `times`: what the store says of the commits with a label
abbrev pub TimesStep : Bool → StoreValue → ℕ → Reply → StoreValue → Type 0
TimesStep tells old label r new = (answer : Result (Vec ℕ Global) QueryFault) × AnswersTimes tells old label answer new × (r ≡ times_found answer)

-- a step of the store alone
abbrev pub KeepsNames : State → State → Type 0
KeepsNames old new = (new.opened ≡ old.opened) × (new.tickets ≡ old.tickets)

-- each open transaction is aborted, in the order of the list
abbrev pub AbortsAll : StoreValue → List OpenName → StoreValue → Type 0
AbortsAll old [] new = new ≡ old
AbortsAll old (e ∷ rest) new = (mid : StoreValue) × IsTxn e.txn × stores.Aborts old e.txn mid × AbortsAll mid rest new

-- what is open is aborted, tickets are given up, and the store is closed
abbrev pub Closes : State → DiskState → Type 0
Closes old given = (end : StoreValue) × AbortsAll old.store old.opened end × (given ≡ disk_of end)

-- what is said of a store that is open: its last commit and its floor, or how many relations have one where each has its own
abbrev pub opened_reply : StoreValue → Reply
opened_reply v =
    if stores.has_own_floors v then reply.OpenedByRelation (stores.last v) (length (stores.floors v).own)
    else reply.Opened (stores.last v) (stores.floors v).every

-- what is open is aborted, and the store is closed and opened again
pub record Reopens (tells : Bool) (old : State) (r : Reply) (new : State) : Type 0 where
  pub given : DiskState
  pub closes : Closes old given
  -- a disk that tells its bytes is sound
  pub sound : IsTrue tells → AreSound given.areas
  pub opened : StoreValue
  pub opens : Opens tells given 1 opened
  pub reply : r ≡ opened_reply opened
  pub names : new ≡ fresh opened

-- it is closed, and does not open
pub record DoesNotReopen (tells : Bool) (old : State) (f : OpenFault) (disk : DiskState) : Type 0 where
  pub given : DiskState
  pub closes : Closes old given
  pub sound : IsTrue tells → AreSound given.areas
  pub refuses : OpenRefuses tells given f disk

-- a line that ends the run: a `reopen` that is refused
abbrev pub Refuses : Bool → State → Line → OpenFault → DiskState → Type 0
Refuses tells old line.Reopen f disk = DoesNotReopen tells old f disk
Refuses tells old _ f disk = ⊥

-- from old, a line is answered so and leaves new
abbrev pub Step : Bool → State → Line → Reply → State → Type 0
Step tells old (line.Begin name) r new = IfTest (is_taken name old) (RefusesName old r new) (BeginStep old name r new)
Step tells old (line.Put name key fields) r new = MatchOption (txn_place name old) (RefusesName old r new) (λ i. PutStep old i key fields r new)
Step tells old (line.Delete name key) r new = MatchOption (txn_place name old) (RefusesName old r new) (λ i. DeleteStep old i key r new)
Step tells old (line.Get name key) r new = MatchOption (txn_place name old) (RefusesName old r new) (λ i. GetStep old i key r new)
Step tells old (line.Submit name label now) r new = MatchOption (txn_place name old) (RefusesName old r new) (λ i. SubmitStep old i label now r new)
Step tells old (line.Abort name) r new = MatchOption (txn_place name old) (RefusesName old r new) (λ i. AbortStep old i r new)
Step tells old (line.Redeem name) r new = MatchOption (ticket_place name old) (RefusesName old r new) (λ i. RedeemStep old i r new)
Step tells old line.Pump r new = PumpStep tells old.store r new.store × KeepsNames old new
Step tells old line.Flush r new = Flushes tells old.store r new.store × KeepsNames old new
Step tells old (line.At key time) r new = AtStep tells old.store key time r new.store × KeepsNames old new
Step tells old (line.Between key a b) r new = BetweenStep tells old.store key a b r new.store × KeepsNames old new
Step tells old (line.Scan relation time) r new = ScanStep tells old.store relation time r new.store × KeepsNames old new
Step tells old (line.Times label) r new = TimesStep tells old.store label r new.store × KeepsNames old new
Step tells old (line.Archive upto) r new = ArchiveStep old.store upto r new.store × KeepsNames old new
Step tells old line.Reclaim r new = ReclaimStep old.store r new.store × KeepsNames old new
Step tells old (line.Floor scope time) r new = FloorStep old.store scope time r new.store × KeepsNames old new
Step tells old line.Grow r new = GrowStep old.store r new.store × KeepsNames old new
Step tells old line.Job r new = JobStep tells old.store r new.store × KeepsNames old new
Step tells old line.Finish r new = Finishes tells old.store r new.store × KeepsNames old new
Step tells old line.Reopen r new = Reopens tells old r new

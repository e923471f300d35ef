-- What each call answers and does, and lists of calls.
use Rattle.std.specs.Prelude.{ℕ, ◌≡◌, ◌≢◌, ◌<◌, ◌≤◌, ◌⊎◌, ◌+◌, ◌↔◌, Bool, true, false, List, [], map, is_some, IsSome, Option, None, Some, Contains}
use Rattle.std.specs.Prelude.{Result, Ok, Err, IfOk, IfErr, OnOk, OnErr, IsTrue, MatchBool, Vec, if◌then◌else◌}
use Rattle.std.specs.declared.alloc.Global.{Global}
use Rattle.std.specs.declared.alloc.AllocError.{AllocError}
use Rattle.history.specs.declared.key.Key.{Key}
use Rattle.history.specs.declared.key.KeyWrite.{KeyWrite}
use Rattle.history.specs.declared.time.Version.{Version}
use Rattle.history.specs.Answers as answers
use Rattle.history.specs.Histories.{last, state}
use Rattle.history.specs.Machine.{Machine}
use Rattle.history.specs.Queries.{seen, IsScanSeen}
use Rattle.history.specs.Steps.{Event, Step, Began, BeginRefused, Aborted, Decided, begun}
use Rattle.history.specs.FloorStarts as floors
use Rattle.history.specs.Steps as steps
use Rattle.history.specs.Submissions as submissions
use Rattle.history.specs.Submissions.{Submission, commit_made}
use Rattle.law_image.specs.Values.{Value, IsValue}
use Rattle.wire.specs.Values.{HasSizes}
use Rattle.snapshot.specs.Txn.{IsFullFor}
use Rattle.snapshot.specs.WriteSets.{with_write, without}
use Rattle.snapshot.specs.declared.txn.TxnFault.{TxnFault}
use Rattle.snapshot.specs.declared.txn.TxnFault.TheVariants as txn
use Rattle.group.specs.declared.answers.BeginFault.{BeginFault}
use Rattle.group.specs.declared.answers.BeginFault.TheVariants as begin
use Rattle.group.specs.declared.answers.PumpFault.{PumpFault}
use Rattle.group.specs.declared.answers.PumpFault.TheVariants as pump
use Rattle.group.specs.declared.answers.SubmitFault.{SubmitFault}
use Rattle.group.specs.declared.answers.SubmitFault.TheVariants as refused
use Rattle.timequery.specs.declared.fault.QueryFault.{QueryFault}
use Rattle.timequery.specs.declared.fault.QueryFault.TheVariants as query
use Rattle.any_store.specs.declared.steps.Did.{Did}
use Rattle.any_store.specs.declared.steps.JobDid.{JobDid}
use Rattle.any_store.specs.Values.{StoreValue, disk_of}
use Rattle.store.specs.declared.job.StartFault.{StartFault}
use Rattle.store.specs.declared.job.StartFault.TheVariants as start
use Rattle.law_refinement.specs.Homes.{IsSure}
use Rattle.law_refinement.specs.Calls.{raising_to}
use Rattle.law_any_store.specs.Calls.{pumped_in, job_ends_in}
use Rattle.law_log_queries.specs.Names.{SaysTimes}
use Rattle.law_refinement.specs.Laws.{SaysAt, SaysScanAt, SaysBetween, SaysScanBetween}
use Rattle.run.specs.declared.calls.Call.{Call}
use Rattle.run.specs.declared.calls.Call.TheVariants as call
use Rattle.run.specs.declared.calls.Answer.{Answer}
use Rattle.run.specs.declared.calls.Answer.TheVariants as answer
use Rattle.run.specs.declared.calls.SubmitOutcome.{SubmitOutcome}
use Rattle.run.specs.declared.calls.SubmitOutcome.TheVariants as outcome
use Rattle.run.specs.declared.calls.RedeemOutcome.{RedeemOutcome}
use Rattle.run.specs.declared.calls.RedeemOutcome.TheVariants as told
use Rattle.run.specs.declared.held.Held.{Held}
use Rattle.run.specs.Places.{Place, Free, Running, Waits, Views, place_at, IsNoTransaction, IsNoTicket, IsNoView}
use Rattle.run.specs.Worlds.{World, IsWorld, leaves, put, moved, same, spent}
use Rattle.run.specs.Makes.{Makes}

-- ---- transactions

-- a transaction reads what is published now, or the store has failed, or there is no memory
abbrev pub Begins : World → Result (Unit {0}) BeginFault → World → Type 0
Begins w (Ok u) next =
    Step IsValue w.machine (Began (last w.machine.published)) (begun w.machine)
    × (next ≡ leaves (moved w (begun w.machine)) (Running (last w.machine.published) []))
Begins w (Err begin.NoMemory) next = Step IsValue w.machine (BeginRefused steps.NoMemory) w.machine × (next ≡ same w)
Begins w (Err begin.Failed) next = Step IsValue w.machine (BeginRefused steps.Failed) w.machine × (next ≡ same w)

-- a put of a value: the writes after it, and which refusals come when
pub record PutSays (writes : List (KeyWrite Value)) (key : Key) (value : Value) (said : Result (Unit {0}) TxnFault) (after : List (KeyWrite Value)) : Type 0
  where
    pub ok : OnOk said (after ≡ with_write writes (record { key = key; write = Some value }))
    pub missing : said ≢ Err txn.Missing
    pub too_many : (said ≡ Err txn.TooManyKeys) ↔ IsFullFor writes key
    pub bad : (said ≡ Err txn.BadValue) ↔ ((¬ IsFullFor writes key) × (¬ HasSizes value))
    pub err : OnErr said (after ≡ writes)

-- the writes after a delete: a key that has no value at the snapshot needs no write
abbrev pub deleted : Option Value → List (KeyWrite Value) → Key → List (KeyWrite Value)
deleted at_snapshot writes key = if is_some at_snapshot then with_write writes (record { key = key; write = None }) else without writes key

-- a delete, by the key's value at the snapshot and what the transaction sees of it
pub record DeleteSays (at_snapshot sees : Option Value) (writes : List (KeyWrite Value)) (key : Key) (said : Result (Unit {0}) TxnFault)
    (after : List (KeyWrite Value)) : Type 0 where
  pub ok : OnOk said (after ≡ deleted at_snapshot writes key)
  pub missing : (said ≡ Err txn.Missing) ↔ (sees ≡ None)
  pub too_many : (said ≡ Err txn.TooManyKeys) ↔ (IsSome sees × IsFullFor writes key)
  pub bad : said ≢ Err txn.BadValue
  pub err : OnErr said (after ≡ writes)

-- a put to the transaction of a place changes its writes alone
abbrev pub Puts : World → ℕ → Key → Value → Place → Result (Unit {0}) TxnFault → World → Type 0
Puts w i key value (Running snapshot writes) said next =
    (after : List (KeyWrite Value)) × PutSays writes key value said after × (next ≡ same (put w i (Running snapshot after)))
Puts w i key value place said next = ⊥

-- a delete in the transaction of a place changes its writes alone
abbrev pub Deletes : World → ℕ → Key → Place → Result (Unit {0}) TxnFault → World → Type 0
Deletes w i key (Running snapshot writes) said next =
    (after : List (KeyWrite Value)) × DeleteSays (state w.machine.published snapshot key) (seen w.machine.published snapshot writes key) writes key said after
    × (next ≡ same (put w i (Running snapshot after)))
Deletes w i key place said next = ⊥

-- what is published at the snapshot, with the transaction's own writes over it
abbrev pub Gets : World → Key → Place → Result (Option Value) AllocError → World → Type 0
Gets w key (Running snapshot writes) said next = IfOk said (λ value. value ≡ seen w.machine.published snapshot writes key) × (next ≡ same w)
Gets w key place said next = ⊥

-- so is what a transaction sees of a relation
abbrev pub Scans : World → ℕ → Place → Result (Vec (ℕ × Value) Global) AllocError → World → Type 0
Scans w relation (Running snapshot writes) said next =
    IfOk said (λ found. IsScanSeen w.machine.published snapshot writes relation found.items) × (next ≡ same w)
Scans w relation place said next = ⊥

-- what a running transaction submits
abbrev pub submission : ℕ → List (KeyWrite Value) → ℕ → ℕ → Submission Value
submission snapshot writes label now = record { snapshot = snapshot; label = label; now = now; writes = writes }

-- the machine's event, and what the place of the call holds after it
abbrev pub Submitted : Machine Value → Submission Value → Result SubmitOutcome SubmitFault → Event Value → Place → Type 0
Submitted m s (Ok (outcome.ReadOnly time)) event place = (time ≡ s.snapshot) × (event ≡ Decided s submissions.Reads) × (place ≡ Free)
Submitted m s (Ok outcome.Queued) event place = (event ≡ Decided s (submissions.Queues (commit_made m s))) × (place ≡ Waits (commit_made m s).time)
Submitted m s (Err (refused.Conflict key)) event place = (event ≡ Decided s (submissions.Conflicts key)) × (place ≡ Free)
Submitted m s (Err refused.ClockEnd) event place = (event ≡ Decided s submissions.Ends) × (place ≡ Free)
Submitted m s (Err refused.HeapFull) event place = (event ≡ steps.Refused s steps.NoRoom) × (place ≡ Free)
Submitted m s (Err refused.StatusFull) event place = (event ≡ steps.Refused s steps.NoRoom) × (place ≡ Free)
Submitted m s (Err refused.NoMemory) event place = (event ≡ steps.Refused s steps.NoMemory) × (place ≡ Free)
Submitted m s (Err refused.Failed) event place = (event ≡ steps.Refused s steps.Failed) × (place ≡ Free)
Submitted m s (Err refused.Stranger) event place = ⊥

-- a submit is the machine's, and the transaction is over
abbrev pub Submits : World → ℕ → ℕ → ℕ → Place → Result SubmitOutcome SubmitFault → World → Type 0
Submits w i label now (Running snapshot writes) said next =
    (event : Event Value) × (after : Machine Value) × (place : Place) × Submitted w.machine (submission snapshot writes label now) said event place
    × Step IsValue w.machine event after × (next ≡ leaves (put (moved w after) i Free) place)
Submits w i label now place said next = ⊥

-- the transaction is over, and its snapshot given up
abbrev pub Aborts : World → ℕ → Place → World → Type 0
Aborts w i (Running snapshot writes) next = (after : Machine Value) × Step IsValue w.machine (Aborted snapshot) after × (next ≡ spent (moved w after) i)
Aborts w i place next = ⊥

-- ---- groups and tickets

-- a step is refused where a device call is, or where another slot is in the writing
abbrev pub IsStepFault : PumpFault → Type 0
IsStepFault why = (why ≡ pump.Failed) ⊎ (why ≡ pump.Busy) ⊎ (why ≡ pump.NoMemory)

-- A step of a group is a run of the machine, and nothing where the store has failed. One that is put off begins a group where the log is slots, and none where
-- it lies in the heap.
abbrev pub Pumps : World → Result Did PumpFault → World → Type 0
Pumps w said next = MatchBool w.machine.failed ((said ≡ Err pump.Failed) × (next ≡ same w))
    ((after : Machine Value) × IfErr said IsStepFault × steps.Run IsValue w.machine (pumped_in w.in_heap w.machine said) after × (next ≡ same (moved w after)))

-- a ticket is spent but by Waiting
abbrev pub Redeems : World → ℕ → Place → RedeemOutcome → World → Type 0
Redeems w i (Waits time) (told.Done done) next = (answers.redeemed_by w.machine time ≡ answers.Done done) × (next ≡ spent w i)
Redeems w i (Waits time) told.Waiting next = (answers.redeemed_by w.machine time ≡ answers.Waiting) × (next ≡ same w)
Redeems w i (Waits time) told.InDoubt next = (answers.redeemed_by w.machine time ≡ answers.InDoubt) × (next ≡ spent w i)
Redeems w i place said next = ⊥

-- a ticket is given up: it is spent without an answer
abbrev pub GivesUp : World → ℕ → Place → World → Type 0
GivesUp w i (Waits time) next = next ≡ spent w i
GivesUp w i place next = ⊥

-- ---- views and labels

-- a view is of what is published now
abbrev pub Shows : World → Result (Unit {0}) AllocError → World → Type 0
Shows w (Ok u) next = (reclaimed : ℕ) × (reclaimed ≤ last w.machine.published) × (next ≡ leaves w (Views w.machine.published w.machine.floors reclaimed))
Shows w (Err why) next = next ≡ same w

-- it answers by the history of its moment: for sure where the disk tells its bytes, and else from the reclaim mark of its moment on
abbrev pub Asks : Bool → World → Key → ℕ → Place → Result (Option Value) QueryFault → World → Type 0
Asks tells w key time (Views history floors reclaimed) said next =
    SaysAt (IsSure tells reclaimed time) (answers.at_answer history floors key time) said × (next ≡ same w)
Asks tells w key time place said next = ⊥

-- so does a scan, an interval of a key and one of a relation
abbrev pub AsksScan : Bool → World → ℕ → ℕ → Place → Result (Vec (ℕ × Value) Global) QueryFault → World → Type 0
AsksScan tells w relation time (Views history floors reclaimed) said next =
    SaysScanAt (IsSure tells reclaimed time) history floors relation time said × (next ≡ same w)
AsksScan tells w relation time place said next = ⊥

-- a view answers a query of a key from a to b by the history of its moment
abbrev pub AsksBetween : Bool → World → Key → ℕ → ℕ → Place → Result (Vec (Version Value) Global) QueryFault → World → Type 0
AsksBetween tells w key a b (Views history floors reclaimed) said next = SaysBetween (IsSure tells reclaimed a) history floors key a b said × (next ≡ same w)
AsksBetween tells w key a b place said next = ⊥

-- a view answers a scan of a relation from a to b by the history of its moment
abbrev pub AsksScanBetween : Bool → World → ℕ → ℕ → ℕ → Place → Result (Vec (ℕ × Version Value) Global) QueryFault → World → Type 0
AsksScanBetween tells w relation a b (Views history floors reclaimed) said next =
    SaysScanBetween (IsSure tells reclaimed a) history floors relation a b said × (next ≡ same w)
AsksScanBetween tells w relation a b place said next = ⊥

-- a view that is asked of memory alone answers by the history of its moment from its reclaim mark on; an earlier time that is kept needs the disk, and a value
-- that is found may lack memory for one more holder
abbrev pub SaysRecent : ℕ → ℕ → Result (Option Value) answers.QueryRefusal → Result (Option Value) QueryFault → Type 0
SaysRecent reclaimed time said (Ok value) = (reclaimed ≤ time) × (said ≡ Ok value)
SaysRecent reclaimed time said (Err (query.BeforeKept floor)) = said ≡ Err (answers.BeforeKept floor)
SaysRecent reclaimed time said (Err (query.NotYet late)) = said ≡ Err (answers.NotYet late)
SaysRecent reclaimed time said (Err query.NeedsDisk) = (time < reclaimed) × ((value : Option Value) × (said ≡ Ok value))
SaysRecent reclaimed time said (Err query.NoMemory) = (reclaimed ≤ time) × ((value : Value) × (said ≡ Ok (Some value)))
SaysRecent reclaimed time said (Err query.EmptyInterval) = ⊥
SaysRecent reclaimed time said (Err query.Device) = ⊥
SaysRecent reclaimed time said (Err (query.Damaged start)) = ⊥
SaysRecent reclaimed time said (Err query.Stranger) = ⊥

-- so does the view of a place
abbrev pub AsksRecent : World → Key → ℕ → Place → Result (Option Value) QueryFault → World → Type 0
AsksRecent w key time (Views history floors reclaimed) said next = SaysRecent reclaimed time (answers.at_answer history floors key time) said × (next ≡ same w)
AsksRecent w key time place said next = ⊥

-- a view is ended, and its place is free
abbrev pub Closes : World → ℕ → Place → World → Type 0
Closes w i (Views history floors reclaimed) next = next ≡ spent w i
Closes w i place next = ⊥

-- The times of the published commits with a label, or there is no memory for them. Where names may have left memory up to a time, the earlier ones are read on
-- the disk: they are told for sure where it tells its bytes, the later ones always.
abbrev pub ListsTimes : Bool → World → ℕ → Result (Vec ℕ Global) QueryFault → World → Type 0
ListsTimes tells w label said next = SaysTimes tells w.in_heap w.names_from (answers.times_of w.machine.published label) said × (next ≡ same w)

-- ---- archives

-- An archive begins up to a time that is published, and changes nothing of the machine's; which marks and slots there are the machine does not know, nor what
-- room the heap has where the log lies in it. No profile is without archives.
abbrev pub Archives : World → ℕ → Result (Unit {0}) StartFault → World → Type 0
Archives w upto (Ok u) next = (w.machine.failed ≡ false) × (upto ≤ last w.machine.published) × (next ≡ same w)
Archives w upto (Err start.Failed) next = (w.machine.failed ≡ true) × (next ≡ same w)
Archives w upto (Err start.WrongProfile) next = ⊥
Archives w upto (Err start.JobBusy) next = next ≡ same w
Archives w upto (Err start.NothingToDo) next = next ≡ same w
Archives w upto (Err (start.NotYet time)) next = (time ≡ last w.machine.published) × (time < upto) × (next ≡ same w)
Archives w upto (Err start.StatusFull) next = (w.in_heap ≡ false) × (next ≡ same w)
Archives w upto (Err start.ArchiveFull) next = next ≡ same w
Archives w upto (Err (start.InUse time)) next = ⊥
Archives w upto (Err start.HeapFull) next = IsTrue w.in_heap × (next ≡ same w)
Archives w upto (Err start.NoMemory) next = next ≡ same w
Archives w upto (Err start.NotGrowable) next = ⊥

-- Nor does a reclaim. It does not begin where an open transaction reads what it is to forget. No profile is without reclaims. Only where the log lies in the
-- heap does it write to the archive, which may have no room for that.
abbrev pub Reclaims : World → Result (Unit {0}) StartFault → World → Type 0
Reclaims w (Ok u) next = (w.machine.failed ≡ false) × (next ≡ same w)
Reclaims w (Err start.Failed) next = (w.machine.failed ≡ true) × (next ≡ same w)
Reclaims w (Err start.WrongProfile) next = ⊥
Reclaims w (Err start.JobBusy) next = next ≡ same w
Reclaims w (Err start.NothingToDo) next = next ≡ same w
Reclaims w (Err (start.InUse time)) next = Contains w.machine.snapshots time × (next ≡ same w)
Reclaims w (Err start.StatusFull) next = (w.in_heap ≡ false) × (next ≡ same w)
Reclaims w (Err start.HeapFull) next = next ≡ same w
Reclaims w (Err start.NoMemory) next = next ≡ same w
Reclaims w (Err (start.NotYet time)) next = ⊥
Reclaims w (Err start.ArchiveFull) next = IsTrue w.in_heap × (next ≡ same w)
Reclaims w (Err start.NotGrowable) next = ⊥

-- A floor begins where the machine may raise it, or is refused as the machine says; which slots there are, what job runs and the store's profile the machine
-- does not know, nor what room the heap has where the log lies in it. One of one relation may want for memory.
abbrev pub Raises : World → Option ℕ → ℕ → Result (Unit {0}) StartFault → World → Type 0
Raises w scope floor (Ok u) next =
    steps.Step IsValue w.machine (steps.FloorStarted (raising_to scope floor)) (steps.floor_started w.machine (raising_to scope floor))
    × (next ≡ same (moved w (steps.floor_started w.machine (raising_to scope floor))))
Raises w scope floor (Err start.NothingToDo) next =
    steps.Step IsValue w.machine (steps.FloorRefused (raising_to scope floor) floors.NothingToDo) w.machine × (next ≡ same w)
Raises w scope floor (Err (start.NotYet time)) next =
    steps.Step IsValue w.machine (steps.FloorRefused (raising_to scope floor) (floors.NotYet time)) w.machine × (next ≡ same w)
Raises w scope floor (Err (start.InUse snapshot)) next =
    steps.Step IsValue w.machine (steps.FloorRefused (raising_to scope floor) (floors.InUse snapshot)) w.machine × (next ≡ same w)
Raises w scope floor (Err start.Failed) next = (w.machine.failed ≡ true) × (next ≡ same w)
Raises w scope floor (Err start.WrongProfile) next = next ≡ same w
Raises w scope floor (Err start.JobBusy) next = next ≡ same w
Raises w scope floor (Err start.StatusFull) next = next ≡ same w
Raises w scope floor (Err start.ArchiveFull) next = ⊥
Raises w scope floor (Err start.HeapFull) next = IsTrue w.in_heap × (next ≡ same w)
Raises w scope floor (Err start.NoMemory) next = IsSome scope × (next ≡ same w)
Raises w scope floor (Err start.NotGrowable) next = ⊥

-- a growth changes nothing of the machine, nor does the machine know how many slots there may be
abbrev pub Grows : World → Result (Unit {0}) StartFault → World → Type 0
Grows w (Ok u) next = (w.machine.failed ≡ false) × (next ≡ same w)
Grows w (Err start.Failed) next = (w.machine.failed ≡ true) × (next ≡ same w)
Grows w (Err start.JobBusy) next = next ≡ same w
Grows w (Err start.NotGrowable) next = next ≡ same w
Grows w (Err start.WrongProfile) next = ⊥
Grows w (Err start.NothingToDo) next = ⊥
Grows w (Err (start.NotYet time)) next = ⊥
Grows w (Err (start.InUse time)) next = ⊥
Grows w (Err start.StatusFull) next = ⊥
Grows w (Err start.ArchiveFull) next = ⊥
Grows w (Err start.HeapFull) next = ⊥
Grows w (Err start.NoMemory) next = ⊥

-- Of a job's steps those of a floor are the machine's; and it fails where the device refuses one.
abbrev pub JobPumps : World → Result JobDid PumpFault → World → Type 0
JobPumps w said next = MatchBool w.machine.failed ((said ≡ Err pump.Failed) × (next ≡ same w))
    ((after : Machine Value) × IfErr said IsStepFault × steps.Run IsValue w.machine (job_ends_in w.in_heap w.machine said) after
    × (next ≡ same (moved w after)))

-- ---- calls

-- the place that the call names holds no such value
abbrev pub NamesNone : World → Call → Type 0
NamesNone w call.Begin = ⊥
NamesNone w (call.Put i key fields) = IsNoTransaction (place_at w.places i)
NamesNone w (call.Delete i key) = IsNoTransaction (place_at w.places i)
NamesNone w (call.Get i key) = IsNoTransaction (place_at w.places i)
NamesNone w (call.Scan i relation) = IsNoTransaction (place_at w.places i)
NamesNone w (call.Submit i label now) = IsNoTransaction (place_at w.places i)
NamesNone w (call.Abort i) = IsNoTransaction (place_at w.places i)
NamesNone w call.Pump = ⊥
NamesNone w (call.Redeem i) = IsNoTicket (place_at w.places i)
NamesNone w (call.GiveUp i) = IsNoTicket (place_at w.places i)
NamesNone w call.View = ⊥
NamesNone w (call.At i key time) = IsNoView (place_at w.places i)
NamesNone w (call.ScanAt i relation time) = IsNoView (place_at w.places i)
NamesNone w (call.Between i key a b) = IsNoView (place_at w.places i)
NamesNone w (call.ScanBetween i relation a b) = IsNoView (place_at w.places i)
NamesNone w (call.Recent i key time) = IsNoView (place_at w.places i)
NamesNone w (call.End i) = IsNoView (place_at w.places i)
NamesNone w (call.TimesOf label) = ⊥
NamesNone w (call.Archive upto) = ⊥
NamesNone w call.Reclaim = ⊥
NamesNone w (call.Floor scope floor) = ⊥
NamesNone w call.Grow = ⊥
NamesNone w call.JobPump = ⊥

-- The call may have this answer, and then lead to this world. It is Unknown exactly where the place that it names holds no such value.
abbrev pub Does : Bool → World → Call → Answer → World → Type 0
Does tells w c answer.Unknown next = NamesNone w c × (next ≡ same w)
Does tells w call.Begin (answer.Begin said) next = Begins w said next
Does tells w (call.Put i key fields) (answer.Put said) next = Puts w i key (map (λ field. field.now) fields.now) (place_at w.places i) said next
Does tells w (call.Delete i key) (answer.Delete said) next = Deletes w i key (place_at w.places i) said next
Does tells w (call.Get i key) (answer.Get said) next = Gets w key (place_at w.places i) said next
Does tells w (call.Scan i relation) (answer.Scan said) next = Scans w relation (place_at w.places i) said next
Does tells w (call.Submit i label now) (answer.Submit said) next = Submits w i label now (place_at w.places i) said next
Does tells w (call.Abort i) answer.Abort next = Aborts w i (place_at w.places i) next
Does tells w call.Pump (answer.Pump said) next = Pumps w said next
Does tells w (call.Redeem i) (answer.Redeem said) next = Redeems w i (place_at w.places i) said next
Does tells w (call.GiveUp i) answer.GiveUp next = GivesUp w i (place_at w.places i) next
Does tells w call.View (answer.View said) next = Shows w said next
Does tells w (call.At i key time) (answer.At said) next = Asks tells w key time (place_at w.places i) said next
Does tells w (call.ScanAt i relation time) (answer.ScanAt said) next = AsksScan tells w relation time (place_at w.places i) said next
Does tells w (call.Between i key a b) (answer.Between said) next = AsksBetween tells w key a b (place_at w.places i) said next
Does tells w (call.ScanBetween i relation a b) (answer.ScanBetween said) next = AsksScanBetween tells w relation a b (place_at w.places i) said next
Does tells w (call.Recent i key time) (answer.Recent said) next = AsksRecent w key time (place_at w.places i) said next
Does tells w (call.End i) answer.End next = Closes w i (place_at w.places i) next
Does tells w (call.TimesOf label) (answer.TimesOf said) next = ListsTimes tells w label said next
Does tells w (call.Archive upto) (answer.Archive said) next = Archives w upto said next
Does tells w call.Reclaim (answer.Reclaim said) next = Reclaims w said next
Does tells w (call.Floor scope floor) (answer.Floor said) next = Raises w scope floor said next
Does tells w call.Grow (answer.Grow said) next = Grows w said next
Does tells w call.JobPump (answer.JobPump said) next = JobPumps w said next
Does tells w c a next = ⊥

-- a run of the machine leads from one state to the other
abbrev pub Follows : Machine Value → Machine Value → Type 0
Follows m after = (events : List (Event Value)) × steps.Run IsValue m events after

-- from each world of the store and the places the call leads by this answer to one of theirs after it
abbrev pub Leads : Bool → StoreValue → List Held → Call → Answer → StoreValue → List Held → Type 0
Leads tells old before c a new after =
    (w : World) → IsWorld tells old before w → (next : World) × Does tells w c a next × Follows w.machine next.machine × IsWorld tells new after next

-- The call is made of the store and the places as the store's own clauses say, and so it leads from each of their worlds to one of theirs after it.
pub record Goes (tells : Bool) (old : StoreValue) (before : List Held) (c : Call) (a : Answer) (new : StoreValue) (after : List Held) : Type 0 where
  pub makes : Makes tells old before c a new after
  pub leads : Leads tells old before c a new after

-- at most one device call is made
abbrev pub MakesFew : StoreValue → StoreValue → Type 0
MakesFew old new = (disk_of new).made ≤ (disk_of old).made + 1

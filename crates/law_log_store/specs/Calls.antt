-- The calls of a store whose log lies in the heap, as its disk has them.
use Rattle.std.specs.Prelude.{ℕ, ◌≡◌, ◌⊎◌, ◌<◌, ◌≤◌, ◌^◌, max, Option, None, Some, Bool, true, false, IsTrue, [], ◌∷◌, ◌++◌, map, take, drop, filter}
use Rattle.std.specs.Prelude.{Result, Ok, Err}
use Rattle.history.specs.declared.key.Key.{Key}
use Rattle.history.specs.Versions.{versions, ends_after, stands_at}
use Rattle.history.specs.Histories.{History, MayAllFollow, last, versions_of}
use Rattle.disk.specs.Areas.{Image, AreSound, LeavesImage}
use Rattle.commits.specs.Steps.{grouped}
use Rattle.law_image.specs.Values.{Value, IsValue}
use Rattle.law_image.specs.Reading.{Reading}
use Rattle.law_image.specs.Facts.{heap_versions}
use Rattle.law_image.specs.StandsFor.{head_of}
use Rattle.snapshot.specs.Txn.{TxnValue}
use Rattle.group.specs.Tickets.{TicketValue}
use Rattle.group.specs.declared.answers.BeginFault.{BeginFault}
use Rattle.group.specs.declared.answers.PumpFault.{PumpFault}
use Rattle.group.specs.declared.answers.PumpFault.TheVariants as fault
use Rattle.group.specs.declared.answers.Redeemed.{Redeemed}
use Rattle.group.specs.declared.answers.Submitted.{Submitted}
use Rattle.group.specs.declared.answers.Submitted.TheVariants as submitted
use Rattle.group.specs.declared.answers.SubmitFault.{SubmitFault}
use Rattle.log_store.specs.Values.{LogStoreValue, IsInStep}
use Rattle.log_store.specs.Calls as calls
use Rattle.log_store.specs.Submits.{Submits}
use Rattle.log_store.specs.Pumps.{Pumps}
use Rattle.log_store.specs.Jobs.{PumpsJob, with_floor}
use Rattle.log_store.specs.declared.job.Job.{Job}
use Rattle.log_store.specs.declared.job.JobDid.{JobDid}
use Rattle.log_store.specs.declared.job.JobWork.{JobWork}
use Rattle.log_store.specs.declared.job.JobDid.TheVariants as job_did
use Rattle.log_room.specs.Rooms.{has_entry_room, has_last_room}
use Rattle.chains.specs.KeyWrites.{writes_of}
use Rattle.floors.specs.Floors.{floor_at}
use Rattle.vacuum.specs.Archives.{AreInMemory, unwritten}
use Rattle.wire.specs.Spelling.{IsRun}
use Rattle.log_store.specs.Archives.{BeginsArchive, records_to, run_to}
use Rattle.log_store.specs.Reclaims.{IsReclaimBegun, reclaimed}
use Rattle.log_base.specs.Laws.{is_named_between}
use Rattle.log_base.specs.Names.{name_of, named_between}
use Rattle.log_store.specs.declared.pump.Did.{Did}
use Rattle.log_store.specs.declared.pump.Did.TheVariants as did
use Rattle.law_log_store.specs.Standing.{StandsOnHeap, IsImageOf, StopsBy, StopsOnHeap, floors_with}

-- ---- steps of a group

-- how many commits a step published
abbrev pub count_in : Did → ℕ
count_in did.Idle = 0
count_in did.WroteExtent = 0
count_in did.GateClosed = 0
count_in did.HeapSynced = 0
count_in did.GateWritten = 0
count_in (did.Published count) = count

-- A store whose call was refused has failed, and what a stop may leave stands for what is published, or for that with the group.
pub record HasFailed (v : LogStoreValue) (h queue : History Value) (floors : ℕ → ℕ) : Type 0 where
  pub failed : v.commits.failed ≡ true
  pub stops : StopsOnHeap v h queue floors

-- what stands after a step, by its answer
abbrev pub StepsTo : Result Did PumpFault → LogStoreValue → LogStoreValue → History Value → History Value → (ℕ → ℕ) → Type 0
StepsTo (Ok what) old new h queue floors = StandsOnHeap new (h ++ take (count_in what) queue) (drop (count_in what) queue) floors
StepsTo (Err fault.Busy) old new h queue floors = new ≡ old
StepsTo (Err fault.NoMemory) old new h queue floors = new ≡ old
StepsTo (Err fault.Failed) old new h queue floors = HasFailed new h queue floors

-- a step of a store that works, on a device that tells of its calls
abbrev pub PumpSteps : Type 0
PumpSteps =
    (tells : Bool) (old new : LogStoreValue) (answer : Result Did PumpFault) (h queue : History Value) (floors : ℕ → ℕ)
    → IsTrue tells → old.commits.failed ≡ false → IsInStep old → AreSound new.disk.areas → StandsOnHeap old h queue floors
    → Pumps tells old answer new → StepsTo answer old new h queue floors

-- the image stands for what is published with the work of the job that runs
abbrev pub HasEntered : LogStoreValue → Image → History Value → (ℕ → ℕ) → Option Job → Type 0
HasEntered v image h floors None = ⊥
HasEntered v image h floors (Some job) = IsImageOf v.roots image h (floors_with job.work floors)

-- The image stands for what is published, or for that with the whole group: the one that stands, or the next one where none does; or for that with the work of
-- the job that runs. Part of a group is no front, nor is a commit that no group has.
abbrev pub IsFront : LogStoreValue → Image → History Value → History Value → (ℕ → ℕ) → Type 0
IsFront v image h queue floors =
    IsImageOf v.roots image h floors ⊎ IsImageOf v.roots image (h ++ take (grouped 1024 v.commits).group queue) floors ⊎ HasEntered v image h floors v.job

-- whatever a stop may leave before a step is a front, and after it whatever its answer
abbrev pub PumpLeaves : Type 0
PumpLeaves =
    (tells : Bool) (old new : LogStoreValue) (answer : Result Did PumpFault) (h queue : History Value) (floors : ℕ → ℕ) (image : Image)
    → IsTrue tells → old.commits.failed ≡ false → IsInStep old → StandsOnHeap old h queue floors → Pumps tells old answer new
    → LeavesImage old.disk.areas image ⊎ LeavesImage new.disk.areas image → IsFront old image h queue floors

-- a store that has failed makes no step
abbrev pub FailedRests : Type 0
FailedRests =
    (tells : Bool) (old new : LogStoreValue) (answer : Result Did PumpFault) → old.commits.failed ≡ true → Pumps tells old answer new
    → (answer ≡ Err fault.Failed) × (new ≡ old)

-- ---- jobs

-- the floors behind a step of a job with this work: its last one puts the work into the log
abbrev pub floors_by : JobWork → JobDid → (ℕ → ℕ) → ℕ → ℕ
floors_by work job_did.Idle floors = floors
floors_by work job_did.WroteRun floors = floors
floors_by work job_did.RunSynced floors = floors
floors_by work job_did.WroteEntry floors = floors
floors_by work job_did.GateClosed floors = floors
floors_by work job_did.HeapSynced floors = floors
floors_by work job_did.GateWritten floors = floors
floors_by work job_did.WroteExtent floors = floors
floors_by work job_did.WroteRoll floors = floors
floors_by work job_did.RollSynced floors = floors
floors_by work job_did.RootWritten floors = floors
floors_by work job_did.RootSynced floors = floors
floors_by work job_did.TurnWritten floors = floors
floors_by work job_did.JobDone floors = floors_with work floors

abbrev pub floors_after : Option Job → JobDid → (ℕ → ℕ) → ℕ → ℕ
floors_after None what floors = floors
floors_after (Some job) what floors = floors_by job.work what floors

-- what stands after a step of a job, by its answer
abbrev pub JobStepsTo : Result JobDid PumpFault → LogStoreValue → LogStoreValue → History Value → History Value → (ℕ → ℕ) → Type 0
JobStepsTo (Ok what) old new h queue floors = StandsOnHeap new h queue (floors_after old.job what floors)
JobStepsTo (Err fault.Busy) old new h queue floors = StandsOnHeap new h queue floors
JobStepsTo (Err fault.NoMemory) old new h queue floors = new ≡ old
JobStepsTo (Err fault.Failed) old new h queue floors = HasFailed new h queue floors

-- a step of a job of a store that works, on a device that tells of its calls
abbrev pub JobSteps : Type 0
JobSteps =
    (tells : Bool) (old new : LogStoreValue) (answer : Result JobDid PumpFault) (h queue : History Value) (floors : ℕ → ℕ)
    → IsTrue tells → old.commits.failed ≡ false → IsInStep old → AreSound new.disk.areas → StandsOnHeap old h queue floors
    → PumpsJob tells old answer new → JobStepsTo answer old new h queue floors

-- whatever a stop may leave before a step of a job is a front, and after it whatever its answer
abbrev pub JobLeaves : Type 0
JobLeaves =
    (tells : Bool) (old new : LogStoreValue) (answer : Result JobDid PumpFault) (h queue : History Value) (floors : ℕ → ℕ) (image : Image)
    → IsTrue tells → old.commits.failed ≡ false → IsInStep old → StandsOnHeap old h queue floors → PumpsJob tells old answer new
    → LeavesImage old.disk.areas image ⊎ LeavesImage new.disk.areas image → IsFront old image h queue floors

-- a floor that begins where it may, where no job runs, and there is room, keeps what the disk stands for
abbrev pub FloorBegins : Type 0
FloorBegins =
    (v : LogStoreValue) (relation time : ℕ) (h queue : History Value) (floors : ℕ → ℕ) → v.job ≡ None → v.reclaim ≡ None
    → IsTrue (has_entry_room v.room)
    → floors relation < time → time ≤ last h → relation < 2 ^ 16 → StandsOnHeap v h queue floors
    → StandsOnHeap (with_floor v relation time) h queue floors

-- What an archive needs of memory: it is in order, and of the versions that end after the archive mark and the floor of their relation it has those of the
-- history. Its floors are those of the history.
pub record HoldsUnarchived (v : LogStoreValue) (h : History Value) (floors : ℕ → ℕ) : Type 0 where
  pub in_memory : AreInMemory v.commits.versions
  pub same : (key : Key) → filter (ends_after (max v.named.upto (floors key.relation))) (versions (writes_of v.commits.versions key))
      ≡ filter (ends_after (max v.named.upto (floors key.relation))) (versions_of h key)
  pub floors_are : (relation : ℕ) → floor_at v.commits.floors relation ≡ floors relation

-- Its entry has room: two extents of the log's half are left for others, or it goes up to the last commit, and none waits.
abbrev pub HasRoomFor : LogStoreValue → ℕ → History Value → History Value → Type 0
HasRoomFor v upto h queue = IsTrue (has_entry_room v.room) ⊎ (IsTrue (has_last_room v.room) × (queue ≡ []) × (upto ≡ last h))

-- an archive that begins where it may, where no job runs, and there is room, keeps what the disk stands for
abbrev pub ArchiveBegins : Type 0
ArchiveBegins =
    (v new : LogStoreValue) (upto : ℕ) (h queue : History Value) (floors : ℕ → ℕ) → IsInStep v → v.job ≡ None → v.reclaim ≡ None
    → HasRoomFor v upto h queue
    → v.named.upto < upto → upto ≤ last h → IsRun (run_to v upto) → HoldsUnarchived v h floors → StandsOnHeap v h queue floors
    → BeginsArchive v (run_to v upto) (unwritten v.named.end (records_to v upto)) new → StandsOnHeap new h queue floors

-- What a reclaim needs of memory: it is in order, and of the versions that stand at the archive mark it has those of the heap. Of the commits that are later
-- than the mark of the log's base, and no later than the archive mark, it has the names.
pub record HoldsUnreclaimed (v : LogStoreValue) (reading : Reading) (h : History Value) : Type 0 where
  pub in_memory : AreInMemory v.commits.versions
  pub same : (key : Key) → filter (stands_at v.named.upto) (versions (writes_of v.commits.versions key))
      ≡ filter (stands_at v.named.upto) (heap_versions reading key)
  pub heads : map name_of (named_between (reclaimed v) v.named.upto v.commits.heads) ≡ filter (is_named_between (reclaimed v) v.named.upto) (map head_of h)

-- a reclaim that begins where it may, where no job runs, keeps what the disk stands for
abbrev pub ReclaimBegins : Type 0
ReclaimBegins =
    (v new : LogStoreValue) (h queue : History Value) (floors : ℕ → ℕ) (s : StandsOnHeap v h queue floors) → IsInStep v → v.job ≡ None → v.reclaim ≡ None
    → 0 < v.named.upto → HoldsUnreclaimed v s.reading h → IsReclaimBegun v new → StandsOnHeap new h queue floors

-- ---- calls in memory

-- the disk stands for what it did, and what a stop may leave of it does
pub record KeepsDisk (old new : LogStoreValue) : Type 0 where
  pub stands : (h queue : History Value) (floors : ℕ → ℕ) → StandsOnHeap old h queue floors → StandsOnHeap new h queue floors
  pub stops : (failed : Bool) (h queue : History Value) (floors : ℕ → ℕ) → StopsBy failed old h queue floors → StopsBy failed new h queue floors

-- a begin keeps it
abbrev pub BeginKeeps : Type 0
BeginKeeps = (old new : LogStoreValue) (answer : Result TxnValue BeginFault) → calls.Begins old answer new → KeepsDisk old new

-- an abort does
abbrev pub AbortKeeps : Type 0
AbortKeeps = (old new : LogStoreValue) (txn : TxnValue) → calls.Aborts old txn new → KeepsDisk old new

-- and a ticket that is shown
abbrev pub RedeemKeeps : Type 0
RedeemKeeps = (old new : LogStoreValue) (ticket : TicketValue) (answer : Redeemed) → calls.Redeems old ticket answer new → KeepsDisk old new

-- ---- submits

-- the commit that a submit queued, if it did
abbrev pub queued_by : TxnValue → ℕ → Result Submitted SubmitFault → History Value
queued_by txn label (Ok (submitted.ReadOnly snapshot)) = []
queued_by txn label (Ok (submitted.Queued ticket)) = record { time = ticket.time; label = label; writes = txn.writes } ∷ []
queued_by txn label (Err why) = []

-- a submit, where the commit that it queues may follow the commit order
abbrev pub SubmitSteps : Type 0
SubmitSteps =
    (old new : LogStoreValue) (txn : TxnValue) (label now : ℕ) (answer : Result Submitted SubmitFault) (h queue : History Value) (floors : ℕ → ℕ)
    → IsInStep old → StandsOnHeap old h queue floors → MayAllFollow IsValue (h ++ queue) (queued_by txn label answer)
    → Submits old txn label now answer new → StandsOnHeap new h (queue ++ queued_by txn label answer) floors

-- a store that has failed queues nothing
abbrev pub FailedQueuesNone : Type 0
FailedQueuesNone =
    (old new : LogStoreValue) (txn : TxnValue) (label now : ℕ) (answer : Result Submitted SubmitFault) → old.commits.failed ≡ true
    → Submits old txn label now answer new → (queued_by txn label answer ≡ []) × KeepsDisk old new

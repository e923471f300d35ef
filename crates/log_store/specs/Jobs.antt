-- The beginning of a job, and its steps to the disk.
use Rattle.std.specs.Prelude.{ℕ, ◌≡◌, ◌⊎◌, ◌<◌, ◌^◌, nat_le, nat_lt, ◌&&◌, ◌||◌, Bool, true, false, IsTrue, [], Option, Some, None}
use Rattle.std.specs.Prelude.{Result, Ok, Err, MatchBool, MatchOption, MatchResult, List, length, if◌then◌else◌}
use Rattle.disk.specs.Areas.{Areas}
use Rattle.disk.specs.Calls.{Counts}
use Rattle.disk.specs.declared.area.DeviceFault.{DeviceFault}
use Rattle.floors.specs.Floors.{floor_at, raised_in}
use Rattle.group.specs.declared.answers.PumpFault.{PumpFault}
use Rattle.group.specs.declared.answers.PumpFault.TheVariants as pump
use Rattle.log_entries.specs.declared.entry.Entry.{Entry}
use Rattle.log_entries.specs.declared.entry.Entry.TheVariants as entries
use Rattle.log_entries.specs.Spelling.{entry_bytes}
use Rattle.log_writer.specs.Turns.{Stage, Writing, Syncing, Opening, Settling, Done, IsCallOf, stage_after, chain_turn}
use Rattle.log_writer.specs.Writer.{WriterState, turn, with_stage}
use Rattle.log_writer.specs.Writer as writers
use Rattle.log_writer.specs.declared.writer.Wrote.{Wrote}
use Rattle.log_writer.specs.declared.writer.Wrote.TheVariants as wrote
use Rattle.log_room.specs.Rooms.{RoomValue, TakesChain, promised_entry, has_entry_room}
use Rattle.log_recovery.specs.Live.{part_of}
use Rattle.log_room.specs.Bases as bases
use Rattle.log_room.specs.declared.base_share.BaseParts.{BaseParts}
use Rattle.commits.specs.Values.{CommitsValue, last, with_floors}
use Rattle.commits.specs.Calls.{oldest}
use Rattle.log_store.specs.Live.{with_live}
use Rattle.log_store.specs.Values.{LogStoreValue, is_busy}
use Rattle.log_store.specs.Pumps.{with_failure}
use Rattle.log_store.specs.Reclaiming.{StepsReclaim}
use Rattle.log_store.specs.declared.job.Job.{Job}
use Rattle.log_store.specs.declared.job.JobDid.{JobDid}
use Rattle.log_store.specs.declared.job.JobDid.TheVariants as did
use Rattle.log_store.specs.declared.job.JobStage.{JobStage}
use Rattle.log_store.specs.declared.job.JobStage.TheVariants.{Ready, Entering}
use Rattle.log_store.specs.declared.job.JobStage.TheVariants as stages
use Rattle.log_store.specs.declared.job.JobWork.{JobWork}
use Rattle.log_store.specs.declared.job.JobWork.TheVariants.{Floor, Archive}
use Rattle.log_store.specs.Runs.{disk_answer, WritesRun}
use Rattle.log_store.specs.Named.{NamedValue, with_archives}
use Rattle.timequery.specs.Archives.{ArchiveValue, with_next_run}
use Rattle.log_store.specs.declared.job.StartFault.{StartFault}
use Rattle.log_store.specs.declared.job.StartFault.TheVariants as fault

-- ---- the beginning of a floor

-- what a base would name now
abbrev pub base_parts : LogStoreValue → BaseParts
base_parts v = record { rolls = length v.named.rolls; archives = length v.named.archives; floors = length v.commits.floors.own }

-- the entry of the relation's floor has an extent, and a base with that floor keeps the share that floors may have, if it is the relation's first
abbrev pub has_floor_room : LogStoreValue → ℕ → Bool
has_floor_room v relation = has_entry_room v.room && (nat_lt 0 (floor_at v.commits.floors relation) || bases.has_floor_room v.room (base_parts v))

-- the least snapshot of the open transactions is below the time
abbrev pub refusal_for_use : Option ℕ → ℕ → Bool → Option StartFault
refusal_for_use None time room = if room then None else Some fault.HeapFull
refusal_for_use (Some snapshot) time room =
    if nat_lt snapshot time then Some (fault.InUse snapshot) else (if room then None else Some fault.HeapFull)

-- why the floor of a relation is not raised to a time: the first reason in this order
abbrev pub floor_refusal_of : LogStoreValue → ℕ → ℕ → Option StartFault
floor_refusal_of v relation time =
    if is_busy v then Some fault.JobBusy
    else (if nat_le time (floor_at v.commits.floors relation) then Some fault.NothingToDo
    else (if nat_lt (last v.commits) time then Some (fault.NotYet (last v.commits))
    else refusal_for_use (oldest v.commits) time (has_floor_room v relation)))

-- floors are those of one relation each
abbrev pub floor_refusal : LogStoreValue → Option ℕ → ℕ → Option StartFault
floor_refusal v None time = if v.commits.failed then Some fault.Failed else Some fault.WrongProfile
floor_refusal v (Some relation) time = if v.commits.failed then Some fault.Failed else floor_refusal_of v relation time

-- the floor's job has begun: it is promised an extent, and has the floors that are to stand
abbrev pub with_floor : LogStoreValue → ℕ → ℕ → LogStoreValue
with_floor v relation time = record v {
  room = promised_entry v.room;
  job = Some (record {
    work = Floor (record { floor = time; relation = relation }) (raised_in (Some relation) time v.commits.floors);
    stage = Ready false;
  });
}

-- a floor of one relation takes memory, which may be refused
abbrev pub BeginsFloor : LogStoreValue → Option ℕ → ℕ → Result (Unit {0}) StartFault → LogStoreValue → Type 0
BeginsFloor v None time answer new = ⊥
BeginsFloor v (Some relation) time (Ok done) new = (relation < 2 ^ 16) × (new ≡ with_floor v relation time)
BeginsFloor v (Some relation) time (Err why) new = (why ≡ fault.NoMemory) × (new ≡ v)

-- no device call is made
abbrev pub StartsFloor : LogStoreValue → Option ℕ → ℕ → Result (Unit {0}) StartFault → LogStoreValue → Type 0
StartsFloor v scope time result new = MatchOption (floor_refusal v scope time) (BeginsFloor v scope time result new) (λ why. (result ≡ Err why) × (new ≡ v))

-- ---- the steps of a job

-- its run is in the writing
abbrev pub is_writing : JobStage → Bool
is_writing (stages.Writing writer) = true
is_writing (Ready waited) = false
is_writing (Entering w) = false

-- its entry is to begin
abbrev pub is_ready : JobStage → Bool
is_ready (stages.Writing writer) = false
is_ready (Ready waited) = true
is_ready (Entering w) = false

-- its entry is in the writing
abbrev pub is_entering : JobStage → Bool
is_entering (stages.Writing writer) = false
is_entering (Ready waited) = false
is_entering (Entering w) = true

-- a job runs, and is so far
abbrev pub IsWriting : Option Job → Type 0
IsWriting job = MatchOption job ⊥ (λ j. is_writing j.stage ≡ true)

abbrev pub IsReady : Option Job → Type 0
IsReady job = MatchOption job ⊥ (λ j. is_ready j.stage ≡ true)

abbrev pub IsEntering : Option Job → Type 0
IsEntering job = MatchOption job ⊥ (λ j. is_entering j.stage ≡ true)

-- what its entry says
abbrev pub entry_of : JobWork → Entry
entry_of (Floor floor floors) = entries.Floor floor
entry_of (Archive archive archives) = entries.Archived archive

-- the store with another stage of its job
abbrev pub at_stage : LogStoreValue → Job → JobStage → LogStoreValue
at_stage v job stage = record v { job = Some (record job { stage = stage }) }

-- an entry that is in the writing has a call still to be made
abbrev pub IsStageOnItsWay : JobStage → Type 0
IsStageOnItsWay (stages.Writing writer) = ⊥
IsStageOnItsWay (Ready waited) = ⊥
IsStageOnItsWay (Entering w) = writers.IsOnItsWay w.stage

-- the device call of an entry, with its answer
abbrev pub IsEntryCallOf : JobStage → Result (Unit {0}) DeviceFault → Areas → Areas → Type 0
IsEntryCallOf (stages.Writing writer) result old new = ⊥
IsEntryCallOf (Ready waited) result old new = ⊥
IsEntryCallOf (Entering w) result old new = IsCallOf (turn w) w.stage result old new

-- the entry is one call further, which did so much
abbrev pub IsNextAt : Job → JobStage → Wrote → Job → Type 0
IsNextAt old (stages.Writing writer) what new = ⊥
IsNextAt old (Ready waited) what new = ⊥
IsNextAt old (Entering w) what new = (what ≡ writers.did w.stage) × (new ≡ record old { stage = Entering (with_stage w (stage_after w.stage)) })

abbrev pub IsNextOf : Job → Wrote → Job → Type 0
IsNextOf old what new = IsNextAt old old.stage what new

-- a job has waited for a group
abbrev pub waiting : Option Job → Option Job
waiting None = None
waiting (Some job) = Some (record job { stage = Ready true })

-- the entry of a job that is ready is in the writing
abbrev pub entering : Option Job → WriterState → Option Job
entering None w = None
entering (Some job) w = Some (record job { stage = Entering w })

-- the entry begins: it begins where the log ends, and the log goes on in the least free extent; nothing of it is written yet, and its chain is the last of
-- those in memory
pub record BeginsEntry (old : LogStoreValue) (job : Job) (new : LogStoreValue) : Type 0 where
  pub numbers : List ℕ
  pub link : ℕ
  pub room : RoomValue
  pub takes : TakesChain old.room 1 1 numbers link room
  pub new_is : new ≡ record (at_stage old job (Entering (record {
    numbers = numbers;
    link = link;
    content = entry_bytes (entry_of job.work);
    stage = Writing [] (chain_turn numbers link (entry_bytes (entry_of job.work))).parts;
  }))) { room = room; live = with_live old.live numbers (part_of (entry_of job.work)) }

-- what a call of the entry's chain did
abbrev pub did_of : Wrote → JobDid
did_of wrote.Extent = did.WroteEntry
did_of wrote.ClosedGate = did.GateClosed
did_of wrote.Synced = did.HeapSynced
did_of wrote.Gate = did.GateWritten
did_of wrote.Settled = did.JobDone

-- what stands in memory once the entry is the log's: the floors with it, or what the log names, and the run among the others
abbrev pub commits_with : JobWork → CommitsValue → CommitsValue
commits_with (Floor floor floors) v = with_floors v floors
commits_with (Archive archive archives) v = v

abbrev pub named_with : JobWork → NamedValue → NamedValue
named_with (Floor floor floors) named = named
named_with (Archive archive archives) named = with_archives archives archive named

abbrev pub archive_with : JobWork → ArchiveValue → ArchiveValue
archive_with (Floor floor floors) archive = archive
archive_with (Archive made archives) archive = with_next_run archive

-- so of the job that runs, if one does
abbrev pub commits_by : Option Job → CommitsValue → CommitsValue
commits_by None v = v
commits_by (Some job) v = commits_with job.work v

abbrev pub named_by : Option Job → NamedValue → NamedValue
named_by None named = named
named_by (Some job) named = named_with job.work named

abbrev pub archive_by : Option Job → ArchiveValue → ArchiveValue
archive_by None archive = archive
archive_by (Some job) archive = archive_with job.work archive

abbrev pub with_work : JobWork → LogStoreValue → LogStoreValue
with_work work v = record v { commits = commits_with work v.commits; named = named_with work v.named; archive = archive_with work v.archive }

-- the entry is the log's, and no job runs
abbrev pub with_entry : LogStoreValue → Job → LogStoreValue
with_entry v job = record (with_work job.work v) { job = None }

-- the store behind the entry's call: the last one ends the job
abbrev pub after_call : LogStoreValue → Job → WriterState → Stage → LogStoreValue
after_call v job w (Writing done rest) = at_stage v job (Entering (with_stage w (stage_after w.stage)))
after_call v job w Syncing = at_stage v job (Entering (with_stage w (stage_after w.stage)))
after_call v job w Opening = at_stage v job (Entering (with_stage w (stage_after w.stage)))
after_call v job w Settling = with_entry v job
after_call v job w Done = v

-- The entry's next device call is made, or it is refused and the store has failed.
pub record Advances (tells : Bool) (job : Job) (w : WriterState) (old : LogStoreValue) (result : Result JobDid PumpFault) (new : LogStoreValue) : Type 0 where
  pub call : IsTrue tells → IsCallOf (turn w) w.stage (disk_answer result) old.disk.areas new.disk.areas
  pub counts : Counts (disk_answer result) old.disk new.disk
  pub answer : MatchResult result (λ what. (what ≡ did_of (writers.did w.stage)) × (new ≡ record (after_call old job w w.stage) { disk = new.disk }))
      (λ why. (why ≡ pump.Failed) × (new ≡ record (with_failure old) { disk = new.disk }))

-- of a job whose entry is in the writing
abbrev pub AdvancesAt : Bool → Job → JobStage → LogStoreValue → Result JobDid PumpFault → LogStoreValue → Type 0
AdvancesAt tells job (stages.Writing writer) old result new = ⊥
AdvancesAt tells job (Ready waited) old result new = ⊥
AdvancesAt tells job (Entering w) old result new = Advances tells job w old result new

abbrev pub AdvancesEntry : Bool → Option Job → LogStoreValue → Result JobDid PumpFault → LogStoreValue → Type 0
AdvancesEntry tells None old result new = ⊥
AdvancesEntry tells (Some job) old result new = AdvancesAt tells job job.stage old result new

-- an entry begins and its first call is made; or there is no memory for it, and nothing has changed
abbrev pub Enters : Bool → Job → LogStoreValue → Result JobDid PumpFault → LogStoreValue → Type 0
Enters tells job old result new =
    ((result ≡ Err pump.NoMemory) × (new ≡ old))
    ⊎ ((begun : LogStoreValue) × BeginsEntry old job begun × AdvancesEntry tells begun.job begun result new)

-- a job whose entry is not begun waits while a group is in the writing, and from then on no other group begins before it
abbrev pub StepsReady : Bool → Job → Option WriterState → LogStoreValue → Result JobDid PumpFault → LogStoreValue → Type 0
StepsReady tells job None old result new = Enters tells job old result new
StepsReady tells job (Some w) old result new = (result ≡ Err pump.Busy) × (new ≡ at_stage old job (Ready true))

-- a step of the job that runs
abbrev pub StepsAt : Bool → Job → JobStage → LogStoreValue → Result JobDid PumpFault → LogStoreValue → Type 0
StepsAt tells job (stages.Writing writer) old result new = WritesRun tells job old result new
StepsAt tells job (Ready waited) old result new = StepsReady tells job old.turn old result new
StepsAt tells job (Entering w) old result new = Advances tells job w old result new

abbrev pub StepsJob : Bool → Option Job → LogStoreValue → Result JobDid PumpFault → LogStoreValue → Type 0
StepsJob tells None old result new = (result ≡ Ok did.Idle) × (new ≡ old)
StepsJob tells (Some job) old result new = StepsAt tells job job.stage old result new

-- a failed store writes nothing; any other takes the next step of its reclaim, or of its job where no reclaim runs
abbrev pub PumpsJob : Bool → LogStoreValue → Result JobDid PumpFault → LogStoreValue → Type 0
PumpsJob tells old result new = MatchBool old.commits.failed ((result ≡ Err pump.Failed) × (new ≡ old))
    (MatchOption old.reclaim (StepsJob tells old.job old result new) (λ r. StepsReclaim tells r old result new))

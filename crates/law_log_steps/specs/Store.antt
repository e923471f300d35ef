-- The state of the machine that a store whose log lies in the heap stands for.
use Rattle.std.specs.Prelude.{ℕ, ◌≡◌, ◌⊎◌, ◌≤◌, ◌^◌, Bool, true, false, IsTrue, MatchBool, List, Option, None, Some}
use Rattle.std.specs.List.{AllByRecursion}
use Rattle.history.specs.Histories.{History}
use Rattle.history.specs.Floors.{Raising}
use Rattle.history.specs.Machine.{Machine, Change, Gate, Shut, Due, MayBeOpen, OfGroup, OfFloor, IsMachine}
use Rattle.floors.specs.Floors.{FloorsValue, raised_in}
use Rattle.law_image.specs.Values.{Value, IsValue}
use Rattle.log_writer.specs.Turns.{Stage, Writing, Syncing, Opening, Settling, Done}
use Rattle.log_writer.specs.Writer.{WriterState}
use Rattle.commits.specs.Values.{CommitsValue, WaitingValue}
use Rattle.log_base.specs.Bases.{mark_of}
use Rattle.log_extents.specs.Chains.{IsNumberOf}
use Rattle.log_store.specs.Values.{LogStoreValue, ReclaimValue}
use Rattle.log_store.specs.declared.job.Job.{Job}
use Rattle.log_store.specs.declared.job.JobStage.{JobStage}
use Rattle.log_store.specs.declared.job.JobStage.TheVariants.{Ready, Entering}
use Rattle.log_store.specs.declared.job.JobStage.TheVariants as stages
use Rattle.log_store.specs.declared.job.JobWork.{JobWork}
use Rattle.log_store.specs.declared.job.JobWork.TheVariants.{Floor, Archive}
use Rattle.law_commits.specs.Standing.{StandsInMemory}
use Rattle.law_log_store.specs.Standing.{StandsOnHeap, StopsBy, StopsOnHeap}

-- The disk of a store that works stands for a history with these floors, and its memory for the queue behind it. What a stop may leave of one that has failed
-- stands for the history, or for that with the group.
abbrev pub OnDisk : LogStoreValue → History Value → History Value → (ℕ → ℕ) → Type 0
OnDisk v h queue floors = MatchBool v.commits.failed (StopsOnHeap v h queue floors) (StandsOnHeap v h queue floors)

-- the versions after these have forgotten what ended by this mark
abbrev pub HaveMark : ℕ → List WaitingValue → Type 0
HaveMark mark ws = AllByRecursion (λ (w : WaitingValue). w.reclaimed ≡ mark) ws

-- no reclaim was made since they began to wait
abbrev pub AreFresh : CommitsValue → Type 0
AreFresh v = HaveMark v.reclaimed v.queue

-- the machine's gate, by how far the chain is that is to change this
abbrev pub gate_at : Change → Stage → Gate
gate_at change (Writing done rest) = Shut
gate_at change Syncing = Shut
gate_at change Opening = Due change
gate_at change Settling = MayBeOpen change
gate_at change Done = MayBeOpen change

-- of the jobs a floor's alone changes what the machine has
abbrev pub gate_for : JobWork → Stage → Gate
gate_for (Floor floor kept) stage = gate_at OfFloor stage
gate_for (Archive archive archives) stage = Shut

-- by how far a job is: where its entry is not in the writing it is shut
abbrev pub gate_on : JobWork → JobStage → Gate
gate_on work (stages.Writing writer) = Shut
gate_on work (Ready waited) = Shut
gate_on work (Entering w) = gate_for work w.stage

abbrev pub gate_by : Option Job → Gate
gate_by None = Shut
gate_by (Some job) = gate_on job.work job.stage

-- by the group's chain, and where none is in the writing by the job's entry
abbrev pub gate_of : Option WriterState → Option Job → Gate
gate_of None job = gate_by job
gate_of (Some w) job = gate_at OfGroup w.stage

-- and of a store that has failed: a refused write of the gate may have opened it
abbrev pub gate_behind : Change → Stage → Gate
gate_behind change (Writing done rest) = Shut
gate_behind change Syncing = Shut
gate_behind change Opening = MayBeOpen change
gate_behind change Settling = MayBeOpen change
gate_behind change Done = MayBeOpen change

abbrev pub gate_left_for : JobWork → Stage → Gate
gate_left_for (Floor floor kept) stage = gate_behind OfFloor stage
gate_left_for (Archive archive archives) stage = Shut

abbrev pub gate_left_on : JobWork → JobStage → Gate
gate_left_on work (stages.Writing writer) = Shut
gate_left_on work (Ready waited) = Shut
gate_left_on work (Entering w) = gate_left_for work w.stage

abbrev pub gate_left_by : Option Job → Gate
gate_left_by None = Shut
gate_left_by (Some job) = gate_left_on job.work job.stage

abbrev pub gate_left : Option WriterState → Option Job → Gate
gate_left None job = gate_left_by job
gate_left (Some w) job = gate_behind OfGroup w.stage

-- where the refused call was none of the chain in the writing, the gate is where it was, and what a stop may leave is as it was
pub record IsCalm (tells : Bool) (v : LogStoreValue) (m : Machine Value) : Type 0 where
  pub gate : m.gate ≡ gate_of v.turn v.job
  pub stops : IsTrue tells → StopsBy false v m.published m.queue m.floors

abbrev pub IsLeft : Bool → LogStoreValue → Machine Value → Type 0
IsLeft tells v m = (m.gate ≡ gate_left v.turn v.job) ⊎ IsCalm tells v m

-- ---- jobs

-- the floor that a job is to raise: an archive raises none
abbrev pub raising_with : JobWork → Option Raising
raising_with (Floor floor kept) = Some (record { scope = Some floor.relation; floor = floor.floor })
raising_with (Archive archive archives) = None

abbrev pub raising_of : Option Job → Option Raising
raising_of None = None
raising_of (Some job) = raising_with job.work

-- what a job has made for memory is what stands there once its entry is the log's
abbrev pub HasMade : FloorsValue → JobWork → Type 0
HasMade floors (Floor floor kept) = kept ≡ raised_in (Some floor.relation) floor.floor floors
HasMade floors (Archive archive archives) = Unit {0}

abbrev pub HasAllMade : FloorsValue → Option Job → Type 0
HasAllMade floors None = Unit {0}
HasAllMade floors (Some job) = HasMade floors job.work

-- the archive in the making goes at least as far as this mark
abbrev pub Reaches : ℕ → JobWork → Type 0
Reaches upto (Floor floor kept) = Unit {0}
Reaches upto (Archive archive archives) = upto ≤ archive.upto

abbrev pub JobReaches : ℕ → Option Job → Type 0
JobReaches upto None = Unit {0}
JobReaches upto (Some job) = Reaches upto job.work

-- a base in the making goes as far as this mark, and so does what the log then names in the archive
pub record BaseReaches (upto : ℕ) (r : ReclaimValue) : Type 0 where
  pub base : r.base.upto ≡ upto
  pub named : r.named.upto ≡ upto

abbrev pub ReclaimReaches : ℕ → Option ReclaimValue → Type 0
ReclaimReaches upto None = Unit {0}
ReclaimReaches upto (Some r) = BaseReaches upto r

-- What memory has forgotten is archived, and in the base of the log, if it has one. An archive in the making goes further, and a base in the making as far.
pub record HasMarks (v : LogStoreValue) : Type 0 where
  pub reclaimed : v.commits.reclaimed ≤ v.named.upto
  pub base : v.commits.reclaimed ≤ mark_of v.live.chains
  pub job : JobReaches v.named.upto v.job
  pub reclaim : ReclaimReaches v.named.upto v.reclaim

-- the log ends in an extent of a heap
abbrev pub EndsInHeap : LogStoreValue → Type 0
EndsInHeap v = IsNumberOf (2 ^ 20) v.room.next

-- The machine's group is the store's, of at most 1,024 commits, and its floor in the making that of the job that runs. Its gate is where the chain is that is
-- in the writing.
pub record IsWriting (tells : Bool) (v : LogStoreValue) (m : Machine Value) : Type 0 where
  pub most : m.most ≡ 1024
  pub group : m.group ≡ v.commits.group
  pub raising : m.raising ≡ raising_of v.job
  pub made : HasAllMade v.commits.floors v.job
  pub gate : m.failed ≡ false → m.gate ≡ gate_of v.turn v.job
  pub left : m.failed ≡ true → IsLeft tells v m

-- Memory and disk stand for one state of the machine. What is said of the disk is said where it tells its bytes.
pub record IsStoreOf (tells : Bool) (v : LogStoreValue) (m : Machine Value) : Type 0 where
  pub memory : StandsInMemory v.commits m
  pub machine : IsMachine IsValue m
  pub writing : IsWriting tells v m
  pub fresh : AreFresh v.commits
  pub marks : HasMarks v
  pub ends : EndsInHeap v
  pub disk : IsTrue tells → OnDisk v m.published m.queue m.floors

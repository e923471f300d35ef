-- A store, and the state of the machine that it stands for.
use Rattle.std.specs.Prelude.{ℕ, ◌≡◌, ◌≢◌, ◌≤◌, ◌⊎◌, Bool, false, is_some, IsTrue, List, Option, None, Some, MatchOption}
use Rattle.disk.specs.Areas.{AreaState, Image, MayLeave, IsSound, AreSound, LeavesImage}
use Rattle.history.specs.Fronts.{OnFront}
use Rattle.history.specs.Histories as histories
use Rattle.history.specs.Floors.{Raising}
use Rattle.history.specs.Machine.{Machine, Change, OfGroup, OfFloor, Gate, Shut, Due, MayBeOpen, IsMachine}
use Rattle.floors.specs.Floors.{FloorsValue, raised_in}
use Rattle.law_image.specs.Log.{IsScopeOf}
use Rattle.law_image.specs.Values.{Value, IsValue}
use Rattle.group.specs.Order.{IsInOrder}
use Rattle.status.specs.declared.header.Header.{Header}
use Rattle.status.specs.Header.{total}
use Rattle.status.specs.Growth.{grown, may_be_open}
use Rattle.status.specs.GrowthState.{GrowthState}
use Rattle.status.specs.Pieces.{MayGrow}
use Rattle.law_layout.specs.Growing.{IsGrowing, LeftBeside}
use Rattle.status.specs.SlotCalls.{SlotStage, Begun, BodyWritten, BodySynced, GateWritten, Opened}
use Rattle.status.specs.TurnState.{TurnState}
use Rattle.store.specs.Values.{StoreValue, IsInStep, turn_in}
use Rattle.store.specs.Jobs.{growing}
use Rattle.chains.specs.KeyWrites.{KeyWrites}
use Rattle.store.specs.declared.job.JobStage.{JobStage}
use Rattle.store.specs.declared.job.JobStage.TheVariants.{Writing, Stored, Turning}
use Rattle.store.specs.declared.job.Job.{Job}
use Rattle.store.specs.declared.job.JobWork.{JobWork}
use Rattle.store.specs.declared.job.JobWork.TheVariants.{Archive, Reclaim, Floor, Grow}
use Rattle.law_refinement.specs.Standing.{StandsInMemory, Reclaims}
use Rattle.law_refinement.specs.OnDisk.{IsImageOf, StandsOnDisk}
use Rattle.law_refinement.specs.Homes.{JobHasPlace, RunsStand}

-- ---- what a slot in the writing is to change

-- the gate of this change, whose slot is at this stage
abbrev pub gate_at : Change → SlotStage → Gate
gate_at change Begun = Shut
gate_at change BodyWritten = Shut
gate_at change BodySynced = Due change
gate_at change GateWritten = MayBeOpen change
gate_at change Opened = MayBeOpen change

-- of the jobs a floor's alone changes what the machine has
abbrev pub gate_for : JobWork → SlotStage → Gate
gate_for (Archive run writer) stage = Shut
gate_for (Reclaim anchors source written) stage = Shut
gate_for (Floor scope floor floors) stage = gate_at OfFloor stage
gate_for (Grow growth) stage = Shut

-- the machine's gate, by what a job makes and by its stage
abbrev pub gate_in : JobWork → JobStage → Gate
gate_in work Writing = Shut
gate_in work Stored = Shut
gate_in work (Turning turn) = gate_for work turn.stage

-- the machine's gate, by the job that runs: where none does it is shut
abbrev pub job_gate : Option Job → Gate
job_gate None = Shut
job_gate (Some job) = gate_in job.work job.stage

-- that of the group's slot, or else that of the job's
abbrev pub gate_of : Option TurnState → Option Job → Gate
gate_of None job = job_gate job
gate_of (Some turn) job = gate_at OfGroup turn.stage

-- while the store works, the machine's gate is where the slot in the writing is
abbrev pub HasGate : StoreValue → Machine Value → Type 0
HasGate v m = m.failed ≡ false → m.gate ≡ gate_of v.turn v.job

-- the floor that a job is to raise
abbrev pub raising_by : JobWork → Option Raising
raising_by (Archive run writer) = None
raising_by (Reclaim anchors source written) = None
raising_by (Floor scope floor floors) = Some (record { scope = scope; floor = floor })
raising_by (Grow growth) = None

-- the floor that the job which runs is to raise, if it is to raise one
abbrev pub raising_of : Option Job → Option Raising
raising_of None = None
raising_of (Some job) = raising_by job.work

-- in profile 3 alone relations have floors of their own
abbrev pub AreOfProfile : ℕ → (ℕ → ℕ) → Type 0
AreOfProfile profile floors = profile ≢ 3 → (relation : ℕ) → floors relation ≡ floors 0

-- It is the one that the machine has in the making. That one and those that stand are of the store's profile.
pub record IsRaising (job : Option Job) (profile : ℕ) (raising : Option Raising) (floors : ℕ → ℕ) : Type 0 where
  pub is : raising ≡ raising_of job
  pub scope : MatchOption raising (Unit {0}) (λ r. IsScopeOf profile r.scope)
  pub of_profile : AreOfProfile profile floors

-- the floor that the job is to raise is the machine's in the making, and all are of the store's profile
abbrev pub RaisesFloor : StoreValue → Machine Value → Type 0
RaisesFloor v m = IsRaising v.job v.log.profile m.raising m.floors

-- what is reclaimed is archived, and what is archived is published
abbrev pub HasMarks : StoreValue → Machine Value → Type 0
HasMarks v m = (v.transactions.reclaimed ≤ v.archived) × (v.archived ≤ histories.last m.published)

-- what memory keeps of a job, whose archive is up to a published time; of a floor the floors that are to stand; a store that grows is told of without its
-- growth
abbrev pub KeepsWork : JobWork → JobStage → (archived last : ℕ) → List (Option ℕ) → Option (List KeyWrites) → List KeyWrites → FloorsValue → Type 0
KeepsWork (Archive run writer) stage archived last opened pending versions standing = (archived ≤ run.upto) × (run.upto ≤ last)
KeepsWork (Reclaim anchors source written) stage archived last opened pending versions standing =
    Reclaims archived anchors.upto (is_some (turn_in stage)) opened pending versions
KeepsWork (Floor scope floor floors) stage archived last opened pending versions standing = floors ≡ raised_in scope floor standing
KeepsWork (Grow growth) stage archived last opened pending versions standing = ⊥

-- what memory keeps of the job that runs, if there is one
abbrev pub KeepsJobOf : Option Job → (archived last : ℕ) → List (Option ℕ) → Option (List KeyWrites) → List KeyWrites → FloorsValue → Type 0
KeepsJobOf None archived last opened pending versions standing = Unit {0}
KeepsJobOf (Some job) archived last opened pending versions standing = KeepsWork job.work job.stage archived last opened pending versions standing

-- what the store's memory keeps of its job, beside this machine
abbrev pub KeepsJobIn : StoreValue → Machine Value → Type 0
KeepsJobIn v m =
    KeepsJobOf v.job v.archived (histories.last m.published) v.transactions.opened v.transactions.pending v.transactions.versions v.transactions.floors

-- What is said of the disk is said where it tells its bytes. Nothing is said of the runs of the archive.
pub record StandsBeside (tells : Bool) (v : StoreValue) (m : Machine Value) : Type 0 where
  pub memory : StandsInMemory v.transactions m
  pub machine : IsMachine IsValue m
  pub order : IsInOrder v.transactions
  pub in_step : IsInStep v
  pub gate : HasGate v m
  pub raises : RaisesFloor v m
  pub marks : HasMarks v m
  pub job : KeepsJobIn v m
  pub disk : IsTrue tells → StandsOnDisk v m

-- With them: their places are known, and where the disk tells its bytes they stand in the archive's. No piece of slots is in the making.
pub record StandsStill (tells : Bool) (v : StoreValue) (m : Machine Value) : Type 0 where
  pub memory : StandsInMemory v.transactions m
  pub machine : IsMachine IsValue m
  pub order : IsInOrder v.transactions
  pub in_step : IsInStep v
  pub gate : HasGate v m
  pub raises : RaisesFloor v m
  pub marks : HasMarks v m
  pub job : KeepsJobIn v m
  pub disk : IsTrue tells → StandsOnDisk v m
  pub place : JobHasPlace v m
  pub runs : IsTrue tells → RunsStand v m

-- ---- a piece of slots in the making

-- the growth of a piece, if that is what the job makes
abbrev pub growth_in : JobWork → Option GrowthState
growth_in (Archive run writer) = None
growth_in (Reclaim anchors source written) = None
growth_in (Floor scope floor floors) = None
growth_in (Grow growth) = Some growth

-- the growth of a piece, if the job that runs makes one
abbrev pub growth_of : Option Job → Option GrowthState
growth_of None = None
growth_of (Some job) = growth_in job.work

-- its gate may be open
abbrev pub may_have_grown : Option GrowthState → Bool
may_have_grown None = false
may_have_grown (Some growth) = may_be_open growth.stage

-- the store without its growth, on a disk with another status area
abbrev pub without_growth : StoreValue → AreaState → StoreValue
without_growth v calm = record v { job = None; disk = record v.disk { areas = record v.disk.areas { status = calm } } }

-- The status area is the calm one but for what is written of the piece, and a stop leaves what is beside what it leaves of the calm one.
pub record GrowsBeside (header : Header) (growth : GrowthState) (calm : AreaState) (v : StoreValue) (m : Machine Value) : Type 0 where
  pub may : MayGrow header
  pub sound : IsSound calm
  pub real : AreSound v.disk.areas
  pub growing : m.failed ≡ false → IsGrowing header growth.stage calm v.disk.areas.status
  pub left : (content : List ℕ) → MayLeave v.disk.areas.status content → LeftBeside header (IsTrue (may_be_open growth.stage)) calm content

-- A piece is being made behind the log's slots, and without that the store stands for the machine on a calm status area.
-- What a stop leaves has the slots that there are or, once the piece's gate may be open, 256 more.
pub record StandsGrowing (tells : Bool) (growth : GrowthState) (v : StoreValue) (m : Machine Value) : Type 0 where
  pub job : v.job ≡ Some (growing growth)
  pub slots : growth.slots ≡ v.log.slots
  pub piece : growth.piece ≡ v.log.pieces
  pub calm : AreaState
  pub still : StandsStill tells (without_growth v calm) m
  pub beside : (told : IsTrue tells) → GrowsBeside (still.disk told).header growth calm v m

-- the store stands for the machine, beside a piece in the making or without one
abbrev pub StandsBy : Bool → Option GrowthState → StoreValue → Machine Value → Type 0
StandsBy tells None v m = StandsStill tells v m
StandsBy tells (Some growth) v m = StandsGrowing tells growth v m

-- ---- what a stop may leave

-- the header of what is left is this one, or has one piece more where the gate of one may be open
abbrev pub IsHeaderLeft : Header → Bool → Header → Type 0
IsHeaderLeft header grows found = (found ≡ header) ⊎ (IsTrue grows × (found ≡ grown header))

-- what is left stands for a front of the machine
pub record LeavesFront (header : Header) (grows : Bool) (image : Image) (m : Machine Value) : Type 0 where
  pub found : Header
  pub is_found : IsHeaderLeft header grows found
  pub front : OnFront (IsImageOf found image) m

-- The log's slots and pieces are those of a header, which every stop leaves, with a piece in the making or without.
pub record LeavesFronts (v : StoreValue) (m : Machine Value) : Type 0 where
  pub header : Header
  pub profile : v.log.profile ≡ header.profile
  pub slots : v.log.slots ≡ total header
  pub pieces : v.log.pieces ≡ header.pieces
  pub leaves : (image : Image) → LeavesImage v.disk.areas image → LeavesFront header (may_have_grown (growth_of v.job)) image m

-- ---- in all

-- The store stands for the machine, whether it grows or not. The rest follows from the last field.
-- Each call is a step of the machine with its answer, and the store stands for the state after it: the laws of src/lib.rt.
pub record Stands (tells : Bool) (v : StoreValue) (m : Machine Value) : Type 0 where
  pub memory : StandsInMemory v.transactions m
  pub machine : IsMachine IsValue m
  pub order : IsInOrder v.transactions
  pub in_step : IsInStep v
  pub gate : HasGate v m
  pub raises : RaisesFloor v m
  pub marks : HasMarks v m
  pub place : JobHasPlace v m
  pub runs : IsTrue tells → RunsStand v m
  pub disk : IsTrue tells → LeavesFronts v m
  pub by : StandsBy tells (growth_of v.job) v m

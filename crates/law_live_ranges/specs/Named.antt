-- What the log of a store names, and that a call leaves it.
use Rattle.std.specs.Prelude.{◌≡◌, ◌⊎◌, ℕ, ◌+◌, ◌*◌, ◌<◌, ◌≤◌, Bool, IsTrue, List, length, slice_index, Some, MatchOption}
use Rattle.disk.specs.Areas.{AreaState, Image, AreSound, area_of, IsUntouched}
use Rattle.disk.specs.declared.area.Area.{Area}
use Rattle.disk.specs.declared.area.Area.TheVariants.{Status, Heap}
use Rattle.disk.specs.declared.area.Area.TheVariants as areas
use Rattle.deltas.specs.Extents.{extent_start}
use Rattle.extents.specs.Times.{time_of}
use Rattle.extents.specs.Usages.{IsKept}
use Rattle.status.specs.Log.{slot_start}
use Rattle.group.specs.Order.{IsInOrder}
use Rattle.vacuum.specs.Anchors.{Sourced}
use Rattle.wire.specs.declared.slot.Anchors.{Anchors}
use Rattle.store.specs.Values.{StoreValue, IsInStep}
use Rattle.store.specs.declared.job.JobStage.{JobStage}
use Rattle.store.specs.declared.job.JobWork.{JobWork}
use Rattle.store.specs.Parts.{IsStageOf, GrowsBehind}
use Rattle.store.specs.declared.job.JobWork.TheVariants.{Archive, Reclaim, Floor, Grow}

-- the place lies in an extent that is kept
pub record IsInKept (v : StoreValue) (k : ℕ) : Type 0 where
  pub number : ℕ
  pub kept : IsKept v.transactions.usages number
  pub low : extent_start number ≤ k
  pub high : k < extent_start number + 8192

-- The log names this place of an area: of the status area the header, but for the gates of pieces that are not open, and the slots that are used, of the heap
-- the extents of the live chains, which are those that its slots name but for what a reclaim gave up, of the archive all up to the end of the last run.
-- No call writes there, and none but the slot of a reclaim gives it up (the law call_leaves_named).
abbrev pub IsNamed : StoreValue → Area → ℕ → Type 0
IsNamed v Status k = (k < slot_start v.log.used) × ((k < 16 + v.log.pieces) ⊎ (512 ≤ k))
IsNamed v Heap k = IsInKept v k
IsNamed v areas.Archive k = k < v.runs_end

-- a place of an area is as it was: what a read gives there, and whether a stop may change it
pub record IsLeft (k : ℕ) (old new : AreaState) : Type 0 where
  pub firm : k < old.firm → k < new.firm
  pub inside : k < length old.bytes → k < length new.bytes
  pub read : k < length old.bytes → slice_index new.bytes k ≡ slice_index old.bytes k
  pub untouched : IsUntouched k (k + 1) old.loose → IsUntouched k (k + 1) new.loose

-- The slot of a reclaim is opened, and this place lies in the chain of a commit up to its mark or in that of the anchors before, which have time 0.
pub record IsGivenUp (old new : StoreValue) (k : ℕ) : Type 0 where
  pub anchors : Anchors
  pub source : Sourced
  pub written : ℕ
  pub stage : JobStage
  pub job : old.job ≡ Some (record { work = Reclaim anchors source written; stage = stage })
  pub slot : new.log.used ≡ old.log.used + 1
  pub mark : new.transactions.reclaimed ≡ anchors.upto
  pub place : IsInKept old k
  pub by : time_of old.transactions.times place.number ≤ anchors.upto

-- nothing else gives anything up, and of the other areas nothing does
abbrev pub IsGivenUpIn : StoreValue → StoreValue → Area → ℕ → Type 0
IsGivenUpIn old new Status k = ⊥
IsGivenUpIn old new Heap k = IsGivenUp old new k
IsGivenUpIn old new areas.Archive k = ⊥

-- What the log named is as it was, and is named still or given up by the slot of a reclaim.
pub record LeavesNamed (tells : Bool) (old new : StoreValue) : Type 0 where
  pub left : IsTrue tells → (area : Area) (k : ℕ) → IsNamed old area k → IsLeft k (area_of old.disk.areas area) (area_of new.disk.areas area)
  pub named : (area : Area) (k : ℕ) → IsNamed old area k → IsNamed new area k ⊎ IsGivenUpIn old new area k

-- a run lies behind the runs of the log, and is written there; no other job writes a run
abbrev pub IsBehindRuns : ℕ → JobWork → Type 0
IsBehindRuns end (Archive run writer) = (end ≤ run.start) × (end ≤ writer.at)
IsBehindRuns end (Reclaim anchors source written) = Unit {0}
IsBehindRuns end (Floor scope time floors) = Unit {0}
IsBehindRuns end (Grow growth) = Unit {0}

-- so it is of the job
abbrev pub WritesBehind : StoreValue → Type 0
WritesBehind v = MatchOption v.job (Unit {0}) (λ job. IsBehindRuns v.runs_end job.work)

-- what the types of a store and of its disk keep
pub record IsTyped (tells : Bool) (v : StoreValue) : Type 0 where
  pub order : IsInOrder v.transactions
  pub in_step : IsInStep v
  pub pieces : 256 * v.log.pieces ≤ v.log.slots
  pub stage : MatchOption v.job (Unit {0}) (λ job. IsStageOf job.work job.stage)
  pub grows : MatchOption v.job (Unit {0}) (λ job. GrowsBehind job.work v.log)
  pub sound : IsTrue tells → AreSound v.disk.areas

-- the bytes of an area of an image
abbrev pub bytes_in : Image → Area → List ℕ
bytes_in image Status = image.status
bytes_in image Heap = image.heap
bytes_in image areas.Archive = image.archive

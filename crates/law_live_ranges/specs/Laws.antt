-- No call writes what the log names.
use Rattle.std.specs.Prelude.{◌≡◌, ◌⊎◌, ℕ, ◌+◌, ◌<◌, Bool, IsTrue, List, [], ◌∷◌, length, take, slice_index, Option, Some, Result, Ok}
use Rattle.std.specs.declared.alloc.Global.{Global}
use Rattle.std.specs.declared.vec.Vec.{Vec}
use Rattle.std.specs.List.{AllByRecursion, flat_map}
use Rattle.disk.specs.Areas.{Image, LeavesImage, area_of, image_of, IsUntouched}
use Rattle.disk.specs.Calls.{DiskState}
use Rattle.disk.specs.declared.area.Area.{Area}
use Rattle.extents.specs.Usages.{IsKept}
use Rattle.history.specs.declared.key.Key.{Key}
use Rattle.history.specs.declared.time.Version.{Version}
use Rattle.law_image.specs.Values.{Value}
use Rattle.law_image.specs.Reading.{Reading}
use Rattle.snapshot.specs.Txn.{TxnValue}
use Rattle.group.specs.Tickets.{TicketValue}
use Rattle.group.specs.declared.answers.BeginFault.{BeginFault}
use Rattle.group.specs.declared.answers.Submitted.{Submitted}
use Rattle.group.specs.declared.answers.SubmitFault.{SubmitFault}
use Rattle.group.specs.declared.answers.Redeemed.{Redeemed}
use Rattle.group.specs.Queued.{numbers_of}
use Rattle.group.specs.declared.answers.Did.{Did}
use Rattle.group.specs.declared.answers.Did.TheVariants as group
use Rattle.group.specs.declared.answers.PumpFault.{PumpFault}
use Rattle.status.specs.declared.header.Header.{Header}
use Rattle.status.specs.GrowthState.{GrowthState}
use Rattle.status.specs.Rules.{row_end, runs_of}
use Rattle.law_layout.specs.Layouts.{Layout, live}
use Rattle.recovery.specs.ReadsImage.{IsOpening}
use Rattle.store.specs.Values.{StoreValue}
use Rattle.timequery.specs.View.{ViewValue}
use Rattle.timequery.specs.declared.fault.QueryFault.{QueryFault}
use Rattle.vacuum.specs.Anchors.{Sourced}
use Rattle.wire.specs.declared.slot.Anchors.{Anchors}
use Rattle.store.specs.Calls.{Begins, Aborts, Submits, Redeems, AnswersAtView, AnswersScanAt, AnswersRows, AnswersScanRows}
use Rattle.store.specs.Archives.{ArchiveJob, job_of, StartsArchive}
use Rattle.store.specs.Reclaims.{StartsReclaim}
use Rattle.floors.specs.Floors.{FloorsValue}
use Rattle.store.specs.Floors.{StartsFloor}
use Rattle.store.specs.Growths.{StartsGrowth}
use Rattle.store.specs.Pumps.{Pumps}
use Rattle.store.specs.Jobs.{PumpsJob}
use Rattle.store.specs.Opens.{Opens}
use Rattle.store.specs.declared.job.JobStage.{JobStage}
use Rattle.store.specs.declared.job.JobWork.TheVariants.{Reclaim, Floor, Grow}
use Rattle.store.specs.declared.job.StartFault.{StartFault}
use Rattle.store.specs.declared.job.JobDid.{JobDid}
use Rattle.store.specs.declared.job.JobDid.TheVariants as did
use Rattle.law_live_ranges.specs.Named.{IsNamed, IsLeft, IsGivenUpIn, LeavesNamed, WritesBehind, IsTyped, bytes_in}

-- a call of an open store, by what it does
pub data IsCall (tells : Bool) (old new : StoreValue) : Type 0 where
  Began : (answer : Result TxnValue BeginFault) → Begins old answer new → IsCall tells old new
  Aborted : (txn : TxnValue) → Aborts old txn new → IsCall tells old new
  Submitting : (txn : TxnValue) (label now : ℕ) (answer : Result Submitted SubmitFault) → Submits old txn label now answer new → IsCall tells old new
  Redeeming : (ticket : TicketValue) (answer : Redeemed) → Redeems old ticket answer new → IsCall tells old new
  Pumped : (answer : Result Did PumpFault) → Pumps tells old answer new → IsCall tells old new
  Archiving : (upto : ℕ) (answer : Result (Unit {0}) StartFault) → StartsArchive old upto answer new → IsCall tells old new
  Reclaiming : (answer : Result (Unit {0}) StartFault) → StartsReclaim old answer new → IsCall tells old new
  RaisingFloor : (scope : Option ℕ) (time : ℕ) (answer : Result (Unit {0}) StartFault) → StartsFloor old scope time answer new → IsCall tells old new
  Growing : (answer : Result (Unit {0}) StartFault) → StartsGrowth old answer new → IsCall tells old new
  JobPumped : (answer : Result JobDid PumpFault) → PumpsJob tells old answer new → IsCall tells old new
  -- a view, its end, or the times of a label
  Viewed : new ≡ old → IsCall tells old new
  -- a query of a view, which may read runs
  AskedAt : (view : ViewValue) (key : Key) (time : ℕ) (answer : Result (Option Value) QueryFault) → AnswersAtView tells old view key time answer new
      → IsCall tells old new
  AskedScan : (view : ViewValue) (relation time : ℕ) (answer : Result (Vec (ℕ × Value) Global) QueryFault)
      → AnswersScanAt tells old view relation time answer new → IsCall tells old new
  AskedRows : (view : ViewValue) (key : Key) (a b : ℕ) (answer : Result (Vec (Version Value) Global) QueryFault) → AnswersRows tells old view key a b answer new
      → IsCall tells old new
  AskedScanRows : (view : ViewValue) (relation a b : ℕ) (answer : Result (Vec (ℕ × Version Value) Global) QueryFault)
      → AnswersScanRows tells old view relation a b answer new → IsCall tells old new

-- stores one after another, each by a call of the one before it
abbrev pub AreCalls : Bool → StoreValue → List StoreValue → Type 0
AreCalls tells v [] = Unit {0}
AreCalls tells v (w ∷ ws) = IsCall tells v w × IsTyped tells w × AreCalls tells w ws

-- the store after them
abbrev pub end_of : StoreValue → List StoreValue → StoreValue
end_of v [] = v
end_of v (w ∷ ws) = end_of w ws

-- a reclaim among them gave this place up
abbrev pub IsGivenUpAmong : StoreValue → List StoreValue → Area → ℕ → Type 0
IsGivenUpAmong v [] area k = ⊥
IsGivenUpAmong v (w ∷ ws) area k = IsGivenUpIn v w area k ⊎ IsGivenUpAmong w ws area k

-- this place is as it was, and is named
pub record StaysNamed (tells : Bool) (old new : StoreValue) (area : Area) (k : ℕ) : Type 0 where
  pub left : IsTrue tells → IsLeft k (area_of old.disk.areas area) (area_of new.disk.areas area)
  pub named : IsNamed new area k

-- ---- laws

-- a store that opened has no job that writes in front of the end of the log's runs
abbrev pub OpenedWritesBehind : Type 0
OpenedWritesBehind = (tells : Bool) (disk : DiskState) (mark : ℕ) (v : StoreValue) → Opens tells disk mark v → WritesBehind v

-- what the log of an image names a store has
pub record HasNamed (header : Header) (layout : Layout) (v : StoreValue) : Type 0 where
  pub pieces : v.log.pieces ≡ header.pieces
  pub slots : v.log.used ≡ length layout.slots
  pub extents : AllByRecursion (λ e. IsKept v.transactions.usages e.number) (live layout)
  pub runs : v.runs_end ≡ row_end 0 (runs_of layout.slots)

-- a store that opened has all that the image's log names
abbrev pub OpenedNames : Type 0
OpenedNames = (tells : Bool) (disk : DiskState) (mark : ℕ) (v : StoreValue) → Opens tells disk mark v → IsTrue tells
    → (header : Header) × (layout : Layout) × (reading : Reading) × IsOpening header (image_of disk.areas) layout reading × HasNamed header layout v

-- no call writes what the log names, and a job that it begins or goes on with will not
abbrev pub CallLeavesNamed : Type 0
CallLeavesNamed =
    (tells : Bool) (old new : StoreValue) → IsTyped tells old → WritesBehind old → IsCall tells old new → LeavesNamed tells old new × WritesBehind new

-- so it is of calls one after another: what the log named is as it was and is named still, but for what a reclaim among them gave up
abbrev pub NamedStays : Type 0
NamedStays = (tells : Bool) (v : StoreValue) (ws : List StoreValue) → IsTyped tells v → WritesBehind v → AreCalls tells v ws
    → ((area : Area) (k : ℕ) → IsNamed v area k → StaysNamed tells v (end_of v ws) area k ⊎ IsGivenUpAmong v ws area k) × WritesBehind (end_of v ws)

-- and whatever a stop may then leave has there what stood on the disk
abbrev pub StopLeavesNamed : Type 0
StopLeavesNamed = (tells : Bool) (old new : StoreValue) (image : Image) → IsTyped tells old → IsTrue tells → LeavesImage new.disk.areas image
    → (area : Area) (k : ℕ) → IsLeft k (area_of old.disk.areas area) (area_of new.disk.areas area) → k < (area_of old.disk.areas area).firm
    → IsUntouched k (k + 1) (area_of old.disk.areas area).loose
    → slice_index (bytes_in image area) k ≡ slice_index (area_of old.disk.areas area).bytes k

-- ---- what is named more

-- the extents of the group's commits are named, by the slot that was opened
pub record HasPublished (old : StoreValue) (count : ℕ) (new : StoreValue) : Type 0 where
  pub extents : AllByRecursion (IsKept new.transactions.usages) (flat_map numbers_of (take count old.transactions.queue))
  pub slots : new.log.used ≡ old.log.used + 1

-- where a group is published, its slot and the extents of its commits are named
abbrev pub PublishedNamed : Type 0
PublishedNamed =
    (tells : Bool) (old new : StoreValue) (count : ℕ) → IsTyped tells old → Pumps tells old (Ok (group.Published count)) new → HasPublished old count new

-- the run of the job is named, by the slot that was opened
pub record HasArchived (old : StoreValue) (job : ArchiveJob) (new : StoreValue) : Type 0 where
  pub run : new.runs_end ≡ job.run.start + job.run.len
  pub slots : new.log.used ≡ old.log.used + 1

-- where an archive is done, its slot and its run are named
abbrev pub ArchivedNamed : Type 0
ArchivedNamed =
    (tells : Bool) (old new : StoreValue) (job : ArchiveJob) → IsTyped tells old → old.job ≡ Some (job_of job) → PumpsJob tells old (Ok did.JobDone) new
    → HasArchived old job new

-- the extents of the anchors are named, by the slot that was opened
pub record HasAnchored (old new : StoreValue) : Type 0 where
  pub extents : AllByRecursion (IsKept new.transactions.usages) old.transactions.reserved
  pub slots : new.log.used ≡ old.log.used + 1

-- where a reclaim is done, its slot and the extents of its anchors are named
abbrev pub AnchorsNamed : Type 0
AnchorsNamed =
    (tells : Bool) (old new : StoreValue) (anchors : Anchors) (source : Sourced) (written : ℕ) (stage : JobStage) → IsTyped tells old → old.job
    ≡ Some (record { work = Reclaim anchors source written; stage = stage })
    → PumpsJob tells old (Ok did.JobDone) new → HasAnchored old new

-- a floor's slot names nothing, and nothing more is named but the slot itself
pub record NamesNoMore (old new : StoreValue) : Type 0 where
  pub slots : new.log.used ≡ old.log.used + 1
  pub usages : new.transactions.usages ≡ old.transactions.usages
  pub runs : new.runs_end ≡ old.runs_end

-- where a floor is done, its slot is named and nothing more
abbrev pub FloorNamesNoMore : Type 0
FloorNamesNoMore =
    (tells : Bool) (old new : StoreValue) (scope : Option ℕ) (time : ℕ) (floors : FloorsValue) (stage : JobStage) → IsTyped tells old → old.job
    ≡ Some (record { work = Floor scope time floors; stage = stage })
    → PumpsJob tells old (Ok did.JobDone) new → NamesNoMore old new

-- a growth names nothing but its piece
pub record NamesPiece (old new : StoreValue) : Type 0 where
  pub pieces : new.log.pieces ≡ old.log.pieces + 1
  pub slots : new.log.used ≡ old.log.used
  pub usages : new.transactions.usages ≡ old.transactions.usages
  pub runs : new.runs_end ≡ old.runs_end

-- where a growth is done, its piece is named and nothing more
abbrev pub GrowthNamesPiece : Type 0
GrowthNamesPiece =
    (tells : Bool) (old new : StoreValue) (growth : GrowthState) (stage : JobStage) → IsTyped tells old → old.job
    ≡ Some (record { work = Grow growth; stage = stage })
    → PumpsJob tells old (Ok did.JobDone) new → NamesPiece old new

-- What a store's disk stands for: what a stop may leave, and how the commits that wait are stored.
use Rattle.std.specs.Prelude.{ℕ, ◌≡◌, ◌<◌, ◌≤◌, ◌+◌, ◌^◌, ◌++◌, IsTrue, false, List, [], ◌∷◌, length, map, take, drop, Option, None, Some, MatchOption}
use Rattle.std.specs.List.{AllByRecursion, flat_map}
use Rattle.disk.specs.Areas.{AreaState, Areas, Image, AreSound, IsSound, LeavesImage}
use Rattle.disk.specs.Parts.{HoldsPart}
use Rattle.wire.specs.Spelling.{IsSpelled, IsRun, AreAnchors, IsRelationOf}
use Rattle.wire.specs.declared.slot.Anchors.{Anchors}
use Rattle.wire.specs.declared.slot.Body.{Body}
use Rattle.wire.specs.declared.slot.Body.TheVariants.{Commit as CommitBody, Archived as ArchivedBody, Reclaimed as ReclaimedBody, Floor as FloorBody}
use Rattle.wire.specs.declared.slot.Slot.{Slot}
use Rattle.history.specs.declared.key.Key.{Key}
use Rattle.history.specs.Floors.{covers}
use Rattle.history.specs.Histories as histories
use Rattle.history.specs.Histories.{Commit, History}
use Rattle.history.specs.Fronts.{OnFront}
use Rattle.history.specs.Machine.{Machine}
use Rattle.law_image.specs.Values.{Value}
use Rattle.law_image.specs.Reading.{OldRecord, Reading}
use Rattle.law_image.specs.Facts.{latest, heap_facts}
use Rattle.law_image.specs.Log.{floor_of}
use Rattle.law_image.specs.Plans.{stored_record, stored_member, IsArchivePlan, IsReclaimPlan, with_run, with_anchors, with_floor}
use Rattle.law_image.specs.StandsFor.{StandsFor, archived_upto, reclaimed_upto}
use Rattle.chains.specs.KeyWrites.{KeyWrites, writes_of}
use Rattle.extents.specs.declared.usage.Usage.{Usage}
use Rattle.extents.specs.Usages.{IsKept}
use Rattle.extents.specs.Times.{time_of}
use Rattle.deltas.specs.Extents.{Extent, extent_bytes}
use Rattle.deltas.specs.Packing.{bodies}
use Rattle.deltas.specs.Records.{spelling}
use Rattle.status.specs.declared.header.Header.{Header}
use Rattle.status.specs.Header.{total}
use Rattle.status.specs.Rules.{is_built, runs_of, row_end}
use Rattle.status.specs.SlotCalls.{Begun}
use Rattle.status.specs.TurnState.{TurnState}
use Rattle.law_layout.specs.Records.{record_bytes}
use Rattle.law_layout.specs.Extents.{HoldsExtent}
use Rattle.law_layout.specs.Layouts.{Layout, StoredMember, IsLayoutOf, HoldsLayout, IsAnchorChain, live, extents_of}
use Rattle.law_layout.specs.Runs.{StoredRun, IsStoredRun, KeepsRun, run_bytes}
use Rattle.law_layout.specs.Jobs.{archived, reclaimed, floored}
use Rattle.law_layout.specs.Keeping.{RestsAs, StatusRests, KeepsExtents}
use Rattle.law_layout.specs.Opening.{AreBuilt}
use Rattle.law_layout.specs.SlotTurns.{IsTurnAt}
use Rattle.law_layout.specs.Turn.{Group, laid_out, IsStoring}
use Rattle.group.specs.Queued.{QueuedValue, numbers_of, stored_as}
use Rattle.deltas.specs.Chains.{chain_of, first_number}
use Rattle.group.specs.Values.{TransactionsValue}
use Rattle.group.specs.declared.stage.GroupStage.{GroupStage}
use Rattle.group.specs.declared.stage.GroupStage.TheVariants.{NoGroup, Storing, Stored, Turning}
use Rattle.archive.specs.Pieces.{InWriting}
use Rattle.vacuum.specs.Anchors.{Sourced}
use Rattle.store.specs.declared.job.Job.{Job}
use Rattle.store.specs.declared.job.JobWork.{JobWork}
use Rattle.store.specs.declared.job.JobWork.TheVariants.{Archive, Reclaim, Floor, Grow}
use Rattle.store.specs.declared.job.JobStage.{JobStage}
use Rattle.store.specs.declared.job.JobStage.TheVariants as job
use Rattle.store.specs.Values.{StoreValue, turn_of}

-- ---- images of a store

-- The image stands for this history with these floors, and the store builds the kinds of all its slots.
pub record IsImageOf (header : Header) (image : Image) (h : History Value) (floors : ℕ → ℕ) : Type 0 where
  pub layout : Layout
  pub reading : Reading
  pub laid : IsLayoutOf header layout reading
  pub held : HoldsLayout header image layout
  pub stands : StandsFor reading h floors
  pub profile_built : IsTrue (is_built header.profile 1)
  pub built : AreBuilt header layout.slots

-- ---- commits that wait

-- the value of each key after a history
abbrev pub values_in : History Value → Key → Option Value
values_in h key = latest (histories.writes_of h key)

-- a commit's records as bytes, in the bodies of its extents, over the values that those before it leave
abbrev pub packed : History Value → Commit Value → List (List ℕ)
packed before c = bodies (map record_bytes (map (stored_record (values_in before)) c.writes))

-- a commit waits with its records in its extents
pub record IsPacked (before : History Value) (q : QueuedValue) (c : Commit Value) : Type 0 where
  pub many : length q.stored ≡ length (packed before c)
  pub stored : q.stored ≡ stored_as (numbers_of q) (map extent_bytes (chain_of (numbers_of q) (packed before c)))
  pub first : q.entry.first ≡ first_number (numbers_of q)
  pub extents : q.entry.extents ≡ length q.stored

-- and so do all, each over those before it
abbrev pub AllPacked : History Value → List QueuedValue → History Value → Type 0
AllPacked before [] [] = Unit {0}
AllPacked before [] (c ∷ cs) = ⊥
AllPacked before (q ∷ qs) [] = ⊥
AllPacked before (q ∷ qs) (c ∷ cs) = IsPacked before q c × AllPacked (before ++ c ∷ []) qs cs

-- what its slot is to name
abbrev pub member_of : History Value → QueuedValue → Commit Value → StoredMember
member_of before q c = record { entry = q.entry; member = stored_member (values_in before) c; extents = chain_of (numbers_of q) (packed before c) }

-- what the slot of these commits is to name, each over those before it
abbrev pub members_of : History Value → List QueuedValue → History Value → List StoredMember
members_of before [] cs = []
members_of before (q ∷ qs) [] = []
members_of before (q ∷ qs) (c ∷ cs) = member_of before q c ∷ members_of (before ++ c ∷ []) qs cs

-- ---- the group that is being written

-- the slot of this number that names these commits
abbrev pub slot_for : ℕ → List QueuedValue → Slot
slot_for number qs = record { number = number; body = CommitBody (record { items = map (λ q. q.entry) qs }) }

-- the group, which is the first of the commits that wait
abbrev pub group_of : Layout → TransactionsValue → Machine Value → Group
group_of layout v m =
    record { members = members_of m.published (take v.group v.queue) (take v.group m.queue); slot = slot_for (length layout.slots) (take v.group v.queue) }

-- how many extents of the group are written before this one of this member
abbrev pub written_before : List QueuedValue → ℕ → ℕ → ℕ
written_before qs member extent = length (flat_map numbers_of (take member qs)) + extent

-- The slot in the writing is this one, the next of the log; what stands where once it is open is laid out so.
pub record IsTurn (header : Header) (layout : Layout) (slot : Slot) (after : Layout) (t : TurnState) (areas : Areas) : Type 0 where
  pub number : t.number ≡ length layout.slots
  pub long : length t.body ≡ 511
  pub spelled : IsSpelled header.profile (length layout.slots) t.body slot
  pub at : IsTurnAt header layout slot after t.stage areas

-- it is the group's
abbrev pub IsTurnOf : Header → Layout → Group → TurnState → Areas → Type 0
IsTurnOf header layout group t areas = IsTurn header layout group.slot (laid_out layout group) t areas

-- the areas at a stage of the group
abbrev pub IsAtStage : Header → Layout → Group → List QueuedValue → GroupStage → Option TurnState → Areas → Type 0
IsAtStage header layout group qs NoGroup turn areas = RestsAs header layout areas
IsAtStage header layout group qs (Storing member extent) turn areas =
    IsStoring header layout group (take (written_before qs member extent) (extents_of group.members))
    (drop (written_before qs member extent) (extents_of group.members)) areas
IsAtStage header layout group qs Stored turn areas = IsTurnAt header layout group.slot (laid_out layout group) Begun areas
IsAtStage header layout group qs Turning turn areas = MatchOption turn ⊥ (λ t. IsTurnOf header layout group t areas)

-- ---- what a job makes

-- the anchor chain of a reclaim: as its slot names it, its records, and its extents
pub record StoredAnchors : Type 0 where
  pub entry : Anchors
  pub olds : List OldRecord
  pub extents : List Extent

-- a run of the archive, a chain of anchors, or a floor alone
pub data Product : Type 0 where
  OfRun : StoredRun → Product
  OfAnchors : StoredAnchors → Product
  OfFloor : Option ℕ → ℕ → Product

-- the slot that names it
abbrev pub body_of : Product → Body
body_of (OfRun run) = ArchivedBody run.entry
body_of (OfAnchors a) = ReclaimedBody a.entry
body_of (OfFloor scope floor) = FloorBody scope floor

-- the slot of this number that names what a job makes
abbrev pub slot_naming : ℕ → Product → Slot
slot_naming number p = record { number = number; body = body_of p }

-- what stands where once the slot is open
abbrev pub laid_with : Layout → Product → Layout
laid_with layout (OfRun run) = archived layout (slot_naming (length layout.slots) (OfRun run)) run
laid_with layout (OfAnchors a) = reclaimed layout (slot_naming (length layout.slots) (OfAnchors a)) a.entry.upto a.extents
laid_with layout (OfFloor scope floor) = floored layout (slot_naming (length layout.slots) (OfFloor scope floor))

-- what the image reads as once the slot is open
abbrev pub read_with : Reading → Product → Reading
read_with reading (OfRun run) = with_run reading run.entry.upto run.records
read_with reading (OfAnchors a) = with_anchors reading a.olds
read_with reading (OfFloor scope floor) = with_floor reading scope floor

-- The run may come next: it is the plan of an archive, stands behind the other runs, and its numbers are in range.
pub record IsNextRun (layout : Layout) (reading : Reading) (h : History Value) (run : StoredRun) : Type 0 where
  pub plan : IsArchivePlan reading run.entry.upto run.records
  pub later : archived_upto reading < run.entry.upto
  pub by_last : run.entry.upto ≤ histories.last h
  pub stored : IsStoredRun run
  pub behind : run.entry.start ≡ row_end 0 (runs_of layout.slots)
  pub in_range : IsRun run.entry

-- The chain may come next: it is the plan of a reclaim up to the archive mark, and its numbers are in range.
pub record IsNextChain (reading : Reading) (a : StoredAnchors) : Type 0 where
  pub plan : IsReclaimPlan reading a.olds
  pub upto : a.entry.upto ≡ archived_upto reading
  pub later : reclaimed_upto reading < archived_upto reading
  pub chain : IsAnchorChain a.entry a.extents a.olds
  pub in_range : AreAnchors a.entry

-- The floor may come next: it is one of the profile's, above each that stands and that it covers, and no later than the last commit.
pub record IsNextFloor (reading : Reading) (h : History Value) (scope : Option ℕ) (floor : ℕ) : Type 0 where
  pub scope_is : IsRelationOf reading.profile scope
  pub rises : (relation : ℕ) → IsTrue (covers scope relation) → floor_of reading.log relation < floor
  pub by_last : floor ≤ histories.last h
  pub in_range : floor < 2 ^ 63

-- what a job makes may come next in the log
abbrev pub MayBeNext : Layout → Reading → History Value → Product → Type 0
MayBeNext layout reading h (OfRun run) = IsNextRun layout reading h run
MayBeNext layout reading h (OfAnchors a) = IsNextChain reading a
MayBeNext layout reading h (OfFloor scope floor) = IsNextFloor reading h scope floor

-- ---- the job that makes it

-- the job's slot is to name it, and its extents are those that are out for the job
abbrev pub IsMadeBy : List ℕ → JobWork → Product → Type 0
IsMadeBy reserved (Archive run writer) (OfRun r) = r.entry ≡ run
IsMadeBy reserved (Archive run writer) (OfAnchors a) = ⊥
IsMadeBy reserved (Archive run writer) (OfFloor scope floor) = ⊥
IsMadeBy reserved (Reclaim anchors source written) (OfRun r) = ⊥
IsMadeBy reserved (Reclaim anchors source written) (OfAnchors a) = (a.entry ≡ anchors) × (map (λ (e : Extent). e.number) a.extents ≡ reserved)
IsMadeBy reserved (Reclaim anchors source written) (OfFloor scope floor) = ⊥
IsMadeBy reserved (Floor scope floor floors) (OfRun r) = ⊥
IsMadeBy reserved (Floor scope floor floors) (OfAnchors a) = ⊥
IsMadeBy reserved (Floor scope floor floors) (OfFloor of made) = (of ≡ scope) × (made ≡ floor)
-- of a growth a slot says nothing: a store that grows is told of without it
IsMadeBy reserved (Grow growth) p = ⊥

-- the front of the run is written, and this is left of it
pub record IsWritten (run : StoredRun) (writer : InWriting) (a : AreaState) : Type 0 where
  pub front : List ℕ
  pub whole : front ++ writer.left ≡ run_bytes run.records
  pub place : writer.at ≡ run.entry.start + length front
  pub held : HoldsPart run.entry.start front a.bytes

-- so many extents of the chain are written, and these records are left for the others
pub record IsFilling (a : StoredAnchors) (source : Sourced) (written : ℕ) (heap : AreaState) : Type 0 where
  pub rest : map (λ (e : Extent). e.body) (drop written a.extents) ≡ bodies (map spelling source.left)
  pub held : AllByRecursion (HoldsExtent heap.bytes) (take written a.extents)

-- so much is written of what the job makes, before it is all stored
abbrev pub IsMaking : JobWork → Product → Areas → Type 0
IsMaking (Archive run writer) (OfRun r) areas = IsWritten r writer areas.archive
IsMaking (Archive run writer) (OfAnchors a) areas = ⊥
IsMaking (Archive run writer) (OfFloor scope floor) areas = ⊥
IsMaking (Reclaim anchors source written) (OfRun r) areas = ⊥
IsMaking (Reclaim anchors source written) (OfAnchors a) areas = IsFilling a source written areas.heap
IsMaking (Reclaim anchors source written) (OfFloor scope floor) areas = ⊥
IsMaking (Floor scope floor floors) p areas = ⊥
IsMaking (Grow growth) p areas = ⊥

-- whatever a stop may leave holds it
abbrev pub KeepsProduct : Product → Areas → Type 0
KeepsProduct (OfRun run) areas = KeepsRun areas.archive run
KeepsProduct (OfAnchors a) areas = KeepsExtents a.extents areas.heap
KeepsProduct (OfFloor scope floor) areas = Unit {0}

-- the slot in the writing is the one that names it
abbrev pub IsTurnFor : Header → Layout → Product → TurnState → Areas → Type 0
IsTurnFor header layout p t areas = IsTurn header layout (slot_naming (length layout.slots) p) (laid_with layout p) t areas

-- the areas at a stage of the job
abbrev pub IsAtJob : Header → Layout → JobWork → Product → JobStage → Areas → Type 0
IsAtJob header layout work p job.Writing areas = IsMaking work p areas
IsAtJob header layout work p job.Stored areas = KeepsProduct p areas
IsAtJob header layout work p (job.Turning t) areas = IsTurnFor header layout p t areas

-- a job makes something that may come next, and the areas have what is done of it at its stage
pub record JobIsAt (header : Header) (layout : Layout) (reading : Reading) (h : History Value) (reserved : List ℕ) (j : Job) (areas : Areas) : Type 0 where
  pub product : Product
  pub made : IsMadeBy reserved j.work product
  pub next : MayBeNext layout reading h product
  pub at : IsAtJob header layout j.work product j.stage areas

-- so it is of the job that runs, if there is one
abbrev pub HasJob : Header → Layout → Reading → History Value → List ℕ → Option Job → Areas → Type 0
HasJob header layout reading h reserved None areas = Unit {0}
HasJob header layout reading h reserved (Some j) areas = JobIsAt header layout reading h reserved j areas

-- while a job's slot is in the writing, a group goes its way as if the status area rested; this is what it would be
abbrev pub IsRested : Header → Layout → Option TurnState → AreaState → AreaState → Type 0
IsRested header layout None rested status = status ≡ rested
IsRested header layout (Some t) rested status = StatusRests header layout.slots rested × IsSound rested

-- ---- the store

-- the extents of each commit's chain are in the chain of its time
abbrev pub HasTimes : List ℕ → List StoredMember → Type 0
HasTimes times members = AllByRecursion (λ (s : StoredMember). AllByRecursion (λ (e : Extent). time_of times e.number ≡ s.entry.time) s.extents) members

-- The log stands for what is published. So many of its slots are used, and these are its marks and the end of its runs.
pub record HasLog (header : Header) (many mark forgotten end : ℕ) (h : History Value) (floors : ℕ → ℕ) : Type 0 where
  pub layout : Layout
  pub reading : Reading
  pub laid : IsLayoutOf header layout reading
  pub stands : StandsFor reading h floors
  pub built : AreBuilt header layout.slots
  pub used : many ≡ length layout.slots
  pub archived : mark ≡ archived_upto reading
  pub reclaimed : forgotten ≡ reclaimed_upto reading
  pub runs_end : end ≡ row_end 0 (runs_of layout.slots)

-- No live chain has an extent that is not kept, and memory has the facts of the heap.
pub record HasHeap (layout : Layout) (reading : Reading) (usages : List Usage) (chains : List ℕ) (versions : List KeyWrites) : Type 0 where
  pub kept : AllByRecursion (λ e. IsKept usages e.number) (live layout)
  -- each extent of a commit's chain is known by the time of its commit
  pub times : HasTimes chains layout.members
  pub times_long : length chains ≡ 65536
  pub facts : (key : Key) → writes_of versions key ≡ heap_facts reading key

-- what is written of the group, on areas whose status area is as it would rest
pub record HasGroup (header : Header) (layout : Layout) (group : Group) (qs : List QueuedValue) (stage : GroupStage) (turn other : Option TurnState)
    (areas : Areas) : Type 0 where
  pub rested : AreaState
  pub rests : IsRested header layout other rested areas.status
  pub at : IsAtStage header layout group qs stage turn (record areas { status = rested })

-- No call was refused. The disk has a log that stands for what is published, and beside it what is written of the group and of what the job makes.
pub record Works (header : Header) (v : StoreValue) (m : Machine Value) : Type 0 where
  pub log : HasLog header v.log.used v.archived v.transactions.reclaimed v.runs_end m.published m.floors
  pub heap : HasHeap log.layout log.reading v.transactions.usages v.transactions.times v.transactions.versions
  pub packed : AllPacked m.published v.transactions.queue m.queue
  pub group : HasGroup header log.layout (group_of log.layout v.transactions m) v.transactions.queue v.transactions.stage v.turn (turn_of v.job) v.disk.areas
  pub job : HasJob header log.layout log.reading m.published v.transactions.reserved v.job v.disk.areas
  pub sound : AreSound v.disk.areas

-- Whatever a stop may leave stands for a front of the commit order: for what is published, or, once the gate of the group may be open, for that or for what is
-- published with the whole group.
pub record StandsOnDisk (v : StoreValue) (m : Machine Value) : Type 0 where
  pub header : Header
  pub profile : v.log.profile ≡ header.profile
  pub slots : v.log.slots ≡ total header
  pub pieces : v.log.pieces ≡ header.pieces
  pub profile_built : IsTrue (is_built header.profile 1)
  pub leaves : (image : Image) → LeavesImage v.disk.areas image → OnFront (IsImageOf header image) m
  pub works : m.failed ≡ false → Works header v m

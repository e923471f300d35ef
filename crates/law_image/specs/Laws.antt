-- Laws of images: what each step leaves, and what a kept query answers.
use Rattle.std.specs.Prelude.{ℕ, ◌≡◌, ◌≢◌, ◌<◌, ◌≤◌, ◌^◌, ◌⊎◌, ◌↔◌, ◌++◌, List, [], length, take, Option, Contains, Result}
use Rattle.history.specs.declared.key.Key.{Key}
use Rattle.history.specs.declared.time.Version.{Version}
use Rattle.history.specs.Floors.{Raising, raised}
use Rattle.history.specs.Versions.{standing_at, rows}
use Rattle.history.specs.Histories.{History, last, state, between, IsVersion, MayAllFollow}
use Rattle.history.specs.Sets.{IsSpan}
use Rattle.history.specs.Answers.{QueryRefusal, at_answer, between_answer, IsScanAtAnswer, IsScanBetweenAnswer}
use Rattle.history.specs.Views.{IsViewOf, at_view, between_view, IsScanAtView, IsScanBetweenView}
use Rattle.history.specs.Machine.{Machine, MayRaise, IsMachine}
use Rattle.history.specs.Steps.{Published, FloorPublished, Step}
use Rattle.law_image.specs.Values.{Value, IsValue}
use Rattle.law_image.specs.Reading.{Member, OldRecord, ArchiveRecord, Reading, slot_count, Floor}
use Rattle.law_image.specs.Log.{IsScopeOf, MayCome}
use Rattle.law_image.specs.Facts.{written, stored, values_now, IsHeapFact, heap_versions, archived_versions}
use Rattle.law_image.specs.StandsFor.{IsHeader, StandsFor, StandsForBySets, IsKept, kept_versions, archived_upto, reclaimed_upto}
use Rattle.law_image.specs.Views.{view_of}
use Rattle.law_image.specs.PlansMade.{archive_plan, reclaim_plan, retired}
use Rattle.law_image.specs.Plans.{empty_reading, HasSlots, HasRoom, most_members, IsGroupOf, stored_members, with_group, IsArchivePlan, with_run, IsReclaimPlan}
use Rattle.law_image.specs.Plans.{with_anchors, with_floor, with_piece}

-- an image with no slot open stands for the empty history
abbrev pub EmptyStands : Type 0
EmptyStands = (profile slots pieces : ℕ) → IsHeader profile slots pieces → StandsFor (empty_reading profile slots pieces) [] (λ relation. 0)

-- a group's slot adds its commits to the history
abbrev pub GroupStands : Type 0
GroupStands = (reading : Reading) (h next : History Value) (floors : ℕ → ℕ) (group : List Member)
    → StandsFor reading h floors → IsGroupOf reading h next group → HasRoom reading → StandsFor (with_group reading group) (h ++ next) floors

-- an archive changes neither history nor floors
abbrev pub ArchiveStands : Type 0
ArchiveStands = (reading : Reading) (h : History Value) (floors : ℕ → ℕ) (upto : ℕ) (run : List ArchiveRecord)
    → StandsFor reading h floors → IsArchivePlan reading upto run → archived_upto reading < upto → upto ≤ last h → HasSlots reading → HasRoom reading
    → StandsFor (with_run reading upto run) h floors

-- nor does a reclaim
abbrev pub ReclaimStands : Type 0
ReclaimStands = (reading : Reading) (h : History Value) (floors : ℕ → ℕ) (olds : List OldRecord)
    → StandsFor reading h floors → IsReclaimPlan reading olds → reclaimed_upto reading < archived_upto reading → HasSlots reading → HasRoom reading
    → StandsFor (with_anchors reading olds) h floors

-- what is planned of an image that stands for a history is a plan
abbrev pub ArchiveIsPlanned : Type 0
ArchiveIsPlanned =
    (reading : Reading) (h : History Value) (floors : ℕ → ℕ) (upto : ℕ) → StandsFor reading h floors → IsArchivePlan reading upto (archive_plan reading upto)

-- the anchors that are planned of an image that stands for a history are the plan of a reclaim
abbrev pub ReclaimIsPlanned : Type 0
ReclaimIsPlanned = (reading : Reading) (h : History Value) (floors : ℕ → ℕ) → StandsFor reading h floors → IsReclaimPlan reading (reclaim_plan reading)

-- a plan stays one while groups are published beside its job: what they write ends after all that it has
abbrev pub ArchivePlanStays : Type 0
ArchivePlanStays = (reading : Reading) (h next : History Value) (floors : ℕ → ℕ) (group : List Member) (upto : ℕ) (run : List ArchiveRecord)
    → StandsFor reading h floors → IsGroupOf reading h next group → HasRoom reading → upto ≤ last h → IsArchivePlan reading upto run
    → IsArchivePlan (with_group reading group) upto run

-- the plan of a reclaim stays one while groups are published beside its job
abbrev pub ReclaimPlanStays : Type 0
ReclaimPlanStays = (reading : Reading) (h next : History Value) (floors : ℕ → ℕ) (group : List Member) (olds : List OldRecord)
    → StandsFor reading h floors → IsGroupOf reading h next group → HasRoom reading → IsReclaimPlan reading olds → IsReclaimPlan (with_group reading group) olds

-- a reclaim keeps the members that it does not retire
abbrev pub RetiredAreGivenUp : Type 0
RetiredAreGivenUp =
    (reading : Reading) (olds : List OldRecord) (m : Member) → Contains reading.members m
    ↔ (Contains (retired reading) m ⊎ Contains (with_anchors reading olds).members m)

-- a floor's slot raises the floor alone
abbrev pub FloorStands : Type 0
FloorStands = (reading : Reading) (h : History Value) (floors : ℕ → ℕ) (scope : Option ℕ) (floor : ℕ)
    → StandsFor reading h floors → MayCome reading.profile reading.log (Floor scope floor) → HasSlots reading → HasRoom reading
    → StandsFor (with_floor reading scope floor) h (raised scope floor floors)

-- and a piece gives room alone
abbrev pub PieceStands : Type 0
PieceStands = (reading : Reading) (h : History Value) (floors : ℕ → ℕ)
    → StandsFor reading h floors → reading.profile ≢ 1 → HasSlots reading → slot_count (with_piece reading) ≤ 65536 → StandsFor (with_piece reading) h floors

-- the values at kept times are those of the history
abbrev pub KeptValues : Type 0
KeptValues = (reading : Reading) (h : History Value) (floors : ℕ → ℕ) (key : Key) (t : ℕ)
    → StandsFor reading h floors → floors key.relation ≤ t → t < 2 ^ 63 → standing_at (kept_versions reading (floors key.relation) key) t ≡ state h t key

-- and so are the rows of kept intervals
abbrev pub KeptRows : Type 0
KeptRows = (reading : Reading) (h : History Value) (floors : ℕ → ℕ) (key : Key) (a b : ℕ)
    → StandsFor reading h floors → floors key.relation ≤ a → rows (kept_versions reading (floors key.relation) key) a b ≡ between h key a b

-- so what queries of the store that opens the image read stands for the history, and each is answered as the history says
abbrev pub ImageIsView : Type 0
ImageIsView = (reading : Reading) (h : History Value) (floors : ℕ → ℕ) → StandsFor reading h floors → IsViewOf (view_of reading) h

-- a query of a key at a time is answered as the history says
abbrev pub ImageAnswersAt : Type 0
ImageAnswersAt =
    (reading : Reading) (h : History Value) (floors : ℕ → ℕ) (key : Key) (t : ℕ) → StandsFor reading h floors → at_view (view_of reading) key t
    ≡ at_answer h floors key t

-- a query of a key from a to b is answered as the history says
abbrev pub ImageAnswersBetween : Type 0
ImageAnswersBetween =
    (reading : Reading) (h : History Value) (floors : ℕ → ℕ) (key : Key) (a b : ℕ) → StandsFor reading h floors → between_view (view_of reading) key a b
    ≡ between_answer h floors key a b

-- a scan of a relation at a time is answered as the history says
abbrev pub ImageScansAt : Type 0
ImageScansAt = (reading : Reading) (h : History Value) (floors : ℕ → ℕ) (relation t : ℕ) (answer : Result (List (ℕ × Value)) QueryRefusal)
    → StandsFor reading h floors → IsScanAtView (view_of reading) relation t answer ↔ IsScanAtAnswer h floors relation t answer

-- a scan of a relation from a to b is answered as the history says
abbrev pub ImageScansBetween : Type 0
ImageScansBetween = (reading : Reading) (h : History Value) (floors : ℕ → ℕ) (relation a b : ℕ) (answer : Result (List (ℕ × Version Value)) QueryRefusal)
    → StandsFor reading h floors → IsScanBetweenView (view_of reading) relation a b answer ↔ IsScanBetweenAnswer h floors relation a b answer

-- what is kept are the versions that end after the floor
abbrev pub KeptIsSet : Type 0
KeptIsSet = (reading : Reading) (h : History Value) (floors : ℕ → ℕ) (key : Key) (v : Version Value)
    → StandsFor reading h floors → IsKept reading key v ↔ IsVersion h key v × (floors key.relation < v.to)

-- of these, the heap has those that end after R
abbrev pub HeapIsSet : Type 0
HeapIsSet = (reading : Reading) (h : History Value) (floors : ℕ → ℕ) (key : Key) (v : Version Value)
    → StandsFor reading h floors → Contains (heap_versions reading key) v × (floors key.relation < v.to) ↔ IsVersion h key v × (floors key.relation < v.to)
    × (reclaimed_upto reading < v.to)

-- and the archive those that end by A
abbrev pub ArchiveIsSet : Type 0
ArchiveIsSet = (reading : Reading) (h : History Value) (floors : ℕ → ℕ) (key : Key) (v : Version Value)
    → StandsFor reading h floors → Contains (archived_versions reading key) v × (floors key.relation < v.to) ↔ IsVersion h key v × (floors key.relation < v.to)
    × (v.to ≤ archived_upto reading)

-- a heap version is a version among the heap's facts, as one of a history is among its writes
abbrev pub HeapVersionsAreSpans : Type 0
HeapVersionsAreSpans = (reading : Reading) (h : History Value) (floors : ℕ → ℕ) (key : Key) (v : Version Value)
    → StandsFor reading h floors → Contains (heap_versions reading key) v ↔ IsSpan (IsHeapFact reading key) v

-- what is stored of a write is read as it
abbrev pub StoredIsRead : Type 0
StoredIsRead = (before new : Option Value) → written before (stored before new) ≡ new

-- whether homes are told as sets or as lists, the image stands for the same
abbrev pub SetsAreLists : Type 0
SetsAreLists = (reading : Reading) (h : History Value) (floors : ℕ → ℕ) → StandsForBySets reading h floors ↔ StandsFor reading h floors

-- from R on the heap alone gives the values at kept times
abbrev pub RecentValues : Type 0
RecentValues = (reading : Reading) (h : History Value) (floors : ℕ → ℕ) (key : Key) (t : ℕ)
    → StandsFor reading h floors → floors key.relation ≤ t → reclaimed_upto reading ≤ t → t < 2 ^ 63 → standing_at (heap_versions reading key) t ≡ state h t key

-- and the rows of kept intervals
abbrev pub RecentRows : Type 0
RecentRows = (reading : Reading) (h : History Value) (floors : ℕ → ℕ) (key : Key) (a b : ℕ)
    → StandsFor reading h floors → floors key.relation ≤ a → reclaimed_upto reading ≤ a → rows (heap_versions reading key) a b ≡ between h key a b

-- commits that may follow are stored as a group that is theirs
abbrev pub StoredIsGroup : Type 0
StoredIsGroup =
    (reading : Reading) (h next : History Value) (floors : ℕ → ℕ) → StandsFor reading h floors → MayAllFollow IsValue h next → 0 < length next
    → length next ≤ most_members reading.profile
    → IsGroupOf reading h next (stored_members (values_now reading) next)

-- where the machine publishes a group, the image with the group's slot stands for what is then published
abbrev pub GroupPublishes : Type 0
GroupPublishes = (reading : Reading) (old new : Machine Value) (size : ℕ)
    → StandsFor reading old.published old.floors → IsMachine IsValue old → old.most ≤ most_members reading.profile → Step IsValue old (Published size) new
    → HasRoom reading → StandsFor (with_group reading (stored_members (values_now reading) (take old.group old.queue))) new.published new.floors

-- a floor that may be raised may come next in the log, and where the machine publishes it, the image with its slot stands for what is then so
abbrev pub RaiseMayCome : Type 0
RaiseMayCome = (reading : Reading) (m : Machine Value) (r : Raising)
    → StandsFor reading m.published m.floors → MayRaise m r → IsScopeOf reading.profile r.scope → MayCome reading.profile reading.log (Floor r.scope r.floor)

-- where the machine publishes a floor, the image with its slot stands for what then holds
abbrev pub FloorPublishes : Type 0
FloorPublishes = (reading : Reading) (old new : Machine Value) (r : Raising)
    → StandsFor reading old.published old.floors → IsMachine IsValue old → Step IsValue old (FloorPublished r) new → IsScopeOf reading.profile r.scope
    → HasSlots reading → HasRoom reading
    → StandsFor (with_floor reading r.scope r.floor) new.published new.floors

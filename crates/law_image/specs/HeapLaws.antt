-- Laws of images whose log lies in the heap: what each step leaves.
use Rattle.std.specs.Prelude.{ℕ, ◌≡◌, ◌<◌, ◌≤◌, true, List, [], ◌∷◌, ◌++◌, map, length, Option}
use Rattle.std.specs.List.{AllByRecursion}
use Rattle.history.specs.Floors.{raised}
use Rattle.history.specs.Histories.{History, last}
use Rattle.law_image.specs.Values.{Value}
use Rattle.law_image.specs.Reading.{Head, Slot, Commits, Floor, Member, OldRecord, ArchiveRecord, Reading}
use Rattle.law_image.specs.Log.{is_in_heap, last_time, AreRisingAfter, MayComeInHeap}
use Rattle.law_image.specs.StandsFor.{IsHeapOf, StandsFor, archived_upto, reclaimed_upto}
use Rattle.law_image.specs.Plans.{IsReclaimPlan, with_floor, with_group}
use Rattle.law_image.specs.HeapPlans.{empty_heap, IsMergePlan, with_merged, IsBased, with_base}

-- an image of a new store stands for the empty history
abbrev pub EmptyHeapStands : Type 0
EmptyHeapStands = (extents : ℕ) → IsHeapOf extents 0 → StandsFor (empty_heap extents) [] (λ relation. 0)

-- an archive changes neither history nor floors, of however many runs it takes the place
abbrev pub MergeStands : Type 0
MergeStands = (reading : Reading) (h : History Value) (floors : ℕ → ℕ) (kept upto : ℕ) (run : List ArchiveRecord)
    → StandsFor reading h floors → is_in_heap reading.profile ≡ true → IsMergePlan reading kept upto run → archived_upto reading < upto → upto ≤ last h
    → StandsFor (with_merged reading kept upto run) h floors

-- nor does a base that takes the place of a front of the log
abbrev pub BaseStands : Type 0
BaseStands = (reading : Reading) (h : History Value) (floors : ℕ → ℕ) (olds : List OldRecord) (after : List Slot)
    → StandsFor reading h floors → is_in_heap reading.profile ≡ true → IsReclaimPlan reading olds → IsBased (archived_upto reading) reading.log after
    → StandsFor (with_base reading olds after) h floors

-- where nothing was archived since the last reclaim, the anchors that stand are the plan of one
abbrev pub AnchorsArePlan : Type 0
AnchorsArePlan =
    (reading : Reading) (h : History Value) (floors : ℕ → ℕ) → StandsFor reading h floors → archived_upto reading ≡ reclaimed_upto reading
    → IsReclaimPlan reading reading.anchors

-- a group that is published while the base is made comes behind it as it comes behind the log
abbrev pub BaseStaysBehind : Type 0
BaseStaysBehind = (mark : ℕ) (log after : List Slot) (heads : List Head)
    → mark ≤ last_time log → 0 < length heads → AreRisingAfter (last_time log) heads → IsBased mark log after
    → IsBased mark (log ++ Commits heads ∷ []) (after ++ Commits heads ∷ [])

-- whether the base or the group comes first, the image is the same
abbrev pub GroupBesideBase : Type 0
GroupBesideBase = (reading : Reading) (olds : List OldRecord) (after : List Slot) (group : List Member)
    → AllByRecursion (λ m. archived_upto reading < m.head.time) group
    → with_group (with_base reading olds after) group ≡ with_base (with_group reading group) olds (after ++ Commits (map (λ m. m.head) group) ∷ [])

-- a floor's entry raises the floor alone
abbrev pub FloorStandsInHeap : Type 0
FloorStandsInHeap = (reading : Reading) (h : History Value) (floors : ℕ → ℕ) (scope : Option ℕ) (floor : ℕ)
    → StandsFor reading h floors → is_in_heap reading.profile ≡ true → MayComeInHeap reading.log (Floor scope floor)
    → StandsFor (with_floor reading scope floor) h (raised scope floor floors)

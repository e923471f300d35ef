-- The log of an image of profile 4, as the chains that it is made of, and what they tell.
use Rattle.std.specs.Prelude.{ℕ, ◌≡◌, ◌<◌, ◌≤◌, ◌-◌, ◌^◌, ◌+◌, max, nat_lt, nat_le, List, [], ◌∷◌, ◌++◌, length, map, filter, flat_map, Option, Some}
use Rattle.std.specs.List.{AllByRecursion}
use Rattle.law_image.specs.Reading.{Head, Slot, Commits, Archived, Reclaimed, Member, OldRecord, ArchiveRecord, Reading}
use Rattle.law_image.specs.Reading as slots
use Rattle.law_image.specs.Log.{heads_of, last_time_after, archive_mark, floor_of, AreRisingAfter}
use Rattle.law_image.specs.HeapPlans.{marks_of, first_runs}

-- a floor of one relation
pub record RelationFloor : Type 0 where
  pub relation : ℕ
  pub floor : ℕ

-- What the base says: the reclaim mark, the commits up to it, which its rolls name, the marks of the runs, and the floors.
pub record Base : Type 0 where
  pub upto : ℕ
  pub names : List Head
  pub marks : List ℕ
  pub floors : List RelationFloor

-- A chain of the log: the base; a group of commits with their records; a run up to a time, which takes the place of so many of the last runs; or a floor.
pub data LogChain : Type 0 where
  OfBase : Base → LogChain
  OfGroup : List Member → LogChain
  OfRun : ℕ → ℕ → LogChain
  OfFloor : RelationFloor → LogChain

-- ---- what a log tells, as slots that say the same

-- these commits, if there are any
abbrev pub commits_slot : List Head → List Slot
commits_slot [] = []
commits_slot (head ∷ heads) = Commits (head ∷ heads) ∷ []

-- the commits that are later than a mark
abbrev pub later_heads : ℕ → List Head → List Head
later_heads mark heads = filter (λ head. nat_lt mark head.time) heads

-- a floor
abbrev pub floor_slot : RelationFloor → Slot
floor_slot f = slots.Floor (Some f.relation) f.floor

-- the base: its commits, then the mark, then its runs and floors
abbrev pub base_slots : Base → List Slot
base_slots b = commits_slot b.names ++ (Reclaimed b.upto ∷ (map Archived b.marks ++ map floor_slot b.floors))

-- the times and labels of a group's commits
abbrev pub heads_in : List Member → List Head
heads_in members = map (λ m. m.head) members

-- what is told with one chain more
abbrev pub told_behind : ℕ → List Slot → LogChain → List Slot
told_behind mark before (OfBase b) = before ++ base_slots b
told_behind mark before (OfGroup members) = before ++ commits_slot (later_heads mark (heads_in members))
told_behind mark before (OfRun upto runs) = first_runs (length (marks_of before) - runs) before ++ Archived upto ∷ []
told_behind mark before (OfFloor f) = before ++ floor_slot f ∷ []

-- what is told with these chains more
abbrev pub told_from : ℕ → List Slot → List LogChain → List Slot
told_from mark before [] = before
told_from mark before (chain ∷ chains) = told_from mark (told_behind mark before chain) chains

-- the reclaim mark of a log: that of its base, 0 if there is none
abbrev pub reclaimed_by : List LogChain → ℕ
reclaimed_by [] = 0
reclaimed_by (OfBase b ∷ chains) = b.upto
reclaimed_by (OfGroup members ∷ chains) = 0
reclaimed_by (OfRun upto runs ∷ chains) = 0
reclaimed_by (OfFloor f ∷ chains) = 0

-- what a log tells
abbrev pub told : List LogChain → List Slot
told chains = told_from (reclaimed_by chains) [] chains

-- ---- its rules

-- the commits of a chain; those that the base names are in its rolls
abbrev pub commits_in : LogChain → List Head
commits_in (OfBase b) = []
commits_in (OfGroup members) = heads_in members
commits_in (OfRun upto runs) = []
commits_in (OfFloor f) = []

-- the time of the last commit that the chains have, or what it was before
abbrev pub last_commit : ℕ → List LogChain → ℕ
last_commit time [] = time
last_commit time (chain ∷ chains) = last_commit (last_time_after time (commits_in chain)) chains

-- marks that rise from this one on, and go no further than the other
abbrev pub AreMarksTo : ℕ → ℕ → List ℕ → Type 0
AreMarksTo end mark [] = Unit {0}
AreMarksTo end mark (upto ∷ marks) = (mark < upto) × (upto ≤ end) × AreMarksTo end upto marks

-- a floor of each relation at the most, in the order of the relations, and none later than this time; the first is of this relation or a later one
abbrev pub AreFloorsTo : ℕ → ℕ → List RelationFloor → Type 0
AreFloorsTo end relation [] = Unit {0}
AreFloorsTo end relation (f ∷ floors) = (relation ≤ f.relation) × (0 < f.floor) × (f.floor ≤ end) × AreFloorsTo end (f.relation + 1) floors

-- the base comes first. Its runs and floors are no later than its mark, and so are the commits that its rolls name
pub record IsBase (b : Base) : Type 0 where
  pub some : 0 < b.upto
  pub most : b.upto < 2 ^ 63
  pub rising : AreRisingAfter 0 b.names
  pub named : last_time_after 0 b.names ≤ b.upto
  pub marks : AreMarksTo b.upto 0 b.marks
  pub floors : AreFloorsTo b.upto 0 b.floors

-- The chain may follow these, which tell this so far, where the reclaim mark is this one and the last commit had this time.
abbrev pub MayFollow : ℕ → ℕ → List Slot → LogChain → Type 0
MayFollow mark last before (OfBase b) = (before ≡ []) × (last ≡ 0) × (mark ≡ b.upto) × IsBase b
MayFollow mark last before (OfGroup members) =
    (0 < length members) × (length members ≤ 1024) × AreRisingAfter last (heads_in members) × (mark < last_time_after last (heads_in members))
MayFollow mark last before (OfRun upto runs) = (archive_mark before < upto) × (upto ≤ max mark last) × (runs ≤ length (marks_of before))
MayFollow mark last before (OfFloor f) = (floor_of before f.relation < f.floor) × (f.floor ≤ max mark last)

-- and so may each behind those before it
abbrev pub MayAllFollow : ℕ → ℕ → List Slot → List LogChain → Type 0
MayAllFollow mark last before [] = Unit {0}
MayAllFollow mark last before (chain ∷ chains) =
    MayFollow mark last before chain × MayAllFollow mark (last_time_after last (commits_in chain)) (told_behind mark before chain) chains

-- The log keeps its rules.
pub record KeepsChainRules (chains : List LogChain) : Type 0 where
  pub each : MayAllFollow (reclaimed_by chains) 0 [] chains
  pub archived : reclaimed_by chains ≤ archive_mark (told chains)

-- ---- the image

-- the members of a chain: its commits that are later than the mark
abbrev pub members_in : LogChain → List Member
members_in (OfBase b) = []
members_in (OfGroup members) = members
members_in (OfRun upto runs) = []
members_in (OfFloor f) = []

-- the members of a log
abbrev pub members_of : List LogChain → List Member
members_of chains = filter (λ m. nat_lt (reclaimed_by chains) m.head.time) (flat_map members_in chains)

-- the image of a heap of this many extents whose log, anchors and runs are these
abbrev pub reading_of : ℕ → List LogChain → List OldRecord → List (List ArchiveRecord) → Reading
reading_of extents chains anchors runs =
    record { profile = 4; slots = extents; pieces = 0; log = told chains; members = members_of chains; anchors = anchors; runs = runs }

-- ---- a reclaim

-- the chain has no commit later than this time
abbrev pub IsUpTo : ℕ → LogChain → Type 0
IsUpTo mark chain = AllByRecursion (λ (head : Head). head.time ≤ mark) (commits_in chain)

-- the chain has one
abbrev pub IsLater : ℕ → LogChain → Type 0
IsLater mark chain = mark < last_time_after 0 (commits_in chain)

-- the first chain of the rest has a commit later than this time, if there is a rest
abbrev pub BeginsLater : ℕ → List LogChain → Type 0
BeginsLater mark [] = Unit {0}
BeginsLater mark (chain ∷ chains) = IsLater mark chain

-- it is none that a base is
abbrev pub IsNoBase : LogChain → Type 0
IsNoBase (OfBase b) = ⊥
IsNoBase (OfGroup members) = Unit {0}
IsNoBase (OfRun upto runs) = Unit {0}
IsNoBase (OfFloor f) = Unit {0}

-- A base that takes the place of the front of a log, up to the archive mark: it names the commits up to the mark, and has the runs and the floors as the front
-- leaves them.
pub record TakesPlace (front back : List LogChain) (b : Base) : Type 0 where
  pub upto : b.upto ≡ archive_mark (told (front ++ back))
  pub front_ends : AllByRecursion (IsUpTo b.upto) front
  pub back_begins : BeginsLater b.upto back
  pub no_base : AllByRecursion IsNoBase back
  pub names : b.names ≡ filter (λ head. nat_le head.time b.upto) (heads_of (told (front ++ back)))
  pub marks : b.marks ≡ marks_of (told_from (reclaimed_by (front ++ back)) [] front)
  pub floors : (relation : ℕ) → floor_of (base_slots b) relation ≡ floor_of (told_from (reclaimed_by (front ++ back)) [] front) relation
  pub in_range : IsBase b

-- ---- a group more

-- the log with a group behind it
pub record IsWithGroup (chains : List LogChain) (members : List Member) : Type 0 where
  pub rules : KeepsChainRules (chains ++ OfGroup members ∷ [])
  pub tells : told (chains ++ OfGroup members ∷ []) ≡ told chains ++ Commits (heads_in members) ∷ []
  pub has : members_of (chains ++ OfGroup members ∷ []) ≡ members_of chains ++ members

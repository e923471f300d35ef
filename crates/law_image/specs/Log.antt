-- The log: its commits, its marks and floors, and which slot may come after others.
use Rattle.std.specs.Prelude.{ℕ, ◌≡◌, ◌<◌, ◌≤◌, ◌^◌, ◌==◌, max, Bool, IsTrue, IsSome, IsNone, MatchBool, List, [], ◌∷◌, ◌++◌, length, Option}
use Rattle.history.specs.Floors.{covers, raised}
use Rattle.law_image.specs.Reading.{Head, Slot, Commits, Archived, Reclaimed, Floor}

-- the commits that a log names, in order
abbrev pub heads_of : List Slot → List Head
heads_of [] = []
heads_of (Commits heads ∷ slots) = heads ++ heads_of slots
heads_of (slot ∷ slots) = heads_of slots

-- the time of the last commit, or what it was before
abbrev pub last_time_after : ℕ → List Head → ℕ
last_time_after before [] = before
last_time_after before (head ∷ heads) = last_time_after head.time heads

-- the time of the last commit that the log names, 0 if there is none
abbrev pub last_time : List Slot → ℕ
last_time log = last_time_after 0 (heads_of log)

-- the archive mark, A: that of the last archived slot, or what it was before
abbrev pub archive_mark_after : ℕ → List Slot → ℕ
archive_mark_after before [] = before
archive_mark_after before (Archived upto ∷ slots) = archive_mark_after upto slots
archive_mark_after before (slot ∷ slots) = archive_mark_after before slots

-- the archive mark of a log, 0 if nothing was archived
abbrev pub archive_mark : List Slot → ℕ
archive_mark log = archive_mark_after 0 log

-- the reclaim mark, R
abbrev pub reclaim_mark_after : ℕ → List Slot → ℕ
reclaim_mark_after before [] = before
reclaim_mark_after before (Reclaimed upto ∷ slots) = reclaim_mark_after upto slots
reclaim_mark_after before (slot ∷ slots) = reclaim_mark_after before slots

-- the reclaim mark of a log, 0 if nothing was reclaimed
abbrev pub reclaim_mark : List Slot → ℕ
reclaim_mark log = reclaim_mark_after 0 log

-- the floors, F: for each relation that of the last floor slot that covers it
abbrev pub floors_after : (ℕ → ℕ) → List Slot → ℕ → ℕ
floors_after before [] = before
floors_after before (Floor scope floor ∷ slots) = floors_after (raised scope floor before) slots
floors_after before (slot ∷ slots) = floors_after before slots

-- the floor of each relation by the log, 0 if none was raised
abbrev pub floor_of : List Slot → ℕ → ℕ
floor_of log = floors_after (λ relation. 0) log

-- commits with times that rise after a time
abbrev pub AreRisingAfter : ℕ → List Head → Type 0
AreRisingAfter time [] = Unit {0}
AreRisingAfter time (head ∷ heads) = (time < head.time) × (head.time < 2 ^ 63) × AreRisingAfter head.time heads

-- profile 3 has floors of one relation each, and the others of every relation
abbrev pub IsScopeOf : ℕ → Option ℕ → Type 0
IsScopeOf profile scope = MatchBool (profile == 3) (IsSome scope) (IsNone scope)

-- The slot may come after these.
-- Times of commits rise. An archive goes past the archive mark, not past the last commit. A reclaim goes up to the archive mark, past the
-- reclaim mark. A floor is above each floor that it covers, not past the last commit.
abbrev pub MayCome : ℕ → List Slot → Slot → Type 0
MayCome profile before (Commits heads) = (0 < length heads) × (length heads ≤ 16) × AreRisingAfter (last_time before) heads
MayCome profile before (Archived upto) = (archive_mark before < upto) × (upto ≤ last_time before)
MayCome profile before (Reclaimed upto) = (upto ≡ archive_mark before) × (reclaim_mark before < upto)
MayCome profile before (Floor scope floor) =
    IsScopeOf profile scope × (floor ≤ last_time before) × ((relation : ℕ) → IsTrue (covers scope relation) → floor_of before relation < floor)

-- each of these slots may come after those before it, by such a rule
abbrev pub AllCome : (List Slot → Slot → Type 0) → List Slot → List Slot → Type 0
AllCome May before [] = Unit {0}
AllCome May before (slot ∷ slots) = May before slot × AllCome May (before ++ slot ∷ []) slots

-- each of these slots may come after those before it
abbrev pub MayAllCome : ℕ → List Slot → List Slot → Type 0
MayAllCome profile before slots = AllCome (MayCome profile) before slots

-- each slot of a log may come after those before it
abbrev pub KeepsLogRules : ℕ → List Slot → Type 0
KeepsLogRules profile log = MayAllCome profile [] log

-- ---- a log that lies in the heap

-- In profile 4 the log lies in the heap, and has no slots. A chain of it is told as the slots that say the same: a group as its commits that are later than the
-- reclaim mark; the base, which comes first, as the commits that its rolls name, the mark, its runs and its floors. A run that another took the place of is
-- left out.
abbrev pub is_in_heap : ℕ → Bool
is_in_heap profile = profile == 4

-- the last time that a log tells of: that of its last commit, or the reclaim mark if that is later
abbrev pub told_time : List Slot → ℕ
told_time log = max (last_time log) (reclaim_mark log)

-- what such a log says may come after these: the reclaim mark behind the commits of the base alone, and a run and a floor no later than what was told
abbrev pub MayComeInHeap : List Slot → Slot → Type 0
MayComeInHeap before (Commits heads) = (0 < length heads) × AreRisingAfter (told_time before) heads
MayComeInHeap before (Archived upto) = (archive_mark before < upto) × (upto ≤ told_time before)
MayComeInHeap before (Reclaimed upto) = (0 < upto) × (upto < 2 ^ 63) × (last_time before ≤ upto) × (reclaim_mark before ≡ 0)
MayComeInHeap before (Floor scope floor) =
    IsSome scope × (floor ≤ told_time before) × ((relation : ℕ) → IsTrue (covers scope relation) → floor_of before relation < floor)

-- It keeps its rules: what is reclaimed is archived, and no later than the last commit.
pub record KeepsHeapRules (log : List Slot) : Type 0 where
  pub each : AllCome MayComeInHeap [] log
  pub archived : reclaim_mark log ≤ archive_mark log
  pub published : reclaim_mark log ≤ last_time log

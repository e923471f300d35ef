-- A view of a moment, and what it answers from memory alone.
use Rattle.std.specs.Prelude.{ℕ, ◌≡◌, ◌+◌, ◌<◌, ◌≤◌, min, List, [], ◌∷◌, Option, None, Some}
use Rattle.std.specs.declared.sync.Arc.{Arc}
use Rattle.std.specs.declared.vec.Vec.{Vec}
use Rattle.std.specs.declared.alloc.Global.{Global}
use Rattle.floors.specs.Floors.{FloorsValue, floor_at}
use Rattle.archive.specs.declared.run.RunEntry.{RunEntry}
use Rattle.chains.specs.KeyWrites.{KeyWrites}
use Rattle.timequery.specs.declared.fault.QueryFault.{QueryFault}
use Rattle.timequery.specs.declared.fault.QueryFault.TheVariants.{BeforeKept, NotYet, EmptyInterval, Device, NoMemory, Damaged, NeedsDisk, Stranger}

-- ---- the runs of a log

-- what several views hold together
abbrev pub runs_in : Option (Arc (Vec RunEntry Global) Global) → List RunEntry
runs_in None = []
runs_in (Some shared) = shared.value.items

-- the archive mark: the last run goes up to it
abbrev pub mark_after : ℕ → List RunEntry → ℕ
mark_after mark [] = mark
mark_after mark (run ∷ runs) = mark_after run.slot.upto runs

-- the archive mark by these runs, 0 where there is none
abbrev pub mark_of : List RunEntry → ℕ
mark_of runs = mark_after 0 runs

-- ---- views

-- a view: all that queries read of one moment
pub record ViewValue : Type 0 where
  -- the mark of the store that gave it
  pub mark : ℕ
  -- the time of the last commit, and the floors, of its moment
  pub last : ℕ
  pub floors : FloorsValue
  -- memory has the versions that end after the reclaim mark, and the runs those that end by their mark
  pub reclaimed : ℕ
  pub runs : List RunEntry
  -- the writes of each key
  pub state : List KeyWrites

-- a time is refused with this fault: what is before the floor of the relation that is asked for first
abbrev pub RefusesTime : ViewValue → ℕ → ℕ → QueryFault → Type 0
RefusesTime v relation time (BeforeKept floor) = (time < floor_at v.floors relation) × (floor ≡ floor_at v.floors relation)
RefusesTime v relation time (NotYet last) = (floor_at v.floors relation ≤ time) × (v.last < time) × (last ≡ v.last)
RefusesTime v relation time EmptyInterval = ⊥
RefusesTime v relation time Device = ⊥
RefusesTime v relation time NoMemory = ⊥
RefusesTime v relation time (Damaged start) = ⊥
RefusesTime v relation time NeedsDisk = ⊥
RefusesTime v relation time Stranger = ⊥

-- what stood in a relation at a time is answered
pub record AnswersAt {V : Type 0} (v : ViewValue) (relation time : ℕ) (answer expected : V) : Type 0 where
  pub from_floor : floor_at v.floors relation ≤ time
  pub upto_last : time ≤ v.last
  pub is : answer ≡ expected

-- memory lacks versions that stand at the time
abbrev pub NeedsRuns : ViewValue → ℕ → QueryFault → Type 0
NeedsRuns v time fault = (fault ≡ NeedsDisk) × (time < v.reclaimed)

-- a time that is kept is refused where memory lacks versions
abbrev pub RefusesRecent : ViewValue → ℕ → ℕ → QueryFault → Type 0
RefusesRecent v relation time NeedsDisk = (floor_at v.floors relation ≤ time) × (time ≤ v.last) × (time < v.reclaimed)
RefusesRecent v relation time fault = RefusesTime v relation time fault

-- or room for what is found was refused, where it has them all
abbrev pub RefusesRecentScan : ViewValue → ℕ → ℕ → QueryFault → Type 0
RefusesRecentScan v relation time NoMemory = (floor_at v.floors relation ≤ time) × (time ≤ v.last) × (v.reclaimed ≤ time)
RefusesRecentScan v relation time fault = RefusesRecent v relation time fault

-- ---- intervals, from a time a up to a time b that is no longer in it

-- all of its times are kept of this relation, and there are some
pub record IsInView (v : ViewValue) (relation a b : ℕ) : Type 0 where
  pub from_floor : floor_at v.floors relation ≤ min a b
  pub upto_last : b ≤ v.last + 1
  pub not_empty : a < b

-- an interval is refused with this fault by its bounds: what is before the floor of the relation first, then what is
-- later than the last commit, then an empty one
abbrev pub RefusesBounds : ViewValue → ℕ → ℕ → ℕ → QueryFault → Type 0
RefusesBounds v relation a b (BeforeKept floor) = (min a b < floor_at v.floors relation) × (floor ≡ floor_at v.floors relation)
RefusesBounds v relation a b (NotYet last) = (floor_at v.floors relation ≤ min a b) × (v.last + 1 < b) × (last ≡ v.last)
RefusesBounds v relation a b EmptyInterval = (floor_at v.floors relation ≤ min a b) × (b ≤ v.last + 1) × (b ≤ a)
RefusesBounds v relation a b Device = ⊥
RefusesBounds v relation a b NoMemory = ⊥
RefusesBounds v relation a b (Damaged start) = ⊥
RefusesBounds v relation a b NeedsDisk = ⊥
RefusesBounds v relation a b Stranger = ⊥

-- what stood in the interval is answered
pub record AnswersBetween {V : Type 0} (v : ViewValue) (relation a b : ℕ) (answer expected : V) : Type 0 where
  pub kept : IsInView v relation a b
  pub is : answer ≡ expected

-- an interval that is kept is refused where memory lacks versions alone
abbrev pub RefusesRecentWalk : ViewValue → ℕ → ℕ → ℕ → QueryFault → Type 0
RefusesRecentWalk v relation a b NeedsDisk = IsInView v relation a b × (a < v.reclaimed)
RefusesRecentWalk v relation a b fault = RefusesBounds v relation a b fault

-- an interval that is kept is refused where memory lacks versions, or where room for what is found was refused
abbrev pub RefusesRecentRows : ViewValue → ℕ → ℕ → ℕ → QueryFault → Type 0
RefusesRecentRows v relation a b NeedsDisk = IsInView v relation a b × (a < v.reclaimed)
RefusesRecentRows v relation a b NoMemory = IsInView v relation a b × (v.reclaimed ≤ a)
RefusesRecentRows v relation a b fault = RefusesBounds v relation a b fault

-- What is known of a log up to a chain, and which chain may come behind it.
use Rattle.std.specs.Prelude.{ℕ, ◌≡◌, ◌<◌, ◌≤◌, ◌↔◌, max, Bool, true, false, IsTrue, List, [], ◌∷◌, ◌++◌, length, map}
use Rattle.std.specs.List.{AllByRecursion}
use Rattle.law_image.specs.Reading.{Head}
use Rattle.law_image.specs.Log.{archive_mark, floor_of}
use Rattle.law_image.specs.HeapPlans.{marks_of}
use Rattle.law_log.specs.Chains.{heads_in, AreMarksTo}
use Rattle.wire.specs.declared.slot.Run.{Run}
use Rattle.floors.specs.Floors.{floor_at}
use Rattle.log_entries.specs.declared.entry.Member.{Member}
use Rattle.log_entries.specs.declared.entry.Archive.{Archive}
use Rattle.log_entries.specs.declared.entry.RelationFloor.{RelationFloor}
use Rattle.log_entries.specs.declared.entry.Base.{Base}
use Rattle.log_entries.specs.declared.entry.Entry.{Entry}
use Rattle.log_entries.specs.Ranges.{IsEntry, run_of}
use Rattle.law_log_layout.specs.HeapLog.{PlacedChain, Span, run_span, member_told, runs_behind, rolls_in, AreSpansInRow}
use Rattle.log_recovery.specs.Rules.{LogState, MayComeBehind, MayAllComeBehind, roll_part, row_end, no_log, state_behind, state_from, mark_of, FailsRule}
use Rattle.log_recovery.specs.Ends.{runs_left, rolls_named}
use Rattle.log_recovery.specs.declared.rules.LogEnd.{LogEnd}
use Rattle.log_recovery.specs.declared.rules.BaseEnds.{BaseEnds}
use Rattle.log_recovery.specs.declared.rules.RuleCheck.{RuleCheck}
use Rattle.log_recovery.specs.declared.rules.RuleCheck.TheVariants.{Keeps, Breaks}

-- ---- the end of a log

-- up to which times runs go
abbrev pub uptos_of : List Run → List ℕ
uptos_of runs = map (λ (run : Run). run.upto) runs

-- It says this state, where the reclaim mark is this one.
pub record Says (end : LogEnd) (mark : ℕ) (s : LogState) : Type 0 where
  pub empty : IsTrue end.empty ↔ ((s.told ≡ []) × (s.last ≡ 0))
  pub mark_is : end.mark ≡ mark
  pub last_is : end.last ≡ s.last
  pub archived_is : end.archived ≡ archive_mark s.told
  pub floors_are : (relation : ℕ) → floor_at end.floors relation ≡ floor_of s.told relation
  pub marks_are : uptos_of end.runs.items ≡ marks_of s.told
  pub runs_end_is : end.runs_end ≡ s.runs_end
  pub rolls_end_is : end.rolls_end ≡ s.rolls_end

-- the chain may come behind this state, and the new end says what is said with it
pub record IsFollowed (old new : LogEnd) (mark : ℕ) (s : LogState) (e : Entry) : Type 0 where
  pub may : MayComeBehind mark s e
  pub says : Says new mark (state_behind mark s e)

-- so it is where the answer is yes, and where it is no the chain may not come behind the state
abbrev pub IsAnswer : Bool → LogEnd → LogEnd → ℕ → LogState → Entry → Type 0
IsAnswer true old new mark s e = IsFollowed old new mark s e
IsAnswer false old new mark s e = ¬ MayComeBehind mark s e

-- for each state that the old end says
abbrev pub Answers : Bool → LogEnd → LogEnd → Entry → Type 0
Answers answer old new e = (mark : ℕ) (s : LogState) → Says old mark s → IsAnswer answer old new mark s e

-- the runs that stand with the chain, and its rolls behind those before it
pub record HasParts (old new : LogEnd) (e : Entry) : Type 0 where
  pub runs : new.runs.items ≡ runs_behind old.runs.items e
  pub rolls : new.rolls.items ≡ old.rolls.items ++ rolls_in e

-- ---- the chains of each kind

-- the times and labels of a group's commits
abbrev pub group_heads : List Member → List Head
group_heads members = heads_in (map member_told members)

-- the run goes further than the archive mark, and no further than what was told; it takes the place of no more runs than there are, and begins where the last
-- run ends or behind it
pub record IsNextRun (end : LogEnd) (a : Archive) : Type 0 where
  pub later : end.archived < a.upto
  pub told : a.upto ≤ max end.mark end.last
  pub few : a.runs ≤ length end.runs.items
  pub behind : end.runs_end ≤ a.start

-- the floor is later than the one that its relation has, and no later than what was told
pub record IsNextFloor (end : LogEnd) (f : RelationFloor) : Type 0 where
  pub later : floor_at end.floors f.relation < f.floor
  pub told : f.floor ≤ max end.mark end.last

-- up to which times the runs of a base go, and which parts of the archive they have
abbrev pub uptos_in : List Archive → List ℕ
uptos_in archives = map (λ (a : Archive). a.upto) archives

abbrev pub spans_in : List Archive → List Span
spans_in archives = map run_span (map run_of archives)

-- no floor is later than this time
abbrev pub AreUpTo : ℕ → List RelationFloor → Type 0
AreUpTo time floors = AllByRecursion (λ (f : RelationFloor). f.floor ≤ time) floors

-- the base comes first and has the reclaim mark; its runs and floors go no further, and its runs and rolls lie in a row
pub record IsNextBase (end : LogEnd) (b : Base) : Type 0 where
  pub empty : IsTrue end.empty
  pub mark_is : b.upto ≡ end.mark
  pub marks : AreMarksTo b.upto 0 (uptos_in b.archives)
  pub floors : AreUpTo b.upto b.floors
  pub runs : AreSpansInRow end.runs_end (spans_in b.archives)
  pub rolls : AreSpansInRow end.rolls_end (map roll_part b.rolls)

-- the last of these marks, or what it was before
abbrev pub last_upto : ℕ → List ℕ → ℕ
last_upto before [] = before
last_upto before (mark ∷ marks) = last_upto mark marks

-- how far the runs of the base go, and where its runs and its rolls end
pub record AreEnds (end : LogEnd) (b : Base) (ends : BaseEnds) : Type 0 where
  pub archived_is : ends.archived ≡ last_upto 0 (uptos_in b.archives)
  pub runs_end_is : ends.runs_end ≡ row_end end.runs_end (spans_in b.archives)
  pub rolls_end_is : ends.rolls_end ≡ row_end end.rolls_end (map roll_part b.rolls)

-- ---- all chains

-- each chain is in its ranges, in some heap
abbrev pub AreEntries : List PlacedChain → Type 0
AreEntries chains = (most : ℕ) × AllByRecursion (λ (c : PlacedChain). IsEntry most c.entry) chains

-- These chains may come one behind the other, and the end says what they say: their runs that stand, and the rolls that they name.
pub record IsEndOf (mark : ℕ) (chains : List PlacedChain) (end : LogEnd) : Type 0 where
  pub keeps : MayAllComeBehind mark no_log chains
  pub says : Says end mark (state_from mark no_log chains)
  pub runs_are : end.runs.items ≡ runs_left chains
  pub rolls_are : end.rolls.items ≡ rolls_named chains

-- the end of the log, or the head of the first chain that may not come behind those before it
abbrev pub IsCheckOf : List PlacedChain → RuleCheck → Type 0
IsCheckOf chains (Keeps end) = IsEndOf (mark_of chains) chains end
IsCheckOf chains (Breaks place) = FailsRule (mark_of chains) chains place

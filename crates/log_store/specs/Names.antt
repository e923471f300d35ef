-- The times of a label: those up to the reclaim mark are read in the rolls of the archive, the others are in memory.
use Rattle.std.specs.Prelude.{◌≡◌, ◌<◌, ◌≤◌, ◌++◌, ℕ, nat_lt, nat_le, Bool, IsTrue, List, length, filter, map, Result, IfOk, IfErr}
use Rattle.std.specs.List.{AllByRecursion}
use Rattle.std.specs.declared.alloc.Global.{Global}
use Rattle.std.specs.declared.vec.Vec.{Vec}
use Rattle.law_image.specs.Reading.{Head}
use Rattle.archive.specs.Searches.{archive_of}
use Rattle.timequery.specs.Faults.{after_query}
use Rattle.timequery.specs.Homes.{Answers}
use Rattle.timequery.specs.declared.fault.QueryFault.{QueryFault}
use Rattle.timequery.specs.declared.fault.QueryFault.TheVariants.{BeforeKept, NotYet, EmptyInterval, Device, NoMemory, Damaged, NeedsDisk, Stranger}
use Rattle.group.specs.CommitOrder.{times_of}
use Rattle.commits.specs.Values.{order_of}
use Rattle.log_entries.specs.Ranges.{IsRoll}
use Rattle.law_log_layout.specs.HeapLog.{PlacedRoll, AreNamesOf, HoldsRoll, IsStoredRoll}
use Rattle.log_base.specs.Bases.{mark_of}
use Rattle.log_names.specs.Rolls.{times_named}
use Rattle.log_store.specs.Values.{LogStoreValue}

-- the reclaim mark of the log: its rolls have the names of the commits up to it
abbrev pub names_mark : LogStoreValue → ℕ
names_mark v = mark_of v.live.chains

-- up to this time names of commits may have left memory
abbrev pub forgotten_upto : LogStoreValue → ℕ
forgotten_upto v = v.commits.reclaimed

-- the times of a label that are later, of the published commits
abbrev pub late_times : LogStoreValue → ℕ → List ℕ
late_times v label = filter (nat_lt (forgotten_upto v)) (times_of label (order_of v.commits))

-- and those of these times that are not
abbrev pub early_times : LogStoreValue → List ℕ → List ℕ
early_times v times = filter (λ (time : ℕ). nat_le time (forgotten_upto v)) times

-- names of commits lie in rolls of the archive
abbrev pub has_rolls : LogStoreValue → Bool
has_rolls v = nat_lt 0 (length v.named.rolls)

-- why it is refused: the device or memory gave out, or a roll is damaged
abbrev pub RefusesTimes : QueryFault → Type 0
RefusesTimes (BeforeKept floor) = ⊥
RefusesTimes (NotYet last) = ⊥
RefusesTimes EmptyInterval = ⊥
RefusesTimes Device = Unit {0}
RefusesTimes NoMemory = Unit {0}
RefusesTimes (Damaged start) = Unit {0}
RefusesTimes NeedsDisk = ⊥
RefusesTimes Stranger = ⊥

-- The rolls that the log names lie in these bytes of the archive, and name these commits.
pub record NamesLie (v : LogStoreValue) (area : List ℕ) (rolls : List PlacedRoll) (names : List Head) : Type 0 where
  pub rolls_are : map (λ (r : PlacedRoll). r.roll) rolls ≡ v.named.rolls
  pub each : AllByRecursion IsRoll v.named.rolls
  pub held : AllByRecursion (HoldsRoll area) rolls
  pub stored : AllByRecursion IsStoredRoll rolls
  pub are_names : AreNamesOf rolls names
  pub by_mark : AllByRecursion (λ (head : Head). head.time ≤ names_mark v) names

-- The times of a label are asked. Nothing is written. Whatever the disk holds, the times behind the earlier ones are those of memory; and where the rolls are
-- right, the earlier ones are those that the rolls have.
pub record AnswersTimes (tells : Bool) (v : LogStoreValue) (label : ℕ) (answer : Result (Vec ℕ Global) QueryFault) (new : LogStoreValue) : Type 0 where
  pub new_is : new ≡ record v { disk = after_query answer v.disk }
  pub refused : IfErr answer RefusesTimes
  pub late : IfOk answer (λ found. (early : List ℕ) × AllByRecursion (λ (time : ℕ). (0 < time) × (time ≤ forgotten_upto v)) early
      × (found.items ≡ early ++ late_times v label))
  pub only : (rolls : List PlacedRoll) (names : List Head) → IsTrue tells → NamesLie v (archive_of v.disk) rolls names
      → Answers answer (λ found. found.items ≡ early_times v (times_named label names) ++ late_times v label)

-- Laws of the log that lies in the heap.
use Rattle.std.specs.Prelude.{ℕ, ◌≡◌, ◌<◌, ◌≤◌, List, [], ◌∷◌, ◌++◌, length}
use Rattle.law_image.specs.Reading.{Member}
use Rattle.law_image.specs.Log.{last_time, archive_mark, KeepsHeapRules, AreRisingAfter}
use Rattle.law_image.specs.HeapPlans.{IsBased}
use Rattle.law_log.specs.Chains.{LogChain, OfBase, OfGroup, OfRun, OfFloor, Base, told, reclaimed_by, heads_in, KeepsChainRules, TakesPlace, IsWithGroup}

-- what a log tells keeps the rules of a log, where no reclaim went past the last commit
abbrev pub ToldKeepsRules : Type 0
ToldKeepsRules = (chains : List LogChain) → KeepsChainRules chains → reclaimed_by chains ≤ last_time (told chains) → KeepsHeapRules (told chains)

-- a base in the place of the front: the log keeps its rules and tells the same, but for the mark
abbrev pub BaseTakesPlace : Type 0
BaseTakesPlace = (front back : List LogChain) (b : Base)
    → KeepsChainRules (front ++ back) → reclaimed_by (front ++ back) ≤ last_time (told (front ++ back)) → TakesPlace front back b
    → KeepsChainRules (OfBase b ∷ back) × IsBased b.upto (told (front ++ back)) (told (OfBase b ∷ back))

-- a group whose commits are later than all before: the log with it keeps its rules, and tells the same with these commits
abbrev pub GroupComesBehind : Type 0
GroupComesBehind = (chains : List LogChain) (members : List Member)
    → KeepsChainRules chains → reclaimed_by chains ≤ last_time (told chains) → 0 < length members → length members ≤ 1024
    → AreRisingAfter (last_time (told chains)) (heads_in members)
    → IsWithGroup chains members

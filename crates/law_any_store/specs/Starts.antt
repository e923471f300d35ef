-- What the starts of jobs say of the machine.
use Rattle.std.specs.Prelude.{ℕ, ◌≡◌, ◌<◌, ◌≤◌, Bool, true, false, IsTrue, Contains, Result, Ok, Err}
use Rattle.history.specs.Histories.{last}
use Rattle.history.specs.Machine.{Machine}
use Rattle.law_image.specs.Values.{Value}
use Rattle.store.specs.declared.job.StartFault.{StartFault}
use Rattle.store.specs.declared.job.StartFault.TheVariants as start
use Rattle.any_store.specs.Values.{StoreValue, is_log}
use Rattle.any_store.specs.Jobs.{StartsArchive, StartsReclaim, StartsGrowth}
use Rattle.law_any_store.specs.Standing.{Stands}

-- An archive begins up to a time that is published; which marks and slots there are the machine does not know, nor what room the heap has where the log lies
-- in it. None is of the wrong profile, in either layout.
abbrev pub ArchiveSays : Bool → Machine Value → ℕ → Result (Unit {0}) StartFault → Type 0
ArchiveSays in_heap m upto (Ok u) = (m.failed ≡ false) × (upto ≤ last m.published)
ArchiveSays in_heap m upto (Err start.Failed) = m.failed ≡ true
ArchiveSays in_heap m upto (Err start.WrongProfile) = ⊥
ArchiveSays in_heap m upto (Err start.JobBusy) = Unit {0}
ArchiveSays in_heap m upto (Err start.NothingToDo) = Unit {0}
ArchiveSays in_heap m upto (Err (start.NotYet time)) = (time ≡ last m.published) × (time < upto)
ArchiveSays in_heap m upto (Err start.StatusFull) = in_heap ≡ false
ArchiveSays in_heap m upto (Err start.ArchiveFull) = Unit {0}
ArchiveSays in_heap m upto (Err (start.InUse time)) = ⊥
ArchiveSays in_heap m upto (Err start.HeapFull) = IsTrue in_heap
ArchiveSays in_heap m upto (Err start.NoMemory) = Unit {0}
ArchiveSays in_heap m upto (Err start.NotGrowable) = ⊥

-- so says each start
abbrev pub ArchiveStartSays : Type 0
ArchiveStartSays = (tells : Bool) (old new : StoreValue) (upto : ℕ) (answer : Result (Unit {0}) StartFault) (m : Machine Value) → Stands tells old m
    → StartsArchive old upto answer new → ArchiveSays (is_log old) m upto answer

-- A reclaim does not begin where an open transaction reads what it is to forget. None is of the wrong profile, in either layout. Only where the log lies in the
-- heap does it write to the archive, which may have no room for its roll.
abbrev pub ReclaimSays : Bool → Machine Value → Result (Unit {0}) StartFault → Type 0
ReclaimSays in_heap m (Ok u) = m.failed ≡ false
ReclaimSays in_heap m (Err start.Failed) = m.failed ≡ true
ReclaimSays in_heap m (Err start.WrongProfile) = ⊥
ReclaimSays in_heap m (Err start.JobBusy) = Unit {0}
ReclaimSays in_heap m (Err start.NothingToDo) = Unit {0}
ReclaimSays in_heap m (Err (start.InUse time)) = Contains m.snapshots time
ReclaimSays in_heap m (Err start.StatusFull) = in_heap ≡ false
ReclaimSays in_heap m (Err start.HeapFull) = Unit {0}
ReclaimSays in_heap m (Err start.NoMemory) = Unit {0}
ReclaimSays in_heap m (Err (start.NotYet time)) = ⊥
ReclaimSays in_heap m (Err start.ArchiveFull) = IsTrue in_heap
ReclaimSays in_heap m (Err start.NotGrowable) = ⊥

-- so says each start
abbrev pub ReclaimStartSays : Type 0
ReclaimStartSays = (tells : Bool) (old new : StoreValue) (answer : Result (Unit {0}) StartFault) (m : Machine Value) → Stands tells old m
    → StartsReclaim old answer new → ReclaimSays (is_log old) m answer

-- nor does the machine know how many slots there may be
abbrev pub GrowSays : Machine Value → Result (Unit {0}) StartFault → Type 0
GrowSays m (Ok u) = m.failed ≡ false
GrowSays m (Err start.Failed) = m.failed ≡ true
GrowSays m (Err start.JobBusy) = Unit {0}
GrowSays m (Err start.NotGrowable) = Unit {0}
GrowSays m (Err start.WrongProfile) = ⊥
GrowSays m (Err start.NothingToDo) = ⊥
GrowSays m (Err (start.NotYet time)) = ⊥
GrowSays m (Err (start.InUse time)) = ⊥
GrowSays m (Err start.StatusFull) = ⊥
GrowSays m (Err start.ArchiveFull) = ⊥
GrowSays m (Err start.HeapFull) = ⊥
GrowSays m (Err start.NoMemory) = ⊥

-- so says each start
abbrev pub GrowStartSays : Type 0
GrowStartSays = (tells : Bool) (old new : StoreValue) (answer : Result (Unit {0}) StartFault) (m : Machine Value) → Stands tells old m
    → StartsGrowth old answer new → GrowSays m answer

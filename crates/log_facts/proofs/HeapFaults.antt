-- Why nothing is told of a log that lies in the heap.
use Rattle.std.proofs.Common.{◌≡◌, ℕ, List, subst}
use Rattle.disk.specs.declared.area.Area.TheVariants as area
use Rattle.recovery.specs.declared.fault.OpenFault.{OpenFault}
use Rattle.recovery.specs.declared.fault.OpenFault.TheVariants as opening
use Rattle.log_roots.specs.Roots.{root_of}
use Rattle.log_shown.specs.declared.reading.ShownEnd.{ShownEnd}
use Rattle.log_shown.specs.declared.reading.ShownEnd.TheVariants as ends
use Rattle.log_shown.specs.declared.shown.LogShown.{LogShown}
use Rattle.log_shown.specs.Shown.{IsHeapShown, IsLogShown, IsShownFault}
use Rattle.log_facts.specs.HeapTexts.{IsInfoFault}

-- nothing is shown, so nothing is told
pub fault_told : (status heap : List ℕ) (fault : OpenFault) → IsShownFault status fault → IsInfoFault status heap fault
fault_told status heap opening.NotAStore is = is
fault_told status heap (opening.Damaged part n) is = absurd is
fault_told status heap opening.Device is = tt
fault_told status heap opening.NoMemory is = tt

-- a check fails
pub damage_told : (status heap : List ℕ) (shown : LogShown) (place : ℕ) → IsLogShown status heap shown → shown.end ≡ ends.Damaged place
    → IsInfoFault status heap (opening.Damaged area.Heap place)
damage_told status heap shown place is end =
    let items = subst (λ (e : ShownEnd). IsHeapShown shown.roots.extents (root_of shown.roots) heap shown.items.items e) end is.items in
    (shown.roots, is.roots, items.0)

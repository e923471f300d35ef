-- Every disk of slices is sound.
use Rattle.std.specs.Prelude.{List, ℕ, Option, None, Some}
use Rattle.std.proofs.Common.{refl, arith}
use Rattle.disk.specs.Areas.{Image, AreSound, IsSound, AreBytes, area_of, settled_area, settled_on, loosened, while_written}
use Rattle.disk.specs.declared.area.Area.{Area}
use Rattle.disk.specs.declared.area.Area.TheVariants.{Status, Heap, Archive}
use Rattle.c_engine.specs.declared.slice_disk.Range.{Range}
use Rattle.c_engine.specs.declared.slice_disk.SliceDisk.{SliceDisk}
use Rattle.c_engine.specs.RelayState.{slices_state, lent, torn_at}

-- an area of bytes, all of them synced, is sound
pub settled_is_sound : (bytes : List ℕ) → AreBytes bytes → IsSound (settled_area bytes)
settled_is_sound bytes are_bytes = record { firm = omega arith; settled = λ none. refl; are_bytes = are_bytes }

-- and where a range of it was written since
pub loosened_is_sound : (at n : ℕ) (bytes : List ℕ) → AreBytes bytes → IsSound (loosened at n bytes (settled_area bytes))
loosened_is_sound at n bytes are_bytes = record { firm = omega arith; settled = λ none. absurd cc; are_bytes = are_bytes }

-- three areas of bytes are sound, also where a write was refused
lent_is_sound : (torn : Option Range) (image : Image) → AreBytes image.status → AreBytes image.heap → AreBytes image.archive
    → AreSound (torn_at torn (settled_on image))
lent_is_sound None image s h a Status = settled_is_sound image.status s
lent_is_sound None image s h a Heap = settled_is_sound image.heap h
lent_is_sound None image s h a Archive = settled_is_sound image.archive a
lent_is_sound (Some range) image s h a area = written range.area range.at range.len area
  where
    written : (there : Area) (at n : ℕ) (area : Area) → IsSound (area_of (while_written there at n (settled_on image)) area)
    written Status at n Status = loosened_is_sound at n image.status s
    written Status at n Heap = settled_is_sound image.heap h
    written Status at n Archive = settled_is_sound image.archive a
    written Heap at n Status = settled_is_sound image.status s
    written Heap at n Heap = loosened_is_sound at n image.heap h
    written Heap at n Archive = settled_is_sound image.archive a
    written Archive at n Status = settled_is_sound image.status s
    written Archive at n Heap = settled_is_sound image.heap h
    written Archive at n Archive = loosened_is_sound at n image.archive a

-- so the three areas of a disk of slices are
pub slices_are_sound : (d : SliceDisk) → AreSound (slices_state d).areas
slices_are_sound d = lent_is_sound d.torn (lent d) d.status_bytes d.heap_bytes d.archive_bytes

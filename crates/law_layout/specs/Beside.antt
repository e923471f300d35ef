-- Writes beside what a layout names.
use Rattle.std.specs.Prelude.{◌≢◌, ℕ, ◌≤◌, length}
use Rattle.std.specs.List.{AllByRecursion}
use Rattle.wire.specs.declared.slot.Slot.{Slot}
use Rattle.disk.specs.Areas.{AreaState, Areas, AreSound, synced}
use Rattle.disk.specs.Parts.{IsLoosened}
use Rattle.law_image.specs.Reading.{Reading}
use Rattle.law_layout.specs.Extents.{Extent, IsExtent, extent_start, extent_bytes}
use Rattle.law_layout.specs.Layouts.{Layout, live, IsLayoutOf}
use Rattle.law_layout.specs.SlotTurns.{IsTurnAt}
use Rattle.law_layout.specs.Keeping.{KeepsParts}
use Rattle.status.specs.declared.header.Header.{Header}
use Rattle.status.specs.Rules.{runs_of, row_end}
use Rattle.status.specs.SlotCalls.{SlotStage}

-- the write of an extent that is in no live chain, in full or in part, keeps the layout's parts
abbrev pub HeapBeside : Type 0
HeapBeside =
    (header : Header) (layout : Layout) (reading : Reading) (e : Extent) (old : Areas) (heap : AreaState) → IsLayoutOf header layout reading → AreSound old
    → IsExtent e → AllByRecursion (λ f. f.number ≢ e.number) (live layout) → IsLoosened (extent_start e.number) (length (extent_bytes e)) old.heap heap
    → KeepsParts layout old → KeepsParts layout (record old { heap = heap })

-- so does a write behind the last run
abbrev pub ArchiveBeside : Type 0
ArchiveBeside =
    (header : Header) (layout : Layout) (reading : Reading) (at n : ℕ) (old : Areas) (archive : AreaState) → IsLayoutOf header layout reading → AreSound old
    → row_end 0 (runs_of layout.slots) ≤ at → IsLoosened at n old.archive archive → KeepsParts layout old → KeepsParts layout (record old { archive = archive })

-- while a slot is in the writing, an extent may be written that is in no live chain of either layout, and the heap may be synced
abbrev pub TurnBesideWrite : Type 0
TurnBesideWrite =
    (header : Header) (old : Layout) (slot : Slot) (new : Layout) (stage : SlotStage) (e : Extent) (areas : Areas) (heap : AreaState)
    → AllByRecursion IsExtent (live old) → AllByRecursion IsExtent (live new) → IsExtent e
    → AllByRecursion (λ f. f.number ≢ e.number) (live old) → AllByRecursion (λ f. f.number ≢ e.number) (live new) → AreSound areas
    → IsLoosened (extent_start e.number) (length (extent_bytes e)) areas.heap heap
    → IsTurnAt header old slot new stage areas → IsTurnAt header old slot new stage (record areas { heap = heap })

-- while a slot is in the writing, the heap may be synced
abbrev pub TurnBesideSync : Type 0
TurnBesideSync = (header : Header) (old : Layout) (slot : Slot) (new : Layout) (stage : SlotStage) (areas : Areas) → AreSound areas
    → IsTurnAt header old slot new stage areas → IsTurnAt header old slot new stage (record areas { heap = synced areas.heap })

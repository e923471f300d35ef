-- The layouts that the slots of archive, reclaim and floor lead to.
use Rattle.std.specs.Prelude.{◌≡◌, ℕ, ◌≤◌, nat_lt, List, [], ◌∷◌, ◌++◌, filter, Option}
use Rattle.wire.specs.declared.slot.Anchors.{Anchors}
use Rattle.wire.specs.declared.slot.Body.TheVariants.{Archived, Reclaimed, Floor}
use Rattle.wire.specs.declared.slot.Slot.{Slot}
use Rattle.law_image.specs.Reading.{OldRecord, Reading}
use Rattle.law_image.specs.StandsFor.{archived_upto, reclaimed_upto}
use Rattle.law_image.specs.Plans.{with_run, with_anchors, with_floor}
use Rattle.disk.specs.Areas.{Areas}
use Rattle.law_layout.specs.Extents.{Extent, AreDistinct}
use Rattle.law_layout.specs.Runs.{StoredRun, IsStoredRun, KeepsRun}
use Rattle.law_layout.specs.Layouts.{Layout, live, IsLayoutOf, IsAnchorChain}
use Rattle.law_layout.specs.Keeping.{KeepsParts, KeepsExtents}
use Rattle.status.specs.declared.header.Header.{Header}
use Rattle.status.specs.Rules.{AreInRow, runs_of}

-- one slot more, and one run
abbrev pub archived : Layout → Slot → StoredRun → Layout
archived layout slot run = record layout { slots = layout.slots ++ slot ∷ []; runs = layout.runs ++ run ∷ [] }

-- one slot more, another anchor chain, and the members later than a mark
abbrev pub reclaimed : Layout → Slot → ℕ → List Extent → Layout
reclaimed layout slot mark chain =
    record layout { slots = layout.slots ++ slot ∷ []; anchors = chain; members = filter (λ s. nat_lt mark s.entry.time) layout.members }

-- one slot more
abbrev pub floored : Layout → Slot → Layout
floored layout slot = record layout { slots = layout.slots ++ slot ∷ [] }

-- each spells the reading that the job leads to
abbrev pub ArchiveLaid : Type 0
ArchiveLaid =
    (header : Header) (layout : Layout) (reading : Reading) (slot : Slot) (run : StoredRun) → IsLayoutOf header layout reading → slot.body ≡ Archived run.entry
    → IsStoredRun run → AreInRow 0 (runs_of layout.slots ++ run.entry ∷ [])
    → IsLayoutOf header (archived layout slot run) (with_run reading run.entry.upto run.records)

-- the layout after a reclaim spells the reading with its anchors
abbrev pub ReclaimLaid : Type 0
ReclaimLaid =
    (header : Header) (layout : Layout) (reading : Reading) (slot : Slot) (anchors : Anchors) (chain : List Extent) (olds : List OldRecord)
    → IsLayoutOf header layout reading
    → slot.body ≡ Reclaimed anchors → anchors.upto ≡ archived_upto reading → reclaimed_upto reading ≤ archived_upto reading → IsAnchorChain anchors chain olds
    → AreDistinct (live layout ++ chain)
    → IsLayoutOf header (reclaimed layout slot (archived_upto reading) chain) (with_anchors reading olds)

-- the layout after a floor spells the reading with the floor
abbrev pub FloorLaid : Type 0
FloorLaid =
    (header : Header) (layout : Layout) (reading : Reading) (slot : Slot) (relation : Option ℕ) (floor : ℕ) → IsLayoutOf header layout reading → slot.body
    ≡ Floor relation floor
    → IsLayoutOf header (floored layout slot) (with_floor reading relation floor)

-- and its parts are kept where the old ones and the new one are. A floor has no part of its own
abbrev pub ArchiveKept : Type 0
ArchiveKept =
    (layout : Layout) (slot : Slot) (run : StoredRun) (areas : Areas) → KeepsParts layout areas → KeepsRun areas.archive run
    → KeepsParts (archived layout slot run) areas

-- the parts after a reclaim are kept, where those before it are and its chain is
abbrev pub ReclaimKept : Type 0
ReclaimKept =
    (layout : Layout) (slot : Slot) (mark : ℕ) (chain : List Extent) (areas : Areas) → KeepsParts layout areas → KeepsExtents chain areas.heap
    → KeepsParts (reclaimed layout slot mark chain) areas

-- the parts after a floor are kept, where those before it are
abbrev pub FloorKept : Type 0
FloorKept = (layout : Layout) (slot : Slot) (areas : Areas) → KeepsParts layout areas → KeepsParts (floored layout slot) areas

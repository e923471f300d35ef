-- Writes beside what a layout names keep it.
use Rattle.std.proofs.Common.{◌≢◌, ℕ, ◌+◌, ◌≤◌, List, [], ◌∷◌, length, map, sym, subst, inl, arith}
use Rattle.std.specs.List.{AllByRecursion}
use Rattle.wire.specs.declared.slot.Run.{Run}
use Rattle.disk.specs.declared.area.Area.TheVariants.{Heap, Archive}
use Rattle.disk.specs.Areas.{AreaState, Areas, AreSound, synced}
use Rattle.disk.specs.Parts.{IsLoosened}
use Rattle.disk.proofs.Parts.{kept_by_write}
use Rattle.law_image.specs.Reading.{Reading}
use Rattle.law_layout.specs.Extents.{Extent, IsExtent, extent_start, extent_bytes}
use Rattle.law_layout.specs.Runs.{StoredRun, IsStoredRun, KeepsRun, run_bytes}
use Rattle.law_layout.specs.Layouts.{Layout, live, IsLayoutOf}
use Rattle.wire.specs.declared.slot.Slot.{Slot}
use Rattle.law_layout.specs.SlotTurns.{IsTurnAt}
use Rattle.law_layout.proofs.Extents.{extents_kept_by_sync}
use Rattle.law_layout.specs.Keeping.{KeepsParts}
use Rattle.law_layout.proofs.Lists.{three}
use Rattle.law_layout.proofs.Layouts.{live_extents_are}
use Rattle.law_layout.proofs.Groups.{parts_kept}
use Rattle.status.specs.declared.header.Header.{Header}
use Rattle.status.specs.Rules.{AreInRow, runs_of, row_end}
use Rattle.status.specs.SlotCalls.{SlotStage}

pub heap_beside : (header : Header) (layout : Layout) (reading : Reading) (e : Extent) (old : Areas) (heap : AreaState) → IsLayoutOf header layout reading
    → AreSound old
    → IsExtent e → AllByRecursion (λ f. f.number ≢ e.number) (live layout) → IsLoosened (extent_start e.number) (length (extent_bytes e)) old.heap heap
    → KeepsParts layout old → KeepsParts layout (record old { heap = heap })
heap_beside header layout reading e old heap laid sound is apart loose keeps =
    parts_kept layout e old heap (live_extents_are header layout reading laid) is apart (sound Heap) loose keeps

after_row : (place : ℕ) (runs : List Run) → AreInRow place runs → place ≤ row_end place runs
after_row place [] row = omega arith
after_row place (run ∷ runs) row = let rest = after_row (run.start + run.len) runs row.1 in omega (arith, row.0)

-- each run of a row ends by its end
row_ends : (place : ℕ) (runs : List StoredRun) → AreInRow place (map (λ s. s.entry) runs)
    → AllByRecursion (λ s. s.entry.start + s.entry.len ≤ row_end place (map (λ s. s.entry) runs)) runs
row_ends place [] row = tt
row_ends place (s ∷ runs) row = (after_row (s.entry.start + s.entry.len) (map (λ s. s.entry) runs) row.1, row_ends (s.entry.start + s.entry.len) runs row.1)

pub archive_beside : (header : Header) (layout : Layout) (reading : Reading) (at n : ℕ) (old : Areas) (archive : AreaState) → IsLayoutOf header layout reading
    → AreSound old
    → row_end 0 (runs_of layout.slots) ≤ at → IsLoosened at n old.archive archive → KeepsParts layout old → KeepsParts layout (record old { archive = archive })
archive_beside header layout reading at n old archive laid sound behind loose keeps =
    let runs : List Run = map (λ (s : StoredRun). s.entry) layout.runs in
    let row : AreInRow 0 runs = subst (AreInRow 0) (sym laid.runs.entries_are) laid.heap.in_row in
    let end : row_end 0 runs ≤ at = rw laid.runs.entries_are behind in
    record {
      extents = keeps.extents;
      runs =
          three IsStoredRun (λ s. s.entry.start + s.entry.len ≤ row_end 0 (map (λ (s : StoredRun). s.entry) layout.runs)) (KeepsRun old.archive)
          (KeepsRun archive) layout.runs
          (λ s stored by kept. kept_by_write at n s.entry.start (run_bytes s.records) old.archive archive (sound Archive) kept
          (inl (omega (arith, stored.length_is, by, end))) loose)
          laid.runs.each_run (row_ends 0 layout.runs row) keeps.runs;
    }

pub turn_beside_write : (header : Header) (old : Layout) (slot : Slot) (new : Layout) (stage : SlotStage) (e : Extent) (areas : Areas) (heap : AreaState)
    → AllByRecursion IsExtent (live old) → AllByRecursion IsExtent (live new) → IsExtent e
    → AllByRecursion (λ f. f.number ≢ e.number) (live old) → AllByRecursion (λ f. f.number ≢ e.number) (live new) → AreSound areas
    → IsLoosened (extent_start e.number) (length (extent_bytes e)) areas.heap heap
    → IsTurnAt header old slot new stage areas → IsTurnAt header old slot new stage (record areas { heap = heap })
turn_beside_write header old slot new stage e areas heap old_are new_are is old_apart new_apart sound loose at = record {
  status = at.status;
  old_parts = parts_kept old e areas heap old_are is old_apart (sound Heap) loose at.old_parts;
  new_parts = parts_kept new e areas heap new_are is new_apart (sound Heap) loose at.new_parts;
}

parts_synced : (layout : Layout) (areas : Areas) → AreSound areas → KeepsParts layout areas → KeepsParts layout (record areas { heap = synced areas.heap })
parts_synced layout areas sound keeps = record { extents = extents_kept_by_sync (live layout) areas.heap (sound Heap) keeps.extents; runs = keeps.runs }

pub turn_beside_sync : (header : Header) (old : Layout) (slot : Slot) (new : Layout) (stage : SlotStage) (areas : Areas) → AreSound areas
    → IsTurnAt header old slot new stage areas → IsTurnAt header old slot new stage (record areas { heap = synced areas.heap })
turn_beside_sync header old slot new stage areas sound at = record {
  status = at.status;
  old_parts = parts_synced old areas sound at.old_parts;
  new_parts = parts_synced new areas sound at.new_parts;
}

-- A run's way to the disk, beside a group's.
use Rattle.std.proofs.Common.{◌≡◌, ℕ, ◌+◌, ◌-◌, ◌≤◌, List, [], ◌∷◌, ◌++◌, length, take, drop, refl, sym, ap, ◌∙◌, inl, arith, length-append}
use Rattle.std.specs.Prelude.{slice_range, map}
use Rattle.std.specs.List.{AllByRecursion}
use Rattle.std.proofs.Math.Seq.{take-add}
use Rattle.std.proofs.lemmas.List.{drop-drop}
use Rattle.disk.specs.declared.area.Area.TheVariants.{Archive}
use Rattle.disk.specs.Areas.{AreaState, Areas, AreSound, overlaid}
use Rattle.disk.specs.Parts.{HoldsPart}
use Rattle.disk.proofs.Parts.{written_part, part_beside}
use Rattle.wire.specs.declared.slot.Run.{Run}
use Rattle.law_image.specs.Reading.{Reading}
use Rattle.law_layout.specs.Runs.{StoredRun, IsStoredRun}
use Rattle.law_layout.specs.Layouts.{Layout, IsLayoutOf}
use Rattle.law_layout.specs.Keeping.{KeepsRuns}
use Rattle.law_layout.specs.Turn.{Group, Stage, Storing, Turning, IsAt}
use Rattle.status.specs.declared.header.Header.{Header}
use Rattle.status.specs.Rules.{AreInRow, runs_of, row_end}

-- ---- rows of runs

-- one more run at the end of a row
pub row-more : (place : ℕ) (runs : List Run) (run : Run) → AreInRow place runs → run.start ≡ row_end place runs → AreInRow place (runs ++ run ∷ [])
row-more place [] run row start = (start, tt)
row-more place (r ∷ runs) run row start = (row.0, row-more (r.start + r.len) runs run row.1 start)

pub row_end-more : (place : ℕ) (runs : List Run) (run : Run) → row_end place (runs ++ run ∷ []) ≡ run.start + run.len
row_end-more place [] run = refl
row_end-more place (r ∷ runs) run = row_end-more (r.start + r.len) runs run

-- runs that are kept end within what is on the disk
kept-within : (place : ℕ) (runs : List StoredRun) (a : AreaState) → place ≤ a.firm → AllByRecursion IsStoredRun runs → KeepsRuns runs a
    → row_end place (map (λ s. s.entry) runs) ≤ a.firm
kept-within place [] a low each keeps = low
kept-within place (s ∷ runs) a low each keeps =
    kept-within (s.entry.start + s.entry.len) runs a (omega (arith, (keeps.0).firm, (each.0).length_is)) each.1 keeps.1

pub row-within : (header : Header) (layout : Layout) (reading : Reading) (areas : Areas) → IsLayoutOf header layout reading → AreSound areas
    → KeepsRuns layout.runs areas.archive → row_end 0 (runs_of layout.slots) ≤ length areas.archive.bytes
row-within header layout reading areas laid sound keeps =
    let within = kept-within 0 layout.runs areas.archive (omega arith) laid.runs.each_run keeps in
    let same : row_end 0 (map (λ (s : StoredRun). s.entry) layout.runs) ≡ row_end 0 (runs_of layout.slots) = ap (row_end 0) laid.runs.entries_are in
    omega (arith, within, same, (sound Archive).firm)

-- ---- a run's bytes, piece by piece

-- two ranges, one behind the other
range-split : (bytes : List ℕ) (a m n : ℕ) → slice_range bytes a (a + (m + n)) ≡ slice_range bytes a (a + m) ++ slice_range bytes (a + m) (a + m + n)
range-split bytes a m n =
    let whole : a + (m + n) - a ≡ m + n = omega arith in
    let front : a + m - a ≡ m = omega arith in
    let back : a + m + n - (a + m) ≡ n = omega arith in
    ap (λ (k : ℕ). take k (drop a bytes)) whole
    ∙ take-add m n (drop a bytes)
    ∙ ap (λ (l : List ℕ). take m (drop a bytes) ++ take n l) (drop-drop m a bytes)
    ∙ ap (λ (k : ℕ). take k (drop a bytes) ++ take n (drop (a + m) bytes)) (sym front)
    ∙ ap (λ (k : ℕ). take (a + m - a) (drop a bytes) ++ take k (drop (a + m) bytes)) (sym back)

-- the piece behind what is held is written, and more is held
pub front-grows : (start : ℕ) (front piece bytes : List ℕ) → HoldsPart start front bytes
    → HoldsPart start (front ++ piece) (overlaid bytes (start + length front) piece)
front-grows start front piece bytes held =
    let at = start + length front in
    let new = overlaid bytes at piece in
    let before : HoldsPart start front new = part_beside at start piece front bytes (inl (omega arith)) held in
    let behind : HoldsPart at piece new = written_part at piece bytes in
    record {
      inside = omega (arith, length-append front piece, behind.inside);
      is = ap (λ (n : ℕ). slice_range new start (start + n)) (length-append front piece)
          ∙ range-split new start (length front) (length piece)
          ∙ ap (λ (l : List ℕ). l ++ slice_range new at (at + length piece)) before.is
          ∙ ap (λ (l : List ℕ). front ++ l) behind.is;
    }

-- ---- beside a group

-- what stands behind the runs of the archive is of no group
pub group-beside : (header : Header) (layout : Layout) (group : Group) (stage : Stage) (areas : Areas) (archive : AreaState) → KeepsRuns layout.runs archive
    → IsAt header layout group stage areas → IsAt header layout group stage (record areas { archive = archive })
group-beside header layout group (Storing done rest) areas archive keeps at = record {
  rests = record { status = at.rests.status; parts = record { extents = at.rests.parts.extents; runs = keeps } };
  parts_are = at.parts_are;
  written = at.written;
}
group-beside header layout group (Turning stage) areas archive keeps at = record {
  status = at.status;
  old_parts = record { extents = at.old_parts.extents; runs = keeps };
  new_parts = record { extents = at.new_parts.extents; runs = keeps };
}

-- The runs of a log as an opened store knows them.
use Rattle.std.proofs.Common.{◌≡◌, ℕ, zero, suc, ◌+◌, ◌≤◌, List, [], ◌∷◌, ◌++◌, map, length, Some, refl, arith, ap, sym, subst, ◌∙◌}
use Rattle.std.specs.Prelude.{slice_get}
use Rattle.std.specs.List.{AllByRecursion}
use Rattle.disk.specs.Parts.{HoldsPart}
use Rattle.law_image.specs.Reading as readings
use Rattle.law_image.specs.Reading.{ArchiveRecord}
use Rattle.law_image.specs.Log.{archive_mark, archive_mark_after, floor_of}
use Rattle.floors.specs.Floors.{FloorsValue, floor_at, no_floors, raised_in}
use Rattle.law_image.specs.StandsFor.{IsRun, IsArchived, AreRunsOf}
use Rattle.law_image.proofs.Logs.{archive_mark-append}
use Rattle.wire.specs.declared.slot.Body.{Body}
use Rattle.wire.specs.declared.slot.Body.TheVariants.{Commit, Archived, Reclaimed, Floor}
use Rattle.wire.specs.declared.slot.Run.{Run}
use Rattle.wire.specs.declared.slot.Slot.{Slot}
use Rattle.archive.specs.declared.run.RunEntry.{RunEntry}
use Rattle.archive.specs.Records as kept
use Rattle.archive.specs.Runs as written
use Rattle.archive.specs.Runs.{HoldRuns, RunsEndBy, run_end}
use Rattle.law_layout.specs.Records.{IsArchiveRecord}
use Rattle.law_layout.specs.Runs.{StoredRun, IsStoredRun, HoldsRun}
use Rattle.law_layout.proofs.Lists.{weaker}
use Rattle.status.specs.Kept.{kept_of}
use Rattle.status.proofs.Kept.{kept-of, kept-append}
use Rattle.status.specs.Rules.{runs_in, runs_of, row_end, AreInRow, slot_of, log_of}
use Rattle.timequery.specs.View.{mark_after}
use Rattle.recovery.specs.RunEntries.{runs_named, marks_before, floors_before, AreEntriesOf}
use Rattle.law_refinement.proofs.Archiving.{run-same}

-- ---- they stand in the archive's bytes

one-run : (area : List ℕ) (s : StoredRun) (entry : RunEntry) (mark upto : ℕ) (floors : ℕ → ℕ) → entry.slot ≡ s.entry → entry.mark ≡ mark
    → ((relation : ℕ) → floor_at entry.floors relation ≡ floors relation) → s.entry.upto ≡ upto → IsRun mark floors upto s.records → IsStoredRun s
    → HoldsRun area s
    → written.HoldsRun area entry s.records
one-run area s entry mark upto floors slot marked floored upto_is rules stored held =
    let same = run-same s.records in
    record {
      held = subst (λ (r : Run). HoldsPart r.start (written.run_bytes s.records) area) (sym slot)
          (subst (λ (l : List ℕ). HoldsPart s.entry.start l area) (sym same) held);
      length_is = ap (λ (l : List ℕ). length l) same ∙ stored.length_is ∙ ap (λ (r : Run). r.len) (sym slot);
      records_are = stored.records_are ∙ ap (λ (r : Run). r.records) (sym slot);
      each = weaker IsArchiveRecord kept.IsArchiveRecord s.records (λ r is. record { key = is.key; value = is.value }) stored.each;
      rules = record {
        each = weaker (IsArchived mark floors upto) (IsArchived entry.mark (floor_at entry.floors) entry.slot.upto) s.records
            (λ r is.
            let after = is.after_floor in
            let floor = floored r.key.relation in
            let past = is.after_mark in
            let by = is.by_upto in
            let named : entry.slot.upto ≡ upto = ap (λ (x : Run). x.upto) slot ∙ upto_is in
            record { lasts = is.lasts; after_mark = omega arith; after_floor = omega arith; by_upto = omega arith }) rules.each;
        in_order = rules.in_order;
      };
    }

-- the runs of slots that stand behind this mark and these floors
abbrev AreFrom : ℕ → FloorsValue → List Slot → List RunEntry → Type 0
AreFrom mark floors ss entries =
    (runs_named entries ≡ runs_of ss) × (map (λ (e : RunEntry). e.mark) entries ≡ marks_before mark (log_of ss))
    × (map (λ (e : RunEntry). e.floors) entries ≡ floors_before floors (log_of ss))

-- the runs of these slots, behind others
abbrev AreHeld : List ℕ → List Slot → Type 0
AreHeld area ss =
    (before : List readings.Slot) (stored : List StoredRun) (entries : List RunEntry) (mark : ℕ) (floors : FloorsValue) → archive_mark before ≡ mark
    → kept_of before ≡ floors → AreRunsOf before (log_of ss) (map (λ (s : StoredRun). s.records) stored)
    → map (λ (s : StoredRun). s.entry) stored ≡ runs_of ss → AllByRecursion IsStoredRun stored → AllByRecursion (HoldsRun area) stored
    → AreFrom mark floors ss entries → HoldRuns area entries (map (λ (s : StoredRun). s.records) stored)

none-held : (area : List ℕ) → AreHeld area []
none-held area before [] [] mark floors is floor runs same each held are = tt
none-held area before [] (e ∷ es) mark floors is floor runs same each held are = let none = are.0 in absurd cc
none-held area before (x ∷ xs) entries mark floors is floor runs same each held are = absurd cc

one-held : (area : List ℕ) (ss : List Slot) → AreHeld area ss → (number : ℕ) (body : Body) → AreHeld area (record { number = number; body = body } ∷ ss)
one-held area ss rest number (Commit members) before stored entries mark floors is floor runs same each held are =
    let slot = slot_of (Commit members) in
    rest (before ++ slot ∷ []) stored entries mark floors (archive_mark-append 0 before (slot ∷ []) ∙ is) (kept-append no_floors before (slot ∷ [])
    ∙ floor) runs same each held are
one-held area ss rest number (Reclaimed anchors) before stored entries mark floors is floor runs same each held are =
    let slot = slot_of (Reclaimed anchors) in
    rest (before ++ slot ∷ []) stored entries mark floors (archive_mark-append 0 before (slot ∷ []) ∙ is) (kept-append no_floors before (slot ∷ [])
    ∙ floor) runs same each held are
one-held area ss rest number (Floor scope new) before stored entries mark floors is floor runs same each held are =
    let slot = slot_of (Floor scope new) in
    rest (before ++ slot ∷ []) stored entries mark (raised_in scope new floors) (archive_mark-append 0 before (slot ∷ []) ∙ is)
    (kept-append no_floors before (slot ∷ []) ∙ ap (raised_in scope new) floor) runs same each held are
one-held area ss rest number (Archived run) before [] entries mark floors is floor runs same each held are = absurd cc
one-held area ss rest number (Archived run) before (x ∷ xs) [] mark floors is floor runs same each held are = let some = are.0 in absurd cc
one-held area ss rest number (Archived run) before (x ∷ xs) (e ∷ es) mark floors is floor runs same each held are =
    let slot = slot_of (Archived run) in
    let first : x.entry ≡ run = cc in
    let others : map (λ (y : StoredRun). y.entry) xs ≡ runs_of ss = cc in
    let named = are.0 in
    let entry : e.slot ≡ run = cc in
    let entries_behind : runs_named es ≡ runs_of ss = cc in
    let marked = are.1 in
    let mark_is : e.mark ≡ mark = cc in
    let marks_behind : map (λ (y : RunEntry). y.mark) es ≡ marks_before run.upto (log_of ss) = cc in
    let floored = are.2 in
    let own : e.floors ≡ floors = cc in
    let floors_behind : map (λ (y : RunEntry). y.floors) es ≡ floors_before floors (log_of ss) = cc in (
      one-run area x e mark run.upto (floor_of before) (entry ∙ sym first) mark_is (λ relation. ap (λ (f : FloorsValue). floor_at f relation) (own ∙ sym floor)
          ∙ kept-of before relation) (ap (λ (r : Run). r.upto) first) (subst (λ (n : ℕ). IsRun n (floor_of before) run.upto x.records) is runs.0) each.0 held.0,
      rest (before ++ slot ∷ []) xs es run.upto floors (archive_mark-append 0 before (slot ∷ [])) (kept-append no_floors before (slot ∷ [])
          ∙ floor) runs.1 others each.1 held.1 (entries_behind, marks_behind, floors_behind),
    )

hold : (area : List ℕ) (ss : List Slot) → AreHeld area ss
hold area [] = none-held area
hold area (s ∷ ss) = one-held area ss (hold area ss) s.number s.body

pub runs-hold : (area : List ℕ) (ss : List Slot) (stored : List StoredRun) (entries : List RunEntry)
    → AreRunsOf [] (log_of ss) (map (λ (s : StoredRun). s.records) stored) → map (λ (s : StoredRun). s.entry) stored ≡ runs_of ss
    → AllByRecursion IsStoredRun stored → AllByRecursion (HoldsRun area) stored → AreEntriesOf ss entries
    → HoldRuns area entries (map (λ (s : StoredRun). s.records) stored)
runs-hold area ss stored entries runs same each held are =
    hold area ss [] stored entries 0 no_floors refl refl runs same each held (are.runs_are, are.marks_are, are.floors_are)

-- ---- where they end, and their mark

row-past : (place : ℕ) (runs : List Run) → AreInRow place runs → place ≤ row_end place runs
row-past place [] row = omega arith
row-past place (run ∷ runs) row = let rest = row-past (run.start + run.len) runs row.1 in let at = row.0 in omega arith

pub runs-end : (place : ℕ) (entries : List RunEntry) → AreInRow place (runs_named entries) → RunsEndBy (row_end place (runs_named entries)) entries
runs-end place [] row = λ n run at. absurd cc
runs-end place (e ∷ es) row =
    λ n. elim n as (λ (n : ℕ). (other : RunEntry) → slice_get (e ∷ es) n ≡ Some other → run_end other ≤ row_end (e.slot.start + e.slot.len) (runs_named es)) [
      | zero ↦ λ other at.
          let first : e ≡ other = cc in
          let past = row-past (e.slot.start + e.slot.len) (runs_named es) row.1 in
          subst (λ (x : RunEntry). run_end x ≤ row_end (e.slot.start + e.slot.len) (runs_named es)) first (omega arith)
      | suc k ↦ λ other at. runs-end (e.slot.start + e.slot.len) es row.1 k other at
    ]

abbrev HaveMark : List Slot → Type 0
HaveMark ss = (mark : ℕ) (entries : List RunEntry) → runs_named entries ≡ runs_of ss → mark_after mark entries ≡ archive_mark_after mark (log_of ss)

no-mark : HaveMark []
no-mark mark [] are = refl
no-mark mark (e ∷ es) are = absurd cc

one-mark : (ss : List Slot) → HaveMark ss → (body : Body) (mark : ℕ) (entries : List RunEntry) → runs_named entries ≡ runs_in body ++ runs_of ss
    → mark_after mark entries ≡ archive_mark_after mark (slot_of body ∷ log_of ss)
one-mark ss rest (Commit members) mark entries are = rest mark entries are
one-mark ss rest (Reclaimed anchors) mark entries are = rest mark entries are
one-mark ss rest (Floor scope floor) mark entries are = rest mark entries are
one-mark ss rest (Archived run) mark [] are = absurd cc
one-mark ss rest (Archived run) mark (e ∷ es) are =
    let first : e.slot ≡ run = cc in
    let others : runs_named es ≡ runs_of ss = cc in
    let upto : e.slot.upto ≡ run.upto = ap (λ (r : Run). r.upto) first in
    ap (λ (n : ℕ). mark_after n es) upto ∙ rest run.upto es others

pub marks-are : (ss : List Slot) → HaveMark ss
marks-are [] = no-mark
marks-are (s ∷ ss) = λ mark entries are. one-mark ss (marks-are ss) s.body mark entries are

-- The runs of a store stand for later states of the machine too, and are what their log says at its opening.
use Rattle.std.proofs.Common.{◌≡◌, ℕ, zero, suc, ◌+◌, ◌≤◌, max, List, [], ◌∷◌, ◌++◌, length, map, Some, refl, arith, ap, sym, subst, ◌∙◌}
use Rattle.std.specs.Prelude.{slice_get}
use Rattle.std.specs.List.{AllByRecursion}
use Rattle.disk.specs.Parts.{HoldsPart}
use Rattle.wire.specs.declared.slot.Run.{Run}
use Rattle.floors.specs.Floors.{FloorsValue, floor_at}
use Rattle.law_image.specs.StandsFor.{IsRun, IsArchived, no_floors}
use Rattle.law_image.proofs.HeapRuns.{AreStacked, last_mark}
use Rattle.law_layout.specs.Records.{IsArchiveRecord}
use Rattle.law_layout.specs.Runs.{StoredRun, IsStoredRun, HoldsRun}
use Rattle.law_layout.proofs.Lists.{weaker}
use Rattle.archive.specs.declared.run.RunEntry.{RunEntry}
use Rattle.archive.specs.Records as kept
use Rattle.archive.specs.Runs as written
use Rattle.archive.specs.Runs.{HoldRuns, RunsEndBy, run_end}
use Rattle.timequery.specs.View.{mark_after}
use Rattle.log_store.specs.Opens.{AreEntriesFrom}
use Rattle.log_recovery.specs.Following.{uptos_of}
use Rattle.law_refinement.proofs.Archiving.{run-same}
use Rattle.law_log_queries.specs.Archive.{end_of}

-- ---- where they end

pub ends-all : (runs : List RunEntry) → RunsEndBy (end_of runs) runs
ends-all [] = λ n run at. absurd cc
ends-all (r ∷ rs) =
    λ n. elim n as (λ (n : ℕ). (run : RunEntry) → slice_get (r ∷ rs) n ≡ Some run → run_end run ≤ max (run_end r) (end_of rs)) [
      | zero ↦ λ run at. let first : r ≡ run = cc in subst (λ (x : RunEntry). run_end x ≤ max (run_end r) (end_of rs)) first (omega arith)
      | suc k ↦ λ run at. let low = ends-all rs k run at in omega arith
    ]

pub end-more : (runs more : List RunEntry) → end_of runs ≤ end_of (runs ++ more)
end-more [] more = omega arith
end-more (r ∷ rs) more = let rest = end-more rs more in omega arith

-- all of them do by a place where each does
pub end-within : (place : ℕ) (runs : List RunEntry) (run : RunEntry) → end_of runs ≤ place → run_end run ≤ place → end_of (runs ++ run ∷ []) ≤ place
end-within place [] run ends low = omega (arith, low)
end-within place (r ∷ rs) run ends low = let rest = end-within place rs run (omega (arith, ends)) low in omega (arith, ends, rest)

-- so the runs of a log do that end by it
pub entries-within : (place from : ℕ) (stored : List StoredRun) (entries : List RunEntry)
    → AreEntriesFrom from (map (λ (s : StoredRun). s.entry) stored) entries
    → AllByRecursion (λ (s : StoredRun). s.entry.start + s.entry.len ≤ place) stored → end_of entries ≤ place
entries-within place from [] [] are all = omega arith
entries-within place from [] (e ∷ es) are all = absurd are
entries-within place from (s ∷ ss) [] are all = absurd are
entries-within place from (s ∷ ss) (e ∷ es) are all =
    let rest = entries-within place s.entry.upto ss es are.3 all.1 in
    let same : run_end e ≡ s.entry.start + s.entry.len = ap (λ (r : Run). r.start + r.len) are.0 in
    let first = all.0 in
    omega (arith, rest, same, first)

-- ---- at the opening

pub one-run : (area : List ℕ) (s : StoredRun) (entry : RunEntry) (mark : ℕ) → entry.slot ≡ s.entry → entry.mark ≡ mark
    → ((relation : ℕ) → floor_at entry.floors relation ≡ 0) → IsRun mark (no_floors []) s.entry.upto s.records → IsStoredRun s → HoldsRun area s
    → written.HoldsRun area entry s.records
one-run area s entry mark slot marked floored rules stored held =
    let same = run-same s.records in
    record {
      held = subst (λ (r : Run). HoldsPart r.start (written.run_bytes s.records) area) (sym slot)
          (subst (λ (l : List ℕ). HoldsPart s.entry.start l area) (sym same) held);
      length_is = ap (λ (l : List ℕ). length l) same ∙ stored.length_is ∙ ap (λ (r : Run). r.len) (sym slot);
      records_are = stored.records_are ∙ ap (λ (r : Run). r.records) (sym slot);
      each = weaker IsArchiveRecord kept.IsArchiveRecord s.records (λ r is. record { key = is.key; value = is.value }) stored.each;
      rules = record {
        each = weaker (IsArchived mark (no_floors []) s.entry.upto) (IsArchived entry.mark (floor_at entry.floors) entry.slot.upto) s.records
            (λ r is.
            let lasts = is.lasts in
            let floor = floored r.key.relation in
            let past = is.after_mark in
            let by = is.by_upto in
            let named : entry.slot.upto ≡ s.entry.upto = ap (λ (x : Run). x.upto) slot in
            record { lasts = is.lasts; after_mark = omega arith; after_floor = omega arith; by_upto = omega arith }) rules.each;
        in_order = rules.in_order;
      };
    }

pub runs-hold : (area : List ℕ) (mark : ℕ) (stored : List StoredRun) (entries : List RunEntry)
    → AreEntriesFrom mark (map (λ (s : StoredRun). s.entry) stored) entries
    → AreStacked mark (uptos_of (map (λ (s : StoredRun). s.entry) stored)) (map (λ (s : StoredRun). s.records) stored)
    → AllByRecursion IsStoredRun stored → AllByRecursion (HoldsRun area) stored
    → HoldRuns area entries (map (λ (s : StoredRun). s.records) stored)
runs-hold area mark [] [] are stack each held = tt
runs-hold area mark [] (e ∷ es) are stack each held = absurd are
runs-hold area mark (s ∷ ss) [] are stack each held = absurd are
runs-hold area mark (s ∷ ss) (e ∷ es) are stack each held = (
  one-run area s e mark are.0 are.1 (λ relation. ap (λ (f : FloorsValue). floor_at f relation) are.2) stack.0 each.0 held.0,
  runs-hold area s.entry.upto ss es are.3 stack.1 each.1 held.1,
)

-- their mark is that of the log
pub mark-is : (from mark : ℕ) (runs : List Run) (entries : List RunEntry) → AreEntriesFrom from runs entries
    → mark_after mark entries ≡ last_mark mark (uptos_of runs)
mark-is from mark [] [] are = refl
mark-is from mark [] (e ∷ es) are = absurd are
mark-is from mark (run ∷ runs) [] are = absurd are
mark-is from mark (run ∷ runs) (e ∷ es) are =
    ap (λ (r : Run). mark_after r.upto es) are.0 ∙ mark-is run.upto run.upto runs es are.3

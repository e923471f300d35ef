-- The layouts that the slots of archive, reclaim and floor lead to.
use Rattle.std.proofs.Common.{◌≡◌, ◌≢◌, ℕ, ◌≤◌, nat_lt, true, false, Bool, cond, List, [], ◌∷◌, ◌++◌, map, refl, sym, ap, subst, ◌∙◌, arith, Option}
use Rattle.std.specs.Prelude.{filter}
use Rattle.std.specs.List.{AllByRecursion}
use Rattle.std.proofs.lemmas.List.{append-nil, map-append}
use Rattle.std.proofs.lemmas.Grind.{flat_map-append}
use Rattle.wire.specs.declared.slot.Member.{Member as Entry}
use Rattle.wire.specs.declared.slot.Anchors.{Anchors}
use Rattle.wire.specs.declared.slot.Body.{Body}
use Rattle.wire.specs.declared.slot.Body.TheVariants.{Archived, Reclaimed, Floor}
use Rattle.wire.specs.declared.slot.Slot.{Slot}
use Rattle.disk.specs.Areas.{Areas}
use Rattle.history.proofs.Filters.{AllByRecursion-append, AllByRecursion-filter, filter-filter}
use Rattle.std.proofs.lemmas.Bool.Decides.{nat_tests}
use Rattle.law_image.specs.Reading as readings
use Rattle.law_image.specs.Log.{reclaim_mark}
use Rattle.law_image.specs.StandsFor.{archived_upto, reclaimed_upto}
use Rattle.law_image.specs.Plans.{with_run, with_anchors, with_floor}
use Rattle.law_image.proofs.Logs.{reclaim_mark-append}
use Rattle.law_layout.specs.Extents.{Extent, AreDistinct, KeepsExtent}
use Rattle.law_layout.specs.Runs.{StoredRun, IsStoredRun, KeepsRun}
use Rattle.law_layout.specs.Layouts.{StoredMember, IsStoredMember, Layout, live, extents_of, entries_in, entries_of, later_than, anchors_in, anchors_after}
use Rattle.law_layout.specs.Layouts.{no_anchors, IsLayoutOf, IsAnchorChain}
use Rattle.law_layout.specs.Keeping.{KeepsParts, KeepsExtents}
use Rattle.law_layout.specs.Jobs.{archived, reclaimed, floored}
use Rattle.law_layout.proofs.Lists.{weaker, all_of_front, all_of_back, distinct_parts, distinct_join, cross_turned}
use Rattle.law_layout.proofs.Layouts.{anchors-append}
use Rattle.status.specs.declared.header.Header.{Header}
use Rattle.status.specs.Rules.{AreInRow, slot_of, runs_in, runs_of}

log-append : (slots : List Slot) (slot : Slot) (body : Body) → slot.body ≡ body → map (λ s. slot_of s.body) (slots ++ slot ∷ [])
    ≡ map (λ s. slot_of s.body) slots ++ slot_of body ∷ []
log-append slots slot body is = map-append (λ (s : Slot). slot_of s.body) slots (slot ∷ []) ∙ ap (λ b. map (λ s. slot_of s.body) slots ++ slot_of b ∷ []) is

entries-append : (slots : List Slot) (slot : Slot) (body : Body) → slot.body ≡ body → entries_of (slots ++ slot ∷ []) ≡ entries_of slots ++ entries_in body
entries-append slots slot body is =
    flat_map-append (λ (s : Slot). entries_in s.body) slots (slot ∷ [])
    ∙ ap (λ l. entries_of slots ++ l) (append-nil (entries_in slot.body) ∙ ap entries_in is)

runs-append : (slots : List Slot) (slot : Slot) (body : Body) → slot.body ≡ body → runs_of (slots ++ slot ∷ []) ≡ runs_of slots ++ runs_in body
runs-append slots slot body is =
    flat_map-append (λ (s : Slot). runs_in s.body) slots (slot ∷ [])
    ∙ ap (λ l. runs_of slots ++ l) (append-nil (runs_in slot.body) ∙ ap runs_in is)

anchors-are : (slots : List Slot) (slot : Slot) (body : Body) → slot.body ≡ body → anchors_after no_anchors (slots ++ slot ∷ [])
    ≡ anchors_in (anchors_after no_anchors slots) body
anchors-are slots slot body is = anchors-append no_anchors slots slot ∙ ap (anchors_in (anchors_after no_anchors slots)) is

-- ---- archive

pub archive_laid : (header : Header) (layout : Layout) (reading : readings.Reading) (slot : Slot) (run : StoredRun) → IsLayoutOf header layout reading
    → slot.body ≡ Archived run.entry
    → IsStoredRun run → AreInRow 0 (runs_of layout.slots ++ run.entry ∷ [])
    → IsLayoutOf header (archived layout slot run) (with_run reading run.entry.upto run.records)
archive_laid header layout reading slot run laid is stored row = record {
  heap = record {
    profile_is = laid.heap.profile_is;
    slots_are = laid.heap.slots_are;
    pieces_are = laid.heap.pieces_are;
    log_is = log-append layout.slots slot (Archived run.entry) is ∙ ap (λ l. l ++ readings.Archived run.entry.upto ∷ []) laid.heap.log_is;
    members_are = laid.heap.members_are;
    entries_are =
        laid.heap.entries_are
        ∙ ap (later_than (reclaim_mark reading.log)) (sym (entries-append layout.slots slot (Archived run.entry) is ∙ append-nil (entries_of layout.slots)))
        ∙ ap (λ (mark : ℕ). later_than mark (entries_of (layout.slots ++ slot ∷ [])))
        (sym (reclaim_mark-append 0 reading.log (readings.Archived run.entry.upto ∷ [])));
    each_member = laid.heap.each_member;
    anchors_are =
        subst (λ a. IsAnchorChain a layout.anchors reading.anchors) (sym (anchors-are layout.slots slot (Archived run.entry) is)) laid.heap.anchors_are;
    apart = laid.heap.apart;
    in_row = subst (AreInRow 0) (sym (runs-append layout.slots slot (Archived run.entry) is)) row;
  };
  runs = record {
    runs_are = map-append (λ (s : StoredRun). s.records) layout.runs (run ∷ []) ∙ ap (λ l. l ++ run.records ∷ []) laid.runs.runs_are;
    entries_are =
        map-append (λ (s : StoredRun). s.entry) layout.runs (run ∷ [])
        ∙ ap (λ l. l ++ run.entry ∷ []) laid.runs.entries_are
        ∙ sym (runs-append layout.slots slot (Archived run.entry) is);
    each_run = AllByRecursion-append IsStoredRun layout.runs (run ∷ []) laid.runs.each_run (stored, tt);
  };
}

pub archive_kept : (layout : Layout) (slot : Slot) (run : StoredRun) (areas : Areas) → KeepsParts layout areas → KeepsRun areas.archive run
    → KeepsParts (archived layout slot run) areas
archive_kept layout slot run areas keeps more = record {
  extents = keeps.extents;
  runs = AllByRecursion-append (KeepsRun areas.archive) layout.runs (run ∷ []) keeps.runs (more, tt);
}

-- ---- floor

pub floor_laid : (header : Header) (layout : Layout) (reading : readings.Reading) (slot : Slot) (relation : Option ℕ) (floor : ℕ)
    → IsLayoutOf header layout reading → slot.body ≡ Floor relation floor
    → IsLayoutOf header (floored layout slot) (with_floor reading relation floor)
floor_laid header layout reading slot relation floor laid is = record {
  heap = record {
    profile_is = laid.heap.profile_is;
    slots_are = laid.heap.slots_are;
    pieces_are = laid.heap.pieces_are;
    log_is = log-append layout.slots slot (Floor relation floor) is ∙ ap (λ l. l ++ readings.Floor relation floor ∷ []) laid.heap.log_is;
    members_are = laid.heap.members_are;
    entries_are =
        laid.heap.entries_are
        ∙ ap (later_than (reclaim_mark reading.log)) (sym (entries-append layout.slots slot (Floor relation floor) is ∙ append-nil (entries_of layout.slots)))
        ∙ ap (λ (mark : ℕ). later_than mark (entries_of (layout.slots ++ slot ∷ [])))
        (sym (reclaim_mark-append 0 reading.log (readings.Floor relation floor ∷ [])));
    each_member = laid.heap.each_member;
    anchors_are =
        subst (λ a. IsAnchorChain a layout.anchors reading.anchors) (sym (anchors-are layout.slots slot (Floor relation floor) is)) laid.heap.anchors_are;
    apart = laid.heap.apart;
    in_row = subst (AreInRow 0) (sym (runs-append layout.slots slot (Floor relation floor) is ∙ append-nil (runs_of layout.slots))) laid.heap.in_row;
  };
  runs = record {
    runs_are = laid.runs.runs_are;
    entries_are = laid.runs.entries_are ∙ sym (runs-append layout.slots slot (Floor relation floor) is ∙ append-nil (runs_of layout.slots));
    each_run = laid.runs.each_run;
  };
}

pub floor_kept : (layout : Layout) (slot : Slot) (areas : Areas) → KeepsParts layout areas → KeepsParts (floored layout slot) areas
floor_kept layout slot areas keeps = record { extents = keeps.extents; runs = keeps.runs }

-- ---- reclaim

extents_filtered : (P : Extent → Type 0) (p : StoredMember → Bool) (members : List StoredMember) → AllByRecursion P (extents_of members)
    → AllByRecursion P (extents_of (filter p members))
extents_filtered P p [] all = tt
extents_filtered P p (s ∷ members) all =
    let rest = extents_filtered P p members (all_of_back P s.extents (extents_of members) all) in
    elim (p s) as (λ c. AllByRecursion P (extents_of (cond c (s ∷ filter p members) (filter p members)))) [
      | true ↦ AllByRecursion-append P s.extents (extents_of (filter p members)) (all_of_front P s.extents (extents_of members) all) rest
      | false ↦ rest
    ]

distinct_filtered : (p : StoredMember → Bool) (members : List StoredMember) → AreDistinct (extents_of members) → AreDistinct (extents_of (filter p members))
distinct_filtered p [] distinct = tt
distinct_filtered p (s ∷ members) distinct =
    let parts = distinct_parts s.extents (extents_of members) distinct in
    let rest = distinct_filtered p members parts.1 in
    elim (p s) as (λ c. AreDistinct (extents_of (cond c (s ∷ filter p members) (filter p members)))) [
      | true ↦ distinct_join s.extents (extents_of (filter p members)) parts.0 rest
          (weaker (λ (e : Extent). AllByRecursion (λ f. e.number ≢ f.number) (extents_of members))
          (λ (e : Extent). AllByRecursion (λ f. e.number ≢ f.number) (extents_of (filter p members))) s.extents
          (λ e all. extents_filtered (λ f. e.number ≢ f.number) p members all) parts.2)
      | false ↦ rest
    ]

-- the entries of the members that are left
entries_filtered : (mark : ℕ) (members : List StoredMember) → map (λ s. s.entry) (filter (λ s. nat_lt mark s.entry.time) members)
    ≡ later_than mark (map (λ s. s.entry) members)
entries_filtered mark [] = refl
entries_filtered mark (s ∷ members) =
    elim (nat_lt mark s.entry.time) as
    (λ c. map (λ (m : StoredMember). m.entry) (cond c (s ∷ filter (λ s. nat_lt mark s.entry.time) members) (filter (λ s. nat_lt mark s.entry.time) members))
    ≡ cond c (s.entry ∷ later_than mark (map (λ s. s.entry) members)) (later_than mark (map (λ s. s.entry) members))) [
      | true ↦ ap (λ l. s.entry ∷ l) (entries_filtered mark members)
      | false ↦ entries_filtered mark members
    ]

members_filtered : (mark : ℕ) (members : List StoredMember) → AllByRecursion IsStoredMember members
    → map (λ s. s.member) (filter (λ s. nat_lt mark s.entry.time) members) ≡ filter (λ m. nat_lt mark m.head.time) (map (λ s. s.member) members)
members_filtered mark [] all = refl
members_filtered mark (s ∷ members) all =
    let Kept : Bool → Bool → Type 0 =
    λ b c. map (λ (m : StoredMember). m.member) (cond b (s
    ∷ filter (λ s. nat_lt mark s.entry.time) members) (filter (λ s. nat_lt mark s.entry.time) members))
    ≡ cond c (s.member ∷ filter (λ m. nat_lt mark m.head.time) (map (λ s. s.member) members))
    (filter (λ m. nat_lt mark m.head.time) (map (λ s. s.member) members)) in
    let each : (b : Bool) → Kept b b =
    λ b. elim b as (λ b. Kept b b) [
      | true ↦ ap (λ l. s.member ∷ l) (members_filtered mark members all.1)
      | false ↦ members_filtered mark members all.1
    ] in
    let time : nat_lt mark s.entry.time ≡ nat_lt mark s.member.head.time = ap (λ (h : readings.Head). nat_lt mark h.time) (sym (all.0).head_is) in
    subst (Kept (nat_lt mark s.entry.time)) time (each (nat_lt mark s.entry.time))

still_late : (low high time : ℕ) → low ≤ high → nat_lt high time ≡ true → nat_lt low time ≡ true
still_late low high time order late = grind (arith, nat_tests)

-- later than a mark, of those later than a lesser one
later_twice : (low high : ℕ) (entries : List Entry) → low ≤ high → later_than high (later_than low entries) ≡ later_than high entries
later_twice low high entries order =
    filter-filter (λ (e : Entry). nat_lt high e.time) (λ (e : Entry). nat_lt low e.time) entries (λ e late. still_late low high e.time order late)

pub reclaim_laid : (header : Header) (layout : Layout) (reading : readings.Reading) (slot : Slot) (anchors : Anchors) (chain : List Extent)
    (olds : List readings.OldRecord) → IsLayoutOf header layout reading
    → slot.body ≡ Reclaimed anchors → anchors.upto ≡ archived_upto reading → reclaimed_upto reading ≤ archived_upto reading → IsAnchorChain anchors chain olds
    → AreDistinct (live layout ++ chain)
    → IsLayoutOf header (reclaimed layout slot (archived_upto reading) chain) (with_anchors reading olds)
reclaim_laid header layout reading slot anchors chain olds laid is upto order stored free =
    let mark : ℕ = archived_upto reading in
    let late : StoredMember → Bool = λ s. nat_lt mark s.entry.time in
    let parts = distinct_parts (live layout) chain free in
    let members_distinct : AreDistinct (extents_of layout.members) = (distinct_parts layout.anchors (extents_of layout.members) parts.0).1 in
    let cross = extents_filtered (λ (e : Extent). AllByRecursion (λ f. e.number ≢ f.number) chain) late layout.members
    (all_of_back (λ (e : Extent). AllByRecursion (λ f. e.number ≢ f.number) chain) layout.anchors (extents_of layout.members) parts.2) in
    record {
      heap = record {
        profile_is = laid.heap.profile_is;
        slots_are = laid.heap.slots_are;
        pieces_are = laid.heap.pieces_are;
        log_is = log-append layout.slots slot (Reclaimed anchors) is ∙ ap (λ l. l ++ readings.Reclaimed anchors.upto ∷ []) laid.heap.log_is
            ∙ ap (λ (n : ℕ). reading.log ++ readings.Reclaimed n ∷ []) upto;
        members_are = members_filtered mark layout.members laid.heap.each_member ∙ ap (λ l. filter (λ m. nat_lt mark m.head.time) l) laid.heap.members_are;
        entries_are =
            entries_filtered mark layout.members
            ∙ ap (later_than mark) laid.heap.entries_are
            ∙ later_twice (reclaim_mark reading.log) mark (entries_of layout.slots) order
            ∙ ap (later_than mark) (sym (entries-append layout.slots slot (Reclaimed anchors) is ∙ append-nil (entries_of layout.slots)))
            ∙ ap (λ (n : ℕ). later_than n (entries_of (layout.slots ++ slot ∷ []))) (sym (reclaim_mark-append 0 reading.log (readings.Reclaimed mark ∷ [])));
        each_member = AllByRecursion-filter IsStoredMember late layout.members laid.heap.each_member;
        anchors_are = subst (λ a. IsAnchorChain a chain olds) (sym (anchors-are layout.slots slot (Reclaimed anchors) is)) stored;
        apart = distinct_join chain (extents_of (filter late layout.members)) parts.1 (distinct_filtered late layout.members members_distinct)
            (cross_turned (extents_of (filter late layout.members)) chain cross);
        in_row = subst (AreInRow 0) (sym (runs-append layout.slots slot (Reclaimed anchors) is ∙ append-nil (runs_of layout.slots))) laid.heap.in_row;
      };
      runs = record {
        runs_are = laid.runs.runs_are;
        entries_are = laid.runs.entries_are ∙ sym (runs-append layout.slots slot (Reclaimed anchors) is ∙ append-nil (runs_of layout.slots));
        each_run = laid.runs.each_run;
      };
    }

pub reclaim_kept : (layout : Layout) (slot : Slot) (mark : ℕ) (chain : List Extent) (areas : Areas) → KeepsParts layout areas → KeepsExtents chain areas.heap
    → KeepsParts (reclaimed layout slot mark chain) areas
reclaim_kept layout slot mark chain areas keeps more = record {
  extents = AllByRecursion-append (KeepsExtent areas.heap) chain (extents_of (filter (λ s. nat_lt mark s.entry.time) layout.members)) more
      (extents_filtered (KeepsExtent areas.heap) (λ s. nat_lt mark s.entry.time) layout.members
      (all_of_back (KeepsExtent areas.heap) layout.anchors (extents_of layout.members) keeps.extents));
  runs = keeps.runs;
}

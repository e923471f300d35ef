-- An image that stands for a history opens.
use Rattle.std.proofs.Common.{◌+◌, ◌≤◌, ℕ, List, [], ◌∷◌, map, length, refl, ap, sym, subst, ◌∙◌, arith}
use Rattle.std.specs.List.{AllByRecursion}
use Rattle.disk.specs.Areas.{Image}
use Rattle.wire.specs.declared.slot.Run.{Run}
use Rattle.status.specs.declared.header.Header.{Header}
use Rattle.status.specs.Rules.{log_of}
use Rattle.history.specs.Histories.{History}
use Rattle.law_image.specs.Values.{Value}
use Rattle.law_image.specs.Reading.{Reading}
use Rattle.law_image.specs.Log.{KeepsLogRules, is_in_heap}
use Rattle.law_image.specs.StandsFor.{StandsFor, Reads, IsSlotLog}
use Rattle.law_image.specs.Plans.{HasSlots}
use Rattle.law_image.proofs.Forms.{in-slots, slots-profile}
use Rattle.law_layout.specs.Runs.{StoredRun, IsStoredRun, HoldsRun, run_bytes}
use Rattle.law_layout.specs.Layouts.{Layout, IsLayoutOf, HoldsLayout}
use Rattle.law_layout.specs.Opening.{unread, unread_layout, EndsWithin, Opens, AreBuilt}
use Rattle.law_layout.proofs.Lists.{both}
use Rattle.law_layout.proofs.Rules.{rules_kept}

-- what is said of entries, of runs that have them
of_entries : (P : Run → Type 0) (runs : List StoredRun) → AllByRecursion (λ s. P s.entry) runs → AllByRecursion P (map (λ s. s.entry) runs)
of_entries P [] all = tt
of_entries P (s ∷ runs) all = (all.0, of_entries P runs all.1)

pub held_opens : (header : Header) (image : Image) (layout : Layout) (reading : Reading) (h : History Value) (floors : ℕ → ℕ)
    → IsLayoutOf header layout reading → HoldsLayout header image layout → StandsFor reading h floors → AreBuilt header layout.slots
    → Opens header image (unread_layout layout) (unread reading)
held_opens header image layout reading h floors laid held stands built =
    let reads : Reads reading = stands.opens.reads in
    let slots : HasSlots reading =
    ap is_in_heap laid.heap.profile_is ∙ slots-profile header.profile header.slots header.pieces held.log.header_is.front.numbers in
    let form : IsSlotLog reading = in-slots reading slots reads.form in
    let log : KeepsLogRules header.profile (log_of layout.slots) =
    subst (λ (n : ℕ). KeepsLogRules n (log_of layout.slots)) laid.heap.profile_is (subst (KeepsLogRules reading.profile) (sym laid.heap.log_is) form.log) in
    let ends : AllByRecursion (λ (s : StoredRun). EndsWithin (length image.archive) s.entry) layout.runs =
    both IsStoredRun (HoldsRun image.archive) (λ (s : StoredRun). EndsWithin (length image.archive) s.entry) layout.runs
    (λ s stored is. let inside : s.entry.start + length (run_bytes s.records) ≤ length image.archive = is.inside in omega (
      arith,
      stored.length_is,
    )) laid.runs.each_run held.runs in
    record {
      log = record {
        header_is = held.log.header_is;
        opens = held.log.opens;
        ended = λ more. held.log.closed (length layout.slots) (omega arith) more;
        rules = rules_kept header.profile layout.slots log laid.heap.in_row built;
      };
      lays_out = record {
        profile_is = laid.heap.profile_is;
        slots_are = laid.heap.slots_are;
        pieces_are = laid.heap.pieces_are;
        log_is = laid.heap.log_is;
        members_are = laid.heap.members_are;
        entries_are = laid.heap.entries_are;
        each_member = laid.heap.each_member;
        anchors_are = laid.heap.anchors_are;
        apart = laid.heap.apart;
        in_row = laid.heap.in_row;
      };
      reads = record {
        header = form.header;
        log = form.log;
        fits = form.fits;
        members = reads.members;
        each_member = reads.chains;
        stored = reads.stored;
        anchors = reads.anchors;
        anchor_times = reads.anchor_times;
      };
      extents = held.extents;
      runs_end =
          subst (AllByRecursion (EndsWithin (length image.archive))) laid.runs.entries_are (of_entries (EndsWithin (length image.archive)) layout.runs ends);
      no_runs = refl;
      no_run_records = refl;
    }

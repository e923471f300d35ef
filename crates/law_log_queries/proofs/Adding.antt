-- A run that was made is one of the log's.
use Rattle.std.proofs.Common.{◌≡◌, ℕ, zero, suc, ◌+◌, ◌-◌, ◌≤◌, max, Bool, true, List, [], ◌∷◌, ◌++◌, length, take, drop, filter}
use Rattle.std.proofs.Common.{Option, refl, arith, ap, sym, subst, ◌∙◌, append-nil}
use Rattle.std.specs.Prelude.{IsTrue, MatchBool, flat_map, Contains}
use Rattle.std.proofs.lemmas.List.Elements.{filter-append}
use Rattle.std.proofs.lemmas.Grind.{flat_map-append}
use Rattle.disk.specs.Parts.{KeepsPart}
use Rattle.disk.specs.declared.area.Area.TheVariants as areas
use Rattle.disk.proofs.Parts.{read_part}
use Rattle.history.specs.declared.key.Key.{Key}
use Rattle.history.specs.declared.time.Version.{Version}
use Rattle.history.specs.Histories.{History, HasRisingTimes, versions_of, writes_of}
use Rattle.history.specs.Machine.{Machine}
use Rattle.history.specs.Versions.{ends_after, ends_by}
use Rattle.history.proofs.Histories.{writes_of-rising}
use Rattle.history.proofs.Values.{versions-apart}
use Rattle.law_image.specs.Values.{Value}
use Rattle.law_image.specs.Reading.{ArchiveRecord, Reading}
use Rattle.law_image.specs.Log.{archive_mark, floor_of, is_in_heap}
use Rattle.law_image.specs.Facts.{heap_versions, run_versions}
use Rattle.law_image.specs.HeapPlans.{IsMergePlan, first_runs, marks_of}
use Rattle.law_image.specs.StandsFor.{StandsFor, IsRun, no_floors, archived_upto, reclaimed_upto}
use Rattle.law_image.proofs.ArchiveStep.{joined}
use Rattle.law_image.proofs.Forms.{in-heap}
use Rattle.law_image.proofs.HeapRuns.{AreStacked, stack-of, first-marks, last_mark, last_mark-is}
use Rattle.law_image.proofs.Standing.{rises}
use Rattle.wire.specs.declared.slot.Run.{Run}
use Rattle.floors.specs.Floors.{FloorsValue, floor_at}
use Rattle.archive.specs.declared.run.RunEntry.{RunEntry}
use Rattle.archive.specs.Answers.{versions_in}
use Rattle.archive.specs.Parts.{IsRight}
use Rattle.archive.specs.Runs as written
use Rattle.archive.specs.Runs.{HoldRuns, run_end}
use Rattle.archive.specs.Searches.{archive_of}
use Rattle.timequery.specs.View.{mark_of}
use Rattle.law_layout.specs.Runs.{run_bytes}
use Rattle.log_entries.specs.declared.entry.Archive.{Archive}
use Rattle.log_roots.specs.Roots.{root_of}
use Rattle.log_base.specs.Bases.{mark_of as mark_of_log}
use Rattle.log_store.specs.Live.{LiveValue}
use Rattle.log_store.specs.Named.{NamedValue}
use Rattle.log_store.specs.Values.{LogStoreValue}
use Rattle.log_store.specs.declared.job.Job.{Job}
use Rattle.law_refinement.specs.Homes.{AreArchived}
use Rattle.law_refinement.proofs.RunsKept.{IsLater, archived-later, last-rises, runs-more, up_to-is}
use Rattle.law_refinement.proofs.RunsStep.{mark-more}
use Rattle.law_log_store.specs.Standing.{StandsOnHeap, StopsOnHeap, IsNextArchive, HasAllWritten, MayAllEnter, run_made}
use Rattle.law_log_store.proofs.Joining as joins
use Rattle.law_log_store.proofs.Plans.{drop-all}
use Rattle.law_log_queries.specs.Archive.{RunHasPlace, JobHasPlace, NamesStand, RunsStand, Stands, GoesOn, end_of}
use Rattle.law_log_queries.proofs.Leaving.{AddsRun}
use Rattle.law_log_queries.proofs.Names.{names-later}
use Rattle.law_log_queries.proofs.Runs.{end-more, end-within, one-run}

-- ---- the mark of all runs

stacked-many : (mark : ℕ) (marks : List ℕ) (lists : List (List ArchiveRecord)) → AreStacked mark marks lists → length marks ≡ length lists
stacked-many mark [] [] are = refl
stacked-many mark [] (run ∷ runs) are = absurd are
stacked-many mark (upto ∷ marks) [] are = absurd are
stacked-many mark (upto ∷ marks) (run ∷ runs) are = ap suc (stacked-many upto marks runs are.1)

take-whole : {X : Type 0} (n : ℕ) (xs : List X) → length xs ≤ n → take n xs ≡ xs
take-whole zero [] few = refl
take-whole zero (x ∷ xs) few = absurd (omega (arith, few))
take-whole (suc n) [] few = refl
take-whole {X = X} (suc n) (x ∷ xs) few = ap (λ (ys : List X). x ∷ ys) (take-whole n xs (omega (arith, few)))

-- it is that of the log
whole-mark : (reading : Reading) (h : History Value) (floors : ℕ → ℕ) (kept : ℕ) → StandsFor reading h floors → is_in_heap reading.profile ≡ true
    → length reading.runs ≤ kept → archive_mark (first_runs kept reading.log) ≡ archived_upto reading
whole-mark reading h floors kept stands heap all =
    let form = in-heap reading heap stands.opens.reads.form in
    let many = stacked-many 0 (marks_of reading.log) reading.runs (stack-of [] reading.log reading.runs form.runs) in
    last_mark-is 0 (first_runs kept reading.log)
    ∙ ap (last_mark 0) (first-marks kept reading.log ∙ take-whole kept (marks_of reading.log) (omega (arith, many, all)))
    ∙ sym (last_mark-is 0 reading.log)

-- ---- what a plan adds

-- the run has what the others lack of the history up to its time
plan-adds : (reading : Reading) (h : History Value) (floors : ℕ → ℕ) (kept upto : ℕ) (made : List ArchiveRecord) → StandsFor reading h floors
    → IsMergePlan reading kept upto made → length reading.runs ≤ kept → archived_upto reading ≤ upto → (key : Key)
    → filter (ends_after (floors key.relation)) (filter (ends_by (archived_upto reading)) (versions_of h key))
    ++ filter (ends_after (floors key.relation)) (run_versions key made)
    ≡ filter (ends_after (floors key.relation)) (filter (ends_by upto) (versions_of h key))
plan-adds reading h floors kept upto made stands plan all later key =
    let f = floors key.relation in
    let a = archived_upto reading in
    let hv = heap_versions reading key in
    let none : flat_map (run_versions key) (drop kept reading.runs) ≡ [] =
    ap (λ (rs : List (List ArchiveRecord)). flat_map (run_versions key) rs) (drop-all kept reading.runs all) in
    let same : run_versions key made ≡ filter (ends_by upto) (filter (ends_after (max a f)) hv) =
    plan.each key
    ∙ ap (λ (vs : List (Version Value)). filter (ends_after (floor_of reading.log key.relation)) vs
    ++ filter (ends_by upto) (filter (ends_after (max a (floor_of reading.log key.relation))) hv)) none
    ∙ ap (λ (n : ℕ). filter (ends_by upto) (filter (ends_after (max a n)) hv)) (stands.opens.floors_given key.relation) in
    ap (λ (vs : List (Version Value)). filter (ends_after f) (filter (ends_by a) (versions_of h key)) ++ filter (ends_after f) vs) same
    ∙ joined f (reclaimed_upto reading) a upto _ hv (versions_of h key) stands.homes.marks later
    (versions-apart 0 (writes_of h key) (writes_of-rising 0 h key (rises reading h floors stands))) (stands.homes.in_heap key)

-- ---- the runs with it

module _ (tells : Bool) (old new : LogStoreValue) (m after : Machine Value) (stands : Stands tells old m) (adds : AddsRun tells old new) where
  place : RunHasPlace old.named old.archive.runs old.archive.next adds.a
  place = subst (λ (j : Option Job). JobHasPlace old.named old.archive.runs old.archive.next j) adds.is-job stands.place.0

  abbrev entry : RunEntry
  entry = (place).entry

  runs-are : new.archive.runs ≡ old.archive.runs ++ entry ∷ []
  runs-are = adds.runs ∙ (place).next_is

  pub added-goes : GoesOn tells old new
  added-goes = record {
    mark = adds.mark;
    more = entry ∷ [];
    runs = runs-are;
    bytes = λ told. up_to-is (end_of old.archive.runs) (archive_of old.disk) (archive_of new.disk) (adds.bytes told);
  }

  -- the log names the same rolls
  pub names-added : IsTrue tells → IsLater m after → NamesStand new after.published
  names-added told later =
      let named-end : new.named.end ≡ adds.a.start + adds.a.len = ap (λ (n : NamedValue). n.end) adds.named in
      let behind = (place).behind in
      names-later old new m after later
      (record { rolls = ap (λ (n : NamedValue). n.rolls) adds.named; mark = ap (λ (l : LiveValue). mark_of_log l.chains) adds.live })
      (omega (arith, named-end, behind)) (up_to-is old.named.end (archive_of old.disk) (archive_of new.disk) (adds.bytes told)) (stands.names told)

  module _ (told : IsTrue tells) (up : HasRisingTimes 0 m.published) (later : IsLater m after) where
    s : StandsOnHeap old m.published m.queue m.floors
    s =
        subst (λ (b : Bool). MatchBool b (StopsOnHeap old m.published m.queue m.floors) (StandsOnHeap old m.published m.queue m.floors)) adds.worked
        (stands.store.disk told)

    abbrev made : List ArchiveRecord
    made = (s).made

    r : RunsStand old m.published m.floors
    r = stands.runs told

    next : IsNextArchive (s).l (s).reading m.published adds.a adds.archives made
    next = subst (λ (j : Option Job). MayAllEnter (s).l (s).reading m.published m.floors made j) adds.is-job (s).job

    written-there : KeepsPart adds.a.start (run_bytes made) old.disk.areas.archive
    written-there = subst (λ (j : Option Job). HasAllWritten made j old.disk.areas.archive) adds.is-job (s).written

    heap : is_in_heap (s).reading.profile ≡ true
    heap = joins.in-heap old.roots.extents (root_of old.roots) (s).l (s).reading (s).is_log

    all-kept : length (s).reading.runs ≤ length (s).reading.runs - adds.a.runs
    all-kept = let alone = (place).alone in omega (arith, alone)

    upto-is : old.named.upto ≡ archived_upto (s).reading
    upto-is = ((s).named).upto

    mark-then : archive_mark (first_runs (length (s).reading.runs - adds.a.runs) (s).reading.log) ≡ entry.mark
    mark-then =
        whole-mark (s).reading m.published m.floors (length (s).reading.runs - adds.a.runs) (s).stands heap all-kept ∙ sym upto-is ∙ sym (place).mark

    -- its records are held
    one : written.HoldsRun (archive_of old.disk) entry made
    one =
        one-run (archive_of old.disk) (run_made adds.a made) entry entry.mark (place).slot refl
        (λ relation. ap (λ (f : FloorsValue). floor_at f relation) (place).floors)
        (subst (λ (mark : ℕ). IsRun mark (no_floors []) adds.a.upto made) mark-then ((next).plan).is_run) (next).stored
        (read_part adds.a.start (run_bytes made) old.disk.areas.archive ((s).sound areas.Archive) written-there)

    held : HoldRuns (archive_of new.disk) new.archive.runs (r.lists ++ made ∷ [])
    held =
        subst (λ (runs : List RunEntry). HoldRuns (archive_of new.disk) runs (r.lists ++ made ∷ [])) (sym runs-are)
        (subst (λ (area : List ℕ). HoldRuns area (old.archive.runs ++ entry ∷ []) (r.lists ++ made ∷ [])) (sym (adds.bytes told))
        (runs-more (archive_of old.disk) old.archive.runs r.lists entry made r.held one))

    -- with it they go as far as it does
    mark-is : mark_of new.archive.runs ≡ adds.a.upto
    mark-is = ap mark_of runs-are ∙ mark-more 0 old.archive.runs entry ∙ ap (λ (run : Run). run.upto) (place).slot

    -- each version that ended by then is in one of them
    both : AreArchived m.published m.floors adds.a.upto (r.lists ++ made ∷ [])
    both key =
        let f = m.floors key.relation in
        let before : filter (ends_after f) (versions_in key r.lists)
        ≡ filter (ends_after f) (filter (ends_by (archived_upto (s).reading)) (versions_of m.published key)) =
        r.archived key
        ∙ ap (λ (n : ℕ). filter (ends_after f) (filter (ends_by n) (versions_of m.published key))) (r.named ∙ upto-is) in
        ap (filter (ends_after f)) (flat_map-append (run_versions key) r.lists (made ∷ [])
        ∙ ap (λ (l : List (Version Value)). versions_in key r.lists ++ l) (append-nil (run_versions key made)))
        ∙ filter-append (ends_after f) (versions_in key r.lists) (run_versions key made)
        ∙ ap (λ (l : List (Version Value)). l ++ filter (ends_after f) (run_versions key made)) before
        ∙ plan-adds (s).reading m.published m.floors (length (s).reading.runs - adds.a.runs) adds.a.upto made (s).stands (next).plan all-kept
        (let more = (next).later in omega (arith, more)) key

    pub runs-added : RunsStand new after.published after.floors
    runs-added =
        let past = last-rises m after later in
        let by_last = (next).by_last in
        let marks = r.marks in
        let reclaimed = adds.reclaimed in
        let more = (next).later in
        let named-mark = r.named in
        let end = r.ends in
        let behind = (place).behind in
        let named-end : new.named.end ≡ adds.a.start + adds.a.len = ap (λ (n : NamedValue). n.end) adds.named in
        let entry-end : run_end entry ≡ adds.a.start + adds.a.len = ap (λ (run : Run). run.start + run.len) (place).slot in
        let longer : end_of old.archive.runs ≤ end_of new.archive.runs =
        subst (λ (runs : List RunEntry). end_of old.archive.runs ≤ end_of runs) (sym runs-are) (end-more old.archive.runs (entry ∷ [])) in
        let within : end_of new.archive.runs ≤ new.named.end =
        subst (λ (runs : List RunEntry). end_of runs ≤ new.named.end) (sym runs-are)
        (end-within new.named.end old.archive.runs entry (omega (arith, end, behind, named-end)) (omega (arith, entry-end, named-end))) in
        record {
          lists = r.lists ++ made ∷ [];
          held = held;
          marks = omega (arith, marks, reclaimed, mark-is, named-mark, upto-is, more);
          by_last = omega (arith, by_last, past, mark-is);
          archived = subst (λ (mark : ℕ). AreArchived after.published after.floors mark (r.lists ++ made ∷ [])) (sym mark-is)
              (subst (λ (h : History Value). AreArchived h after.floors adds.a.upto (r.lists ++ made ∷ [])) (sym later.published)
              (archived-later m.published later.more m.floors after.floors adds.a.upto (r.lists ++ made ∷ []) up later.rising later.floors by_last both));
          right = subst (λ (area : List ℕ). IsRight new.archive.kept area) (sym (adds.bytes told))
              (subst (λ (parts : List (ℕ × List ℕ)). IsRight parts (archive_of old.disk)) (sym adds.kept) r.right);
          near = record {
            each = λ from bytes there.
                let low = r.near.each from bytes (subst (λ (parts : List (ℕ × List ℕ)). Contains parts (from, bytes)) adds.kept there) in
                omega (arith, low, longer);
          };
          ends = within;
          named = mark-is ∙ sym (ap (λ (n : NamedValue). n.upto) adds.named);
        }

-- A store that was opened on an image has the archive that the image's log names.
use Rattle.std.proofs.Common.{◌≡◌, ℕ, Bool, List, [], map, Option, arith, ap, sym, subst, ◌∙◌}
use Rattle.std.specs.Prelude.{IsTrue, MatchBool}
use Rattle.disk.specs.Areas.{Areas, AreSound, LeavesImage, image_of}
use Rattle.disk.specs.Calls.{DiskState}
use Rattle.history.specs.Fronts.{OnFront}
use Rattle.history.specs.Histories.{History}
use Rattle.history.specs.Machine.{Machine, opened_by}
use Rattle.history.proofs.Members.{Contains-nil}
use Rattle.law_image.specs.Values.{Value}
use Rattle.law_image.specs.Reading.{ArchiveRecord, Reading}
use Rattle.law_image.specs.Log.{is_in_heap, reclaim_mark}
use Rattle.law_image.specs.HeapPlans.{marks_of}
use Rattle.law_image.specs.StandsFor.{StandsFor, archived_upto, reclaimed_upto}
use Rattle.law_image.proofs.Forms.{in-heap}
use Rattle.law_image.proofs.HeapRuns.{AreStacked, stack-of, last_mark, last_mark-is}
use Rattle.law_image.proofs.Standing.{archived-range}
use Rattle.law_log.specs.Chains.{told, told_from, reclaimed_by}
use Rattle.law_log.proofs.Telling.{tells-all}
use Rattle.law_layout.specs.Runs.{StoredRun}
use Rattle.wire.specs.declared.slot.Run.{Run}
use Rattle.archive.specs.Parts.{IsRight, EndBy}
use Rattle.archive.specs.Runs.{HoldRuns}
use Rattle.archive.specs.Searches.{archive_of}
use Rattle.timequery.specs.View.{mark_of}
use Rattle.log_roots.specs.declared.roots.Roots.{Roots}
use Rattle.log_roots.specs.Roots.{root_of}
use Rattle.law_log_layout.specs.HeapLog.{PlacedChain, HeapLog, chains_told}
use Rattle.log_recovery.specs.declared.image.LogRecovered.{LogRecovered}
use Rattle.log_recovery.specs.Following.{uptos_of}
use Rattle.log_recovery.specs.Rules as rules
use Rattle.log_recovery.specs.Rules.{no_log, state_from}
use Rattle.log_recovery.specs.Ends.{runs_left}
use Rattle.log_recovery.specs.Read.{IsHeapRead}
use Rattle.law_log_opening.proofs.Named.{alike-from, alike-none, mark-same}
use Rattle.law_refinement.specs.Homes.{AreArchived}
use Rattle.law_refinement.proofs.Growing.{front-map}
use Rattle.log_store.specs.Values.{LogStoreValue, ReclaimValue, IsInStep}
use Rattle.log_store.specs.Opens.{Opens, AreEntriesFrom}
use Rattle.log_store.specs.declared.job.Job.{Job}
use Rattle.law_log_store.specs.Named.{IsNamedBy}
use Rattle.law_log_store.specs.Standing.{IsImageOf, StandsOnHeap, StopsOnHeap}
use Rattle.law_log_store.proofs.Opening.{read as read-is, same as same-log, named as opened-named}
use Rattle.law_log_store.proofs.Spans.{stored-ends}
use Rattle.law_log_steps.specs.Store.{IsStoreOf}
use Rattle.law_log_steps.proofs.Fronts.{leaves-fronts}
use Rattle.law_log_steps.proofs.Opening.{is-opened}
use Rattle.law_log_queries.specs.Archive.{JobHasPlace, ReclaimHasPlace, RunsStand, Stands, end_of}
use Rattle.law_log_queries.proofs.Names.{names-of-heap}
use Rattle.law_log_queries.proofs.Runs.{entries-within, runs-hold, mark-is}

module _ (tells : Bool) (old : DiskState) (mark : ℕ) (v : LogStoreValue) (roots : Roots) (h : History Value) (floors : ℕ → ℕ) (tells_so : IsTrue tells)
    (are_sound : AreSound old.areas) (image : IsImageOf roots (image_of old.areas) h floors) (opens : Opens tells old mark v) where
  abbrev r : LogRecovered
  r = opens.recovered

  abbrev l : HeapLog
  l = image.heap.log

  abbrev reading : Reading
  reading = image.heap.reading

  stands : StandsFor reading h floors
  stands = image.heap.stands

  abbrev entries : List Run
  entries = map (λ (s : StoredRun). s.entry) l.runs

  abbrev read : IsHeapRead roots.extents (root_of image.read) (image_of old.areas).heap r.heap
  read = read-is tells old mark v roots h floors tells_so are_sound image opens

  chains-same : read.chains ≡ l.chains
  chains-same = (same-log tells old mark v roots h floors tells_so are_sound image opens).0.0

  -- ---- the marks

  log-is : reading.log ≡ told (chains_told image.heap.is_log.names l.chains)
  log-is = ap (λ (x : Reading). x.log) image.heap.is_log.reading_is

  named-mark : reclaimed_by (chains_told image.heap.is_log.names l.chains) ≡ rules.mark_of l.chains
  named-mark = mark-same image.heap.is_log.names l.chains

  marked : r.heap.end.mark ≡ reclaimed_upto reading
  marked =
      read.end_is.says.mark_is ∙ ap rules.mark_of chains-same ∙ sym named-mark
      ∙ sym (tells-all (chains_told image.heap.is_log.names l.chains) image.heap.is_log.rules.each).reclaimed ∙ ap reclaim_mark (sym log-is)

  -- the runs in memory are those of the log
  runs-are : r.heap.end.runs.items ≡ entries
  runs-are = read.end_is.runs_are ∙ ap runs_left chains-same ∙ sym image.heap.is_log.runs_named

  -- and go as far as it tells
  marks-are : uptos_of entries ≡ marks_of reading.log
  marks-are =
      let alike = alike-from (rules.mark_of l.chains) image.heap.is_log.names [] no_log l.chains alike-none in
      ap uptos_of (sym runs-are)
      ∙ read.end_is.says.marks_are
      ∙ ap (λ (cs : List PlacedChain). marks_of (state_from (rules.mark_of cs) no_log cs).told) chains-same
      ∙ alike.marks
      ∙ ap (λ (m : ℕ). marks_of (told_from m [] (chains_told image.heap.is_log.names l.chains))) (sym named-mark)
      ∙ ap marks_of (sym log-is)

  -- ---- the runs

  lists-are : reading.runs ≡ map (λ (s : StoredRun). s.records) l.runs
  lists-are = ap (λ (x : Reading). x.runs) image.heap.is_log.reading_is

  stacked : AreStacked 0 (uptos_of entries) (map (λ (s : StoredRun). s.records) l.runs)
  stacked =
      let form = in-heap reading (ap (λ (x : Reading). is_in_heap x.profile) image.heap.is_log.reading_is) stands.opens.reads.form in
      subst (λ (lists : List (List ArchiveRecord)). AreStacked 0 (uptos_of entries) lists) lists-are
      (subst (λ (marks : List ℕ). AreStacked 0 marks reading.runs) (sym marks-are) (stack-of [] reading.log reading.runs form.runs))

  are-entries : AreEntriesFrom 0 entries v.archive.runs
  are-entries = subst (λ (runs : List Run). AreEntriesFrom 0 runs v.archive.runs) runs-are opens.archive.are

  mark-archived : mark_of v.archive.runs ≡ archived_upto reading
  mark-archived = mark-is 0 0 entries v.archive.runs are-entries ∙ ap (last_mark 0) marks-are ∙ sym (last_mark-is 0 reading.log)

  named : IsNamedBy v.named l reading
  named = opened-named tells old mark v roots h floors tells_so are_sound image opens

  area : archive_of v.disk ≡ (image_of old.areas).archive
  area = ap (λ (areas : Areas). areas.archive.bytes) (opens.settled tells_so)

  runs-stand : RunsStand v h floors
  runs-stand =
      let reclaimed : v.commits.reclaimed ≡ reclaimed_upto reading = ap (λ (x : LogStoreValue). x.commits.reclaimed) opens.new_is ∙ marked in
      let order = stands.homes.marks in
      let upto = archived-range reading h floors stands in
      record {
        lists = reading.runs;
        held = subst (λ (bytes : List ℕ). HoldRuns bytes v.archive.runs reading.runs) (sym area)
            (subst (λ (lists : List (List ArchiveRecord)). HoldRuns (image_of old.areas).archive v.archive.runs lists) (sym lists-are)
            (runs-hold (image_of old.areas).archive 0 l.runs v.archive.runs are-entries stacked image.heap.is_log.each_run image.heap.held.runs));
        marks = omega (arith, reclaimed, order, mark-archived);
        by_last = omega (arith, upto, mark-archived);
        archived = subst (λ (a : ℕ). AreArchived h floors a reading.runs) (sym mark-archived) stands.homes.in_archive;
        right = subst (λ (parts : List (ℕ × List ℕ)). IsRight parts (archive_of v.disk)) (sym opens.archive.unread.kept)
            (record { each = λ from bytes there. absurd (Contains-nil (from, bytes) there) });
        near = subst (λ (parts : List (ℕ × List ℕ)). EndBy (end_of v.archive.runs) parts) (sym opens.archive.unread.kept)
            (record { each = λ from bytes there. absurd (Contains-nil (from, bytes) there) });
        ends = entries-within v.named.end 0 l.runs v.archive.runs are-entries (stored-ends v.named.end l image.heap.is_log.runs_named named.end);
        named = mark-archived ∙ sym named.upto;
      }

  pub opened-stands : Stands tells v (opened_by 1024 h floors)
  opened-stands = record {
    store = is-opened tells old mark v roots h floors tells_so are_sound image opens;
    place = (
      subst (λ (j : Option Job). JobHasPlace v.named v.archive.runs v.archive.next j) (sym (ap (λ (x : LogStoreValue). x.job) opens.new_is)) tt,
      subst (λ (x : Option ReclaimValue). ReclaimHasPlace v.job v.named.end x) (sym (ap (λ (x : LogStoreValue). x.reclaim) opens.new_is)) tt,
    );
    runs = λ told. runs-stand;
    names = λ told.
        names-of-heap v h [] floors
        (subst (λ (b : Bool). MatchBool b (StopsOnHeap v h [] floors) (StandsOnHeap v h [] floors)) (ap (λ (x : LogStoreValue). x.commits.failed) opens.new_is)
        ((is-opened tells old mark v roots h floors tells_so are_sound image opens).disk told));
  }

-- ---- after a stop

pub stop-reopens : (tells : Bool) (v : LogStoreValue) (m : Machine Value) (old : DiskState) (mark : ℕ) (again : LogStoreValue) → IsTrue tells → IsInStep v
    → IsStoreOf tells v m → LeavesImage v.disk.areas (image_of old.areas) → AreSound old.areas → Opens tells old mark again
    → OnFront (λ h floors. Stands tells again (opened_by 1024 h floors)) m
stop-reopens tells v m old mark again told step is left sound opens =
    front-map (IsImageOf v.roots (image_of old.areas)) (λ h floors. Stands tells again (opened_by 1024 h floors)) m
    (λ h floors image. opened-stands tells old mark again v.roots h floors told sound image opens) (leaves-fronts tells v m
    (image_of old.areas) told step is left)

-- What an archive that merges runs, a base, and groups beside it leave of an image whose log lies in the heap.
use Rattle.std.proofs.Common.{◌≡◌, ℕ, ◌<◌, ◌≤◌, ◌^◌, max, nat_lt, true, false, List, [], ◌∷◌, ◌++◌, map, length, take, drop, None, refl, ap, sym, subst, ◌∙◌}
use Rattle.std.proofs.Common.{arith, append_assoc, take-append-drop}
use Rattle.std.specs.Prelude.{filter, flat_map}
use Rattle.std.specs.List.{AllByRecursion}
use Rattle.std.proofs.lemmas.List.{append-nil, map-append}
use Rattle.std.proofs.lemmas.List.Elements.{filter-append}
use Rattle.std.proofs.lemmas.Grind.{flat_map-append}
use Rattle.history.specs.declared.key.Key.{Key}
use Rattle.history.specs.declared.time.Version.{Version}
use Rattle.history.specs.declared.time.TimedWrite.{TimedWrite}
use Rattle.history.specs.Versions.{versions, stands_at, as_write, ends_after, ends_by}
use Rattle.history.specs.Histories.{History, versions_of, writes_of, commits_after, last}
use Rattle.history.proofs.Filters.{filter-filter, filter-swap}
use Rattle.history.proofs.Orders.{is_lt}
use Rattle.history.proofs.Values.{versions-apart}
use Rattle.history.proofs.Histories.{writes_of-rising}
use Rattle.law_image.specs.Values.{Value}
use Rattle.law_image.specs.Reading.{Head, Slot, Commits, Archived, Member, OldRecord, ArchiveRecord, Reading}
use Rattle.law_image.specs.Log.{heads_of, last_time_after, last_time, archive_mark, reclaim_mark, floor_of, told_time, is_in_heap, AreRisingAfter}
use Rattle.law_image.specs.Log.{MayComeInHeap}
use Rattle.law_image.specs.Facts.{old_writes, heap_commits, heap_versions, archived_versions, run_versions}
use Rattle.law_image.specs.StandsFor.{StandsFor, IsHeapOf, IsHeapLog, IsAnchorUpto, IsRun, AreRunsBy, no_floors, archived_upto, reclaimed_upto}
use Rattle.law_image.specs.Plans.{IsReclaimPlan, with_group}
use Rattle.law_image.specs.HeapPlans.{marks_of, first_runs, IsMergePlan, with_merged, IsBased, with_base}
use Rattle.law_image.proofs.Logs.{heads_of-append, last_time_after-append, archive_mark-append, reclaim_mark-append, floors-append, all-more, same_last}
use Rattle.law_image.proofs.Logs.{last_of-later, told-is_last, marked-heap}
use Rattle.law_image.proofs.Forms.{in-heap, of-heap}
use Rattle.law_image.proofs.HeapRuns.{AreStacked, stack-of, of-stack, stack-take, stack-more, marks-append, last_mark, last_mark-is, first-marks, first-rules}
use Rattle.law_image.proofs.HeapRuns.{TellAlike}
use Rattle.law_image.proofs.ArchiveStep.{joined}
use Rattle.law_image.proofs.ReclaimStep.{reclaimed-stands_for}
use Rattle.law_image.proofs.Standing.{marked, rises, last-is, archived-range, last-range, recent-rise}
use Rattle.law_image.proofs.FactsOf.{old_writes-rising, old_writes-standing}
use Rattle.law_image.proofs.PlansStay.{standing-stays}
use Rattle.history.specs.Time.{IsRisingAfter}

-- ---- an archive

module _ (reading : Reading) (h : History Value) (floors : ℕ → ℕ) (stands : StandsFor reading h floors) (heap : is_in_heap reading.profile ≡ true)
    (kept upto : ℕ) (run : List ArchiveRecord) (plan : IsMergePlan reading kept upto run) (later : archived_upto reading < upto) (by_last : upto ≤ last h) where
  is : IsHeapLog reading
  is = in-heap reading heap stands.opens.reads.form

  alike : TellAlike reading.log (first_runs kept reading.log)
  alike = (first-rules kept reading.log ((is).log).each).1

  new_archived : archive_mark (first_runs kept reading.log ++ Archived upto ∷ []) ≡ upto
  new_archived = archive_mark-append 0 (first_runs kept reading.log) (Archived upto ∷ [])

  same_reclaimed : reclaim_mark (first_runs kept reading.log ++ Archived upto ∷ []) ≡ reclaim_mark reading.log
  same_reclaimed = reclaim_mark-append 0 (first_runs kept reading.log) (Archived upto ∷ []) ∙ (alike).reclaimed

  same_heads : heads_of (first_runs kept reading.log ++ Archived upto ∷ []) ≡ heads_of reading.log
  same_heads = heads_of-append (first_runs kept reading.log) (Archived upto ∷ []) ∙ append-nil (heads_of (first_runs kept reading.log)) ∙ (alike).heads

  told : told_time (first_runs kept reading.log) ≡ last_time reading.log
  told =
      let l : last_time (first_runs kept reading.log) ≡ last_time reading.log = ap (last_time_after 0) (alike).heads in
      told-is_last (last_time (first_runs kept reading.log)) (reclaim_mark (first_runs kept reading.log)) (omega (
        arith,
        l,
        (alike).reclaimed,
        ((is).log).published,
      )) ∙ l

  stacked : AreStacked 0 (marks_of (first_runs kept reading.log) ++ upto ∷ []) (take kept reading.runs ++ run ∷ [])
  stacked = stack-more 0 upto (marks_of (first_runs kept reading.log)) (take kept reading.runs) run
      (subst (λ (ms : List ℕ). AreStacked 0 ms (take kept reading.runs)) (sym (first-marks kept reading.log))
      (stack-take kept 0 (marks_of reading.log) reading.runs (stack-of [] reading.log reading.runs (is).runs)))
      (subst (λ (m : ℕ). IsRun m (no_floors []) upto run) (last_mark-is 0 (first_runs kept reading.log)) plan.is_run)

  merged-log : IsHeapLog (with_merged reading kept upto run)
  merged-log = record {
    header = (is).header;
    log = record {
      each = all-more MayComeInHeap [] (first_runs kept reading.log) (Archived upto) (first-rules kept reading.log ((is).log).each).0
          (omega (arith, (alike).lower, later), omega (arith, told, by_last, last-is reading h floors stands));
      archived = omega (arith, new_archived, same_reclaimed, stands.homes.marks, later);
      published = omega (arith, same_reclaimed, ap (last_time_after 0) same_heads, ((is).log).published);
    };
    runs = of-stack [] (first_runs kept reading.log ++ Archived upto ∷ []) (take kept reading.runs ++ run ∷ [])
        (subst (λ (ms : List ℕ). AreStacked 0 ms (take kept reading.runs ++ run
        ∷ [])) (sym (marks-append (first_runs kept reading.log) (Archived upto ∷ []))) stacked);
  }

  pub merge-stands_for : StandsFor (with_merged reading kept upto run) h floors
  merge-stands_for = record {
    opens = record {
      reads = record {
        form = of-heap (with_merged reading kept upto run) heap merged-log;
        members = stands.opens.reads.members
            ∙ ap (λ l. filter (λ (head : Head). nat_lt (reclaim_mark reading.log) head.time) l) (sym same_heads)
            ∙ ap (λ (r : ℕ). filter (λ (head : Head). nat_lt r head.time) (heads_of (first_runs kept reading.log ++ Archived upto ∷ []))) (sym same_reclaimed);
        chains = stands.opens.reads.chains;
        stored = stands.opens.reads.stored;
        anchors = stands.opens.reads.anchors;
        anchor_times = subst (λ r. AllByRecursion (IsAnchorUpto r) reading.anchors) (sym same_reclaimed) stands.opens.reads.anchor_times;
      };
      floors_given = λ relation.
          ap (λ (f : ℕ → ℕ). f relation) (floors-append (λ q. 0) (first_runs kept reading.log) (Archived upto ∷ [])) ∙ (alike).floors relation
          ∙ stands.opens.floors_given relation;
      history = stands.opens.history;
      commits = same_heads ∙ stands.opens.commits;
      write_sets = stands.opens.write_sets ∙ ap (λ (r : ℕ). commits_after r h) (sym same_reclaimed);
    };
    homes = record {
      marks = omega (arith, new_archived, same_reclaimed, stands.homes.marks, later);
      in_heap =
          λ key. stands.homes.in_heap key
          ∙ ap (λ (r : ℕ). filter (ends_after (floors key.relation)) (filter (ends_after r) (versions_of h key))) (sym same_reclaimed);
      in_archive = λ key.
          let f = floors key.relation in
          let a = archived_upto reading in
          let vs = versions_of h key in
          let hv = heap_versions reading key in
          let firsts = flat_map (run_versions key) (take kept reading.runs) in
          let others = flat_map (run_versions key) (drop kept reading.runs) in
          let whole : firsts ++ others ≡ archived_versions reading key =
          sym (flat_map-append (run_versions key) (take kept reading.runs) (drop kept reading.runs))
          ∙ ap (flat_map (run_versions key)) (take-append-drop kept reading.runs) in
          let planned : filter (ends_after f) (run_versions key run) ≡ filter (ends_after f) others
          ++ filter (ends_after f) (filter (ends_by upto) (filter (ends_after (max a f)) hv)) =
          ap (filter (ends_after f)) (plan.each key)
          ∙ ap (λ (g : ℕ). filter (ends_after f) (filter (ends_after g) others
          ++ filter (ends_by upto) (filter (ends_after (max a g)) hv))) (stands.opens.floors_given key.relation)
          ∙ filter-append (ends_after f) (filter (ends_after f) others) (filter (ends_by upto) (filter (ends_after (max a f)) hv))
          ∙ ap (λ l. l ++ filter (ends_after f) (filter (ends_by upto) (filter (ends_after (max a f)) hv)))
          (filter-filter (ends_after f) (ends_after f) others (λ v e. e)) in
          ap (filter (ends_after f)) (flat_map-append (run_versions key) (take kept reading.runs) (run ∷ [])
          ∙ ap (λ l. firsts ++ l) (append-nil (run_versions key run)))
          ∙ filter-append (ends_after f) firsts (run_versions key run)
          ∙ ap (λ l. filter (ends_after f) firsts ++ l) planned
          ∙ sym (append_assoc (filter (ends_after f) firsts) (filter (ends_after f) others)
          (filter (ends_after f) (filter (ends_by upto) (filter (ends_after (max a f)) hv))))
          ∙ ap (λ l. l ++ filter (ends_after f) (filter (ends_by upto) (filter (ends_after (max a f)) hv))) (sym (filter-append (ends_after f) firsts others)
          ∙ ap (filter (ends_after f)) whole ∙ stands.homes.in_archive key)
          ∙ joined f (reclaimed_upto reading) a upto _ hv vs stands.homes.marks (omega (
            arith,
            later,
          )) (versions-apart 0 (writes_of h key) (writes_of-rising 0 h key (rises reading h floors stands))) (stands.homes.in_heap key)
          ∙ ap (λ (m : ℕ). filter (ends_after f) (filter (ends_by m) vs)) (sym new_archived);
    };
  }

-- ---- a base

pub base-stands_for : (reading : Reading) (h : History Value) (floors : ℕ → ℕ) (olds : List OldRecord) (after : List Slot)
    → StandsFor reading h floors → is_in_heap reading.profile ≡ true → IsReclaimPlan reading olds → IsBased (archived_upto reading) reading.log after
    → StandsFor (with_base reading olds after) h floors
base-stands_for reading h floors olds after stands heap plan based =
    let is : IsHeapLog reading = in-heap reading heap stands.opens.reads.form in
    let archived : archive_mark after ≡ archive_mark reading.log = last_mark-is 0 after ∙ ap (last_mark 0) based.marks ∙ sym (last_mark-is 0 reading.log) in
    let runs : AreStacked 0 (marks_of after) reading.runs =
    subst (λ (ms : List ℕ). AreStacked 0 ms reading.runs) (sym based.marks) (stack-of [] reading.log reading.runs is.runs) in
    reclaimed-stands_for reading h floors stands olds plan after based.reclaimed archived based.heads based.floors
    (of-heap (with_base reading olds after) heap (record { header = is.header; log = based.rules; runs = of-stack [] after reading.runs runs }))

-- ---- groups beside it

pub base-behind : (mark : ℕ) (log after : List Slot) (heads : List Head)
    → mark ≤ last_time log → 0 < length heads → AreRisingAfter (last_time log) heads → IsBased mark log after
    → IsBased mark (log ++ Commits heads ∷ []) (after ++ Commits heads ∷ [])
base-behind mark log after heads le some up based =
    let l : last_time after ≡ last_time log = ap (last_time_after 0) based.heads in
    let told : told_time after ≡ last_time log = told-is_last (last_time after) (reclaim_mark after) (omega (arith, l, based.reclaimed, le)) ∙ l in
    let a = archive_mark-append 0 after (Commits heads ∷ []) in
    let r = reclaim_mark-append 0 after (Commits heads ∷ []) in
    let rules = (based.rules).each in
    let ranges = marked-heap after based.rules in
    let same : heads_of (after ++ Commits heads ∷ []) ≡ heads_of (log ++ Commits heads ∷ []) =
    heads_of-append after (Commits heads ∷ []) ∙ ap (λ l. l ++ (heads ++ [])) based.heads ∙ sym (heads_of-append log (Commits heads ∷ [])) in
    let at : last_time (after ++ Commits heads ∷ []) ≡ last_time_after (last_time after) heads =
    ap (last_time_after 0) (heads_of-append after (Commits heads ∷ []) ∙ ap (λ l. heads_of after ++ l) (append-nil heads))
    ∙ last_time_after-append 0 (heads_of after) heads in
    let later = last_of-later (last_time after) (last_time log) heads (omega (arith, l)) (omega (arith, l, ranges.last)) some up in
    record {
      heads = same;
      marks = marks-append after (Commits heads ∷ []) ∙ ap (λ l. l ++ []) based.marks ∙ sym (marks-append log (Commits heads ∷ []));
      reclaimed = r ∙ based.reclaimed;
      floors = λ relation. ap (λ (f : ℕ → ℕ). f relation) (floors-append (λ q. 0) after (Commits heads ∷ [])) ∙ based.floors relation
          ∙ sym (ap (λ (f : ℕ → ℕ). f relation) (floors-append (λ q. 0) log (Commits heads ∷ [])));
      rules = record {
        each = all-more MayComeInHeap [] after (Commits heads) rules (some, subst (λ (t : ℕ). AreRisingAfter t heads) (sym told) up);
        archived = omega (arith, a, r, (based.rules).archived);
        published = omega (arith, r, at, later.0, based.reclaimed, le);
      };
    }

all-later : (mark : ℕ) (group : List Member) → AllByRecursion (λ (m : Member). mark < m.head.time) group
    → filter (λ (m : Member). nat_lt mark m.head.time) group ≡ group
all-later mark [] all = refl
all-later mark (m ∷ ms) all = let late : nat_lt mark m.head.time ≡ true = is_lt all.0 in rw late (ap (λ l. m ∷ l) (all-later mark ms all.1))

pub group-beside : (reading : Reading) (olds : List OldRecord) (after : List Slot) (group : List Member)
    → AllByRecursion (λ (m : Member). archived_upto reading < m.head.time) group
    → with_group (with_base reading olds after) group ≡ with_base (with_group reading group) olds (after ++ Commits (map (λ m. m.head) group) ∷ [])
group-beside reading olds after group all =
    let mark : archived_upto (with_group reading group) ≡ archived_upto reading = archive_mark-append 0 reading.log (Commits (map (λ m. m.head) group) ∷ []) in
    let members : filter (λ (m : Member). nat_lt (archived_upto reading) m.head.time) reading.members ++ group
    ≡ filter (λ (m : Member). nat_lt (archived_upto (with_group reading group)) m.head.time) (reading.members ++ group) =
    ap (λ l. filter (λ (m : Member). nat_lt (archived_upto reading) m.head.time) reading.members ++ l) (sym (all-later (archived_upto reading) group all))
    ∙ sym (filter-append (λ (m : Member). nat_lt (archived_upto reading) m.head.time) reading.members group)
    ∙ ap (λ (n : ℕ). filter (λ (m : Member). nat_lt n m.head.time) (reading.members ++ group)) (sym mark) in
    ap (λ (ms : List Member). record reading { log = after ++ Commits (map (λ m. m.head) group) ∷ []; members = ms; anchors = olds }) members

-- ---- the anchors that stand

pub anchors-plan : (reading : Reading) (h : History Value) (floors : ℕ → ℕ) → StandsFor reading h floors → archived_upto reading ≡ reclaimed_upto reading
    → IsReclaimPlan reading reading.anchors
anchors-plan reading h floors stands same =
    let r = reclaimed_upto reading in
    let range : r < 2 ^ 63 = omega (arith, stands.homes.marks, archived-range reading h floors stands, last-range reading h floors stands) in
    let up = recent-rise reading h floors stands in
    record {
      each = λ key.
          let olds = old_writes reading.anchors key in
          let more = writes_of (heap_commits reading) key in
          let low : IsRisingAfter 0 olds =
          subst (IsRisingAfter 0) (append-nil olds)
          (old_writes-rising r reading.anchors key [] range stands.opens.reads.anchors stands.opens.reads.anchor_times tt) in
          sym (
          ap (λ (m : ℕ). map as_write (filter (stands_at m) (heap_versions reading key))) same
          ∙ standing-stays 0 r olds more range low (writes_of-rising r (heap_commits reading) key up)
          ∙ old_writes-standing r reading.anchors key range stands.opens.reads.anchors stands.opens.reads.anchor_times);
      rising = stands.opens.reads.anchors;
      in_range = subst (λ (m : ℕ). AllByRecursion (IsAnchorUpto m) reading.anchors) (sym same) stands.opens.reads.anchor_times;
    }

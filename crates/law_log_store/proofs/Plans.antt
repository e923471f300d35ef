-- The plan of an archive: what a walk over memory gives is one, and it stays one while groups are published.
use Rattle.std.proofs.Common.{◌≡◌, ℕ, zero, suc, ◌<◌, ◌≤◌, ◌^◌, max, true, List, [], ◌∷◌, ◌++◌, length, map, take, drop, refl, arith, ap, sym, subst}
use Rattle.std.proofs.Common.{◌∙◌}
use Rattle.std.specs.Prelude.{filter, flat_map}
use Rattle.std.specs.List.{AllByRecursion}
use Rattle.std.proofs.lemmas.Bool.Decides.{nat_tests}
use Rattle.std.proofs.lemmas.List.{append-nil}
use Rattle.history.specs.declared.key.Key.{Key}
use Rattle.history.specs.declared.time.Version.{Version}
use Rattle.history.specs.Versions.{versions, ends_after, ends_by}
use Rattle.history.specs.Histories.{History, last, versions_of, writes_of}
use Rattle.history.proofs.Filters.{filter-filter}
use Rattle.history.proofs.Orders.{is_lt}
use Rattle.law_image.specs.Values.{Value}
use Rattle.law_image.specs.Reading.{Slot, Commits, ArchiveRecord, Member, Reading}
use Rattle.law_image.specs.Log.{archive_mark, floor_of, is_in_heap}
use Rattle.law_image.specs.Facts.{heap_versions, run_versions}
use Rattle.law_image.specs.StandsFor.{StandsFor, IsHeapLog, IsRun, no_floors, archived_upto, reclaimed_upto}
use Rattle.law_image.specs.Plans.{IsArchivePlan, IsGroupOf, HasRoom, with_group}
use Rattle.law_image.specs.HeapPlans.{IsMergePlan, marks_of, first_runs}
use Rattle.law_image.specs.PlansMade.{archive_plan, archive_record}
use Rattle.law_image.proofs.Forms.{in-heap}
use Rattle.law_image.proofs.HeapRuns.{first-marks, first-rules, last_mark, last_mark-is, marks-append}
use Rattle.law_image.proofs.Logs.{floors-append}
use Rattle.law_image.proofs.PlansMade.{archive-plan_is}
use Rattle.law_image.proofs.PlansStay.{archive-plan-stays}
use Rattle.law_image.proofs.Standing.{facts-rise}
use Rattle.law_layout.specs.Records.{IsArchiveRecord}
use Rattle.law_refinement.proofs.Ranges.{versions-in-range, writes-in-range}
use Rattle.chains.specs.KeyWrites as chains
use Rattle.vacuum.specs.Archives.{since_of}
use Rattle.log_store.specs.Archives.{since_now, records_to}
use Rattle.log_store.specs.Values.{LogStoreValue}
use Rattle.law_log_store.specs.Calls.{HoldsUnarchived}
use Rattle.law_log_store.proofs.Walked.{walked-versions, walked-run, filtered-in-range, records-in-range}

-- ---- it stays a plan

module _ (reading : Reading) (h next : History Value) (floors : ℕ → ℕ) (group : List Member) (stands : StandsFor reading h floors)
    (joins : IsGroupOf reading h next group) (room : HasRoom reading) where
  abbrev with : Reading
  with = with_group reading group

  abbrev slot : Slot
  slot = Commits (map (λ (m : Member). m.head) group)

  same-floors : floor_of reading.log ≡ floor_of (with).log
  same-floors = sym (floors-append (λ q. 0) reading.log (slot ∷ []))

  -- the mark of the first runs is as it was
  same-mark : (kept : ℕ) → archive_mark (first_runs kept reading.log) ≡ archive_mark (first_runs kept (with).log)
  same-mark kept =
      last_mark-is 0 (first_runs kept reading.log)
      ∙ ap (last_mark 0) (first-marks kept reading.log
      ∙ ap (take kept) (sym (append-nil (marks_of reading.log)) ∙ sym (marks-append reading.log (slot ∷ [])))
      ∙ sym (first-marks kept (with).log))
      ∙ sym (last_mark-is 0 (first_runs kept (with).log))

  -- what an archive up to a time takes of the heap is what it took
  same-taken : (upto : ℕ) → upto ≤ last h → (key : Key)
      → filter (ends_by upto) (filter (ends_after (max (archived_upto reading) (floor_of reading.log key.relation))) (heap_versions reading key))
      ≡ filter (ends_by upto) (filter (ends_after (max (archived_upto with) (floor_of (with).log key.relation))) (heap_versions with key))
  same-taken upto by key =
      let plan : IsArchivePlan reading upto (archive_plan reading upto) = archive-plan_is reading (facts-rise reading h floors stands) upto in
      let stays : IsArchivePlan with upto (archive_plan reading upto) =
      archive-plan-stays reading h next floors group stands joins room upto (archive_plan reading upto) by plan in
      sym (plan.each key) ∙ stays.each key

  pub merge-plan-stays : (kept upto : ℕ) (run : List ArchiveRecord) → upto ≤ last h → IsMergePlan reading kept upto run → IsMergePlan with kept upto run
  merge-plan-stays kept upto run by plan = record {
    within = plan.within;
    each = λ key.
        let others : List (Version Value) = flat_map (run_versions key) (drop kept reading.runs) in
        plan.each key ∙ (λ i. filter (ends_after (same-floors i key.relation)) others ++ same-taken upto by key i);
    is_run = subst (λ (mark : ℕ). IsRun mark (no_floors []) upto run) (same-mark kept) plan.is_run;
  }

-- ---- a walk over memory gives it

pub drop-all : {X : Type 0} (n : ℕ) (xs : List X) → length xs ≤ n → drop n xs ≡ []
drop-all zero [] few = refl
drop-all zero (x ∷ xs) few = absurd (omega (arith, few))
drop-all (suc n) [] few = refl
drop-all (suc n) (x ∷ xs) few = drop-all n xs (omega (arith, few))

pub after-higher : (low high : ℕ) (vs : List (Version Value)) → low ≤ high → filter (ends_after high) (filter (ends_after low) vs) ≡ filter (ends_after high) vs
after-higher low high vs le =
    filter-filter (ends_after high) (ends_after low) vs (λ v is. let past : high < v.to = grind (arith, nat_tests) in is_lt (omega (arith, le, past)))

module _ (v : LogStoreValue) (reading : Reading) (h : History Value) (floors : ℕ → ℕ) (stands : StandsFor reading h floors)
    (heap : is_in_heap reading.profile ≡ true) (mark : v.named.upto ≡ archived_upto reading) (holds : HoldsUnarchived v h floors) (upto : ℕ) where
  abbrev after : Key → ℕ
  after key = max v.named.upto (floors key.relation)

  after-is : (key : Key) → since_of (since_now v) key.relation ≡ after key
  after-is key = ap (λ (n : ℕ). max v.named.upto n) (holds.floors_are key.relation)

  -- the heap has what ended after that
  heap-has : (key : Key) → filter (ends_after (after key)) (heap_versions reading key) ≡ filter (ends_after (after key)) (versions_of h key)
  heap-has key =
      let f = floors key.relation in
      let r = reclaimed_upto reading in
      let vs = versions_of h key in
      let low : r ≤ after key = let marks = stands.homes.marks in omega (arith, marks, mark) in
      sym (after-higher f (after key) (heap_versions reading key) (omega arith))
      ∙ ap (filter (ends_after (after key))) (stands.homes.in_heap key)
      ∙ after-higher f (after key) (filter (ends_after r) vs) (omega arith)
      ∙ after-higher r (after key) vs low

  -- and memory has it too
  taken-is : (key : Key)
      → filter (ends_by upto) (filter (ends_after (since_of (since_now v) key.relation)) (versions (chains.writes_of v.commits.versions key)))
      ≡ filter (ends_by upto) (filter (ends_after (after key)) (versions_of h key))
  taken-is key =
      ap (λ (n : ℕ). filter (ends_by upto) (filter (ends_after n) (versions (chains.writes_of v.commits.versions key)))) (after-is key)
      ∙ ap (filter (ends_by upto)) (holds.same key)

  floor-after : (key : Key) → max (archived_upto reading) (floor_of reading.log key.relation) ≡ after key
  floor-after key = λ i. max (sym mark i) (stands.opens.floors_given key.relation i)

  pub walked-plan : (kept : ℕ) → kept ≡ length reading.runs → IsMergePlan reading kept upto (records_to v upto)
  walked-plan kept all = record {
    within = omega (arith, all);
    each = λ key.
        let none : drop kept reading.runs ≡ [] = drop-all kept reading.runs (omega (arith, all)) in
        let taken : List (Version Value) =
        filter (ends_by upto) (filter (ends_after (max (archived_upto reading) (floor_of reading.log key.relation))) (heap_versions reading key)) in
        let same : run_versions key (records_to v upto) ≡ taken =
        walked-versions v.commits.versions holds.in_memory (since_now v) upto key
        ∙ taken-is key
        ∙ sym (ap (filter (ends_by upto)) (heap-has key))
        ∙ sym (ap (λ (n : ℕ). filter (ends_by upto) (filter (ends_after n) (heap_versions reading key))) (floor-after key)) in
        same
        ∙ sym (ap (λ (rs : List (List ArchiveRecord)). filter (ends_after (floor_of reading.log key.relation)) (flat_map (run_versions key) rs) ++ taken) none);
    is_run = walked-run v.commits.versions holds.in_memory (since_now v) upto (archive_mark (first_runs kept reading.log)) first-mark;
  }
    where
      form : IsHeapLog reading
      form = in-heap reading heap stands.opens.reads.form

      first-mark : archive_mark (first_runs kept reading.log) ≤ v.named.upto
      first-mark = let alike = (first-rules kept reading.log ((form).log).each).1 in let low = alike.lower in omega (arith, low, mark)

  -- its records are in range
  pub walked-in-range : upto < 2 ^ 63 → AllByRecursion IsArchiveRecord (records_to v upto)
  walked-in-range low =
      records-in-range v.commits.versions (since_now v) upto holds.in_memory.ordered (λ key.
      subst (λ (vs : List (Version Value)). AllByRecursion IsArchiveRecord (map (archive_record key) vs)) (sym (taken-is key))
      (filtered-in-range key (after key) upto (versions_of h key) low
      (versions-in-range key (writes_of h key) (writes-in-range [] h key stands.opens.history))))

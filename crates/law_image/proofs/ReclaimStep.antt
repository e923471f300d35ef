-- An image with a reclaimed slot and the old records of its plan stands for the same history and floors, without the chains up to A.
use Rattle.std.proofs.Common.{◌≡◌, ℕ, ◌<◌, ◌≤◌, ◌^◌, nat_lt, true, List, [], ◌∷◌, ◌++◌, map, length, None, refl, ap, sym, subst, ◌∙◌, arith, length-append}
use Rattle.std.specs.Prelude.{filter, MatchBool}
use Rattle.std.specs.List.{AllByRecursion}
use Rattle.std.proofs.lemmas.List.{append-nil}
use Rattle.std.proofs.lemmas.List.Elements.{filter-append}
use Rattle.std.proofs.lemmas.Bool.Decides.{nat_tests}
use Rattle.history.specs.declared.key.Key.{Key}
use Rattle.history.specs.declared.time.TimedWrite.{TimedWrite}
use Rattle.history.specs.Time.{value_after, writes_after}
use Rattle.history.specs.Versions.{versions, stands_at, as_write, ends_after, ends_by}
use Rattle.history.specs.Histories.{Commit, History, versions_of, writes_of, commits_after}
use Rattle.history.proofs.Filters.{filter-filter, filter-map, filter-swap, AllByRecursion-filter}
use Rattle.history.proofs.Values.{versions-apart, versions-since, standing_at-versions, value_after-append}
use Rattle.history.proofs.Histories.{writes_of-commits_after}
use Rattle.law_image.specs.Values.{Value}
use Rattle.law_image.specs.Reading.{Head, Slot, Reclaimed, Member, OldRecord, Reading, slot_count}
use Rattle.law_image.specs.Log.{heads_of, archive_mark, reclaim_mark, is_in_heap}
use Rattle.law_image.specs.Facts.{old_writes, latest, heap_commits, heap_facts, heap_versions}
use Rattle.law_image.specs.Log.{floor_of}
use Rattle.law_image.specs.StandsFor.{StandsFor, IsChain, IsAnchorUpto, AreRunsOf, IsSlotLog, IsHeapLog, archived_upto, reclaimed_upto}
use Rattle.law_image.specs.HeapPlans.{with_base}
use Rattle.law_image.specs.Plans.{HasSlots, HasRoom, IsReclaimPlan, with_anchors}
use Rattle.law_image.proofs.Forms.{in-slots, of-slots, room-in_slots}
use Rattle.law_image.proofs.Logs.{heads_of-append, archive_mark-append, reclaim_mark-append, floors-append, log-more, runs-more}
use Rattle.law_image.proofs.FactsOf.{commits_from-after, AreStored-after, old_writes-past, old_writes-latest, latest-standing}
use Rattle.history.proofs.Views.{filter-later}
use Rattle.law_image.proofs.Standing.{archived-range, last-range, recent-rise, facts-rise}

later_lt : (early late n : ℕ) → early ≤ late → nat_lt late n ≡ true → nat_lt early n ≡ true
later_lt early late n le h = grind (arith, nat_tests)

module _ (reading : Reading) (h : History Value) (floors : ℕ → ℕ) (stands : StandsFor reading h floors)
    (olds : List OldRecord) (plan : IsReclaimPlan reading olds) (after : List Slot)
    (new_reclaimed : reclaim_mark after ≡ archived_upto reading) (same_archived : archive_mark after ≡ archive_mark reading.log)
    (same_heads : heads_of after ≡ heads_of reading.log) (same_floors : (relation : ℕ) → floor_of after relation ≡ floor_of reading.log relation)
    (form : MatchBool (is_in_heap reading.profile) (IsHeapLog (with_base reading olds after)) (IsSlotLog (with_base reading olds after))) where
  mark-range : archived_upto reading < 2 ^ 63
  mark-range = omega (arith, archived-range reading h floors stands, last-range reading h floors stands)

  -- the value of each key at the mark is what the plan's records give
  planned_value : (key : Key) → latest (old_writes olds key)
      ≡ value_after (latest (old_writes reading.anchors key)) (writes_of (heap_commits reading) key) (archived_upto reading)
  planned_value key =
      let a = archived_upto reading in
      let facts = heap_facts reading key in
      ap latest (plan.each key)
      ∙ latest-standing _ a (heap_versions reading key) mark-range (versions-apart 0 facts (facts-rise reading h floors stands key))
      ∙ standing_at-versions 0 a facts mark-range (facts-rise reading h floors stands key)
      ∙ value_after-append None (old_writes reading.anchors key) (writes_of (heap_commits reading) key) a
      ∙ ap (λ v. value_after v (writes_of (heap_commits reading) key) a)
      (old_writes-latest (reclaimed_upto reading) a reading.anchors key None stands.homes.marks (omega (
        arith,
        stands.homes.marks,
        mark-range,
      )) stands.opens.reads.anchor_times)

  -- so the members that stay are the same commits
  later_commits : heap_commits (with_base reading olds after) ≡ commits_after (archived_upto reading) (heap_commits reading)
  later_commits =
      commits_from-after (reclaimed_upto reading) (archived_upto reading) (λ key. latest (old_writes reading.anchors key)) (λ key. latest (old_writes olds key))
      reading.members
      (recent-rise reading h floors stands) planned_value

  -- the facts that stay are those after the mark, behind the version that stands at it
  later_facts : (key : Key) → heap_facts (with_base reading olds after) key
      ≡ map as_write (filter (stands_at (archived_upto reading)) (heap_versions reading key)) ++ writes_after (archived_upto reading) (heap_facts reading key)
  later_facts key =
      let a = archived_upto reading in
      ap (λ l. l ++ writes_of (heap_commits (with_base reading olds after)) key) (plan.each key)
      ∙ ap (λ l. map as_write (filter (stands_at a) (heap_versions reading key)) ++ l) (
      ap (λ c. writes_of c key) later_commits
      ∙ writes_of-commits_after a (heap_commits reading) key
      ∙ ap (λ l. l ++ writes_after a (writes_of (heap_commits reading) key))
      (sym (old_writes-past (reclaimed_upto reading) a reading.anchors key stands.homes.marks stands.opens.reads.anchor_times))
      ∙ sym (filter-append (λ (w : TimedWrite Value). nat_lt a w.time) (old_writes reading.anchors key) (writes_of (heap_commits reading) key)))

  pub reclaimed-stands_for : StandsFor (with_base reading olds after) h floors
  reclaimed-stands_for =
      let a = archived_upto reading in
      let r = reclaimed_upto reading in
      record {
        opens = record {
          reads = record {
            form = form;
            members =
                sym (filter-map (λ (m : Member). nat_lt a m.head.time) (λ (head : Head). nat_lt a head.time) (λ (m : Member). m.head) reading.members
                (λ m. refl))
                ∙ ap (filter (λ (head : Head). nat_lt a head.time)) stands.opens.reads.members
                ∙ filter-filter (λ (head : Head). nat_lt a head.time) (λ (head : Head). nat_lt r head.time) (heads_of reading.log)
                (λ head e. later_lt r a head.time stands.homes.marks e)
                ∙ ap (λ l. filter (λ (head : Head). nat_lt a head.time) l) (sym same_heads)
                ∙ ap (λ (m : ℕ). filter (λ (head : Head). nat_lt m head.time) (heads_of after)) (sym new_reclaimed);
            chains = AllByRecursion-filter IsChain (λ m. nat_lt a m.head.time) reading.members stands.opens.reads.chains;
            stored = AreStored-after r a (λ key. latest (old_writes reading.anchors key)) (λ key. latest (old_writes olds key)) reading.members
                (recent-rise reading h floors stands) planned_value stands.opens.reads.stored;
            anchors = plan.rising;
            anchor_times = subst (λ m. AllByRecursion (IsAnchorUpto m) olds) (sym new_reclaimed) plan.in_range;
          };
          floors_given = λ relation. same_floors relation ∙ stands.opens.floors_given relation;
          history = stands.opens.history;
          commits = same_heads ∙ stands.opens.commits;
          write_sets =
              later_commits
              ∙ ap (commits_after a) stands.opens.write_sets
              ∙ filter-filter (λ (c : Commit Value). nat_lt a c.time) (λ (c : Commit Value). nat_lt r c.time) h
              (λ c e. later_lt r a c.time stands.homes.marks e)
              ∙ ap (λ (m : ℕ). commits_after m h) (sym new_reclaimed);
        };
        homes = record {
          marks = omega (arith, new_reclaimed, same_archived);
          in_heap = λ key.
              let f = floors key.relation in
              let vs = versions_of h key in
              ap (λ l. filter (ends_after f) (versions l)) (later_facts key)
              ∙ ap (filter (ends_after f)) (versions-since 0 a (heap_facts reading key) mark-range (facts-rise reading h floors stands key))
              ∙ filter-swap (ends_after f) (ends_after a) (heap_versions reading key)
              ∙ ap (filter (ends_after a)) (stands.homes.in_heap key)
              ∙ filter-swap (ends_after a) (ends_after f) (filter (ends_after r) vs)
              ∙ ap (filter (ends_after f)) (filter-later r a vs stands.homes.marks)
              ∙ ap (λ (m : ℕ). filter (ends_after f) (filter (ends_after m) vs)) (sym new_reclaimed);
          in_archive =
              λ key. stands.homes.in_archive key
              ∙ ap (λ (m : ℕ). filter (ends_after (floors key.relation)) (filter (ends_by m) (versions_of h key))) (sym same_archived);
        };
      }

-- a slot at the end of the log
pub reclaim-stands_for : (reading : Reading) (h : History Value) (floors : ℕ → ℕ) → StandsFor reading h floors → (olds : List OldRecord)
    → IsReclaimPlan reading olds
    → reclaimed_upto reading < archived_upto reading → HasSlots reading → HasRoom reading → StandsFor (with_anchors reading olds) h floors
reclaim-stands_for reading h floors stands olds plan advances slots has_room =
    let a = archived_upto reading in
    let is : IsSlotLog reading = in-slots reading slots stands.opens.reads.form in
    let room : length reading.log < slot_count reading = room-in_slots reading slots has_room in
    reclaimed-stands_for reading h floors stands olds plan (reading.log ++ Reclaimed a ∷ [])
    (reclaim_mark-append 0 reading.log (Reclaimed a ∷ []))
    (archive_mark-append 0 reading.log (Reclaimed a ∷ []))
    (heads_of-append reading.log (Reclaimed a ∷ []) ∙ append-nil (heads_of reading.log))
    (λ relation. ap (λ (f : ℕ → ℕ). f relation) (floors-append (λ q. 0) reading.log (Reclaimed a ∷ [])))
    (of-slots (with_anchors reading olds) slots (record {
      header = is.header;
      log = log-more reading.profile [] reading.log (Reclaimed a) is.log (refl, advances);
      fits = omega (arith, length-append reading.log (Reclaimed a ∷ []), room);
      runs = subst (AreRunsOf [] (reading.log ++ Reclaimed a ∷ [])) (append-nil reading.runs) (runs-more floor_of [] reading.log (Reclaimed a
          ∷ []) reading.runs [] is.runs tt);
    }))

-- An image with an archived slot and the run of its plan stands for the same history and floors.
use Rattle.std.proofs.Common.{◌≡◌, ℕ, ◌<◌, ◌≤◌, max, nat_lt, ◌&&◌, true, List, [], ◌∷◌, ◌++◌, length, ap, sym, subst, ◌∙◌, arith, length-append}
use Rattle.std.specs.Prelude.{filter}
use Rattle.std.specs.List.{AllByRecursion}
use Rattle.std.proofs.lemmas.List.{append-nil}
use Rattle.std.proofs.lemmas.List.Elements.{filter-append}
use Rattle.std.proofs.lemmas.Grind.{flat_map-append}
use Rattle.std.proofs.lemmas.Bool.Decides.{nat_tests}
use Rattle.history.specs.declared.time.Version.{Version}
use Rattle.history.specs.Versions.{ends_after, ends_by, FollowOneAnotherFrom}
use Rattle.history.specs.Histories.{History, versions_of, writes_of, commits_after}
use Rattle.history.proofs.Filters.{filter-filter, filter-swap, filter-both}
use Rattle.history.proofs.Values.{versions-apart}
use Rattle.history.proofs.Appending.{ends_by-then-after}
use Rattle.history.proofs.Histories.{writes_of-rising}
use Rattle.law_image.specs.Values.{Value}
use Rattle.law_image.specs.Reading.{Head, Archived, ArchiveRecord, Reading, slot_count}
use Rattle.law_image.specs.Log.{heads_of, archive_mark, reclaim_mark, floor_of, MayCome}
use Rattle.law_image.specs.Facts.{heap_versions, archived_versions, run_versions}
use Rattle.law_image.specs.StandsFor.{StandsFor, IsAnchorUpto, IsSlotLog, archived_upto, reclaimed_upto}
use Rattle.law_image.specs.Plans.{HasSlots, HasRoom, IsArchivePlan, with_run}
use Rattle.law_image.proofs.Forms.{in-slots, of-slots, room-in_slots}
use Rattle.law_image.proofs.Logs.{heads_of-append, archive_mark-append, reclaim_mark-append, floors-append, log-more, runs-more}
use Rattle.history.proofs.Views.{filter-later}
use Rattle.law_image.proofs.Standing.{rises}

after-both : {V : Type 0} (a b : ℕ) (v : Version V) → ends_after (max a b) v ≡ (ends_after a v && ends_after b v)
after-both a b v = grind (arith, nat_tests)

by_later : {V : Type 0} (early late : ℕ) (v : Version V) → early ≤ late → ends_by early v ≡ true → ends_by late v ≡ true
by_later early late v le ends = grind (arith, nat_tests)

filter-by : {V : Type 0} (early late : ℕ) (vs : List (Version V)) → early ≤ late → filter (ends_by early) (filter (ends_by late) vs) ≡ filter (ends_by early) vs
filter-by early late vs le = filter-filter (ends_by early) (ends_by late) vs (λ v h. by_later early late v le h)

-- The kept versions by the new mark: those by the old one, and those of the plan.
pub joined : {V : Type 0} (f r a upto s : ℕ) (hv vs : List (Version V)) → r ≤ a → a ≤ upto → FollowOneAnotherFrom s vs
    → filter (ends_after f) hv ≡ filter (ends_after f) (filter (ends_after r) vs)
    → filter (ends_after f) (filter (ends_by a) vs) ++ filter (ends_after f) (filter (ends_by upto) (filter (ends_after (max a f)) hv))
    ≡ filter (ends_after f) (filter (ends_by upto) vs)
joined f r a upto s hv vs ra au apart same =
    let plan : filter (ends_after f) (filter (ends_by upto) (filter (ends_after (max a f)) hv))
    ≡ filter (ends_after f) (filter (ends_by upto) (filter (ends_after a) vs)) =
    ap (λ l. filter (ends_after f) (filter (ends_by upto) l)) (
    filter-both (ends_after (max a f)) (ends_after a) (ends_after f) hv (λ v. after-both a f v)
    ∙ ap (filter (ends_after a)) same
    ∙ filter-swap (ends_after a) (ends_after f) (filter (ends_after r) vs)
    ∙ ap (filter (ends_after f)) (filter-later r a vs ra))
    ∙ ap (filter (ends_after f)) (filter-swap (ends_by upto) (ends_after f) (filter (ends_after a) vs))
    ∙ filter-filter (ends_after f) (ends_after f) (filter (ends_by upto) (filter (ends_after a) vs)) (λ v e. e) in
    let old : filter (ends_by a) vs ≡ filter (ends_by upto) (filter (ends_by a) vs) =
    sym (filter-swap (ends_by upto) (ends_by a) vs ∙ filter-by a upto vs au) in
    ap (λ l. filter (ends_after f) (filter (ends_by a) vs) ++ l) plan
    ∙ ap (λ l. filter (ends_after f) l ++ filter (ends_after f) (filter (ends_by upto) (filter (ends_after a) vs))) old
    ∙ sym (filter-append (ends_after f) (filter (ends_by upto) (filter (ends_by a) vs)) (filter (ends_by upto) (filter (ends_after a) vs)))
    ∙ ap (filter (ends_after f)) (sym (filter-append (ends_by upto) (filter (ends_by a) vs) (filter (ends_after a) vs)))
    ∙ ap (λ l. filter (ends_after f) (filter (ends_by upto) l)) (ends_by-then-after s a vs apart)

module _ (reading : Reading) (h : History Value) (floors : ℕ → ℕ) (stands : StandsFor reading h floors)
    (upto : ℕ) (run : List ArchiveRecord) (plan : IsArchivePlan reading upto run)
    (may : MayCome reading.profile reading.log (Archived upto)) (slots : HasSlots reading) (has_room : HasRoom reading) where
  is : IsSlotLog reading
  is = in-slots reading slots stands.opens.reads.form

  room : length reading.log < slot_count reading
  room = room-in_slots reading slots has_room

  new_archived : archive_mark (reading.log ++ Archived upto ∷ []) ≡ upto
  new_archived = archive_mark-append 0 reading.log (Archived upto ∷ [])

  same_reclaimed : reclaim_mark (reading.log ++ Archived upto ∷ []) ≡ reclaim_mark reading.log
  same_reclaimed = reclaim_mark-append 0 reading.log (Archived upto ∷ [])

  same_heads : heads_of (reading.log ++ Archived upto ∷ []) ≡ heads_of reading.log
  same_heads = heads_of-append reading.log (Archived upto ∷ []) ∙ append-nil (heads_of reading.log)

  pub archive-stands_for : StandsFor (with_run reading upto run) h floors
  archive-stands_for = record {
    opens = record {
      reads = record {
        form = of-slots (with_run reading upto run) slots (record {
          header = (is).header;
          log = log-more reading.profile [] reading.log (Archived upto) (is).log may;
          fits = omega (arith, length-append reading.log (Archived upto ∷ []), room);
          runs = runs-more floor_of [] reading.log (Archived upto ∷ []) reading.runs (run ∷ []) (is).runs (plan.is_run, tt);
        });
        members = stands.opens.reads.members
            ∙ ap (λ l. filter (λ (head : Head). nat_lt (reclaim_mark reading.log) head.time) l) (sym same_heads)
            ∙ ap (λ (r : ℕ). filter (λ (head : Head). nat_lt r head.time) (heads_of (reading.log ++ Archived upto ∷ []))) (sym same_reclaimed);
        chains = stands.opens.reads.chains;
        stored = stands.opens.reads.stored;
        anchors = stands.opens.reads.anchors;
        anchor_times = subst (λ r. AllByRecursion (IsAnchorUpto r) reading.anchors) (sym same_reclaimed) stands.opens.reads.anchor_times;
      };
      floors_given = λ relation. ap (λ (f : ℕ → ℕ). f relation) (floors-append (λ q. 0) reading.log (Archived upto ∷ [])) ∙ stands.opens.floors_given relation;
      history = stands.opens.history;
      commits = same_heads ∙ stands.opens.commits;
      write_sets = stands.opens.write_sets ∙ ap (λ (r : ℕ). commits_after r h) (sym same_reclaimed);
    };
    homes = record {
      marks = omega (arith, new_archived, same_reclaimed, stands.homes.marks, may.0);
      in_heap =
          λ key. stands.homes.in_heap key
          ∙ ap (λ (r : ℕ). filter (ends_after (floors key.relation)) (filter (ends_after r) (versions_of h key))) (sym same_reclaimed);
      in_archive = λ key.
          let f = floors key.relation in
          let a = archived_upto reading in
          let vs = versions_of h key in
          let hv = heap_versions reading key in
          ap (filter (ends_after f)) (flat_map-append (run_versions key) reading.runs (run ∷ [])
          ∙ ap (λ l. archived_versions reading key ++ l) (append-nil (run_versions key run)))
          ∙ filter-append (ends_after f) (archived_versions reading key) (run_versions key run)
          ∙ ap (λ l. l ++ filter (ends_after f) (run_versions key run)) (stands.homes.in_archive key)
          ∙ ap (λ l. filter (ends_after f) (filter (ends_by a) vs) ++ filter (ends_after f) l) (plan.each key)
          ∙ ap (λ (g : ℕ). filter (ends_after f) (filter (ends_by a) vs)
          ++ filter (ends_after f) (filter (ends_by upto) (filter (ends_after (max a g)) hv))) (stands.opens.floors_given key.relation)
          ∙ joined f (reclaimed_upto reading) a upto _ hv vs stands.homes.marks (omega (
            arith,
            may.0,
          )) (versions-apart 0 (writes_of h key) (writes_of-rising 0 h key (rises reading h floors stands))) (stands.homes.in_heap key)
          ∙ ap (λ (m : ℕ). filter (ends_after f) (filter (ends_by m) vs)) (sym new_archived);
    };
  }

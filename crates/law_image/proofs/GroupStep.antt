-- An image with a group's slot stands for the history with the group's commits.
use Rattle.std.proofs.Common.{◌≡◌, ℕ, ◌<◌, ◌≤◌, ◌^◌, nat_lt, Bool, true, false, cond, List, [], ◌∷◌, ◌++◌, map, length, Option, None, refl, ap, sym, subst, ◌∙◌}
use Rattle.std.proofs.Common.{arith, length-append, append_assoc, suc}
use Rattle.std.specs.Prelude.{filter, MatchBool}
use Rattle.std.specs.List.{AllByRecursion}
use Rattle.std.proofs.lemmas.List.{append-nil, map-append}
use Rattle.std.proofs.lemmas.List.Elements.{filter-append}
use mathlib.Core.Path.{fun_ext}
use Rattle.history.specs.declared.key.Key.{Key}
use Rattle.history.specs.declared.time.TimedWrite.{TimedWrite}
use Rattle.history.specs.Time.{IsRisingAfter}
use Rattle.history.specs.Versions.{versions, first_time, ended, ends_after, ends_by}
use Rattle.history.specs.Histories.{Commit, History, last, writes_of, versions_of, HasRisingTimes, commits_after}
use Rattle.history.proofs.Orders.{is_lt}
use Rattle.history.proofs.Filters.{AllByRecursion-append}
use Rattle.history.proofs.Values.{value_after-append, rising_earlier, first_time-later}
use Rattle.history.proofs.Appending.{ends_after-append, ends_by-append, filter_ends_after-ended}
use Rattle.history.proofs.Histories.{writes_of-append, writes_of-rising, rising-from_following, commits_after-all, may_follow-append}
use Rattle.law_image.specs.Values.{Value, IsValue}
use Rattle.law_image.specs.Reading.{Head, Commits, Member, Reading}
use Rattle.law_image.specs.Log.{heads_of, last_time_after, last_time, told_time, archive_mark, reclaim_mark, floor_of, is_in_heap, AreRisingAfter}
use Rattle.law_image.specs.Log.{MayComeInHeap}
use Rattle.law_image.specs.Facts.{commits_from, old_writes, latest, heap_commits, heap_facts, AreStored}
use Rattle.law_image.specs.StandsFor.{StandsFor, Reads, IsChain, IsAnchorUpto, AreRunsOf, AreRunsBy, no_floors, IsSlotLog, IsHeapLog, head_of, reclaimed_upto}
use Rattle.law_image.specs.StandsFor.{archived_upto}
use Rattle.law_image.specs.Plans.{with_group, HasRoom, IsGroupOf, most_members}
use Rattle.law_image.proofs.Logs.{heads_of-append, last_time_after-append, archive_mark-append, reclaim_mark-append, floors-append, log-more, all-more}
use Rattle.law_image.proofs.Logs.{runs-more, last_of-later, told-is_last}
use Rattle.law_image.proofs.Forms.{in-slots, in-heap, room-in_slots}
use Rattle.law_image.proofs.FactsOf.{heads-commits_from, commits_from-append, AreStored-append}
use Rattle.law_image.proofs.Standing.{marked, rises, last-is, floor-range, archived-range, last-range, recent-rise, facts-rise, heads-rising}

later-heads : (mark t : ℕ) (heads : List Head) → mark ≤ t → AreRisingAfter t heads → filter (λ head. nat_lt mark head.time) heads ≡ heads
later-heads mark t [] le up = refl
later-heads mark t (head ∷ heads) le up =
    let late : nat_lt mark head.time ≡ true = is_lt (omega (arith, up.0)) in
    rw late (ap (λ l. head ∷ l) (later-heads mark head.time heads (omega (arith, up.0)) up.2))

pub length-map : {A B : Type 0} (f : A → B) (xs : List A) → length (map f xs) ≡ length xs
length-map f [] = refl
length-map f (x ∷ xs) = ap (λ (n : ℕ). suc n) (length-map f xs)

-- the kept versions after the writes that come, by those before them
pub versions-more : (floor mark bound : ℕ) (facts ws later : List (TimedWrite Value)) → floor ≤ bound → mark ≤ bound → bound < 2 ^ 63
    → IsRisingAfter 0 facts → IsRisingAfter 0 ws → IsRisingAfter bound later
    → filter (ends_after floor) (versions facts) ≡ filter (ends_after floor) (filter (ends_after mark) (versions ws))
    → filter (ends_after floor) (versions (facts ++ later)) ≡ filter (ends_after floor) (filter (ends_after mark) (versions (ws ++ later)))
versions-more floor mark bound facts ws later fb mb lt up up' up'' same =
    let n = first_time later in
    let by_floor : IsRisingAfter floor later = rising_earlier floor bound later fb up'' in
    let by_mark : IsRisingAfter mark later = rising_earlier mark bound later mb up'' in
    let next : floor < n = first_time-later floor later (omega arith) by_floor in
    let whole : filter (ends_after floor) (versions later) ≡ versions later = ends_after-append 0 floor [] later (omega arith) tt by_floor in
    ends_after-append 0 floor facts later (omega arith) up by_floor
    ∙ ap (λ l. map (ended n) l ++ versions later) same
    ∙ sym (
    ap (filter (ends_after floor)) (ends_after-append 0 mark ws later (omega arith) up' by_mark)
    ∙ filter-append (ends_after floor) (map (ended n) (filter (ends_after mark) (versions ws))) (versions later)
    ∙ ap (λ l. filter (ends_after floor) (map (ended n) (filter (ends_after mark) (versions ws))) ++ l) whole
    ∙ ap (λ l. l ++ versions later) (filter_ends_after-ended floor n (filter (ends_after mark) (versions ws)) next (omega arith))
    )

module _ (reading : Reading) (h : History Value) (floors : ℕ → ℕ) (stands : StandsFor reading h floors)
    (group : List Member) (next : History Value) (joins : IsGroupOf reading h next group) (room : HasRoom reading) where
  next-rise : HasRisingTimes (last h) next
  next-rise = rising-from_following IsValue h next joins.may

  heads-of_group : map (λ m. m.head) group ≡ map head_of next
  heads-of_group = sym (heads-commits_from (λ key. latest (heap_facts reading key)) group) ∙ ap (map head_of) joins.facts

  pub group-rise : AreRisingAfter (last_time reading.log) (map (λ m. m.head) group)
  group-rise =
      subst (λ t. AreRisingAfter t (map (λ m. m.head) group)) (sym (last-is reading h floors stands))
      (subst (AreRisingAfter (last h)) (sym heads-of_group) (heads-rising (last h) next next-rise))

  pub same_archived : archive_mark (reading.log ++ Commits (map (λ m. m.head) group) ∷ []) ≡ archive_mark reading.log
  same_archived = archive_mark-append 0 reading.log (Commits (map (λ m. m.head) group) ∷ [])

  same_reclaimed : reclaim_mark (reading.log ++ Commits (map (λ m. m.head) group) ∷ []) ≡ reclaim_mark reading.log
  same_reclaimed = reclaim_mark-append 0 reading.log (Commits (map (λ m. m.head) group) ∷ [])

  pub same_floors : (relation : ℕ) → floor_of (reading.log ++ Commits (map (λ m. m.head) group) ∷ []) relation ≡ floor_of reading.log relation
  same_floors relation = ap (λ (f : ℕ → ℕ). f relation) (floors-append (λ q. 0) reading.log (Commits (map (λ m. m.head) group) ∷ []))

  more_heads : heads_of (reading.log ++ Commits (map (λ m. m.head) group) ∷ []) ≡ heads_of reading.log ++ map (λ m. m.head) group
  more_heads = heads_of-append reading.log (Commits (map (λ m. m.head) group) ∷ []) ∙ ap (λ l. heads_of reading.log ++ l) (append-nil (map (λ m. m.head) group))

  -- the heap's commits, with those of the group
  more_commits : heap_commits (with_group reading group) ≡ heap_commits reading ++ next
  more_commits =
      let start : Key → Option Value = λ key. latest (old_writes reading.anchors key) in
      commits_from-append (reclaimed_upto reading) start reading.members group (recent-rise reading h floors stands)
      ∙ ap (λ (f : Key → Option Value). heap_commits reading ++ commits_from f group)
      (fun_ext (λ key. sym (value_after-append None (old_writes reading.anchors key) (writes_of (heap_commits reading) key) (2 ^ 63))))
      ∙ ap (λ l. heap_commits reading ++ l) joins.facts

  pub more_facts : (key : Key) → heap_facts (with_group reading group) key ≡ heap_facts reading key ++ writes_of next key
  more_facts key =
      ap (λ l. old_writes reading.anchors key ++ l) (ap (λ c. writes_of c key) more_commits ∙ writes_of-append (heap_commits reading) next key)
      ∙ sym (append_assoc (old_writes reading.anchors key) (writes_of (heap_commits reading) key) (writes_of next key))

  pub reclaimed-range : reclaimed_upto reading ≤ last h
  reclaimed-range = omega (arith, stands.homes.marks, archived-range reading h floors stands)

  pub later : (key : Key) → IsRisingAfter (last h) (writes_of next key)
  later key = writes_of-rising (last h) next key next-rise

  -- the log with the group's slot, or with its chain in the heap
  group-in_slots : is_in_heap reading.profile ≡ false → IsSlotLog (with_group reading group)
  group-in_slots slots =
      let is = in-slots reading slots stands.opens.reads.form in
      let sixteen : most_members reading.profile ≡ 16 = ap (λ (b : Bool). cond b 1024 16) slots in
      record {
        header = is.header;
        log = log-more reading.profile [] reading.log (Commits (map (λ m. m.head) group)) is.log (
          omega (arith, joins.some, length-map (λ (m : Member). m.head) group),
          omega (arith, joins.few, sixteen, length-map (λ (m : Member). m.head) group),
          group-rise,
        );
        fits = omega (arith, length-append reading.log (Commits (map (λ m. m.head) group) ∷ []), room-in_slots reading slots room);
        runs = subst (AreRunsOf [] (reading.log ++ Commits (map (λ m. m.head) group) ∷ [])) (append-nil reading.runs)
            (runs-more floor_of [] reading.log (Commits (map (λ m. m.head) group) ∷ []) reading.runs [] is.runs tt);
      }

  group-in_heap : is_in_heap reading.profile ≡ true → IsHeapLog (with_group reading group)
  group-in_heap in_heap =
      let is = in-heap reading in_heap stands.opens.reads.form in
      let same : told_time reading.log ≡ last_time reading.log = told-is_last (last_time reading.log) (reclaim_mark reading.log) (is.log).published in
      let some : 0 < length (map (λ (m : Member). m.head) group) = omega (arith, joins.some, length-map (λ (m : Member). m.head) group) in
      let later =
      last_of-later (last_time reading.log) (last_time reading.log) (map (λ m. m.head) group) (omega arith) (marked reading h floors stands).last some
      group-rise in
      let at : last_time (with_group reading group).log ≡ last_time_after (last_time reading.log) (map (λ m. m.head) group) =
      ap (last_time_after 0) more_heads ∙ last_time_after-append 0 (heads_of reading.log) (map (λ m. m.head) group) in
      record {
        header = is.header;
        log = record {
          each = all-more MayComeInHeap [] reading.log (Commits (map (λ m. m.head) group)) (is.log).each
              (some, subst (λ (t : ℕ). AreRisingAfter t (map (λ m. m.head) group)) (sym same) group-rise);
          archived = omega (arith, same_archived, same_reclaimed, (is.log).archived);
          published = omega (arith, same_reclaimed, at, later.0, (is.log).published);
        };
        runs = subst (AreRunsBy no_floors [] (reading.log ++ Commits (map (λ m. m.head) group) ∷ [])) (append-nil reading.runs)
            (runs-more no_floors [] reading.log (Commits (map (λ m. m.head) group) ∷ []) reading.runs [] is.runs tt);
      }

  group-form : (b : Bool) → is_in_heap reading.profile ≡ b → MatchBool b (IsHeapLog (with_group reading group)) (IsSlotLog (with_group reading group))
  group-form b =
      elim b as (λ b. is_in_heap reading.profile ≡ b
      → MatchBool b (IsHeapLog (with_group reading group)) (IsSlotLog (with_group reading group))) [ true ↦ group-in_heap | false ↦ group-in_slots ]

  group-reads : Reads (with_group reading group)
  group-reads = record {
    form = group-form (is_in_heap reading.profile) refl;
    members =
        map-append (λ (m : Member). m.head) reading.members group
        ∙ ap (λ l. l ++ map (λ m. m.head) group) stands.opens.reads.members
        ∙ ap (λ l. filter (λ head. nat_lt (reclaim_mark reading.log) head.time) (heads_of reading.log) ++ l)
        (sym (later-heads (reclaim_mark reading.log) (last_time reading.log) (map (λ m. m.head) group) (omega (
          arith,
          reclaimed-range,
          last-is reading h floors stands,
        )) group-rise))
        ∙ sym (filter-append (λ (head : Head). nat_lt (reclaim_mark reading.log) head.time) (heads_of reading.log) (map (λ m. m.head) group))
        ∙ ap (λ l. filter (λ head. nat_lt (reclaim_mark reading.log) head.time) l) (sym more_heads)
        ∙ ap (λ (r : ℕ). filter (λ head. nat_lt r head.time) (heads_of (reading.log ++ Commits (map (λ m. m.head) group) ∷ []))) (sym same_reclaimed);
    chains = AllByRecursion-append IsChain reading.members group stands.opens.reads.chains joins.chains;
    stored = AreStored-append (reclaimed_upto reading) (λ key. latest (old_writes reading.anchors key)) reading.members group
        (recent-rise reading h floors stands) stands.opens.reads.stored
        (subst (λ (f : Key → Option Value). AreStored f group)
        (fun_ext (λ key. value_after-append None (old_writes reading.anchors key) (writes_of (heap_commits reading) key) (2 ^ 63))) joins.stored);
    anchors = stands.opens.reads.anchors;
    anchor_times = subst (λ r. AllByRecursion (IsAnchorUpto r) reading.anchors) (sym same_reclaimed) stands.opens.reads.anchor_times;
  }

  pub group-stands_for : StandsFor (with_group reading group) (h ++ next) floors
  group-stands_for =
      let bound = last-range reading h floors stands in
      record {
        opens = record {
          reads = group-reads;
          floors_given = λ relation. same_floors relation ∙ stands.opens.floors_given relation;
          history = may_follow-append IsValue [] h next stands.opens.history joins.may;
          commits =
              more_heads ∙ ap (λ l. l ++ map (λ m. m.head) group) stands.opens.commits ∙ ap (λ l. map head_of h ++ l) heads-of_group
              ∙ sym (map-append head_of h next);
          write_sets =
              more_commits
              ∙ ap (λ l. l ++ next) stands.opens.write_sets
              ∙ ap (λ l. commits_after (reclaimed_upto reading) h
              ++ l) (sym (commits_after-all (reclaimed_upto reading) (last h) next reclaimed-range next-rise))
              ∙ sym (filter-append (λ (c : Commit Value). nat_lt (reclaimed_upto reading) c.time) h next)
              ∙ ap (λ (r : ℕ). commits_after r (h ++ next)) (sym same_reclaimed);
        };
        homes = record {
          marks = omega (arith, same_archived, same_reclaimed, stands.homes.marks);
          in_heap = λ key.
              let f = floors key.relation in
              ap (λ l. filter (ends_after f) (versions l)) (more_facts key)
              ∙ versions-more f (reclaimed_upto reading) (last h) (heap_facts reading key) (writes_of h key) (writes_of next key)
              (floor-range reading h floors stands key.relation) reclaimed-range bound
              (facts-rise reading h floors stands key) (writes_of-rising 0 h key (rises reading h floors stands)) (later key) (stands.homes.in_heap key)
              ∙ ap (λ l. filter (ends_after f) (filter (ends_after (reclaimed_upto reading)) (versions l))) (sym (writes_of-append h next key))
              ∙ ap (λ (r : ℕ). filter (ends_after f) (filter (ends_after r) (versions_of (h ++ next) key))) (sym same_reclaimed);
          in_archive = λ key.
              let f = floors key.relation in
              let a = archived_upto reading in
              let range = archived-range reading h floors stands in
              stands.homes.in_archive key
              ∙ ap (filter (ends_after f))
              (sym (ends_by-append 0 a (writes_of h key) (writes_of next key) (omega arith) (writes_of-rising 0 h key (rises reading h floors stands))
              (rising_earlier a (last h) (writes_of next key) range (later key))))
              ∙ ap (λ l. filter (ends_after f) (filter (ends_by a) (versions l))) (sym (writes_of-append h next key))
              ∙ ap (λ (m : ℕ). filter (ends_after f) (filter (ends_by m) (versions_of (h ++ next) key))) (sym same_archived);
        };
      }

-- Where the image reads, the clauses of sets give those of lists.
use Rattle.std.proofs.Common.{◌≡◌, ℕ, ◌<◌, ◌≤◌, nat_le, nat_lt, true, [], sym, subst, arith, inl, inr}
use Rattle.std.specs.Prelude.{filter}
use Rattle.std.proofs.lemmas.Bool.Decides.{nat_tests}
use Rattle.history.specs.declared.key.Key.{Key}
use Rattle.history.specs.declared.time.Version.{Version}
use Rattle.history.specs.Time.{IsRisingAfter}
use Rattle.history.specs.Versions.{ends_after, ends_by, first_time}
use Rattle.history.specs.Histories.{History, writes_of, versions_of, HasRisingTimes}
use Rattle.history.proofs.Orders.{is_lt, is_le}
use Rattle.history.proofs.Values.{versions-apart}
use Rattle.history.proofs.Histories.{writes_of-rising, rising-from_following}
use Rattle.history.proofs.Members.{Contains-filter, filter-Contains, IsRisingBy, same_rising}
use Rattle.law_image.specs.Values.{Value, IsValue}
use Rattle.law_image.specs.Reading.{Reading}
use Rattle.law_image.specs.Log.{floor_of}
use Rattle.law_image.specs.Facts.{heap_commits, heap_facts, heap_versions, archived_versions}
use Rattle.law_image.specs.StandsFor.{OpensAs, KeepsAsSets, archived_upto, reclaimed_upto}
use Rattle.law_image.proofs.Logs.{AreMarked}
use Rattle.law_image.proofs.Forms.{marked-form}
use Rattle.law_image.proofs.FactsOf.{old_writes-rising}
use Rattle.law_image.proofs.Standing.{rising-commits_after}
use Rattle.law_image.proofs.RunsRise.{rising-by_filter, apart-rising, runs-rising}

after_of : (t n : ℕ) → nat_lt t n ≡ true → t < n
after_of t n h = grind (arith, nat_tests)

by_of : (t n : ℕ) → nat_le n t ≡ true → n ≤ t
by_of t n h = grind (arith, nat_tests)

module _ (reading : Reading) (h : History Value) (floors : ℕ → ℕ) (opens : OpensAs reading h floors) (keeps : KeepsAsSets reading h floors) (key : Key) where
  marked : AreMarked reading.log
  marked = marked-form reading opens.reads.form

  facts-up : IsRisingAfter 0 (heap_facts reading key)
  facts-up =
      let up : HasRisingTimes (reclaimed_upto reading) (heap_commits reading) =
      subst (HasRisingTimes (reclaimed_upto reading)) (sym opens.write_sets)
      (rising-commits_after 0 (reclaimed_upto reading) h (rising-from_following IsValue [] h opens.history)) in
      old_writes-rising (reclaimed_upto reading) reading.anchors key (writes_of (heap_commits reading) key) (omega (
        arith,
        (marked).reclaimed,
        (marked).archived,
        (marked).last,
      )) opens.reads.anchors opens.reads.anchor_times
      (writes_of-rising (reclaimed_upto reading) (heap_commits reading) key up)

  heap-rises : IsRisingBy (λ v. v.to) (first_time (heap_facts reading key)) (heap_versions reading key)
  heap-rises = apart-rising (first_time (heap_facts reading key)) (heap_versions reading key) (versions-apart 0 (heap_facts reading key) facts-up)

  history-rises : IsRisingBy (λ v. v.to) (first_time (writes_of h key)) (versions_of h key)
  history-rises =
      apart-rising (first_time (writes_of h key)) (versions_of h key)
      (versions-apart 0 (writes_of h key) (writes_of-rising 0 h key (rising-from_following IsValue [] h opens.history)))

  floor-same : (v : Version Value) → floors key.relation < v.to → floor_of reading.log key.relation < v.to
  floor-same v lt = omega (arith, opens.floors_given key.relation, lt)

  pub heap-from_sets : filter (ends_after (floors key.relation)) (heap_versions reading key)
      ≡ filter (ends_after (floors key.relation)) (filter (ends_after (reclaimed_upto reading)) (versions_of h key))
  heap-from_sets =
      let f = floors key.relation in
      let r = reclaimed_upto reading in
      let hv = heap_versions reading key in
      let vs = versions_of h key in
      same_rising (λ (v : Version Value). v.to) _ _ (filter (ends_after f) hv) (filter (ends_after f) (filter (ends_after r) vs))
      (rising-by_filter (λ (v : Version Value). v.to) (ends_after f) (first_time (heap_facts reading key)) hv heap-rises)
      (rising-by_filter (λ (v : Version Value). v.to) (ends_after f) (first_time (writes_of h key)) (filter (ends_after r) vs)
      (rising-by_filter (λ (v : Version Value). v.to) (ends_after r) (first_time (writes_of h key)) vs history-rises))
      (λ v has.
      let found = filter-Contains (ends_after f) hv v has in
      let after : f < v.to = after_of f v.to found.1 in
      let is = (keeps.kept key v).0 (inl found.0, floor-same v after) in
      let past : r < v.to = (keeps.heap key v is.0 after).0 found.0 in
      Contains-filter (ends_after f) (filter (ends_after r) vs) v (Contains-filter (ends_after r) vs v is.0 (is_lt past)) found.1)
      (λ v has.
      let outer = filter-Contains (ends_after f) (filter (ends_after r) vs) v has in
      let inner = filter-Contains (ends_after r) vs v outer.0 in
      let after : f < v.to = after_of f v.to outer.1 in
      let past : r < v.to = after_of r v.to inner.1 in
      Contains-filter (ends_after f) hv v ((keeps.heap key v inner.0 after).1 past) outer.1)

  pub archive-from_sets : filter (ends_after (floors key.relation)) (archived_versions reading key)
      ≡ filter (ends_after (floors key.relation)) (filter (ends_by (archived_upto reading)) (versions_of h key))
  archive-from_sets =
      let f = floors key.relation in
      let a = archived_upto reading in
      let av = archived_versions reading key in
      let vs = versions_of h key in
      same_rising (λ (v : Version Value). v.to) _ _ (filter (ends_after f) av) (filter (ends_after f) (filter (ends_by a) vs))
      (rising-by_filter (λ (v : Version Value). v.to) (ends_after f) 0 av (runs-rising reading key opens.reads.form))
      (rising-by_filter (λ (v : Version Value). v.to) (ends_after f) (first_time (writes_of h key)) (filter (ends_by a) vs)
      (rising-by_filter (λ (v : Version Value). v.to) (ends_by a) (first_time (writes_of h key)) vs history-rises))
      (λ v has.
      let found = filter-Contains (ends_after f) av v has in
      let after : f < v.to = after_of f v.to found.1 in
      let is = (keeps.kept key v).0 (inr found.0, floor-same v after) in
      let past : v.to ≤ a = (keeps.archive key v is.0 after).0 found.0 in
      Contains-filter (ends_after f) (filter (ends_by a) vs) v (Contains-filter (ends_by a) vs v is.0 (is_le past)) found.1)
      (λ v has.
      let outer = filter-Contains (ends_after f) (filter (ends_by a) vs) v has in
      let inner = filter-Contains (ends_by a) vs v outer.0 in
      let after : f < v.to = after_of f v.to outer.1 in
      let past : v.to ≤ a = by_of a v.to inner.1 in
      Contains-filter (ends_after f) av v ((keeps.archive key v inner.0 after).1 past) outer.1)

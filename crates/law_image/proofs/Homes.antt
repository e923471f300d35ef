-- The clauses on homes, of sets: what an image keeps is the versions of the history that end after the floor, and where each of them is.
use Rattle.std.proofs.Common.{◌≡◌, ℕ, ◌<◌, ◌≤◌, nat_le, nat_lt, ◌↔◌, true, sym, subst, arith, inl, inr, ⊎_elim}
use Rattle.std.specs.Prelude.{Contains, filter}
use Rattle.std.proofs.lemmas.Bool.{cases_lt}
use Rattle.std.proofs.lemmas.Bool.Decides.{nat_tests}
use Rattle.history.specs.declared.key.Key.{Key}
use Rattle.history.specs.declared.time.Version.{Version}
use Rattle.history.specs.Versions.{ends_after, ends_by}
use Rattle.history.specs.Histories.{History, versions_of, IsVersion}
use Rattle.history.proofs.Orders.{is_lt, is_le}
use Rattle.history.proofs.Members.{Contains-filter, filter-Contains}
use Rattle.law_image.specs.Values.{Value}
use Rattle.law_image.specs.Reading.{Reading}
use Rattle.law_image.specs.Log.{floor_of}
use Rattle.law_image.specs.Facts.{heap_versions, archived_versions}
use Rattle.law_image.specs.StandsFor.{StandsFor, IsKept, archived_upto, reclaimed_upto}

after_of : (t n : ℕ) → nat_lt t n ≡ true → t < n
after_of t n h = grind (arith, nat_tests)

by_of : (t n : ℕ) → nat_le n t ≡ true → n ≤ t
by_of t n h = grind (arith, nat_tests)

module _ (reading : Reading) (h : History Value) (floors : ℕ → ℕ) (stands : StandsFor reading h floors) (key : Key) (v : Version Value) where
  -- in the heap exactly the versions that end after R
  pub heap-is : Contains (heap_versions reading key) v × (floors key.relation < v.to) ↔ IsVersion h key v × (floors key.relation < v.to)
      × (reclaimed_upto reading < v.to)
  heap-is = (
    λ has.
        let kept =
        subst (λ l. Contains l v) (stands.homes.in_heap key)
        (Contains-filter (ends_after (floors key.relation)) (heap_versions reading key) v has.0 (is_lt has.1)) in
        let outer = filter-Contains (ends_after (floors key.relation)) (filter (ends_after (reclaimed_upto reading)) (versions_of h key)) v kept in
        let inner = filter-Contains (ends_after (reclaimed_upto reading)) (versions_of h key) v outer.0 in
        (inner.0, has.1, after_of (reclaimed_upto reading) v.to inner.1),
    λ is.
        let kept = subst (λ l. Contains l v) (sym (stands.homes.in_heap key))
        (Contains-filter (ends_after (floors key.relation)) (filter (ends_after (reclaimed_upto reading)) (versions_of h key)) v
        (Contains-filter (ends_after (reclaimed_upto reading)) (versions_of h key) v is.0 (is_lt is.2)) (is_lt is.1)) in
        ((filter-Contains (ends_after (floors key.relation)) (heap_versions reading key) v kept).0, is.1),
  )

  -- in the archive exactly those that end by A
  pub archive-is : Contains (archived_versions reading key) v × (floors key.relation < v.to) ↔ IsVersion h key v × (floors key.relation < v.to)
      × (v.to ≤ archived_upto reading)
  archive-is = (
    λ has.
        let kept =
        subst (λ l. Contains l v) (stands.homes.in_archive key)
        (Contains-filter (ends_after (floors key.relation)) (archived_versions reading key) v has.0 (is_lt has.1)) in
        let outer = filter-Contains (ends_after (floors key.relation)) (filter (ends_by (archived_upto reading)) (versions_of h key)) v kept in
        let inner = filter-Contains (ends_by (archived_upto reading)) (versions_of h key) v outer.0 in
        (inner.0, has.1, by_of (archived_upto reading) v.to inner.1),
    λ is.
        let kept = subst (λ l. Contains l v) (sym (stands.homes.in_archive key))
        (Contains-filter (ends_after (floors key.relation)) (filter (ends_by (archived_upto reading)) (versions_of h key)) v
        (Contains-filter (ends_by (archived_upto reading)) (versions_of h key) v is.0 (is_le is.2)) (is_lt is.1)) in
        ((filter-Contains (ends_after (floors key.relation)) (archived_versions reading key) v kept).0, is.1),
  )

  -- what is kept are the versions that end after the floor
  pub kept-is_set : IsKept reading key v ↔ IsVersion h key v × (floors key.relation < v.to)
  kept-is_set =
      let same = stands.opens.floors_given key.relation in (
        λ kept.
            let after : floors key.relation < v.to = omega (arith, kept.1, same) in
            ⊎_elim
            (λ (heap : Contains (heap_versions reading key) v). let is = heap-is.0 (heap, after) in (is.0, after))
            (λ (archived : Contains (archived_versions reading key) v). let is = archive-is.0 (archived, after) in (is.0, after))
            kept.0,
        λ is.
            let after : floor_of reading.log key.relation < v.to = omega (arith, is.1, same) in
            ⊎_elim
            (λ (later : archived_upto reading < v.to). let reclaimed : reclaimed_upto reading < v.to = omega (arith, stands.homes.marks) in let has =
            heap-is.1 (is.0, is.1, reclaimed) in (inl has.0, after))
            (λ (early : v.to ≤ archived_upto reading). let has = archive-is.1 (is.0, is.1, early) in (inr has.0, after))
            (cases_lt (archived_upto reading) v.to),
      )

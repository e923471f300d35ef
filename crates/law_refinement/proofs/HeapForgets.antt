-- What a reclaim leaves of the heap's facts: what says something of times from the archive mark on.
use Rattle.std.proofs.Common.{◌≡◌, ℕ, ◌<◌, ◌^◌, nat_lt, Bool, true, false, cond, List, [], ◌∷◌, ◌++◌, map, Some, None, refl, arith, ap, sym, ◌∙◌}
use Rattle.std.specs.Prelude.{filter}
use Rattle.std.specs.List.{AllByRecursion, cons_option}
use Rattle.std.specs.List.Sorted.{IsStrictlySortedBy}
use Rattle.std.specs.declared.cmp.Ordering.TheVariants.{Less}
use Rattle.std.proofs.lemmas.Bool.Decides.{nat_tests}
use Rattle.std.proofs.lemmas.List.Elements.{filter-append}
use Rattle.history.specs.declared.key.Key.{Key}
use Rattle.history.specs.declared.time.TimedWrite.{TimedWrite}
use Rattle.history.specs.Key.{key_cmp, same_key}
use Rattle.history.specs.Time.{IsRisingAfter, value_after, writes_after}
use Rattle.history.specs.Versions.{stands_at, as_write}
use Rattle.history.specs.Histories.{History, writes_of, commits_after}
use Rattle.history.proofs.Values.{versions-apart, standing_at-versions, value_after-append}
use Rattle.history.proofs.Histories.{writes_of-rising, writes_of-commits_after}
use Rattle.law_image.specs.Values.{Value}
use Rattle.law_image.specs.Reading.{OldRecord, Reading}
use Rattle.law_image.specs.Facts.{old_writes, latest, heap_commits, heap_facts, heap_versions}
use Rattle.law_image.specs.StandsFor.{StandsFor, archived_upto, reclaimed_upto}
use Rattle.law_image.specs.Plans.{IsReclaimPlan, with_anchors}
use Rattle.law_image.proofs.FactsOf.{commits_from-after, old_writes-past, old_writes-latest, latest-standing}
use Rattle.law_image.proofs.Standing.{archived-range, last-range, recent-rise, facts-rise}
use Rattle.chains.specs.Writes.{kept_after}
use Rattle.law_refinement.proofs.KeptWrites.{kept-later, kept-value, kept-standing}

-- ---- the anchors

-- a later key is another one
other_key : (a b key : Key) → key_cmp a b ≡ Less → same_key a key ≡ true → same_key b key ≡ false
other_key a b key less same = grind (arith, nat_tests)

-- a key has no anchor beyond one of its own
none-beyond : (old : OldRecord) (olds : List OldRecord) (key : Key) → same_key old.key key ≡ true
    → AllByRecursion (λ k. key_cmp old.key k ≡ Less) (map (λ o. o.key) olds) → old_writes olds key ≡ []
none-beyond old [] key same beyond = refl
none-beyond old (o ∷ olds) key same beyond =
    let other : same_key o.key key ≡ false = other_key old.key o.key key beyond.0 same in
    rw other (none-beyond old olds key same beyond.1)

-- a key has one anchor at most, a value of a time up to the mark, which is kept with all that is later
old-kept : (mark : ℕ) (olds : List OldRecord) (key : Key) (later : List (TimedWrite Value)) → IsStrictlySortedBy key_cmp (map (λ old. old.key) olds)
    → IsRisingAfter mark later
    → kept_after mark (old_writes olds key ++ later) ≡ old_writes olds key ++ later
unfolding IsStrictlySortedBy
old-kept mark [] key later sorted up = kept-later mark later up
old-kept mark (o ∷ olds) key later sorted up =
    let rest = old-kept mark olds key later sorted.1 up in
    let Goal : Bool → Type 0 =
    λ b. same_key o.key key ≡ b
    → kept_after mark (cons_option (cond b (Some (record { time = o.from; write = Some o.value })) None) (old_writes olds key) ++ later)
    ≡ cons_option (cond b (Some (record { time = o.from; write = Some o.value })) None) (old_writes olds key) ++ later in
    let all : (b : Bool) → Goal b =
    λ b. elim b as Goal [
      | true ↦ λ e. rw (none-beyond o olds key e sorted.0) (kept-value mark o.from o.value later up)
      | false ↦ λ e. rest
    ] in
    all (same_key o.key key) refl

-- ---- the heap

module _ (reading : Reading) (h : History Value) (floors : ℕ → ℕ) (stands : StandsFor reading h floors) where
  -- it has forgotten what ended by the reclaim mark
  pub heap-forgot : (key : Key) → kept_after (reclaimed_upto reading) (heap_facts reading key) ≡ heap_facts reading key
  heap-forgot key =
      old-kept (reclaimed_upto reading) reading.anchors key (writes_of (heap_commits reading) key) stands.opens.reads.anchors
      (writes_of-rising (reclaimed_upto reading) (heap_commits reading) key (recent-rise reading h floors stands))

  module _ (olds : List OldRecord) (plan : IsReclaimPlan reading olds) where
    mark-range : archived_upto reading < 2 ^ 63
    mark-range = omega (arith, archived-range reading h floors stands, last-range reading h floors stands)

    -- the value of each key at the archive mark is what the plan's records give
    planned-value : (key : Key) → latest (old_writes olds key)
        ≡ value_after (latest (old_writes reading.anchors key)) (writes_of (heap_commits reading) key) (archived_upto reading)
    planned-value key =
        let a = archived_upto reading in
        let facts = heap_facts reading key in
        ap latest (plan.each key)
        ∙ latest-standing _ a (heap_versions reading key) mark-range (versions-apart 0 facts (facts-rise reading h floors stands key))
        ∙ standing_at-versions 0 a facts mark-range (facts-rise reading h floors stands key)
        ∙ value_after-append None (old_writes reading.anchors key) (writes_of (heap_commits reading) key) a
        ∙ ap (λ v. value_after v (writes_of (heap_commits reading) key) a)
        (old_writes-latest (reclaimed_upto reading) a reading.anchors key None stands.homes.marks (omega (
          arith,
          stands.homes.marks,
          mark-range,
        )) stands.opens.reads.anchor_times)

    -- the members that stay are the same commits
    later-commits : heap_commits (with_anchors reading olds) ≡ commits_after (archived_upto reading) (heap_commits reading)
    later-commits =
        commits_from-after (reclaimed_upto reading) (archived_upto reading) (λ key. latest (old_writes reading.anchors key))
        (λ key. latest (old_writes olds key)) reading.members
        (recent-rise reading h floors stands) planned-value

    -- with the chain of anchors, it forgets what ended by the archive mark
    pub heap-forgets : (key : Key) → heap_facts (with_anchors reading olds) key ≡ kept_after (archived_upto reading) (heap_facts reading key)
    heap-forgets key =
        let a = archived_upto reading in
        ap (λ l. l ++ writes_of (heap_commits (with_anchors reading olds)) key) (plan.each key)
        ∙ ap (λ l. map as_write (filter (stands_at a) (heap_versions reading key)) ++ l) (
        ap (λ c. writes_of c key) later-commits
        ∙ writes_of-commits_after a (heap_commits reading) key
        ∙ ap (λ l. l ++ writes_after a (writes_of (heap_commits reading) key))
        (sym (old_writes-past (reclaimed_upto reading) a reading.anchors key stands.homes.marks stands.opens.reads.anchor_times))
        ∙ sym (filter-append (λ (w : TimedWrite Value). nat_lt a w.time) (old_writes reading.anchors key) (writes_of (heap_commits reading) key)))
        ∙ kept-standing a (heap_facts reading key) mark-range (facts-rise reading h floors stands key)

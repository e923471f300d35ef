-- The anchors that a walk over the versions in memory gives.
use Rattle.std.proofs.Common.{◌≡◌, ℕ, ◌^◌, ◌<◌, cond, List, [], ◌∷◌, map, Some, None, ap, sym, subst, ◌∙◌, arith}
use Rattle.std.specs.Prelude.{filter}
use Rattle.std.specs.List.{AllByRecursion}
use Rattle.std.specs.List.Sorted.{IsStrictlySortedBy}
use Rattle.std.proofs.lemmas.List.{map-append}
use Rattle.history.specs.declared.key.Key.{Key}
use Rattle.history.specs.declared.time.Version.{Version}
use Rattle.history.specs.Key.{key_cmp}
use Rattle.history.specs.Versions.{versions, stands_at, as_write, first_time, FollowOneAnotherFrom}
use Rattle.history.specs.Histories.{History}
use Rattle.history.specs.Histories as histories
use Rattle.history.proofs.Histories.{writes_of-rising}
use Rattle.history.proofs.Filters.{AllByRecursion-append}
use Rattle.history.proofs.Values.{versions-apart, apart-earlier, first_time-later}
use Rattle.chains.specs.Writes.{Value}
use Rattle.chains.specs.KeyWrites.{KeyWrites, writes_of}
use Rattle.chains.proofs.Rising.{rising-writes_of}
use Rattle.law_image.specs.Reading.{OldRecord, Reading}
use Rattle.law_image.specs.Values as image
use Rattle.law_image.specs.Facts.{heap_commits, heap_facts, heap_versions, old_write, old_writes}
use Rattle.law_image.specs.StandsFor.{IsAnchorUpto, StandsFor, archived_upto, reclaimed_upto}
use Rattle.law_image.specs.Plans.{IsReclaimPlan}
use Rattle.law_image.specs.PlansMade.{old_record, old_records}
use Rattle.law_image.proofs.PlansMade.{each-key, one-anchor, keep-sorted, keys-above}
use Rattle.law_layout.proofs.Lists.{all_of_front}
use Rattle.law_layout.specs.Records.{IsOldRecord}
use Rattle.law_refinement.proofs.Ranges.{anchors-in-range, facts-in-range}
use Rattle.law_log_sizes.proofs.Orders.{standing-ordered}
use Rattle.law_log_sizes.proofs.Sizes as sizes
use Rattle.law_log_sizes.proofs.Standing.{standing-later}
use Rattle.vacuum.specs.Archives.{AreInMemory}
use Rattle.vacuum.specs.Anchors.{anchors_of}
use Rattle.law_log_store.proofs.Walked.{by-key, keys_of, no-writes, sorted-keys}

module _ (m : List KeyWrites) (versions_are : AreInMemory m) (mark : ℕ) where
  abbrev kept : Key → List (Version Value)
  kept key = filter (stands_at mark) (versions (writes_of m key))

  apart : (key : Key) → FollowOneAnotherFrom 1 (versions (writes_of m key))
  apart key =
      let rising = rising-writes_of m key versions_are.rising in
      let first = first_time-later 0 (writes_of m key) (omega arith) rising in
      apart-earlier 1 (first_time (writes_of m key)) (versions (writes_of m key)) (omega (arith, first)) (versions-apart 0 (writes_of m key) rising)

  anchors-are : anchors_of mark m ≡ old_records kept (keys_of m)
  anchors-are = by-key (λ key ws. map (old_record key) (filter (stands_at mark) (versions ws))) m versions_are.ordered

  kept-sorted : (ks : List Key) → IsStrictlySortedBy key_cmp ks → IsStrictlySortedBy key_cmp (map (λ old. old.key) (old_records kept ks))
  unfolding IsStrictlySortedBy
  kept-sorted [] sorted = tt
  kept-sorted (k ∷ ks) sorted =
      subst (IsStrictlySortedBy key_cmp) (sym (map-append (λ (old : OldRecord). old.key) (map (old_record k) (kept k)) (old_records kept ks)))
      (keep-sorted k mark 1 (versions (writes_of m k)) (map (λ (old : OldRecord). old.key) (old_records kept ks)) (apart k) (kept-sorted ks sorted.1)
      (keys-above kept k ks sorted.0))

  all-anchors : (ks : List Key) → AllByRecursion (IsAnchorUpto mark) (old_records kept ks)
  all-anchors [] = tt
  all-anchors (k ∷ ks) =
      AllByRecursion-append (IsAnchorUpto mark) (map (old_record k) (kept k)) (old_records kept ks)
      (one-anchor k mark 1 (versions (writes_of m k)) (omega arith) (apart k)) (all-anchors ks)

  -- where memory has the versions of the heap that stand at the mark, they are the plan of a reclaim
  pub anchored-plan : (reading : Reading) → archived_upto reading ≡ mark
      → ((key : Key) → filter (stands_at mark) (versions (writes_of m key)) ≡ filter (stands_at mark) (heap_versions reading key))
      → IsReclaimPlan reading (anchors_of mark m)
  anchored-plan reading mark_is same =
      let sorted = sorted-keys m versions_are.ordered in
      subst (IsReclaimPlan reading) (sym anchors-are) (record {
        each = λ key.
            each-key old_record old_write as_write
            (λ k key v same. ap (λ b. cond b (Some (as_write v)) None) same) (λ k key v other. ap (λ b. cond b (Some (as_write v)) None) other)
            kept key (keys_of m) sorted
            (λ others. ap (λ ws. filter (stands_at mark) (versions ws)) (no-writes key m others))
            ∙ ap (map as_write) (same key)
            ∙ sym (ap (λ (n : ℕ). map as_write (filter (stands_at n) (heap_versions reading key))) mark_is);
        rising = kept-sorted (keys_of m) sorted;
        in_range = subst (λ (n : ℕ). AllByRecursion (IsAnchorUpto n) (old_records kept (keys_of m))) (sym mark_is) (all-anchors (keys_of m));
      })

  -- and each of them is in range
  pub anchored-range : (reading : Reading) (h : History image.Value) (floors : ℕ → ℕ) → StandsFor reading h floors
      → AllByRecursion IsOldRecord reading.anchors → mark < 2 ^ 63
      → ((key : Key) → filter (stands_at mark) (versions (writes_of m key)) ≡ filter (stands_at mark) (heap_versions reading key))
      → AllByRecursion IsOldRecord (anchors_of mark m)
  anchored-range reading h floors stands each low same = subst (AllByRecursion IsOldRecord) (sym anchors-are) (go (keys_of m))
    where
      one : (key : Key) → AllByRecursion IsOldRecord (map (old_record key) (filter (stands_at mark) (heap_versions reading key)))
      one key =
          all_of_front IsOldRecord (map (old_record key) (filter (stands_at mark) (heap_versions reading key))) []
          (anchors-in-range mark (record { key = key; writes = heap_facts reading key } ∷ []) low (facts-in-range reading h floors key stands each, tt))

      go : (ks : List Key) → AllByRecursion IsOldRecord (old_records kept ks)
      go [] = tt
      go (k ∷ ks) =
          AllByRecursion-append IsOldRecord (map (old_record k) (kept k)) (old_records kept ks)
          (subst (λ (vs : List (Version Value)). AllByRecursion IsOldRecord (map (old_record k) vs)) (sym (same k)) (one k)) (go ks)

-- ---- the anchors that stand

-- where nothing was archived since the last reclaim they are the plan of another
pub own-plan : (reading : Reading) (h : History image.Value) (floors : ℕ → ℕ) → StandsFor reading h floors
    → archived_upto reading ≡ reclaimed_upto reading → IsReclaimPlan reading reading.anchors
own-plan reading h floors is same =
    let mark = reclaimed_upto reading in
    let ordered = standing-ordered reading h floors is in
    record {
      each = λ key.
          sym (ap (λ (n : ℕ). map as_write (filter (stands_at n) (heap_versions reading key))) same
          ∙ sizes.stands mark reading ordered mark key (omega arith) ordered.range
          ∙ standing-later mark (old_writes reading.anchors key) (histories.writes_of (heap_commits reading) key)
          (writes_of-rising mark (heap_commits reading) key (sizes.rises mark reading ordered)));
      rising = is.opens.reads.anchors;
      in_range = subst (λ (n : ℕ). AllByRecursion (IsAnchorUpto n) reading.anchors) (sym same) is.opens.reads.anchor_times;
    }

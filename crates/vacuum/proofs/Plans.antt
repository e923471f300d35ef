-- What a walk goes over is the plan.
use Rattle.std.proofs.Common.{◌≡◌, ℕ, ◌≤◌, max, true, false, cond, List, [], ◌∷◌, ◌++◌, map, Some, None, refl, ap, sym, subst, ◌∙◌, arith}
use Rattle.std.specs.Prelude.{filter}
use Rattle.std.specs.List.{AllByRecursion, flat_map}
use Rattle.std.specs.List.Sorted.{IsStrictlySortedBy}
use Rattle.std.specs.declared.cmp.Ordering.TheVariants.{Less}
use Rattle.std.proofs.lemmas.List.{map-append}
use Rattle.std.proofs.lemmas.Bool.Decides.{nat_tests}
use Rattle.history.specs.declared.key.Key.{Key}
use Rattle.history.specs.declared.time.Version.{Version}
use Rattle.history.specs.Key.{key_cmp, key_lt, same_key}
use Rattle.history.specs.Versions.{versions, ends_after, ends_by, stands_at, as_write, first_time, FollowOneAnotherFrom}
use Rattle.history.proofs.Filters.{AllByRecursion-append}
use Rattle.history.proofs.Values.{versions-apart, apart-earlier, first_time-later}
use Rattle.chains.specs.Writes.{Value, Write}
use Rattle.chains.specs.KeyWrites.{KeyWrites, AllAbove, IsOrdered, writes_of}
use Rattle.chains.proofs.Order.{lt-other'}
use Rattle.chains.proofs.Rising.{rising-writes_of}
use Rattle.law_image.specs.Reading.{OldRecord, Reading}
use Rattle.law_image.specs.Log.{floor_of}
use Rattle.law_image.specs.Facts.{old_write, version_for}
use Rattle.law_image.specs.StandsFor.{IsAnchorUpto, IsArchived, IsRun, archived_upto}
use Rattle.law_image.specs.Plans.{IsArchivePlan, IsReclaimPlan}
use Rattle.law_image.specs.PlansMade.{archive_record, archive_records, old_record, old_records}
use Rattle.law_image.proofs.KeysInOrder.{AreOthers}
use Rattle.law_image.proofs.PlansMade.{each-key, map-same, apart-filter, in_order, all-order, one-archived, one-anchor, keep-sorted, keys-above}
use Rattle.floors.specs.Floors.{floor_at}
use Rattle.vacuum.specs.declared.archive_walk.Since.{Since}
use Rattle.vacuum.specs.Archives.{AreInMemory, since_of, records_of}
use Rattle.vacuum.specs.Anchors.{anchors_of}
use Rattle.vacuum.specs.Laws.{HoldsHeap}

-- ---- the keys in memory

abbrev keys_of : List KeyWrites → List Key
keys_of m = map (λ (c : KeyWrites). c.key) m

less : (a b : Key) → key_lt a b ≡ true → key_cmp a b ≡ Less
less a b h = grind (arith, nat_tests)

all-less : (k : Key) (m : List KeyWrites) → AllAbove k m → AllByRecursion (λ x. key_cmp k x ≡ Less) (keys_of m)
all-less k [] up = tt
all-less k (c ∷ cs) up = (less k c.key up.0, all-less k cs up.1)

sorted-keys : (m : List KeyWrites) → IsOrdered m → IsStrictlySortedBy key_cmp (keys_of m)
unfolding IsStrictlySortedBy
sorted-keys [] ordered = tt
sorted-keys (c ∷ cs) ordered = (all-less c.key cs ordered.0, sorted-keys cs ordered.1)

-- a key that isn't there has no writes
no-writes : (key : Key) (m : List KeyWrites) → AreOthers key (keys_of m) → writes_of m key ≡ []
no-writes key [] others = refl
no-writes key (c ∷ cs) others = let other : same_key c.key key ≡ false = others.0 in rw other (no-writes key cs others.1)

same-self : (key : Key) → same_key key key ≡ true
same-self key = grind (arith, nat_tests)

-- what is said of each chain is said of the writes of each key
module _ {R : Type 0} (say : Key → List Write → List R) where
  tail-same : (c : KeyWrites) (cs ds : List KeyWrites) → AllAbove c.key ds
      → flat_map (λ key. say key (writes_of (c ∷ cs) key)) (keys_of ds) ≡ flat_map (λ key. say key (writes_of cs key)) (keys_of ds)
  tail-same c cs [] up = refl
  tail-same c cs (d ∷ ds) up =
      let other : same_key c.key d.key ≡ false = lt-other' c.key d.key up.0 in
      rw other (ap (λ l. say d.key (writes_of cs d.key) ++ l) (tail-same c cs ds up.1))

  by-key : (m : List KeyWrites) → IsOrdered m → flat_map (λ (c : KeyWrites). say c.key c.writes) m ≡ flat_map (λ key. say key (writes_of m key)) (keys_of m)
  by-key [] ordered = refl
  by-key (c ∷ cs) ordered =
      rw (same-self c.key) (ap (λ l. say c.key c.writes ++ l) (by-key cs ordered.1 ∙ sym (tail-same c cs cs ordered.0)))

-- ---- those of all keys

module _ (m : List KeyWrites) (versions_are : AreInMemory m) where
  apart : (key : Key) → FollowOneAnotherFrom 1 (versions (writes_of m key))
  apart key =
      let rising = rising-writes_of m key versions_are.rising in
      let first = first_time-later 0 (writes_of m key) (omega arith) rising in
      apart-earlier 1 (first_time (writes_of m key)) (versions (writes_of m key)) (omega (arith, first)) (versions-apart 0 (writes_of m key) rising)

  module _ (low : Key → ℕ) (upto : ℕ) where
    abbrev archived : Key → List (Version Value)
    archived key = filter (ends_by upto) (filter (ends_after (low key)) (versions (writes_of m key)))

    archived-apart : (key : Key) → FollowOneAnotherFrom 0 (archived key)
    archived-apart key =
        apart-earlier 0 1 (archived key) (omega arith)
        (apart-filter 1 (ends_by upto) (filter (ends_after (low key)) (versions (writes_of m key)))
        (apart-filter 1 (ends_after (low key)) (versions (writes_of m key)) (apart key)))

    all-archived : (mark : ℕ) (floors : ℕ → ℕ) → ((key : Key) → mark ≤ low key) → ((key : Key) → floors key.relation ≤ low key) → (ks : List Key)
        → AllByRecursion (IsArchived mark floors upto) (archive_records archived ks)
    all-archived mark floors by also [] = tt
    all-archived mark floors by also (k ∷ ks) =
        AllByRecursion-append (IsArchived mark floors upto) (map (archive_record k) (archived k)) (archive_records archived ks)
        (one-archived mark (low k) upto floors k 1 (versions (writes_of m k)) (by k) (also k) (apart k)) (all-archived mark floors by also ks)

    run-is : (mark : ℕ) (floors : ℕ → ℕ) → ((key : Key) → mark ≤ low key) → ((key : Key) → floors key.relation ≤ low key)
        → IsRun mark floors upto (archive_records archived (keys_of m))
    run-is mark floors by also = record {
      each = all-archived mark floors by also (keys_of m);
      in_order = in_order (archive_records archived (keys_of m)) (all-order archived (keys_of m) archived-apart (sorted-keys m versions_are.ordered));
    }

  records-are : (since : Since) (upto : ℕ) → records_of since upto m ≡ archive_records (archived (λ key. since_of since key.relation) upto) (keys_of m)
  records-are since upto =
      by-key (λ key ws. map (archive_record key) (filter (ends_by upto) (filter (ends_after (since_of since key.relation)) (versions ws)))) m
      versions_are.ordered

  module _ (mark : ℕ) where
    abbrev kept : Key → List (Version Value)
    kept key = filter (stands_at mark) (versions (writes_of m key))

    anchors-are : anchors_of mark m ≡ old_records kept (keys_of m)
    anchors-are = by-key (λ key ws. map (old_record key) (filter (stands_at mark) (versions ws))) m versions_are.ordered

    kept-sorted : (ks : List Key) → IsStrictlySortedBy key_cmp ks → IsStrictlySortedBy key_cmp (map (λ old. old.key) (old_records kept ks))
    unfolding IsStrictlySortedBy
    kept-sorted [] sorted = tt
    kept-sorted (k ∷ ks) sorted =
        subst (IsStrictlySortedBy key_cmp) (sym (map-append (λ (old : OldRecord). old.key) (map (old_record k) (kept k)) (old_records kept ks)))
        (keep-sorted k mark 1 (versions (writes_of m k)) (map (λ (old : OldRecord). old.key) (old_records kept ks)) (apart k) (kept-sorted ks sorted.1)
        (keys-above kept k ks sorted.0))

    all-anchors : (ks : List Key) → AllByRecursion (IsAnchorUpto mark) (old_records kept ks)
    all-anchors [] = tt
    all-anchors (k ∷ ks) =
        AllByRecursion-append (IsAnchorUpto mark) (map (old_record k) (kept k)) (old_records kept ks)
        (one-anchor k mark 1 (versions (writes_of m k)) (omega arith) (apart k)) (all-anchors ks)

-- ---- the plans

module _ (reading : Reading) (m : List KeyWrites) (versions_are : AreInMemory m) (holds : HoldsHeap reading m) where
  pub archive_plan-is : (since : Since) (upto : ℕ) → archived_upto reading ≡ since.mark
      → ((relation : ℕ) → floor_of reading.log relation ≡ floor_at since.floors relation) → IsArchivePlan reading upto (records_of since upto m)
  archive_plan-is since upto mark_is floor_is =
      let low : Key → ℕ = λ key. since_of since key.relation in
      let vs = archived m versions_are low upto in
      subst (IsArchivePlan reading upto) (sym (records-are m versions_are since upto)) (record {
        each = λ key.
            each-key archive_record version_for (λ (v : Version Value). v)
            (λ k key v same. ap (λ b. cond b (Some v) None) same) (λ k key v other. ap (λ b. cond b (Some v) None) other)
            vs key (keys_of m) (sorted-keys m versions_are.ordered)
            (λ others. ap (λ ws. filter (ends_by upto) (filter (ends_after (low key)) (versions ws))) (no-writes key m others))
            ∙ map-same (vs key)
            ∙ sym (λ i. filter (ends_by upto) (filter (ends_after (max (mark_is i) (floor_is key.relation i))) (holds key i)));
        is_run = run-is m versions_are low upto (archived_upto reading) (floor_of reading.log) (λ key. omega (arith, mark_is)) (λ key. omega (
          arith,
          floor_is key.relation,
        ));
      })

  pub reclaim_plan-is : (mark : ℕ) → archived_upto reading ≡ mark → IsReclaimPlan reading (anchors_of mark m)
  reclaim_plan-is mark mark_is =
      let vs = kept m versions_are mark in
      let sorted = sorted-keys m versions_are.ordered in
      subst (IsReclaimPlan reading) (sym (anchors-are m versions_are mark)) (record {
        each = λ key.
            each-key old_record old_write as_write
            (λ k key v same. ap (λ b. cond b (Some (as_write v)) None) same) (λ k key v other. ap (λ b. cond b (Some (as_write v)) None) other)
            vs key (keys_of m) sorted
            (λ others. ap (λ ws. filter (stands_at mark) (versions ws)) (no-writes key m others))
            ∙ sym (λ i. map as_write (filter (stands_at (mark_is i)) (holds key i)));
        rising = kept-sorted m versions_are mark (keys_of m) sorted;
        in_range = subst (λ (n : ℕ). AllByRecursion (IsAnchorUpto n) (old_records vs (keys_of m))) (sym mark_is) (all-anchors m versions_are mark (keys_of m));
      })

-- The records that a walk over the versions in memory gives.
use Rattle.std.proofs.Common.{◌≡◌, ℕ, ◌<◌, ◌≤◌, ◌^◌, nat_lt, nat_le, Bool, true, false, cond, List, [], ◌∷◌, ◌++◌, map, Some, None, refl, ap, sym, subst}
use Rattle.std.proofs.Common.{◌∙◌, arith}
use Rattle.std.specs.Prelude.{filter}
use Rattle.std.specs.List.{AllByRecursion, flat_map}
use Rattle.std.specs.List.Sorted.{IsStrictlySortedBy}
use Rattle.std.specs.declared.cmp.Ordering.TheVariants.{Less}
use Rattle.std.proofs.lemmas.Bool.Decides.{nat_tests}
use Rattle.history.specs.declared.key.Key.{Key}
use Rattle.history.specs.declared.time.Version.{Version}
use Rattle.history.specs.Key.{IsKey, key_cmp, key_lt, same_key}
use Rattle.history.specs.Versions.{versions, ends_after, ends_by, first_time, FollowOneAnotherFrom}
use Rattle.history.proofs.Filters.{AllByRecursion-append}
use Rattle.history.proofs.Values.{versions-apart, apart-earlier, first_time-later}
use Rattle.chains.specs.Writes.{Value, Write}
use Rattle.chains.specs.KeyWrites.{KeyWrites, AllAbove, IsOrdered, writes_of}
use Rattle.chains.proofs.Order.{lt-other'}
use Rattle.chains.proofs.Rising.{rising-writes_of}
use Rattle.law_image.specs.Values.{IsValue}
use Rattle.law_image.specs.Facts.{run_versions, version_for}
use Rattle.law_image.specs.StandsFor.{IsArchived, IsRun, no_floors}
use Rattle.law_image.specs.PlansMade.{archive_record, archive_records}
use Rattle.law_image.proofs.KeysInOrder.{AreOthers}
use Rattle.law_image.proofs.PlansMade.{each-key, map-same, apart-filter, in_order, all-order, one-archived}
use Rattle.law_layout.specs.Records.{IsArchiveRecord}
use Rattle.law_refinement.proofs.Ranges.{each-chain}
use Rattle.vacuum.specs.declared.archive_walk.Since.{Since}
use Rattle.vacuum.specs.Archives.{AreInMemory, key_records, since_of, records_of}

-- ---- the keys in memory

abbrev pub keys_of : List KeyWrites → List Key
keys_of m = map (λ (c : KeyWrites). c.key) m

less : (a b : Key) → key_lt a b ≡ true → key_cmp a b ≡ Less
less a b h = grind (arith, nat_tests)

all-less : (k : Key) (m : List KeyWrites) → AllAbove k m → AllByRecursion (λ x. key_cmp k x ≡ Less) (keys_of m)
all-less k [] up = tt
all-less k (c ∷ cs) up = (less k c.key up.0, all-less k cs up.1)

pub sorted-keys : (m : List KeyWrites) → IsOrdered m → IsStrictlySortedBy key_cmp (keys_of m)
unfolding IsStrictlySortedBy
sorted-keys [] ordered = tt
sorted-keys (c ∷ cs) ordered = (all-less c.key cs ordered.0, sorted-keys cs ordered.1)

pub no-writes : (key : Key) (m : List KeyWrites) → AreOthers key (keys_of m) → writes_of m key ≡ []
no-writes key [] others = refl
no-writes key (c ∷ cs) others = let other : same_key c.key key ≡ false = others.0 in rw other (no-writes key cs others.1)

same-self : (key : Key) → same_key key key ≡ true
same-self key = grind (arith, nat_tests)

-- what is said of each chain is said of the writes of each key
module _ {R : Type 0} (say : Key → List Write → List R) where
  tail-same : (c : KeyWrites) (cs ds : List KeyWrites) → AllAbove c.key ds
      → flat_map (λ key. say key (writes_of (c ∷ cs) key)) (keys_of ds) ≡ flat_map (λ key. say key (writes_of cs key)) (keys_of ds)
  tail-same c cs [] up = refl
  tail-same c cs (d ∷ ds) up =
      let other : same_key c.key d.key ≡ false = lt-other' c.key d.key up.0 in
      rw other (ap (λ l. say d.key (writes_of cs d.key) ++ l) (tail-same c cs ds up.1))

  pub by-key : (m : List KeyWrites) → IsOrdered m → flat_map (λ (c : KeyWrites). say c.key c.writes) m ≡ flat_map (λ key. say key (writes_of m key)) (keys_of m)
  by-key [] ordered = refl
  by-key (c ∷ cs) ordered =
      rw (same-self c.key) (ap (λ l. say c.key c.writes ++ l) (by-key cs ordered.1 ∙ sym (tail-same c cs cs ordered.0)))

-- ---- the records

module _ (m : List KeyWrites) (versions_are : AreInMemory m) (since : Since) (upto : ℕ) where
  abbrev taken : Key → List (Version Value)
  taken key = filter (ends_by upto) (filter (ends_after (since_of since key.relation)) (versions (writes_of m key)))

  records-are : records_of since upto m ≡ archive_records taken (keys_of m)
  records-are =
      by-key (λ key ws. map (archive_record key) (filter (ends_by upto) (filter (ends_after (since_of since key.relation)) (versions ws)))) m
      versions_are.ordered

  apart : (key : Key) → FollowOneAnotherFrom 1 (versions (writes_of m key))
  apart key =
      let rising = rising-writes_of m key versions_are.rising in
      let first = first_time-later 0 (writes_of m key) (omega arith) rising in
      apart-earlier 1 (first_time (writes_of m key)) (versions (writes_of m key)) (omega (arith, first)) (versions-apart 0 (writes_of m key) rising)

  taken-apart : (key : Key) → FollowOneAnotherFrom 0 (taken key)
  taken-apart key =
      apart-earlier 0 1 (taken key) (omega arith)
      (apart-filter 1 (ends_by upto) (filter (ends_after (since_of since key.relation)) (versions (writes_of m key)))
      (apart-filter 1 (ends_after (since_of since key.relation)) (versions (writes_of m key)) (apart key)))

  -- those of each key
  pub walked-versions : (key : Key) → run_versions key (records_of since upto m)
      ≡ filter (ends_by upto) (filter (ends_after (since_of since key.relation)) (versions (writes_of m key)))
  walked-versions key =
      ap (run_versions key) records-are
      ∙ each-key archive_record version_for (λ (v : Version Value). v)
      (λ k key v same. ap (λ b. cond b (Some v) None) same) (λ k key v other. ap (λ b. cond b (Some v) None) other)
      taken key (keys_of m) (sorted-keys m versions_are.ordered)
      (λ others. ap (λ ws. filter (ends_by upto) (filter (ends_after (since_of since key.relation)) (versions ws))) (no-writes key m others))
      ∙ map-same (taken key)

  all-archived : (mark : ℕ) → mark ≤ since.mark → (ks : List Key) → AllByRecursion (IsArchived mark (no_floors []) upto) (archive_records taken ks)
  all-archived mark by [] = tt
  all-archived mark by (k ∷ ks) =
      AllByRecursion-append (IsArchived mark (no_floors []) upto) (map (archive_record k) (taken k)) (archive_records taken ks)
      (one-archived mark (since_of since k.relation) upto (no_floors []) k 1 (versions (writes_of m k)) (omega (arith, by)) (omega arith) (apart k))
      (all-archived mark by ks)

  -- they are a run
  pub walked-run : (mark : ℕ) → mark ≤ since.mark → IsRun mark (no_floors []) upto (records_of since upto m)
  walked-run mark by = subst (IsRun mark (no_floors []) upto) (sym records-are) (record {
    each = all-archived mark by (keys_of m);
    in_order = in_order (archive_records taken (keys_of m)) (all-order taken (keys_of m) taken-apart (sorted-keys m versions_are.ordered));
  })

-- ---- they are in range

pub filtered-in-range : (key : Key) (after upto : ℕ) (vs : List (Version Value)) → upto < 2 ^ 63
    → AllByRecursion (λ (v : Version Value). IsKey key × IsValue v.value) vs
    → AllByRecursion IsArchiveRecord (map (archive_record key) (filter (ends_by upto) (filter (ends_after after) vs)))
filtered-in-range key after upto [] low each = tt
filtered-in-range key after upto (v ∷ vs) low each =
    let rest = filtered-in-range key after upto vs low each.1 in
    elim (nat_lt after v.to) as
    (λ (b : Bool). AllByRecursion IsArchiveRecord
    (map (archive_record key) (filter (ends_by upto) (cond b (v ∷ filter (ends_after after) vs) (filter (ends_after after) vs))))) [
      | true ↦ elim (nat_le v.to upto) as (λ (b : Bool). nat_le v.to upto ≡ b
          → AllByRecursion IsArchiveRecord
          (map (archive_record key) (cond b (v ∷ filter (ends_by upto) (filter (ends_after after) vs))
          (filter (ends_by upto) (filter (ends_after after) vs))))) [
            | true ↦ λ by. (
              record { key = (each.0).0; to = (let at : v.to ≤ upto = grind (arith, nat_tests) in omega (arith, at, low)); value = (each.0).1 },
              rest,
            )
            | false ↦ λ by. rest
          ] refl
      | false ↦ rest
    ]

-- where those of each key are
pub records-in-range : (m : List KeyWrites) (since : Since) (upto : ℕ) → IsOrdered m
    → ((key : Key) → AllByRecursion IsArchiveRecord
    (map (archive_record key) (filter (ends_by upto) (filter (ends_after (since_of since key.relation)) (versions (writes_of m key))))))
    → AllByRecursion IsArchiveRecord (records_of since upto m)
records-in-range m since upto ordered each =
    joined m (each-chain (λ key ws. AllByRecursion IsArchiveRecord
    (map (archive_record key) (filter (ends_by upto) (filter (ends_after (since_of since key.relation)) (versions ws))))) (λ key. tt) m ordered each)
  where
    joined : (cs : List KeyWrites) → AllByRecursion (λ (c : KeyWrites). AllByRecursion IsArchiveRecord (key_records (since_of since c.key.relation) upto c)) cs
        → AllByRecursion IsArchiveRecord (records_of since upto cs)
    joined [] all = tt
    joined (c ∷ cs) all =
        AllByRecursion-append IsArchiveRecord (key_records (since_of since c.key.relation) upto c) (records_of since upto cs) all.0 (joined cs all.1)

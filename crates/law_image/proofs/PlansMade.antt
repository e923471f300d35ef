-- The plans that are made are plans.
use Rattle.std.proofs.Common.{◌≡◌, ℕ, ◌<◌, ◌≤◌, max, Bool, true, false, cond, List, [], ◌∷◌, ◌++◌, map, Option, Some, None, refl, ap, sym, subst, ◌∙◌, arith}
use Rattle.std.proofs.Common.{inl, inr}
use Rattle.std.specs.Prelude.{filter, filter_map, flat_map}
use Rattle.std.specs.List.{AllByRecursion, cons_option}
use Rattle.std.specs.List.Sorted.{IsStrictlySortedBy}
use Rattle.std.specs.declared.cmp.Ordering.TheVariants.{Less}
use Rattle.std.proofs.lemmas.List.{append-nil, map-append}
use Rattle.std.proofs.lemmas.List.Elements.{filter_map-append}
use Rattle.std.proofs.lemmas.Bool.Decides.{nat_tests}
use Rattle.history.specs.declared.key.Key.{Key}
use Rattle.history.specs.declared.time.Version.{Version}
use Rattle.history.specs.Key.{key_cmp, same_key, write_in}
use Rattle.history.specs.Time.{IsRisingAfter}
use Rattle.history.specs.Versions.{versions, ends_after, ends_by, stands_at, as_write, first_time, FollowOneAnotherFrom}
use Rattle.history.specs.Histories.{writes_of}
use Rattle.history.specs.Queries.{values_after}
use Rattle.history.proofs.Filters.{AllByRecursion-append}
use Rattle.history.proofs.Values.{versions-apart, apart-earlier, first_time-later, filter-standing}
use Rattle.law_image.specs.Values.{Value}
use Rattle.law_image.specs.Reading.{HeapRecord, Member, OldRecord, ArchiveRecord, Reading}
use Rattle.law_image.specs.Log.{floor_of}
use Rattle.law_image.specs.Facts.{commit_read, commits_from, write_of, old_write, old_writes, heap_commits, heap_facts, heap_versions, version_for}
use Rattle.law_image.specs.Facts.{values_at_mark}
use Rattle.law_image.specs.StandsFor.{IsAnchorUpto, IsArchived, IsBefore, AreInOrder, archived_upto}
use Rattle.law_image.specs.Plans.{IsArchivePlan, IsReclaimPlan}
use Rattle.law_image.specs.PlansMade.{member_keys, heap_keys, to_archive, archive_record, archive_records, archive_plan, to_keep, old_record, old_records}
use Rattle.law_image.specs.PlansMade.{reclaim_plan}
use Rattle.law_image.proofs.KeysInOrder.{AreOthers, keys-sorted, others-sorted, others-behind}

-- ---- a key that the heap has not

others-front : (key : Key) (xs ys : List Key) → AreOthers key (xs ++ ys) → AreOthers key xs
others-front key [] ys others = tt
others-front key (x ∷ xs) ys others = (others.0, others-front key xs ys others.1)

others-back : (key : Key) (xs ys : List Key) → AreOthers key (xs ++ ys) → AreOthers key ys
others-back key [] ys others = others
others-back key (x ∷ xs) ys others = others-back key xs ys others.1

no-olds : (key : Key) (olds : List OldRecord) → AreOthers key (map (λ old. old.key) olds) → old_writes olds key ≡ []
no-olds key [] others = refl
no-olds key (o ∷ olds) others = let other : same_key o.key key ≡ false = others.0 in rw other (no-olds key olds others.1)

no-write : (key : Key) (before : Key → Option Value) (rs : List HeapRecord) → AreOthers key (map (λ r. r.key) rs) → write_in (map (write_of before) rs) key
    ≡ None
no-write key before [] others = refl
no-write key before (r ∷ rs) others = let other : same_key r.key key ≡ false = others.0 in rw other (no-write key before rs others.1)

no-writes : (key : Key) (before : Key → Option Value) (ms : List Member) → AreOthers key (member_keys ms) → writes_of (commits_from before ms) key ≡ []
no-writes key before [] others = refl
no-writes key before (m ∷ ms) others =
    let mine : write_in (map (write_of before) m.records) key ≡ None =
    no-write key before m.records (others-front key (map (λ r. r.key) m.records) (member_keys ms) others) in
    let rest = no-writes key (values_after before (commit_read before m)) ms (others-back key (map (λ r. r.key) m.records) (member_keys ms) others) in
    rw mine rest

no-facts : (reading : Reading) (key : Key) → AreOthers key (heap_keys reading) → heap_facts reading key ≡ []
no-facts reading key others =
    let all = others-sorted key (map (λ (old : OldRecord). old.key) reading.anchors ++ member_keys reading.members) others in
    let a : old_writes reading.anchors key ≡ [] =
    no-olds key reading.anchors (others-front key (map (λ (old : OldRecord). old.key) reading.anchors) (member_keys reading.members) all) in
    let b : writes_of (heap_commits reading) key ≡ [] =
    no-writes key (values_at_mark reading) reading.members
    (others-back key (map (λ (old : OldRecord). old.key) reading.anchors) (member_keys reading.members) all) in
    ap (λ l. l ++ writes_of (heap_commits reading) key) a ∙ b

-- ---- the records of each key

same-keys : (a key : Key) → same_key a key ≡ true → a ≡ key
same-keys a key same = grind (arith, nat_tests)

-- records made of each key's versions, and read again by f
module _ {R Y : Type 0} (make : Key → Version Value → R) (read : Key → R → Option Y) (is : Version Value → Y)
    (own : (k key : Key) (v : Version Value) → same_key k key ≡ true → read key (make k v) ≡ Some (is v))
    (foreign : (k key : Key) (v : Version Value) → same_key k key ≡ false → read key (make k v) ≡ None) where
  made-own : (k key : Key) (vs : List (Version Value)) → same_key k key ≡ true → filter_map (read key) (map (make k) vs) ≡ map is vs
  made-own k key [] same = refl
  made-own k key (v ∷ vs) same =
      ap (λ o. cons_option o (filter_map (read key) (map (make k) vs))) (own k key v same) ∙ ap (λ l. is v ∷ l) (made-own k key vs same)

  made-foreign : (k key : Key) (vs : List (Version Value)) → same_key k key ≡ false → filter_map (read key) (map (make k) vs) ≡ []
  made-foreign k key [] other = refl
  made-foreign k key (v ∷ vs) other = ap (λ o. cons_option o (filter_map (read key) (map (make k) vs))) (foreign k key v other) ∙ made-foreign k key vs other

  all-foreign : (vs : Key → List (Version Value)) (key : Key) (ks : List Key) → AreOthers key ks
      → filter_map (read key) (flat_map (λ k. map (make k) (vs k)) ks) ≡ []
  all-foreign vs key [] others = refl
  all-foreign vs key (k ∷ ks) others =
      filter_map-append (read key) (map (make k) (vs k)) (flat_map (λ k. map (make k) (vs k)) ks)
      ∙ ap (λ l. l ++ filter_map (read key) (flat_map (λ k. map (make k) (vs k)) ks)) (made-foreign k key (vs k) others.0)
      ∙ all-foreign vs key ks others.1

  pub each-key : (vs : Key → List (Version Value)) (key : Key) (ks : List Key) → IsStrictlySortedBy key_cmp ks → (AreOthers key ks → vs key ≡ [])
      → filter_map (read key) (flat_map (λ k. map (make k) (vs k)) ks) ≡ map is (vs key)
  unfolding IsStrictlySortedBy
  each-key vs key [] sorted none = ap (map is) (sym (none tt))
  each-key vs key (k ∷ ks) sorted none =
      let rest = flat_map (λ (k : Key). map (make k) (vs k)) ks in
      let Goal : Bool → Type 0 = λ b. same_key k key ≡ b → filter_map (read key) (map (make k) (vs k)) ++ filter_map (read key) rest ≡ map is (vs key) in
      let all : (b : Bool) → Goal b = λ b. elim b as Goal [
        | true ↦ λ e.
            ap (λ l. l ++ filter_map (read key) rest) (made-own k key (vs k) e)
            ∙ ap (λ l. map is (vs k) ++ l) (all-foreign vs key ks (others-behind k key ks e sorted.0))
            ∙ append-nil (map is (vs k))
            ∙ ap (λ x. map is (vs x)) (same-keys k key e)
        | false ↦ λ e.
            ap (λ l. l ++ filter_map (read key) rest) (made-foreign k key (vs k) e)
            ∙ each-key vs key ks sorted.1 (λ others. none (e, others))
      ] in
      filter_map-append (read key) (map (make k) (vs k)) rest ∙ all (same_key k key) refl

-- ---- order

pub map-same : {X : Type 0} (xs : List X) → map (λ x. x) xs ≡ xs
map-same [] = refl
map-same (x ∷ xs) = ap (λ l. x ∷ l) (map-same xs)

pub apart-filter : (t : ℕ) (p : Version Value → Bool) (vs : List (Version Value)) → FollowOneAnotherFrom t vs → FollowOneAnotherFrom t (filter p vs)
apart-filter t p [] apart = tt
apart-filter t p (v ∷ vs) apart =
    let rest = apart-filter v.to p vs apart.2 in
    elim (p v) as (λ b. FollowOneAnotherFrom t (cond b (v ∷ filter p vs) (filter p vs))) [
      | true ↦ (apart.0, apart.1, rest)
      | false ↦ apart-earlier t v.to (filter p vs) (omega (arith, apart.0, apart.1)) rest
    ]

-- each record comes before all behind it
abbrev pub AreAllBefore : List ArchiveRecord → Type 0
AreAllBefore [] = Unit {0}
AreAllBefore (r ∷ rs) = AllByRecursion (IsBefore r) rs × AreAllBefore rs

pub in_order : (rs : List ArchiveRecord) → AreAllBefore rs → AreInOrder rs
in_order [] all = tt
in_order (r ∷ []) all = tt
in_order (r ∷ s ∷ rest) all = (all.0.0, in_order (s ∷ rest) all.1)

before-append : (xs ys : List ArchiveRecord) → AreAllBefore xs → AreAllBefore ys → AllByRecursion (λ x. AllByRecursion (IsBefore x) ys) xs
    → AreAllBefore (xs ++ ys)
before-append [] ys a b across = b
before-append (x ∷ xs) ys a b across = (AllByRecursion-append (IsBefore x) xs ys a.0 across.0, before-append xs ys a.1 b across.1)

later-versions : (k : Key) (v : Version Value) (t : ℕ) (vs : List (Version Value)) → v.to ≤ t → FollowOneAnotherFrom t vs
    → AllByRecursion (IsBefore (archive_record k v)) (map (archive_record k) vs)
later-versions k v t [] le apart = tt
later-versions k v t (u ∷ us) le apart = (inr (refl, omega (arith, apart.0)), later-versions k v u.to us (omega (arith, apart.0, apart.1)) apart.2)

own-order : (k : Key) (t : ℕ) (vs : List (Version Value)) → FollowOneAnotherFrom t vs → AreAllBefore (map (archive_record k) vs)
own-order k t [] apart = tt
own-order k t (v ∷ vs) apart = (later-versions k v v.to vs (omega arith) apart.2, own-order k v.to vs apart.2)

before-each : (k : Key) (r : ArchiveRecord) (x : Key) (vs : List (Version Value)) → r.key ≡ k → key_cmp k x ≡ Less
    → AllByRecursion (IsBefore r) (map (archive_record x) vs)
before-each k r x [] is less = tt
before-each k r x (v ∷ vs) is less = (inl (subst (λ y. key_cmp y x ≡ Less) (sym is) less), before-each k r x vs is less)

before-all : (vs : Key → List (Version Value)) (k : Key) (r : ArchiveRecord) (ks : List Key) → r.key ≡ k → AllByRecursion (λ x. key_cmp k x ≡ Less) ks
    → AllByRecursion (IsBefore r) (archive_records vs ks)
before-all vs k r [] is above = tt
before-all vs k r (x ∷ xs) is above =
    AllByRecursion-append (IsBefore r) (map (archive_record x) (vs x)) (archive_records vs xs) (before-each k r x (vs x) is above.0)
    (before-all vs k r xs is above.1)

before-keys : (vs : Key → List (Version Value)) (k : Key) (us : List (Version Value)) (ks : List Key) → AllByRecursion (λ x. key_cmp k x ≡ Less) ks
    → AllByRecursion (λ r. AllByRecursion (IsBefore r) (archive_records vs ks)) (map (archive_record k) us)
before-keys vs k [] ks above = tt
before-keys vs k (u ∷ us) ks above = (before-all vs k (archive_record k u) ks refl above, before-keys vs k us ks above)

pub all-order : (vs : Key → List (Version Value)) (ks : List Key) → ((k : Key) → FollowOneAnotherFrom 0 (vs k)) → IsStrictlySortedBy key_cmp ks
    → AreAllBefore (archive_records vs ks)
unfolding IsStrictlySortedBy
all-order vs [] apart sorted = tt
all-order vs (k ∷ ks) apart sorted =
    before-append (map (archive_record k) (vs k)) (archive_records vs ks) (own-order k 0 (vs k) (apart k)) (all-order vs ks apart sorted.1)
    (before-keys vs k (vs k) ks sorted.0)

own-above : (us : List (Version Value)) (low k : Key) → key_cmp low k ≡ Less
    → AllByRecursion (λ x. key_cmp low x ≡ Less) (map (λ old. old.key) (map (old_record k) us))
own-above [] low k less = tt
own-above (u ∷ us) low k less = (less, own-above us low k less)

-- ---- the versions of one key that a job takes

pub one-archived : (mark low upto : ℕ) (floors : ℕ → ℕ) (key : Key) (t : ℕ) (vs : List (Version Value)) → mark ≤ low → floors key.relation ≤ low
    → FollowOneAnotherFrom t vs
    → AllByRecursion (IsArchived mark floors upto) (map (archive_record key) (filter (ends_by upto) (filter (ends_after low) vs)))
one-archived mark low upto floors key t [] by also apart = tt
one-archived mark low upto floors key t (v ∷ vs) by also apart =
    let Is = IsArchived mark floors upto in
    let rest = one-archived mark low upto floors key v.to vs by also apart.2 in
    let Goal : Bool → Bool → Type 0 =
    λ a b. ends_after low v ≡ a → ends_by upto v ≡ b
    → AllByRecursion Is (map (archive_record key) (filter (ends_by upto) (cond a (v ∷ filter (ends_after low) vs) (filter (ends_after low) vs)))) in
    let all : (a b : Bool) → Goal a b = λ a b. elim a as (λ a. Goal a b) [
      | true ↦ elim b as (λ b. Goal true b) [
        | true ↦ λ e k. rw k (
          record {
            lasts = apart.1;
            after_mark = grind (arith, nat_tests);
            after_floor = grind (arith, nat_tests);
            by_upto = grind (arith, nat_tests);
          },
          rest,
        )
        | false ↦ λ e k. rw k rest
      ]
      | false ↦ λ e k. rest
    ] in
    all (ends_after low v) (ends_by upto v) refl refl

pub one-anchor : (k : Key) (m t : ℕ) (vs : List (Version Value)) → 0 < t → FollowOneAnotherFrom t vs
    → AllByRecursion (IsAnchorUpto m) (map (old_record k) (filter (stands_at m) vs))
one-anchor k m t [] some apart = tt
one-anchor k m t (v ∷ vs) some apart =
    let rest = one-anchor k m v.to vs (omega (arith, apart.0, apart.1)) apart.2 in
    let Goal : Bool → Type 0 =
    λ b. stands_at m v ≡ b → AllByRecursion (IsAnchorUpto m) (map (old_record k) (cond b (v ∷ filter (stands_at m) vs) (filter (stands_at m) vs))) in
    let all : (b : Bool) → Goal b = λ b. elim b as Goal [
      | true ↦ λ e. ((omega (arith, apart.0), grind (arith, nat_tests)), rest)
      | false ↦ λ e. rest
    ] in
    all (stands_at m v) refl

-- one version of a key at most stands at a time
pub keep-sorted : (k : Key) (m t : ℕ) (vs : List (Version Value)) (rest : List Key) → FollowOneAnotherFrom t vs → IsStrictlySortedBy key_cmp rest
    → AllByRecursion (λ x. key_cmp k x ≡ Less) rest
    → IsStrictlySortedBy key_cmp (map (λ old. old.key) (map (old_record k) (filter (stands_at m) vs)) ++ rest)
unfolding IsStrictlySortedBy
keep-sorted k m t [] rest apart sorted above = sorted
keep-sorted k m t (v ∷ vs) rest apart sorted above =
    let keys : List (Version Value) → List Key = λ l. map (λ (old : OldRecord). old.key) (map (old_record k) l) ++ rest in
    let Goal : Bool → Type 0 = λ b. stands_at m v ≡ b → IsStrictlySortedBy key_cmp (keys (cond b (v ∷ filter (stands_at m) vs) (filter (stands_at m) vs))) in
    let all : (b : Bool) → Goal b = λ b. elim b as Goal [
      | true ↦ λ e.
          let before : m < v.to = grind (arith, nat_tests) in
          let none : filter (stands_at m) vs ≡ [] = filter-standing v.to m vs before apart.2 in
          rw none (above, sorted)
      | false ↦ λ e. keep-sorted k m v.to vs rest apart.2 sorted above
    ] in
    all (stands_at m v) refl

pub keys-above : (vs : Key → List (Version Value)) (low : Key) (ks : List Key) → AllByRecursion (λ k. key_cmp low k ≡ Less) ks
    → AllByRecursion (λ k. key_cmp low k ≡ Less) (map (λ old. old.key) (old_records vs ks))
keys-above vs low [] above = tt
keys-above vs low (k ∷ ks) above =
    subst (AllByRecursion (λ x. key_cmp low x ≡ Less)) (sym (map-append (λ (old : OldRecord). old.key) (map (old_record k) (vs k)) (old_records vs ks)))
    (AllByRecursion-append (λ x. key_cmp low x
    ≡ Less) (map (λ old. old.key) (map (old_record k) (vs k))) (map (λ old. old.key) (old_records vs ks)) (own-above (vs k) low k above.0)
    (keys-above vs low ks above.1))

-- ---- an archive

module _ (reading : Reading) (rise : (key : Key) → IsRisingAfter 0 (heap_facts reading key)) where
  heap-apart : (key : Key) → FollowOneAnotherFrom 1 (heap_versions reading key)
  heap-apart key =
      apart-earlier 1 (first_time (heap_facts reading key)) (heap_versions reading key)
      (let first = first_time-later 0 (heap_facts reading key) (omega arith) (rise key) in omega (arith, first))
      (versions-apart 0 (heap_facts reading key) (rise key))

  none-left : (key : Key) → AreOthers key (heap_keys reading) → heap_versions reading key ≡ []
  none-left key others = ap versions (no-facts reading key others)

  module _ (upto : ℕ) where
    planned-apart : (key : Key) → FollowOneAnotherFrom 0 (to_archive reading upto key)
    planned-apart key =
        let low = max (archived_upto reading) (floor_of reading.log key.relation) in
        apart-earlier 0 1 (to_archive reading upto key) (omega arith)
        (apart-filter 1 (ends_by upto) (filter (ends_after low) (heap_versions reading key))
        (apart-filter 1 (ends_after low) (heap_versions reading key) (heap-apart key)))

    all-archived : (ks : List Key)
        → AllByRecursion (IsArchived (archived_upto reading) (floor_of reading.log) upto) (archive_records (to_archive reading upto) ks)
    all-archived [] = tt
    all-archived (k ∷ ks) =
        AllByRecursion-append (IsArchived (archived_upto reading) (floor_of reading.log) upto) (map (archive_record k) (to_archive reading upto k))
        (archive_records (to_archive reading upto) ks)
        (one-archived (archived_upto reading) (max (archived_upto reading) (floor_of reading.log k.relation)) upto (floor_of reading.log) k 1
        (heap_versions reading k) (omega arith) (omega arith) (heap-apart k)) (all-archived ks)

    pub archive-plan_is : IsArchivePlan reading upto (archive_plan reading upto)
    archive-plan_is = record {
      each = λ key.
          each-key archive_record version_for (λ (v : Version Value). v)
          (λ k key v same. ap (λ b. cond b (Some v) None) same) (λ k key v other. ap (λ b. cond b (Some v) None) other)
          (to_archive reading upto) key (heap_keys reading) (keys-sorted (map (λ (old : OldRecord). old.key) reading.anchors ++ member_keys reading.members))
          (λ others. ap (λ l. filter (ends_by upto) (filter (ends_after (max (archived_upto reading) (floor_of reading.log key.relation))) l))
          (none-left key others))
          ∙ map-same (to_archive reading upto key);
      is_run = record {
        each = all-archived (heap_keys reading);
        in_order =
            in_order (archive_plan reading upto)
            (all-order (to_archive reading upto) (heap_keys reading) planned-apart (keys-sorted (map (λ (old : OldRecord). old.key) reading.anchors
            ++ member_keys reading.members)));
      };
    }

  -- ---- a reclaim

  kept-sorted : (m : ℕ) (ks : List Key) → IsStrictlySortedBy key_cmp ks
      → IsStrictlySortedBy key_cmp (map (λ old. old.key) (old_records (λ key. filter (stands_at m) (heap_versions reading key)) ks))
  unfolding IsStrictlySortedBy
  kept-sorted m [] sorted = tt
  kept-sorted m (k ∷ ks) sorted =
      let vs : Key → List (Version Value) = λ key. filter (stands_at m) (heap_versions reading key) in
      subst (IsStrictlySortedBy key_cmp) (sym (map-append (λ (old : OldRecord). old.key) (map (old_record k) (vs k)) (old_records vs ks)))
      (keep-sorted k m 1 (heap_versions reading k) (map (λ (old : OldRecord). old.key) (old_records vs ks)) (heap-apart k) (kept-sorted m ks sorted.1)
      (keys-above vs k ks sorted.0))

  all-anchors : (ks : List Key) → AllByRecursion (IsAnchorUpto (archived_upto reading)) (old_records (to_keep reading) ks)
  all-anchors [] = tt
  all-anchors (k ∷ ks) =
      AllByRecursion-append (IsAnchorUpto (archived_upto reading)) (map (old_record k) (to_keep reading k)) (old_records (to_keep reading) ks)
      (one-anchor k (archived_upto reading) 1 (heap_versions reading k) (omega arith) (heap-apart k)) (all-anchors ks)

  pub reclaim-plan_is : IsReclaimPlan reading (reclaim_plan reading)
  reclaim-plan_is =
      let sorted = keys-sorted (map (λ (old : OldRecord). old.key) reading.anchors ++ member_keys reading.members) in
      record {
        each = λ key.
            each-key old_record old_write as_write
            (λ k key v same. ap (λ b. cond b (Some (as_write v)) None) same) (λ k key v other. ap (λ b. cond b (Some (as_write v)) None) other)
            (to_keep reading) key (heap_keys reading) sorted
            (λ others. ap (filter (stands_at (archived_upto reading))) (none-left key others));
        rising = kept-sorted (archived_upto reading) (heap_keys reading) sorted;
        in_range = all-anchors (heap_keys reading);
      }

-- Keys put in order.
use Rattle.std.proofs.Common.{◌≡◌, true, false, List, [], ◌∷◌, refl, arith}
use Rattle.std.specs.List.{AllByRecursion}
use Rattle.std.specs.List.Sorted.{IsStrictlySortedBy}
use Rattle.std.specs.declared.cmp.Ordering.{Ordering}
use Rattle.std.specs.declared.cmp.Ordering.TheVariants.{Less, Equal, Greater}
use Rattle.std.proofs.lemmas.Bool.Decides.{nat_tests}
use Rattle.history.specs.declared.key.Key.{Key}
use Rattle.history.specs.Key.{key_cmp, same_key}
use Rattle.law_image.specs.PlansMade.{insert_at, insert_key, sorted_keys}

-- these keys are others
abbrev pub AreOthers : Key → List Key → Type 0
AreOthers key keys = AllByRecursion (λ k. same_key k key ≡ false) keys

greater : (a b : Key) → key_cmp a b ≡ Greater → key_cmp b a ≡ Less
greater a b h = grind (arith, nat_tests)

same_other : (a b key : Key) → key_cmp a b ≡ Equal → same_key b key ≡ false → same_key a key ≡ false
same_other a b key e differs = grind (arith, nat_tests)

less_trans : (a b c : Key) → key_cmp a b ≡ Less → key_cmp b c ≡ Less → key_cmp a c ≡ Less
less_trans a b c h k = grind (arith, nat_tests)

all_less : (a b : Key) (ks : List Key) → key_cmp a b ≡ Less → AllByRecursion (λ k. key_cmp b k ≡ Less) ks → AllByRecursion (λ k. key_cmp a k ≡ Less) ks
all_less a b [] less above = tt
all_less a b (k ∷ ks) less above = (less_trans a b k less above.0, all_less a b ks less above.1)

insert-above : (low key : Key) (ks : List Key) → key_cmp low key ≡ Less → AllByRecursion (λ k. key_cmp low k ≡ Less) ks
    → AllByRecursion (λ k. key_cmp low k ≡ Less) (insert_key key ks)
insert-above low key [] less above = (less, tt)
insert-above low key (k ∷ ks) less above =
    elim (key_cmp key k) as (λ o. AllByRecursion (λ x. key_cmp low x ≡ Less) (insert_at o key k ks (insert_key key ks))) [
      | Less ↦ (less, above)
      | Equal ↦ above
      | Greater ↦ (above.0, insert-above low key ks less above.1)
    ]

insert-sorted : (key : Key) (ks : List Key) → IsStrictlySortedBy key_cmp ks → IsStrictlySortedBy key_cmp (insert_key key ks)
unfolding IsStrictlySortedBy
insert-sorted key [] sorted = (tt, tt)
insert-sorted key (k ∷ ks) sorted =
    let Goal : Ordering → Type 0 = λ o. key_cmp key k ≡ o → IsStrictlySortedBy key_cmp (insert_at o key k ks (insert_key key ks)) in
    let all : (o : Ordering) → Goal o = λ o. elim o as Goal [
      | Less ↦ λ e. ((e, all_less key k ks e sorted.0), sorted)
      | Equal ↦ λ e. sorted
      | Greater ↦ λ e. (insert-above k key ks (greater key k e) sorted.0, insert-sorted key ks sorted.1)
    ] in
    all (key_cmp key k) refl

pub keys-sorted : (ks : List Key) → IsStrictlySortedBy key_cmp (sorted_keys ks)
unfolding IsStrictlySortedBy
keys-sorted [] = tt
keys-sorted (k ∷ ks) = insert-sorted k (sorted_keys ks) (keys-sorted ks)

insert-others : (key k : Key) (ks : List Key) → AreOthers key (insert_key k ks) → (same_key k key ≡ false) × AreOthers key ks
insert-others key k [] others = others
insert-others key k (x ∷ xs) others =
    let Goal : Ordering → Type 0 =
    λ o. key_cmp k x ≡ o → AreOthers key (insert_at o k x xs (insert_key k xs)) → (same_key k key ≡ false) × AreOthers key (x ∷ xs) in
    let all : (o : Ordering) → Goal o = λ o. elim o as Goal [
      | Less ↦ λ e others. (others.0, others.1)
      | Equal ↦ λ e others. (same_other k x key e others.0, others)
      | Greater ↦ λ e others. let rest = insert-others key k xs others.1 in (rest.0, (others.0, rest.1))
    ] in
    all (key_cmp k x) refl others

-- what is among none of the keys in order is among none
pub others-sorted : (key : Key) (ks : List Key) → AreOthers key (sorted_keys ks) → AreOthers key ks
others-sorted key [] others = tt
others-sorted key (k ∷ ks) others = let parts = insert-others key k (sorted_keys ks) others in (parts.0, others-sorted key ks parts.1)

other : (a b key : Key) → key_cmp a b ≡ Less → same_key a key ≡ true → same_key b key ≡ false
other a b key less same = grind (arith, nat_tests)

-- behind a key in order there are others
pub others-behind : (k key : Key) (ks : List Key) → same_key k key ≡ true → AllByRecursion (λ x. key_cmp k x ≡ Less) ks → AreOthers key ks
others-behind k key [] same above = tt
others-behind k key (x ∷ xs) same above = (other k x key above.0 same, others-behind k key xs same above.1)

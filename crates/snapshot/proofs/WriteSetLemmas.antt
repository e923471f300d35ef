-- Write sets: what is found at a place, and what a change of one write leaves.
use Rattle.std.proofs.Common.{◌≡◌, ℕ, zero, suc, ◌+◌, ◌<◌, ◌≤◌, Bool, true, false, cond, List, [], ◌∷◌, ◌++◌, length, map, take, drop, get_or, Option, None}
use Rattle.std.proofs.Common.{Some, refl, arith, ap, sym, ◌∙◌, inl, inr}
use Rattle.std.proofs.Math.ListN.{set}
use Rattle.std.specs.List.{AllByRecursion}
use Rattle.std.specs.List.Sorted.{IsStrictlySortedBy, IsPartitionedBy, IsPartitionPoint}
use Rattle.std.specs.declared.cmp.Ordering.TheVariants.{Less}
use Rattle.std.proofs.lemmas.Bool.{cases_eq}
use Rattle.std.proofs.lemmas.Bool.Decides.{nat_tests}
use Rattle.history.specs.declared.key.Key.{Key}
use Rattle.history.specs.declared.key.KeyWrite.{KeyWrite}
use Rattle.history.specs.Key.{key_cmp, key_lt, same_key, write_in}
use Rattle.history.proofs.Keys.{key_lt-from_less, key_cmp-from_lt}
use Rattle.snapshot.specs.WriteSets.{AreRising, with_write, without, IsPlaceOf, IsPlaceFor}

-- ---- keys

pub key_lt-trans : (a b c : Key) → key_lt a b ≡ true → key_lt b c ≡ true → key_lt a c ≡ true
key_lt-trans a b c h k = grind (arith, nat_tests)

pub key_lt-then-same : (a b c : Key) → key_lt a b ≡ true → same_key b c ≡ true → key_lt a c ≡ true
key_lt-then-same a b c h k = grind (arith, nat_tests)

pub same-then-key_lt : (a b c : Key) → same_key a b ≡ true → key_lt b c ≡ true → key_lt a c ≡ true
same-then-key_lt a b c h k = grind (arith, nat_tests)

pub key_lt-other : (a b : Key) → key_lt a b ≡ true → same_key a b ≡ false
key_lt-other a b h = grind (arith, nat_tests)

pub key_lt-other_way : (a b : Key) → key_lt a b ≡ true → same_key b a ≡ false
key_lt-other_way a b h = grind (arith, nat_tests)

pub key_lt-not_back : (a b : Key) → key_lt a b ≡ true → key_lt b a ≡ false
key_lt-not_back a b h = grind (arith, nat_tests)

pub same-not_lt : (a b : Key) → same_key a b ≡ true → key_lt a b ≡ false
same-not_lt a b h = grind (arith, nat_tests)

pub same-sym : (a b : Key) → same_key a b ≡ true → same_key b a ≡ true
same-sym a b h = grind (arith, nat_tests)

pub same-trans : (a b c : Key) → same_key a b ≡ true → same_key b c ≡ true → same_key a c ≡ true
same-trans a b c h k = grind (arith, nat_tests)

pub neither-same : (a b : Key) → key_lt a b ≡ false → key_lt b a ≡ false → same_key a b ≡ true
neither-same a b h k = grind (arith, nat_tests)

-- a same key is asked for alike
pub same_key-along : (a b c : Key) → same_key a b ≡ true → same_key a c ≡ same_key b c
same_key-along a b c h = grind (arith, nat_tests)

-- ---- order, by tests

-- all keys are above this one
abbrev pub AreAbove : {V : Type 0} → Key → List (KeyWrite V) → Type 0
AreAbove key [] = Unit {0}
AreAbove key (w ∷ ws) = (key_lt key w.key ≡ true) × AreAbove key ws

abbrev pub Rise : {V : Type 0} → List (KeyWrite V) → Type 0
Rise [] = Unit {0}
Rise (w ∷ ws) = AreAbove w.key ws × Rise ws

above-from : {V : Type 0} (key : Key) (writes : List (KeyWrite V)) → AllByRecursion (λ y. key_cmp key y ≡ Less) (map (λ (w : KeyWrite V). w.key) writes)
    → AreAbove key writes
above-from key [] h = tt
above-from key (w ∷ ws) h = (key_lt-from_less key w.key h.0, above-from key ws h.1)

above-to : {V : Type 0} (key : Key) (writes : List (KeyWrite V)) → AreAbove key writes
    → AllByRecursion (λ y. key_cmp key y ≡ Less) (map (λ (w : KeyWrite V). w.key) writes)
above-to key [] h = tt
above-to key (w ∷ ws) h = (key_cmp-from_lt key w.key h.0, above-to key ws h.1)

pub rise-from : {V : Type 0} (writes : List (KeyWrite V)) → AreRising writes → Rise writes
unfolding IsStrictlySortedBy
rise-from [] h = tt
rise-from (w ∷ ws) h = (above-from w.key ws h.0, rise-from ws h.1)

pub rise-to : {V : Type 0} (writes : List (KeyWrite V)) → Rise writes → AreRising writes
unfolding IsStrictlySortedBy
rise-to [] h = tt
rise-to (w ∷ ws) h = (above-to w.key ws h.0, rise-to ws h.1)

pub above-lower : {V : Type 0} (low key : Key) (writes : List (KeyWrite V)) → key_lt low key ≡ true → AreAbove key writes → AreAbove low writes
above-lower low key [] less h = tt
above-lower low key (w ∷ ws) less h = (key_lt-trans low key w.key less h.0, above-lower low key ws less h.1)

above-along : {V : Type 0} (a b : Key) (writes : List (KeyWrite V)) → same_key a b ≡ true → AreAbove b writes → AreAbove a writes
above-along a b [] same h = tt
above-along a b (w ∷ ws) same h = (same-then-key_lt a b w.key same h.0, above-along a b ws same h.1)

above-at : {V : Type 0} (key : Key) (writes : List (KeyWrite V)) (k : ℕ) (d : KeyWrite V) → AreAbove key writes → k < length writes
    → key_lt key (get_or writes k d).key ≡ true
above-at key [] k d h low = absurd (omega arith)
above-at key (w ∷ ws) zero d h low = h.0
above-at key (w ∷ ws) (suc k) d h low = above-at key ws k d h.1 (omega arith)

rise-pair : {V : Type 0} (writes : List (KeyWrite V)) (i j : ℕ) (d : KeyWrite V) → Rise writes → i < j → j < length writes
    → key_lt (get_or writes i d).key (get_or writes j d).key ≡ true
rise-pair [] i j d h low high = absurd (omega arith)
rise-pair (w ∷ ws) i zero d h low high = absurd (omega arith)
rise-pair (w ∷ ws) zero (suc j) d h low high = above-at w.key ws j d h.0 (omega arith)
rise-pair (w ∷ ws) (suc i) (suc j) d h low high = rise-pair ws i j d h.1 (omega arith) (omega arith)

-- the writes with lesser keys stand before the others
pub partitioned : {V : Type 0} (key : Key) (writes : List (KeyWrite V)) → AreRising writes → IsPartitionedBy (λ (w : KeyWrite V). key_lt w.key key) writes
partitioned key writes rising i j d le high below =
    elim (cases_eq i j) [
      | inl same ↦ rw same below
      | inr other ↦ key_lt-trans _ _ key (rise-pair writes i j d (rise-from writes rising) (omega (arith, other)) high) below
    ]

-- what a partition at the lesser keys gives
pub place_for : {V : Type 0} (key : Key) (writes : List (KeyWrite V)) (place : ℕ) → AreRising writes → place ≤ length writes
    → IsPartitionPoint (λ (w : KeyWrite V). key_lt w.key key ≡ true) (λ (w : KeyWrite V). key_lt w.key key ≡ false) writes place
    → ((d : KeyWrite V) → place < length writes → key_lt key (get_or writes place d).key ≡ true) → IsPlaceFor key writes place
place_for key writes place rising high point here =
    record {
      within = high;
      lesser = λ k d low. point.0 k d (omega arith) low;
      greater = λ k d low within.
          elim (cases_eq k place) [
            | inl same ↦ rw same (here d (omega (arith, same)))
            | inr other ↦ key_lt-trans key (get_or writes place d).key (get_or writes k d).key (here d (omega arith))
                (rise-pair writes place k d (rise-from writes rising) (omega (arith, other)) within)
          ];
    }

pub place_of : {V : Type 0} (key : Key) (writes : List (KeyWrite V)) (place : ℕ) → place < length writes
    → IsPartitionPoint (λ (w : KeyWrite V). key_lt w.key key ≡ true) (λ (w : KeyWrite V). key_lt w.key key ≡ false) writes place
    → ((d : KeyWrite V) → key_lt key (get_or writes place d).key ≡ false) → IsPlaceOf key writes place
place_of key writes place low point here =
    record { within = low; is = λ d. neither-same (get_or writes place d).key key (point.1 place d (omega arith) low) (here d) }

-- ---- what is found at a place

-- where one write has a lesser key, what follows has the place one before
tail_of : {V : Type 0} (key : Key) (w : KeyWrite V) (ws : List (KeyWrite V)) (place : ℕ) → IsPlaceOf key (w ∷ ws) (suc place) → IsPlaceOf key ws place
tail_of key w ws place found = record { within = let within : suc place < length (w ∷ ws) = found.within in omega arith; is = λ d. found.is d }

tail_for : {V : Type 0} (key : Key) (w : KeyWrite V) (ws : List (KeyWrite V)) (place : ℕ) → IsPlaceFor key (w ∷ ws) (suc place) → IsPlaceFor key ws place
tail_for key w ws place found =
    record {
      within = let within : suc place ≤ length (w ∷ ws) = found.within in omega arith;
      lesser = λ k d low. found.lesser (suc k) d (omega arith);
      greater = λ k d low within. found.greater (suc k) d (omega arith) (omega arith);
    }

-- the write before a place is of another key
before_of : {V : Type 0} (key : Key) (w : KeyWrite V) (ws : List (KeyWrite V)) (place : ℕ) → Rise (w ∷ ws) → IsPlaceOf key (w ∷ ws) (suc place)
    → key_lt w.key key ≡ true
before_of key w ws place rise found =
    let within : suc place < length (w ∷ ws) = found.within in
    key_lt-then-same w.key (get_or ws place w).key key (above-at w.key ws place w rise.0 (omega arith)) (found.is w)

found_write : {V : Type 0} (key : Key) (writes : List (KeyWrite V)) (place : ℕ) (d : KeyWrite V) → Rise writes → IsPlaceOf key writes place
    → write_in writes key ≡ Some (get_or writes place d).write
found_write key [] place d rise found = absurd (omega (arith, found.within))
found_write key (w ∷ ws) zero d rise found = let same : same_key w.key key ≡ true = found.is d in rw same refl
found_write key (w ∷ ws) (suc place) d rise found =
    let other : same_key w.key key ≡ false = key_lt-other w.key key (before_of key w ws place rise found) in
    rw other (found_write key ws place d rise.1 (tail_of key w ws place found))

pub write_in-at : {V : Type 0} (key : Key) (writes : List (KeyWrite V)) (place : ℕ) (d : KeyWrite V) → AreRising writes → IsPlaceOf key writes place
    → write_in writes key ≡ Some (get_or writes place d).write
write_in-at key writes place d rising found = found_write key writes place d (rise-from writes rising) found

pub write_in-for : {V : Type 0} (key : Key) (writes : List (KeyWrite V)) (place : ℕ) → IsPlaceFor key writes place → write_in writes key ≡ None
write_in-for key [] place found = refl
write_in-for key (w ∷ ws) zero found =
    let other : same_key w.key key ≡ false = key_lt-other_way key w.key (found.greater 0 w (omega arith) (omega arith)) in
    rw other (write_in-for key ws zero (record {
      within = omega arith;
      lesser = λ k d low. absurd (omega arith);
      greater = λ k d low within. found.greater (suc k) d (omega arith) (omega arith);
    }))
write_in-for key (w ∷ ws) (suc place) found =
    let other : same_key w.key key ≡ false = key_lt-other w.key key (found.lesser 0 w (omega arith)) in
    rw other (write_in-for key ws place (tail_for key w ws place found))

-- ---- what is left of a change at a place

set_write : {V : Type 0} (write : KeyWrite V) (writes : List (KeyWrite V)) (place : ℕ) → Rise writes → IsPlaceOf write.key writes place → set writes place write
    ≡ with_write writes write
set_write write [] place rise found = absurd (omega (arith, found.within))
set_write write (w ∷ ws) zero rise found =
    let same : same_key w.key write.key ≡ true = found.is w in
    let one : key_lt w.key write.key ≡ false = same-not_lt w.key write.key same in
    let two : key_lt write.key w.key ≡ false = same-not_lt write.key w.key (same-sym w.key write.key same) in
    rw (one, two) refl
set_write write (w ∷ ws) (suc place) rise found =
    let less : key_lt w.key write.key ≡ true = before_of write.key w ws place rise found in
    rw less (ap (λ rest. w ∷ rest) (set_write write ws place rise.1 (tail_of write.key w ws place found)))

pub with_write-set : {V : Type 0} (write : KeyWrite V) (writes : List (KeyWrite V)) (place : ℕ) → AreRising writes → IsPlaceOf write.key writes place
    → set writes place write ≡ with_write writes write
with_write-set write writes place rising found = set_write write writes place (rise-from writes rising) found

pub with_write-insert : {V : Type 0} (write : KeyWrite V) (writes : List (KeyWrite V)) (place : ℕ) → IsPlaceFor write.key writes place → take place writes
    ++ write ∷ drop place writes ≡ with_write writes write
with_write-insert write [] zero found = refl
with_write-insert write [] (suc place) found = absurd (omega (arith, found.within))
with_write-insert write (w ∷ ws) zero found =
    let less : key_lt write.key w.key ≡ true = found.greater 0 w (omega arith) (omega arith) in
    let back : key_lt w.key write.key ≡ false = key_lt-not_back write.key w.key less in
    rw (back, less) refl
with_write-insert write (w ∷ ws) (suc place) found =
    let less : key_lt w.key write.key ≡ true = found.lesser 0 w (omega arith) in
    rw less (ap (λ rest. w ∷ rest) (with_write-insert write ws place (tail_for write.key w ws place found)))

remove_write : {V : Type 0} (key : Key) (writes : List (KeyWrite V)) (place : ℕ) → Rise writes → IsPlaceOf key writes place → take place writes
    ++ drop (suc place) writes ≡ without writes key
remove_write key [] place rise found = absurd (omega (arith, found.within))
remove_write key (w ∷ ws) zero rise found = let same : same_key w.key key ≡ true = found.is w in rw same refl
remove_write key (w ∷ ws) (suc place) rise found =
    let other : same_key w.key key ≡ false = key_lt-other w.key key (before_of key w ws place rise found) in
    rw other (ap (λ rest. w ∷ rest) (remove_write key ws place rise.1 (tail_of key w ws place found)))

pub without-remove : {V : Type 0} (key : Key) (writes : List (KeyWrite V)) (place : ℕ) → AreRising writes → IsPlaceOf key writes place → take place writes
    ++ drop (suc place) writes ≡ without writes key
without-remove key writes place rising found = remove_write key writes place (rise-from writes rising) found

pub without-none : {V : Type 0} (key : Key) (writes : List (KeyWrite V)) → write_in writes key ≡ None → without writes key ≡ writes
without-none key [] none = refl
without-none key (w ∷ ws) none =
    let Goal : Bool → Type 0 = λ b. cond b (Some w.write) (write_in ws key) ≡ None → cond b ws (w ∷ without ws key) ≡ w ∷ ws in
    let goal : Goal (same_key w.key key) =
    elim (same_key w.key key) as Goal [ true ↦ λ h. absurd (some-none h) | false ↦ λ h. ap (λ rest. w ∷ rest) (without-none key ws h) ] in
    goal none
  where
    some-none : {A : Type 0} {x : A} → Some x ≡ None → ⊥
    some-none h = cc

-- ---- what a change says of each key

written_behind : {V : Type 0} (write w : KeyWrite V) (ws more : List (KeyWrite V)) (q : Key) (c : Bool) → same_key write.key q ≡ c → key_lt w.key write.key
    ≡ true → write_in more q ≡ cond (same_key write.key q) (Some write.write) (write_in ws q)
    → write_in (w ∷ more) q ≡ cond (same_key write.key q) (Some write.write) (write_in (w ∷ ws) q)
written_behind write w ws more q true same less rest =
    let other : same_key w.key q ≡ false = key_lt-other w.key q (key_lt-then-same w.key write.key q less same) in
    rw other (rest ∙ rw same refl)
written_behind write w ws more q false other less rest =
    rw other (elim (same_key w.key q) as (λ b. cond b (Some w.write) (write_in more q) ≡ cond b (Some w.write) (write_in ws q)) [
      | true ↦ refl
      | false ↦ rest
          ∙ rw other refl
    ])

written_in_place : {V : Type 0} (write w : KeyWrite V) (ws : List (KeyWrite V)) (q : Key) (c : Bool) → same_key write.key q ≡ c → same_key w.key write.key
    ≡ true → write_in (write ∷ ws) q ≡ cond (same_key write.key q) (Some write.write) (write_in (w ∷ ws) q)
written_in_place write w ws q true same twin = rw same refl
written_in_place write w ws q false other twin = let apart : same_key w.key q ≡ false = same_key-along w.key write.key q twin ∙ other in rw (other, apart) refl

pub write_in-with_write : {V : Type 0} (write : KeyWrite V) (writes : List (KeyWrite V)) (q : Key) → write_in (with_write writes write) q
    ≡ cond (same_key write.key q) (Some write.write) (write_in writes q)
write_in-with_write write [] q = refl
write_in-with_write {V} write (w ∷ ws) q =
    let Goal : Bool → Bool → Type 0 = λ a b. key_lt w.key write.key ≡ a → key_lt write.key w.key ≡ b
    → write_in (cond a (w ∷ with_write ws write) (cond b (write ∷ w ∷ ws) (write ∷ ws))) q
    ≡ cond (same_key write.key q) (Some write.write) (write_in (w ∷ ws) q) in
    let goal : Goal (key_lt w.key write.key) (key_lt write.key w.key) =
    elim (key_lt w.key write.key) as (λ a. Goal a (key_lt write.key w.key)) [
      | true ↦ λ less _. written_behind write w ws (with_write ws write) q (same_key write.key q) refl less (write_in-with_write write ws q)
      | false ↦ elim (key_lt write.key w.key) as (Goal false)
          [ true ↦ λ _ less. refl | false ↦ λ one two. written_in_place write w ws q (same_key write.key q) refl (neither-same w.key write.key one two) ]
    ] in
    goal refl refl

pub write_in-above : {V : Type 0} (key q : Key) (writes : List (KeyWrite V)) → AreAbove key writes → same_key key q ≡ true → write_in writes q ≡ None
write_in-above key q [] above same = refl
write_in-above key q (w ∷ ws) above same =
    let other : same_key w.key q ≡ false = key_lt-other_way q w.key (same-then-key_lt q key w.key (same-sym key q same) above.0) in
    rw other (write_in-above key q ws above.1 same)

without-by_key : {V : Type 0} (key : Key) (writes : List (KeyWrite V)) (q : Key) → Rise writes → write_in (without writes key) q
    ≡ cond (same_key key q) None (write_in writes q)
without-by_key {V} key [] q rise = elim (same_key key q) as (λ b. let none : Option (Option V) = None in none ≡ cond b none none) [ true ↦ refl | false ↦ refl ]
without-by_key {V} key (w ∷ ws) q rise =
    let Goal : Bool → Bool → Type 0 =
    λ a b. same_key w.key key ≡ a → same_key key q ≡ b → write_in (cond a ws (w ∷ without ws key)) q ≡ cond b None (write_in (w ∷ ws) q) in
    let goal : Goal (same_key w.key key) (same_key key q) =
    elim (same_key w.key key) as (λ a. Goal a (same_key key q)) [
      | true ↦ elim (same_key key q) as (Goal true) [
        | true ↦ λ twin same. write_in-above w.key q ws rise.0 (same-trans w.key key q twin same)
        | false ↦ λ twin other. let apart : same_key w.key q ≡ false = same_key-along w.key key q twin ∙ other in rw apart refl
      ]
      | false ↦ elim (same_key key q) as (Goal false) [
        | true ↦ λ apart same. let other : same_key w.key q ≡ false = differs apart same in rw other (without-by_key key ws q rise.1 ∙ rw same refl)
        | false ↦ λ apart other. elim (same_key w.key q) as (λ b. cond b (Some w.write) (write_in (without ws key) q)
            ≡ cond b (Some w.write) (write_in ws q)) [ true ↦ refl | false ↦ without-by_key key ws q rise.1 ∙ rw other refl ]
      ]
    ] in
    goal refl refl
  where
    differs : same_key w.key key ≡ false → same_key key q ≡ true → same_key w.key q ≡ false
    differs apart same = grind (arith, nat_tests)

pub write_in-without : {V : Type 0} (key : Key) (writes : List (KeyWrite V)) (q : Key) → AreRising writes → write_in (without writes key) q
    ≡ cond (same_key key q) None (write_in writes q)
write_in-without key writes q rising = without-by_key key writes q (rise-from writes rising)

-- ---- what a change keeps

with_write-above : {V : Type 0} (key : Key) (write : KeyWrite V) (writes : List (KeyWrite V)) → key_lt key write.key ≡ true → AreAbove key writes
    → AreAbove key (with_write writes write)
with_write-above key write [] less above = (less, tt)
with_write-above key write (w ∷ ws) less above =
    elim (key_lt w.key write.key) as (λ a. AreAbove key (cond a (w ∷ with_write ws write) (cond (key_lt write.key w.key) (write ∷ w ∷ ws) (write ∷ ws)))) [
      | true ↦ (above.0, with_write-above key write ws less above.1)
      | false ↦ elim (key_lt write.key w.key) as (λ b. AreAbove key (cond b (write ∷ w ∷ ws) (write ∷ ws))) [ true ↦ (less, above) | false ↦ (less, above.1) ]
    ]

with_write-rise : {V : Type 0} (write : KeyWrite V) (writes : List (KeyWrite V)) → Rise writes → Rise (with_write writes write)
with_write-rise write [] rise = (tt, tt)
with_write-rise {V} write (w ∷ ws) rise =
    let Goal : Bool → Bool → Type 0 =
    λ a b. key_lt w.key write.key ≡ a → key_lt write.key w.key ≡ b → Rise (cond a (w ∷ with_write ws write) (cond b (write ∷ w ∷ ws) (write ∷ ws))) in
    let goal : Goal (key_lt w.key write.key) (key_lt write.key w.key) =
    elim (key_lt w.key write.key) as (λ a. Goal a (key_lt write.key w.key)) [
      | true ↦ λ less _. (with_write-above w.key write ws less rise.0, with_write-rise write ws rise.1)
      | false ↦ elim (key_lt write.key w.key) as (Goal false) [
        | true ↦ λ _ less. ((less, above-lower write.key w.key ws less rise.0), rise)
        | false ↦ λ one two. (above-along write.key w.key ws (same-sym w.key write.key (neither-same w.key write.key one two)) rise.0, rise.1)
      ]
    ] in
    goal refl refl

pub with_write-rising : {V : Type 0} (write : KeyWrite V) (writes : List (KeyWrite V)) → AreRising writes → AreRising (with_write writes write)
with_write-rising write writes rising = rise-to (with_write writes write) (with_write-rise write writes (rise-from writes rising))

without-above : {V : Type 0} (key gone : Key) (writes : List (KeyWrite V)) → AreAbove key writes → AreAbove key (without writes gone)
without-above key gone [] above = tt
without-above key gone (w ∷ ws) above =
    elim (same_key w.key gone) as (λ b. AreAbove key (cond b ws (w ∷ without ws gone))) [
      | true ↦ above.1
      | false ↦ (
        above.0,
        without-above key gone ws above.1,
      )
    ]

without-rise : {V : Type 0} (gone : Key) (writes : List (KeyWrite V)) → Rise writes → Rise (without writes gone)
without-rise gone [] rise = tt
without-rise gone (w ∷ ws) rise =
    elim (same_key w.key gone) as (λ b. Rise (cond b ws (w ∷ without ws gone))) [
      | true ↦ rise.1
      | false ↦ (
        without-above w.key gone ws rise.0,
        without-rise gone ws rise.1,
      )
    ]

pub without-rising : {V : Type 0} (gone : Key) (writes : List (KeyWrite V)) → AreRising writes → AreRising (without writes gone)
without-rising gone writes rising = rise-to (without writes gone) (without-rise gone writes (rise-from writes rising))

pub length-without : {V : Type 0} (gone : Key) (writes : List (KeyWrite V)) → length (without writes gone) ≤ length writes
length-without gone [] = omega arith
length-without gone (w ∷ ws) =
    elim (same_key w.key gone) as (λ b. length (cond b ws (w ∷ without ws gone)) ≤ length (w ∷ ws)) [
      | true ↦ omega arith
      | false ↦ omega (
        arith,
        length-without gone ws,
      )
    ]

pub length-with_write : {V : Type 0} (write : KeyWrite V) (writes : List (KeyWrite V)) → length (with_write writes write) ≤ length writes + 1
length-with_write write [] = omega arith
length-with_write write (w ∷ ws) =
    elim (key_lt w.key write.key) as (λ a. length (cond a (w ∷ with_write ws write) (cond (key_lt write.key w.key) (write ∷ w ∷ ws) (write ∷ ws))) ≤ length (w
    ∷ ws) + 1) [
      | true ↦ omega (arith, length-with_write write ws)
      | false ↦ elim (key_lt write.key w.key) as (λ b. length (cond b (write ∷ w ∷ ws) (write ∷ ws)) ≤ length (w
          ∷ ws) + 1) [ true ↦ omega arith | false ↦ omega arith ]
    ]

-- what holds of each write
pub all-with_write : {V : Type 0} (P : KeyWrite V → Type 0) (write : KeyWrite V) (writes : List (KeyWrite V)) → P write → AllByRecursion P writes
    → AllByRecursion P (with_write writes write)
all-with_write P write [] one all = (one, tt)
all-with_write P write (w ∷ ws) one all =
    elim (key_lt w.key write.key) as (λ a. AllByRecursion P (cond a (w ∷ with_write ws write) (cond (key_lt write.key w.key) (write ∷ w ∷ ws) (write ∷ ws)))) [
      | true ↦ (all.0, all-with_write P write ws one all.1)
      | false ↦ elim (key_lt write.key w.key) as (λ b. AllByRecursion P (cond b (write ∷ w ∷ ws) (write ∷ ws))) [ true ↦ (one, all) | false ↦ (one, all.1) ]
    ]

pub all-without : {V : Type 0} (P : KeyWrite V → Type 0) (gone : Key) (writes : List (KeyWrite V)) → AllByRecursion P writes
    → AllByRecursion P (without writes gone)
all-without P gone [] all = tt
all-without P gone (w ∷ ws) all =
    elim (same_key w.key gone) as (λ b. AllByRecursion P (cond b ws (w ∷ without ws gone))) [ true ↦ all.1 | false ↦ (all.0, all-without P gone ws all.1) ]

some-is_not-none : {A : Type 0} {x : A} → Some x ≡ None → ⊥
some-is_not-none h = cc

-- a write in place of another adds none
found-length : {V : Type 0} (write : KeyWrite V) (writes : List (KeyWrite V)) (v : Option V) → Rise writes → write_in writes write.key ≡ Some v
    → length (with_write writes write) ≡ length writes
found-length write [] v rise found = absurd (some-is_not-none (sym found))
found-length {V} write (w ∷ ws) v rise found =
    let Goal : Bool → Bool → Type 0 =
    λ a b. key_lt w.key write.key ≡ a → key_lt write.key w.key ≡ b → length (cond a (w ∷ with_write ws write) (cond b (write ∷ w ∷ ws) (write ∷ ws)))
    ≡ length (w ∷ ws) in
    let goal : Goal (key_lt w.key write.key) (key_lt write.key w.key) =
    elim (key_lt w.key write.key) as (λ a. Goal a (key_lt write.key w.key)) [
      | true ↦ λ less _. let other : same_key w.key write.key ≡ false =
          key_lt-other w.key write.key less in ap suc (found-length write ws v rise.1 (rw other at found))
      | false ↦ elim (key_lt write.key w.key) as (Goal false) [
        | true ↦ λ _ less. absurd (not_there less)
        | false ↦ λ one two. refl
      ]
    ] in
    goal refl refl
  where
    not_there : key_lt write.key w.key ≡ true → ⊥
    not_there less =
        let none : write_in (w ∷ ws) write.key ≡ None =
        write_in-above write.key write.key (w ∷ ws) (less, above-lower write.key w.key ws less rise.0) (grind (arith, nat_tests)) in
        some-is_not-none (sym found ∙ none)

pub length-found : {V : Type 0} (write : KeyWrite V) (writes : List (KeyWrite V)) (v : Option V) → AreRising writes → write_in writes write.key ≡ Some v
    → length (with_write writes write) ≡ length writes
length-found write writes v rising found = found-length write writes v (rise-from writes rising) found

-- a key whose write stands at a place is written
pub found-is_not-none : {V : Type 0} (key : Key) (writes : List (KeyWrite V)) (place : ℕ) → AreRising writes → IsPlaceOf key writes place → write_in writes key
    ≡ None → ⊥
found-is_not-none key [] place rising found none = absurd (omega (arith, found.within))
found-is_not-none key (w ∷ ws) place rising found none = some-is_not-none (sym (write_in-at key (w ∷ ws) place w rising found) ∙ none)

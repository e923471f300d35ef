-- One write put into a list of anchors: it stays in order, the key's anchor is that of the write, and so many bytes are more or less.
use Rattle.std.proofs.Common.{◌≡◌, ℕ, ◌+◌, ◌≤◌, Bool, true, false, cond, List, [], ◌∷◌, map, Option, Some, None, refl, ap, ◌∙◌, arith}
use Rattle.std.specs.List.{AllByRecursion, cons_option}
use Rattle.std.specs.List.Sorted.{IsStrictlySortedBy}
use Rattle.std.specs.declared.cmp.Ordering.{Ordering}
use Rattle.std.specs.declared.cmp.Ordering.TheVariants.{Less, Equal, Greater}
use Rattle.std.proofs.lemmas.Bool.Decides.{nat_tests}
use Rattle.history.specs.declared.key.Key.{Key}
use Rattle.history.specs.declared.key.KeyWrite.{KeyWrite}
use Rattle.history.specs.declared.time.TimedWrite.{TimedWrite}
use Rattle.history.specs.Key.{key_cmp, same_key}
use Rattle.law_image.specs.Values.{Value}
use Rattle.law_image.specs.Reading.{OldRecord}
use Rattle.law_image.specs.Facts.{old_write, old_writes}
use Rattle.law_log_sizes.specs.Sizes.{old_len}

-- ---- words

-- the keys of anchors
abbrev pub keys_of : List OldRecord → List Key
keys_of olds = map (λ (old : OldRecord). old.key) olds

-- they are by rising key
abbrev pub AreSorted : List OldRecord → Type 0
AreSorted olds = IsStrictlySortedBy key_cmp (keys_of olds)

-- all of these keys come after this one
abbrev pub AreAbove : Key → List Key → Type 0
AreAbove low keys = AllByRecursion (λ k. key_cmp low k ≡ Less) keys

-- the bytes of anchors
abbrev pub olds_len : List OldRecord → ℕ
olds_len [] = 0
olds_len (old ∷ olds) = old_len (Some old.value) + olds_len olds

-- the value of the first of a key's writes
abbrev pub first_value : List (TimedWrite Value) → Option Value
first_value [] = None
first_value (w ∷ ws) = w.write

-- a write at a time, unless it is gone
abbrev pub kept_write : ℕ → Option Value → List (TimedWrite Value)
kept_write time None = []
kept_write time (Some value) = record { time = time; write = Some value } ∷ []

-- the anchor of a write, before others
abbrev pub before_others : ℕ → Key → Option Value → List OldRecord → List OldRecord
before_others time key None olds = olds
before_others time key (Some value) olds = record { key = key; from = time; value = value } ∷ olds

-- a write put beside the first anchor, by how their keys compare; more is the rest with the write put into it
abbrev pub put_at : Ordering → ℕ → KeyWrite Value → OldRecord → List OldRecord → List OldRecord → List OldRecord
put_at Less time w old olds more = before_others time w.key w.write (old ∷ olds)
put_at Equal time w old olds more = before_others time w.key w.write olds
put_at Greater time w old olds more = old ∷ more

-- a write put into anchors by rising key
abbrev pub put : ℕ → KeyWrite Value → List OldRecord → List OldRecord
put time w [] = before_others time w.key w.write []
put time w (old ∷ olds) = put_at (key_cmp w.key old.key) time w old olds (put time w olds)

-- ---- keys

pub greater : (a b : Key) → key_cmp a b ≡ Greater → key_cmp b a ≡ Less
greater a b h = grind (arith, nat_tests)

less_trans : (a b c : Key) → key_cmp a b ≡ Less → key_cmp b c ≡ Less → key_cmp a c ≡ Less
less_trans a b c h k = grind (arith, nat_tests)

less-by_equal : (a b c : Key) → key_cmp a b ≡ Equal → key_cmp b c ≡ Less → key_cmp a c ≡ Less
less-by_equal a b c h k = grind (arith, nat_tests)

pub other_key : (a b key : Key) → key_cmp a b ≡ Less → same_key a key ≡ true → same_key b key ≡ false
other_key a b key less same = grind (arith, nat_tests)

same_own : (a b : Key) → key_cmp a b ≡ Equal → same_key b a ≡ true
same_own a b h = grind (arith, nat_tests)

greater_other : (a b : Key) → key_cmp a b ≡ Greater → same_key b a ≡ false
greater_other a b h = grind (arith, nat_tests)

equal_other : (a b key : Key) → key_cmp a b ≡ Equal → same_key a key ≡ false → same_key b key ≡ false
equal_other a b key h k = grind (arith, nat_tests)

greater_differs : (a b key : Key) → key_cmp a b ≡ Greater → same_key a key ≡ true → same_key b key ≡ false
greater_differs a b key h k = grind (arith, nat_tests)

pub above-less : (a b : Key) (ks : List Key) → key_cmp a b ≡ Less → AreAbove b ks → AreAbove a ks
above-less a b [] less above = tt
above-less a b (k ∷ ks) less above = (less_trans a b k less above.0, above-less a b ks less above.1)

above-equal : (a b : Key) (ks : List Key) → key_cmp a b ≡ Equal → AreAbove b ks → AreAbove a ks
above-equal a b [] equal above = tt
above-equal a b (k ∷ ks) equal above = (less-by_equal a b k equal above.0, above-equal a b ks equal above.1)

-- a key has no anchor among those of later keys
pub none-above : (low key : Key) (olds : List OldRecord) → same_key low key ≡ true → AreAbove low (keys_of olds) → old_writes olds key ≡ []
none-above low key [] same above = refl
none-above low key (o ∷ olds) same above =
    let other : same_key o.key key ≡ false = other_key low o.key key above.0 same in
    rw other (none-above low key olds same above.1)

pub same-itself : (key : Key) → same_key key key ≡ true
same-itself key = grind (arith, nat_tests)

-- ---- order

others-above : (low : Key) (time : ℕ) (key : Key) (write : Option Value) (olds : List OldRecord) → key_cmp low key ≡ Less → AreAbove low (keys_of olds)
    → AreAbove low (keys_of (before_others time key write olds))
others-above low time key None olds less above = above
others-above low time key (Some value) olds less above = (less, above)

put-above : (low : Key) (time : ℕ) (w : KeyWrite Value) (olds : List OldRecord) → key_cmp low w.key ≡ Less → AreAbove low (keys_of olds)
    → AreAbove low (keys_of (put time w olds))
put-above low time w [] less above = others-above low time w.key w.write [] less tt
put-above low time w (o ∷ olds) less above =
    elim (key_cmp w.key o.key) as (λ c. AreAbove low (keys_of (put_at c time w o olds (put time w olds)))) [
      | Less ↦ others-above low time w.key w.write (o ∷ olds) less above
      | Equal ↦ others-above low time w.key w.write olds less above.1
      | Greater ↦ (above.0, put-above low time w olds less above.1)
    ]

others-sorted : (time : ℕ) (key : Key) (write : Option Value) (olds : List OldRecord) → AreAbove key (keys_of olds) → AreSorted olds
    → AreSorted (before_others time key write olds)
unfolding IsStrictlySortedBy
others-sorted time key None olds above sorted = sorted
others-sorted time key (Some value) olds above sorted = (above, sorted)

pub put-sorted : (time : ℕ) (w : KeyWrite Value) (olds : List OldRecord) → AreSorted olds → AreSorted (put time w olds)
unfolding IsStrictlySortedBy
put-sorted time w [] sorted = others-sorted time w.key w.write [] tt sorted
put-sorted time w (o ∷ olds) sorted =
    let Goal : Ordering → Type 0 = λ c. key_cmp w.key o.key ≡ c → AreSorted (put_at c time w o olds (put time w olds)) in
    let all : (c : Ordering) → Goal c = λ c. elim c as Goal [
      | Less ↦ λ e. others-sorted time w.key w.write (o ∷ olds) (e, above-less w.key o.key (keys_of olds) e sorted.0) sorted
      | Equal ↦ λ e. others-sorted time w.key w.write olds (above-equal w.key o.key (keys_of olds) e sorted.0) sorted.1
      | Greater ↦ λ e. (put-above o.key time w olds (greater w.key o.key e) sorted.0, put-sorted time w olds sorted.1)
    ] in
    all (key_cmp w.key o.key) refl

-- ---- the anchors of each key

others-others : (time : ℕ) (key : Key) (write : Option Value) (olds : List OldRecord) (other : Key) → same_key key other ≡ false
    → old_writes (before_others time key write olds) other ≡ old_writes olds other
others-others time key None olds other differs = refl
others-others time key (Some value) olds other differs = rw differs refl

others-own : (time : ℕ) (key : Key) (write : Option Value) (olds : List OldRecord) (own : Key) → same_key key own ≡ true → old_writes olds own ≡ []
    → old_writes (before_others time key write olds) own ≡ kept_write time write
others-own time key None olds own same none = none
others-own time key (Some value) olds own same none = rw (same, none) refl

-- those of other keys stay
pub put-others : (time : ℕ) (w : KeyWrite Value) (olds : List OldRecord) (key : Key) → same_key w.key key ≡ false
    → old_writes (put time w olds) key ≡ old_writes olds key
put-others time w [] key differs = others-others time w.key w.write [] key differs
put-others time w (o ∷ olds) key differs =
    let Goal : Ordering → Type 0 =
    λ c. key_cmp w.key o.key ≡ c → old_writes (put_at c time w o olds (put time w olds)) key ≡ old_writes (o ∷ olds) key in
    let all : (c : Ordering) → Goal c = λ c. elim c as Goal [
      | Less ↦ λ e. others-others time w.key w.write (o ∷ olds) key differs
      | Equal ↦ λ e.
          let also : same_key o.key key ≡ false = equal_other w.key o.key key e differs in
          others-others time w.key w.write olds key differs ∙ rw also refl
      | Greater ↦ λ e. ap (λ l. cons_option (old_write key o) l) (put-others time w olds key differs)
    ] in
    all (key_cmp w.key o.key) refl

-- that of its own key is made by the write
pub put-own : (time : ℕ) (w : KeyWrite Value) (olds : List OldRecord) (key : Key) → AreSorted olds → same_key w.key key ≡ true
    → old_writes (put time w olds) key ≡ kept_write time w.write
unfolding IsStrictlySortedBy
put-own time w [] key sorted same = others-own time w.key w.write [] key same refl
put-own time w (o ∷ olds) key sorted same =
    let Goal : Ordering → Type 0 =
    λ c. key_cmp w.key o.key ≡ c → old_writes (put_at c time w o olds (put time w olds)) key ≡ kept_write time w.write in
    let all : (c : Ordering) → Goal c = λ c. elim c as Goal [
      | Less ↦ λ e.
          others-own time w.key w.write (o ∷ olds) key same
          (none-above w.key key (o ∷ olds) same (e, above-less w.key o.key (keys_of olds) e sorted.0))
      | Equal ↦ λ e. others-own time w.key w.write olds key same (none-above w.key key olds same (above-equal w.key o.key (keys_of olds) e sorted.0))
      | Greater ↦ λ e.
          let differs : same_key o.key key ≡ false = greater_differs w.key o.key key e same in
          rw differs (put-own time w olds key sorted.1 same)
    ] in
    all (key_cmp w.key o.key) refl

-- ---- bytes

others-len : (time : ℕ) (key : Key) (write : Option Value) (olds : List OldRecord) → olds_len (before_others time key write olds)
    ≡ old_len write + olds_len olds
others-len time key None olds = omega arith
others-len time key (Some value) olds = refl

-- the anchor of a key's value is among the bytes
pub value-len : (olds : List OldRecord) (key : Key) → old_len (first_value (old_writes olds key)) ≤ olds_len olds
value-len [] key = omega arith
value-len (o ∷ olds) key =
    let rest = value-len olds key in
    let Goal : Bool → Type 0 =
    λ b. old_len (first_value (cons_option (cond b (Some (record { time = o.from; write = Some o.value })) None) (old_writes olds key)))
    ≤ old_len (Some o.value) + olds_len olds in
    elim (same_key o.key key) as Goal [ true ↦ omega arith | false ↦ omega (arith, rest) ]

-- a write takes away the anchor of its key's old value, and brings that of its own
pub put-len : (time : ℕ) (w : KeyWrite Value) (olds : List OldRecord) → AreSorted olds
    → olds_len (put time w olds) + old_len (first_value (old_writes olds w.key)) ≡ olds_len olds + old_len w.write
unfolding IsStrictlySortedBy
put-len time w [] sorted = omega (arith, others-len time w.key w.write [])
put-len time w (o ∷ olds) sorted =
    let rest = put-len time w olds sorted.1 in
    let Goal : Ordering → Type 0 =
    λ c. key_cmp w.key o.key ≡ c → olds_len (put_at c time w o olds (put time w olds)) + old_len (first_value (old_writes (o ∷ olds) w.key))
    ≡ olds_len (o ∷ olds) + old_len w.write in
    let all : (c : Ordering) → Goal c = λ c. elim c as Goal [
      | Less ↦ λ e.
          let none : old_writes (o ∷ olds) w.key ≡ [] =
          none-above w.key w.key (o ∷ olds) (same-itself w.key) (e, above-less w.key o.key (keys_of olds) e sorted.0) in
          omega (arith, ap (λ l. old_len (first_value l)) none, others-len time w.key w.write (o ∷ olds))
      | Equal ↦ λ e.
          let same : same_key o.key w.key ≡ true = same_own w.key o.key e in
          let was : old_len (first_value (old_writes (o ∷ olds) w.key)) ≡ old_len (Some o.value) = rw same refl in
          omega (arith, was, others-len time w.key w.write olds)
      | Greater ↦ λ e.
          let differs : same_key o.key w.key ≡ false = greater_other w.key o.key e in
          let was : old_len (first_value (old_writes (o ∷ olds) w.key)) ≡ old_len (first_value (old_writes olds w.key)) = rw differs refl in
          omega (arith, was, rest)
    ] in
    all (key_cmp w.key o.key) refl

-- A scan shows exactly the records of its relation that have a value at its time, rising.
use Rattle.std.proofs.Common.{◌≡◌, ℕ, zero, suc, ◌+◌, ◌<◌, ◌==◌, Bool, true, false, cond, List, [], ◌∷◌, ◌++◌, map, Option, Some, None, refl, ap, sym, subst}
use Rattle.std.proofs.Common.{arith, ⊎_elim}
use Rattle.std.specs.Prelude.{Contains, find, option_map, option_to_list}
use Rattle.std.specs.List.{AllByRecursion, slice_index}
use Rattle.std.specs.List.Sorted.{IsStrictlyIncreasing}
use Rattle.std.proofs.lemmas.Bool.Decides.{nat_tests}
use Rattle.std.proofs.lemmas.List.Elements.{Contains-append_left, Contains-append_right, Contains-append_cases}
use Rattle.history.specs.declared.key.Key.{Key}
use Rattle.history.specs.Key.{same_key, key_of}
use Rattle.history.specs.Time.{value_at}
use Rattle.history.proofs.Members.{Contains-nil, Contains-head, Contains-cons_cases}
use Rattle.chains.specs.Writes.{Value}
use Rattle.chains.specs.KeyWrites.{KeyWrites, is_of, AllAbove, IsOrdered, writes_in, writes_of}
use Rattle.chains.specs.Scans.{shown, scanned, IsScanOf}
use Rattle.chains.proofs.Order.{find-below}

abbrev pub Pair : Type 0
Pair = ℕ × Value

value_of : ℕ → List KeyWrites → ℕ → ℕ → Option Value
value_of relation m number time = value_at (writes_of m (key_of relation number)) time

-- what one chain shows
only_pair : (number : ℕ) (value : Value) (o : Option Value) (n : ℕ)
    → Contains (option_to_list (option_map (λ (v : Value). let pair : Pair = (n, v) in pair) o)) (number, value) → (n ≡ number) × (o ≡ Some value)
only_pair number value None n there = let pair : Pair = (number, value) in absurd (Contains-nil pair there)
only_pair number value (Some v) n there =
    let pair : Pair = (number, value) in
    let first : Pair = (n, v) in
    ⊎_elim
    (λ (here : first ≡ pair). (ap (λ (p : Pair). p.0) here, ap (λ (p : Pair). Some p.1) here))
    (λ (later : Contains [] pair). absurd (Contains-nil pair later))
    (Contains-cons_cases first [] pair there)

shown_has : (relation time : ℕ) (c : KeyWrites) (number : ℕ) (value : Value) → Contains (shown relation time c) (number, value)
    → (c.key.relation ≡ relation) × (c.key.record ≡ number) × (value_at c.writes time ≡ Some value)
shown_has relation time c number value there =
    let pair : Pair = (number, value) in
    let Goal : Bool → Type 0 = λ b. (c.key.relation == relation) ≡ b
    → Contains (cond b (option_to_list (option_map (λ (v : Value). let p : Pair = (c.key.record, v) in p) (value_at c.writes time))) []) pair
    → (c.key.relation ≡ relation) × (c.key.record ≡ number) × (value_at c.writes time ≡ Some value) in
    let all : (b : Bool) → Goal b = λ b. elim b as Goal [
      | true ↦ λ is h.
          let both = only_pair number value (value_at c.writes time) c.key.record h in
          let same : c.key.relation ≡ relation = grind (arith, nat_tests) in
          (same, both.0, both.1)
      | false ↦ λ is h. absurd (Contains-nil pair h)
    ] in
    all (c.key.relation == relation) refl there

has_shown : (relation time : ℕ) (c : KeyWrites) (number : ℕ) (value : Value) → c.key.relation ≡ relation → c.key.record ≡ number → value_at c.writes time
    ≡ Some value
    → Contains (shown relation time c) (number, value)
has_shown relation time c number value same record_is is =
    let pair : Pair = (number, value) in
    let here : (c.key.relation == relation) ≡ true = grind (arith, nat_tests) in
    let first : Pair = (c.key.record, value) in
    let one : shown relation time c ≡ first ∷ [] = rw (here, is) refl in
    let first_is : first ≡ pair = ap (λ (n : ℕ). let p : Pair = (n, value) in p) record_is in
    subst (λ (ps : List Pair). Contains ps pair) (sym one) (Contains-head first [] pair first_is)

-- a key above all of them has no value
none_below : (relation time number : ℕ) (key : Key) (m : List KeyWrites) → AllAbove key m → same_key key (key_of relation number) ≡ true
    → value_of relation m number time ≡ None
unfolding value_of
none_below relation time number key m up same =
    let is : key ≡ key_of relation number = key_is key (key_of relation number) same in
    ap (λ (o : Option KeyWrites). value_at (writes_in o) time) (find-below (key_of relation number) m (subst (λ (k : Key). AllAbove k m) is up))
  where
    key_is : (a b : Key) → same_key a b ≡ true → a ≡ b
    key_is a b h =
        let relations : a.relation ≡ b.relation = grind (arith, nat_tests) in
        let numbers : a.record ≡ b.record = grind (arith, nat_tests) in
        λ i. record { relation = relations i; «record» = numbers i }

shown_only : (relation time : ℕ) (m : List KeyWrites) → IsOrdered m → (number : ℕ) (value : Value) → Contains (scanned relation time m) (number, value)
    → value_of relation m number time ≡ Some value
unfolding value_of
shown_only relation time [] o number value there = let pair : Pair = (number, value) in absurd (Contains-nil pair there)
shown_only relation time (c ∷ cs) o number value there =
    let pair : Pair = (number, value) in
    let key = key_of relation number in
    ⊎_elim
    (λ (here : Contains (shown relation time c) pair).
    let has = shown_has relation time c number value here in
    let same : same_key c.key key ≡ true = grind (arith, nat_tests, has.0, has.1) in
    rw same has.2)
    (λ (later : Contains (scanned relation time cs) pair).
    let rest = shown_only relation time cs o.1 number value later in
    let Goal : Bool → Type 0 = λ b. same_key c.key key ≡ b → value_at (writes_in (cond b (Some c) (find (is_of key) cs))) time ≡ Some value in
    let all : (b : Bool) → Goal b = λ b. elim b as Goal [
      | true ↦ λ same. let none = none_below relation time number c.key cs o.0 same in cc
      | false ↦ λ other. rest
    ] in
    all (same_key c.key key) refl)
    (Contains-append_cases (shown relation time c) (scanned relation time cs) pair there)

shown_all : (relation time : ℕ) (m : List KeyWrites) → (number : ℕ) (value : Value) → value_of relation m number time ≡ Some value
    → Contains (scanned relation time m) (number, value)
unfolding value_of
shown_all relation time [] number value is = cc
shown_all relation time (c ∷ cs) number value is =
    let pair : Pair = (number, value) in
    let key = key_of relation number in
    let Goal : Bool → Type 0 =
    λ b. same_key c.key key ≡ b → value_at (writes_in (cond b (Some c) (find (is_of key) cs))) time ≡ Some value
    → Contains (shown relation time c ++ scanned relation time cs) pair in
    let all : (b : Bool) → Goal b = λ b. elim b as Goal [
      | true ↦ λ same h.
          let relation_is : c.key.relation ≡ relation = grind (arith, nat_tests) in
          let number_is : c.key.record ≡ number = grind (arith, nat_tests) in
          Contains-append_left (shown relation time c) (scanned relation time cs) pair (has_shown relation time c number value relation_is number_is h)
      | false ↦ λ other h. Contains-append_right (shown relation time c) (scanned relation time cs) pair (shown_all relation time cs number value h)
    ] in
    all (same_key c.key key) refl is

-- ---- rising

AllOver : ℕ → List Pair → Type 0
AllOver n ps = AllByRecursion (λ (p : Pair). n < p.0) ps

over_cons : (n : ℕ) (ps : List Pair) → AllOver n ps → IsStrictlyIncreasing (map (λ (p : Pair). p.0) ps) → IsStrictlyIncreasing (n ∷ map (λ (p : Pair). p.0) ps)
unfolding AllOver
over_cons n [] over up k h = absurd (omega arith)
over_cons n (p ∷ ps) over up zero h = over.0
over_cons n (p ∷ ps) over up (suc k) h =
    let xs = map (λ (q : Pair). q.0) (p ∷ ps) in
    let next : suc k + 1 ≡ suc (k + 1) = omega arith in
    subst (λ (j : ℕ). slice_index xs k < slice_index (n ∷ xs) j) (sym next) (up k (omega arith))

over_option : (n number : ℕ) (o : Option Value) (ps : List Pair) → n < number → AllOver n ps
    → AllOver n (option_to_list (option_map (λ (v : Value). let p : Pair = (number, v) in p) o) ++ ps)
unfolding AllOver
over_option n number None ps less over = over
over_option n number (Some v) ps less over = (less, over)

all_over : (relation time : ℕ) (key : Key) (m : List KeyWrites) → key.relation ≡ relation → AllAbove key m → AllOver key.record (scanned relation time m)
unfolding AllOver
all_over relation time key [] is up = tt
all_over relation time key (c ∷ cs) is up =
    let rest = all_over relation time key cs is up.1 in
    let Goal : Bool → Type 0 =
    λ b. (c.key.relation == relation) ≡ b
    → AllOver key.record (cond b (option_to_list (option_map (λ (v : Value). let p : Pair = (c.key.record, v) in p) (value_at c.writes time))) []
    ++ scanned relation time cs) in
    let all : (b : Bool) → Goal b = λ b. elim b as Goal [
      | true ↦ λ same.
          let above = up.0 in
          let less : key.record < c.key.record = grind (arith, nat_tests) in
          over_option key.record c.key.record (value_at c.writes time) (scanned relation time cs) less rest
      | false ↦ λ other. rest
    ] in
    all (c.key.relation == relation) refl

option_rises : (number : ℕ) (o : Option Value) (ps : List Pair) → AllOver number ps → IsStrictlyIncreasing (map (λ (p : Pair). p.0) ps)
    → IsStrictlyIncreasing (map (λ (p : Pair). p.0) (option_to_list (option_map (λ (v : Value). let p : Pair = (number, v) in p) o) ++ ps))
option_rises number None ps over up = up
option_rises number (Some v) ps over up = over_cons number ps over up

shown_rises : (relation time : ℕ) (m : List KeyWrites) → IsOrdered m → IsStrictlyIncreasing (map (λ (p : Pair). p.0) (scanned relation time m))
shown_rises relation time [] o = λ k h. absurd (omega arith)
shown_rises relation time (c ∷ cs) o =
    let rest = shown_rises relation time cs o.1 in
    let Goal : Bool → Type 0 = λ b. (c.key.relation == relation) ≡ b
    → IsStrictlyIncreasing
    (map (λ (p : Pair). p.0) (cond b (option_to_list (option_map (λ (v : Value). let p : Pair = (c.key.record, v) in p) (value_at c.writes time))) []
    ++ scanned relation time cs)) in
    let all : (b : Bool) → Goal b = λ b. elim b as Goal [
      | true ↦ λ same.
          let is : c.key.relation ≡ relation = grind (arith, nat_tests) in
          option_rises c.key.record (value_at c.writes time) (scanned relation time cs) (all_over relation time c.key cs is o.0) rest
      | false ↦ λ other. rest
    ] in
    all (c.key.relation == relation) refl

pub scan_is : (m : List KeyWrites) (relation time : ℕ) → IsOrdered m → IsScanOf m relation time (scanned relation time m)
unfolding value_of
scan_is m relation time o = record {
  rising = shown_rises relation time m o;
  each = λ number value. (shown_only relation time m o number value, shown_all relation time m number value);
}

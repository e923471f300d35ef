-- Writes over the pairs of a relation are what a transaction sees of it.
use Rattle.std.proofs.Common.{◌≡◌, ℕ, zero, suc, ◌<◌, ◌≤◌, ◌==◌, Bool, true, false, cond, nat_lt, List, [], ◌∷◌, ◌++◌, length, map, get_or, Option, None, Some}
use Rattle.std.proofs.Common.{unwrap_or, Contains, refl, arith, add-one, ap, sym, ◌∙◌, inl, inr}
use Rattle.std.specs.List.Sorted.{IsStrictlyIncreasing}
use Rattle.std.proofs.lemmas.Bool.{cases_lt, cases_eq}
use Rattle.std.proofs.lemmas.Bool.Decides.{nat_tests}
use Rattle.std.proofs.lemmas.List.Kept.{AllPairs-from_increasing}
use Rattle.history.specs.declared.key.Key.{Key}
use Rattle.history.specs.declared.key.KeyWrite.{KeyWrite}
use Rattle.history.specs.Key.{key_of, key_lt, same_key, write_in}
use Rattle.history.specs.Queries.{IsScan}
use Rattle.snapshot.specs.WriteSets.{AreRising}
use Rattle.snapshot.specs.Scans.{lesser, from_record, without_first, pair_of, overlaid}
use Rattle.snapshot.proofs.WriteSetLemmas.{AreAbove, Rise, rise-from, write_in-above, key_lt-other_way, above-lower as keys_above}

-- ---- pairs

-- the value of a record
abbrev pub looked_up : {V : Type 0} → ℕ → List (ℕ × V) → Option V
looked_up n [] = None
looked_up n (p ∷ ps) = cond (p.0 == n) (Some p.1) (looked_up n ps)

-- all records are greater than this one
abbrev pub Above : {V : Type 0} → ℕ → List (ℕ × V) → Type 0
Above k [] = Unit {0}
Above k (p ∷ ps) = (k < p.0) × Above k ps

-- or at least this one
abbrev pub AtLeast : {V : Type 0} → ℕ → List (ℕ × V) → Type 0
AtLeast k [] = Unit {0}
AtLeast k (p ∷ ps) = (k ≤ p.0) × AtLeast k ps

abbrev pub Climb : {V : Type 0} → List (ℕ × V) → Type 0
Climb [] = Unit {0}
Climb (p ∷ ps) = Above p.0 ps × Climb ps

above-from : {V : Type 0} (k : ℕ) (ps : List (ℕ × V)) → ((j : ℕ) → j < length ps → k < get_or (map (λ (p : ℕ × V). p.0) ps) j 0) → Above k ps
above-from k [] h = tt
above-from k (p ∷ ps) h = (h 0 (omega arith), above-from k ps (λ j low. h (suc j) (omega arith)))

length-firsts : {V : Type 0} (ps : List (ℕ × V)) → length (map (λ (p : ℕ × V). p.0) ps) ≡ length ps
length-firsts [] = refl
length-firsts (p ∷ ps) = ap suc (length-firsts ps)

climb-from_pairs : {V : Type 0} (ps : List (ℕ × V))
    → ((i j d : ℕ) → i < j → j < length ps → get_or (map (λ (p : ℕ × V). p.0) ps) i d < get_or (map (λ (p : ℕ × V). p.0) ps) j d) → Climb ps
climb-from_pairs [] h = tt
climb-from_pairs (p ∷ ps) h = (
  above-from p.0 ps (λ j low. h 0 (suc j) 0 (omega arith) (omega arith)),
  climb-from_pairs ps (λ i j d less low. h (suc i) (suc j) d (omega arith) (omega arith)),
)

pub climb-from : {V : Type 0} (ps : List (ℕ × V)) → IsStrictlyIncreasing (map (λ (p : ℕ × V). p.0) ps) → Climb ps
climb-from {V} ps h =
    climb-from_pairs ps (λ i j d less low. AllPairs-from_increasing (map (λ (p : ℕ × V). p.0) ps) h i j d less (omega (arith, length-firsts ps)))

adjacent : {V : Type 0} (ps : List (ℕ × V)) (k : ℕ) → Climb ps → suc k < length ps
    → get_or (map (λ (p : ℕ × V). p.0) ps) k 0 < get_or (map (λ (p : ℕ × V). p.0) ps) (suc k) 0
adjacent [] k h low = absurd (omega arith)
adjacent (p ∷ []) k h low = absurd (omega arith)
adjacent (p ∷ q ∷ ps) zero h low = h.0.0
adjacent (p ∷ q ∷ ps) (suc k) h low = adjacent (q ∷ ps) k h.1 (omega arith)

pub climb-to : {V : Type 0} (ps : List (ℕ × V)) → Climb ps → IsStrictlyIncreasing (map (λ (p : ℕ × V). p.0) ps)
climb-to ps h k low = rw add-one (adjacent ps k h (omega (arith, length-firsts ps)))

above-at : {V : Type 0} (k : ℕ) (ps : List (ℕ × V)) (j : ℕ) (d : ℕ × V) → Above k ps → j < length ps → k < (get_or ps j d).0
above-at k [] j d h low = absurd (omega arith)
above-at k (p ∷ ps) zero d h low = h.0
above-at k (p ∷ ps) (suc j) d h low = above-at k ps j d h.1 (omega arith)

above-lower : {V : Type 0} (low high : ℕ) (ps : List (ℕ × V)) → low ≤ high → Above high ps → Above low ps
above-lower low high [] le h = tt
above-lower low high (p ∷ ps) le h = (omega (arith, h.0), above-lower low high ps le h.1)

pub none-above : {V : Type 0} (n k : ℕ) (ps : List (ℕ × V)) → n ≤ k → Above k ps → looked_up n ps ≡ None
none-above n k [] le h = refl
none-above n k (p ∷ ps) le h = let greater : k < p.0 = h.0 in let apart : (p.0 == n) ≡ false = grind (arith, nat_tests) in rw apart (none-above n k ps le h.1)

at_place : {V : Type 0} (n : ℕ) (v : V) (ps : List (ℕ × V)) (k : ℕ) → Climb ps → k < length ps → get_or ps k (n, v) ≡ (n, v) → looked_up n ps ≡ Some v
at_place n v [] k h low is = absurd (omega arith)
at_place {V} n v (p ∷ ps) zero h low is =
    let first : p.0 ≡ n = ap (λ (q : ℕ × V). q.0) is in
    let same : (p.0 == n) ≡ true = grind (arith, nat_tests) in
    rw same (ap (λ (q : ℕ × V). Some q.1) is)
at_place {V} n v (p ∷ ps) (suc k) h low is =
    let greater : p.0 < (get_or ps k (n, v)).0 = above-at p.0 ps k (n, v) h.0 (omega arith) in
    let first : (get_or ps k (n, v)).0 ≡ n = ap (λ (q : ℕ × V). q.0) is in
    let apart : (p.0 == n) ≡ false = grind (arith, nat_tests) in
    rw apart (at_place n v ps k h.1 (omega arith) is)

pub looked_up-contained : {V : Type 0} (n : ℕ) (v : V) (ps : List (ℕ × V)) → Climb ps → Contains ps (n, v) → looked_up n ps ≡ Some v
looked_up-contained n v ps h found = at_place n v ps found.0 h found.1 found.2

some-is_not-none : {A : Type 0} {x : A} → Some x ≡ None → ⊥
some-is_not-none h = cc

some-inside : {A : Type 0} {x y : A} → Some x ≡ Some y → x ≡ y
some-inside h = cc

same-number : (a b : ℕ) → (a == b) ≡ true → a ≡ b
same-number a b h = grind (arith, nat_tests)

pub contained-looked_up : {V : Type 0} (n : ℕ) (v : V) (ps : List (ℕ × V)) → looked_up n ps ≡ Some v → Contains ps (n, v)
contained-looked_up n v [] is = absurd (some-is_not-none (sym is))
contained-looked_up {V} n v (p ∷ ps) is =
    let Goal : Bool → Type 0 = λ b. (p.0 == n) ≡ b → cond b (Some p.1) (looked_up n ps) ≡ Some v → Contains (p ∷ ps) (n, v) in
    let goal : Goal (p.0 == n) = elim (p.0 == n) as Goal [
      | true ↦ λ same found. let first : p.0 ≡ n = same-number p.0 n same in let second : p.1 ≡ v =
          some-inside found in (0, omega arith, λ i. (first i, second i))
      | false ↦ λ other found. let rest : Contains ps (n, v) =
          contained-looked_up n v ps found in (suc rest.0, let low : rest.0 < length ps = rest.1 in omega arith, rest.2)
    ] in
    goal refl is

-- ---- one write over pairs

abbrev behind : {V : Type 0} → ℕ → List (ℕ × V) → List (ℕ × V)
behind m ps = without_first m (from_record m ps)

found_lesser : {V : Type 0} (n m : ℕ) (ps more : List (ℕ × V)) → n < m → Climb ps → looked_up n more ≡ None → looked_up n (lesser m ps ++ more) ≡ looked_up n ps
found_lesser n m [] more less h none = none
found_lesser {V} n m (p ∷ ps) more less h none =
    let Goal : Bool → Type 0 = λ b. nat_lt p.0 m ≡ b → looked_up n (cond b (p ∷ lesser m ps) [] ++ more) ≡ looked_up n (p ∷ ps) in
    let goal : Goal (nat_lt p.0 m) = elim (nat_lt p.0 m) as Goal [
      | true ↦ λ below. ap (λ (o : Option V). cond (p.0 == n) (Some p.1) o) (found_lesser n m ps more less h.1 none)
      | false ↦ λ above. let apart : (p.0 == n) ≡ false = grind (arith, nat_tests) in let le : n ≤ p.0 =
          grind (arith, nat_tests) in none ∙ sym (rw apart (none-above n p.0 ps le h.0))
    ] in
    goal refl

past_lesser : {V : Type 0} (n m : ℕ) (ps more : List (ℕ × V)) → m ≤ n → looked_up n (lesser m ps ++ more) ≡ looked_up n more
past_lesser n m [] more le = refl
past_lesser n m (p ∷ ps) more le =
    let Goal : Bool → Type 0 = λ b. nat_lt p.0 m ≡ b → looked_up n (cond b (p ∷ lesser m ps) [] ++ more) ≡ looked_up n more in
    let goal : Goal (nat_lt p.0 m) = elim (nat_lt p.0 m) as Goal [
      | true ↦ λ below. let apart : (p.0 == n) ≡ false = grind (arith, nat_tests) in rw apart (past_lesser n m ps more le)
      | false ↦ λ above. refl
    ] in
    goal refl

behind_upto : {V : Type 0} (n m : ℕ) (ps : List (ℕ × V)) → n ≤ m → Climb ps → looked_up n (behind m ps) ≡ None
behind_upto n m [] le h = refl
behind_upto n m (p ∷ ps) le h =
    let Goal : Bool → Bool → Type 0 = λ a b. nat_lt p.0 m ≡ a → (p.0 == m) ≡ b → looked_up n (without_first m (cond a (from_record m ps) (p ∷ ps))) ≡ None in
    let goal : Goal (nat_lt p.0 m) (p.0 == m) = elim (nat_lt p.0 m) as (λ a. Goal a (p.0 == m)) [
      | true ↦ λ below _. behind_upto n m ps le h.1
      | false ↦ λ above eq. by_eq (p.0 == m) refl above
    ] in
    goal refl refl
  where
    by_eq : (b : Bool) → (p.0 == m) ≡ b → nat_lt p.0 m ≡ false → looked_up n (cond (p.0 == m) ps (p ∷ ps)) ≡ None
    by_eq true same above = let upto : n ≤ p.0 = grind (arith, nat_tests) in rw same (none-above n p.0 ps upto h.0)
    by_eq false other above =
        let apart : (p.0 == n) ≡ false = grind (arith, nat_tests) in
        let upto : n ≤ p.0 = grind (arith, nat_tests) in
        rw (other, apart) (none-above n p.0 ps upto h.0)

behind_after : {V : Type 0} (n m : ℕ) (ps : List (ℕ × V)) → m < n → looked_up n (behind m ps) ≡ looked_up n ps
behind_after n m [] less = refl
behind_after n m (p ∷ ps) less =
    let Goal : Bool → Type 0 = λ a. nat_lt p.0 m ≡ a → looked_up n (without_first m (cond a (from_record m ps) (p ∷ ps))) ≡ looked_up n (p ∷ ps) in
    let goal : Goal (nat_lt p.0 m) = elim (nat_lt p.0 m) as Goal [
      | true ↦ λ below. let apart : (p.0 == n) ≡ false = grind (arith, nat_tests) in rw apart (behind_after n m ps less)
      | false ↦ λ above. by_eq (p.0 == m) refl
    ] in
    goal refl
  where
    by_eq : (b : Bool) → (p.0 == m) ≡ b → looked_up n (cond (p.0 == m) ps (p ∷ ps)) ≡ looked_up n (p ∷ ps)
    by_eq true same = let apart : (p.0 == n) ≡ false = grind (arith, nat_tests) in rw (same, apart) refl
    by_eq false other = rw other refl

climb-behind : {V : Type 0} (m : ℕ) (ps : List (ℕ × V)) → Climb ps → Climb (behind m ps)
climb-behind m [] h = tt
climb-behind m (p ∷ ps) h =
    elim (nat_lt p.0 m) as (λ a. Climb (without_first m (cond a (from_record m ps) (p ∷ ps)))) [
      | true ↦ climb-behind m ps h.1
      | false ↦ elim (p.0 == m) as (λ b. Climb (cond b ps (p ∷ ps))) [ true ↦ h.1 | false ↦ h ]
    ]

above-behind : {V : Type 0} (m : ℕ) (ps : List (ℕ × V)) → Climb ps → Above m (behind m ps)
above-behind m [] h = tt
above-behind m (p ∷ ps) h =
    let Goal : Bool → Type 0 = λ a. nat_lt p.0 m ≡ a → Above m (without_first m (cond a (from_record m ps) (p ∷ ps))) in
    let goal : Goal (nat_lt p.0 m) = elim (nat_lt p.0 m) as Goal [ true ↦ λ below. above-behind m ps h.1 | false ↦ λ above. by_eq (p.0 == m) refl above ] in
    goal refl
  where
    by_eq : (b : Bool) → (p.0 == m) ≡ b → nat_lt p.0 m ≡ false → Above m (cond (p.0 == m) ps (p ∷ ps))
    by_eq true same above = let upto : m ≤ p.0 = grind (arith, nat_tests) in rw same (above-lower m p.0 ps upto h.0)
    by_eq false other above = let less : m < p.0 = grind (arith, nat_tests) in rw other (less, above-lower m p.0 ps (omega arith) h.0)

still_above : {V : Type 0} (k m : ℕ) (ps : List (ℕ × V)) → Above k ps → Above k (behind m ps)
still_above k m [] h = tt
still_above k m (p ∷ ps) h =
    elim (nat_lt p.0 m) as (λ a. Above k (without_first m (cond a (from_record m ps) (p ∷ ps)))) [
      | true ↦ still_above k m ps h.1
      | false ↦ elim (p.0 == m) as (λ b. Above k (cond b ps (p ∷ ps))) [ true ↦ h.1 | false ↦ h ]
    ]

above-lesser : {V : Type 0} (k m : ℕ) (ps more : List (ℕ × V)) → Above k ps → Above k more → Above k (lesser m ps ++ more)
above-lesser k m [] more h rest = rest
above-lesser k m (p ∷ ps) more h rest =
    elim (nat_lt p.0 m) as (λ a. Above k (cond a (p ∷ lesser m ps) [] ++ more)) [ true ↦ (h.0, above-lesser k m ps more h.1 rest) | false ↦ rest ]

above-least : {V : Type 0} (k m : ℕ) (ps : List (ℕ × V)) → k < m → AtLeast m ps → Above k ps
above-least k m [] less h = tt
above-least k m (p ∷ ps) less h = (omega (arith, h.0), above-least k m ps less h.1)

least-above : {V : Type 0} (m : ℕ) (ps : List (ℕ × V)) → Above m ps → AtLeast m ps
least-above m [] h = tt
least-above m (p ∷ ps) h = (omega (arith, h.0), least-above m ps h.1)

climb-lesser : {V : Type 0} (m : ℕ) (ps more : List (ℕ × V)) → Climb ps → Climb more → AtLeast m more → Climb (lesser m ps ++ more)
climb-lesser m [] more h rest least = rest
climb-lesser m (p ∷ ps) more h rest least =
    let Goal : Bool → Type 0 = λ a. nat_lt p.0 m ≡ a → Climb (cond a (p ∷ lesser m ps) [] ++ more) in
    let goal : Goal (nat_lt p.0 m) = elim (nat_lt p.0 m) as Goal [
      | true ↦ λ below. let less : p.0 < m =
          grind (arith, nat_tests) in (above-lesser p.0 m ps more h.0 (above-least p.0 m more less least), climb-lesser m ps more h.1 rest least)
      | false ↦ λ above. rest
    ] in
    goal refl

-- ---- all writes over pairs

-- the writes of a relation are of greater records
abbrev AreGreater : {V : Type 0} → ℕ → ℕ → List (KeyWrite V) → Type 0
AreGreater relation k [] = Unit {0}
AreGreater relation k (w ∷ ws) = ((w.key.relation == relation) ≡ true → k < w.key.record) × AreGreater relation k ws

greater-from : {V : Type 0} (relation : ℕ) (key : Key) (ws : List (KeyWrite V)) → (key.relation == relation) ≡ true → AreAbove key ws
    → AreGreater relation key.record ws
greater-from relation key [] of_it h = tt
greater-from relation key (w ∷ ws) of_it h =
    (λ also. let less : key_lt key w.key ≡ true = h.0 in grind (arith, nat_tests), greater-from relation key ws of_it h.1)

above-pair : {V : Type 0} (k : ℕ) (w : KeyWrite V) (write : Option V) (more : List (ℕ × V)) → w.write ≡ write → k < w.key.record → Above k more
    → Above k (pair_of w ++ more)
above-pair k w None more is less h = rw is h
above-pair k w (Some v) more is less h = rw is (less, h)

least-pair : {V : Type 0} (w : KeyWrite V) (write : Option V) (more : List (ℕ × V)) → w.write ≡ write → Above w.key.record more
    → AtLeast w.key.record (pair_of w ++ more)
least-pair w None more is h = rw is (least-above w.key.record more h)
least-pair w (Some v) more is h = rw is (omega arith, least-above w.key.record more h)

climb-pair : {V : Type 0} (w : KeyWrite V) (write : Option V) (more : List (ℕ × V)) → w.write ≡ write → Above w.key.record more → Climb more
    → Climb (pair_of w ++ more)
climb-pair w None more is above h = rw is h
climb-pair w (Some v) more is above h = rw is (above, h)

above-overlaid : {V : Type 0} (relation k : ℕ) (ps : List (ℕ × V)) (ws : List (KeyWrite V)) → Above k ps → AreGreater relation k ws
    → Above k (overlaid relation ps ws)
above-overlaid relation k ps [] h greater = h
above-overlaid relation k ps (w ∷ ws) h greater =
    let m = w.key.record in
    let Goal : Bool → Type 0 =
    λ b. (w.key.relation == relation) ≡ b → Above k (cond b (lesser m ps ++ (pair_of w ++ overlaid relation (behind m ps) ws)) (overlaid relation ps ws)) in
    let goal : Goal (w.key.relation == relation) = elim (w.key.relation == relation) as Goal [
      | true ↦ λ of_it. above-lesser k m ps _ h
          (above-pair k w w.write _ refl (greater.0 of_it) (above-overlaid relation k (behind m ps) ws (still_above k m ps h) greater.1))
      | false ↦ λ other. above-overlaid relation k ps ws h greater.1
    ] in
    goal refl

climb-overlaid : {V : Type 0} (relation : ℕ) (ps : List (ℕ × V)) (ws : List (KeyWrite V)) → Climb ps → Rise ws → Climb (overlaid relation ps ws)
climb-overlaid relation ps [] h rise = h
climb-overlaid relation ps (w ∷ ws) h rise =
    let m = w.key.record in
    let Goal : Bool → Type 0 =
    λ b. (w.key.relation == relation) ≡ b → Climb (cond b (lesser m ps ++ (pair_of w ++ overlaid relation (behind m ps) ws)) (overlaid relation ps ws)) in
    let goal : Goal (w.key.relation == relation) = elim (w.key.relation == relation) as Goal [
      | true ↦ λ of_it.
          let above = above-overlaid relation m (behind m ps) ws (above-behind m ps h) (greater-from relation w.key ws of_it rise.0) in
          climb-lesser m ps _ h (climb-pair w w.write _ refl above (climb-overlaid relation (behind m ps) ws (climb-behind m ps h) rise.1))
          (least-pair w w.write _ refl above)
      | false ↦ λ other. climb-overlaid relation ps ws h rise.1
    ] in
    goal refl

write_in-none : {V : Type 0} (q : Key) (ws : List (KeyWrite V)) → AreAbove q ws → write_in ws q ≡ None
write_in-none q [] h = refl
write_in-none q (w ∷ ws) h = let apart : same_key w.key q ≡ false = key_lt-other_way q w.key h.0 in rw apart (write_in-none q ws h.1)

past_pair : {V : Type 0} (n : ℕ) (w : KeyWrite V) (write : Option V) (more : List (ℕ × V)) → w.write ≡ write → (w.key.record == n) ≡ false
    → looked_up n (pair_of w ++ more) ≡ looked_up n more
past_pair n w None more is apart = rw is refl
past_pair n w (Some v) more is apart = rw (is, apart) refl

own_pair : {V : Type 0} (n : ℕ) (w : KeyWrite V) (write : Option V) (more : List (ℕ × V)) → w.write ≡ write → (w.key.record == n) ≡ true → looked_up n more
    ≡ None → looked_up n (pair_of w ++ more) ≡ w.write
own_pair n w None more is same none = rw is none
own_pair n w (Some v) more is same none = rw (is, same) refl

one_more : {V : Type 0} (relation n : ℕ) (ps : List (ℕ × V)) (w : KeyWrite V) (ws : List (KeyWrite V)) → Climb ps → Rise (w ∷ ws)
    → looked_up n (overlaid relation (behind w.key.record ps) ws) ≡ unwrap_or (write_in ws (key_of relation n)) (looked_up n (behind w.key.record ps))
    → looked_up n (overlaid relation ps ws) ≡ unwrap_or (write_in ws (key_of relation n)) (looked_up n ps)
    → (b : Bool) → (w.key.relation == relation) ≡ b
    → looked_up n (overlaid relation ps (w ∷ ws)) ≡ unwrap_or (write_in (w ∷ ws) (key_of relation n)) (looked_up n ps)
one_more relation n ps w ws h rise rest skipped false other = rw other skipped
one_more {V} relation n ps w ws h rise rest skipped true of_it =
    let m = w.key.record in
    elim (cases_lt n m) [
      | inl less ↦
          let apart : (m == n) ≡ false = grind (arith, nat_tests) in
          let before : key_lt (key_of relation n) w.key ≡ true = grind (arith, nat_tests) in
          let none : write_in ws (key_of relation n) ≡ None = write_in-none (key_of relation n) ws (keys_above (key_of relation n) w.key ws before rise.0) in
          let nothing : looked_up n (pair_of w ++ overlaid relation (behind m ps) ws) ≡ None =
          past_pair n w w.write (overlaid relation (behind m ps) ws) refl apart ∙ rest ∙ rw none (behind_upto n m ps (omega arith) h) in
          rw (of_it, apart, none) (found_lesser n m ps (pair_of w ++ overlaid relation (behind m ps) ws) less h nothing)
      | inr le ↦
          elim (cases_eq n m) [
            | inl is ↦
                let eq : (m == n) ≡ true = grind (arith, nat_tests) in
                let same : same_key w.key (key_of relation n) ≡ true = grind (arith, nat_tests) in
                let none : write_in ws (key_of relation n) ≡ None = write_in-above w.key (key_of relation n) ws rise.0 same in
                let own : looked_up n (pair_of w ++ overlaid relation (behind m ps) ws) ≡ w.write =
                own_pair n w w.write (overlaid relation (behind m ps) ws) refl eq (rest ∙ rw none (behind_upto n m ps (omega (arith, is)) h)) in
                rw (of_it, eq) (past_lesser n m ps (pair_of w ++ overlaid relation (behind m ps) ws) le ∙ own)
            | inr differ ↦
                let apart : (m == n) ≡ false = grind (arith, nat_tests) in
                let after : m < n = omega (arith, differ) in
                rw (of_it, apart)
                (past_lesser n m ps (pair_of w ++ overlaid relation (behind m ps) ws) le
                ∙ past_pair n w w.write (overlaid relation (behind m ps) ws) refl apart ∙ rest
                ∙ ap (λ (o : Option V). unwrap_or (write_in ws (key_of relation n)) o) (behind_after n m ps after))
          ]
    ]

pub looked_up-overlaid : {V : Type 0} (relation n : ℕ) (ps : List (ℕ × V)) (ws : List (KeyWrite V)) → Climb ps → Rise ws → looked_up n (overlaid relation ps ws)
    ≡ unwrap_or (write_in ws (key_of relation n)) (looked_up n ps)
looked_up-overlaid relation n ps [] h rise = refl
looked_up-overlaid {V} relation n ps (w ∷ ws) h rise =
    let rest = looked_up-overlaid relation n (behind w.key.record ps) ws (climb-behind w.key.record ps h) rise.1 in
    let skipped = looked_up-overlaid relation n ps ws h rise.1 in
    one_more relation n ps w ws h rise rest skipped (w.key.relation == relation) refl

-- ---- scans

by_lookup : {V : Type 0} (n : ℕ) (ps : List (ℕ × V)) (found other : Option V) → Climb ps → looked_up n ps ≡ found
    → ((v : V) → Contains ps (n, v) → other ≡ Some v) → ((v : V) → other ≡ Some v → Contains ps (n, v)) → looked_up n ps ≡ other
by_lookup n ps (Some v) other h is to from = is ∙ sym (to v (contained-looked_up n v ps is))
by_lookup n ps None None h is to from = is
by_lookup n ps None (Some v) h is to from = absurd (some-is_not-none (sym (looked_up-contained n v ps h (from v refl)) ∙ is))

pub looked_up-scan : {V : Type 0} (values : Key → Option V) (relation : ℕ) (ps : List (ℕ × V)) (n : ℕ) → IsScan values relation ps → looked_up n ps
    ≡ values (key_of relation n)
looked_up-scan values relation ps n scan =
    by_lookup n ps (looked_up n ps) (values (key_of relation n)) (climb-from ps scan.rising) refl (λ v. (scan.each n v).0) (λ v. (scan.each n v).1)

-- with the writes of a transaction over it, the scan of a state is one of what the transaction sees
pub overlaid-is_scan : {V : Type 0} (values : Key → Option V) (relation : ℕ) (ps : List (ℕ × V)) (ws : List (KeyWrite V)) → IsScan values relation ps
    → AreRising ws → IsScan (λ key. unwrap_or (write_in ws key) (values key)) relation (overlaid relation ps ws)
overlaid-is_scan {V} values relation ps ws scan rising =
    let climb = climb-from ps scan.rising in
    let climbs = climb-overlaid relation ps ws climb (rise-from ws rising) in
    let says : (n : ℕ) → looked_up n (overlaid relation ps ws) ≡ unwrap_or (write_in ws (key_of relation n)) (values (key_of relation n)) =
    λ n. looked_up-overlaid relation n ps ws climb (rise-from ws rising)
    ∙ ap (λ (o : Option V). unwrap_or (write_in ws (key_of relation n)) o) (looked_up-scan values relation ps n scan) in
    record {
      rising = climb-to (overlaid relation ps ws) climbs;
      each = λ n v. (
        λ found. sym (says n) ∙ looked_up-contained n v (overlaid relation ps ws) climbs found,
        λ is. contained-looked_up n v (overlaid relation ps ws) (says n ∙ is),
      );
    }

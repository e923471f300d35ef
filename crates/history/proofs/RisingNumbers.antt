-- Lists of rising numbers: what the order by index says of them, and a rising list for each list of numbers.
use Rattle.std.proofs.Common.{◌≡◌, ℕ, ◌+◌, ◌<◌, ◌≤◌, zero, suc, Bool, true, false, cond, nat_lt, List, [], ◌∷◌, map, length, refl, subst, arith, ◌⊎◌, inl, inr}
use Rattle.std.proofs.Common.{⊎_elim}
use Rattle.std.specs.Prelude.{Contains, filter, slice_index}
use Rattle.std.specs.List.Sorted.{IsStrictlyIncreasing}
use Rattle.std.proofs.lemmas.Bool.Decides.{nat_tests}
use Rattle.history.proofs.Members.{IsRisingBy, Contains-cons_cases, Contains-head, Contains-tail, Contains-nil}

-- elements whose numbers rise, from this one on
abbrev pub IsRisingFrom : {X : Type 0} → (X → ℕ) → ℕ → List X → Type 0
IsRisingFrom f n xs = IsRisingBy (λ x. f x + 1) n xs

pub rising-lower : {X : Type 0} (f : X → ℕ) (n m : ℕ) (xs : List X) → n ≤ m → IsRisingFrom f m xs → IsRisingFrom f n xs
rising-lower f n m [] le up = tt
rising-lower f n m (x ∷ xs) le up = (omega (arith, up.0, le), up.1)

rising-at : {X : Type 0} (f : X → ℕ) (n : ℕ) (xs : List X) → IsRisingFrom f n xs → (k : ℕ) → k + 1 < length (map f xs)
    → slice_index (map f xs) k < slice_index (map f xs) (k + 1)
rising-at f n [] up k lt = absurd (omega (arith, lt))
rising-at f n (x ∷ []) up k lt = absurd (omega (arith, lt))
rising-at f n (x ∷ y ∷ ys) up zero lt = omega (arith, up.1.0)
rising-at f n (x ∷ y ∷ ys) up (suc k) lt =
    let same : suc (k + 1) ≡ suc k + 1 = omega arith in
    subst (λ (i : ℕ). slice_index (map f (y ∷ ys)) k < slice_index (map f (x ∷ y ∷ ys)) i) same (rising-at f (f x + 1) (y ∷ ys) up.1 k (omega (arith, lt)))

pub rising-increasing : {X : Type 0} (f : X → ℕ) (n : ℕ) (xs : List X) → IsRisingFrom f n xs → IsStrictlyIncreasing (map f xs)
rising-increasing f n xs up = λ k lt. rising-at f n xs up k lt

pub filter-rising : {X : Type 0} (f : X → ℕ) (p : X → Bool) (n : ℕ) (xs : List X) → IsRisingFrom f n xs → IsRisingFrom f n (filter p xs)
filter-rising f p n [] up = tt
filter-rising {X} f p n (x ∷ xs) up =
    let rest = filter-rising f p (f x + 1) xs up.1 in
    let le : n ≤ f x + 1 = omega (arith, up.0) in
    elim (p x) as (λ b. IsRisingFrom f n (cond b (x ∷ filter p xs) (filter p xs))) [
      | true ↦ (
        up.0,
        rest,
      )
      | false ↦ rising-lower f n (f x + 1) (filter p xs) le rest
    ]

-- ---- a rising list for each list

-- rising from n on, with a number and all that a list has
pub record IsInserted (n number : ℕ) (before after : List ℕ) : Type 0 where
  pub rising : IsRisingFrom (λ (k : ℕ). k) n after
  pub has_it : Contains after number
  pub has_those : (k : ℕ) → Contains before k → Contains after k

compare : (a b : ℕ) → (a < b) ⊎ (a ≡ b) ⊎ (b < a)
compare a b =
    let Goal : Bool → Bool → Type 0 = λ p q. nat_lt a b ≡ p → nat_lt b a ≡ q → (a < b) ⊎ (a ≡ b) ⊎ (b < a) in
    let all : (p q : Bool) → Goal p q = λ p q. elim p as (λ p. Goal p q) [
      | true ↦ λ e k. inl (grind (arith, nat_tests))
      | false ↦ elim q as (λ q. Goal false q) [
        | true ↦ λ e k. inr (inr (grind (arith, nat_tests)))
        | false ↦ λ e k. inr (inl (grind (arith, nat_tests)))
      ]
    ] in
    all (nat_lt a b) (nat_lt b a) refl refl

insertion : (n number : ℕ) (xs : List ℕ) → n ≤ number → IsRisingFrom (λ (k : ℕ). k) n xs → (ys : List ℕ) × IsInserted n number xs ys
insertion n number [] le up =
    (number ∷ [], record { rising = (omega (arith, le), tt); has_it = Contains-head number [] number refl; has_those = λ k has. absurd (Contains-nil k has) })
insertion n number (x ∷ xs) le up =
    let Found : Type 0 = (ys : List ℕ) × IsInserted n number (x ∷ xs) ys in
    let before : number < x → Found = λ lt. (
      number ∷ x ∷ xs,
      record {
        rising = (omega (arith, le), (omega (arith, lt), up.1));
        has_it = Contains-head number (x ∷ xs) number refl;
        has_those = λ k has. Contains-tail number (x ∷ xs) k has;
      },
    ) in
    let here : number ≡ x → Found = λ is. (x ∷ xs, record { rising = up; has_it = Contains-head x xs number (omega (arith, is)); has_those = λ k has. has }) in
    let behind : x < number → Found = λ lt.
    let rest : (ys : List ℕ) × IsInserted (x + 1) number xs ys = insertion (x + 1) number xs (omega (arith, lt)) up.1 in (
      x ∷ rest.0,
      record {
        rising = (up.0, rest.1.rising);
        has_it = Contains-tail x rest.0 number rest.1.has_it;
        has_those = λ k has.
            ⊎_elim
            (λ (is : x ≡ k). Contains-head x rest.0 k is)
            (λ (more : Contains xs k). Contains-tail x rest.0 k (rest.1.has_those k more))
            (Contains-cons_cases x xs k has);
      },
    ) in
    ⊎_elim before (λ (other : (number ≡ x) ⊎ (x < number)). ⊎_elim here behind other) (compare number x)

-- a rising list with all that a list has
pub risen : (xs : List ℕ) → (ys : List ℕ) × IsRisingFrom (λ (k : ℕ). k) 0 ys × ((k : ℕ) → Contains xs k → Contains ys k)
risen [] = ([], tt, λ k has. has)
risen (x ∷ xs) =
    let rest = risen xs in
    let more : (ys : List ℕ) × IsInserted 0 x rest.0 ys = insertion 0 x rest.0 (omega arith) rest.1 in (
      more.0,
      more.1.rising,
      λ k has.
          ⊎_elim
          (λ (is : x ≡ k). subst (λ (i : ℕ). Contains more.0 i) is more.1.has_it)
          (λ (in_rest : Contains xs k). more.1.has_those k (rest.2 k in_rest))
          (Contains-cons_cases x xs k has),
    )

-- Rows merged by record.
use Rattle.std.proofs.Common.{◌≡◌, ℕ, ◌<◌, ◌≤◌, ◌==◌, nat_lt, Bool, true, false, cond, List, [], ◌∷◌, ◌++◌, map, refl, ap, sym, ◌∙◌, arith}
use Rattle.std.specs.Prelude.{filter}
use Rattle.std.specs.List.{AllByRecursion}
use Rattle.std.proofs.lemmas.Bool.Decides.{nat_tests}
use Rattle.history.specs.declared.time.Version.{Version}
use Rattle.law_image.specs.Values.{Value}
use Rattle.archive.specs.Answers.{rows_of}
use Rattle.timequery.specs.Homes.{lesser, not_lesser, merged}
use Rattle.timequery.proofs.Scanned.{Row, AreInOrder, rows_of-append, rows_of-above, rows_of-below, all-append, all-weaker, order-append}

module _ (number : ℕ) where
  pub lesser-split : (qs : List Row) → lesser number qs ++ not_lesser number qs ≡ qs
  lesser-split [] = refl
  lesser-split (q ∷ qs) =
      let rest = lesser-split qs in
      elim (nat_lt q.0 number) as (λ t. cond t (q ∷ lesser number qs) [] ++ cond t (not_lesser number qs) (q ∷ qs)
      ≡ q ∷ qs) [ true ↦ ap (λ (xs : List Row). q ∷ xs) rest | false ↦ refl ]

  pub lesser-below : (qs : List Row) → AllByRecursion (λ (q : Row). q.0 < number) (lesser number qs)
  lesser-below [] = tt
  lesser-below (q ∷ qs) =
      let rest = lesser-below qs in
      let Goal : Bool → Type 0 = λ t. nat_lt q.0 number ≡ t → AllByRecursion (λ (x : Row). x.0 < number) (cond t (q ∷ lesser number qs) []) in
      let all : (t : Bool) → Goal t = λ t. elim t as Goal [ true ↦ λ is. (grind (arith, nat_tests), rest) | false ↦ λ is. tt ] in
      all (nat_lt q.0 number) refl

  pub lesser-all : (P : Row → Type 0) (qs : List Row) → AllByRecursion P qs → AllByRecursion P (lesser number qs)
  lesser-all P [] each = tt
  lesser-all P (q ∷ qs) each =
      let rest = lesser-all P qs each.1 in
      elim (nat_lt q.0 number) as (λ t. AllByRecursion P (cond t (q ∷ lesser number qs) [])) [ true ↦ (each.0, rest) | false ↦ tt ]

  pub rest-all : (P : Row → Type 0) (qs : List Row) → AllByRecursion P qs → AllByRecursion P (not_lesser number qs)
  rest-all P [] each = tt
  rest-all P (q ∷ qs) each =
      let rest = rest-all P qs each.1 in
      elim (nat_lt q.0 number) as (λ t. AllByRecursion P (cond t (not_lesser number qs) (q ∷ qs))) [ true ↦ rest | false ↦ each ]

  pub lesser-order : (qs : List Row) → AreInOrder qs → AreInOrder (lesser number qs)
  lesser-order [] order = tt
  lesser-order (q ∷ qs) order =
      let rest = lesser-order qs order.1 in
      elim (nat_lt q.0 number) as (λ t. AreInOrder (cond t (q ∷ lesser number qs) [])) [
        | true ↦ (
          lesser-all (λ (x : Row). q.0 ≤ x.0) qs order.0,
          rest,
        )
        | false ↦ tt
      ]

  pub rest-order : (qs : List Row) → AreInOrder qs → AreInOrder (not_lesser number qs)
  rest-order [] order = tt
  rest-order (q ∷ qs) order =
      let rest = rest-order qs order.1 in
      elim (nat_lt q.0 number) as (λ t. AreInOrder (cond t (not_lesser number qs) (q ∷ qs))) [ true ↦ rest | false ↦ order ]

  pub rest-above : (qs : List Row) → AreInOrder qs → AllByRecursion (λ (q : Row). number ≤ q.0) (not_lesser number qs)
  rest-above [] order = tt
  rest-above (q ∷ qs) order =
      let rest = rest-above qs order.1 in
      let Goal : Bool → Type 0 = λ t. nat_lt q.0 number ≡ t → AllByRecursion (λ (x : Row). number ≤ x.0) (cond t (not_lesser number qs) (q ∷ qs)) in
      let all : (t : Bool) → Goal t = λ t. elim t as Goal [
        | true ↦ λ is. rest
        | false ↦ λ is.
            let from : number ≤ q.0 = grind (arith, nat_tests) in
            (from, all-weaker (λ (x : Row). q.0 ≤ x.0) (λ (x : Row). number ≤ x.0) qs (λ x le. omega (arith, le, from)) order.0)
      ] in
      all (nat_lt q.0 number) refl

-- ---- all of it

merged-above : (bound : ℕ) (ps qs : List Row) → AllByRecursion (λ (q : Row). bound ≤ q.0) ps → AllByRecursion (λ (q : Row). bound ≤ q.0) qs
    → AllByRecursion (λ (q : Row). bound ≤ q.0) (merged ps qs)
merged-above bound [] qs first second = second
merged-above bound (p ∷ ps) qs first second =
    let P : Row → Type 0 = λ (q : Row). bound ≤ q.0 in
    all-append P (lesser p.0 qs) (p ∷ merged ps (not_lesser p.0 qs)) (lesser-all p.0 P qs second)
    (first.0, merged-above bound ps (not_lesser p.0 qs) first.1 (rest-all p.0 P qs second))

-- merged rows are in order
pub merged-order : (ps qs : List Row) → AreInOrder ps → AreInOrder qs → AreInOrder (merged ps qs)
merged-order [] qs first second = second
merged-order (p ∷ ps) qs first second =
    let left = not_lesser p.0 qs in
    let above = merged-above p.0 ps left first.0 (rest-above p.0 qs second) in
    order-append p.0 (lesser p.0 qs) (p ∷ merged ps left) (lesser-order p.0 qs second)
    (all-weaker (λ (q : Row). q.0 < p.0) (λ (q : Row). q.0 ≤ p.0) (lesser p.0 qs) (λ q less. omega (arith, less)) (lesser-below p.0 qs))
    (omega arith, above)
    (above, merged-order ps left first.1 (rest-order p.0 qs second))

-- of each record they have those of the first rows and behind them those of the second
pub merged-rows_of : (number : ℕ) (ps qs : List Row) → AreInOrder ps → AreInOrder qs → rows_of number (merged ps qs) ≡ rows_of number ps ++ rows_of number qs
merged-rows_of number [] qs first second = refl
merged-rows_of number (p ∷ ps) qs first second =
    let front = lesser p.0 qs in
    let left = not_lesser p.0 qs in
    let rest = merged-rows_of number ps left first.1 (rest-order p.0 qs second) in
    let whole : rows_of number qs ≡ rows_of number front ++ rows_of number left =
    sym (ap (λ (xs : List Row). rows_of number xs) (lesser-split p.0 qs)) ∙ rows_of-append number front left in
    let value : Row → Version Value = λ q. q.1 in
    let here : Row → Bool = λ q. q.0 == number in
    let Goal : Bool → Bool → Type 0 = λ l e. nat_lt number p.0 ≡ l → (p.0 == number) ≡ e →
    rows_of number front ++ map value (cond e (p ∷ filter here (merged ps left)) (filter here (merged ps left)))
    ≡ map value (cond e (p ∷ filter here ps) (filter here ps)) ++ rows_of number qs in
    let all : (l e : Bool) → Goal l e = λ l e. elim l as (λ l. Goal l e) [
      | true ↦ elim e as (λ e. Goal true e) [
        | true ↦ λ less same. absurd (contradiction less same)
        | false ↦ λ less other.
            let under : number < p.0 = grind (arith, nat_tests) in
            let none : rows_of number ps ≡ [] = rows_of-above number p.0 ps first.0 under in
            let later : rows_of number (merged ps left) ≡ rows_of number left = rest ∙ ap (λ (vs : List (Version Value)). vs ++ rows_of number left) none in
            ap (λ (vs : List (Version Value)). rows_of number front ++ vs) later ∙ sym whole
            ∙ sym (ap (λ (vs : List (Version Value)). vs ++ rows_of number qs) none)
      ]
      | false ↦ λ not is.
          let least : p.0 ≤ number = grind (arith, nat_tests) in
          let none : rows_of number front ≡ [] = rows_of-below number p.0 front (lesser-below p.0 qs) least in
          let left_is : rows_of number left ≡ rows_of number qs = sym (whole ∙ ap (λ (vs : List (Version Value)). vs ++ rows_of number left) none) in
          let later : rows_of number (merged ps left) ≡ rows_of number ps ++ rows_of number qs =
          rest ∙ ap (λ (vs : List (Version Value)). rows_of number ps ++ vs) left_is in
          ap (λ (vs : List (Version Value)). vs ++ map value (cond e (p ∷ filter here (merged ps left)) (filter here (merged ps left)))) none
          ∙ behind e later
    ] in
    rows_of-append number front (p ∷ merged ps left) ∙ all (nat_lt number p.0) (p.0 == number) refl refl
  where
    contradiction : nat_lt number p.0 ≡ true → (p.0 == number) ≡ true → ⊥
    contradiction less same =
        let under : number < p.0 = grind (arith, nat_tests) in
        let equal : p.0 ≡ number = grind (arith, nat_tests) in
        omega (arith, under, equal)

    behind : (e : Bool) → rows_of number (merged ps (not_lesser p.0 qs)) ≡ rows_of number ps ++ rows_of number qs
        → map (λ (q : Row). q.1) (cond e (p ∷ filter (λ (q : Row). q.0 == number) (merged ps (not_lesser p.0 qs)))
        (filter (λ (q : Row). q.0 == number) (merged ps (not_lesser p.0 qs))))
        ≡ map (λ (q : Row). q.1) (cond e (p ∷ filter (λ (q : Row). q.0 == number) ps) (filter (λ (q : Row). q.0 == number) ps)) ++ rows_of number qs
    behind true later = ap (λ (vs : List (Version Value)). p.1 ∷ vs) later
    behind false later = later

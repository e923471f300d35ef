-- The values at a time are those of the rows of that one time.
use Rattle.std.proofs.Common.{◌≡◌, ◌≢◌, ℕ, ◌+◌, ◌<◌, ◌≤◌, max, min, Bool, true, false, cond, List, [], ◌∷◌, ◌++◌, map, Option, Some, None, refl, ap, sym, ◌∙◌}
use Rattle.std.proofs.Common.{subst, arith, ⊎_elim}
use Rattle.std.specs.Prelude.{Contains, find, option_map, option_to_list}
use Rattle.std.specs.List.{AllByRecursion, flat_map}
use Rattle.std.specs.List.Sorted.{IsStrictlyIncreasing}
use Rattle.std.proofs.lemmas.Bool.Decides.{nat_tests}
use Rattle.history.specs.declared.key.Key.{Key}
use Rattle.history.specs.declared.time.Version.{Version}
use Rattle.history.specs.Key.{key_of}
use Rattle.history.specs.Queries.{IsScan, IsScanOfRows}
use Rattle.history.specs.Versions.{stands_at, standing_at, cut, lasts, rows, FollowOneAnotherFrom}
use Rattle.history.proofs.Members.{Contains-nil, Contains-head, Contains-cons_cases}
use Rattle.std.proofs.lemmas.List.Elements.{Contains-append_right}
use Rattle.law_image.specs.Values.{Value}
use Rattle.timequery.specs.Homes.{values_of}
use Rattle.timequery.proofs.Scanned.{Row}

-- ---- one key

-- the row of a value at one time
abbrev pub row_at : ℕ → Value → Version Value
row_at t value = record { from = t; to = t + 1; value = value }

no-rows : (s a b : ℕ) (vs : List (Version Value)) → b ≤ s → FollowOneAnotherFrom s vs → rows vs a b ≡ []
no-rows s a b [] past apart = refl
no-rows s a b (v ∷ vs) past apart =
    let from = apart.0 in
    let long = apart.1 in
    let none : lasts (cut a b v) ≡ false = grind (arith, nat_tests) in
    rw none (no-rows v.to a b vs (omega (arith, past, from, long)) apart.2)

pub rows-one : (s t : ℕ) (vs : List (Version Value)) → FollowOneAnotherFrom s vs → rows vs t (t + 1) ≡ option_to_list (option_map (row_at t) (standing_at vs t))
rows-one s t [] apart = refl
rows-one s t (v ∷ vs) apart =
    let rest = rows-one v.to t vs apart.2 in
    let Goal : Bool → Type 0 = λ h. stands_at t v ≡ h →
    cond (lasts (cut t (t + 1) v)) (cut t (t + 1) v ∷ rows vs t (t + 1)) (rows vs t (t + 1))
    ≡ option_to_list (option_map (row_at t) (option_map (λ (x : Version Value). x.value) (cond h (Some v) (find (stands_at t) vs)))) in
    let all : (h : Bool) → Goal h = λ h. elim h as Goal [
      | true ↦ λ is.
          let from : v.from ≤ t = grind (arith, nat_tests) in
          let to : t < v.to = grind (arith, nat_tests) in
          let here : lasts (cut t (t + 1) v) ≡ true = grind (arith, nat_tests) in
          let none = no-rows v.to t (t + 1) vs (omega (arith, to)) apart.2 in
          rw (here, none) (one v from to)
      | false ↦ λ not.
          let empty : lasts (cut t (t + 1) v) ≡ false = grind (arith, nat_tests) in
          rw empty rest
    ] in
    all (stands_at t v) refl
  where
    one : (v : Version Value) → v.from ≤ t → t < v.to → Path (List (Version Value)) (cut t (t + 1) v ∷ []) (row_at t v.value ∷ [])
    one v begun lasting =
        let from : max v.from t ≡ t = omega (arith, begun) in
        let to : min v.to (t + 1) ≡ t + 1 = omega (arith, lasting) in
        λ i. record { from = from i; to = to i; value = v.value } ∷ []

-- ---- a relation

-- the row of each of these records
listed : ℕ → (ℕ → Option Value) → ℕ → List Row
listed t of n = map (λ (row : Version Value). let r : Row = (n, row) in r) (option_to_list (option_map (row_at t) (of n)))

module _ (t : ℕ) (of : ℕ → Option Value) where
  firsts : (ns : List ℕ) → AllByRecursion (λ (n : ℕ). of n ≢ None) ns → map (λ (p : ℕ × Value). p.0) (values_of (flat_map (listed t of) ns)) ≡ ns
  unfolding listed
  firsts [] some = refl
  firsts (n ∷ ns) some =
      let rest = firsts ns some.1 in
      let Goal : Option Value → Type 0 = λ o. (o ≢ None) → map (λ (p : ℕ × Value). p.0)
      (values_of (map (λ (row : Version Value). let r : Row = (n, row) in r) (option_to_list (option_map (row_at t) o)) ++ flat_map (listed t of) ns))
      ≡ n ∷ ns in
      (elim (of n) as Goal [ None ↦ λ is. absurd (is refl) | Some value ↦ λ is. ap (λ (ms : List ℕ). n ∷ ms) rest ]) some.0

  only : (n : ℕ) (value : Value) (ns : List ℕ) → Contains (values_of (flat_map (listed t of) ns)) (n, value) → of n ≡ Some value
  unfolding listed
  only n value [] there = absurd (Contains-nil (n, value) there)
  only n value (k ∷ ks) there =
      let Goal : Option Value → Type 0 = λ o. of k ≡ o → Contains
      (values_of (map (λ (row : Version Value). let r : Row = (k, row) in r) (option_to_list (option_map (row_at t) o)) ++ flat_map (listed t of) ks))
      (n, value) → of n ≡ Some value in
      let all : (o : Option Value) → Goal o = λ o. elim o as Goal [
        | None ↦ λ is h. only n value ks h
        | Some found ↦ λ is h.
            ⊎_elim
            (λ (here : Path (ℕ × Value) (k, found) (n, value)).
            ap of (sym (ap (λ (p : ℕ × Value). p.0) here)) ∙ is ∙ ap (λ (p : ℕ × Value). Some p.1) here)
            (λ (later : Contains (values_of (flat_map (listed t of) ks)) (n, value)). only n value ks later)
            (Contains-cons_cases (k, found) (values_of (flat_map (listed t of) ks)) (n, value) h)
      ] in
      all (of k) refl there

  -- behind what one record has
  further : (n : ℕ) (value : Value) (k : ℕ) (ks : List ℕ) → Contains (values_of (flat_map (listed t of) ks)) (n, value)
      → Contains (values_of (flat_map (listed t of) (k ∷ ks))) (n, value)
  unfolding listed
  further n value k ks there =
      elim (of k) as (λ o. Contains (values_of (map (λ (row : Version Value). let r : Row = (k, row) in r) (option_to_list (option_map (row_at t) o))
      ++ flat_map (listed t of) ks)) (n, value)) [
        | None ↦ there
        | Some found ↦ Contains-append_right ((k, found) ∷ []) (values_of (flat_map (listed t of) ks)) (n, value) there
      ]

  here-is : (n : ℕ) (value : Value) (ks : List ℕ) → of n ≡ Some value → Contains (values_of (flat_map (listed t of) (n ∷ ks))) (n, value)
  unfolding listed
  here-is n value ks is = rw is (Contains-head (n, value) (values_of (flat_map (listed t of) ks)) (n, value) refl)

  every : (n : ℕ) (value : Value) (ns : List ℕ) → Contains ns n → of n ≡ Some value → Contains (values_of (flat_map (listed t of) ns)) (n, value)
  every n value [] there is = absurd (Contains-nil n there)
  every n value (k ∷ ks) there is =
      ⊎_elim
      (λ (here : k ≡ n). subst (λ (m : ℕ). Contains (values_of (flat_map (listed t of) (m ∷ ks))) (n, value)) (sym here) (here-is n value ks is))
      (λ (later : Contains ks n). further n value k ks (every n value ks later is))
      (Contains-cons_cases k ks n there)

all-of : (P : ℕ → Type 0) (ns : List ℕ) → ((n : ℕ) → Contains ns n → P n) → AllByRecursion P ns
all-of P [] each = tt
all-of P (n ∷ ns) each = (each n (Contains-head n ns n refl), all-of P ns (λ m there. each m (Contains-append_right (n ∷ []) ns m there)))

-- a scan of the rows of one time says the values of a scan at that time
pub values-are : (rows_of : Key → List (Version Value)) (value_of : Key → Option Value) (relation t : ℕ) (found : List Row)
    → ((number : ℕ) → rows_of (key_of relation number) ≡ option_to_list (option_map (row_at t) (value_of (key_of relation number))))
    → IsScanOfRows rows_of relation found → IsScan value_of relation (values_of found)
unfolding listed
values-are rows_of value_of relation t found same scan =
    let of : ℕ → Option Value = λ n. value_of (key_of relation n) in
    let ns = scan.numbers in
    let found_is : found ≡ flat_map (listed t of) ns = scan.found_is ∙ flat-same ns in
    let some : AllByRecursion (λ (n : ℕ). of n ≢ None) ns =
    all-of (λ (n : ℕ). of n ≢ None) ns (λ n there none. (scan.each n).0 there
    (same n ∙ ap (λ (o : Option Value). option_to_list (option_map (row_at t) o)) none)) in
    let firsts_are : map (λ (p : ℕ × Value). p.0) (values_of found) ≡ ns =
    ap (λ (rs : List Row). map (λ (p : ℕ × Value). p.0) (values_of rs)) found_is ∙ firsts t of ns some in
    record {
      rising = subst IsStrictlyIncreasing (sym firsts_are) scan.rising;
      each = λ number value. (
        λ there. only t of number value ns (subst (λ (rs : List Row). Contains (values_of rs) (number, value)) found_is there),
        λ is. subst (λ (rs : List Row). Contains (values_of rs) (number, value)) (sym found_is)
            (every t of number value ns ((scan.each number).1 (λ empty. absurd (has number value is empty))) is),
      );
    }
  where
    flat-same : (ns : List ℕ) → flat_map (λ (number : ℕ). map (λ (row : Version Value). let r : Row = (number, row) in r) (rows_of (key_of relation number)))
        ns ≡ flat_map (listed t (λ n. value_of (key_of relation n))) ns
    flat-same [] = refl
    flat-same (n ∷ ns) = rw (same n, flat-same ns) refl

    has : (number : ℕ) (value : Value) → value_of (key_of relation number) ≡ Some value → rows_of (key_of relation number) ≡ [] → ⊥
    has number value is empty =
        let filled : Path (List (Version Value)) [] (row_at t value ∷ []) =
        sym empty ∙ same number ∙ ap (λ (o : Option Value). option_to_list (option_map (row_at t) o)) is in
        absurd cc

-- Scans, made from a list with every record number that they need.
use Rattle.std.proofs.Common.{◌≡◌, ◌≢◌, ℕ, ◌+◌, ◌≤◌, Bool, true, false, List, [], ◌∷◌, map, Option, Some, None, refl, ap, sym, subst, ◌∙◌, arith}
use Rattle.std.specs.Prelude.{Contains, filter, flat_map, filter_map, option_map, unwrap_or}
use Rattle.std.specs.List.{cons_option}
use Rattle.std.specs.List.Sorted.{IsStrictlyIncreasing}
use Rattle.history.specs.declared.key.Key.{Key}
use Rattle.history.specs.declared.time.Version.{Version}
use Rattle.history.specs.Key.{key_of}
use Rattle.history.specs.Queries.{IsScan, IsScanOfRows}
use Rattle.history.proofs.Members.{Contains-filter, filter-Contains}
use Rattle.history.proofs.Sets.{Contains-filter_map}
use Rattle.history.proofs.RisingNumbers.{IsRisingFrom, rising-lower, rising-increasing, filter-rising, risen}

-- ---- values

-- a record with its value, if it has one
abbrev entry : {V : Type 0} → (ℕ → Option V) → ℕ → Option (ℕ × V)
entry f n = option_map (λ value. (n, value)) (f n)

entry-same : {V : Type 0} (n : ℕ) (o : Option V) (pair : ℕ × V) → option_map (λ value. (n, value)) o ≡ Some pair → (pair.0 ≡ n) × (o ≡ Some pair.1)
entry-same {V} n None pair is = absurd (let none : None ≡ Some pair = is in cc)
entry-same {V} n (Some v) pair is =
    let same : pair ≡ (n, v) = ap (λ (o : Option (ℕ × V)). unwrap_or o pair) (sym is) in
    (ap (λ (p : ℕ × V). p.0) same, ap (λ (p : ℕ × V). Some p.1) (sym same))

entry-is : {V : Type 0} (f : ℕ → Option V) (n number : ℕ) (value : V) → entry f n ≡ Some (number, value) → f number ≡ Some value
entry-is {V} f n number value is =
    let same : (number ≡ n) × (f n ≡ Some value) = entry-same n (f n) (number, value) is in
    ap f same.0 ∙ same.1

entries-rising : {V : Type 0} (f : ℕ → Option V) (n : ℕ) (ns : List ℕ) → IsRisingFrom (λ (k : ℕ). k) n ns
    → IsRisingFrom (λ (p : ℕ × V). p.0) n (filter_map (entry f) ns)
entries-rising f n [] up = tt
entries-rising {V} f n (x ∷ xs) up =
    let found : List (ℕ × V) = filter_map (entry f) xs in
    let rest : IsRisingFrom (λ (p : ℕ × V). p.0) (x + 1) found = entries-rising f (x + 1) xs up.1 in
    let le : n ≤ x + 1 = omega (arith, up.0) in
    let Goal : Option V → Type 0 = λ o. IsRisingFrom (λ (p : ℕ × V). p.0) n (cons_option (option_map (λ v. (x, v)) o) found) in
    elim (f x) as Goal [ None ↦ rising-lower (λ (p : ℕ × V). p.0) n (x + 1) found le rest | Some v ↦ (up.0, rest) ]

pub scan-made : {V : Type 0} (values : Key → Option V) (relation : ℕ) (numbers : List ℕ)
    → ((number : ℕ) (value : V) → values (key_of relation number) ≡ Some value → Contains numbers number)
    → (found : List (ℕ × V)) × IsScan values relation found
scan-made {V} values relation numbers named =
    let f : ℕ → Option V = λ n. values (key_of relation n) in
    let all = risen numbers in
    let found : List (ℕ × V) = filter_map (entry f) all.0 in (
      found,
      record {
        rising = rising-increasing (λ (p : ℕ × V). p.0) 0 found (entries-rising f 0 all.0 all.1);
        each = λ number value. (
          λ has. let from = (Contains-filter_map (entry f) all.0 (number, value)).0 has in entry-is f from.0 number value from.2,
          λ is. (Contains-filter_map (entry f) all.0 (number, value)).1 (
            number,
            all.2 number (named number value is),
            ap (option_map (λ (v : V). (number, v))) is,
          ),
        );
      },
    )

-- ---- rows

abbrev has_rows : {V : Type 0} → List (Version V) → Bool
has_rows [] = false
has_rows (row ∷ rows) = true

rows-some : {V : Type 0} (rows : List (Version V)) → has_rows rows ≡ true → rows ≢ []
rows-some [] is = absurd cc
rows-some (row ∷ rows) is = λ empty. cc

some-rows : {V : Type 0} (rows : List (Version V)) → rows ≢ [] → has_rows rows ≡ true
some-rows [] some = absurd (some refl)
some-rows (row ∷ rows) some = refl

map-same : (ns : List ℕ) → map (λ (n : ℕ). n) ns ≡ ns
map-same [] = refl
map-same (n ∷ ns) = ap (λ (l : List ℕ). n ∷ l) (map-same ns)

pub scan_of_rows-made : {V : Type 0} (rows : Key → List (Version V)) (relation : ℕ) (numbers : List ℕ)
    → ((number : ℕ) → rows (key_of relation number) ≢ [] → Contains numbers number)
    → (found : List (ℕ × Version V)) × IsScanOfRows rows relation found
scan_of_rows-made {V} rows relation numbers named =
    let p : ℕ → Bool = λ n. has_rows (rows (key_of relation n)) in
    let all = risen numbers in
    let those : List ℕ = filter p all.0 in (
      flat_map (λ number. map (λ row. (number, row)) (rows (key_of relation number))) those,
      record {
        numbers = those;
        rising = subst IsStrictlyIncreasing (map-same those) (rising-increasing (λ (n : ℕ). n) 0 those (filter-rising (λ (n : ℕ). n) p 0 all.0 all.1));
        each = λ number. (
          λ has. rows-some (rows (key_of relation number)) (filter-Contains p all.0 number has).1,
          λ some. Contains-filter p all.0 number (all.2 number (named number some)) (some-rows (rows (key_of relation number)) some),
        );
        found_is = refl;
      },
    )

-- Rows by record, of which each record's are known, are a scan.
use Rattle.std.proofs.Common.{◌≡◌, ◌≢◌, ℕ, zero, suc, ◌+◌, ◌<◌, ◌≤◌, ◌==◌, Bool, true, false, cond, List, [], ◌∷◌, ◌++◌, map, refl, ap, sym, ◌∙◌, subst, arith}
use Rattle.std.proofs.Common.{⊎_elim, append-nil}
use Rattle.std.specs.Prelude.{Contains, filter}
use Rattle.std.specs.List.{AllByRecursion, slice_index, flat_map}
use Rattle.std.specs.List.Sorted.{IsStrictlyIncreasing}
use Rattle.std.proofs.lemmas.Bool.Decides.{nat_tests}
use Rattle.std.proofs.lemmas.List.Elements.{Contains-append_right}
use Rattle.history.specs.declared.key.Key.{Key}
use Rattle.history.specs.declared.time.Version.{Version}
use Rattle.history.specs.Key.{key_of}
use Rattle.history.specs.Queries.{IsScanOfRows}
use Rattle.history.proofs.Members.{Contains-nil, Contains-head, Contains-cons_cases}
use Rattle.law_image.specs.Values.{Value}
use Rattle.archive.specs.Answers.{rows_of}
use Rattle.timequery.proofs.Scanned.{Row, AreInOrder, of_record, rows_of-above}

-- the records that have rows, each once
numbers : List Row → List ℕ
numbers [] = []
numbers (p ∷ []) = p.0 ∷ []
numbers (p ∷ q ∷ qs) = cond (q.0 == p.0) (numbers (q ∷ qs)) (p.0 ∷ numbers (q ∷ qs))

Rises : List ℕ → Type 0
Rises [] = Unit {0}
Rises (n ∷ ns) = AllByRecursion (λ (m : ℕ). n < m) ns × Rises ns

weaker : (P Q : Row → Type 0) (xs : List Row) → ((x : Row) → P x → Q x) → AllByRecursion P xs → AllByRecursion Q xs
weaker P Q [] less all = tt
weaker P Q (x ∷ xs) less all = (less x all.0, weaker P Q xs less all.1)

-- rows that begin with another record are all of greater ones
greater : (p q : Row) (qs : List Row) → AreInOrder (p ∷ q ∷ qs) → (q.0 == p.0) ≡ false → AllByRecursion (λ (x : Row). p.0 < x.0) (q ∷ qs)
greater p q qs order other =
    let le = order.0.0 in
    let less : p.0 < q.0 = grind (arith, nat_tests) in
    (less, weaker (λ (x : Row). q.0 ≤ x.0) (λ (x : Row). p.0 < x.0) qs (λ x from. omega (arith, from, less)) order.1.0)

numbers-head : (p : Row) (ps : List Row) → (ms : List ℕ) × (numbers (p ∷ ps) ≡ p.0 ∷ ms)
unfolding numbers
numbers-head p [] = ([], refl)
numbers-head p (q ∷ qs) =
    let rest = numbers-head q qs in
    let Goal : Bool → Type 0 = λ t. (q.0 == p.0) ≡ t → (ms : List ℕ) × (cond t (numbers (q ∷ qs)) (p.0 ∷ numbers (q ∷ qs)) ≡ p.0 ∷ ms) in
    let all : (t : Bool) → Goal t = λ t. elim t as Goal [
      | true ↦ λ same. let is : q.0 ≡ p.0 = grind (arith, nat_tests) in (rest.0, rest.1 ∙ ap (λ (n : ℕ). n ∷ rest.0) is)
      | false ↦ λ other. (numbers (q ∷ qs), refl)
    ] in
    all (q.0 == p.0) refl

numbers-over : (bound : ℕ) (ps : List Row) → AllByRecursion (λ (x : Row). bound < x.0) ps → AllByRecursion (λ (m : ℕ). bound < m) (numbers ps)
unfolding numbers
numbers-over bound [] over = tt
numbers-over bound (p ∷ []) over = (over.0, tt)
numbers-over bound (p ∷ q ∷ qs) over =
    let rest = numbers-over bound (q ∷ qs) over.1 in
    elim (q.0 == p.0) as (λ t. AllByRecursion (λ (m : ℕ). bound < m)
    (cond t (numbers (q ∷ qs)) (p.0 ∷ numbers (q ∷ qs)))) [ true ↦ rest | false ↦ (over.0, rest) ]

numbers-rise : (ps : List Row) → AreInOrder ps → Rises (numbers ps)
unfolding numbers Rises
numbers-rise [] order = tt
numbers-rise (p ∷ []) order = (tt, tt)
numbers-rise (p ∷ q ∷ qs) order =
    let rest = numbers-rise (q ∷ qs) order.1 in
    let Goal : Bool → Type 0 = λ t. (q.0 == p.0) ≡ t → Rises (cond t (numbers (q ∷ qs)) (p.0 ∷ numbers (q ∷ qs))) in
    let all : (t : Bool) → Goal t = λ t. elim t as Goal [
      | true ↦ λ same. rest
      | false ↦ λ other. (numbers-over p.0 (q ∷ qs) (greater p q qs order other), rest)
    ] in
    all (q.0 == p.0) refl

increasing : (ns : List ℕ) → Rises ns → IsStrictlyIncreasing ns
unfolding Rises
increasing [] up k h = absurd (omega arith)
increasing (n ∷ []) up k h = absurd (omega arith)
increasing (n ∷ m ∷ ms) up zero h = up.0.0
increasing (n ∷ m ∷ ms) up (suc k) h =
    let next : suc k + 1 ≡ suc (k + 1) = omega arith in
    subst (λ (j : ℕ). slice_index (m ∷ ms) k < slice_index (n ∷ m ∷ ms) j) (sym next) (increasing (m ∷ ms) up.1 k (omega arith))

-- ---- what is listed is all of it

flat-same : (f g : ℕ → List Row) (P : ℕ → Type 0) (ns : List ℕ) → ((n : ℕ) → P n → f n ≡ g n) → AllByRecursion P ns → flat_map f ns ≡ flat_map g ns
flat-same f g P [] same all = refl
flat-same f g P (n ∷ ns) same all = rw (same n all.0, flat-same f g P ns same all.1) refl

-- the rows of each record, by what is said of it
listed : List Row → ℕ → List Row
listed ps n = of_record n (rows_of n ps)

listed-past : (p : Row) (ps : List Row) (n : ℕ) → p.0 < n → listed (p ∷ ps) n ≡ listed ps n
unfolding listed of_record
listed-past p ps n less = let other : (p.0 == n) ≡ false = grind (arith, nat_tests) in rw other refl

listed-here : (p : Row) (ps : List Row) (n : ℕ) → p.0 ≡ n → listed (p ∷ ps) n ≡ p ∷ listed ps n
unfolding listed of_record
listed-here p ps n is =
    let same : (p.0 == n) ≡ true = grind (arith, nat_tests) in
    let first : Path Row (n, p.1) p = λ i. (sym is i, p.1) in
    rw same (ap (λ (x : Row). x ∷ of_record n (rows_of n ps)) first)

listed-none : (ps : List Row) (n : ℕ) → rows_of n ps ≡ [] → listed ps n ≡ []
unfolding listed of_record
listed-none ps n none = rw none refl

numbers-found : (ps : List Row) → AreInOrder ps → ps ≡ flat_map (listed ps) (numbers ps)
unfolding numbers Rises
numbers-found [] order = refl
numbers-found (p ∷ []) order =
    let here = listed-here p [] p.0 refl in
    let none = listed-none [] p.0 refl in
    sym (append-nil (listed (p ∷ []) p.0) ∙ here ∙ ap (λ (xs : List Row). p ∷ xs) none)
numbers-found (p ∷ q ∷ qs) order =
    let ps : List Row = q ∷ qs in
    let rest = numbers-found (q ∷ qs) order.1 in
    let Goal : Bool → Type 0 = λ t. (q.0 == p.0) ≡ t → p ∷ ps ≡ flat_map (listed (p ∷ ps)) (cond t (numbers ps) (p.0 ∷ numbers ps)) in
    let all : (t : Bool) → Goal t = λ t. elim t as Goal [
      | true ↦ λ same.
          let is : p.0 ≡ q.0 = grind (arith, nat_tests) in
          let head = numbers-head q qs in
          let up : Rises (q.0 ∷ head.0) = subst Rises head.1 (numbers-rise (q ∷ qs) order.1) in
          let here = listed-here p ps q.0 is in
          let others = flat-same (listed (p ∷ ps)) (listed ps) (λ (n : ℕ). q.0 < n) head.0 (λ n less. listed-past p ps n (omega (arith, is, less)))
          (first-over q.0 head.0 up) in
          sym
          (ap (λ (ns : List ℕ). flat_map (listed (p ∷ ps)) ns) head.1
          ∙ ap (λ (xs : List Row). xs ++ flat_map (listed (p ∷ ps)) head.0) here
          ∙ ap (λ (xs : List Row). p ∷ (listed ps q.0 ++ xs)) others
          ∙ ap (λ (ns : List ℕ). p ∷ flat_map (listed ps) ns) (sym head.1)
          ∙ ap (λ (xs : List Row). p ∷ xs) (sym rest))
      | false ↦ λ other.
          let over = greater p q qs order other in
          let less = over.0 in
          let none = rows_of-above p.0 q.0 ps (omega arith, order.1.0) less in
          let here = listed-here p ps p.0 refl ∙ ap (λ (xs : List Row). p ∷ xs) (listed-none ps p.0 none) in
          let others =
          flat-same (listed (p ∷ ps)) (listed ps) (λ (n : ℕ). p.0 < n) (numbers ps) (λ n past. listed-past p ps n past) (numbers-over p.0 ps over) in
          sym
          (ap (λ (xs : List Row). xs ++ flat_map (listed (p ∷ ps)) (numbers ps)) here
          ∙ ap (λ (xs : List Row). p ∷ xs) (others ∙ sym rest))
    ] in
    all (q.0 == p.0) refl
  where
    first-over : (n : ℕ) (ns : List ℕ) → Rises (n ∷ ns) → AllByRecursion (λ (m : ℕ). n < m) ns
    first-over n ns up = up.0

-- ---- which records are listed

all-there : (P : ℕ → Type 0) (ns : List ℕ) → AllByRecursion P ns → (n : ℕ) → Contains ns n → P n
all-there P [] all n there = absurd (Contains-nil n there)
all-there P (m ∷ ms) all n there =
    ⊎_elim (λ (here : m ≡ n). subst P here all.0) (λ (later : Contains ms n). all-there P ms all.1 n later) (Contains-cons_cases m ms n there)

still-some : (p : Row) (ps : List Row) (n : ℕ) → rows_of n ps ≢ [] → rows_of n (p ∷ ps) ≢ []
still-some p ps n some =
    let value : Row → Version Value = λ q. q.1 in
    let here : Row → Bool = λ q. q.0 == n in
    elim (p.0 == n) as (λ t. map value (cond t (p ∷ filter here ps) (filter here ps)) ≢ []) [ true ↦ λ e. absurd cc | false ↦ some ]

own-some : (p : Row) (ps : List Row) → rows_of p.0 (p ∷ ps) ≢ []
own-some p ps =
    let same : (p.0 == p.0) ≡ true = grind (arith, nat_tests) in
    rw same (λ e. absurd cc)

all-still : (p : Row) (ps : List Row) (ns : List ℕ) → AllByRecursion (λ (n : ℕ). rows_of n ps ≢ []) ns → AllByRecursion (λ (n : ℕ). rows_of n (p ∷ ps) ≢ []) ns
all-still p ps [] all = tt
all-still p ps (n ∷ ns) all = (still-some p ps n all.0, all-still p ps ns all.1)

numbers-some : (ps : List Row) → AllByRecursion (λ (n : ℕ). rows_of n ps ≢ []) (numbers ps)
unfolding numbers
numbers-some [] = tt
numbers-some (p ∷ []) = (own-some p [], tt)
numbers-some (p ∷ q ∷ qs) =
    let ps : List Row = q ∷ qs in
    let rest = all-still p ps (numbers ps) (numbers-some (q ∷ qs)) in
    elim (q.0 == p.0) as (λ t. AllByRecursion (λ (n : ℕ). rows_of n (p ∷ ps) ≢ [])
    (cond t (numbers ps) (p.0 ∷ numbers ps))) [ true ↦ rest | false ↦ (own-some p ps, rest) ]

numbers-all : (n : ℕ) (ps : List Row) → rows_of n ps ≢ [] → Contains (numbers ps) n
unfolding numbers
numbers-all n [] some = absurd (some refl)
numbers-all n (p ∷ []) some =
    let Goal : Bool → Type 0 = λ t. (p.0 == n) ≡ t → map (λ (q : Row). q.1) (cond t (p ∷ []) []) ≢ [] → Contains (p.0 ∷ []) n in
    let all : (t : Bool) → Goal t = λ t. elim t as Goal [
      | true ↦ λ same h. let is : p.0 ≡ n = grind (arith, nat_tests) in Contains-head p.0 [] n is
      | false ↦ λ other h. absurd (h refl)
    ] in
    all (p.0 == n) refl some
numbers-all n (p ∷ q ∷ qs) some =
    let ps : List Row = q ∷ qs in
    let value : Row → Version Value = λ x. x.1 in
    let here : Row → Bool = λ x. x.0 == n in
    let Goal : Bool → Bool → Type 0 = λ t u. (p.0 == n) ≡ t → (q.0 == p.0) ≡ u → map value (cond t (p ∷ filter here ps) (filter here ps)) ≢ []
    → Contains (cond u (numbers ps) (p.0 ∷ numbers ps)) n in
    let all : (t u : Bool) → Goal t u = λ t u. elim t as (λ t. Goal t u) [
      | true ↦ elim u as (λ u. Goal true u) [
        | true ↦ λ same next h.
            let is : q.0 ≡ n = grind (arith, nat_tests) in
            numbers-all n (q ∷ qs) (subst (λ (k : ℕ). rows_of k ps ≢ []) is (own-some q qs))
        | false ↦ λ same next h. let is : p.0 ≡ n = grind (arith, nat_tests) in Contains-head p.0 (numbers ps) n is
      ]
      | false ↦ elim u as (λ u. Goal false u) [
        | true ↦ λ other next h. numbers-all n (q ∷ qs) h
        | false ↦ λ other next h. Contains-append_right (p.0 ∷ []) (numbers ps) n (numbers-all n (q ∷ qs) h)
      ]
    ] in
    all (p.0 == n) (q.0 == p.0) refl refl some

pub scan-is : (of : Key → List (Version Value)) (relation : ℕ) (found : List Row) → AreInOrder found
    → ((number : ℕ) → rows_of number found ≡ of (key_of relation number)) → IsScanOfRows of relation found
unfolding listed of_record
scan-is of relation found order same = record {
  numbers = numbers found;
  rising = increasing (numbers found) (numbers-rise found order);
  each = λ n. (
    λ there empty. all-there (λ (m : ℕ). rows_of m found ≢ []) (numbers found) (numbers-some found) n there (same n ∙ empty),
    λ some. numbers-all n found (λ empty. some (sym (same n) ∙ empty)),
  );
  found_is = numbers-found found order ∙ flat-same (listed found) (λ n. of_record n (of (key_of relation n))) (λ (n : ℕ). rows_of n found ≢ []) (numbers found)
      (λ n some. ap (λ (rs : List (Version Value)). of_record n rs) (same n)) (numbers-some found);
}

-- A scan of rows shows exactly the rows of the relation's records, rising.
use Rattle.std.proofs.Common.{◌≡◌, ◌≢◌, ℕ, zero, suc, ◌+◌, ◌<◌, ◌==◌, Bool, true, false, cond, List, [], ◌∷◌, ◌++◌, map, Some, refl, ap, sym, ◌∙◌, subst, arith}
use Rattle.std.proofs.Common.{⊎_elim, append-nil}
use Rattle.std.specs.Prelude.{Contains, find}
use Rattle.std.specs.List.{AllByRecursion, slice_index, flat_map}
use Rattle.std.specs.List.Sorted.{IsStrictlyIncreasing}
use Rattle.std.proofs.lemmas.Bool.Decides.{nat_tests}
use Rattle.std.proofs.lemmas.List.Concat.{flat_map-append}
use Rattle.std.proofs.lemmas.List.Elements.{Contains-append_left, Contains-append_right, Contains-append_cases}
use Rattle.history.specs.declared.key.Key.{Key}
use Rattle.history.specs.declared.time.Version.{Version}
use Rattle.history.specs.Key.{same_key, key_of}
use Rattle.history.specs.Queries.{IsScanOfRows}
use Rattle.history.specs.Versions.{versions, rows}
use Rattle.history.proofs.Members.{Contains-nil, Contains-head, Contains-cons_cases}
use Rattle.chains.specs.Writes.{Value}
use Rattle.chains.specs.KeyWrites.{KeyWrites, is_of, AllAbove, IsOrdered, writes_in}
use Rattle.chains.specs.Rows.{shown_rows, scanned_rows, rows_in}

-- the record, if it has rows
number_if : ℕ → List (Version Value) → List ℕ
number_if n [] = []
number_if n (r ∷ rs) = n ∷ []

own : ℕ → ℕ → KeyWrites → List (Version Value)
own a b c = rows (versions c.writes) a b

numbers : ℕ → ℕ → ℕ → List KeyWrites → List ℕ
numbers relation a b [] = []
numbers relation a b (c ∷ cs) = cond (c.key.relation == relation) (number_if c.key.record (own a b c)) [] ++ numbers relation a b cs

-- ---- which record is which

over-if : (k n : ℕ) (rs : List (Version Value)) (ns : List ℕ) → k < n → AllByRecursion (λ (m : ℕ). k < m) ns
    → AllByRecursion (λ (m : ℕ). k < m) (number_if n rs ++ ns)
unfolding number_if
over-if k n [] ns less over = over
over-if k n (r ∷ rs) ns less over = (less, over)

all-over : (relation a b : ℕ) (key : Key) (m : List KeyWrites) → key.relation ≡ relation → AllAbove key m
    → AllByRecursion (λ (n : ℕ). key.record < n) (numbers relation a b m)
unfolding numbers
all-over relation a b key [] is up = tt
all-over relation a b key (c ∷ cs) is up =
    let rest = all-over relation a b key cs is up.1 in
    let Goal : Bool → Type 0 =
    λ t. (c.key.relation == relation) ≡ t
    → AllByRecursion (λ (n : ℕ). key.record < n) (cond t (number_if c.key.record (own a b c)) [] ++ numbers relation a b cs) in
    let all : (t : Bool) → Goal t = λ t. elim t as Goal [
      | true ↦ λ same.
          let above = up.0 in
          let less : key.record < c.key.record = grind (arith, nat_tests) in
          over-if key.record c.key.record (own a b c) (numbers relation a b cs) less rest
      | false ↦ λ other. rest
    ] in
    all (c.key.relation == relation) refl

rises-cons : (n : ℕ) (ns : List ℕ) → AllByRecursion (λ (m : ℕ). n < m) ns → IsStrictlyIncreasing ns → IsStrictlyIncreasing (n ∷ ns)
rises-cons n [] over up k h = absurd (omega arith)
rises-cons n (m ∷ ms) over up zero h = over.0
rises-cons n (m ∷ ms) over up (suc k) h =
    let next : suc k + 1 ≡ suc (k + 1) = omega arith in
    subst (λ (j : ℕ). slice_index (m ∷ ms) k < slice_index (n ∷ m ∷ ms) j) (sym next) (up k (omega arith))

rises-if : (n : ℕ) (rs : List (Version Value)) (ns : List ℕ) → AllByRecursion (λ (m : ℕ). n < m) ns → IsStrictlyIncreasing ns
    → IsStrictlyIncreasing (number_if n rs ++ ns)
unfolding number_if
rises-if n [] ns over up = up
rises-if n (r ∷ rs) ns over up = rises-cons n ns over up

rises : (relation a b : ℕ) (m : List KeyWrites) → IsOrdered m → IsStrictlyIncreasing (numbers relation a b m)
unfolding numbers
rises relation a b [] o = λ k h. absurd (omega arith)
rises relation a b (c ∷ cs) o =
    let rest = rises relation a b cs o.1 in
    let Goal : Bool → Type 0 =
    λ t. (c.key.relation == relation) ≡ t → IsStrictlyIncreasing (cond t (number_if c.key.record (own a b c)) [] ++ numbers relation a b cs) in
    let all : (t : Bool) → Goal t = λ t. elim t as Goal [
      | true ↦ λ same.
          let is : c.key.relation ≡ relation = grind (arith, nat_tests) in
          rises-if c.key.record (own a b c) (numbers relation a b cs) (all-over relation a b c.key cs is o.0) rest
      | false ↦ λ other. rest
    ] in
    all (c.key.relation == relation) refl

-- ---- which records are shown

over-not : (k : ℕ) (ns : List ℕ) → AllByRecursion (λ (m : ℕ). k < m) ns → ¬ Contains ns k
over-not k [] over there = Contains-nil k there
over-not k (n ∷ ns) over there =
    ⊎_elim
    (λ (here : n ≡ k). let less = over.0 in absurd (omega (arith, here)))
    (λ (later : Contains ns k). over-not k ns over.1 later)
    (Contains-cons_cases n ns k there)

in-if : (k n : ℕ) (rs : List (Version Value)) → Contains (number_if n rs) k → (n ≡ k) × (rs ≢ [])
unfolding number_if
in-if k n [] there = absurd (Contains-nil k there)
in-if k n (r ∷ rs) there =
    ⊎_elim
    (λ (here : n ≡ k). (here, λ e. absurd cc))
    (λ (later : Contains [] k). absurd (Contains-nil k later))
    (Contains-cons_cases n [] k there)

has-if : (n : ℕ) (rs : List (Version Value)) → rs ≢ [] → Contains (number_if n rs) n
unfolding number_if
has-if n [] some = absurd (some refl)
has-if n (r ∷ rs) some = Contains-head n [] n refl

shown-only : (relation a b : ℕ) (m : List KeyWrites) → IsOrdered m → (n : ℕ) → Contains (numbers relation a b m) n → rows_in m a b (key_of relation n) ≢ []
unfolding numbers own
shown-only relation a b [] o n there = absurd (Contains-nil n there)
shown-only relation a b (c ∷ cs) o n there =
    let key = key_of relation n in
    let Goal : Bool → Type 0 = λ t. (c.key.relation == relation) ≡ t → Contains (cond t (number_if c.key.record (own a b c)) [] ++ numbers relation a b cs) n
    → rows (versions (writes_in (cond (same_key c.key key) (Some c) (find (is_of key) cs)))) a b ≢ [] in
    let all : (t : Bool) → Goal t = λ t. elim t as Goal [
      | true ↦ λ is h.
          let of_it : c.key.relation ≡ relation = grind (arith, nat_tests) in
          ⊎_elim
          (λ (here : Contains (number_if c.key.record (own a b c)) n).
          let both = in-if n c.key.record (own a b c) here in
          let same : same_key c.key key ≡ true = grind (arith, nat_tests, both.0, of_it) in
          rw same both.1)
          (λ (later : Contains (numbers relation a b cs) n).
          let rest = shown-only relation a b cs o.1 n later in
          let Inner : Bool → Type 0 = λ s. same_key c.key key ≡ s → rows (versions (writes_in (cond s (Some c) (find (is_of key) cs)))) a b ≢ [] in
          let inner : (s : Bool) → Inner s = λ s. elim s as Inner [
            | true ↦ λ same.
                let number_is : c.key.record ≡ n = grind (arith, nat_tests) in
                absurd (over-not n (numbers relation a b cs)
                (subst (λ (k : ℕ). AllByRecursion (λ (m : ℕ). k < m) (numbers relation a b cs)) number_is (all-over relation a b c.key cs of_it o.0)) later)
            | false ↦ λ other. rest
          ] in
          inner (same_key c.key key) refl)
          (Contains-append_cases (number_if c.key.record (own a b c)) (numbers relation a b cs) n h)
      | false ↦ λ is h.
          let other : same_key c.key key ≡ false = grind (arith, nat_tests) in
          rw other (shown-only relation a b cs o.1 n h)
    ] in
    all (c.key.relation == relation) refl there

shown-all : (relation a b : ℕ) (m : List KeyWrites) (n : ℕ) → rows_in m a b (key_of relation n) ≢ [] → Contains (numbers relation a b m) n
unfolding numbers own
shown-all relation a b [] n some = absurd (some refl)
shown-all relation a b (c ∷ cs) n some =
    let key = key_of relation n in
    let front : List ℕ = cond (c.key.relation == relation) (number_if c.key.record (own a b c)) [] in
    let Goal : Bool → Type 0 =
    λ s. same_key c.key key ≡ s → rows (versions (writes_in (cond s (Some c) (find (is_of key) cs)))) a b ≢ []
    → Contains (front ++ numbers relation a b cs) n in
    let all : (s : Bool) → Goal s = λ s. elim s as Goal [
      | true ↦ λ same h.
          let here : (c.key.relation == relation) ≡ true = grind (arith, nat_tests) in
          let number_is : c.key.record ≡ n = grind (arith, nat_tests) in
          Contains-append_left front (numbers relation a b cs) n
          (rw here (subst (λ (k : ℕ). Contains (number_if c.key.record (own a b c)) k) number_is (has-if c.key.record (own a b c) h)))
      | false ↦ λ other h. Contains-append_right front (numbers relation a b cs) n (shown-all relation a b cs n h)
    ] in
    all (same_key c.key key) refl some

-- ---- what is shown of them

abbrev pub Row : Type 0
Row = ℕ × Version Value

paired : (Key → List (Version Value)) → ℕ → ℕ → List Row
paired of relation n = map (λ (row : Version Value). let r : Row = (n, row) in r) (of (key_of relation n))

flat-same : (f g : ℕ → List Row) (P : ℕ → Type 0) (ns : List ℕ) → ((n : ℕ) → P n → f n ≡ g n) → AllByRecursion P ns → flat_map f ns ≡ flat_map g ns
flat-same f g P [] same all = refl
flat-same f g P (n ∷ ns) same all = rw (same n all.0, flat-same f g P ns same all.1) refl

-- the rows of the record that a chain is of
own-part : (of : Key → List (Version Value)) (relation n : ℕ) (rs : List (Version Value)) → of (key_of relation n) ≡ rs
    → flat_map (paired of relation) (number_if n rs) ≡ map (λ (row : Version Value). let r : Row = (n, row) in r) rs
unfolding number_if paired
own-part of relation n [] is = refl
own-part of relation n (r ∷ rs) is =
    append-nil (paired of relation n) ∙ ap (λ (l : List (Version Value)). map (λ (row : Version Value). let x : Row = (n, row) in x) l) is

all-numbers : (ns : List ℕ) → AllByRecursion (λ (n : ℕ). Unit {0}) ns
all-numbers [] = tt
all-numbers (n ∷ ns) = (tt, all-numbers ns)

found-is : (relation a b : ℕ) (m : List KeyWrites) → IsOrdered m → scanned_rows relation a b m
    ≡ flat_map (paired (rows_in m a b) relation) (numbers relation a b m)
unfolding numbers own paired
found-is relation a b [] o = refl
found-is relation a b (c ∷ cs) o =
    let rest = found-is relation a b cs o.1 in
    let whole = paired (rows_in (c ∷ cs) a b) relation in
    let Goal : Bool → Type 0 = λ t. (c.key.relation == relation) ≡ t
    → cond t (shown_rows a b c) [] ++ scanned_rows relation a b cs
    ≡ flat_map whole (cond t (number_if c.key.record (own a b c)) [] ++ numbers relation a b cs) in
    let all : (t : Bool) → Goal t = λ t. elim t as Goal [
      | true ↦ λ is.
          let of_it : c.key.relation ≡ relation = grind (arith, nat_tests) in
          let mine : same_key c.key (key_of relation c.key.record) ≡ true = grind (arith, nat_tests, of_it) in
          let own_is : rows_in (c ∷ cs) a b (key_of relation c.key.record) ≡ own a b c = rw mine refl in
          let others : flat_map (paired (rows_in cs a b) relation) (numbers relation a b cs) ≡ flat_map whole (numbers relation a b cs) =
          flat-same (paired (rows_in cs a b) relation) whole (λ (n : ℕ). c.key.record < n) (numbers relation a b cs)
          (λ n less. other-record n (later-record n less)) (all-over relation a b c.key cs of_it o.0) in
          ap (λ (l : List Row). shown_rows a b c ++ l) (rest ∙ others)
          ∙ ap (λ (l : List Row). l
          ++ flat_map whole (numbers relation a b cs)) (sym (own-part (rows_in (c ∷ cs) a b) relation c.key.record (own a b c) own_is))
          ∙ sym (flat_map-append whole (number_if c.key.record (own a b c)) (numbers relation a b cs))
      | false ↦ λ is.
          rest ∙ flat-same (paired (rows_in cs a b) relation) whole (λ (n : ℕ). Unit {0}) (numbers relation a b cs)
          (λ n u. other-record n (grind (arith, nat_tests))) (all-numbers (numbers relation a b cs))
    ] in
    all (c.key.relation == relation) refl
  where
    later-record : (n : ℕ) → c.key.record < n → same_key c.key (key_of relation n) ≡ false
    later-record n less = grind (arith, nat_tests)

    other-record : (n : ℕ) → same_key c.key (key_of relation n) ≡ false → paired (rows_in cs a b) relation n ≡ paired (rows_in (c ∷ cs) a b) relation n
    other-record n other = rw other refl

pub scan_of_rows : (m : List KeyWrites) (relation a b : ℕ) → IsOrdered m → IsScanOfRows (rows_in m a b) relation (scanned_rows relation a b m)
unfolding paired
scan_of_rows m relation a b o = record {
  numbers = numbers relation a b m;
  rising = rises relation a b m o;
  each = λ n. (shown-only relation a b m o n, shown-all relation a b m n);
  found_is = found-is relation a b m o;
}

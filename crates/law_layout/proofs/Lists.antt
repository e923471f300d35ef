-- What holds of each element, and extents with different numbers.
use Rattle.std.proofs.Common.{◌≢◌, inl, inr, ℕ, ◌<◌, List, [], ◌∷◌, ◌++◌, sym, arith}
use Rattle.std.specs.List.{AllByRecursion}
use Rattle.std.proofs.lemmas.Bool.{cases_lt}
use Rattle.disk.specs.Parts.{AreApart}
use Rattle.history.proofs.Filters.{AllByRecursion-append}
use Rattle.law_layout.specs.Extents.{Extent, AreDistinct, extent_start}

pub weaker : {X : Type 0} (P Q : X → Type 0) (xs : List X) → ((x : X) → P x → Q x) → AllByRecursion P xs → AllByRecursion Q xs
weaker P Q [] f all = tt
weaker P Q (x ∷ xs) f all = (f x all.0, weaker P Q xs f all.1)

pub both : {X : Type 0} (P Q R : X → Type 0) (xs : List X) → ((x : X) → P x → Q x → R x) → AllByRecursion P xs → AllByRecursion Q xs → AllByRecursion R xs
both P Q R [] f ps qs = tt
both P Q R (x ∷ xs) f ps qs = (f x ps.0 qs.0, both P Q R xs f ps.1 qs.1)

pub three : {X : Type 0} (P Q R S : X → Type 0) (xs : List X) → ((x : X) → P x → Q x → R x → S x) → AllByRecursion P xs → AllByRecursion Q xs
    → AllByRecursion R xs → AllByRecursion S xs
three P Q R S [] f ps qs rs = tt
three P Q R S (x ∷ xs) f ps qs rs = (f x ps.0 qs.0 rs.0, three P Q R S xs f ps.1 qs.1 rs.1)

pub all_of_front : {X : Type 0} (P : X → Type 0) (xs ys : List X) → AllByRecursion P (xs ++ ys) → AllByRecursion P xs
all_of_front P [] ys all = tt
all_of_front P (x ∷ xs) ys all = (all.0, all_of_front P xs ys all.1)

pub all_of_back : {X : Type 0} (P : X → Type 0) (xs ys : List X) → AllByRecursion P (xs ++ ys) → AllByRecursion P ys
all_of_back P [] ys all = all
all_of_back P (x ∷ xs) ys all = all_of_back P xs ys all.1

-- those before an extent have other numbers
pub others : (e : Extent) (xs ys : List Extent) → AreDistinct (xs ++ e ∷ ys) → AllByRecursion (λ f. f.number ≢ e.number) xs
others e [] ys distinct = tt
others e (x ∷ xs) ys distinct = ((all_of_back (λ f. x.number ≢ f.number) xs (e ∷ ys) distinct.0).0, others e xs ys distinct.1)

pub numbers_apart : (m n : ℕ) → 0 < m → 0 < n → m ≢ n → AreApart (extent_start m) 8192 (extent_start n) 8192
numbers_apart m n low_m low_n other = elim (cases_lt m n) [
  | inl below ↦ inl (omega arith)
  | inr behind ↦ inr (omega arith)
]

-- ---- distinct extents in two lists

abbrev pub AreCross : List Extent → List Extent → Type 0
AreCross xs ys = AllByRecursion (λ e. AllByRecursion (λ f. e.number ≢ f.number) ys) xs

pub distinct_parts : (xs ys : List Extent) → AreDistinct (xs ++ ys) → AreDistinct xs × AreDistinct ys × AreCross xs ys
distinct_parts [] ys distinct = (tt, distinct, tt)
distinct_parts (x ∷ xs) ys distinct =
    let rest = distinct_parts xs ys distinct.1 in
    let P : Extent → Type 0 = λ f. x.number ≢ f.number in
    ((all_of_front P xs ys distinct.0, rest.0), rest.1, (all_of_back P xs ys distinct.0, rest.2))

pub distinct_join : (xs ys : List Extent) → AreDistinct xs → AreDistinct ys → AreCross xs ys → AreDistinct (xs ++ ys)
distinct_join [] ys a b cross = b
distinct_join (x ∷ xs) ys a b cross = (AllByRecursion-append (λ (f : Extent). x.number ≢ f.number) xs ys a.0 cross.0, distinct_join xs ys a.1 b cross.1)

pub cross_turned : (xs ys : List Extent) → AreCross xs ys → AreCross ys xs
cross_turned xs [] cross = tt
cross_turned xs (y ∷ ys) cross = (
  weaker (λ (e : Extent). (e.number ≢ y.number)
      × AllByRecursion (λ f. e.number ≢ f.number) ys) (λ (e : Extent). y.number ≢ e.number) xs (λ e all same. all.0 (sym same)) cross,
  cross_turned xs ys (weaker (λ (e : Extent). (e.number ≢ y.number)
      × AllByRecursion (λ f. e.number ≢ f.number) ys) (λ (e : Extent). AllByRecursion (λ f. e.number ≢ f.number) ys) xs (λ e all. all.1) cross),
)

-- The numbers of a chain's extents.
use Rattle.std.proofs.Common.{◌≡◌, ◌≢◌, ℕ, ◌^◌, ◌<◌, ◌≤◌, max, List, [], ◌∷◌, ◌++◌, refl, sym, arith}
use Rattle.std.specs.List.{AllByRecursion}
use Rattle.std.proofs.Math.Nat.{le-max_left, le-max_right}
use Rattle.log_extents.specs.Chains.{first_or, IsNumberOf, IsNew, AreOthersUpto, greatest_after, AreDistinct}

abbrev pub AreSmall : List ℕ → Type 0
AreSmall numbers = AllByRecursion (λ n. n < 2 ^ 32) numbers

pub small_numbers : (most : ℕ) (numbers : List ℕ) → most < 2 ^ 32 → AllByRecursion (IsNumberOf most) numbers → AreSmall numbers
small_numbers most [] few each = tt
small_numbers most (n ∷ ns) few each = (let high = each.0.1 in omega (arith, high, few), small_numbers most ns few each.1)

pub first_small : (end : ℕ) (numbers : List ℕ) → end < 2 ^ 32 → AreSmall numbers → first_or end numbers < 2 ^ 32
first_small end [] small each = small
first_small end (n ∷ ns) small each = each.0

pub first_most : (most : ℕ) (numbers : List ℕ) → AllByRecursion (IsNumberOf most) numbers → first_or 0 numbers ≤ most
first_most most [] each = omega arith
first_most most (n ∷ ns) each = each.0.1

pub cons_some : (n : ℕ) (ns : List ℕ) → n ∷ ns ≢ []
cons_some n ns is = cc

-- a first number of 0 is none
pub no_first : (most : ℕ) (numbers : List ℕ) → AllByRecursion (IsNumberOf most) numbers → first_or 0 numbers ≡ 0 → numbers ≡ []
no_first most [] each none = refl
no_first most (n ∷ ns) each none = absurd (let low = each.0.0 in omega (arith, low, none))

-- ---- one number more

pub all_push : (P : ℕ → Type 0) (xs : List ℕ) (x : ℕ) → AllByRecursion P xs → P x → AllByRecursion P (xs ++ x ∷ [])
all_push P [] x each one = (one, tt)
all_push P (y ∷ ys) x each one = (each.0, all_push P ys x each.1 one)

pub distinct_push : (xs : List ℕ) (x : ℕ) → AreDistinct xs → IsNew x xs → AreDistinct (xs ++ x ∷ [])
distinct_push [] x apart new = (tt, tt)
distinct_push (y ∷ ys) x apart new = (all_push (λ n. n ≢ y) ys x apart.0 (λ same. new.0 (sym same)), distinct_push ys x apart.1 new.1)

pub first_push : (end x : ℕ) (xs : List ℕ) → first_or end (xs ++ x ∷ []) ≡ first_or x xs
first_push end x [] = refl
first_push end x (y ∷ ys) = refl

-- ---- the numbers from a place on

pub all_behind : (P : ℕ → Type 0) (xs ys : List ℕ) → AllByRecursion P (xs ++ ys) → AllByRecursion P ys
all_behind P [] ys each = each
all_behind P (x ∷ xs) ys each = all_behind P xs ys each.1

-- the one behind another is not that one, and none of those before it
pub new_behind : (xs : List ℕ) (x y : ℕ) (ys : List ℕ) → AreDistinct (xs ++ x ∷ y ∷ ys) → (x ≢ y) × IsNew y xs
new_behind [] x y ys apart = (λ same. apart.0.0 (sym same), tt)
new_behind (z ∷ zs) x y ys apart =
    let rest = new_behind zs x y ys apart.1 in
    let other = all_behind (λ n. n ≢ z) zs (x ∷ y ∷ ys) apart.0 in
    (rest.0, (λ same. other.1.0 (sym same), rest.1))

-- ---- numbers up to the greatest

-- one above the greatest is new
pub new_above : (greatest x : ℕ) (xs : List ℕ) → AllByRecursion (λ n. n ≤ greatest) xs → greatest < x → IsNew x xs
new_above greatest x [] upto above = tt
new_above greatest x (y ∷ ys) upto above = (λ same. let most = upto.0 in omega (arith, most, above, same), new_above greatest x ys upto.1 above)

upto_push : (before greatest x : ℕ) (xs : List ℕ) → AllByRecursion (λ n. n ≤ before) xs → before ≤ greatest → x ≤ greatest
    → AllByRecursion (λ n. n ≤ greatest) (xs ++ x ∷ [])
upto_push before greatest x [] upto more own = (own, tt)
upto_push before greatest x (y ∷ ys) upto more own = (let most = upto.0 in omega (arith, most, more), upto_push before greatest x ys upto.1 more own)

others_after : (numbers : List ℕ) (greatest x : ℕ) → AreOthersUpto greatest numbers → AreOthersUpto (greatest_after numbers greatest x) (numbers ++ x ∷ [])
others_after [] greatest x upto = tt
others_after (n ∷ ns) greatest x upto = upto_push greatest (max greatest x) x ns upto (le-max_left greatest x) (le-max_right greatest x)

pub others_made : (numbers new : List ℕ) (greatest x result : ℕ) → AreOthersUpto greatest numbers → new ≡ numbers ++ x ∷ [] → result
    ≡ greatest_after numbers greatest x → AreOthersUpto result new
others_made numbers new greatest x result upto new_is result_is = rw (new_is, result_is) (others_after numbers greatest x upto)

-- Lists of items that are spelled one behind the other.
use Rattle.std.proofs.Common.{◌≡◌, ℕ, ◌<◌, List, [], ◌∷◌, ◌++◌, length, refl, sym, ◌∙◌, ap, subst, arith, append_assoc, length-append}
use Rattle.std.specs.List.{flat_map, AllByRecursion}
use Rattle.std.proofs.lemmas.List.{append-nil}
use Rattle.std.proofs.lemmas.Grind.{flat_map-append}
use Rattle.history.proofs.Filters.{AllByRecursion-append}
use Rattle.log_entries.specs.Items.{HasNone}

-- an item is told from the front of bytes
abbrev pub IsCode : {X : Type 0} → (X → List ℕ) → (X → Type 0) → Type 0
IsCode {X} bytes_of Is = (a b : X) (r s : List ℕ) → Is a → Is b → bytes_of a ++ r ≡ bytes_of b ++ s → (a ≡ b) × (r ≡ s)

-- the first of a list, and the rest of it
first_of_list : {X : Type 0} (bytes_of : X → List ℕ) (x : X) (xs : List X) (r : List ℕ)
    → flat_map bytes_of (x ∷ xs) ++ r ≡ bytes_of x ++ (flat_map bytes_of xs ++ r)
first_of_list bytes_of x xs r = append_assoc (bytes_of x) (flat_map bytes_of xs) r

firsts : {X : Type 0} (bytes_of : X → List ℕ) (x y : X) (xs ys : List X) (r s : List ℕ) → flat_map bytes_of (x ∷ xs) ++ r ≡ flat_map bytes_of (y ∷ ys) ++ s
    → bytes_of x ++ (flat_map bytes_of xs ++ r) ≡ bytes_of y ++ (flat_map bytes_of ys ++ s)
firsts bytes_of x y xs ys r s same = sym (first_of_list bytes_of x xs r) ∙ same ∙ first_of_list bytes_of y ys s

-- lists of one length are told from the front of bytes
pub counted_list : {X : Type 0} (bytes_of : X → List ℕ) (Is : X → Type 0) → IsCode bytes_of Is → (xs ys : List X) (r s : List ℕ)
    → AllByRecursion Is xs → AllByRecursion Is ys → length xs ≡ length ys
    → flat_map bytes_of xs ++ r ≡ flat_map bytes_of ys ++ s → (xs ≡ ys) × (r ≡ s)
counted_list bytes_of Is code [] [] r s is_xs is_ys len same = (refl, same)
counted_list bytes_of Is code [] (y ∷ ys) r s is_xs is_ys len same = absurd (omega (arith, len))
counted_list bytes_of Is code (x ∷ xs) [] r s is_xs is_ys len same = absurd (omega (arith, len))
counted_list bytes_of Is code (x ∷ xs) (y ∷ ys) r s is_xs is_ys len same =
    let head = code x y (flat_map bytes_of xs ++ r) (flat_map bytes_of ys ++ s) is_xs.0 is_ys.0 (firsts bytes_of x y xs ys r s same) in
    let tail = counted_list bytes_of Is code xs ys r s is_xs.1 is_ys.1 (omega (arith, len)) head.1 in
    let first = head.0 in
    let others = tail.0 in
    (λ i. first i ∷ others i, tail.1)

-- lists that nothing follows which could go on with them are told from the front of bytes
pub full_list : {X : Type 0} (bytes_of : X → List ℕ) (Is : X → Type 0) → IsCode bytes_of Is → (xs ys : List X) (r s : List ℕ) → AllByRecursion Is xs
    → AllByRecursion Is ys
    → HasNone bytes_of Is r → HasNone bytes_of Is s → flat_map bytes_of xs ++ r ≡ flat_map bytes_of ys ++ s → (xs ≡ ys) × (r ≡ s)
full_list bytes_of Is code [] [] r s is_xs is_ys none_r none_s same = (refl, same)
full_list bytes_of Is code [] (y ∷ ys) r s is_xs is_ys none_r none_s same =
    absurd (none_r y (flat_map bytes_of ys ++ s) is_ys.0 (same ∙ first_of_list bytes_of y ys s))
full_list bytes_of Is code (x ∷ xs) [] r s is_xs is_ys none_r none_s same =
    absurd (none_s x (flat_map bytes_of xs ++ r) is_xs.0 (sym same ∙ first_of_list bytes_of x xs r))
full_list bytes_of Is code (x ∷ xs) (y ∷ ys) r s is_xs is_ys none_r none_s same =
    let head = code x y (flat_map bytes_of xs ++ r) (flat_map bytes_of ys ++ s) is_xs.0 is_ys.0 (firsts bytes_of x y xs ys r s same) in
    let tail = full_list bytes_of Is code xs ys r s is_xs.1 is_ys.1 none_r none_s head.1 in
    let first = head.0 in
    let others = tail.0 in
    (λ i. first i ∷ others i, tail.1)

-- a longer list goes on behind a shorter one
pub longer_list : {X : Type 0} (bytes_of : X → List ℕ) (Is : X → Type 0) → IsCode bytes_of Is → (xs ys : List X) (r s : List ℕ)
    → AllByRecursion Is xs → AllByRecursion Is ys → length xs < length ys
    → HasNone bytes_of Is r → flat_map bytes_of xs ++ r ≡ flat_map bytes_of ys ++ s → ⊥
longer_list bytes_of Is code xs [] r s is_xs is_ys len none_r same = absurd (omega (arith, len))
longer_list bytes_of Is code [] (y ∷ ys) r s is_xs is_ys len none_r same = none_r y (flat_map bytes_of ys ++ s) is_ys.0 (same ∙ first_of_list bytes_of y ys s)
longer_list bytes_of Is code (x ∷ xs) (y ∷ ys) r s is_xs is_ys len none_r same =
    let head = code x y (flat_map bytes_of xs ++ r) (flat_map bytes_of ys ++ s) is_xs.0 is_ys.0 (firsts bytes_of x y xs ys r s same) in
    longer_list bytes_of Is code xs ys r s is_xs.1 is_ys.1 (omega (arith, len)) none_r head.1

-- one more item behind those that were found
pub one_behind : {X : Type 0} (bytes_of : X → List ℕ) (found : List X) (x : X) (bytes rest after : List ℕ) → bytes ≡ flat_map bytes_of found ++ rest
    → rest ≡ bytes_of x ++ after
    → bytes ≡ flat_map bytes_of (found ++ x ∷ []) ++ after
one_behind bytes_of found x bytes rest after is rest_is =
    let more : flat_map bytes_of (found ++ x ∷ []) ≡ flat_map bytes_of found ++ bytes_of x =
    flat_map-append bytes_of found (x ∷ []) ∙ ap (λ (l : List ℕ). flat_map bytes_of found ++ l) (append-nil (bytes_of x)) in
    is ∙ ap (λ (l : List ℕ). flat_map bytes_of found ++ l) rest_is ∙ sym (append_assoc (flat_map bytes_of found) (bytes_of x) after)
    ∙ ap (λ (l : List ℕ). l ++ after) (sym more)

pub shorter : (front rest after : List ℕ) → 0 < length front → rest ≡ front ++ after → length after < length rest
shorter front rest after some is = omega (arith, length-append front after, ap (λ (l : List ℕ). length l) is, some)

-- these were found so far, and this is left of the bytes
pub record SoFar {X : Type 0} (bytes_of : X → List ℕ) (Is : X → Type 0) (bytes : List ℕ) (found : List X) (rest : List ℕ) : Type 0 where
  pub each : AllByRecursion Is found
  pub bytes_are : bytes ≡ flat_map bytes_of found ++ rest

pub none_so_far : {X : Type 0} (bytes_of : X → List ℕ) (Is : X → Type 0) (bytes : List ℕ) (found : List X) → found ≡ [] → SoFar bytes_of Is bytes found bytes
none_so_far {X} bytes_of Is bytes found none = subst (λ (l : List X). SoFar bytes_of Is bytes l bytes) (sym none) (record { each = tt; bytes_are = refl })

pub one_so_far : {X : Type 0} (bytes_of : X → List ℕ) (Is : X → Type 0) (bytes rest after : List ℕ) (found more : List X) (x : X)
    → more ≡ found ++ x ∷ [] → Is x → rest ≡ bytes_of x ++ after
    → SoFar bytes_of Is bytes found rest → SoFar bytes_of Is bytes more after
one_so_far {X} bytes_of Is bytes rest after found more x more_is is rest_is so_far =
    subst (λ (l : List X). SoFar bytes_of Is bytes l after) (sym more_is)
    (record {
      each = AllByRecursion-append Is found (x ∷ []) so_far.each (is, tt);
      bytes_are = one_behind bytes_of found x bytes rest after so_far.bytes_are rest_is;
    })

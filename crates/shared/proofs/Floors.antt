-- The floors of all relations, in a list.
use Rattle.std.proofs.Common.{◌≡◌, ℕ, zero, suc, ◌+◌, ◌<◌, ◌≤◌, ◌^◌, cond, List, [], ◌∷◌, map, get_or, Option, refl, sym, ap, ◌∙◌, arith}
use Rattle.std.specs.List.{range_with_len}
use Rattle.std.proofs.lemmas.List.FromFn.{get_or-map-range_with_len}
use Rattle.history.specs.Floors.{covers, raised}
use Rattle.shared.specs.Seen.{floors_listed, floor_in}

-- that of a relation is where it is looked for
listed : (floors : ℕ → ℕ) (relation : ℕ) → relation < 2 ^ 16 → floor_in (floors_listed floors) relation ≡ floors relation
unfolding floors_listed
listed floors relation within = get_or-map-range_with_len floors 0 (2 ^ 16) relation relation 0 within (omega arith)

-- the same numbers are made of a range
map-same : (f g : ℕ → ℕ) (a n : ℕ) → ((i : ℕ) → i < a + n → f i ≡ g i) → map f (range_with_len a n) ≡ map g (range_with_len a n)
map-same f g a zero same = refl
map-same f g a (suc n) same =
    let rest = map-same f g (a + 1) n (λ i within. same i (omega arith)) in
    ap (λ x. x ∷ map f (range_with_len (a + 1) n)) (same a (omega arith)) ∙ ap (λ l. g a ∷ l) rest

listed-same : (f g : ℕ → ℕ) → ((relation : ℕ) → relation < 2 ^ 16 → f relation ≡ g relation) → floors_listed f ≡ floors_listed g
unfolding floors_listed
listed-same f g same = map-same f g 0 (2 ^ 16) same

-- one is raised among those that are listed as among those that stand
pub listed-raised : (scope : Option ℕ) (floor : ℕ) (floors : ℕ → ℕ) → floors_listed (raised scope floor floors)
    ≡ floors_listed (raised scope floor (floor_in (floors_listed floors)))
listed-raised scope floor floors =
    listed-same (raised scope floor floors) (raised scope floor (floor_in (floors_listed floors)))
    (λ relation within. ap (λ x. cond (covers scope relation) floor x) (sym (listed floors relation within)))

-- what is no lower by relation is no lower by place
map-later : (f g : ℕ → ℕ) → ((relation : ℕ) → f relation ≤ g relation) → (xs : List ℕ) (place : ℕ) → get_or (map f xs) place 0 ≤ get_or (map g xs) place 0
map-later f g rise [] place = omega arith
map-later f g rise (x ∷ xs) zero = rise x
map-later f g rise (x ∷ xs) (suc place) = map-later f g rise xs place

pub listed-later : (f g : ℕ → ℕ) → ((relation : ℕ) → f relation ≤ g relation) → (relation : ℕ)
    → floor_in (floors_listed f) relation ≤ floor_in (floors_listed g) relation
unfolding floors_listed
listed-later f g rise relation = map-later f g rise (range_with_len 0 (2 ^ 16)) relation

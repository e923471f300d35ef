-- A floor that is raised in its place.
use Rattle.std.proofs.Common.{◌≡◌, ◌≢◌, ℕ, zero, suc, ◌<◌, true, false, ◌==◌, List, [], ◌∷◌, ◌++◌, length, take, drop, get_or, slice_set, refl, ap, arith}
use Rattle.std.proofs.lemmas.Bool.Decides.{nat_tests}
use Rattle.floors.specs.declared.floors.OwnFloor.{OwnFloor}
use Rattle.floors.specs.Floors.{behind}

-- it is there already
pub set-behind : (own : List OwnFloor) (place relation : ℕ) (raised : OwnFloor) → place < length own
    → ((d : OwnFloor) → (get_or own place d).relation ≡ relation)
    → slice_set own place raised ≡ take place own ++ raised ∷ behind (drop place own) relation
set-behind [] place relation raised within is = absurd (omega (arith, within))
set-behind (o ∷ os) zero relation raised within is =
    let same : (o.relation == relation) ≡ true = let e = is o in grind (arith, nat_tests, e) in
    rw same refl
set-behind (o ∷ os) (suc place) relation raised within is = ap (λ os. o ∷ os) (set-behind os place relation raised (omega (arith, within)) is)

-- it is not
pub none-behind : (own : List OwnFloor) (place relation : ℕ) → ((d : OwnFloor) → place < length own → (get_or own place d).relation ≢ relation)
    → behind (drop place own) relation ≡ drop place own
none-behind [] zero relation none = refl
none-behind [] (suc place) relation none = refl
none-behind (o ∷ os) zero relation none =
    let differs : o.relation ≢ relation = none o (omega arith) in
    let apart : (o.relation == relation) ≡ false = grind (arith, nat_tests) in
    rw apart refl
none-behind (o ∷ os) (suc place) relation none = none-behind os place relation (λ d low. none d (omega (arith, low)))

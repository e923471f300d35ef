-- How many floors a base names: no more than stand in memory.
use Rattle.std.proofs.Common.{◌≡◌, ℕ, zero, suc, ◌<◌, ◌≤◌, ◌==◌, max, nat_lt, Bool, true, false, cond, List, [], ◌∷◌, length, take}
use Rattle.std.proofs.Common.{refl, arith, ap, sym, subst, ◌∙◌}
use Rattle.std.specs.Prelude.{if◌then◌else◌}
use Rattle.std.specs.List.{AllByRecursion}
use Rattle.std.proofs.lemmas.Bool.Decides.{nat_tests}
use Rattle.floors.specs.Floors.{FloorsValue, AreRising, behind, floor_at, floor_or, with_own}
use Rattle.floors.specs.declared.floors.OwnFloor.{OwnFloor}
use Rattle.log_entries.specs.declared.entry.RelationFloor.{RelationFloor}
use Rattle.log_base.specs.Bases.{own_behind, own_from, raised_by}
use Rattle.log_recovery.specs.Live.{LiveChainValue}
use Rattle.log_recovery.specs.declared.live.LivePart.{LivePart}
use Rattle.log_recovery.specs.declared.live.LivePart.TheVariants.{Commits, Archived, Floor}
use Rattle.log_recovery.specs.declared.live.LivePart.TheVariants as parts

-- ---- a floor that is raised takes no other's place

with-longer : (own : List OwnFloor) (relation floor : ℕ) → length own ≤ length (with_own own relation floor)
with-longer [] relation floor = omega arith
with-longer (o ∷ os) relation floor = by-order (nat_lt o.relation relation) (with-longer os relation floor)
  where
    by-same : (b : Bool) → suc (length os) ≤ suc (length (cond b os (o ∷ os)))
    by-same true = omega arith
    by-same false = omega arith

    by-order : (b : Bool) → length os ≤ length (with_own os relation floor)
        → suc (length os) ≤ length (cond b (o ∷ with_own os relation floor) (record { relation = relation; floor = floor } ∷ behind (o ∷ os) relation))
    by-order true rest = omega (arith, rest)
    by-order false rest = by-same (o.relation == relation)

raised-longer : (own : List OwnFloor) (more : List RelationFloor) → length own ≤ length (raised_by own more)
raised-longer own [] = omega arith
raised-longer own (f ∷ more) =
    let one = with-longer own f.relation f.floor in
    let rest = raised-longer (with_own own f.relation f.floor) more in
    omega (arith, one, rest)

pub own-longer : (own : List OwnFloor) (part : LivePart) → length own ≤ length (own_behind own part)
own-longer own (Commits last) = omega arith
own-longer own (Archived archive) = omega arith
own-longer own (Floor floor) = with-longer own floor.relation floor.floor
own-longer own (parts.Base base) = raised-longer own base.floors

from-longer : (own : List OwnFloor) (cs : List LiveChainValue) → length own ≤ length (own_from own cs)
from-longer own [] = omega arith
from-longer own (c ∷ cs) =
    let one = own-longer own c.part in
    let rest = from-longer (own_behind own c.part) cs in
    omega (arith, one, rest)

-- so the front of a log has no more of them than all of it
pub front-fewer : (n : ℕ) (own : List OwnFloor) (cs : List LiveChainValue) → length (own_from own (take n cs)) ≤ length (own_from own cs)
front-fewer zero own cs = from-longer own cs
front-fewer (suc n) own [] = omega arith
front-fewer (suc n) own (c ∷ cs) = front-fewer n (own_behind own c.part) cs

-- ---- where each has a place among others

-- the first of this relation is left out
abbrev without : ℕ → List OwnFloor → List OwnFloor
without relation [] = []
without relation (o ∷ os) = if o.relation == relation then os else o ∷ without relation os

shorter : (relation : ℕ) (os : List OwnFloor) → 0 < floor_or 0 os relation → suc (length (without relation os)) ≤ length os
shorter relation [] some = absurd (omega (arith, some))
shorter relation (o ∷ os) some = by-same (o.relation == relation) (shorter relation os) some
  where
    by-same : (b : Bool) → (0 < floor_or 0 os relation → suc (length (without relation os)) ≤ length os) → 0 < cond b o.floor (floor_or 0 os relation)
        → suc (length (cond b os (o ∷ without relation os))) ≤ suc (length os)
    by-same true rest some = omega arith
    by-same false rest some = let less = rest some in omega (arith, less)

others-stay : (relation other : ℕ) (os : List OwnFloor) → relation < other → floor_or 0 (without relation os) other ≡ floor_or 0 os other
others-stay relation other [] less = refl
others-stay relation other (o ∷ os) less = by-same (o.relation == relation) refl (others-stay relation other os less)
  where
    by-same : (b : Bool) → (o.relation == relation) ≡ b → floor_or 0 (without relation os) other ≡ floor_or 0 os other
        → floor_or 0 (cond b os (o ∷ without relation os)) other ≡ cond (o.relation == other) o.floor (floor_or 0 os other)
    by-same true e rest =
        let apart : (o.relation == other) ≡ false = grind (arith, nat_tests, less, e) in
        sym (ap (λ (b : Bool). cond b o.floor (floor_or 0 os other)) apart)
    by-same false e rest = ap (λ (n : ℕ). cond (o.relation == other) o.floor n) rest

-- rising floors are no more than others that have a floor of each relation of them
pub fewer : (xs os : List OwnFloor) → AreRising xs → AllByRecursion (λ (x : OwnFloor). 0 < floor_or 0 os x.relation) xs → length xs ≤ length os
fewer [] os up all = omega arith
fewer (x ∷ xs) os up all =
    let rest = fewer xs (without x.relation os) up.1 (others xs up.0 all.1) in
    let one = shorter x.relation os all.0 in
    omega (arith, rest, one)
  where
    others : (ys : List OwnFloor) → AllByRecursion (λ (y : OwnFloor). x.relation < y.relation) ys
        → AllByRecursion (λ (y : OwnFloor). 0 < floor_or 0 os y.relation) ys
        → AllByRecursion (λ (y : OwnFloor). 0 < floor_or 0 (without x.relation os) y.relation) ys
    others [] above each = tt
    others (y ∷ ys) above each = (
      subst (λ (n : ℕ). 0 < n) (sym (others-stay x.relation y.relation os above.0)) each.0,
      others ys above.1 each.1,
    )

-- ---- floors that are the same as functions

-- no relation among these is above this one
abbrev top : List OwnFloor → ℕ
top [] = 0
top (o ∷ os) = max o.relation (top os)

above-top : (every relation : ℕ) (os : List OwnFloor) → top os < relation → floor_or every os relation ≡ every
above-top every relation [] high = refl
above-top every relation (o ∷ os) high =
    let own : o.relation < relation = omega (arith, high) in
    let rest : top os < relation = omega (arith, high) in
    let apart : (o.relation == relation) ≡ false = grind (arith, nat_tests, own) in
    ap (λ (b : Bool). cond b o.floor (floor_or every os relation)) apart ∙ above-top every relation os rest

-- rising floors, each of its own relation, have their floor there
own-floors : (xs : List OwnFloor) → AreRising xs → AllByRecursion (λ (x : OwnFloor). 0 < x.floor) xs
    → AllByRecursion (λ (x : OwnFloor). 0 < floor_or 0 xs x.relation) xs
own-floors [] up all = tt
own-floors (x ∷ xs) up all = (here, rest xs up.0 (own-floors xs up.1 all.1))
  where
    here : 0 < cond (x.relation == x.relation) x.floor (floor_or 0 xs x.relation)
    here =
        let same : (x.relation == x.relation) ≡ true = grind (arith, nat_tests) in
        subst (λ (b : Bool). 0 < cond b x.floor (floor_or 0 xs x.relation)) (sym same) all.0

    rest : (ys : List OwnFloor) → AllByRecursion (λ (y : OwnFloor). x.relation < y.relation) ys
        → AllByRecursion (λ (y : OwnFloor). 0 < floor_or 0 xs y.relation) ys
        → AllByRecursion (λ (y : OwnFloor). 0 < cond (x.relation == y.relation) x.floor (floor_or 0 xs y.relation)) ys
    rest [] above each = tt
    rest (y ∷ ys) above each = (
      (let apart : (x.relation == y.relation) ≡ false = (let less = above.0 in grind (arith, nat_tests, less)) in
          subst (λ (b : Bool). 0 < cond b x.floor (floor_or 0 xs y.relation)) (sym apart) each.0),
      rest ys above.1 each.1,
    )

-- where they are the floors in memory as functions, there are no more of them than memory has
pub as-many : (xs : List OwnFloor) (floors : FloorsValue) → AreRising xs → AllByRecursion (λ (x : OwnFloor). 0 < x.floor) xs
    → ((relation : ℕ) → floor_or 0 xs relation ≡ floor_at floors relation) → length xs ≤ length floors.own
as-many xs floors up all same = fewer xs floors.own up (moved xs (own-floors xs up all))
  where
    none : floors.every ≡ 0
    none =
        let far = suc (max (top xs) (top floors.own)) in
        sym (above-top floors.every far floors.own (omega arith)) ∙ sym (same far) ∙ above-top 0 far xs (omega arith)

    moved : (ys : List OwnFloor) → AllByRecursion (λ (y : OwnFloor). 0 < floor_or 0 xs y.relation) ys
        → AllByRecursion (λ (y : OwnFloor). 0 < floor_or 0 floors.own y.relation) ys
    moved [] each = tt
    moved (y ∷ ys) each = (
      subst (λ (n : ℕ). 0 < n) (same y.relation ∙ ap (λ (every : ℕ). floor_or every floors.own y.relation) none) each.0,
      moved ys each.1,
    )

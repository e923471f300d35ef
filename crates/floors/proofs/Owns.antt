-- The floors that relations have of their own, by rising relation.
use Rattle.std.proofs.Common.{◌≡◌, ◌≢◌, ℕ, zero, suc, ◌<◌, ◌≤◌, Bool, true, false, cond, ◌==◌, nat_lt, ◌+◌, rules, List, [], ◌∷◌, ◌++◌, length, take, drop}
use Rattle.std.proofs.Common.{get_or, Option, None, Some, refl, arith, ap, sym, subst, ◌∙◌, inl, inr}
use Rattle.std.proofs.lemmas.Bool.{cases_lt, cases_eq}
use Rattle.std.proofs.lemmas.Bool.Decides.{nat_tests}
use Rattle.std.specs.List.{AllByRecursion}
use Rattle.std.specs.List.Sorted.{IsPartitionedBy, IsPartitionPoint}
use Rattle.std.specs.Prelude.{IsTrue, ◌↔◌, ◌&&◌}
use Rattle.history.specs.Floors.{raised}
use Rattle.floors.specs.declared.floors.OwnFloor.{OwnFloor}
use Rattle.floors.specs.Floors.{FloorsValue, AreRising, floor_or, floor_at, behind, with_own, raised_in, same_own, same_floors, all_below, AreBelow}

-- ---- order

above-at : (low : ℕ) (own : List OwnFloor) (k : ℕ) (d : OwnFloor) → AllByRecursion (λ (p : OwnFloor). low < p.relation) own → k < length own
    → low < (get_or own k d).relation
above-at low [] k d above within = absurd (omega arith)
above-at low (o ∷ os) zero d above within = above.0
above-at low (o ∷ os) (suc k) d above within = above-at low os k d above.1 (omega arith)

rising-pair : (own : List OwnFloor) (i j : ℕ) (d : OwnFloor) → AreRising own → i < j → j < length own → (get_or own i d).relation < (get_or own j d).relation
rising-pair [] i j d rising less within = absurd (omega arith)
rising-pair (o ∷ os) i zero d rising less within = absurd (omega arith)
rising-pair (o ∷ os) zero (suc j) d rising less within = above-at o.relation os j d rising.0 (omega arith)
rising-pair (o ∷ os) (suc i) (suc j) d rising less within = rising-pair os i j d rising.1 (omega arith) (omega arith)

-- those of lesser relations stand before the others
pub partitioned : (relation : ℕ) (own : List OwnFloor) → AreRising own → IsPartitionedBy (λ (o : OwnFloor). nat_lt o.relation relation) own
partitioned relation own rising i j d le within below =
    elim (cases_eq i j) [
      | inl same ↦ rw same below
      | inr other ↦
          let less : (get_or own i d).relation < (get_or own j d).relation = rising-pair own i j d rising (omega (arith, other)) within in
          grind (arith, nat_tests)
    ]

-- a partition at the lesser relations
abbrev pub IsPoint : ℕ → List OwnFloor → ℕ → Type 0
IsPoint relation own place =
    IsPartitionPoint (λ (o : OwnFloor). nat_lt o.relation relation ≡ true) (λ (o : OwnFloor). nat_lt o.relation relation ≡ false) own place

-- ---- what is found

-- this place holds the floor of a relation, and no earlier one does
pub floor-at : (every relation : ℕ) (own : List OwnFloor) (place : ℕ) (d : OwnFloor)
    → ((k : ℕ) (e : OwnFloor) → k < place → k < length own → nat_lt (get_or own k e).relation relation ≡ true)
    → place < length own → (get_or own place d).relation ≡ relation → (get_or own place d).floor ≡ floor_or every own relation
floor-at every relation [] place d before within is = absurd (omega arith)
floor-at every relation (o ∷ os) zero d before within is =
    let same : (o.relation == relation) ≡ true = grind (arith, nat_tests) in
    rw same refl
floor-at every relation (o ∷ os) (suc place) d before within is =
    let less : nat_lt o.relation relation ≡ true = before zero o (omega arith) (omega arith) in
    let apart : (o.relation == relation) ≡ false = grind (arith, nat_tests) in
    rw apart (floor-at every relation os place d (λ k e low low'. before (suc k) e (omega arith) (omega arith)) (omega arith) is)

-- none of these is of a relation
pub floor-none : (every relation : ℕ) (own : List OwnFloor) → ((k : ℕ) (d : OwnFloor) → k < length own → (get_or own k d).relation ≢ relation) → every
    ≡ floor_or every own relation
floor-none every relation [] none = refl
floor-none every relation (o ∷ os) none =
    let differs : o.relation ≢ relation = none zero o (omega arith) in
    let apart : (o.relation == relation) ≡ false = grind (arith, nat_tests) in
    rw apart (floor-none every relation os (λ k d low. none (suc k) d (omega arith)))

pub not_there : (every relation : ℕ) (own : List OwnFloor) (place : ℕ) → AreRising own → IsPoint relation own place
    → ((d : OwnFloor) → place < length own → (get_or own place d).relation ≢ relation) → every ≡ floor_or every own relation
not_there every relation own place rising point here = floor-none every relation own (λ k d low is.
    elim (cases_lt k place) [
      | inl before ↦ let less = point.0 k d (omega arith) before in grind (arith, nat_tests)
      | inr after ↦
          elim (cases_eq k place) [
            | inl same ↦ here d (omega arith) (rw (sym same) is)
            | inr other ↦
                let at_place : nat_lt (get_or own place d).relation relation ≡ false = point.1 place d (omega arith) (omega arith) in
                let less : (get_or own place d).relation < (get_or own k d).relation = rising-pair own place k d rising (omega (arith, other)) low in
                let differs : (get_or own place d).relation ≢ relation = here d (omega arith) in
                grind (arith, nat_tests)
          ]
    ])

pub any_default : (own : List OwnFloor) (k : ℕ) (d e : OwnFloor) → k < length own → get_or own k d ≡ get_or own k e
any_default [] k d e low = absurd (omega arith)
any_default (o ∷ os) zero d e low = refl
any_default (o ∷ os) (suc k) d e low = any_default os k d e (omega arith)

-- ---- one that is raised

-- it stands between those of lesser relations and those of greater ones
pub raised-at : (own : List OwnFloor) (relation floor place : ℕ) → place ≤ length own → IsPoint relation own place
    → take place own ++ record { relation = relation; floor = floor } ∷ behind (drop place own) relation ≡ with_own own relation floor
raised-at [] relation floor zero within point = refl
raised-at [] relation floor (suc place) within point = absurd (omega arith)
raised-at (o ∷ os) relation floor zero within point =
    let not_less : nat_lt o.relation relation ≡ false = point.1 zero o (omega arith) (omega arith) in
    rw not_less refl
raised-at (o ∷ os) relation floor (suc place) within point =
    let less : nat_lt o.relation relation ≡ true = point.0 zero o (omega arith) (omega arith) in
    rw less (ap (λ raised. o
    ∷ raised) (raised-at os relation floor place (omega arith) (
      λ k d low low'. point.0 (suc k) d (omega arith) (omega arith),
      λ k d low low'. point.1 (suc k) d (omega arith) (omega arith),
    )))

above-with : (low : ℕ) (own : List OwnFloor) (relation floor : ℕ) → low < relation → AllByRecursion (λ (p : OwnFloor). low < p.relation) own
    → AllByRecursion (λ (p : OwnFloor). low < p.relation) (with_own own relation floor)
above-with low [] relation floor less above = (less, tt)
above-with low (o ∷ os) relation floor less above =
    elim (cases_lt o.relation relation) [
      | inl before ↦ let test : nat_lt o.relation relation ≡ true = grind (arith, nat_tests) in rw test (above.0, above-with low os relation floor less above.1)
      | inr after ↦
          let test : nat_lt o.relation relation ≡ false = grind (arith, nat_tests) in
          elim (cases_eq o.relation relation) [
            | inl same ↦ let is : (o.relation == relation) ≡ true = grind (arith, nat_tests) in rw test (rw is (less, above.1))
            | inr other ↦ let is : (o.relation == relation) ≡ false = grind (arith, nat_tests) in rw test (rw is (less, above))
          ]
    ]

lower : (low high : ℕ) (own : List OwnFloor) → low ≤ high → AllByRecursion (λ (p : OwnFloor). high < p.relation) own
    → AllByRecursion (λ (p : OwnFloor). low < p.relation) own
lower low high [] less above = tt
lower low high (o ∷ os) less above = (omega (arith, above.0), lower low high os less above.1)

pub rising-with : (own : List OwnFloor) (relation floor : ℕ) → AreRising own → AreRising (with_own own relation floor)
rising-with [] relation floor rising = (tt, tt)
rising-with (o ∷ os) relation floor rising =
    elim (cases_lt o.relation relation) [
      | inl before ↦ let test : nat_lt o.relation relation ≡ true =
          grind (arith, nat_tests) in rw test (above-with o.relation os relation floor before rising.0, rising-with os relation floor rising.1)
      | inr after ↦
          let test : nat_lt o.relation relation ≡ false = grind (arith, nat_tests) in
          elim (cases_eq o.relation relation) [
            | inl same ↦ let is : (o.relation == relation) ≡ true =
                grind (arith, nat_tests) in rw test (rw is (lower relation o.relation os (omega (arith, same)) rising.0, rising.1))
            | inr other ↦ let is : (o.relation == relation) ≡ false =
                grind (arith, nat_tests) in rw test (rw is (
                  (omega (arith, after, other), lower relation o.relation os (omega (arith, after)) rising.0),
                  rising,
                ))
          ]
    ]

-- ---- its law

own-raised : (every only floor : ℕ) (own : List OwnFloor) (relation : ℕ) → floor_or every (with_own own only floor) relation
    ≡ cond (only == relation) floor (floor_or every own relation)
own-raised every only floor [] relation = refl
own-raised every only floor (o ∷ os) relation =
    elim (cases_lt o.relation only) [
      | inl before ↦
          let test : nat_lt o.relation only ≡ true = grind (arith, nat_tests) in
          elim (cases_eq o.relation relation) [
            | inl same ↦
                let is : (o.relation == relation) ≡ true = grind (arith, nat_tests) in
                let apart : (only == relation) ≡ false = grind (arith, nat_tests) in
                rw test (rw is (rw apart refl))
            | inr other ↦ let is : (o.relation == relation) ≡ false = grind (arith, nat_tests) in rw test (rw is (own-raised every only floor os relation))
          ]
      | inr after ↦
          let test : nat_lt o.relation only ≡ false = grind (arith, nat_tests) in
          elim (cases_eq o.relation only) [
            | inl same ↦
                let is : (o.relation == only) ≡ true = grind (arith, nat_tests) in
                elim (cases_eq only relation) [
                  | inl covers ↦ let yes : (only == relation) ≡ true = grind (arith, nat_tests) in rw test (rw is (rw yes refl))
                  | inr apart ↦
                      let no : (only == relation) ≡ false = grind (arith, nat_tests) in
                      let not_first : (o.relation == relation) ≡ false = grind (arith, nat_tests) in
                      rw test (rw is (rw no (rw not_first refl)))
                ]
            | inr other ↦ let is : (o.relation == only) ≡ false = grind (arith, nat_tests) in rw test (rw is refl)
          ]
    ]

pub raised-is : (floors : FloorsValue) (scope : Option ℕ) (floor relation : ℕ) → floor_at (raised_in scope floor floors) relation
    ≡ raised scope floor (floor_at floors) relation
raised-is floors None floor relation = refl
raised-is floors (Some only) floor relation = own-raised floors.every only floor floors.own relation

-- ---- the same floors

equal : (n : ℕ) → (n == n) ≡ true
equal n = grind (arith, nat_tests)

same-own : (own : List OwnFloor) → same_own own own ≡ true
same-own [] = refl
same-own (o ∷ os) = rw (equal o.relation) (rw (equal o.floor) (same-own os))

pub same-floors : (floors : FloorsValue) → same_floors floors floors ≡ true
same-floors floors = rw (equal floors.every) (same-own floors.own)

-- ---- whether one may be raised

fresh : List OwnFloor → ℕ
fresh [] = 0
fresh (o ∷ os) = suc (o.relation + fresh os)

above_fresh : (every relation : ℕ) (own : List OwnFloor) → fresh own ≤ relation → floor_or every own relation ≡ every
unfolding fresh
above_fresh every relation [] less = refl
above_fresh every relation (o ∷ os) less =
    let high : suc (o.relation + fresh os) ≤ relation = less in
    let apart : (o.relation == relation) ≡ false = grind (arith, nat_tests) in
    rw apart (above_fresh every relation os (omega (arith, high)))

above-none : (every : ℕ) (low : ℕ) (own : List OwnFloor) → AllByRecursion (λ (p : OwnFloor). low < p.relation) own → floor_or every own low ≡ every
above-none every low [] above = refl
above-none every low (o ∷ os) above =
    let less : low < o.relation = above.0 in
    let apart : (o.relation == low) ≡ false = grind (arith, nat_tests) in
    rw apart (above-none every low os above.1)

below-each : (every floor relation : ℕ) (own : List OwnFloor) → every < floor → all_below floor own ≡ true → floor_or every own relation < floor
below-each every floor relation [] less below = less
below-each every floor relation (o ∷ os) less below =
    elim (cases_lt o.floor floor) [
      | inl low ↦
          let test : nat_lt o.floor floor ≡ true = grind (arith, nat_tests) in
          let rest : all_below floor os ≡ true = sym (ap (λ (b : Bool). b && all_below floor os) test) ∙ below in
          elim (cases_eq o.relation relation) [
            | inl same ↦ let is : (o.relation == relation) ≡ true = grind (arith, nat_tests) in rw is low
            | inr other ↦ let is : (o.relation == relation) ≡ false = grind (arith, nat_tests) in rw is (below-each every floor relation os less rest)
          ]
      | inr high ↦
          let test : nat_lt o.floor floor ≡ false = grind (arith, nat_tests) in
          let no : false ≡ true = sym (ap (λ (b : Bool). b && all_below floor os) test) ∙ below in
          absurd cc
    ]

each-below : (every floor : ℕ) (own : List OwnFloor) → AreRising own → every < floor → ((relation : ℕ) → floor_or every own relation < floor)
    → all_below floor own ≡ true
each-below every floor [] rising less each = refl
each-below every floor (o ∷ os) rising less each =
    let same : (o.relation == o.relation) ≡ true = grind (arith, nat_tests) in
    let low : o.floor < floor = subst (λ (t : ℕ). t < floor) (ap (λ (b : Bool). cond b o.floor (floor_or every os o.relation)) same) (each o.relation) in
    let test : nat_lt o.floor floor ≡ true = grind (arith, nat_tests) in
    let rest = each-below every floor os rising.1 less (λ relation.
    elim (cases_eq o.relation relation) [
      | inl is ↦ subst (λ (r : ℕ). floor_or every os r < floor) is (subst (λ (t : ℕ). t < floor) (sym (above-none every o.relation os rising.0)) less)
      | inr other ↦
          let apart : (o.relation == relation) ≡ false = grind (arith, nat_tests) in
          subst (λ (t : ℕ). t < floor) (ap (λ (b : Bool). cond b o.floor (floor_or every os relation)) apart) (each relation)
    ]) in
    ap (λ (b : Bool). b && all_below floor os) test ∙ rest

is_true : (b : Bool) → (IsTrue b ↔ (b ≡ true))
is_true b = search rules

pub below-one : (floors : FloorsValue) (only floor : ℕ) (low : Bool) → low ≡ nat_lt (floor_at floors only) floor
    → (IsTrue low ↔ AreBelow floors (Some only) floor)
below-one floors only floor low is = (
  λ yes relation covered.
      let test : nat_lt (floor_at floors only) floor ≡ true = sym is ∙ (is_true low).0 yes in
      let less : floor_at floors only < floor = grind (arith, nat_tests) in
      let same : only ≡ relation = search (rules, covered) in
      subst (λ (r : ℕ). floor_at floors r < floor) same less,
  λ below.
      let covered : IsTrue (only == only) = search rules in
      let less : floor_at floors only < floor = below only covered in
      let test : nat_lt (floor_at floors only) floor ≡ true = grind (arith, nat_tests) in
      (is_true low).1 (is ∙ test),
)

pub below-every : (floors : FloorsValue) (floor : ℕ) → AreRising floors.own
    → (IsTrue (nat_lt floors.every floor && all_below floor floors.own) ↔ AreBelow floors None floor)
below-every floors floor rising = (
  λ yes relation covered.
      let both : (nat_lt floors.every floor && all_below floor floors.own) ≡ true = (is_true _).0 yes in
      elim (cases_lt floors.every floor) [
        | inl low ↦
            let test : nat_lt floors.every floor ≡ true = grind (arith, nat_tests) in
            below-each floors.every floor relation floors.own low (sym (ap (λ (b : Bool). b && all_below floor floors.own) test) ∙ both)
        | inr high ↦
            let test : nat_lt floors.every floor ≡ false = grind (arith, nat_tests) in
            let no : false ≡ true = sym (ap (λ (b : Bool). b && all_below floor floors.own) test) ∙ both in
            absurd cc
      ],
  λ below.
      let all : IsTrue true = search rules in
      let low : floors.every < floor =
      subst (λ (t : ℕ). t < floor) (above_fresh floors.every (fresh floors.own) floors.own (omega arith)) (below (fresh floors.own) all) in
      let test : nat_lt floors.every floor ≡ true = grind (arith, nat_tests) in
      let rest = each-below floors.every floor floors.own rising low (λ relation. below relation all) in
      (is_true _).1 (ap (λ (b : Bool). b && all_below floor floors.own) test ∙ rest),
)

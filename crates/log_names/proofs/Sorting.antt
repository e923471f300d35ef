-- Times that are sorted, of rolls that are right.
use Rattle.std.proofs.Common.{ℕ, zero, suc, ◌≡◌, ◌≢◌, ◌⊎◌, inl, inr, ◌+◌, ◌≤◌, ◌<◌, ◌==◌, nat_lt, Bool, true, false, cond, List, [], ◌∷◌, ◌++◌, length, map}
use Rattle.std.proofs.Common.{refl, sym, ◌∙◌, ap, subst, arith, length-append, get_or}
use Rattle.std.specs.Prelude.{Option, Some, None, option_map, option_and_then, if◌then◌else◌, filter, flat_map, Contains}
use Rattle.std.specs.List.{AllByRecursion, sum_by}
use Rattle.std.specs.List.Sorted.{IsPermutation, IsNonDecreasing}
use Rattle.std.proofs.lemmas.Bool.{cases_lt, cases_eq}
use Rattle.std.proofs.lemmas.Bool.Decides.{nat_tests}
use Rattle.std.proofs.lemmas.List.{append-nil}
use Rattle.std.proofs.lemmas.List.Sums.{sum_by-cons, sum_by-append}
use Rattle.std.proofs.lemmas.List.Sorted.{sum_by-IsPermutation}
use Rattle.std.proofs.lemmas.List.Elements.{recursion_from_All, filter-append, Contains-append_left, Contains-append_right, Contains-append_cases, All-contains}
use Rattle.std.proofs.lemmas.List.Elements.{All-from_recursion}
use Rattle.history.proofs.Members.{Contains-cons_cases, Contains-head, Contains-tail, Contains-nil, rising-above, IsRisingBy}
use Rattle.law_image.specs.Reading.{Head}
use Rattle.law_image.specs.Log.{AreRisingAfter}
use Rattle.log_entries.specs.declared.entry.Roll.{Roll}
use Rattle.law_log_layout.specs.HeapLog.{PlacedRoll, HoldsRoll, IsStoredRoll, AreNamesOf}
use Rattle.log_names.specs.Standing.{times_there, times_in_all, IsInOrder, IsBroken, IsFirstBroken}
use Rattle.log_names.specs.Rolls.{times_named, AreUpTo, HoldsNames, HoldRolls}
use Rattle.log_names.proofs.Right.{right_finds, right_whole}

-- ---- lists with the same elements, as often

abbrev HaveSame : List ℕ → List ℕ → Type 0
HaveSame xs ys = (f : ℕ → ℕ) → sum_by f xs ≡ sum_by f ys

-- no number is below one before it
abbrev AreUp : List ℕ → Type 0
AreUp [] = Unit {0}
AreUp (x ∷ xs) = AllByRecursion (λ (y : ℕ). x ≤ y) xs × AreUp xs

up-from : (xs : List ℕ) → IsNonDecreasing xs → AreUp xs
up-from [] up = tt
up-from (x ∷ xs) up = (
  recursion_from_All (λ (y : ℕ). x ≤ y) xs (λ k d less. up 0 (suc k) d (omega arith) (omega (arith, less))),
  up-from xs (λ i j d le less. up (suc i) (suc j) d (omega (arith, le)) (omega (arith, less))),
)

-- one for this number
abbrev one_at : ℕ → ℕ → ℕ
one_at x y = if y == x then 1 else 0

at-own : (x : ℕ) → one_at x x ≡ 1
at-own x = let same : (x == x) ≡ true = grind (arith, nat_tests) in ap (λ (b : Bool). if b then 1 else 0) same

none-of : (x y : ℕ) (ys : List ℕ) → x < y → AllByRecursion (λ (z : ℕ). y ≤ z) ys → sum_by (one_at x) ys ≡ 0
none-of x y [] less all = refl
none-of x y (z ∷ zs) less all =
    let apart : (z == x) ≡ false = (let far : x < z = omega (arith, less, all.0) in grind (arith, nat_tests)) in
    let zero : one_at x z ≡ 0 = ap (λ (b : Bool). if b then 1 else 0) apart in
    let rest = none-of x y zs less all.1 in
    omega (arith, sum_by-cons (one_at x) z zs, zero, rest)

not-below : (x y : ℕ) (xs ys : List ℕ) → AllByRecursion (λ (z : ℕ). y ≤ z) ys → sum_by (one_at x) (x ∷ xs) ≡ sum_by (one_at x) (y ∷ ys) → y ≤ x
not-below x y xs ys above same =
    elim (cases_lt x y) [
      | inl less ↦
          let own = at-own x in
          let apart : (y == x) ≡ false = grind (arith, nat_tests) in
          let zero : one_at x y ≡ 0 = ap (λ (b : Bool). if b then 1 else 0) apart in
          let none = none-of x y ys less above in
          absurd (omega (arith, own, zero, none, same, sum_by-cons (one_at x) x xs, sum_by-cons (one_at x) y ys))
      | inr le ↦ le
    ]

same-sorted : (xs ys : List ℕ) → AreUp xs → AreUp ys → HaveSame xs ys → xs ≡ ys
same-sorted [] [] up_x up_y same = refl
same-sorted [] (y ∷ ys) up_x up_y same =
    let more = sum_by-cons (λ (k : ℕ). 1) y ys in
    let none = same (λ (k : ℕ). 1) in
    let zero : sum_by (λ (k : ℕ). 1) [] ≡ 0 = refl in
    absurd (omega (arith, more, none, zero))
same-sorted (x ∷ xs) [] up_x up_y same =
    let more = sum_by-cons (λ (k : ℕ). 1) x xs in
    let none = same (λ (k : ℕ). 1) in
    let zero : sum_by (λ (k : ℕ). 1) [] ≡ 0 = refl in
    absurd (omega (arith, more, none, zero))
same-sorted (x ∷ xs) (y ∷ ys) up_x up_y same =
    let low = not-below x y xs ys up_y.0 (same (one_at x)) in
    let high = not-below y x ys xs up_x.0 (sym (same (one_at y))) in
    let equal : x ≡ y = omega arith in
    let rest = same-sorted xs ys up_x.1 up_y.1 (λ f. omega (arith, same f, sum_by-cons f x xs, sum_by-cons f y ys, ap f equal)) in
    λ i. equal i ∷ rest i

-- ---- the names of rolls

-- what is among these lies between some before it and some behind it
between : (x : Head) (xs : List Head) → Contains xs x → (before : List Head) × (behind : List Head) × (xs ≡ before ++ x ∷ behind)
between x [] has = absurd (Contains-nil x has)
between x (y ∷ xs) has =
    elim (Contains-cons_cases y xs x has) [
      | inl is ↦ ([], xs, ap (λ (z : Head). z ∷ xs) is)
      | inr more ↦ let rest = between x xs more in (y ∷ rest.0, rest.1, ap (λ (l : List Head). y ∷ l) rest.2)
    ]

map-append : (xs ys : List Head) → map (λ (h : Head). h.time) (xs ++ ys) ≡ map (λ (h : Head). h.time) xs ++ map (λ (h : Head). h.time) ys
map-append [] ys = refl
map-append (x ∷ xs) ys = ap (λ (l : List ℕ). x.time ∷ l) (map-append xs ys)

pub named-append : (label : ℕ) (xs ys : List Head) → times_named label (xs ++ ys) ≡ times_named label xs ++ times_named label ys
named-append label xs ys =
    ap (map (λ (h : Head). h.time)) (filter-append (λ (h : Head). h.label == label) xs ys)
    ∙ map-append (filter (λ (h : Head). h.label == label) xs) (filter (λ (h : Head). h.label == label) ys)

sum-append : (label : ℕ) (f : ℕ → ℕ) (xs ys : List Head)
    → sum_by f (times_named label (xs ++ ys)) ≡ sum_by f (times_named label xs) + sum_by f (times_named label ys)
sum-append label f xs ys =
    ap (sum_by f) (named-append label xs ys) ∙ sum_by-append f (times_named label xs) (times_named label ys)

heads-rising : (time : ℕ) (heads : List Head) → AreRisingAfter time heads → IsRisingBy (λ (h : Head). h.time) time heads
heads-rising time [] up = tt
heads-rising time (head ∷ heads) up = (up.0, heads-rising head.time heads up.2)

-- where all of these names, of which no two have one time, are among as many others, those are the same names
same-names : (label time : ℕ) (names others : List Head) → AreRisingAfter time names → ((h : Head) → Contains names h → Contains others h)
    → length names ≡ length others → HaveSame (times_named label others) (times_named label names)
same-names label time [] [] up among many = λ f. refl
same-names label time [] (other ∷ others) up among many = absurd (omega (arith, many))
same-names label time (name ∷ names) others up among many = λ f.
    let split = between name others (among name (Contains-head name names name refl)) in
    let before = split.0 in
    let behind = split.1 in
    let rest : HaveSame (times_named label (before ++ behind)) (times_named label names) =
    same-names label name.time names (before ++ behind) up.2 (λ h has. still before behind split.2 h has)
    (omega (
      arith,
      many,
      ap (λ (l : List Head). length l) split.2,
      length-append before (name ∷ behind),
      length-append before behind,
    )) in
    let all = ap (λ (l : List Head). sum_by f (times_named label l)) split.2 in
    let one = sum-append label f before (name ∷ behind) in
    let two = sum-append label f (name ∷ []) behind in
    let three = sum-append label f before behind in
    let four = sum-append label f (name ∷ []) names in
    let five = rest f in
    omega (arith, all, one, two, three, four, five)
  where
    still : (before behind : List Head) → others ≡ before ++ name ∷ behind → (h : Head) → Contains names h → Contains (before ++ behind) h
    still before behind is h has =
        elim (Contains-append_cases before (name ∷ behind) h (subst (λ (l : List Head). Contains l h) is (among h (Contains-tail name names h has)))) [
          | inl front ↦ Contains-append_left before behind h front
          | inr rest ↦
              elim (Contains-cons_cases name behind h rest) [
                | inl same ↦
                    let later = rising-above (λ (x : Head). x.time) name.time names h (heads-rising name.time names up.2) has in
                    absurd (omega (arith, later, ap (λ (x : Head). x.time) same))
                | inr more ↦ Contains-append_right before behind h more
              ]
        ]

-- the times of names that rise do so
times-above : (label bound time : ℕ) (names : List Head) → bound ≤ time → AreRisingAfter time names
    → AllByRecursion (λ (t : ℕ). bound ≤ t) (times_named label names)
times-above label bound time [] le up = tt
times-above label bound time (name ∷ names) le up =
    let rest = times-above label bound name.time names (omega (arith, le, up.0)) up.2 in
    elim (name.label == label) as (λ b. AllByRecursion (λ (t : ℕ). bound ≤ t) (map (λ (h : Head). h.time)
    (cond b (name ∷ filter (λ (h : Head). h.label == label) names) (filter (λ (h : Head). h.label == label) names)))) [
      | true ↦ (omega (arith, le, up.0), rest)
      | false ↦ rest
    ]

times-up : (label time : ℕ) (names : List Head) → AreRisingAfter time names → AreUp (times_named label names)
times-up label time [] up = tt
times-up label time (name ∷ names) up =
    let rest = times-up label name.time names up.2 in
    let above = times-above label name.time name.time names (omega arith) up.2 in
    elim (name.label == label) as (λ b. AreUp (map (λ (h : Head). h.time)
    (cond b (name ∷ filter (λ (h : Head). h.label == label) names) (filter (λ (h : Head). h.label == label) names)))) [
      | true ↦ (above, rest)
      | false ↦ rest
    ]

-- ---- several rolls

-- all names that these rolls have
abbrev names_in : List PlacedRoll → List Head
names_in rolls = flat_map (λ (r : PlacedRoll). r.names) rolls

-- each of these rolls is right
abbrev AreHeld : List ℕ → ℕ → List PlacedRoll → Type 0
AreHeld area upto rolls = AllByRecursion (λ (r : PlacedRoll). HoldsNames area upto r.roll r.names) rolls

are-held : (area : List ℕ) (upto : ℕ) (rolls : List PlacedRoll) → AllByRecursion (HoldsRoll area) rolls → AllByRecursion IsStoredRoll rolls
    → ((h : Head) → Contains (names_in rolls) h → h.time ≤ upto) → AreHeld area upto rolls
are-held area upto [] held stored early = tt
are-held area upto (r ∷ rolls) held stored early = (
  record {
    held = held.0;
    stored = stored.0;
    early = early-in r.names (λ h has. early h (Contains-append_left r.names (names_in rolls) h has));
  },
  are-held area upto rolls held.1 stored.1 (λ h has. early h (Contains-append_right r.names (names_in rolls) h has)),
)
  where
    early-in : (names : List Head) → ((h : Head) → Contains names h → h.time ≤ upto) → AreUpTo upto names
    early-in [] le = tt
    early-in (name ∷ names) le =
        (le name (Contains-head name names name refl), early-in names (λ h has. le h (Contains-tail name names h has)))

all-found : (area : List ℕ) (upto label : ℕ) (rolls : List PlacedRoll) → AreHeld area upto rolls
    → times_in_all area upto label (map (λ (r : PlacedRoll). r.roll) rolls) ≡ Some (times_named label (names_in rolls))
all-found area upto label [] held = refl
all-found area upto label (r ∷ rolls) held =
    let more = times_in_all area upto label (map (λ (s : PlacedRoll). s.roll) rolls) in
    let rest = all-found area upto label rolls held.1 in
    ap (option_and_then (λ (times : List ℕ). option_map (λ (l : List ℕ). times ++ l) more)) (right_finds area upto label r.roll r.names held.0)
    ∙ ap (option_map (λ (l : List ℕ). times_named label r.names ++ l)) rest
    ∙ ap Some (sym (named-append label r.names (names_in rolls)))

-- one of them is among them
one-held : (area : List ℕ) (upto : ℕ) (placed : List PlacedRoll) (before behind : List Roll) (roll : Roll) → AreHeld area upto placed
    → map (λ (r : PlacedRoll). r.roll) placed ≡ before ++ roll ∷ behind → (heads : List Head) × HoldsNames area upto roll heads
one-held area upto [] [] behind roll held is = absurd (cc)
one-held area upto [] (first ∷ before) behind roll held is = absurd (cc)
one-held area upto (r ∷ placed) [] behind roll held is =
    let same : r.roll ≡ roll = cc in (r.names, subst (λ (x : Roll). HoldsNames area upto x r.names) same held.0)
one-held area upto (r ∷ placed) (first ∷ before) behind roll held is =
    one-held area upto placed before behind roll held.1 (cc)

module _ (area : List ℕ) (upto label : ℕ) (rolls : List Roll) (heads : List Head) (holds : HoldRolls area upto rolls heads) where
  held : AreHeld area upto holds.placed
  held =
      are-held area upto holds.placed holds.held holds.stored
      (λ h has. All-contains (λ (x : Head). x.time ≤ upto) heads h (All-from_recursion (λ (x : Head). x.time ≤ upto) heads holds.early)
      ((holds.named.same h).1 has))

  -- the times that were found, by rising time, are those of the commits
  pub all_right : (times found : List ℕ) → times_in_all area upto label rolls ≡ Some times → IsInOrder times found → found ≡ times_named label heads
  all_right times found there order =
      let names = names_in holds.placed in
      let whole : times_in_all area upto label rolls ≡ Some (times_named label names) =
      ap (times_in_all area upto label) (sym holds.rolls_are) ∙ all-found area upto label holds.placed held in
      let both : Some times ≡ Some (times_named label names) = sym there ∙ whole in
      let equal : times ≡ times_named label names = cc in
      let same : HaveSame (times_named label names) (times_named label heads) =
      same-names label 0 heads names holds.named.rising (λ h has. (holds.named.same h).0 has) holds.named.many in
      same-sorted found (times_named label heads) (up-from found order.rising) (times-up label 0 heads holds.named.rising)
      (λ f. sum_by-IsPermutation f times found order.same ∙ ap (sum_by f) equal ∙ same f)

  pub none_broken : (start : ℕ) → IsFirstBroken area upto label rolls start → ⊥
  none_broken start is =
      let one = one-held area upto holds.placed is.before is.behind is.roll held (holds.rolls_are ∙ is.among) in
      right_whole area upto label is.roll one.0 one.1 is.broken

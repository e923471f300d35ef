-- A view's scans are those of its history.
use Rattle.std.proofs.Common.{◌≡◌, ℕ, ◌+◌, ◌<◌, ◌≤◌, ◌↔◌, min, nat_le, nat_lt, Bool, true, false, cond, List, [], ◌∷◌, ◌++◌, map, Option, Some, None, refl, ap}
use Rattle.std.proofs.Common.{sym, ◌∙◌, arith}
use Rattle.std.specs.Prelude.{flat_map, Result, Ok, Err}
use Rattle.std.proofs.lemmas.Bool.Decides.{nat_tests}
use Rattle.history.specs.declared.key.Key.{Key}
use Rattle.history.specs.declared.time.Version.{Version}
use Rattle.history.specs.Key.{key_of}
use Rattle.history.specs.Versions.{standing_at, rows}
use Rattle.history.specs.Histories.{History, last, state, between, HasRisingTimes}
use Rattle.history.specs.Queries.{IsScan, IsScanOfRows}
use Rattle.history.specs.Answers.{QueryRefusal, BeforeKept, NotYet, EmptyInterval, time_refusal, interval_refusal, IsScanAtAnswer, IsScanBetweenAnswer}
use Rattle.history.specs.Views.{View, IsViewOf, kept_in, IsScanAtView, IsScanBetweenView}
use Rattle.history.proofs.Orders.{not_lt, not_le}
use Rattle.history.proofs.Views.{at-kept, between-kept, in-range}

-- a scan is of the values of its relation alone
scan-same : {V : Type 0} (f g : Key → Option V) (relation : ℕ) (found : List (ℕ × V)) → ((number : ℕ) → f (key_of relation number) ≡ g (key_of relation number))
    → IsScan f relation found → IsScan g relation found
scan-same f g relation found same scan = record {
  rising = scan.rising;
  each = λ number value. (
    λ has. sym (same number) ∙ (scan.each number value).0 has,
    λ is. (scan.each number value).1 (same number ∙ is),
  );
}

-- the rows of one record
abbrev rows_at : {V : Type 0} → (Key → List (Version V)) → ℕ → ℕ → List (ℕ × Version V)
rows_at f relation number = map (λ row. (number, row)) (f (key_of relation number))

rows-same : {V : Type 0} (f g : Key → List (Version V)) (relation : ℕ) (numbers : List ℕ)
    → ((number : ℕ) → f (key_of relation number) ≡ g (key_of relation number))
    → flat_map (rows_at f relation) numbers ≡ flat_map (rows_at g relation) numbers
rows-same f g relation [] same = refl
rows-same {V} f g relation (n ∷ ns) same =
    let rest = rows-same f g relation ns same in
    let one : List (Version V) → List (ℕ × Version V) = λ l. map (λ row. (n, row)) l in
    ap (λ l. one l ++ flat_map (rows_at f relation) ns) (same n) ∙ ap (λ l. rows_at g relation n ++ l) rest

scan_of_rows-same : {V : Type 0} (f g : Key → List (Version V)) (relation : ℕ) (found : List (ℕ × Version V))
    → ((number : ℕ) → f (key_of relation number) ≡ g (key_of relation number)) → IsScanOfRows f relation found → IsScanOfRows g relation found
scan_of_rows-same f g relation found same scan = record {
  numbers = scan.numbers;
  rising = scan.rising;
  each = λ number. (
    λ has empty. (scan.each number).0 has (same number ∙ empty),
    λ some. (scan.each number).1 (λ empty. some (sym (same number) ∙ empty)),
  );
  found_is = scan.found_is ∙ rows-same f g relation scan.numbers same;
}

-- what the tests say where none refuses
pub kept-time : (newest floor t : ℕ) → time_refusal newest floor t ≡ None → (floor ≤ t) × (t ≤ newest)
kept-time newest floor t =
    let Goal : Bool → Bool → Type 0 =
    λ a b. nat_lt t floor ≡ a → nat_lt newest t ≡ b → cond a (Some (BeforeKept floor)) (cond b (Some (NotYet newest)) None) ≡ None → (floor ≤ t)
    × (t ≤ newest) in
    let all : (a b : Bool) → Goal a b = λ a b. elim a as (λ a. Goal a b) [
      | true ↦ λ e k is. absurd cc
      | false ↦ elim b as (λ b. Goal false b) [
        | true ↦ λ e k is. absurd cc
        | false ↦ λ e k is. (grind (arith, nat_tests), grind (arith, nat_tests))
      ]
    ] in
    all (nat_lt t floor) (nat_lt newest t) refl refl

kept-start : (newest floor a b : ℕ) → interval_refusal newest floor a b ≡ None → floor ≤ a
kept-start newest floor a b =
    let Goal : Bool → Type 0 =
    λ p. nat_lt (min a b) floor ≡ p
    → cond p (Some (BeforeKept floor)) (cond (nat_lt (newest + 1) b) (Some (NotYet newest)) (cond (nat_le b a) (Some EmptyInterval) None)) ≡ None
    → floor ≤ a in
    let all : (p : Bool) → Goal p = λ p. elim p as Goal [
      | true ↦ λ e is. absurd cc
      | false ↦ λ e is. grind (arith, nat_tests)
    ] in
    all (nat_lt (min a b) floor) refl

pub time-kept : (newest floor t : ℕ) → floor ≤ t → t ≤ newest → time_refusal newest floor t ≡ None
time-kept newest floor t from upto =
    let early : nat_lt t floor ≡ false = not_lt from in
    let late : nat_lt newest t ≡ false = not_lt upto in
    ap (λ a. cond a (Some (BeforeKept floor)) (cond (nat_lt newest t) (Some (NotYet newest)) None)) early ∙ ap (λ b. cond b (Some (NotYet newest)) None) late

pub kept-interval : (newest floor a b : ℕ) → interval_refusal newest floor a b ≡ None → (floor ≤ a) × (a < b) × (b ≤ newest + 1)
kept-interval newest floor a b =
    let test : Bool → Bool → Bool → Option QueryRefusal =
    λ p q r. cond p (Some (BeforeKept floor)) (cond q (Some (NotYet newest)) (cond r (Some EmptyInterval) None)) in
    let Goal : Bool → Bool → Bool → Type 0 =
    λ p q r. nat_lt (min a b) floor ≡ p → nat_lt (newest + 1) b ≡ q → nat_le b a ≡ r → test p q r ≡ None → (floor ≤ a) × (a < b) × (b ≤ newest + 1) in
    let all : (p q r : Bool) → Goal p q r = λ p q r. elim p as (λ p. Goal p q r) [
      | true ↦ λ e k l is. absurd cc
      | false ↦ elim q as (λ q. Goal false q r) [
        | true ↦ λ e k l is. absurd cc
        | false ↦ elim r as (λ r. Goal false false r) [
          | true ↦ λ e k l is. absurd cc
          | false ↦ λ e k l is. (grind (arith, nat_tests), grind (arith, nat_tests), grind (arith, nat_tests))
        ]
      ]
    ] in
    all (nat_lt (min a b) floor) (nat_lt (newest + 1) b) (nat_le b a) refl refl refl

pub interval-kept : (newest floor a b : ℕ) → floor ≤ a → a < b → b ≤ newest + 1 → interval_refusal newest floor a b ≡ None
interval-kept newest floor a b from some upto =
    let early : nat_lt (min a b) floor ≡ false = not_lt (omega arith) in
    let late : nat_lt (newest + 1) b ≡ false = not_lt upto in
    let empty : nat_le b a ≡ false = not_le some in
    ap (λ p. cond p (Some (BeforeKept floor)) (cond (nat_lt (newest + 1) b) (Some (NotYet newest)) (cond (nat_le b a) (Some EmptyInterval) None))) early
    ∙ ap (λ q. cond q (Some (NotYet newest)) (cond (nat_le b a) (Some EmptyInterval) None)) late
    ∙ ap (λ r. cond r (Some EmptyInterval) None) empty

module _ {V : Type 0} (view : View V) (h : History V) (is : IsViewOf view h) (up : HasRisingTimes 0 h) (relation : ℕ) where
  pub view-scans : (t : ℕ) (answer : Result (List (ℕ × V)) QueryRefusal) → IsScanAtView view relation t answer ↔ IsScanAtAnswer h view.floors relation t answer
  view-scans t answer =
      let refusal = λ (n : ℕ). time_refusal n (view.floors relation) t in
      let same : time_refusal view.newest (view.floors relation) t ≡ None → (number : ℕ) → standing_at (kept_in view (key_of relation number)) t
      ≡ state h t (key_of relation number) =
      λ none number.
      let kept = kept-time view.newest (view.floors relation) t none in
      at-kept h view.floors view.archived view.reclaimed view.heap view.archive is.homes up (key_of relation number) t kept.0
      (in-range view h is up (key_of relation number) t kept.1) in
      let newest : refusal view.newest ≡ refusal (last h) = ap refusal is.newest_is in
      elim answer as (λ answer. IsScanAtView view relation t answer ↔ IsScanAtAnswer h view.floors relation t answer) [
        | Ok found ↦ (
          λ at. (sym newest ∙ at.0, scan-same (λ key. standing_at (kept_in view key) t) (state h t) relation found (same at.0) at.1),
          λ at. let none : refusal view.newest ≡ None =
              newest ∙ at.0 in (none, scan-same (state h t) (λ key. standing_at (kept_in view key) t) relation found (λ number. sym (same none number)) at.1),
        )
        | Err why ↦ (λ at. sym newest ∙ at, λ at. newest ∙ at)
      ]

  pub view-scans_rows : (a b : ℕ) (answer : Result (List (ℕ × Version V)) QueryRefusal) → IsScanBetweenView view relation a b answer
      ↔ IsScanBetweenAnswer h view.floors relation a b answer
  view-scans_rows a b answer =
      let refusal = λ (n : ℕ). interval_refusal n (view.floors relation) a b in
      let same : interval_refusal view.newest (view.floors relation) a b ≡ None → (number : ℕ) → rows (kept_in view (key_of relation number)) a b
      ≡ between h (key_of relation number) a b =
      λ none number. between-kept h view.floors view.archived view.reclaimed view.heap view.archive is.homes up (key_of relation number) a b
      (kept-start view.newest (view.floors relation) a b none) in
      let newest : refusal view.newest ≡ refusal (last h) = ap refusal is.newest_is in
      elim answer as (λ answer. IsScanBetweenView view relation a b answer ↔ IsScanBetweenAnswer h view.floors relation a b answer) [
        | Ok found ↦ (
          λ at. (sym newest ∙ at.0, scan_of_rows-same (λ key. rows (kept_in view key) a b) (λ key. between h key a b) relation found (same at.0) at.1),
          λ at. let none : refusal view.newest ≡ None =
              newest ∙ at.0 in (
                none,
                scan_of_rows-same (λ key. between h key a b) (λ key. rows (kept_in view key) a b) relation found (λ number. sym (same none number)) at.1,
              ),
        )
        | Err why ↦ (λ at. sym newest ∙ at, λ at. newest ∙ at)
      ]

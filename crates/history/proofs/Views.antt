-- What is kept in both homes, put together: kept queries are answered as the write sets say.
use Rattle.std.proofs.Common.{◌≡◌, ℕ, ◌+◌, ◌<◌, ◌≤◌, ◌^◌, min, nat_le, nat_lt, Bool, true, false, cond, List, ◌++◌, Option, Some, None, refl, ap, sym, ◌∙◌}
use Rattle.std.proofs.Common.{arith}
use Rattle.std.specs.Prelude.{filter}
use Rattle.std.proofs.lemmas.List.Elements.{filter-append}
use Rattle.std.proofs.lemmas.Bool.Decides.{nat_tests}
use Rattle.history.specs.declared.key.Key.{Key}
use Rattle.history.specs.declared.time.Version.{Version}
use Rattle.history.specs.Versions.{ends_after, ends_by, standing_at, rows}
use Rattle.history.specs.Histories.{History, versions_of, writes_of, state, between, HasRisingTimes}
use Rattle.history.specs.Homes.{AreAtHome, kept_of}
use Rattle.history.specs.Answers.{QueryRefusal, BeforeKept, NotYet, EmptyInterval, time_refusal, interval_refusal, unless_refused, at_answer, between_answer}
use Rattle.history.specs.Views.{View, IsViewOf, kept_in, at_view, between_view, recent_at, recent_between}
use Rattle.history.proofs.Filters.{filter-filter, filter-swap}
use Rattle.history.proofs.Values.{versions-apart, standing_at-versions}
use Rattle.history.proofs.Appending.{ends_by-then-after}
use Rattle.history.proofs.Histories.{writes_of-rising, last_after-range}
use Rattle.history.proofs.Intervals.{standing_at-kept, rows-kept}

later_passes : {V : Type 0} (early late : ℕ) (v : Version V) → early ≤ late → ends_after late v ≡ true → ends_after early v ≡ true
later_passes early late v le ends = grind (arith, nat_tests)

-- what ends after a later mark is among what ends after an earlier one
pub filter-later : {V : Type 0} (early late : ℕ) (vs : List (Version V)) → early ≤ late → filter (ends_after late) (filter (ends_after early) vs)
    ≡ filter (ends_after late) vs
filter-later early late vs le = filter-filter (ends_after late) (ends_after early) vs (λ v h. later_passes early late v le h)

module _ {V : Type 0} (h : History V) (floors : ℕ → ℕ) (archived reclaimed : ℕ) (heap archive : Key
    → List (Version V)) (homes : AreAtHome h floors archived reclaimed heap archive) (up : HasRisingTimes 0 h) (key : Key) where
  -- the kept versions of both homes, one after the other, are those of the history that end after the floor
  pub kept-is : kept_of (floors key.relation) archived (heap key) (archive key) ≡ filter (ends_after (floors key.relation)) (versions_of h key)
  kept-is =
      let f = floors key.relation in
      let vs = versions_of h key in
      filter-append (ends_after f) (archive key) (filter (ends_after archived) (heap key))
      ∙ ap (λ l. l ++ filter (ends_after f) (filter (ends_after archived) (heap key))) (homes.in_archive key)
      ∙ ap (λ l. filter (ends_after f) (filter (ends_by archived) vs) ++ l)
      (filter-swap (ends_after f) (ends_after archived) (heap key)
      ∙ ap (filter (ends_after archived)) (homes.in_heap key)
      ∙ filter-swap (ends_after archived) (ends_after f) (filter (ends_after reclaimed) vs)
      ∙ ap (filter (ends_after f)) (filter-later reclaimed archived vs homes.marks))
      ∙ sym (filter-append (ends_after f) (filter (ends_by archived) vs) (filter (ends_after archived) vs))
      ∙ ap (filter (ends_after f)) (ends_by-then-after _ archived vs (versions-apart 0 (writes_of h key) (writes_of-rising 0 h key up)))

  -- a value at a time from the floor on, and the rows of an interval
  pub at-kept : (t : ℕ) → floors key.relation ≤ t → t < 2 ^ 63 → standing_at (kept_of (floors key.relation) archived (heap key) (archive key)) t ≡ state h t key
  at-kept t from below =
      ap (λ vs. standing_at vs t) kept-is
      ∙ standing_at-kept (versions_of h key) (floors key.relation) t from
      ∙ standing_at-versions 0 t (writes_of h key) below (writes_of-rising 0 h key up)

  pub between-kept : (a b : ℕ) → floors key.relation ≤ a → rows (kept_of (floors key.relation) archived (heap key) (archive key)) a b ≡ between h key a b
  between-kept a b from = ap (λ vs. rows vs a b) kept-is ∙ rows-kept (versions_of h key) (floors key.relation) a b from

  -- the same from the heap alone, from the reclaim mark on
  pub at-recent : (t : ℕ) → floors key.relation ≤ t → reclaimed ≤ t → t < 2 ^ 63 → standing_at (heap key) t ≡ state h t key
  at-recent t from recent before =
      let f = floors key.relation in
      sym (standing_at-kept (heap key) f t from)
      ∙ ap (λ l. standing_at l t) (homes.in_heap key)
      ∙ standing_at-kept (filter (ends_after reclaimed) (versions_of h key)) f t from
      ∙ standing_at-kept (versions_of h key) reclaimed t recent
      ∙ standing_at-versions 0 t (writes_of h key) before (writes_of-rising 0 h key up)

  pub between-recent : (a b : ℕ) → floors key.relation ≤ a → reclaimed ≤ a → rows (heap key) a b ≡ between h key a b
  between-recent a b from recent =
      let f = floors key.relation in
      sym (rows-kept (heap key) f a b from)
      ∙ ap (λ l. rows l a b) (homes.in_heap key)
      ∙ rows-kept (filter (ends_after reclaimed) (versions_of h key)) f a b from
      ∙ rows-kept (versions_of h key) reclaimed a b recent

-- ---- the answers

-- answers that agree where nothing is refused
answers-at : {X : Type 0} (newest floor t : ℕ) (x y : X) → (floor ≤ t → t ≤ newest → x ≡ y) → unless_refused (time_refusal newest floor t) x
    ≡ unless_refused (time_refusal newest floor t) y
answers-at {X} newest floor t x y same =
    let test : Bool → Bool → Option QueryRefusal = λ a b. cond a (Some (BeforeKept floor)) (cond b (Some (NotYet newest)) None) in
    let Goal : Bool → Bool → Type 0 = λ a b. nat_lt t floor ≡ a → nat_lt newest t ≡ b → unless_refused (test a b) x ≡ unless_refused (test a b) y in
    let all : (a b : Bool) → Goal a b = λ a b. elim a as (λ a. Goal a b) [
      | true ↦ λ e k. refl
      | false ↦ elim b as (λ b. Goal false b) [
        | true ↦ λ e k. refl
        | false ↦ λ e k. ap (λ z. unless_refused None z) (same (grind (arith, nat_tests)) (grind (arith, nat_tests)))
      ]
    ] in
    all (nat_lt t floor) (nat_lt newest t) refl refl

answers-between : {X : Type 0} (newest floor a b : ℕ) (x y : X) → (floor ≤ a → x ≡ y) → unless_refused (interval_refusal newest floor a b) x
    ≡ unless_refused (interval_refusal newest floor a b) y
answers-between {X} newest floor a b x y same =
    let test : Bool → Bool → Bool → Option QueryRefusal =
    λ p q r. cond p (Some (BeforeKept floor)) (cond q (Some (NotYet newest)) (cond r (Some EmptyInterval) None)) in
    let Goal : Bool → Bool → Bool → Type 0 = λ p q r. nat_lt (min a b) floor ≡ p → unless_refused (test p q r) x ≡ unless_refused (test p q r) y in
    let all : (p q r : Bool) → Goal p q r = λ p q r. elim p as (λ p. Goal p q r) [
      | true ↦ λ e. refl
      | false ↦ elim q as (λ q. Goal false q r) [
        | true ↦ λ e. refl
        | false ↦ elim r as (λ r. Goal false false r) [
          | true ↦ λ e. refl
          | false ↦ λ e. ap (λ z. unless_refused None z) (same (grind (arith, nat_tests)))
        ]
      ]
    ] in
    all (nat_lt (min a b) floor) (nat_lt (newest + 1) b) (nat_le b a) refl

module _ {V : Type 0} (view : View V) (h : History V) (is : IsViewOf view h) (up : HasRisingTimes 0 h) (key : Key) where
  pub in-range : (t : ℕ) → t ≤ view.newest → t < 2 ^ 63
  in-range t le = omega (arith, is.newest_is, last_after-range 0 h (omega arith) up)

  pub view-at : (t : ℕ) → at_view view key t ≡ at_answer h view.floors key t
  view-at t =
      answers-at view.newest (view.floors key.relation) t (standing_at (kept_in view key) t) (state h t key)
      (λ from upto. at-kept h view.floors view.archived view.reclaimed view.heap view.archive is.homes up key t from (in-range t upto))
      ∙ ap (λ n. unless_refused (time_refusal n (view.floors key.relation) t) (state h t key)) is.newest_is

  pub view-between : (a b : ℕ) → between_view view key a b ≡ between_answer h view.floors key a b
  view-between a b =
      answers-between view.newest (view.floors key.relation) a b (rows (kept_in view key) a b) (between h key a b)
      (λ from. between-kept h view.floors view.archived view.reclaimed view.heap view.archive is.homes up key a b from)
      ∙ ap (λ n. unless_refused (interval_refusal n (view.floors key.relation) a b) (between h key a b)) is.newest_is

  pub recent-at : (t : ℕ) → view.reclaimed ≤ t → recent_at view key t ≡ at_answer h view.floors key t
  recent-at t recent =
      answers-at view.newest (view.floors key.relation) t (standing_at (view.heap key) t) (state h t key)
      (λ from upto. at-recent h view.floors view.archived view.reclaimed view.heap view.archive is.homes up key t from recent (in-range t upto))
      ∙ ap (λ n. unless_refused (time_refusal n (view.floors key.relation) t) (state h t key)) is.newest_is

  pub recent-between : (a b : ℕ) → view.reclaimed ≤ a → recent_between view key a b ≡ between_answer h view.floors key a b
  recent-between a b recent =
      answers-between view.newest (view.floors key.relation) a b (rows (view.heap key) a b) (between h key a b)
      (λ from. between-recent h view.floors view.archived view.reclaimed view.heap view.archive is.homes up key a b from recent)
      ∙ ap (λ n. unless_refused (interval_refusal n (view.floors key.relation) a b) (between h key a b)) is.newest_is

-- What is kept of one key's writes from a mark on, and from a later one.
use Rattle.std.proofs.Common.{◌≡◌, ℕ, ◌<◌, ◌≤◌, ◌^◌, ◌&&◌, nat_le, nat_lt, Bool, true, false, cond, is_none, List, [], ◌∷◌, ◌++◌, map, Option, Some, None, refl}
use Rattle.std.proofs.Common.{arith, ap, sym, ◌∙◌, append-nil, ⊎_elim}
use Rattle.std.specs.Prelude.{filter}
use Rattle.std.proofs.lemmas.Bool.{cases_lt}
use Rattle.std.proofs.lemmas.Bool.Decides.{nat_tests}
use Rattle.history.specs.Time.{IsRisingAfter, writes_after}
use Rattle.history.specs.Versions.{first_time, version_of, versions, stands_at, as_write}
use Rattle.history.proofs.Orders.{is_le, is_lt, not_lt, not_le}
use Rattle.history.proofs.Values.{rising_earlier, writes_after-all, versions-apart, filter-standing}
use Rattle.law_image.specs.Facts.{latest}
use Rattle.chains.specs.Writes.{Value, Write, last_time, last_time_after, kept_after, kept_behind, from_standing}
use Rattle.chains.proofs.Forgetting.{value-kept, last-kept}

both : (a b : Bool) → (a && b) ≡ true → (a ≡ true) × (b ≡ true)
both true true is = (refl, refl)
both true false is = absurd cc
both false b is = absurd cc

-- ---- later writes

behind-later : (mark : ℕ) (w : Write) (ws : List Write) → mark < w.time → IsRisingAfter w.time ws → kept_behind mark w ws ≡ w ∷ ws
behind-later mark w [] later up = let no : nat_le w.time mark ≡ false = not_le later in rw no refl
behind-later mark w (v ∷ vs) later up =
    let first = up.0 in
    let no : nat_le w.time mark ≡ false = not_le later in
    let none : nat_le v.time mark ≡ false = not_le (omega (arith, first, later)) in
    rw (none, no) refl

-- all writes later than the mark are kept
pub kept-later : (mark : ℕ) (ws : List Write) → IsRisingAfter mark ws → kept_after mark ws ≡ ws
kept-later mark [] up = refl
kept-later mark (w ∷ ws) up = behind-later mark w ws up.0 up.2

from-more : (mark : ℕ) (w : Write) (ws more : List Write) → from_standing mark w (ws ++ more) ≡ from_standing mark w ws ++ more
from-more mark w ws more =
    elim (nat_le w.time mark && is_none w.write) as (λ (b : Bool). cond b (ws ++ more) (w ∷ (ws ++ more)) ≡ cond b ws (w ∷ ws)
    ++ more) [ true ↦ refl | false ↦ refl ]

behind-more : (mark : ℕ) (w : Write) (ws more : List Write) → IsRisingAfter mark more → kept_behind mark w (ws ++ more) ≡ kept_behind mark w ws ++ more
behind-more mark w [] [] up = sym (append-nil (from_standing mark w []))
behind-more mark w [] (m ∷ ms) up = let no : nat_le m.time mark ≡ false = not_le up.0 in rw no (from-more mark w [] (m ∷ ms))
behind-more mark w (v ∷ vs) more up =
    elim (nat_le v.time mark) as (λ (b : Bool). cond b (kept_behind mark v (vs ++ more)) (from_standing mark w (v ∷ (vs ++ more)))
    ≡ cond b (kept_behind mark v vs) (from_standing mark w (v ∷ vs)) ++ more) [
      | true ↦ behind-more mark v vs more up
      | false ↦ from-more mark w (v ∷ vs) more
    ]

-- so are those behind others
pub kept-more : (mark : ℕ) (ws more : List Write) → IsRisingAfter mark more → kept_after mark (ws ++ more) ≡ kept_after mark ws ++ more
kept-more mark [] more up = kept-later mark more up
kept-more mark (w ∷ ws) more up = behind-more mark w ws more up

-- ---- a later mark

behind-gone : (early mark : ℕ) (w : Write) → early ≤ mark → (nat_le w.time early && is_none w.write) ≡ true → (nat_le w.time mark && is_none w.write) ≡ true
behind-gone early mark w low gone =
    let parts = both (nat_le w.time early) (is_none w.write) gone in
    let test = parts.0 in
    let none = parts.1 in
    let before : w.time ≤ early = grind (arith, nat_tests) in
    let past : nat_le w.time mark ≡ true = is_le (omega (arith, before, low)) in
    rw (past, none) refl

from-again : (early mark : ℕ) (w v : Write) (vs : List Write) → early ≤ mark → IsRisingAfter v.time vs → kept_after mark (from_standing early w (v ∷ vs))
    ≡ kept_behind mark w (v ∷ vs)
from-again early mark w v vs low up = by-gone (nat_le w.time early && is_none w.write) refl
  where
    by-gone : (b : Bool) → (nat_le w.time early && is_none w.write) ≡ b → kept_after mark (cond b (v ∷ vs) (w ∷ v ∷ vs)) ≡ kept_behind mark w (v ∷ vs)
    by-gone false there = refl
    by-gone true gone =
        let still = behind-gone early mark w low gone in
        ⊎_elim
        (λ (later : mark < v.time). let no : nat_le v.time mark ≡ false = not_le later in rw (no, still) (behind-later mark v vs later up))
        (λ (upto : v.time ≤ mark). let yes : nat_le v.time mark ≡ true = is_le upto in rw yes refl)
        (cases_lt mark v.time)

behind-again : (early mark : ℕ) (w : Write) (ws : List Write) → early ≤ mark → IsRisingAfter w.time ws → kept_after mark (kept_behind early w ws)
    ≡ kept_behind mark w ws
behind-again early mark w [] low up = by-gone (nat_le w.time early && is_none w.write) refl
  where
    by-gone : (b : Bool) → (nat_le w.time early && is_none w.write) ≡ b → kept_after mark (cond b [] (w ∷ [])) ≡ from_standing mark w []
    by-gone false there = refl
    by-gone true gone = let still = behind-gone early mark w low gone in rw still refl
behind-again early mark w (v ∷ vs) low up =
    ⊎_elim
    (λ (later : early < v.time). let no : nat_le v.time early ≡ false = not_le later in rw no (from-again early mark w v vs low up.2))
    (λ (upto : v.time ≤ early).
    let yes : nat_le v.time early ≡ true = is_le upto in
    let still : nat_le v.time mark ≡ true = is_le (omega (arith, upto, low)) in
    rw (yes, still) (behind-again early mark v vs low up.2))
    (cases_lt early v.time)

-- what is kept from an earlier mark on has all that is kept from a later one on
pub kept-again : (early mark : ℕ) (ws : List Write) → early ≤ mark → IsRisingAfter 0 ws → kept_after mark (kept_after early ws) ≡ kept_after mark ws
kept-again early mark [] low up = refl
kept-again early mark (w ∷ ws) low up = behind-again early mark w ws low up.2

-- ---- what is kept of them stays as it was

from-rising : (t mark : ℕ) (w : Write) (ws : List Write) → IsRisingAfter t (w ∷ ws) → IsRisingAfter t (from_standing mark w ws)
from-rising t mark w ws up = elim (nat_le w.time mark && is_none w.write) as (λ (b : Bool). IsRisingAfter t (cond b ws (w ∷ ws))) [
  | true ↦ let first = up.0 in rising_earlier t w.time ws (omega (arith, first)) up.2
  | false ↦ up
]

behind-rising : (t mark : ℕ) (w : Write) (ws : List Write) → IsRisingAfter t (w ∷ ws) → IsRisingAfter t (kept_behind mark w ws)
behind-rising t mark w [] up = from-rising t mark w [] up
behind-rising t mark w (v ∷ vs) up =
    elim (nat_le v.time mark) as (λ (b : Bool). IsRisingAfter t (cond b (kept_behind mark v vs) (from_standing mark w (v ∷ vs)))) [
      | true ↦ let first = up.0 in behind-rising t mark v vs (rising_earlier t w.time (v ∷ vs) (omega (arith, first)) up.2)
      | false ↦ from-rising t mark w (v ∷ vs) up
    ]

pub kept-rising : (t mark : ℕ) (ws : List Write) → IsRisingAfter t ws → IsRisingAfter t (kept_after mark ws)
kept-rising t mark [] up = tt
kept-rising t mark (w ∷ ws) up = behind-rising t mark w ws up

-- the last value
pub latest-kept : (mark : ℕ) (ws : List Write) → mark ≤ 2 ^ 63 → latest (kept_after mark ws) ≡ latest ws
latest-kept mark ws range = value-kept mark ws (2 ^ 63) range

last-behind : (t mark : ℕ) (w : Write) (ws : List Write) → t ≤ w.time → IsRisingAfter w.time ws
    → last_time_after t (kept_behind mark w ws) ≤ last_time_after w.time ws
last-behind t mark w [] low up =
    elim (nat_le w.time mark && is_none w.write) as (λ (b : Bool). last_time_after t (cond b [] (w ∷ [])) ≤ w.time) [ true ↦ low | false ↦ omega arith ]
last-behind t mark w (v ∷ vs) low up =
    elim (nat_le v.time mark) as (λ (b : Bool). last_time_after t (cond b (kept_behind mark v vs) (from_standing mark w (v ∷ vs)))
    ≤ last_time_after v.time vs) [
      | true ↦ let first = up.0 in last-behind t mark v vs (omega (arith, low, first)) up.2
      | false ↦ elim (nat_le w.time mark && is_none w.write) as (λ (b : Bool). last_time_after t (cond b (v ∷ vs) (w ∷ v ∷ vs)) ≤ last_time_after v.time vs)
          [ true ↦ omega arith | false ↦ omega arith ]
    ]

last-upto : (mark : ℕ) (ws : List Write) → IsRisingAfter 0 ws → last_time (kept_after mark ws) ≤ last_time ws
last-upto mark [] up = omega arith
last-upto mark (w ∷ ws) up = let first = up.0 in last-behind 0 mark w ws (omega (arith, first)) up.2

-- whether the last write is later than a time from the mark on
pub later-kept : (s mark : ℕ) (ws : List Write) → mark ≤ s → IsRisingAfter 0 ws → nat_lt s (last_time (kept_after mark ws)) ≡ nat_lt s (last_time ws)
later-kept s mark ws low up = ⊎_elim
    (λ (later : mark < last_time ws). ap (nat_lt s) (last-kept mark ws later))
    (λ (upto : last_time ws ≤ mark).
    let less = last-upto mark ws up in
    let here : nat_lt s (last_time (kept_after mark ws)) ≡ false = not_lt (omega (arith, less, upto, low)) in
    let there : nat_lt s (last_time ws) ≡ false = not_lt (omega (arith, upto, low)) in
    here ∙ sym there)
    (cases_lt mark (last_time ws))

-- ---- the version that stands at the mark, and what is later

one-standing : (mark : ℕ) (w : Write) (ws : List Write) → mark < first_time ws → filter (stands_at mark) (versions ws) ≡ [] → writes_after mark ws ≡ ws
    → map as_write (filter (stands_at mark) (version_of w.time (first_time ws) w.write ++ versions ws)) ++ writes_after mark (w ∷ ws) ≡ from_standing mark w ws
one-standing mark w ws before none all =
    let inside : nat_lt mark (first_time ws) ≡ true = is_lt before in
    ⊎_elim
    (λ (later : mark < w.time).
    let no : nat_le w.time mark ≡ false = not_le later in
    let late : nat_lt mark w.time ≡ true = is_lt later in
    elim w.write as (λ (o : Option Value). map as_write (filter (stands_at mark) (version_of w.time (first_time ws) o ++ versions ws))
    ++ cond (nat_lt mark w.time) (w ∷ writes_after mark ws) (writes_after mark ws) ≡ cond (nat_le w.time mark && is_none o) ws (w ∷ ws)) [
      | None ↦ rw (no, late, none, all) refl
      | Some v ↦ rw (no, late, none, all) refl
    ])
    (λ (early : w.time ≤ mark).
    let yes : nat_le w.time mark ≡ true = is_le early in
    let gone : nat_lt mark w.time ≡ false = not_lt early in
    elim w.write as (λ (o : Option Value). map as_write (filter (stands_at mark) (version_of w.time (first_time ws) o ++ versions ws))
    ++ cond (nat_lt mark w.time) (w ∷ writes_after mark ws) (writes_after mark ws)
    ≡ cond (nat_le w.time mark && is_none o) ws (record { time = w.time; write = o } ∷ ws)) [
      | None ↦ rw (yes, gone, none, all) refl
      | Some v ↦ rw (yes, gone, inside, none, all) refl
    ])
    (cases_lt mark w.time)

behind-standing : (mark : ℕ) (w : Write) (ws : List Write) → mark < 2 ^ 63 → IsRisingAfter w.time ws
    → map as_write (filter (stands_at mark) (versions (w ∷ ws))) ++ writes_after mark (w ∷ ws) ≡ kept_behind mark w ws
behind-standing mark w [] range up = one-standing mark w [] range refl refl
behind-standing mark w (v ∷ vs) range up =
    let first = up.0 in
    ⊎_elim
    (λ (later : mark < v.time).
    let no : nat_le v.time mark ≡ false = not_le later in
    rw no (one-standing mark w (v
    ∷ vs) later (filter-standing v.time mark (versions (v ∷ vs)) later (versions-apart w.time (v ∷ vs) up)) (writes_after-all mark (v ∷ vs) (
      later,
      up.1,
      up.2,
    ))))
    (λ (early : v.time ≤ mark).
    let yes : nat_le v.time mark ≡ true = is_le early in
    let outside : nat_lt mark v.time ≡ false = not_lt early in
    let gone : nat_lt mark w.time ≡ false = not_lt (omega (arith, first, early)) in
    let past : nat_le w.time mark ≡ true = is_le (omega (arith, first, early)) in
    let rest = behind-standing mark v vs range up.2 in
    rw yes (elim w.write as (λ (o : Option Value). map as_write (filter (stands_at mark) (version_of w.time v.time o ++ versions (v ∷ vs)))
    ++ cond (nat_lt mark w.time) (w ∷ writes_after mark (v ∷ vs)) (writes_after mark (v ∷ vs)) ≡ kept_behind mark v vs) [
      | None ↦ rw gone rest
      | Some x ↦ rw (gone, past, outside) (rw outside at rest)
    ]))
    (cases_lt mark v.time)

-- what is kept is the version that stands at the mark, as the write that it began with, and what is later
pub kept-standing : (mark : ℕ) (ws : List Write) → mark < 2 ^ 63 → IsRisingAfter 0 ws → map as_write (filter (stands_at mark) (versions ws))
    ++ writes_after mark ws ≡ kept_after mark ws
kept-standing mark [] range up = refl
kept-standing mark (w ∷ ws) range up = behind-standing mark w ws range up.2

-- a value that stands at the mark is kept, with what is later
pub kept-value : (mark time : ℕ) (value : Value) (later : List Write) → IsRisingAfter mark later
    → kept_after mark (record { time = time; write = Some value } ∷ later) ≡ record { time = time; write = Some value } ∷ later
kept-value mark time value [] up =
    elim (nat_le time mark) as (λ (b : Bool). cond {A = List Write} (b && false) [] (record { time = time; write = Some value } ∷ [])
    ≡ record { time = time; write = Some value } ∷ []) [ true ↦ refl | false ↦ refl ]
kept-value mark time value (v ∷ vs) up =
    let no : nat_le v.time mark ≡ false = not_le up.0 in
    rw no (elim (nat_le time mark) as (λ (b : Bool). cond {A = List Write} (b && false) (v ∷ vs) (record { time = time; write = Some value } ∷ v ∷ vs)
    ≡ record { time = time; write = Some value } ∷ v ∷ vs) [ true ↦ refl | false ↦ refl ])

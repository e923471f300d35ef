-- Memory that forgets what ended by a mark is that of the same history from the mark on.
use Rattle.std.proofs.Common.{◌≡◌, ℕ, ◌<◌, ◌≤◌, ◌^◌, ◌&&◌, nat_le, nat_lt, Bool, true, false, cond, is_none, List, [], ◌∷◌, ◌++◌, Option, Some, None, refl}
use Rattle.std.proofs.Common.{arith, ap, sym, ◌∙◌, ⊎_elim}
use Rattle.std.specs.Prelude.{filter}
use Rattle.std.proofs.lemmas.Bool.{cases_lt}
use Rattle.std.proofs.lemmas.List.Elements.{filter-append}
use Rattle.history.specs.declared.key.Key.{Key}
use Rattle.history.specs.declared.time.TimedWrite.{TimedWrite}
use Rattle.history.specs.Time.{IsRisingAfter, writes_after}
use Rattle.history.specs.Versions.{versions, ends_after}
use Rattle.history.specs.Histories as histories
use Rattle.history.specs.Histories.{History, HasRisingTimes, last, versions_of}
use Rattle.history.proofs.Filters.{filter-swap, filter-filter}
use Rattle.history.proofs.Orders.{is_le, is_lt, not_lt, not_le}
use Rattle.history.proofs.Values.{writes_after-all}
use Rattle.history.proofs.Histories.{last_after-range}
use Rattle.history.proofs.Views.{filter-later}
use Rattle.law_image.specs.Values.{Value}
use Rattle.chains.specs.KeyWrites.{KeyWrites, writes_of, forgotten}
use Rattle.chains.specs.Writes.{last_time, last_time_after, kept_after, kept_behind, from_standing}
use Rattle.chains.proofs.Order.{ordered-forgotten}
use Rattle.chains.proofs.Versions.{versions-kept, writes_of-forgotten}
use Rattle.law_refinement.specs.Standing.{HasWrites}
use Rattle.law_refinement.proofs.Held.{Writes, rising-held}

-- ---- what stands at a mark

-- a write that is no later than the mark, and a value
standing-one : ℕ → TimedWrite Value → Writes
standing-one mark w = cond (nat_le w.time mark && is_none w.write) [] (cond (nat_le w.time mark) (w ∷ []) [])

-- the last one of some writes
standing-behind : ℕ → TimedWrite Value → Writes → Writes
standing-behind mark w [] = standing-one mark w
standing-behind mark w (v ∷ vs) = cond (nat_le v.time mark) (standing-behind mark v vs) (standing-one mark w)

standing-in : ℕ → Writes → Writes
standing-in mark [] = []
standing-in mark (w ∷ ws) = standing-behind mark w ws

record StandsBy (mark : ℕ) (ws : Writes) : Type 0 where
  pub rising : IsRisingAfter 0 ws
  pub early : last_time ws ≤ mark

one-stands : (mark : ℕ) (w : TimedWrite Value) → 0 < w.time → w.time < 2 ^ 63 → StandsBy mark (standing-one mark w)
unfolding standing-one
one-stands mark w low high =
    ⊎_elim
    (λ (later : mark < w.time). let no : nat_le w.time mark ≡ false = not_le later in rw no (record { rising = tt; early = omega arith }))
    (λ (early : w.time ≤ mark).
    let yes : nat_le w.time mark ≡ true = is_le early in
    elim w.write as (λ (o : Option Value). StandsBy mark (cond (nat_le w.time mark && is_none o) [] (cond (nat_le w.time mark) (w ∷ []) []))) [
      | None ↦ rw yes (record { rising = tt; early = omega arith })
      | Some x ↦ rw yes (record { rising = (low, high, tt); early = early })
    ])
    (cases_lt mark w.time)

behind-stands : (mark : ℕ) (w : TimedWrite Value) (ws : Writes) → 0 < w.time → w.time < 2 ^ 63 → IsRisingAfter w.time ws
    → StandsBy mark (standing-behind mark w ws)
unfolding standing-behind
behind-stands mark w [] low high up = one-stands mark w low high
behind-stands mark w (v ∷ vs) low high up =
    let first = up.0 in
    elim (nat_le v.time mark) as (λ (b : Bool). StandsBy mark (cond b (standing-behind mark v vs) (standing-one mark w))) [
      | true ↦ behind-stands mark v vs (omega (arith, low, first)) up.1 up.2
      | false ↦ one-stands mark w low high
    ]

stands-in : (mark : ℕ) (ws : Writes) → IsRisingAfter 0 ws → StandsBy mark (standing-in mark ws)
unfolding standing-in
stands-in mark [] up = record { rising = tt; early = omega arith }
stands-in mark (w ∷ ws) up = behind-stands mark w ws up.0 up.1 up.2

-- a write with later ones behind it
one-kept : (mark : ℕ) (w : TimedWrite Value) (ws : Writes) → writes_after mark ws ≡ ws → from_standing mark w ws ≡ standing-one mark w
    ++ writes_after mark (w ∷ ws)
unfolding standing-one
one-kept mark w ws whole =
    ⊎_elim
    (λ (later : mark < w.time).
    let no : nat_le w.time mark ≡ false = not_le later in
    let yes : nat_lt mark w.time ≡ true = is_lt later in
    rw (no, yes, whole) refl)
    (λ (early : w.time ≤ mark).
    let yes : nat_le w.time mark ≡ true = is_le early in
    let no : nat_lt mark w.time ≡ false = not_lt early in
    elim w.write as (λ (o : Option Value). cond (nat_le w.time mark && is_none o) ws (w ∷ ws)
    ≡ cond (nat_le w.time mark && is_none o) [] (cond (nat_le w.time mark) (w ∷ []) []) ++ writes_after mark (w ∷ ws)) [
      | None ↦ rw (yes, no, whole) refl
      | Some x ↦ rw (yes, no, whole) refl
    ])
    (cases_lt mark w.time)

behind-kept : (mark : ℕ) (w : TimedWrite Value) (ws : Writes) → IsRisingAfter w.time ws → kept_behind mark w ws ≡ standing-behind mark w ws
    ++ writes_after mark (w ∷ ws)
unfolding standing-behind
behind-kept mark w [] up = one-kept mark w [] refl
behind-kept mark w (v ∷ vs) up =
    let first = up.0 in
    ⊎_elim
    (λ (later : mark < v.time).
    let no : nat_le v.time mark ≡ false = not_le later in
    rw no (one-kept mark w (v ∷ vs) (writes_after-all mark (v ∷ vs) (later, up.1, up.2))))
    (λ (early : v.time ≤ mark).
    let yes : nat_le v.time mark ≡ true = is_le early in
    let gone : nat_lt mark w.time ≡ false = not_lt (omega (arith, first)) in
    rw (yes, gone) (behind-kept mark v vs up.2))
    (cases_lt mark v.time)

kept-parts : (mark : ℕ) (ws : Writes) → IsRisingAfter 0 ws → kept_after mark ws ≡ standing-in mark ws ++ writes_after mark ws
unfolding standing-in
kept-parts mark [] up = refl
kept-parts mark (w ∷ ws) up = behind-kept mark w ws up.2

-- ---- writes up to an earlier mark

last-least : (t : ℕ) (ws : Writes) → IsRisingAfter t ws → t ≤ last_time_after t ws
last-least t [] up = omega arith
last-least t (w ∷ ws) up = let one = up.0 in let more = last-least w.time ws up.2 in omega arith

none-later : (mark t : ℕ) (ws : Writes) → IsRisingAfter t ws → last_time_after t ws ≤ mark → writes_after mark ws ≡ []
none-later mark t [] up low = refl
none-later mark t (w ∷ ws) up low =
    let first = last-least w.time ws up.2 in
    let gone : nat_lt mark w.time ≡ false = not_lt (omega (arith, first, low)) in
    rw gone (none-later mark w.time ws up.2 low)

later-again : (early mark : ℕ) (ws : Writes) → early ≤ mark → writes_after mark (writes_after early ws) ≡ writes_after mark ws
later-again early mark ws low =
    filter-filter (λ (w : TimedWrite Value). nat_lt mark w.time) (λ (w : TimedWrite Value). nat_lt early w.time) ws
    (λ w late. is_lt (let test = late in omega (arith, from-test w.time late)))
  where
    from-test : (t : ℕ) → nat_lt mark t ≡ true → mark < t
    from-test t test =
        ⊎_elim (λ (later : mark < t). later) (λ (other : t ≤ mark). absurd (let no : nat_lt mark t ≡ false = not_lt other in let both : true ≡ false = sym test
        ∙ no in cc)) (cases_lt mark t)

-- ---- memory

pub forgets : (floors : ℕ → ℕ) (reclaimed mark : ℕ) (versions-in : List KeyWrites) (h : History Value) → HasWrites floors reclaimed versions-in h
    → HasRisingTimes 0 h → reclaimed ≤ mark → mark ≤ last h
    → HasWrites floors mark (forgotten mark versions-in) h
forgets floors reclaimed mark versions-in h has up low reached = record {
  ordered = ordered-forgotten mark versions-in has.ordered;
  marked = reached;
  before = λ key. standing-in mark (writes_of versions-in key);
  rising = λ key. (stands-in mark (writes_of versions-in key) (rising-held has up key)).rising;
  early = λ key. (stands-in mark (writes_of versions-in key) (rising-held has up key)).early;
  writes = λ key.
      writes_of-forgotten mark versions-in key has.ordered
      ∙ kept-parts mark (writes_of versions-in key) (rising-held has up key)
      ∙ ap (λ (ws : Writes). standing-in mark (writes_of versions-in key) ++ ws) (later key);
  at_home = λ key.
      let f = floors key.relation in
      let range : mark < 2 ^ 63 = let most : last h < 2 ^ 63 = last_after-range 0 h (omega arith) up in omega arith in
      ap (λ (ws : Writes). filter (ends_after f) (versions ws)) (writes_of-forgotten mark versions-in key has.ordered)
      ∙ ap (filter (ends_after f)) (versions-kept 0 mark (writes_of versions-in key) range (rising-held has up key))
      ∙ filter-swap (ends_after f) (ends_after mark) (versions (writes_of versions-in key))
      ∙ ap (filter (ends_after mark)) (has.at_home key)
      ∙ filter-swap (ends_after mark) (ends_after f) (filter (ends_after reclaimed) (versions_of h key))
      ∙ ap (filter (ends_after f)) (filter-later reclaimed mark (versions_of h key) low);
}
  where
    later : (key : Key) → writes_after mark (writes_of versions-in key) ≡ writes_after mark (histories.writes_of h key)
    later key =
        let early = has.early key in
        ap (λ (ws : Writes). writes_after mark ws) (has.writes key)
        ∙ filter-append (λ (w : TimedWrite Value). nat_lt mark w.time) (has.before key) (writes_after reclaimed (histories.writes_of h key))
        ∙ ap (λ (ws : Writes). ws
        ++ writes_after mark (writes_after reclaimed (histories.writes_of h key))) (none-later mark 0 (has.before key) (has.rising key) (omega arith))
        ∙ later-again reclaimed mark (histories.writes_of h key) low

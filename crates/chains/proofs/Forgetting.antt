-- What is kept of one key's writes keeps its later values and its last time.
use Rattle.std.proofs.Common.{◌≡◌, ℕ, ◌<◌, ◌≤◌, nat_le, true, false, Bool, cond, ◌&&◌, List, [], ◌∷◌, ◌++◌, Option, Some, None, refl, ap, ◌∙◌, arith, ⊎_elim}
use Rattle.std.specs.Prelude.{is_none}
use Rattle.std.proofs.lemmas.Bool.{cases_lt}
use Rattle.history.specs.declared.key.Key.{Key}
use Rattle.history.specs.Time.{IsRisingAfter, value_after, value_at}
use Rattle.history.specs.Versions.{versions}
use Rattle.history.proofs.Appending.{versions-append}
use Rattle.chains.specs.Writes.{Value, Write, last_time, last_time_after, kept_after, kept_behind, from_standing}
use Rattle.chains.specs.KeyWrites.{KeyWrites, latest, forgotten, unless_empty}
use Rattle.chains.specs.Versions.{versions_with}
use Rattle.chains.proofs.Kept.{is_le, not_le}
use Rattle.std.proofs.lemmas.List.{append-nil}

value-standing : (mark : ℕ) (w : Write) (ws : List Write) (t : ℕ) → value_at (from_standing mark w ws) t ≡ value_at (w ∷ ws) t
value-standing mark w ws t =
    let Goal : Option Value → Bool → Bool → Type 0 =
    λ o b d. value_at (cond (b && is_none o) ws (record { time = w.time; write = o } ∷ ws)) t ≡ value_after (cond (nat_le w.time t) o None) ws t in
    let Gone : Bool → Type 0 = λ d. value_after None ws t ≡ value_after (cond d None None) ws t in
    let gone : value_after None ws t ≡ value_after (cond (nat_le w.time t) None None) ws t = elim (nat_le w.time t) as Gone [ true ↦ refl | false ↦ refl ] in
    elim w.write as (λ o. value_at (cond (nat_le w.time mark && is_none o) ws (record { time = w.time; write = o } ∷ ws)) t
    ≡ value_after (cond (nat_le w.time t) o None) ws t) [
      | None ↦ elim (nat_le w.time mark) as (λ b. value_at (cond (b && true) ws (record { time = w.time; write = None } ∷ ws)) t
          ≡ value_after (cond (nat_le w.time t) None None) ws t) [ true ↦ gone | false ↦ refl ]
      | Some v ↦ elim (nat_le w.time mark) as (λ b. value_at (cond (b && false) ws (record { time = w.time; write = Some v } ∷ ws)) t
          ≡ value_after (cond (nat_le w.time t) (Some v) None) ws t) [ true ↦ refl | false ↦ refl ]
    ]

value-behind : (mark : ℕ) (w : Write) (ws : List Write) (t : ℕ) → mark ≤ t → value_at (kept_behind mark w ws) t ≡ value_at (w ∷ ws) t
value-behind mark w [] t h = value-standing mark w [] t
value-behind mark w (v ∷ vs) t h =
    ⊎_elim
    (λ (later : mark < v.time).
    let late : nat_le v.time mark ≡ false = not_le later in
    rw late (value-standing mark w (v ∷ vs) t))
    (λ (by : v.time ≤ mark).
    let early : nat_le v.time mark ≡ true = is_le by in
    let there : nat_le v.time t ≡ true = is_le (omega arith) in
    let rest : value_at (kept_behind mark v vs) t ≡ value_after (cond (nat_le v.time t) v.write None) vs t = value-behind mark v vs t h in
    rw early (rest ∙ rw there refl))
    (cases_lt mark v.time)

pub value-kept : (mark : ℕ) (ws : List Write) (t : ℕ) → mark ≤ t → value_at (kept_after mark ws) t ≡ value_at ws t
value-kept mark [] t h = refl
value-kept mark (w ∷ ws) t h = value-behind mark w ws t h

last-behind : (before mark : ℕ) (w : Write) (ws : List Write) → mark < last_time_after before (w ∷ ws) → last_time_after before (kept_behind mark w ws)
    ≡ last_time_after before (w ∷ ws)
last-behind before mark w [] h =
    let late : nat_le w.time mark ≡ false = not_le h in
    rw late refl
last-behind before mark w (v ∷ vs) h =
    elim (nat_le v.time mark) as (λ b. last_time_after before (cond b (kept_behind mark v vs) (from_standing mark w (v ∷ vs))) ≡ last_time_after v.time vs) [
      | true ↦ last-behind before mark v vs h
      | false ↦ elim (nat_le w.time mark && is_none w.write) as (λ b. last_time_after before (cond b (v ∷ vs) (w ∷ v ∷ vs))
          ≡ last_time_after v.time vs) [ true ↦ refl | false ↦ refl ]
    ]

pub last-kept : (mark : ℕ) (ws : List Write) → mark < last_time ws → last_time (kept_after mark ws) ≡ last_time ws
last-kept mark [] h = refl
last-kept mark (w ∷ ws) h = last-behind 0 mark w ws h

last-behind-upto : (mark : ℕ) (w : Write) (ws : List Write) → last_time (kept_behind mark w ws) ≤ last_time (w ∷ ws)
last-behind-upto mark w [] =
    elim (nat_le w.time mark && is_none w.write) as (λ b. last_time (cond b [] (w ∷ [])) ≤ w.time) [ true ↦ omega arith | false ↦ omega arith ]
last-behind-upto mark w (v ∷ vs) =
    elim (nat_le v.time mark) as (λ b. last_time (cond b (kept_behind mark v vs) (from_standing mark w (v ∷ vs))) ≤ last_time_after v.time vs) [
      | true ↦ last-behind-upto mark v vs
      | false ↦ elim (nat_le w.time mark && is_none w.write) as (λ b. last_time (cond b (v ∷ vs) (w ∷ v ∷ vs)) ≤ last_time_after v.time vs)
          [ true ↦ omega arith | false ↦ omega arith ]
    ]

last-kept-upto : (mark : ℕ) (ws : List Write) → last_time (kept_after mark ws) ≤ last_time ws
last-kept-upto mark [] = omega arith
last-kept-upto mark (w ∷ ws) = last-behind-upto mark w ws

latest-unless : (key : Key) (ws : List Write) (m : List KeyWrites) (t : ℕ) → last_time ws ≤ t → latest m ≤ t → latest (unless_empty key ws ++ m) ≤ t
latest-unless key [] m t h k = k
latest-unless key (w ∷ ws) m t h k = omega arith

pub latest-forgotten : (mark : ℕ) (m : List KeyWrites) → latest (forgotten mark m) ≤ latest m
latest-forgotten mark [] = omega arith
latest-forgotten mark (c ∷ cs) =
    latest-unless c.key (kept_after mark c.writes) (forgotten mark cs) (latest (c ∷ cs)) (omega (arith, last-kept-upto mark c.writes)) (omega (
      arith,
      latest-forgotten mark cs,
    ))

-- later writes end the last version, and add their own
pub versions-with : (s : ℕ) (ws later : List Write) → IsRisingAfter s ws → versions (ws ++ later) ≡ versions_with later (versions ws)
versions-with s ws [] up = ap versions (append-nil ws)
versions-with s ws (w ∷ later) up = versions-append s ws (w ∷ later) up

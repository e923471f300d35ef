-- What stands at a time, told write by write.
use Rattle.std.proofs.Common.{◌≡◌, ℕ, ◌<◌, ◌≤◌, ◌^◌, nat_le, nat_lt, Bool, true, false, cond, List, [], ◌∷◌, ◌++◌, map, Option, Some, None, refl, ap, sym, ◌∙◌}
use Rattle.std.proofs.Common.{arith, ⊎_elim}
use Rattle.std.specs.Prelude.{filter}
use Rattle.std.specs.List.{AllByRecursion, cons_option}
use Rattle.std.specs.List.Sorted.{IsStrictlySortedBy}
use Rattle.std.proofs.lemmas.Bool.{cases_lt}
use Rattle.std.proofs.lemmas.Bool.Decides.{nat_tests}
use Rattle.history.specs.declared.key.Key.{Key}
use Rattle.history.specs.declared.time.TimedWrite.{TimedWrite}
use Rattle.history.specs.declared.time.Version.{Version}
use Rattle.history.specs.Key.{same_key}
use Rattle.history.specs.Time.{IsRisingAfter, value_after, writes_after}
use Rattle.history.specs.Versions.{first_time, version_of, versions, stands_at, as_write, FollowOneAnotherFrom}
use Rattle.history.proofs.Orders.{is_lt, not_lt, is_le, not_le}
use Rattle.history.proofs.Values.{first_time-later, versions-apart, filter-standing, rising_earlier, rising-first, writes_after-all}
use Rattle.law_image.specs.Values.{Value}
use Rattle.law_image.specs.Reading.{OldRecord}
use Rattle.law_image.specs.Facts.{old_writes, latest}
use Rattle.law_image.specs.StandsFor.{IsAnchorUpto}
use Rattle.law_log_sizes.proofs.Putting.{AreSorted, kept_write, first_value, none-above}

-- the write that stands at a time, unless it is gone, where this one stood before
abbrev pub standing_from : ℕ → List (TimedWrite Value) → List (TimedWrite Value) → List (TimedWrite Value)
standing_from time before [] = before
standing_from time before (w ∷ ws) = standing_from time (cond (nat_le w.time time) (kept_write w.time w.write) before) ws

-- the versions that stand at a time, as writes
abbrev pub standing : ℕ → List (TimedWrite Value) → List (TimedWrite Value)
standing time ws = map as_write (filter (stands_at time) (versions ws))

pub standing-append : (time : ℕ) (before ws vs : List (TimedWrite Value))
    → standing_from time before (ws ++ vs) ≡ standing_from time (standing_from time before ws) vs
standing-append time before [] vs = refl
standing-append time before (w ∷ ws) vs = standing-append time (cond (nat_le w.time time) (kept_write w.time w.write) before) ws vs

-- later writes change nothing
pub standing-later : (time : ℕ) (before ws : List (TimedWrite Value)) → IsRisingAfter time ws → standing_from time before ws ≡ before
standing-later time before [] up = refl
standing-later time before (w ∷ ws) up =
    let later : nat_le w.time time ≡ false = not_le up.0 in
    rw later (standing-later time before ws (rising_earlier time w.time ws (omega (arith, up.0)) up.2))

-- the first write up to the time decides, whatever stood before
standing-decided : (time : ℕ) (a b ws : List (TimedWrite Value)) → first_time ws ≤ time → time < 2 ^ 63
    → standing_from time a ws ≡ standing_from time b ws
standing-decided time a b [] le lt = absurd (omega arith)
standing-decided time a b (w ∷ ws) le lt = let early : nat_le w.time time ≡ true = is_le le in rw early refl

-- the versions that stand at a time are found write by write
pub standing-is : (s time : ℕ) (ws : List (TimedWrite Value)) → time < 2 ^ 63 → IsRisingAfter s ws → standing time ws ≡ standing_from time [] ws
standing-is s time [] lt up = refl
standing-is s time (w ∷ ws) lt up =
    let next : w.time < first_time ws = first_time-later w.time ws up.1 up.2 in
    let apart : FollowOneAnotherFrom (first_time ws) (versions ws) = versions-apart w.time ws up.2 in
    let Goal : Option Value → Type 0 =
    λ o. map as_write (filter (stands_at time) (version_of w.time (first_time ws) o ++ versions ws))
    ≡ standing_from time (cond (nat_le w.time time) (kept_write w.time o) []) ws in
    ⊎_elim
    (λ (early : time < w.time).
    let nothing : filter (stands_at time) (versions (w ∷ ws)) ≡ [] =
    filter-standing w.time time (versions (w ∷ ws)) early (versions-apart s (w ∷ ws) up) in
    ap (map as_write) nothing ∙ sym (standing-later time [] (w ∷ ws) (early, up.1, up.2)))
    (λ (here : w.time ≤ time).
    let yes : nat_le w.time time ≡ true = is_le here in
    ⊎_elim
    (λ (before : time < first_time ws).
    let inside : nat_lt time (first_time ws) ≡ true = is_lt before in
    let nothing : filter (stands_at time) (versions ws) ≡ [] = filter-standing (first_time ws) time (versions ws) before apart in
    elim w.write as Goal [
      | None ↦ rw (yes, nothing) (sym (standing-later time [] ws (rising-first w.time time ws before up.2)))
      | Some v ↦
          rw (yes, inside, nothing)
          (sym (standing-later time (record { time = w.time; write = Some v } ∷ []) ws (rising-first w.time time ws before up.2)))
    ])
    (λ (past : first_time ws ≤ time).
    let outside : nat_lt time (first_time ws) ≡ false = not_lt past in
    let rest : standing time ws ≡ standing_from time [] ws = standing-is w.time time ws lt up.2 in
    elim w.write as Goal [
      | None ↦ rw yes rest
      | Some v ↦ rw (yes, outside) (rest ∙ standing-decided time [] (record { time = w.time; write = Some v } ∷ []) ws past lt)
    ])
    (cases_lt time (first_time ws)))
    (cases_lt time w.time)

not-standing : (time : ℕ) (v : Version Value) → v.to ≤ time → stands_at time v ≡ false
not-standing time v le = grind (arith, nat_tests)

first-range : (s : ℕ) (ws : List (TimedWrite Value)) → IsRisingAfter s ws → first_time ws ≤ 2 ^ 63
first-range s [] up = omega arith
first-range s (w ∷ ws) up = omega (arith, up.1)

-- nothing stands when all has ended
pub none-standing : (time : ℕ) (s : ℕ) (ws : List (TimedWrite Value)) → 2 ^ 63 ≤ time → IsRisingAfter s ws → standing time ws ≡ []
none-standing time s [] past up = refl
none-standing time s (w ∷ ws) past up =
    let rest = none-standing time w.time ws past up.2 in
    let Goal : Option Value → Type 0 = λ o. map as_write (filter (stands_at time) (version_of w.time (first_time ws) o ++ versions ws)) ≡ [] in
    elim w.write as Goal [
      | None ↦ rest
      | Some v ↦
          let gone : stands_at time (record { from = w.time; to = first_time ws; value = v }) ≡ false =
          not-standing time (record { from = w.time; to = first_time ws; value = v }) (omega (arith, first-range w.time ws up.2, past)) in
          rw gone rest
    ]

-- the anchors stand from their times on
pub standing-anchors : (time : ℕ) (olds : List OldRecord) (key : Key) → AreSorted olds → AllByRecursion (IsAnchorUpto time) olds
    → standing_from time [] (old_writes olds key) ≡ old_writes olds key
unfolding IsStrictlySortedBy
standing-anchors time [] key sorted within = refl
standing-anchors time (o ∷ olds) key sorted within =
    let rest = standing-anchors time olds key sorted.1 within.1 in
    let early : nat_le o.from time ≡ true = is_le within.0.1 in
    let list : Bool → List (TimedWrite Value) =
    λ b. cons_option (cond b (Some (record { time = o.from; write = Some o.value })) None) (old_writes olds key) in
    let Goal : Bool → Type 0 = λ b. same_key o.key key ≡ b → standing_from time [] (list b) ≡ list b in
    let all : (b : Bool) → Goal b = λ b. elim b as Goal [
      | true ↦ λ e. let none : old_writes olds key ≡ [] = none-above o.key key olds e sorted.0 in rw (none, early) refl
      | false ↦ λ e. rest
    ] in
    all (same_key o.key key) refl

-- the value of a key at the mark of its anchors
pub latest-anchors : (mark : ℕ) (olds : List OldRecord) (key : Key) → mark < 2 ^ 63 → AreSorted olds → AllByRecursion (IsAnchorUpto mark) olds
    → first_value (old_writes olds key) ≡ latest (old_writes olds key)
unfolding IsStrictlySortedBy
latest-anchors mark [] key lt sorted within = refl
latest-anchors mark (o ∷ olds) key lt sorted within =
    let rest = latest-anchors mark olds key lt sorted.1 within.1 in
    let early : nat_le o.from (2 ^ 63) ≡ true = is_le (omega (arith, within.0.1)) in
    let list : Bool → List (TimedWrite Value) =
    λ b. cons_option (cond b (Some (record { time = o.from; write = Some o.value })) None) (old_writes olds key) in
    let Goal : Bool → Type 0 = λ b. same_key o.key key ≡ b → first_value (list b) ≡ latest (list b) in
    let all : (b : Bool) → Goal b = λ b. elim b as Goal [
      | true ↦ λ e. let none : old_writes olds key ≡ [] = none-above o.key key olds e sorted.0 in rw (none, early) refl
      | false ↦ λ e. rest
    ] in
    all (same_key o.key key) refl

-- ---- later marks

-- what stands at a mark, and the writes later than it, tell what stands later
pub standing-since : (s mark time : ℕ) (before ws : List (TimedWrite Value)) → mark ≤ time → IsRisingAfter s ws
    → standing_from time (standing_from mark before ws) (writes_after mark ws) ≡ standing_from time before ws
standing-since s mark time before [] le up = refl
standing-since s mark time before (w ∷ ws) le up =
    ⊎_elim
    (λ (later : mark < w.time).
    let rising : IsRisingAfter mark (w ∷ ws) = (later, up.1, up.2) in
    ap (λ l. standing_from time l (writes_after mark (w ∷ ws))) (standing-later mark before (w ∷ ws) rising)
    ∙ ap (standing_from time before) (writes_after-all mark (w ∷ ws) rising))
    (λ (early : w.time ≤ mark).
    let yes : nat_le w.time mark ≡ true = is_le early in
    let also : nat_le w.time time ≡ true = is_le (omega (arith, early, le)) in
    let gone : nat_lt mark w.time ≡ false = not_lt early in
    let rest = standing-since w.time mark time (kept_write w.time w.write) ws le up.2 in
    rw (yes, also, gone) rest)
    (cases_lt mark w.time)

kept-value : (time : ℕ) (write : Option Value) → first_value (kept_write time write) ≡ write
kept-value time None = refl
kept-value time (Some value) = refl

-- what stands has the value of the time
pub standing-value : (time : ℕ) (before ws : List (TimedWrite Value)) → first_value (standing_from time before ws) ≡ value_after (first_value before) ws time
standing-value time before [] = refl
standing-value time before (w ∷ ws) =
    let Goal : Bool → Type 0 =
    λ b. first_value (standing_from time (cond b (kept_write w.time w.write) before) ws) ≡ value_after (cond b w.write (first_value before)) ws time in
    elim (nat_le w.time time) as Goal [
      | true ↦
          standing-value time (kept_write w.time w.write) ws ∙ ap (λ v. value_after v ws time) (kept-value w.time w.write)
      | false ↦ standing-value time before ws
    ]

-- a write of a time from 1 to a mark
abbrev pub IsUpto : ℕ → TimedWrite Value → Type 0
IsUpto mark w = (0 < w.time) × (w.time ≤ mark)

kept-upto : (mark time : ℕ) (write : Option Value) → 0 < time → time ≤ mark → AllByRecursion (IsUpto mark) (kept_write time write)
kept-upto mark time None some le = tt
kept-upto mark time (Some value) some le = ((some, le), tt)

-- what stands at a mark is no later
pub standing-upto : (s mark : ℕ) (before ws : List (TimedWrite Value)) → AllByRecursion (IsUpto mark) before → IsRisingAfter s ws
    → AllByRecursion (IsUpto mark) (standing_from mark before ws)
standing-upto s mark before [] within up = within
standing-upto s mark before (w ∷ ws) within up =
    let Goal : Bool → Type 0 =
    λ b. nat_le w.time mark ≡ b → AllByRecursion (IsUpto mark) (standing_from mark (cond b (kept_write w.time w.write) before) ws) in
    let all : (b : Bool) → Goal b = λ b. elim b as Goal [
      | true ↦ λ e.
          let le : w.time ≤ mark = grind (arith, nat_tests, e) in
          standing-upto w.time mark (kept_write w.time w.write) ws (kept-upto mark w.time w.write (omega (arith, up.0)) le) up.2
      | false ↦ λ e. standing-upto w.time mark before ws within up.2
    ] in
    all (nat_le w.time mark) refl

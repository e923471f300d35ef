-- One key's writes as two lists, one behind the other: what is kept of them, and their value at a time.
use Rattle.std.proofs.Common.{◌≡◌, ℕ, ◌<◌, ◌≤◌, ◌^◌, nat_le, ◌&&◌, true, false, Bool, cond, List, [], ◌∷◌, ◌++◌, length, None, refl, ap, sym, ◌∙◌, arith}
use Rattle.std.proofs.Common.{append_assoc, append-nil, length-append}
use Rattle.std.specs.Prelude.{is_none}
use Rattle.history.specs.declared.key.Key.{Key}
use Rattle.history.specs.Time.{IsRisingAfter, value_after, value_at}
use Rattle.history.proofs.Values.{rising_earlier, value_after-append, value_after-later}
use Rattle.history.specs.Versions.{first_time}
use Rattle.chains.specs.Writes.{Write, last_time, last_time_after, kept_after, kept_behind, from_standing}
use Rattle.chains.proofs.Begun.{from-late}
use Rattle.chains.specs.KeyWrites.{unless_empty}
use Rattle.chains.proofs.Kept.{is_le, not_le, rising-push}
use Rattle.chains.proofs.Order.{unless_empty-some}
use Rattle.chains.proofs.Rising.{kept_after-rising}

pub rising-back : (s : ℕ) (xs ys : List Write) → IsRisingAfter s (xs ++ ys) → IsRisingAfter s ys
rising-back s [] ys up = up
rising-back s (x ∷ xs) ys up = rising-back s xs ys (rising_earlier s x.time (xs ++ ys) (omega (arith, up.0)) up.2)

pub below : (s : ℕ) (xs : List Write) (w : Write) (ys : List Write) → IsRisingAfter s (xs ++ w ∷ ys) → s < w.time
below s [] w ys up = up.0
below s (x ∷ xs) w ys up = omega (arith, up.0, below x.time xs w ys up.2)

-- rising writes of which the first was made after a time are later than it
pub rising-later : (time : ℕ) (ws : List Write) → 0 < length ws → time < first_time ws → IsRisingAfter 0 ws → IsRisingAfter time ws
rising-later time [] some h up = absurd (omega arith)
rising-later time (w ∷ ws) some h up = (h, up.1, up.2)

-- the last write of those behind is the last of all
pub last_time-back : (before : ℕ) (xs ys : List Write) → 0 < length ys → last_time_after before (xs ++ ys) ≡ last_time_after 0 ys
last_time-back before [] [] some = absurd (omega arith)
last_time-back before [] (y ∷ ys) some = refl
last_time-back before (x ∷ xs) ys some = last_time-back x.time xs ys some

-- of later writes all are kept, whatever is kept of those before them
behind-all : (mark : ℕ) (w : Write) (ws : List Write) → mark < w.time → IsRisingAfter w.time ws → kept_behind mark w ws ≡ w ∷ ws
behind-all mark w [] late up = from-late mark w [] late
behind-all mark w (v ∷ vs) late up =
    let later : nat_le v.time mark ≡ false = not_le (omega (arith, up.0)) in
    rw later (from-late mark w (v ∷ vs) late)

pub kept-all : (mark : ℕ) (ws : List Write) → IsRisingAfter mark ws → kept_after mark ws ≡ ws
kept-all mark [] up = refl
kept-all mark (w ∷ ws) up = behind-all mark w ws up.0 up.2

standing-front : (mark : ℕ) (x : Write) (xs ys : List Write) → from_standing mark x (xs ++ ys) ≡ from_standing mark x xs ++ ys
standing-front mark x xs ys =
    elim (nat_le x.time mark && is_none x.write) as (λ b. cond b (xs ++ ys) (x ∷ xs ++ ys) ≡ cond b xs (x ∷ xs) ++ ys) [ true ↦ refl | false ↦ refl ]

behind-front : (mark : ℕ) (x : Write) (xs ys : List Write) → IsRisingAfter mark ys → kept_behind mark x (xs ++ ys) ≡ kept_behind mark x xs ++ ys
behind-front mark x [] [] up = sym (append-nil (from_standing mark x []))
behind-front mark x [] (y ∷ ys) up =
    let late : nat_le y.time mark ≡ false = not_le up.0 in
    rw late (standing-front mark x [] (y ∷ ys))
behind-front mark x (v ∷ vs) ys up =
    elim (nat_le v.time mark) as (λ b. cond b (kept_behind mark v (vs ++ ys)) (from_standing mark x (v ∷ vs ++ ys))
    ≡ cond b (kept_behind mark v vs) (from_standing mark x (v ∷ vs)) ++ ys) [
      | true ↦ behind-front mark v vs ys up
      | false ↦ standing-front mark x (v ∷ vs) ys
    ]

pub kept-front : (mark : ℕ) (xs ys : List Write) → IsRisingAfter mark ys → kept_after mark (xs ++ ys) ≡ kept_after mark xs ++ ys
kept-front mark [] ys up = kept-all mark ys up
kept-front mark (x ∷ xs) ys up = behind-front mark x xs ys up

-- what is before a write that was made by the mark is not needed
pub kept-back : (s mark : ℕ) (xs : List Write) (w : Write) (ys : List Write) → IsRisingAfter s (xs ++ w ∷ ys) → w.time ≤ mark → kept_after mark (xs ++ w ∷ ys)
    ≡ kept_after mark (w ∷ ys)
kept-back s mark [] w ys up by = refl
kept-back s mark (x ∷ []) w ys up by = let early : nat_le w.time mark ≡ true = is_le by in rw early refl
kept-back s mark (x ∷ v ∷ vs) w ys up by =
    let early : nat_le v.time mark ≡ true = is_le (omega (arith, by, below v.time vs w ys up.2.2)) in
    rw early (kept-back x.time mark (v ∷ vs) w ys up.2 by)

-- what is before a chunk that begins by the mark is not needed
pub kept-chunk : (mark : ℕ) (older recent : List Write) → 0 < length recent → first_time recent ≤ mark → IsRisingAfter 0 (older ++ recent)
    → kept_after mark (older ++ recent) ≡ kept_after mark recent
kept-chunk mark older [] some h up = absurd (omega arith)
kept-chunk mark older (w ∷ ws) some h up = kept-back 0 mark older w ws up h

-- the value at a time: that of the last chunk where it has begun, and else that of an older write
pub value_older : (time : ℕ) (older recent : List Write) → 0 < length recent → time < first_time recent → IsRisingAfter 0 (older ++ recent)
    → value_at (older ++ recent) time ≡ value_at older time
value_older time older [] some h up = absurd (omega arith)
value_older time older (w ∷ ws) some h up =
    let later = rising-back 0 older (w ∷ ws) up in
    value_after-append None older (w ∷ ws) time ∙ value_after-later (value_at older time) (w ∷ ws) time (h, later.1, later.2)

pub value_recent : (time : ℕ) (older recent : List Write) → 0 < length recent → first_time recent ≤ time → value_at (older ++ recent) time
    ≡ value_at recent time
value_recent time older [] some h = absurd (omega arith)
value_recent time older (w ∷ ws) some h =
    let early : nat_le w.time time ≡ true = is_le h in
    value_after-append None older (w ∷ ws) time
    ∙ ap (λ (b : Bool). value_after (cond b w.write (value_at older time)) ws time) early
    ∙ sym (ap (λ (b : Bool). value_after (cond b w.write None) ws time) early)

-- what is kept of older writes where all recent ones are later
pub kept_older : (mark : ℕ) (key : Key) (older recent : List Write) → 0 < length recent → IsRisingAfter mark recent
    → unless_empty key (kept_after mark (older ++ recent)) ≡ record { key = key; writes = kept_after mark older ++ recent } ∷ []
kept_older mark key older recent some later =
    ap (unless_empty key) (kept-front mark older recent later)
    ∙ unless_empty-some key (kept_after mark older ++ recent) (omega (arith, length-append (kept_after mark older) recent))

pub kept_all : (mark : ℕ) (key : Key) (older recent : List Write) → 0 < length recent → IsRisingAfter mark recent → kept_after mark older ≡ older
    → unless_empty key (kept_after mark (older ++ recent)) ≡ record { key = key; writes = older ++ recent } ∷ []
kept_all mark key older recent some later same =
    kept_older mark key older recent some later ∙ ap (λ (ws : List Write). record { key = key; writes = ws ++ recent } ∷ []) same

pub older-rising : (mark : ℕ) (older recent : List Write) → IsRisingAfter mark recent → IsRisingAfter 0 (older ++ recent)
    → IsRisingAfter 0 (kept_after mark older ++ recent)
older-rising mark older recent later up = rw (sym (kept-front mark older recent later)) (kept_after-rising 0 mark (older ++ recent) up)

-- one more write, beside the older ones or behind all of them
pub recent-rising : (older recent : List Write) (w : Write) → IsRisingAfter 0 (older ++ recent) → last_time (older ++ recent) < w.time → w.time < 2 ^ 63
    → IsRisingAfter 0 (older ++ (recent ++ w ∷ []))
recent-rising older recent w up later small = rw (sym (append_assoc older recent (w ∷ []))) (rising-push 0 (older ++ recent) w up later small)

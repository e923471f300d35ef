-- What a write that is put behind others in place leaves of them.
use Rattle.std.proofs.Common.{◌≡◌, ◌∙◌, ℕ, ◌<◌, ◌^◌, List, [], ◌∷◌, ◌++◌, length, Result, Ok, Err, OnOk, OnErr, refl, sym, arith, length-append}
use Rattle.history.specs.Time.{IsRisingAfter}
use Rattle.history.specs.Versions.{first_time}
use Rattle.chains.specs.Writes.{Write, last_time}
use Rattle.chains.proofs.Kept.{rising-push}

-- what a chunk says of its writes, and when the first of them was made
abbrev pub IsChunk : ℕ → List Write → Type 0
IsChunk first ws = IsRisingAfter 0 ws × (0 < length ws) × (first ≡ first_time ws)

-- the first one stays
first-push : (ws : List Write) (w : Write) → 0 < length ws → first_time (ws ++ w ∷ []) ≡ first_time ws
first-push [] w some = absurd (omega arith)
first-push (v ∷ vs) w some = refl

-- they are still those of a chunk, whether the write was put there or not
pub pushed : {T E : Type 0} (r : Result T E) (first : ℕ) (old new : List Write) (w : Write) → OnOk r (new ≡ old ++ w ∷ []) → OnErr r (new ≡ old)
    → IsChunk first old → last_time old < w.time → w.time < 2 ^ 63 → IsChunk first new
pushed (Ok x) first old new w ok err is later small =
    rw ok (rising-push 0 old w is.0 later small, omega (arith, is.1, length-append old (w ∷ [])), is.2 ∙ sym (first-push old w is.1))
pushed (Err e) first old new w ok err is later small = rw err is

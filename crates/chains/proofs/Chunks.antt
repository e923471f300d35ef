-- One key's writes in chunks: those of a node, with what stands before them.
use Rattle.std.proofs.Common.{◌≡◌, ℕ, ◌<◌, ◌≤◌, nat_le, true, Bool, cond, List, [], ◌∷◌, ◌++◌, length, Option, None, ap, sym, ◌∙◌, arith}
use Rattle.history.specs.Time.{IsRisingAfter, value_after, value_at}
use Rattle.history.specs.Versions.{first_time}
use Rattle.history.proofs.Values.{value_after-append}
use Rattle.chains.specs.Writes.{Value, Write, kept_after}
use Rattle.chains.proofs.Kept.{is_le}
use Rattle.chains.proofs.Parts.{kept-back}

-- ---- writes before a chunk, its own, and those behind it

-- a chunk that begins later than a time has later writes alone
pub later-chunk : (t : ℕ) (ps ys : List Write) → 0 < length ps → t < first_time ps → IsRisingAfter 0 (ps ++ ys) → IsRisingAfter t (ps ++ ys)
later-chunk t [] ys some h up = absurd (omega arith)
later-chunk t (p ∷ ps) ys some h up = (h, up.1, up.2)

pub value-behind : (before : Option Value) (t : ℕ) (xs ps ys : List Write) → 0 < length ps → first_time ps ≤ t → value_after before (xs ++ (ps ++ ys)) t
    ≡ value_after (value_at ps t) ys t
value-behind before t xs [] ys some h = absurd (omega arith)
value-behind before t xs (p ∷ ps) ys some h =
    let early : nat_le p.time t ≡ true = is_le h in
    value_after-append before xs (p ∷ (ps ++ ys)) t
    ∙ ap (λ (b : Bool). value_after (cond b p.write (value_after before xs t)) (ps ++ ys) t) early
    ∙ value_after-append p.write ps ys t
    ∙ sym (ap (λ (b : Bool). value_after (value_after (cond b p.write None) ps t) ys t) early)

pub kept-behind : (mark : ℕ) (xs ps ys : List Write) → 0 < length ps → first_time ps ≤ mark → IsRisingAfter 0 (xs ++ (ps ++ ys))
    → kept_after mark (xs ++ (ps ++ ys)) ≡ kept_after mark (ps ++ ys)
kept-behind mark xs [] ys some h up = absurd (omega arith)
kept-behind mark xs (p ∷ ps) ys some h up = kept-back 0 mark xs p (ps ++ ys) up h

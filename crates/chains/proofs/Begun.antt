-- A key's writes, parted at a time: those that were made by then, and the later ones.
use Rattle.std.proofs.Common.{◌≡◌, ℕ, zero, suc, ◌<◌, nat_le, Bool, ◌&&◌, true, false, cond, List, [], ◌∷◌, length, get_or, drop, Option, None, refl, ap, sym}
use Rattle.std.proofs.Common.{◌∙◌, arith}
use Rattle.std.specs.List.Sorted.{IsNonDecreasingBy}
use Rattle.std.specs.Prelude.{is_none}
use Rattle.std.proofs.Math.Seq.{drop-cons}
use Rattle.history.specs.Time.{IsRisingAfter, value_after}
use Rattle.chains.specs.Writes.{Value, Write, IsBegun, kept_after, kept_behind, from_standing}
use Rattle.chains.proofs.Kept.{is_le, not_le}

pub behind : (time : ℕ) (w : Write) (ws : List Write) (n : ℕ) → IsBegun time (w ∷ ws) (suc n) → IsBegun time ws n
behind time w ws n begun = record {
  within = omega (arith, begun.within);
  before = λ k d h. begun.before (suc k) d (omega arith);
  after = λ k d h l. begun.after (suc k) d (omega arith) (omega arith);
}

-- later writes alone change nothing
pub value-later : (before : Option Value) (time : ℕ) (ws : List Write) → IsBegun time ws 0 → value_after before ws time ≡ before
value-later before time [] begun = refl
value-later before time (w ∷ ws) begun =
    let late : nat_le w.time time ≡ false = not_le (begun.after 0 w (omega arith) (omega arith)) in
    rw late (value-later before time ws (record {
      within = omega arith;
      before = λ k d h. absurd (omega arith);
      after = λ k d h l. begun.after (suc k) d (omega arith) (omega arith);
    }))

-- the value is that of the last write made by then
pub value-begun : (before : Option Value) (time : ℕ) (ws : List Write) (n : ℕ) (d : Write) → IsBegun time ws (suc n) → value_after before ws time
    ≡ (get_or ws n d).write
value-begun before time [] n d begun = absurd (let within = begun.within in omega arith)
value-begun before time (w ∷ ws) zero d begun =
    let early : nat_le w.time time ≡ true = is_le (begun.before 0 w (omega arith)) in
    rw early (value-later w.write time ws (behind time w ws 0 begun))
value-begun before time (w ∷ ws) (suc n) d begun =
    value-begun (cond (nat_le w.time time) w.write before) time ws n d (behind time w ws (suc n) begun)

pub value-none : (time : ℕ) (ws : List Write) → IsBegun time ws 0 → value_after None ws time ≡ None
value-none time ws begun = value-later None time ws begun

-- what is kept: of later writes all, and else from the last one made by the mark on
pub from-late : (mark : ℕ) (w : Write) (ws : List Write) → mark < w.time → from_standing mark w ws ≡ w ∷ ws
from-late mark w ws late = let test : nat_le w.time mark ≡ false = not_le late in rw test refl

behind-late : (mark : ℕ) (w : Write) (ws : List Write) → IsBegun mark ws 0 → kept_behind mark w ws ≡ from_standing mark w ws
behind-late mark w [] begun = refl
behind-late mark w (v ∷ vs) begun =
    let late : nat_le v.time mark ≡ false = not_le (begun.after 0 v (omega arith) (omega arith)) in
    rw late refl

pub kept-later : (mark : ℕ) (ws : List Write) → IsBegun mark ws 0 → kept_after mark ws ≡ ws
kept-later mark [] begun = refl
kept-later mark (w ∷ ws) begun =
    behind-late mark w ws (record {
      within = omega arith;
      before = λ k d h. absurd (omega arith);
      after = λ k d h l. begun.after (suc k) d (omega arith) (omega arith);
    })
    ∙ from-late mark w ws (begun.after 0 w (omega arith) (omega arith))

pub kept-begun : (mark : ℕ) (ws : List Write) (n : ℕ) (d : Write) → IsBegun mark ws (suc n) → kept_after mark ws
    ≡ from_standing mark (get_or ws n d) (drop (suc n) ws)
kept-begun mark [] n d begun = absurd (let within = begun.within in omega arith)
kept-begun mark (w ∷ ws) zero d begun = behind-late mark w ws (behind mark w ws 0 begun)
kept-begun mark (w ∷ []) (suc n) d begun = absurd (let within = begun.within in omega arith)
kept-begun mark (w ∷ v ∷ vs) (suc n) d begun =
    let early : nat_le v.time mark ≡ true = is_le (begun.before 1 v (omega arith)) in
    rw early (kept-begun mark (v ∷ vs) n d (behind mark w (v ∷ vs) (suc n) begun))

-- without the last write made by the mark where it says gone, and with it where it does not
pub kept-gone : (mark : ℕ) (ws : List Write) (n : ℕ) (w : Write) → IsBegun mark ws (suc n) → w ≡ get_or ws n w → (nat_le w.time mark && is_none w.write) ≡ true
    → kept_after mark ws ≡ drop (suc n) ws
kept-gone mark ws n w begun is gone =
    kept-begun mark ws n w begun
    ∙ ap (λ (v : Write). from_standing mark v (drop (suc n) ws)) (sym is)
    ∙ ap (λ (b : Bool). cond b (drop (suc n) ws) (w ∷ drop (suc n) ws)) gone

pub kept-stands : (mark : ℕ) (ws : List Write) (n : ℕ) (w : Write) → IsBegun mark ws (suc n) → w ≡ get_or ws n w → (nat_le w.time mark && is_none w.write)
    ≡ false → kept_after mark ws ≡ drop n ws
kept-stands mark ws n w begun is stands =
    let inside : n < length ws = let within = begun.within in omega arith in
    kept-begun mark ws n w begun
    ∙ ap (λ (v : Write). from_standing mark v (drop (suc n) ws)) (sym is)
    ∙ ap (λ (b : Bool). cond b (drop (suc n) ws) (w ∷ drop (suc n) ws)) stands
    ∙ ap (λ (v : Write). v ∷ drop (suc n) ws) is
    ∙ sym (drop-cons ws n w inside)

-- rising writes do not fall
later-than : (time : ℕ) (ws : List Write) (k : ℕ) (d : Write) → IsRisingAfter time ws → k < length ws → time < (get_or ws k d).time
later-than time [] k d up h = absurd (omega arith)
later-than time (w ∷ ws) zero d up h = up.0
later-than time (w ∷ ws) (suc k) d up h = omega (arith, up.0, later-than w.time ws k d up.2 (omega arith))

pub rising-order : (time : ℕ) (ws : List Write) → IsRisingAfter time ws → IsNonDecreasingBy (λ (w : Write). w.time) ws
rising-order time [] up i j d order h = absurd (omega arith)
rising-order time (w ∷ ws) up zero zero d order h = omega arith
rising-order time (w ∷ ws) up zero (suc j) d order h = omega (arith, later-than w.time ws j d up.2 (omega arith))
rising-order time (w ∷ ws) up (suc i) zero d order h = absurd (omega arith)
rising-order time (w ∷ ws) up (suc i) (suc j) d order h = rising-order w.time ws up.2 i j d (omega arith) (omega arith)

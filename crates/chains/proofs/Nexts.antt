-- The first of one key's writes that was made after a time.
use Rattle.std.proofs.Common.{◌≡◌, ℕ, zero, suc, ◌<◌, ◌≤◌, nat_lt, true, false, List, [], ◌∷◌, ◌++◌, length, get_or, Some, None, refl, arith}
use Rattle.std.specs.Prelude.{find}
use Rattle.history.specs.Time.{IsRisingAfter}
use Rattle.history.specs.Versions.{first_time}
use Rattle.history.proofs.Orders.{is_lt, not_lt}
use Rattle.chains.specs.Writes.{Write, IsBegun, is_after}
use Rattle.chains.proofs.Begun.{behind}
use Rattle.chains.proofs.Bounds.{find-found, find-past}
use Rattle.chains.proofs.Parts.{below}

none-after : (s t : ℕ) (xs : List Write) (w : Write) (ys : List Write) → IsRisingAfter s (xs ++ w ∷ ys) → w.time ≤ t → find (is_after t) xs ≡ None
none-after s t [] w ys up by = refl
none-after s t (x ∷ xs) w ys up by =
    let early : nat_lt t x.time ≡ false = not_lt (omega (arith, by, below x.time xs w ys up.2)) in
    rw early (none-after x.time t xs w ys up.2 by)

pub none-begun : (t : ℕ) (ws : List Write) (n : ℕ) → IsBegun t ws n → length ws ≤ n → find (is_after t) ws ≡ None
none-begun t [] n begun h = refl
none-begun t (w ∷ ws) zero begun h = absurd (omega arith)
none-begun t (w ∷ ws) (suc n) begun h =
    let early : nat_lt t w.time ≡ false = not_lt (begun.before 0 w (omega arith)) in
    rw early (none-begun t ws n (behind t w ws n begun) (omega arith))

pub find-begun : (t : ℕ) (ws : List Write) (n : ℕ) (d : Write) → IsBegun t ws n → n < length ws → find (is_after t) ws ≡ Some (get_or ws n d)
find-begun t [] n d begun h = absurd (omega arith)
find-begun t (w ∷ ws) zero d begun h =
    let late : nat_lt t w.time ≡ true = is_lt (begun.after 0 w (omega arith) (omega arith)) in
    rw late refl
find-begun t (w ∷ ws) (suc n) d begun h =
    let early : nat_lt t w.time ≡ false = not_lt (begun.before 0 w (omega arith)) in
    rw early (find-begun t ws n d (behind t w ws n begun) (omega arith))

-- among the older ones, or else among the recent ones
pub next_older : (t : ℕ) (older recent : List Write) (w : Write) → find (is_after t) older ≡ Some w → find (is_after t) (older ++ recent) ≡ Some w
next_older t older recent w e = find-found (is_after t) older recent w e

pub next_recent : (t : ℕ) (older recent : List Write) → find (is_after t) older ≡ None → find (is_after t) (older ++ recent) ≡ find (is_after t) recent
next_recent t older recent e = find-past (is_after t) older recent e

-- none of those before a chunk that begins by the time
pub none-before : (t : ℕ) (xs ps ys : List Write) → 0 < length ps → first_time ps ≤ t → IsRisingAfter 0 (xs ++ (ps ++ ys)) → find (is_after t) xs ≡ None
none-before t xs [] ys some h up = absurd (omega arith)
none-before t xs (p ∷ ps) ys some h up = none-after 0 t xs p (ps ++ ys) up h

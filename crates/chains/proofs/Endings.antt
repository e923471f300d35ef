-- The first version that ends after a time, among the writes on both sides of a chunk.
use Rattle.std.proofs.Common.{◌≡◌, ℕ, ◌<◌, ◌≤◌, false, List, [], ◌∷◌, ◌++◌, length, Option, None, Some, refl, ap, ◌∙◌, arith}
use Rattle.std.specs.Prelude.{find, nat_lt}
use Rattle.history.specs.declared.time.Version.{Version}
use Rattle.history.specs.Time.{IsRisingAfter}
use Rattle.history.specs.Versions.{first_time, version_of, versions, ends_after}
use Rattle.history.proofs.Orders.{not_lt}
use Rattle.chains.specs.Writes.{Value, Write}
use Rattle.chains.specs.Rows.{first_time_or, versions_upto}
use Rattle.chains.proofs.Bounds.{find-found, find-past}
use Rattle.chains.proofs.RowParts.{versions-parts, first-low}

-- a version that ends by the time is not found
none_by : (from to t : ℕ) (o : Option Value) → to ≤ t → find (ends_after t) (version_of from to o) ≡ None
none_by from to t None by = refl
none_by from to t (Some v) by = let early : nat_lt t to ≡ false = not_lt by in rw early refl

-- nor is one of those before a write that was made by then
none-before : (t s : ℕ) (xs : List Write) (w : Write) (ys : List Write) → IsRisingAfter s (xs ++ w ∷ ys) → w.time ≤ t
    → find (ends_after t) (versions_upto w.time xs) ≡ None
none-before t s [] w ys up by = refl
none-before t s (x ∷ xs) w ys up by =
    let low = first-low x.time xs w ys up.2 in
    find-past (ends_after t) (version_of x.time (first_time_or w.time xs) x.write) (versions_upto w.time xs)
    (none_by x.time (first_time_or w.time xs) t x.write (omega arith))
    ∙ none-before t x.time xs w ys up.2 by

-- those of the older writes and of the recent ones
pub find_older : (t : ℕ) (xs ys : List Write) (v : Version Value) → find (ends_after t) (versions_upto (first_time ys) xs) ≡ Some v
    → find (ends_after t) (versions (xs ++ ys)) ≡ Some v
find_older t xs ys v e =
    ap (λ (vs : List (Version Value)). find (ends_after t) vs) (versions-parts xs ys)
    ∙ find-found (ends_after t) (versions_upto (first_time ys) xs) (versions ys) v e

pub find_recent : (t : ℕ) (xs ys : List Write) → find (ends_after t) (versions_upto (first_time ys) xs) ≡ None → find (ends_after t) (versions (xs ++ ys))
    ≡ find (ends_after t) (versions ys)
find_recent t xs ys e =
    ap (λ (vs : List (Version Value)). find (ends_after t) vs) (versions-parts xs ys)
    ∙ find-past (ends_after t) (versions_upto (first_time ys) xs) (versions ys) e

-- none of those before a chunk that begins by the time
pub none-chunk : (t : ℕ) (xs ps ys : List Write) → 0 < length ps → first_time ps ≤ t → IsRisingAfter 0 (xs ++ (ps ++ ys))
    → find (ends_after t) (versions_upto (first_time ps) xs) ≡ None
none-chunk t xs [] ys some h up = absurd (omega arith)
none-chunk t xs (p ∷ ps) ys some h up = none-before t 0 xs p (ps ++ ys) up h

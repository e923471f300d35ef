-- Which transactions are open: the snapshot of each, at the place of its number.
use Rattle.std.specs.Prelude.{ℕ, suc, List, [], ◌∷◌, ◌++◌, length, slice_get, slice_set, nat_lt, min, Option, None, Some, if◌then◌else◌}

-- what stands at a place that may be none
abbrev pub joined : Option (Option ℕ) → Option ℕ
joined None = None
joined (Some place) = place

-- the snapshot of the open transaction of this number
abbrev pub snapshot_of : ℕ → List (Option ℕ) → Option ℕ
snapshot_of number places = joined (slice_get places number)

-- one more is open
abbrev pub with_opened : List (Option ℕ) → ℕ → ℕ → List (Option ℕ)
with_opened places number snapshot = if nat_lt number (length places) then slice_set places number (Some snapshot) else places ++ Some snapshot ∷ []

-- that of this number is open no longer
abbrev pub with_closed : List (Option ℕ) → ℕ → List (Option ℕ)
with_closed places number = slice_set places number None

-- the least number that no open transaction has
abbrev pub least_free : List (Option ℕ) → ℕ
least_free [] = 0
least_free (None ∷ places) = 0
least_free (Some snapshot ∷ places) = suc (least_free places)

-- how many transactions are open
abbrev pub open_count : List (Option ℕ) → ℕ
open_count [] = 0
open_count (None ∷ places) = open_count places
open_count (Some snapshot ∷ places) = suc (open_count places)

-- the lesser of two snapshots, of which either may be none
abbrev pub lesser : Option ℕ → Option ℕ → Option ℕ
lesser None other = other
lesser (Some a) None = Some a
lesser (Some a) (Some b) = Some (min a b)

-- the least snapshot of these places and one more
abbrev pub least_with : Option ℕ → List (Option ℕ) → Option ℕ
least_with least [] = least
least_with least (p ∷ ps) = least_with (lesser least p) ps

-- the least snapshot of the open transactions
abbrev pub least_open : List (Option ℕ) → Option ℕ
least_open places = least_with None places

-- The table of the open transactions: the least number that is free, and how long the table is.
use Rattle.std.proofs.Common.{◌≡◌, ℕ, zero, suc, ◌+◌, ◌<◌, ◌≤◌, List, [], ◌∷◌, ◌++◌, length, Option, None, Some, is_some, true, false, slice_set, refl, arith}
use Rattle.snapshot.specs.OpenTable.{snapshot_of, least_free, open_count}

-- ---- the least number that is free

pub free-within : (places : List (Option ℕ)) → least_free places ≤ length places
free-within [] = omega arith
free-within (None ∷ places) = omega arith
free-within (Some s ∷ places) = let rest = free-within places in omega arith

pub free-fresh : (places : List (Option ℕ)) → snapshot_of (least_free places) places ≡ None
free-fresh [] = refl
free-fresh (None ∷ places) = refl
free-fresh (Some s ∷ places) = free-fresh places

pub taken-below : (places : List (Option ℕ)) (place : ℕ) → is_some (snapshot_of place places) ≡ true → place ≤ least_free places → place + 1 ≤ least_free places
taken-below [] place taken low = cc
taken-below (None ∷ places) zero taken low = cc
taken-below (None ∷ places) (suc place) taken low = omega arith
taken-below (Some s ∷ places) zero taken low = omega arith
taken-below (Some s ∷ places) (suc place) taken low = let rest = taken-below places place taken (omega arith) in omega arith

pub free-is : (places : List (Option ℕ)) (place : ℕ) → is_some (snapshot_of place places) ≡ false → place ≤ least_free places → place ≡ least_free places
free-is [] place free low = omega arith
free-is (None ∷ places) place free low = omega arith
free-is (Some s ∷ places) zero free low = cc
free-is (Some s ∷ places) (suc place) free low = let rest = free-is places place free (omega arith) in omega arith

-- ---- one more is open, or one less

pub set-below : (places : List (Option ℕ)) (place snapshot : ℕ) → place ≡ least_free places → place < length places
    → place + 1 ≤ least_free (slice_set places place (Some snapshot))
set-below [] place snapshot least low = absurd (omega arith)
set-below (None ∷ places) zero snapshot least low = omega arith
set-below (None ∷ places) (suc place) snapshot least low = absurd (omega arith)
set-below (Some s ∷ places) zero snapshot least low = omega arith
set-below (Some s ∷ places) (suc place) snapshot least low = let rest = set-below places place snapshot (omega arith) (omega arith) in omega arith

pub pushed-below : (places : List (Option ℕ)) (place snapshot : ℕ) → place ≡ least_free places → length places ≤ place
    → place + 1 ≤ least_free (places ++ Some snapshot ∷ [])
pushed-below [] place snapshot least full = omega arith
pushed-below (None ∷ places) place snapshot least full = absurd (omega arith)
pushed-below (Some s ∷ places) zero snapshot least full = omega arith
pushed-below (Some s ∷ places) (suc place) snapshot least full = let rest = pushed-below places place snapshot (omega arith) (omega arith) in omega arith

pub closed-below : (places : List (Option ℕ)) (place n : ℕ) → n ≤ least_free places → n ≤ place → n ≤ least_free (slice_set places place None)
closed-below [] place n low least = low
closed-below (p ∷ places) zero n low least = least
closed-below (None ∷ places) (suc place) n low least = low
closed-below (Some s ∷ places) (suc place) zero low least = omega arith
closed-below (Some s ∷ places) (suc place) (suc n) low least = let rest = closed-below places place n (omega arith) (omega arith) in omega arith

-- a table with no free place has as many as are open
pub pushed-count : (places : List (Option ℕ)) (snapshot : ℕ) → length places ≤ least_free places → open_count (places ++ Some snapshot ∷ []) ≡ length places + 1
pushed-count [] snapshot full = refl
pushed-count (None ∷ places) snapshot full = absurd (omega arith)
pushed-count (Some s ∷ places) snapshot full = let rest = pushed-count places snapshot (omega arith) in omega arith

-- What holds of headers.
use Rattle.std.specs.Prelude.{◌≡◌, ℕ, ◌+◌, ◌<◌, List, [], ◌∷◌, ◌++◌, length, take, drop, if◌then◌else◌, slice_index}
use Rattle.byteorder.specs.Endian.{little_number}
use Rattle.log_roots.specs.declared.roots.Roots.{Roots}
use Rattle.log_roots.specs.Roots.{is_open, IsRoots, HasRoots, other_place}

-- bytes are at most one header
abbrev pub OneReading : Type 0
OneReading = (bytes : List ℕ) (a b : Roots) → HasRoots bytes a → HasRoots bytes b → a ≡ b

-- the same roots with another number in the place of the one that does not count
abbrev pub with_other : Roots → ℕ → Roots
with_other r root =
    record { extents = r.extents; turned = r.turned; root_0 = if r.turned then root else r.root_0; root_1 = if r.turned then r.root_1 else root }

-- the same roots with the turn gate open or closed
abbrev pub with_turn : Roots → ℕ → Roots
with_turn r gate = record { extents = r.extents; turned = is_open gate; root_0 = r.root_0; root_1 = r.root_1 }

-- the bytes with some others from a place on
abbrev pub put_at : ℕ → List ℕ → List ℕ → List ℕ
put_at place part bytes = take place bytes ++ part ++ drop (place + length part) bytes

-- any four bytes in the place of the other root leave the rest as it is
abbrev pub OtherIsFree : Type 0
OtherIsFree = (bytes four : List ℕ) (r : Roots) → HasRoots bytes r → length four ≡ 4 → ((k : ℕ) → slice_index four k < 256)
    → HasRoots (put_at (other_place r) four bytes) (with_other r (little_number 4 four))

-- any byte in the place of the turn gate leaves the rest as it is
abbrev pub TurnIsFree : Type 0
TurnIsFree =
    (bytes : List ℕ) (gate : ℕ) (r : Roots) → HasRoots bytes r → gate < 256 → IsRoots (with_turn r gate)
    → HasRoots (put_at 16 (gate ∷ []) bytes) (with_turn r gate)

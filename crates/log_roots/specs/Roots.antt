-- The header of a store whose log lies in the heap: the first 512 bytes of its status area.
use Rattle.std.specs.Prelude.{◌≡◌, ℕ, ◌%◌, ◌^◌, ◌<◌, ◌≤◌, ◌==◌, Bool, if◌then◌else◌, List, ◌∷◌, ◌++◌, drop, replicate, slice_index}
use Rattle.byteorder.specs.Endian.{little_number}
use Rattle.wire.specs.Numbers.{u32_bytes}
use Rattle.status.specs.Header.{header_front}
use Rattle.log_roots.specs.declared.roots.Roots.{Roots}

-- how many extents a heap may have
pub record IsHeapSize (extents : ℕ) : Type 0 where
  pub least : 64 ≤ extents
  pub most : extents ≤ 1048576
  pub whole : extents % 16 ≡ 0

-- the root that counts
abbrev pub root_of : Roots → ℕ
root_of r = if r.turned then r.root_1 else r.root_0

-- the other one
abbrev pub other_of : Roots → ℕ
other_of r = if r.turned then r.root_0 else r.root_1

-- where the other one stands
abbrev pub other_place : Roots → ℕ
other_place r = if r.turned then 20 else 24

-- the root that counts is an extent of the heap, and the other one is a number of four bytes
pub record IsRoots (r : Roots) : Type 0 where
  pub size : IsHeapSize r.extents
  pub root_low : 0 < root_of r
  pub root_high : root_of r ≤ r.extents
  pub fits_0 : r.root_0 < 2 ^ 32
  pub fits_1 : r.root_1 < 2 ^ 32

-- ---- the bytes

-- the header with this turn gate
unfoldable pub roots_bytes : ℕ → Roots → List ℕ
roots_bytes gate r = header_front 4 r.extents ++ gate ∷ 0 ∷ 0 ∷ 0 ∷ (u32_bytes r.root_0 ++ u32_bytes r.root_1 ++ replicate 484 0)

-- a gate is open at one value alone
abbrev pub is_open : ℕ → Bool
is_open gate = gate == 0xC7

-- the gate that is written
abbrev pub turn_gate : Bool → ℕ
turn_gate turned = if turned then 0xC7 else 0

-- The bytes are the header of these roots. A closed turn gate may have any value but that of an open one.
pub record HasRoots (bytes : List ℕ) (r : Roots) : Type 0 where
  pub gate : ℕ
  pub gate_fits : gate < 256
  pub turned : r.turned ≡ is_open gate
  pub in_range : IsRoots r
  pub bytes_are : bytes ≡ roots_bytes gate r

-- what stands at the places of a header, whatever that is
unfoldable pub roots_at : List ℕ → Roots
roots_at bytes = record {
  extents = little_number 4 (drop 12 bytes);
  turned = is_open (slice_index bytes 16);
  root_0 = little_number 4 (drop 20 bytes);
  root_1 = little_number 4 (drop 24 bytes);
}

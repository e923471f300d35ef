-- The header of a status area: what its first 512 bytes say.
use Rattle.std.specs.Prelude.{◌≡◌, ◌≢◌, ℕ, ◌+◌, ◌*◌, ◌<◌, ◌≤◌, ◌==◌, if◌then◌else◌, List, take, drop, ◌++◌, slice_index, codes}
use Rattle.byteorder.specs.Endian.{little_number, little_bytes}
use Rattle.law_image.specs.StandsFor.{IsHeader}
use Rattle.status.specs.declared.header.Header.{Header}

-- the slots of a store: those that it was made with, and 256 for each open piece
abbrev pub total : Header → ℕ
total h = h.slots + 256 * h.pieces

-- the gate of a piece
abbrev pub piece_gate : List ℕ → ℕ → ℕ
piece_gate front i = slice_index front (16 + i)

-- the place from which on the header is zeros: profile 1 has no pieces, the others have 255
abbrev pub zeros_from : ℕ → ℕ
zeros_from profile = if profile == 1 then 16 else 271

-- the numbers are those of a header
abbrev pub HasNumbers : Header → Type 0
HasNumbers h = IsHeader h.profile h.slots h.pieces

-- 512 bytes have these numbers at their places
pub record Says (h : Header) (front : List ℕ) : Type 0 where
  pub profile : little_number 4 (drop 8 front) ≡ h.profile
  pub slots : little_number 4 (drop 12 front) ≡ h.slots
  -- the open pieces are the longest run of open gates
  pub few_pieces : h.pieces ≤ 255
  pub open_pieces : (i : ℕ) → i < h.pieces → piece_gate front i ≡ 0xC7
  pub next_piece : h.pieces < 255 → piece_gate front h.pieces ≢ 0xC7

-- and so they are a header
pub record IsFront (h : Header) (front : List ℕ) : Type 0 where
  pub numbers : HasNumbers h
  pub name : take 8 front ≡ codes "NOOVER01"
  pub says : Says h front
  pub zeros : (k : ℕ) → zeros_from h.profile ≤ k → k < 512 → slice_index front k ≡ 0

-- that of a new store
abbrev pub new_header : ℕ → ℕ → Header
new_header profile slots = record { profile = profile; slots = slots; pieces = 0 }

-- what stands before its gates
abbrev pub header_front : ℕ → ℕ → List ℕ
header_front profile slots = codes "NOOVER01" ++ (little_bytes 4 profile ++ little_bytes 4 slots)

-- Extents of the heap whose chains' bytes run on from extent to extent.
use Rattle.std.specs.Prelude.{ℕ, ◌-◌, ◌<◌, ◌≤◌, List, ◌∷◌, ◌++◌, length, replicate}
use Rattle.wire.specs.Numbers.{u32_bytes}
use Rattle.log_extents.specs.declared.extent.LinkedRef.{LinkedRef}

-- An extent of a chain: its gate, its number, that of the next one of its chain or 0, the head of the chain that follows or 0, and
-- its part of the chain's bytes.
pub record LinkedExtent : Type 0 where
  pub gate : ℕ
  pub number : ℕ
  pub next : ℕ
  pub link : ℕ
  pub body : List ℕ

-- the 8,192 bytes of an extent
unfoldable pub linked_bytes : LinkedExtent → List ℕ
linked_bytes e =
    e.gate ∷ 0 ∷ 0 ∷ 0 ∷ (u32_bytes e.number ++ u32_bytes e.next ++ u32_bytes (length e.body) ++ u32_bytes e.link ++ u32_bytes 0 ++ e.body
    ++ replicate (8168 - length e.body) 0)

-- each number is in its range, in a heap of so many extents
pub record IsLinked (most : ℕ) (e : LinkedExtent) : Type 0 where
  pub gate : e.gate < 256
  pub number_low : 0 < e.number
  pub number_high : e.number ≤ most
  pub next : e.next ≤ most
  pub link : e.link ≤ most
  pub some : 0 < length e.body
  pub fits : length e.body ≤ 8168

-- what the loan shows
abbrev pub extent_of : LinkedRef → LinkedExtent
extent_of r = record { gate = r.gate; number = r.number; next = r.next; link = r.link; body = r.body.now }

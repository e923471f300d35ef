-- A walk over extents, each of which names the next one.
use Rattle.std.specs.Prelude.{ℕ, zero, suc, ◌+◌, ◌*◌, ◌≤◌, List, [], ◌∷◌, slice_range}
use Rattle.deltas.specs.Reading.{next_of}
use Rattle.law_layout.specs.Extents.{extent_start}
use Rattle.extents.specs.declared.usage.Usage.{Usage}
use Rattle.extents.specs.declared.usage.Usage.TheVariants.{Kept}
use Rattle.extents.specs.Usages.{IsFree, with_usage}

-- the bytes of an extent
unfoldable pub extent_at : List ℕ → ℕ → List ℕ
extent_at heap number = slice_range heap (extent_start number) (extent_start number + 8192)

-- this many extents from the first one on, each named by the one before it
abbrev pub numbers_at : List ℕ → ℕ → ℕ → List ℕ
numbers_at heap first zero = []
numbers_at heap first (suc n) = first ∷ numbers_at heap (next_of (extent_at heap first)) n

-- an extent of this number lies in a heap of this length
pub record IsThere (heap_len number : ℕ) : Type 0 where
  pub low : 1 ≤ number
  pub high : number ≤ 65536
  pub inside : number * 8192 ≤ heap_len

-- the map with these extents kept
abbrev pub claimed : List Usage → List ℕ → List Usage
claimed usages [] = usages
claimed usages (n ∷ ns) = claimed (with_usage usages n Kept) ns

-- each of these lies in the heap and is free, one after another
abbrev pub AreClaimable : ℕ → List Usage → List ℕ → Type 0
AreClaimable heap_len usages [] = Unit {0}
AreClaimable heap_len usages (n ∷ ns) = IsThere heap_len n × IsFree usages n × AreClaimable heap_len (with_usage usages n Kept) ns

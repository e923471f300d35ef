-- Extents, and chains of them.
use Rattle.std.specs.Prelude.{◌≡◌, ◌≢◌, ℕ, ◌-◌, ◌*◌, ◌<◌, ◌≤◌, List, [], ◌∷◌, ◌++◌, length, replicate, map}
use Rattle.std.specs.List.{AllByRecursion}
use Rattle.wire.specs.Numbers.{u32_bytes}
use Rattle.deltas.specs.Packing.{bodies}

-- an extent of a chain: its number, that of the next one or 0, and the bytes of its records
pub record Extent : Type 0 where
  pub number : ℕ
  pub next : ℕ
  pub body : List ℕ

-- the place of an extent
abbrev pub extent_start : ℕ → ℕ
extent_start number = 8192 * (number - 1)

-- the 8,192 bytes of an extent
unfoldable pub extent_bytes : Extent → List ℕ
extent_bytes e = u32_bytes e.number ++ u32_bytes e.next ++ u32_bytes (length e.body) ++ u32_bytes 0 ++ e.body ++ replicate (8176 - length e.body) 0

-- its number is one of the heap's, and it has bytes of records that fit it
pub record IsExtent (e : Extent) : Type 0 where
  pub low : 0 < e.number
  pub high : e.number ≤ 65536
  pub some : 0 < length e.body
  pub fits : length e.body ≤ 8176

-- ---- chains

-- the number of the first extent of a chain, 0 where there is none
abbrev pub first_of : List Extent → ℕ
first_of [] = 0
first_of (e ∷ es) = e.number

-- each extent names the one behind it
abbrev pub AreLinked : List Extent → Type 0
AreLinked [] = Unit {0}
AreLinked (e ∷ es) = (e.next ≡ first_of es) × AreLinked es

-- these extents, this many from this first one, are the chain of these records, each as its bytes
pub record IsChain (first extents records : ℕ) (chain : List Extent) (list : List (List ℕ)) : Type 0 where
  pub first_is : first_of chain ≡ first
  pub extents_are : length chain ≡ extents
  pub records_are : length list ≡ records
  pub linked : AreLinked chain
  pub each : AllByRecursion IsExtent chain
  pub bodies_are : map (λ e. e.body) chain ≡ bodies list

-- no two of these have one number
abbrev pub AreDistinct : List Extent → Type 0
AreDistinct [] = Unit {0}
AreDistinct (e ∷ es) = AllByRecursion (λ f. e.number ≢ f.number) es × AreDistinct es

-- What the heap's bytes hold of extents and of chains of them.
use Rattle.std.specs.Prelude.{ℕ, List}
use Rattle.std.specs.List.{AllByRecursion}
use Rattle.disk.specs.Areas.{AreaState}
use Rattle.disk.specs.Parts.{HoldsPart, KeepsPart}
pub use Rattle.deltas.specs.Packing.{bodies_from, bodies}
pub use Rattle.deltas.specs.Extents.{Extent, extent_start, IsExtent, first_of, AreLinked, IsChain, AreDistinct}
unfoldable pub use Rattle.deltas.specs.Extents.{extent_bytes}

-- the heap's bytes hold the extent
abbrev pub HoldsExtent : List ℕ → Extent → Type 0
HoldsExtent heap e = HoldsPart (extent_start e.number) (extent_bytes e) heap

-- whatever a stop may leave of the heap holds it
abbrev pub KeepsExtent : AreaState → Extent → Type 0
KeepsExtent a e = KeepsPart (extent_start e.number) (extent_bytes e) a

-- the heap's bytes hold the chain of these records
pub record HoldsChain (heap : List ℕ) (first extents records : ℕ) (list : List (List ℕ)) : Type 0 where
  pub chain : List Extent
  pub is_chain : IsChain first extents records chain list
  pub held : AllByRecursion (HoldsExtent heap) chain

-- What bytes hold is one.
use Rattle.std.specs.Prelude.{◌≡◌, ℕ, ◌<◌, List}
use Rattle.std.specs.List.{AllByRecursion}
use Rattle.wire.specs.declared.slot.Slot.{Slot}
use Rattle.status.specs.Log.{body_at, IsOpen, IsLog}
use Rattle.wire.specs.Spelling.{IsSpelled}
use Rattle.disk.specs.Areas.{Image}
use Rattle.history.specs.Histories.{History}
use Rattle.law_image.specs.Values.{Value}
use Rattle.law_layout.specs.Layouts.{ImageStandsFor}
use Rattle.law_layout.specs.Extents.{Extent, IsChain, HoldsExtent}
use Rattle.status.specs.declared.header.Header.{Header}
use Rattle.status.specs.Header.{total}

-- a slot names one chain of extents in a heap
abbrev pub OneChain : Type 0
OneChain = (heap : List ℕ) (first extents records records' : ℕ) (a b : List Extent) (list list' : List (List ℕ))
    → IsChain first extents records a list → IsChain first extents records' b list' → AllByRecursion (HoldsExtent heap) a → AllByRecursion (HoldsExtent heap) b
    → a ≡ b

-- a status area is one log
abbrev pub OneLog : Type 0
OneLog = (header : Header) (bytes : List ℕ) (a b : List Slot) → IsLog header bytes a → IsLog header bytes b → a ≡ b

-- an open gate before bytes that are no slot: such an image stands for nothing
abbrev pub TornIsNone : Type 0
TornIsNone =
    (header : Header) (n : ℕ) (image : Image) (h : History Value) (floors : ℕ → ℕ) → n < total header → IsOpen image.status n
    → ((slot : Slot) → ¬ IsSpelled header.profile n (body_at image.status n) slot)
    → ¬ ImageStandsFor header image h floors

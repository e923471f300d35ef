-- A chain as it stands in the heap, and which of its extents are taken.
use Rattle.std.specs.Prelude.{ℕ, ◌≡◌, ◌-◌, ◌++◌, Bool, true, List, [], ◌∷◌, length, map}
use Rattle.disk.specs.Parts.{HoldsPart}
use Rattle.deltas.specs.Extents.{extent_start}
use Rattle.log_extents.specs.Extents.{linked_bytes}
use Rattle.log_extents.specs.Chains.{chain_of}
use Rattle.log_extents.specs.Taking.{ChainState, gate_of, IsChainFrom}
use Rattle.log_extents.specs.declared.chain_reader.ChainKind.{ChainKind}
use Rattle.log_extents.specs.declared.chain_reader.ChainParts.{ChainParts}
use Rattle.log_space.specs.Uses.{IsFree, with_use, all_used, used_count}

-- the images that a chain of this kind has
abbrev pub images_of_chain : ChainKind → List ℕ → ℕ → List ℕ → List (List ℕ)
images_of_chain kind numbers link content = map linked_bytes (chain_of (gate_of kind) link numbers content)

-- the heap has these images in the extents of these numbers
abbrev pub HoldsImages : List ℕ → List ℕ → List (List ℕ) → Type 0
HoldsImages heap [] [] = Unit {0}
HoldsImages heap [] (image ∷ images) = ⊥
HoldsImages heap (n ∷ ns) [] = ⊥
HoldsImages heap (n ∷ ns) (image ∷ images) = HoldsPart (extent_start n) image heap × HoldsImages heap ns images

-- the heap has this chain
pub record IsHeldChain (kind : ChainKind) (most number : ℕ) (heap : List ℕ) (numbers : List ℕ) (link : ℕ) (content : List ℕ) : Type 0 where
  pub chain : IsChainFrom kind most number numbers link content (images_of_chain kind numbers link content)
  pub held : HoldsImages heap numbers (images_of_chain kind numbers link content)

-- each of these extents is free, one after the other taken
abbrev pub AreClaimable : List Bool → List ℕ → Type 0
AreClaimable flags [] = Unit {0}
AreClaimable flags (n ∷ ns) = IsFree flags n × AreClaimable (with_use flags n true) ns

-- how many extents are free
abbrev pub free_left : List Bool → ℕ
free_left flags = length flags - used_count flags

-- a chain of this kind begins at this extent, its extents were free, and they are taken now
pub record IsTakenChain (kind : ChainKind) (most number : ℕ) (heap : List ℕ) (old new : List Bool) (parts : ChainParts) : Type 0 where
  pub held : IsHeldChain kind most number heap parts.numbers.items parts.link parts.content.items
  pub free : AreClaimable old parts.numbers.items
  pub taken : new ≡ all_used old parts.numbers.items

-- none does
abbrev pub HasNoChain : ChainKind → ℕ → ℕ → List ℕ → List Bool → Type 0
HasNoChain kind most number heap flags =
    (numbers : List ℕ) (link : ℕ) (content : List ℕ) → IsHeldChain kind most number heap numbers link content → ¬ AreClaimable flags numbers

-- What was read of a chain.
use Rattle.std.specs.Prelude.{◌≡◌, ℕ, List, map}
use Rattle.extents.specs.declared.usage.Usage.{Usage}
use Rattle.recovery.specs.declared.chain.ReadChain.{ReadChain}
use Rattle.recovery.specs.Walk.{extent_at, numbers_at, claimed, AreClaimable}

-- the extents that this many steps from the first one lead to, each in the heap and free before, and now kept
pub record IsReadChain (heap : List ℕ) (heap_len : ℕ) (old : List Usage) (first count : ℕ) (new : List Usage) (chain : ReadChain) : Type 0 where
  pub numbers : chain.numbers.items ≡ numbers_at heap first count
  pub images : chain.images.items ≡ map (extent_at heap) (numbers_at heap first count)
  pub claimable : AreClaimable heap_len old (numbers_at heap first count)
  pub kept : new ≡ claimed old (numbers_at heap first count)

-- The chains of the log as opening reads them: one behind the other, from the root on.
use Rattle.std.specs.Prelude.{ℕ, ◌≡◌, Bool, false, List, [], ◌∷◌, ◌++◌, map, flat_map, replicate}
use Rattle.std.specs.List.{AllByRecursion}
use Rattle.disk.specs.Parts.{HoldsPart}
use Rattle.deltas.specs.Extents.{extent_start}
use Rattle.log_extents.specs.Chains.{first_or, AreDistinct}
use Rattle.log_entries.specs.Ranges.{IsEntry}
use Rattle.log_writer.specs.Turns.{open_gate, extent_part}
use Rattle.log_space.specs.Uses.{all_used}
use Rattle.law_log_layout.specs.Turns.{HoldsAll}
use Rattle.law_log_layout.specs.HeapLog.{PlacedChain, extents_of, IsPlaced}
use Rattle.log_recovery.specs.Taking.{AreClaimable}

-- an open gate stands in the first byte of this extent
abbrev pub HasOpenGate : List ℕ → ℕ → Type 0
HasOpenGate heap number = HoldsPart (extent_start number) (open_gate ∷ []) heap

-- The chain is right: it begins at this extent, the heap holds it, and no extent of it is taken or there twice.
pub record IsRightChain (most : ℕ) (heap taken : List ℕ) (number : ℕ) (c : PlacedChain) : Type 0 where
  pub first : first_or 0 c.numbers ≡ number
  pub placed : IsPlaced most c
  pub apart : AreDistinct (taken ++ c.numbers)
  pub held : HoldsAll (map extent_part (extents_of c)) heap

-- the extents of chains
abbrev pub numbers_of : List PlacedChain → List ℕ
numbers_of chains = flat_map (λ (c : PlacedChain). c.numbers) chains

-- right chains, one behind the other, from an extent up to this one
abbrev pub AreWalked : ℕ → List ℕ → List ℕ → ℕ → List PlacedChain → ℕ → Type 0
AreWalked most heap taken number [] end = number ≡ end
AreWalked most heap taken number (c ∷ chains) end = IsRightChain most heap taken number c × AreWalked most heap (taken ++ c.numbers) c.link chains end

-- these are the chains of the log from the root on: behind the last one stands no open gate
pub record HoldsChains (most root : ℕ) (heap : List ℕ) (chains : List PlacedChain) (next : ℕ) : Type 0 where
  pub walked : AreWalked most heap [] root chains next
  pub ends : ¬ HasOpenGate heap next

-- Some chains are right, and behind them an open gate stands in an extent where no right chain begins.
pub record FailsChain (most root : ℕ) (heap : List ℕ) (place : ℕ) : Type 0 where
  pub front : List PlacedChain
  pub walked : AreWalked most heap [] root front place
  pub opened : HasOpenGate heap place
  pub none : (c : PlacedChain) → ¬ IsRightChain most heap (numbers_of front) place c

-- what the chain says is in its ranges
abbrev pub HasEntry : ℕ → PlacedChain → Type 0
HasEntry most c = IsEntry most c.entry

-- ---- one chain

-- the heap has this chain of the log, which begins at this extent; whether its extents are taken is not said
pub record IsLogChain (most : ℕ) (heap : List ℕ) (number : ℕ) (c : PlacedChain) : Type 0 where
  pub first : first_or 0 c.numbers ≡ number
  pub placed : IsPlaced most c
  pub distinct : AreDistinct c.numbers
  pub held : HoldsAll (map extent_part (extents_of c)) heap

-- so it is, its extents were free, and they are taken now
pub record TakesChain (most : ℕ) (heap : List ℕ) (number : ℕ) (old new : List Bool) (c : PlacedChain) : Type 0 where
  pub is : IsLogChain most heap number c
  pub free : AreClaimable old c.numbers
  pub taken : new ≡ all_used old c.numbers

-- no such chain has free extents alone
abbrev pub HasNoLogChain : ℕ → List ℕ → ℕ → List Bool → Type 0
HasNoLogChain most heap number flags = (c : PlacedChain) → IsLogChain most heap number c → ¬ AreClaimable flags c.numbers

-- ---- all chains

-- the extents of these chains are taken, of a heap of so many, and no others
abbrev pub uses_of : ℕ → List PlacedChain → List Bool
uses_of most chains = all_used (replicate most false) (numbers_of chains)

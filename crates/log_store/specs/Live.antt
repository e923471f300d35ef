-- The chains of the log as a store keeps them in memory.
use Rattle.std.specs.Prelude.{ℕ, ◌≡◌, ◌^◌, Bool, true, false, List, [], ◌∷◌, ◌++◌, drop}
use Rattle.std.specs.List.{AllByRecursion}
use Rattle.log_extents.specs.Chains.{IsNumberOf}
use Rattle.log_recovery.specs.Live.{LiveChainValue}
use Rattle.log_recovery.specs.declared.live.LivePart.{LivePart}
use Rattle.log_recovery.specs.declared.live.LivePart.TheVariants.{Commits, Archived, Floor, Base}

-- All chains of the log in their order, the base first if there is one. While a group or an entry is in the writing its chain is the last one.
pub record LiveValue : Type 0 where
  pub chains : List LiveChainValue
  -- the extents of the anchors that stand
  pub anchors : List ℕ

-- the same in memory, where so many chains more have a place
pub record LivePlaces : Type 0 where
  pub live : LiveValue
  pub spare : ℕ

-- what is in memory of them
abbrev pub live_value : LivePlaces → LiveValue
live_value places = places.live

-- there are none
abbrev pub none_live : LiveValue
none_live = record { chains = []; anchors = [] }

-- one chain more behind them
abbrev pub with_live : LiveValue → List ℕ → LivePart → LiveValue
with_live live numbers part = record live { chains = live.chains ++ record { numbers = numbers; part = part } ∷ [] }

-- ---- what always holds of them

-- a base
abbrev pub is_base : LivePart → Bool
is_base (Commits time) = false
is_base (Archived archive) = false
is_base (Floor floor) = false
is_base (Base base) = true

-- the first chain is one
abbrev pub begins_with_base : List LiveChainValue → Bool
begins_with_base [] = false
begins_with_base (c ∷ cs) = is_base c.part

abbrev pub IsNoBase : LiveChainValue → Type 0
IsNoBase c = is_base c.part ≡ false

-- extents of a heap
abbrev pub AreNumbers : List ℕ → Type 0
AreNumbers numbers = AllByRecursion (IsNumberOf (2 ^ 20)) numbers

abbrev pub HasNumbers : LiveChainValue → Type 0
HasNumbers c = AreNumbers c.numbers

-- all extents are those of a heap, and no chain but the first is a base
pub record AreLive (live : LiveValue) : Type 0 where
  pub numbers : AllByRecursion HasNumbers live.chains
  pub behind : AllByRecursion IsNoBase (drop 1 live.chains)
  pub anchors : AreNumbers live.anchors

-- Of which layout a store is, as far as its answers tell.
use Rattle.std.specs.Prelude.{ℕ, ◌≡◌, Bool, true, false}
use Rattle.any_store.specs.declared.engine.Engine.TheVariants.{Slots, Log}
use Rattle.any_store.specs.declared.formatting.Layout.{Layout}
use Rattle.any_store.specs.declared.formatting.Layout.TheVariants as layouts
use Rattle.any_store.specs.Values.{StoreValue, is_log}
use Rattle.law_any_store.specs.Names as memory

-- whether its log lies in the heap, and the time up to which names of commits may have left memory, which is 0 where the log is slots
pub record Kind : Type 0 where
  pub in_heap : Bool
  pub names_from : ℕ

-- that of a store
abbrev pub kind_of : StoreValue → Kind
kind_of v = record { in_heap = is_log v; names_from = memory.names_from v }

-- that of a store whose log is slots
abbrev pub of_slots : Kind
of_slots = record { in_heap = false; names_from = 0 }

-- that of a new store
abbrev pub kind_as : Layout → Kind
kind_as (layouts.Slots slots) = of_slots
kind_as (layouts.Log extents) = record { in_heap = true; names_from = 0 }

-- a store has the size of a new one of this layout: so many slots, or so many extents
abbrev pub HasSize : Layout → StoreValue → Type 0
HasSize (layouts.Slots slots) (Slots s) = s.log.slots ≡ slots
HasSize (layouts.Slots slots) (Log l) = ⊥
HasSize (layouts.Log extents) (Slots s) = ⊥
HasSize (layouts.Log extents) (Log l) = l.roots.extents ≡ extents

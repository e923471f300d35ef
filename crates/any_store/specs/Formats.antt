-- What a format of either layout leaves.
use Rattle.std.specs.Prelude.{ℕ, ◌≡◌, ◌⊎◌, Bool, List}
use Rattle.disk.specs.Areas.{Areas}
use Rattle.disk.specs.Calls.{DiskState}
use Rattle.recovery.specs.Format as slot_formats
use Rattle.recovery.specs.declared.fault.FormatFault.{FormatFault}
use Rattle.log_roots.specs.Roots.{IsHeapSize}
use Rattle.log_store.specs.Formats as log_formats
use Rattle.any_store.specs.declared.formatting.Layout.{Layout}
use Rattle.any_store.specs.declared.formatting.Layout.TheVariants.{Slots, Log}

-- a store may be formatted with this size
abbrev pub IsSize : Layout → Type 0
IsSize (Slots slots) = slot_formats.IsSlotCount slots
IsSize (Log extents) = IsHeapSize extents

-- the header of a store of either layout stands in front of the status area
abbrev pub HasStore : List ℕ → Type 0
HasStore status = slot_formats.IsOccupied status ⊎ log_formats.HasLogHeader status

-- A format of this layout finds a header there. That of a log also finds one of slots for which the area has no room.
abbrev pub IsOccupied : Layout → List ℕ → Type 0
IsOccupied (Slots slots) status = HasStore status
IsOccupied (Log extents) status = log_formats.IsOccupied status

-- the first extent is zeros and the header is that of a new store, in a heap of a size that one may have
pub record IsLogFormatted (extents : ℕ) (old new : Areas) : Type 0 where
  pub size : IsHeapSize extents
  pub new_is : new ≡ log_formats.formatted extents old

-- the disk is that of a new store
abbrev pub IsFormatted : Layout → Areas → Areas → Type 0
IsFormatted (Slots slots) old new = slot_formats.IsFormatted slots old new
IsFormatted (Log extents) old new = IsLogFormatted extents old new

-- what a refused format leaves: all refusals but the device's come before the first write
abbrev pub FormatRefuses : Bool → Layout → DiskState → FormatFault → DiskState → Type 0
FormatRefuses tells (Slots slots) old fault new = slot_formats.FormatRefuses tells slots old fault new
FormatRefuses tells (Log extents) old fault new = log_formats.FormatRefuses tells old fault new

-- What formatting makes of the status area.
use Rattle.std.specs.Prelude.{◌≡◌, ◌⊎◌, ℕ, ◌+◌, ◌<◌, ◌≤◌, List, [], length, slice_index, Bool, IsTrue, Result, Ok, Err}
use Rattle.disk.specs.Areas.{AreaState, Areas, MayLeave, IsUntouched}
use Rattle.disk.specs.Parts.{IsSettled}
use Rattle.disk.specs.Calls.{DiskState, counted, top}
use Rattle.status.specs.Header.{new_header}
use Rattle.status.specs.Log.{slot_start, IsOpen, IsLog}
use Rattle.status.specs.Reading.{ReadsHeader}
use Rattle.status.specs.declared.header.Header.{Header}
use Rattle.recovery.specs.declared.fault.FormatFault.{FormatFault}
use Rattle.recovery.specs.declared.fault.FormatFault.TheVariants as faults

-- a store may be formatted with this many slots
abbrev pub IsSlotCount : ℕ → Type 0
IsSlotCount slots = (16 ≤ slots) × (slots ≤ 65536)

-- the refusals counted after this answer
abbrev pub refusals_after : {T : Type 0} → Result T FormatFault → ℕ → ℕ
refusals_after (Ok x) n = n
refusals_after (Err faults.BadSlots) n = n
refusals_after (Err faults.Occupied) n = n
refusals_after (Err faults.Device) n = counted n
refusals_after (Err faults.NoMemory) n = n

-- nothing was written before a place
pub record KeepsBefore (from : ℕ) (old new : AreaState) : Type 0 where
  pub firm : new.firm ≡ old.firm
  pub no_shorter : length old.bytes ≤ length new.bytes
  pub same : (k : ℕ) → k < from → k < length old.bytes → slice_index new.bytes k ≡ slice_index old.bytes k
  pub untouched : (k : ℕ) → k < from → IsUntouched k (k + 1) old.loose → IsUntouched k (k + 1) new.loose

-- zeros were written from a place up to another, and nothing before it
pub record IsZeroed (from upto : ℕ) (old new : AreaState) : Type 0 where
  pub before : KeepsBefore from old new
  pub long : from < upto → upto ≤ length new.bytes
  pub zeros : (k : ℕ) → from ≤ k → k < upto → slice_index new.bytes k ≡ 0

-- of the first 512 bytes a stop leaves what was on the disk before
pub record KeepsFront (old new : AreaState) : Type 0 where
  pub left : (content : List ℕ) (k : ℕ) → MayLeave new content → k < 512 → k < old.firm → IsUntouched k (k + 1) old.loose → slice_index content k
      ≡ slice_index old.bytes k

-- a stop leaves all of these slots closed
pub record LeavesShut (slots : ℕ) (a : AreaState) : Type 0 where
  pub left : (content : List ℕ) (n : ℕ) → MayLeave a content → n < slots → ¬ IsOpen content n

-- all slots are zeros on the disk, and the other areas are as they were
pub record HasZeroSlots (slots : ℕ) (old new : Areas) : Type 0 where
  pub others : new ≡ record old { status = new.status }
  pub settled : IsSettled new.status
  pub room : slot_start slots ≤ length new.status.bytes
  pub zeros : (k : ℕ) → 512 ≤ k → k < slot_start slots → slice_index new.status.bytes k ≡ 0

-- A stop within a format leaves the front as it was, or all slots closed: so a header never stands before slots that are not closed.
abbrev pub StopsShut : ℕ → AreaState → AreaState → Type 0
StopsShut slots old new = KeepsFront old new ⊎ LeavesShut slots new

-- The status area is a log without slots, all of it on the disk, and the other areas are as they were.
pub record IsFormatted (slots : ℕ) (old new : Areas) : Type 0 where
  pub others : new ≡ record old { status = new.status }
  pub settled : IsSettled new.status
  pub log : IsLog (new_header 3 slots) new.status.bytes []

-- a header stands in front of the area
pub record IsOccupied (bytes : List ℕ) : Type 0 where
  pub header : Header
  pub reads : ReadsHeader bytes header

-- the answers where a header stands there already
abbrev pub IsTakenAnswer : {T : Type 0} → Result T FormatFault → Type 0
IsTakenAnswer (Ok x) = ⊥
IsTakenAnswer (Err faults.BadSlots) = Unit {0}
IsTakenAnswer (Err faults.Occupied) = Unit {0}
IsTakenAnswer (Err faults.Device) = Unit {0}
IsTakenAnswer (Err faults.NoMemory) = ⊥

-- As long as no write or sync is counted, nothing has changed. No disk counts beyond the top.
pub record CountsFirst (old new : DiskState) : Type 0 where
  pub high : old.made ≤ top → new.made ≤ top
  pub no_fewer : old.made ≤ top → old.made ≤ new.made
  pub same : old.made ≤ top → new.made ≡ old.made → new.areas ≡ old.areas

-- What the device's refusal leaves: before the first write nothing has changed. From then on the heap and the archive are as they were, and the front of the
-- status area too, or all slots are closed. A later call goes by what the status area holds.
pub record LeavesOff (tells : Bool) (slots : ℕ) (old new : DiskState) : Type 0 where
  pub first : CountsFirst old new
  pub refused : new.refused ≡ counted old.refused
  pub others : IsTrue tells → new.areas ≡ record old.areas { status = new.areas.status }
  pub stop : IsTrue tells → StopsShut slots old.areas.status new.areas.status

-- what a refused format leaves; all other refusals come before the first write
abbrev pub FormatRefuses : Bool → ℕ → DiskState → FormatFault → DiskState → Type 0
FormatRefuses tells slots old faults.BadSlots new = new ≡ old
FormatRefuses tells slots old faults.Occupied new = new ≡ old
FormatRefuses tells slots old faults.Device new = LeavesOff tells slots old new
FormatRefuses tells slots old faults.NoMemory new = new ≡ old

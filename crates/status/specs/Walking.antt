-- The reading of slots, one after the other.
use Rattle.std.specs.Prelude.{◌≡◌, ◌≢◌, ◌<◌, ◌≤◌, ℕ, Bool, true, false, List, [], ◌∷◌, ◌++◌, length, drop, slice_index, Option, Result, Ok, Err}
use Rattle.wire.specs.Spelling.{IsSpelled}
use Rattle.wire.specs.declared.slot.Member.{Member}
use Rattle.wire.specs.declared.slot.Run.{Run}
use Rattle.wire.specs.declared.slot.Anchors.{Anchors}
use Rattle.wire.specs.declared.slot.Slot.{Slot}
use Rattle.floors.specs.Floors.{AreBelow}
use Rattle.law_image.specs.Log.{last_time, archive_mark, reclaim_mark}
use Rattle.status.specs.declared.header.Header.{Header}
use Rattle.status.specs.declared.fault.LogFault.{LogFault}
use Rattle.status.specs.declared.fault.LogFault.TheVariants.{NotAStore, Damaged, Device, NoMemory}
use Rattle.status.specs.Header.{total}
use Rattle.status.specs.declared.log_end.LogEnd.{LogEnd}
use Rattle.status.specs.Log.{IsOpen, OpensWith}
use Rattle.status.specs.Rules.{log_of, runs_of, row_end, MayFollow}
use Rattle.status.specs.Kept.{kept_of}
use Rattle.status.specs.Reading.{AreSlots, IsLogFault}

-- the first of these commits is later than a time
abbrev pub StartsAfter : ℕ → List Member → Type 0
StartsAfter time [] = ⊥
StartsAfter time (m ∷ ms) = time < m.time

-- the log of these slots ends here: the time of its last commit, its marks, its floors and the end of its last run
pub record EndsAt (slots : List Slot) (end : LogEnd) : Type 0 where
  pub last_is : end.last ≡ last_time (log_of slots)
  pub archived_is : end.archived ≡ archive_mark (log_of slots)
  pub reclaimed_is : end.reclaimed ≡ reclaim_mark (log_of slots)
  pub floors_are : end.floors ≡ kept_of (log_of slots)
  pub runs_end_is : end.runs_end ≡ row_end 0 (runs_of slots)

-- the run goes further than the archive mark, no further than the last commit, and starts where the last run ends
pub record IsNextRun (end : LogEnd) (run : Run) : Type 0 where
  pub later : end.archived < run.upto
  pub upto_last : run.upto ≤ end.last
  pub next : run.start ≡ end.runs_end

-- the reclaim goes to the archive mark, and the reclaim before it did not
pub record AreNextAnchors (end : LogEnd) (anchors : Anchors) : Type 0 where
  pub upto_mark : anchors.upto ≡ end.archived
  pub later : end.reclaimed < anchors.upto

-- the floor is greater than those before it that it covers, and no later than the last commit
pub record IsNextFloor (end : LogEnd) (scope : Option ℕ) (floor : ℕ) : Type 0 where
  pub later : AreBelow end.floors scope floor
  pub upto_last : floor ≤ end.last

-- these slots were read, and their log ends here
pub record IsWalk (profile : ℕ) (slots : List Slot) (end : LogEnd) : Type 0 where
  pub are_slots : AreSlots profile slots
  pub ends : EndsAt slots end

-- what 512 bytes add to the slots before them: nothing where their gate is closed, else the slot that they are
abbrev pub Takes : ℕ → List Slot → List ℕ → Bool → List Slot → Type 0
Takes profile before bytes false after = (slice_index bytes 0 ≢ 0xC7) × (after ≡ before)
Takes profile before bytes true after =
    (slice_index bytes 0 ≡ 0xC7) × ((slot : Slot) × IsSpelled profile (length before) (drop 1 bytes) slot × (after ≡ before ++ slot ∷ []))

-- why they add none
abbrev pub IsTakeFault : ℕ → List Slot → List ℕ → LogFault → Type 0
IsTakeFault profile before bytes NotAStore = ⊥
IsTakeFault profile before bytes (Damaged n) =
    (n ≡ length before) × (slice_index bytes 0 ≡ 0xC7) × ((slot : Slot) → IsSpelled profile n (drop 1 bytes) slot → ¬ MayFollow profile before slot)
IsTakeFault profile before bytes Device = ⊥
IsTakeFault profile before bytes NoMemory = Unit {0}

-- the area opens with these slots; the next gate is closed, if the reading does not go on
abbrev pub Goes : Header → List ℕ → Bool → List Slot → Type 0
Goes header bytes true slots = OpensWith header bytes slots
Goes header bytes false slots = OpensWith header bytes slots × ¬ IsOpen bytes (length slots)

-- so it is for an area that opens with the slots before
abbrev pub IsReadOn : Header → List ℕ → List Slot → Result Bool LogFault → List Slot → Type 0
IsReadOn header bytes before (Ok on) after = OpensWith header bytes before → Goes header bytes on after
IsReadOn header bytes before (Err fault) after = OpensWith header bytes before → IsLogFault header bytes fault

-- without the device only memory and a bad slot end the reading
abbrev pub IsWalkFault : LogFault → Type 0
IsWalkFault NotAStore = ⊥
IsWalkFault (Damaged n) = Unit {0}
IsWalkFault Device = ⊥
IsWalkFault NoMemory = Unit {0}

-- with it the device may refuse too
abbrev pub IsSlotsFault : LogFault → Type 0
IsSlotsFault NotAStore = ⊥
IsSlotsFault (Damaged n) = Unit {0}
IsSlotsFault Device = Unit {0}
IsSlotsFault NoMemory = Unit {0}

-- the area opens with these slots and no more, if it opens with the slots before
abbrev pub HasReadAll : Header → List ℕ → List Slot → Result (Unit {0}) LogFault → List Slot → Type 0
HasReadAll header bytes before (Ok x) after =
    OpensWith header bytes before → OpensWith header bytes after × (length after < total header → ¬ IsOpen bytes (length after))
HasReadAll header bytes before (Err fault) after = OpensWith header bytes before → IsLogFault header bytes fault

-- Laws of logs.
use Rattle.std.specs.Prelude.{ℕ, ◌≡◌, ◌<◌, List, length}
use Rattle.disk.specs.Parts.{Agrees}
use Rattle.floors.specs.Floors.{FloorsValue, floor_at}
use Rattle.law_image.specs.Reading as readings
use Rattle.law_image.specs.Log.{floors_after}
use Rattle.wire.specs.Spelling.{IsSpelled}
use Rattle.wire.specs.declared.slot.Slot.{Slot}
use Rattle.status.specs.declared.header.Header.{Header}
use Rattle.status.specs.Header.{total}
use Rattle.status.specs.Kept.{kept_after}
use Rattle.status.specs.Log.{slot_start, body_at, IsLog, IsOldOrNew}

-- a log whose next gate changes is the old log, or has one slot more
abbrev pub GateChanges : Type 0
GateChanges = (header : Header) (slots : List Slot) (slot : Slot) (old new : List ℕ) → length slots < total header → IsLog header old slots
    → IsSpelled header.profile (length slots) (body_at old (length slots)) slot → Agrees (slot_start (length slots)) 1 old new
    → IsOldOrNew header slots slot new

-- the floors that are kept are those of the log
abbrev pub FloorsAreKept : Type 0
FloorsAreKept =
    (before : FloorsValue) (log : List readings.Slot) (relation : ℕ) → floor_at (kept_after before log) relation ≡ floors_after (floor_at before) log relation

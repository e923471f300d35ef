-- What reading a status area answers.
use Rattle.std.specs.Prelude.{◌≡◌, ◌<◌, ◌≤◌, ℕ, IsTrue, List, length, slice_get, Option, None, Some, Result, Ok, Err, Vec}
use Rattle.std.specs.declared.alloc.Global.{Global}
use Rattle.disk.specs.Calls.{DiskState, counted}
use Rattle.wire.specs.Spelling.{InRange, IsSpelled}
use Rattle.wire.specs.declared.slot.Slot.{Slot}
use Rattle.status.specs.declared.header.Header.{Header}
use Rattle.status.specs.declared.fault.LogFault.{LogFault}
use Rattle.status.specs.declared.fault.LogFault.TheVariants.{NotAStore, Damaged, Device, NoMemory}
use Rattle.status.specs.Header.{total, IsFront}
use Rattle.status.specs.Log.{slot_start, body_at, IsOpen, HasRoom, HasHeader, OpensWith}
use Rattle.status.specs.Rules.{is_built, MayFollow, KeepsRules}

-- ---- the disk

-- after reads that were refused so: nothing has changed but the count, where the device refused one
abbrev pub refused_by : LogFault → DiskState → DiskState
refused_by NotAStore s = s
refused_by (Damaged n) s = s
refused_by Device s = record s { refused = counted s.refused }
refused_by NoMemory s = s

-- after reads alone: nothing has changed, but where the device refused one that was counted
abbrev pub read_by : {T : Type 0} → Result T LogFault → DiskState → DiskState
read_by (Ok value) s = s
read_by (Err fault) s = refused_by fault s

-- ---- the header

-- the area has a header of a profile that is built
pub record ReadsHeader (bytes : List ℕ) (header : Header) : Type 0 where
  pub stands : HasHeader header bytes
  pub built : IsTrue (is_built header.profile 1)

-- these 512 bytes, in an area of this length, are one
pub record IsBuiltFront (front : List ℕ) (len : ℕ) (header : Header) : Type 0 where
  pub front_is : IsFront header front
  pub built : IsTrue (is_built header.profile 1)
  pub room : slot_start (total header) ≤ len

-- there is this header, or there is none
abbrev pub IsHeaderOf : List ℕ → Option Header → Type 0
IsHeaderOf bytes None = (header : Header) → ¬ ReadsHeader bytes header
IsHeaderOf bytes (Some header) = ReadsHeader bytes header

-- the answer is this header, unless the device gave out
abbrev pub AnswersHeader : Header → Result Header LogFault → Type 0
AnswersHeader header (Ok found) = found ≡ header
AnswersHeader header (Err NotAStore) = ⊥
AnswersHeader header (Err (Damaged n)) = ⊥
AnswersHeader header (Err Device) = Unit {0}
AnswersHeader header (Err NoMemory) = ⊥

-- without a header it is no store
abbrev pub IsHeaderFault : LogFault → Type 0
IsHeaderFault NotAStore = Unit {0}
IsHeaderFault (Damaged n) = ⊥
IsHeaderFault Device = Unit {0}
IsHeaderFault NoMemory = ⊥

-- ---- the log

-- slots of a profile that stand in their places and keep the rules
pub record AreSlots (profile : ℕ) (slots : List Slot) : Type 0 where
  pub own : (n : ℕ) (slot : Slot) → slice_get slots n ≡ Some slot → slot.number ≡ n
  pub in_range : (n : ℕ) (slot : Slot) → slice_get slots n ≡ Some slot → InRange profile slot.body
  pub rules : KeepsRules profile slots

-- the slots before the first closed gate are these, and they keep the rules
pub record HoldsLog (header : Header) (bytes : List ℕ) (slots : List Slot) : Type 0 where
  pub opens : OpensWith header bytes slots
  pub rules : KeepsRules header.profile slots
  pub ended : length slots < total header → ¬ IsOpen bytes (length slots)

-- the gate of slot n is open, and no slot stands there that may follow these
pub record IsBad (header : Header) (bytes : List ℕ) (before : List Slot) (n : ℕ) : Type 0 where
  pub is_open : IsOpen bytes n
  pub no_slot : (slot : Slot) → IsSpelled header.profile n (body_at bytes n) slot → ¬ MayFollow header.profile before slot

-- the slots before slot n are good, and it is bad
pub record IsDamaged (header : Header) (bytes : List ℕ) (n : ℕ) : Type 0 where
  pub before : List Slot
  pub number : length before ≡ n
  pub within : n < total header
  pub opens : OpensWith header bytes before
  pub rules : KeepsRules header.profile before
  pub bad : IsBad header bytes before n

-- why the log is not read
abbrev pub IsLogFault : Header → List ℕ → LogFault → Type 0
IsLogFault header bytes NotAStore = ¬ HasRoom header bytes
IsLogFault header bytes (Damaged n) = IsDamaged header bytes n
IsLogFault header bytes Device = Unit {0}
IsLogFault header bytes NoMemory = Unit {0}

-- the answer is this log, unless the device or memory gave out
abbrev pub AnswersLog : List Slot → Result (Vec Slot Global) LogFault → Type 0
AnswersLog slots (Ok found) = found.items ≡ slots
AnswersLog slots (Err NotAStore) = ⊥
AnswersLog slots (Err (Damaged n)) = ⊥
AnswersLog slots (Err Device) = Unit {0}
AnswersLog slots (Err NoMemory) = Unit {0}

-- What stands in an area for a run, whatever its bytes are, and which rule of a run it breaks.
use Rattle.std.specs.Prelude.{◌≡◌, ℕ, zero, suc, ◌+◌, ◌*◌, ◌<◌, ◌≤◌, ◌==◌, IsTrue, false, List, length, slice_range, Option, Some, None, if◌then◌else◌}
use Rattle.byteorder.specs.Endian.{little_number}
use Rattle.law_image.specs.Values.{Value}
use Rattle.wire.specs.Values.{IsValue, value_bytes}
use Rattle.archive.specs.declared.run.RunEntry.{RunEntry}
use Rattle.archive.specs.declared.head.Head.{Head}
use Rattle.archive.specs.declared.head.Placed.{Placed}
use Rattle.archive.specs.declared.fault.ArchiveFault.{ArchiveFault}
use Rattle.archive.specs.declared.fault.ArchiveFault.TheVariants.{Device, NoMemory, Damaged}
use Rattle.archive.specs.Runs.{run_end}
use Rattle.archive.specs.Answers.{head_at}
use Rattle.archive.specs.Searches.{index_start, IsPlace, is_in_range, may_follow_last}

-- ---- what stands there

-- the place that the index gives the n-th record, and behind the last the place of the index
abbrev pub entry_at : List ℕ → RunEntry → ℕ → ℕ
entry_at area run n =
    if n == run.slot.records
    then index_start run
    else little_number 8 (slice_range area (run.slot.start + (index_start run + 8 * n)) (run.slot.start + (index_start run + 8 * n) + 8))

-- the 26 bytes at a place, read as a head
abbrev pub head_standing : List ℕ → RunEntry → ℕ → Head
head_standing area run place = head_at (slice_range area (run.slot.start + place) (run.slot.start + place + 26))

-- the place of the n-th record and its head
abbrev pub placed_at : List ℕ → RunEntry → ℕ → Placed
placed_at area run n = record { number = n; place = entry_at area run n; head = head_standing area run (entry_at area run n) }

-- the bytes behind the n-th head, up to the next place
abbrev pub value_part : List ℕ → RunEntry → ℕ → List ℕ
value_part area run n = slice_range area (run.slot.start + (entry_at area run n + 26)) (run.slot.start + entry_at area run (n + 1))

-- ---- that it breaks no rule

-- The n-th entry lies within the area. What a place of the run leaves room for before the index then does too.
abbrev pub IsEntryThere : List ℕ → RunEntry → ℕ → Type 0
IsEntryThere area run n = n < run.slot.records → run.slot.start + (index_start run + 8 * n) + 8 ≤ length area

-- the n-th entry is a place, and the head there is one of the run, also beside the one that was read last
pub record IsHeadSound (area : List ℕ) (run : RunEntry) (last : Option Placed) (n : ℕ) : Type 0 where
  pub few : n < run.slot.records
  pub there : IsEntryThere area run n
  pub place : IsPlace run n (entry_at area run n)
  pub in_range : IsTrue (is_in_range (head_standing area run (entry_at area run n)) run)
  pub follows : IsTrue (may_follow_last last (placed_at area run n))

-- this value stands behind the n-th head and fills the room up to the next place
pub record IsValueAt (area : List ℕ) (run : RunEntry) (n : ℕ) (value : Value) : Type 0 where
  pub there : IsEntryThere area run (n + 1)
  pub end : IsPlace run (n + 1) (entry_at area run (n + 1))
  pub least : entry_at area run n + 28 ≤ entry_at area run (n + 1)
  pub most : entry_at area run (n + 1) ≤ entry_at area run n + 4123
  pub is : IsValue value
  pub spelled : value_part area run n ≡ value_bytes value

-- what stands before the n-th record, if it isn't the first
abbrev pub before_of : List ℕ → RunEntry → ℕ → Option Placed
before_of area run zero = None
before_of area run (suc n) = Some (placed_at area run n)

-- Nothing of the run breaks a rule.
-- Then the area holds a run (the law unbroken_runs_are_held).
pub record IsUnbroken (area : List ℕ) (run : RunEntry) : Type 0 where
  pub within : run_end run ≤ length area
  pub heads : (n : ℕ) → n < run.slot.records → IsHeadSound area run (before_of area run n) n
  pub values : (n : ℕ) → n < run.slot.records → (value : Value) × IsValueAt area run n value

-- ---- that it breaks a rule

-- the n-th entry of the run's index breaks a rule
pub data IsEntryBroken (area : List ℕ) (run : RunEntry) (n : ℕ) : Type 0 where
  -- the run reaches past the area's end
  PastEnd : length area < run_end run → IsEntryBroken area run n
  -- no records leave room for such a place of the n-th
  NoPlace : (IsPlace run n (entry_at area run n) → ⊥) → IsEntryBroken area run n

-- the n-th head breaks a rule, by its entry, by itself or beside what was read last
pub data IsHeadBroken (area : List ℕ) (run : RunEntry) (last : Option Placed) (n : ℕ) : Type 0 where
  BadEntry : IsEntryBroken area run n → IsHeadBroken area run last n
  -- by itself the head is none of the run
  OutOfRange : IsPlace run n (entry_at area run n) → is_in_range (head_standing area run (entry_at area run n)) run ≡ false → IsHeadBroken area run last n
  -- it isn't behind the record before it, which was read just before it
  OutOfOrder : IsPlace run n (entry_at area run n) → may_follow_last last (placed_at area run n) ≡ false → IsHeadBroken area run last n

-- the n-th value breaks a rule, by the entry behind it, by its length or by its bytes
pub data IsValueBroken (area : List ℕ) (run : RunEntry) (n : ℕ) : Type 0 where
  BadEnd : IsEntryBroken area run (n + 1) → IsValueBroken area run n
  -- the next place is too near or too far
  NoRoom : ((entry_at area run n + 28 ≤ entry_at area run (n + 1)) × (entry_at area run (n + 1) ≤ entry_at area run n + 4123) → ⊥) → IsValueBroken area run n
  -- the bytes up to the next place are not those of a value
  NoValue : ((value : Value) → IsValue value → value_part area run n ≡ value_bytes value → ⊥) → IsValueBroken area run n

-- this of the start, where the fault is that a run is damaged
abbrev pub IfDamaged : (ℕ → Type 0) → ArchiveFault → Type 0
IfDamaged P Device = Unit {0}
IfDamaged P NoMemory = Unit {0}
IfDamaged P (Damaged start) = P start

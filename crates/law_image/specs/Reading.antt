-- What an image reads as, once its bytes are told apart.
use Rattle.std.specs.Prelude.{ℕ, ◌+◌, ◌*◌, List, Option}
use Rattle.history.specs.declared.key.Key.{Key}
use Rattle.history.specs.declared.time.Version.{Version}
use Rattle.law_image.specs.Values.{Value}

-- a commit's time and label, as its slot names them
pub record Head : Type 0 where
  pub time : ℕ
  pub label : ℕ

-- an open slot. A floor is that of one relation, or of every relation
pub data Slot : Type 0 where
  Commits : List Head → Slot
  Archived : ℕ → Slot
  Reclaimed : ℕ → Slot
  Floor : Option ℕ → ℕ → Slot

-- what a heap record says of its key: its value, the fields that differ from the value before (a bit of the mask for each), or gone
pub data Content : Type 0 where
  Anchor : Value → Content
  Delta : ℕ → List (List ℕ) → Content
  Gone : Content

-- a record of a commit's chain: a key, and what the commit does to it
pub record HeapRecord : Type 0 where
  pub key : Key
  pub content : Content

-- a commit of the log with the records of its chain
pub record Member : Type 0 where
  pub head : Head
  pub records : List HeapRecord

-- a record of the anchor chain: a value older than the mark, with its own time
pub record OldRecord : Type 0 where
  pub key : Key
  pub from : ℕ
  pub value : Value

-- a record of a run: a version of a key
pub record ArchiveRecord : Type 0 where
  pub key : Key
  pub version : Version Value

-- What stands in an image: its header's numbers, the slots of its log, and what they name.
-- The log ends before the first closed gate. Members are those later than the last reclaim: the chains of the others are given up.
pub record Reading : Type 0 where
  pub profile : ℕ
  -- how many slots the header names, and how many pieces of 256 more are open
  pub slots : ℕ
  pub pieces : ℕ
  pub log : List Slot
  pub members : List Member
  pub anchors : List OldRecord
  -- one for each archived slot
  pub runs : List (List ArchiveRecord)

-- how many slots there are
abbrev pub slot_count : Reading → ℕ
slot_count reading = reading.slots + 256 * reading.pieces

-- What a clause sees of the transactions of a store.
use Rattle.std.specs.Prelude.{ℕ, ◌≡◌, ◌+◌, ◌-◌, ◌==◌, ◌||◌, Bool, true, false, is_some, List, [], ◌∷◌, length, Option, Some, None, if◌then◌else◌}
use Rattle.std.specs.List.{list_all}
use Rattle.history.specs.declared.key.KeyWrite.{KeyWrite}
use Rattle.history.specs.Time.{value_at}
use Rattle.law_image.specs.Values.{Value}
use Rattle.chains.specs.KeyWrites.{KeyWrites, writes_of}
use Rattle.extents.specs.declared.usage.Usage.{Usage}
use Rattle.snapshot.specs.OpenTable.{snapshot_of, with_closed}
use Rattle.snapshot.specs.Txn.{TxnValue}
use Rattle.floors.specs.Floors.{FloorsValue}
use Rattle.group.specs.declared.commit_order.CommitHead.{CommitHead}
use Rattle.group.specs.Queued.{QueuedValue}
use Rattle.group.specs.declared.stage.GroupStage.{GroupStage}
use Rattle.group.specs.declared.stage.GroupStage.TheVariants.{NoGroup, Storing, Stored, Turning}

-- the commit order, the versions in memory, the extents, the slots and the open transactions of a store
pub record TransactionsValue : Type 0 where
  pub mark : ℕ
  -- the snapshots of the open transactions, by number
  pub opened : List (Option ℕ)
  -- the commit order, and how many of it are published
  pub heads : List CommitHead
  pub published : ℕ
  -- the versions of what is published
  pub versions : List KeyWrites
  -- what they are to be once a reclaim is done
  pub pending : Option (List KeyWrites)
  -- the commits that wait
  pub queue : List QueuedValue
  pub usages : List Usage
  -- the time of the commit whose chain has each extent
  pub times : List ℕ
  -- the extents that are out for a job
  pub reserved : List ℕ
  -- the slots of the store that commits may take, and how many slots the log has
  pub slots : ℕ
  pub used : ℕ
  -- how many of the queue the group has, 0 where none stands, and what is done of it
  pub group : ℕ
  pub stage : GroupStage
  pub floors : FloorsValue
  -- the mark up to which the published versions have forgotten what ended
  pub reclaimed : ℕ
  pub failed : Bool

-- ---- the commit order

-- the versions after these waiting commits
abbrev pub versions_after : List KeyWrites → List QueuedValue → List KeyWrites
versions_after versions [] = versions
versions_after versions (q ∷ qs) = versions_after q.after qs

-- the versions after the whole commit order
abbrev pub ordered : TransactionsValue → List KeyWrites
ordered v = versions_after v.versions v.queue

-- the mark up to which these have forgotten what ended
abbrev pub mark_after : ℕ → List QueuedValue → ℕ
mark_after mark [] = mark
mark_after mark (q ∷ qs) = mark_after q.reclaimed qs

-- the mark up to which the versions after the whole commit order have forgotten what ended
abbrev pub ordered_mark : TransactionsValue → ℕ
ordered_mark v = mark_after v.reclaimed v.queue

-- ---- transactions that are the store's own

-- an open transaction is there, and this is its snapshot
abbrev pub is_snapshot : Option ℕ → ℕ → Bool
is_snapshot None time = false
is_snapshot (Some snapshot) time = snapshot == time

-- gone stands only where the key has a value at the snapshot
abbrev pub is_of_value : List KeyWrites → ℕ → KeyWrite Value → Bool
is_of_value versions snapshot w = is_some w.write || is_some (value_at (writes_of versions w.key) snapshot)

-- this store began it, it is open with this snapshot, and its writes are those of a transaction
abbrev pub is_own_of : TransactionsValue → ℕ → ℕ → ℕ → List (KeyWrite Value) → Bool
is_own_of v mark number snapshot writes =
    if mark == v.mark then (if is_snapshot (snapshot_of number v.opened) snapshot then list_all (is_of_value v.versions snapshot) writes else false) else false

-- the transaction is the store's own: begun by it, still open, and with writes that fit its snapshot
abbrev pub is_own : TransactionsValue → TxnValue → Bool
is_own v txn = is_own_of v txn.mark txn.number txn.snapshot txn.writes

-- a transaction is over
abbrev pub over : TransactionsValue → ℕ → TransactionsValue
over v number = record v { opened = with_closed v.opened number }

-- ---- the floors

-- these stand in place of those before
abbrev pub with_floors : TransactionsValue → FloorsValue → TransactionsValue
with_floors v floors = record v { floors = floors }

-- ---- room in the log

-- the slots that the waiting commits may still take: one for the group whose slot is in the writing, and one for each other
abbrev pub claimed_by : GroupStage → ℕ → ℕ → ℕ
claimed_by Turning group waiting = 1 + (waiting - group)
claimed_by NoGroup group waiting = waiting
claimed_by (Storing member extent) group waiting = waiting
claimed_by Stored group waiting = waiting

-- the slots that all waiting commits may still take
abbrev pub claimed : TransactionsValue → ℕ
claimed v = claimed_by v.stage v.group (length v.queue)

-- the slots that are left
abbrev pub spare : TransactionsValue → ℕ
spare v = v.slots - v.used - claimed v

-- a slot is lent to a job, and comes back as one that the log has
abbrev pub with_slot_lent : TransactionsValue → TransactionsValue
with_slot_lent v = record v { slots = v.slots - 1 }

-- the slot that was lent comes back, as one that the log has
abbrev pub with_slot_used : TransactionsValue → TransactionsValue
with_slot_used v = record v { slots = v.slots + 1; used = v.used + 1 }

-- the log has so many slots more
abbrev pub with_more_slots : ℕ → TransactionsValue → TransactionsValue
with_more_slots count v = record v { slots = v.slots + count }

-- ---- what the log's own count is compared with

-- the group's slot is in the writing
abbrev pub is_turning : GroupStage → Bool
is_turning NoGroup = false
is_turning (Storing member extent) = false
is_turning Stored = false
is_turning Turning = true

-- nothing has changed of the slots, nor whether one is in the writing
pub record KeepsSlots (old new : TransactionsValue) : Type 0 where
  pub slots : new.slots ≡ old.slots
  pub used : new.used ≡ old.used
  pub failed : new.failed ≡ old.failed
  pub turning : is_turning new.stage ≡ is_turning old.stage

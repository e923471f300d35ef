-- What a clause sees of a store, whatever its layout.
use Rattle.std.specs.Prelude.{ℕ, Bool, false, true, List, map}
use Rattle.disk.specs.Calls.{DiskState}
use Rattle.timequery.specs.Archives.{ArchiveValue}
use Rattle.group.specs.Queued.{QueuedValue}
use Rattle.group.specs.Values.{TransactionsValue}
use Rattle.commits.specs.Values.{CommitsValue, WaitingValue}
use Rattle.store.specs.Values as slots
use Rattle.log_store.specs.Values.{LogStoreValue}
use Rattle.any_store.specs.declared.engine.Engine.{Engine}
use Rattle.any_store.specs.declared.engine.Engine.TheVariants.{Slots, Log}

-- a store is one of slots, or one whose log lies in the heap
abbrev pub StoreValue : Type 0
StoreValue = Engine slots.StoreValue LogStoreValue

-- its log lies in the heap
abbrev pub is_log : StoreValue → Bool
is_log (Slots s) = false
is_log (Log l) = true

-- ---- what both have

-- a commit that waits, without its bytes
abbrev pub waiting_of : QueuedValue → WaitingValue
waiting_of q = record { time = q.entry.time; label = q.entry.label; after = q.after; reclaimed = q.reclaimed }

-- the commits and transactions in memory, without what slots and extents they take
abbrev pub commits_in : TransactionsValue → CommitsValue
commits_in t = record {
  mark = t.mark;
  opened = t.opened;
  heads = t.heads;
  published = t.published;
  versions = t.versions;
  queue = map waiting_of t.queue;
  group = t.group;
  floors = t.floors;
  reclaimed = t.reclaimed;
  failed = t.failed;
}

-- the commits and transactions in memory
abbrev pub commits_of : StoreValue → CommitsValue
commits_of (Slots s) = commits_in s.transactions
commits_of (Log l) = l.commits

-- what it has of its archive
abbrev pub archive_of : StoreValue → ArchiveValue
archive_of (Slots s) = s.archive
archive_of (Log l) = l.archive

-- its disk
abbrev pub disk_of : StoreValue → DiskState
disk_of (Slots s) = s.disk
disk_of (Log l) = l.disk

-- the store over another disk
abbrev pub with_disk : StoreValue → DiskState → StoreValue
with_disk (Slots s) disk = Slots (record s { disk = disk })
with_disk (Log l) disk = Log (record l { disk = disk })

-- the number of its profile
abbrev pub profile_of : StoreValue → ℕ
profile_of (Slots s) = s.log.profile
profile_of (Log l) = 4

-- ---- what is said of each

-- of a store by its engine
abbrev pub OfEngine : (slots.StoreValue → Type 0) → (LogStoreValue → Type 0) → StoreValue → Type 0
OfEngine OfSlots OfLog (Slots s) = OfSlots s
OfEngine OfSlots OfLog (Log l) = OfLog l

-- of a store before and after a call, which does not change its engine
abbrev pub ByEngine : (slots.StoreValue → slots.StoreValue → Type 0) → (LogStoreValue → LogStoreValue → Type 0) → StoreValue → StoreValue → Type 0
ByEngine BySlots ByLog (Slots s) (Slots s') = BySlots s s'
ByEngine BySlots ByLog (Slots s) (Log l') = ⊥
ByEngine BySlots ByLog (Log l) (Slots s') = ⊥
ByEngine BySlots ByLog (Log l) (Log l') = ByLog l l'

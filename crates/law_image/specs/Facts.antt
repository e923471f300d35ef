-- What the records of an image say of each key.
use Rattle.std.specs.Prelude.{ℕ, ◌≡◌, ◌+◌, ◌*◌, ◌/◌, ◌%◌, ◌==◌, ◌&&◌, ◌⊎◌, bytes_eq, nat_lt, length, sum_by, Contains, IsSome, List, [], ◌∷◌, ◌++◌, map}
use Rattle.std.specs.Prelude.{filter_map, flat_map, Option, None, Some, option_map, if◌then◌else◌, ◌^◌}
use Rattle.std.specs.List.{AllByRecursion}
use Rattle.history.specs.declared.key.Key.{Key}
use Rattle.history.specs.declared.key.KeyWrite.{KeyWrite}
use Rattle.history.specs.declared.time.TimedWrite.{TimedWrite}
use Rattle.history.specs.declared.time.Version.{Version}
use Rattle.history.specs.Key.{same_key}
use Rattle.history.specs.Time.{value_at}
use Rattle.history.specs.Versions.{versions}
use Rattle.history.specs.Histories.{Commit, History, writes_of}
use Rattle.history.specs.Sets.{Writes}
use Rattle.history.specs.Queries.{values_after}
use Rattle.law_image.specs.Values.{Value}
use Rattle.law_image.specs.Reading.{Content, Anchor, Delta, Gone, HeapRecord, Member, OldRecord, ArchiveRecord, Reading}

-- a value with some fields changed: field i where bit i of the mask is set
abbrev pub patched : ℕ → List (List ℕ) → Value → Value
patched mask changed [] = []
patched mask [] (field ∷ fields) = field ∷ fields
patched mask (new ∷ changed) (field ∷ fields) =
    if mask % 2 == 1 then new ∷ patched (mask / 2) changed fields else field ∷ patched (mask / 2) (new ∷ changed) fields

-- what a record writes to a key that had this value before
abbrev pub written : Option Value → Content → Option Value
written before (Anchor value) = Some value
written before (Delta mask changed) = option_map (patched mask changed) before
written before Gone = None

-- the bytes of an anchor record and of a delta record, and of their fields
abbrev pub field_bytes : List (List ℕ) → ℕ
field_bytes fields = sum_by (λ field. 1 + length field) fields

-- how many bytes an anchor record of this value has
abbrev pub anchor_bytes : Value → ℕ
anchor_bytes value = 12 + field_bytes value

-- how many bytes a delta record of these changed fields has
abbrev pub delta_bytes : List (List ℕ) → ℕ
delta_bytes changed = 13 + field_bytes changed

-- a bit for each field that differs, the least for the first
abbrev pub mask_of : Value → Value → ℕ
mask_of [] fields = 0
mask_of (old ∷ olds) [] = 0
mask_of (old ∷ olds) (new ∷ news) = (if bytes_eq old new then 0 else 1) + 2 * mask_of olds news

-- the fields that differ
abbrev pub changed_of : Value → Value → List (List ℕ)
changed_of [] fields = []
changed_of (old ∷ olds) [] = []
changed_of (old ∷ olds) (new ∷ news) = if bytes_eq old new then changed_of olds news else new ∷ changed_of olds news

-- how a value is stored over another: as a delta where it has as many fields and the delta is shorter
abbrev pub stored_over : Value → Value → Content
stored_over old new =
    if (length old == length new) && nat_lt (delta_bytes (changed_of old new)) (anchor_bytes new) then Delta (mask_of old new) (changed_of old new) else Anchor
    new

-- The one record that a write is stored as.
-- What is stored is read back (the law stored_is_read).
abbrev pub stored : Option Value → Option Value → Content
stored before None = Gone
stored None (Some new) = Anchor new
stored (Some old) (Some new) = stored_over old new

-- what a record writes to its key, where the keys had these values before
abbrev pub write_of : (Key → Option Value) → HeapRecord → KeyWrite Value
write_of before r = record { key = r.key; write = written (before r.key) r.content }

-- a member as the commit that it stands for, where the keys had these values before
abbrev pub commit_read : (Key → Option Value) → Member → Commit Value
commit_read before m = record { time = m.head.time; label = m.head.label; writes = map (write_of before) m.records }

-- members as commits, each record resolved against the key's previous fact
abbrev pub commits_from : (Key → Option Value) → List Member → History Value
commits_from before [] = []
commits_from before (m ∷ ms) = commit_read before m ∷ commits_from (values_after before (commit_read before m)) ms

-- a record is the one that its write is stored as, and gone is of a value
pub record IsStored (before : Key → Option Value) (r : HeapRecord) : Type 0 where
  pub one_spelling : r.content ≡ stored (before r.key) (written (before r.key) r.content)
  pub gone : r.content ≡ Gone → IsSome (before r.key)

-- so are those of all members, each after those before it
abbrev pub AreStored : (Key → Option Value) → List Member → Type 0
AreStored before [] = Unit {0}
AreStored before (m ∷ ms) = AllByRecursion (IsStored before) m.records × AreStored (values_after before (commit_read before m)) ms

-- the facts of a key in the anchor chain, each with its own time
abbrev pub old_write : Key → OldRecord → Option (TimedWrite Value)
old_write key old = if same_key old.key key then Some (record { time = old.from; write = Some old.value }) else None

-- the facts of a key in these records of the anchor chain, in their order
abbrev pub old_writes : List OldRecord → Key → List (TimedWrite Value)
old_writes olds key = filter_map (old_write key) olds

-- the value after all of a key's writes
abbrev pub latest : List (TimedWrite Value) → Option Value
latest writes = value_at writes (2 ^ 63)

-- the value of each key at the reclaim mark
abbrev pub values_at_mark : Reading → Key → Option Value
values_at_mark reading key = latest (old_writes reading.anchors key)

-- the commits that the members stand for
abbrev pub heap_commits : Reading → History Value
heap_commits reading = commits_from (values_at_mark reading) reading.members

-- the heap's facts of a key, oldest first
abbrev pub heap_facts : Reading → Key → List (TimedWrite Value)
heap_facts reading key = old_writes reading.anchors key ++ writes_of (heap_commits reading) key

-- the last value of each key
abbrev pub values_now : Reading → Key → Option Value
values_now reading key = latest (heap_facts reading key)

-- a heap version is a value among these facts, up to the time of the key's next fact
abbrev pub heap_versions : Reading → Key → List (Version Value)
heap_versions reading key = versions (heap_facts reading key)

-- the same, told of sets: an anchor of the key with its own time, or a write of a member later than the mark
abbrev pub IsHeapFact : Reading → Key → ℕ → Option Value → Type 0
IsHeapFact reading key time write =
    Contains (old_writes reading.anchors key) (record { time = time; write = write }) ⊎ Writes (heap_commits reading) key time write

-- the version of the key that a record of a run has, if it is one of the key
abbrev pub version_for : Key → ArchiveRecord → Option (Version Value)
version_for key r = if same_key r.key key then Some r.version else None

-- the versions of a key in a run
abbrev pub run_versions : Key → List ArchiveRecord → List (Version Value)
run_versions key run = filter_map (version_for key) run

-- those of all runs, in the order of the log
abbrev pub archived_versions : Reading → Key → List (Version Value)
archived_versions reading key = flat_map (run_versions key) reading.runs

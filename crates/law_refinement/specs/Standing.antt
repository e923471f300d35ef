-- What a store holds in memory, and the state of the machine that it stands for.
use Rattle.std.specs.Prelude.{ℕ, ◌≡◌, ◌<◌, ◌≤◌, Bool, true, List, [], ◌∷◌, ◌++◌, length, map, take, filter, filter_map, Option, Some, IsPermutation, Contains}
use Rattle.history.specs.declared.key.Key.{Key}
use Rattle.history.specs.Time.{IsRisingAfter as IsRisingWrites, writes_after}
use Rattle.history.specs.Versions.{versions as versions_in, ends_after}
use Rattle.history.specs.Histories as histories
use Rattle.history.specs.Histories.{Commit, History}
use Rattle.history.specs.Machine.{Machine, commit_order}
use Rattle.law_image.specs.Values.{Value}
use Rattle.floors.specs.Floors.{floor_at}
use Rattle.chains.specs.Writes.{Write, last_time, kept_after, written}
use Rattle.chains.specs.KeyWrites.{KeyWrites, writes_of, forgotten, IsOrdered}
use Rattle.group.specs.CommitOrder.{IsRisingAfter}
use Rattle.group.specs.declared.commit_order.CommitHead.{CommitHead}
use Rattle.group.specs.Queued.{QueuedValue}
use Rattle.group.specs.Values.{TransactionsValue, mark_after, is_turning}
use Rattle.group.specs.declared.stage.GroupStage.{GroupStage}
use Rattle.group.specs.declared.stage.GroupStage.TheVariants.{NoGroup, Storing, Stored, Turning}

-- a commit by its time and label
pub record Name : Type 0 where
  pub time : ℕ
  pub label : ℕ

-- the time and label of a commit
abbrev pub name_of : Commit Value → Name
name_of c = record { time = c.time; label = c.label }

-- the time and label of a commit as memory has them
abbrev pub name_at : CommitHead → Name
name_at head = record { time = head.time; label = head.label }

-- What memory has of a history, the keys in their order: of each key the writes later than the reclaim mark, behind those that came before it. The versions
-- that end after the floor are just those that end after the mark.
pub record HasWrites (floors : ℕ → ℕ) (reclaimed : ℕ) (versions : List KeyWrites) (h : History Value) : Type 0 where
  pub ordered : IsOrdered versions
  pub marked : reclaimed ≤ histories.last h
  pub before : Key → List Write
  pub rising : (key : Key) → IsRisingWrites 0 (before key)
  pub early : (key : Key) → last_time (before key) ≤ reclaimed
  pub writes : (key : Key) → writes_of versions key ≡ before key ++ writes_after reclaimed (histories.writes_of h key)
  pub at_home : (key : Key) → filter (ends_after (floors key.relation)) (versions_in (writes_of versions key))
      ≡ filter (ends_after (floors key.relation)) (filter (ends_after reclaimed) (histories.versions_of h key))

-- these versions have forgotten what ended by a mark
abbrev pub HasForgotten : ℕ → List KeyWrites → Type 0
HasForgotten mark versions = (key : Key) → kept_after mark (writes_of versions key) ≡ writes_of versions key

-- A commit waits behind these versions: from the reclaim mark on, the versions after it say what these say, and what it writes. They have forgotten what ended
-- by a mark of their own, the one of their making.
pub record Waits (reclaimed : ℕ) (before : List KeyWrites) (q : QueuedValue) (c : Commit Value) : Type 0 where
  pub time : q.entry.time ≡ c.time
  pub label : q.entry.label ≡ c.label
  pub records : q.entry.records ≡ length c.writes
  pub ordered : IsOrdered q.after
  pub rising : (key : Key) → IsRisingWrites 0 (writes_of q.after key)
  pub mark : q.reclaimed ≤ reclaimed
  pub forgot : HasForgotten q.reclaimed q.after
  pub after : (key : Key) → kept_after reclaimed (writes_of q.after key) ≡ kept_after reclaimed (writes_of before key) ++ written c.time c.writes key

-- the commits that wait are those of the machine's queue, each behind those before it
abbrev pub AllWait : ℕ → List KeyWrites → List QueuedValue → History Value → Type 0
AllWait reclaimed before [] [] = Unit {0}
AllWait reclaimed before [] (c ∷ cs) = ⊥
AllWait reclaimed before (q ∷ qs) [] = ⊥
AllWait reclaimed before (q ∷ qs) (c ∷ cs) = Waits reclaimed before q c × AllWait reclaimed q.after qs cs

-- the snapshots of the open transactions
abbrev pub snapshots_of : List (Option ℕ) → List ℕ
snapshots_of opened = filter_map (λ place. place) opened

-- something is done of a group
abbrev pub IsStaged : GroupStage → Type 0
IsStaged NoGroup = ⊥
IsStaged (Storing member extent) = Unit {0}
IsStaged Stored = Unit {0}
IsStaged Turning = Unit {0}

-- while the group's slot is in the writing, what the group leaves has forgotten all that ended by the mark
abbrev pub IsFresh : TransactionsValue → Type 0
IsFresh v = is_turning v.stage ≡ true → mark_after v.reclaimed (take v.group v.queue) ≡ v.reclaimed

-- What a store holds in memory is the machine's state.
pub record StandsInMemory (v : TransactionsValue) (m : Machine Value) : Type 0 where
  pub names : map name_at v.heads ≡ map name_of (commit_order m)
  pub rising : IsRisingAfter 0 v.heads
  pub published : v.published ≡ length m.published
  pub versions : HasWrites m.floors v.reclaimed v.versions m.published
  pub forgot : HasForgotten v.reclaimed v.versions
  -- no open transaction reads what is forgotten
  pub recent : (snapshot : ℕ) → Contains (snapshots_of v.opened) snapshot → v.reclaimed ≤ snapshot
  pub queue : AllWait v.reclaimed v.versions v.queue m.queue
  pub fresh : IsFresh v
  pub group : v.group ≡ m.group
  -- a slot has at most 16 commits
  pub most : m.most ≡ 16
  -- where something is done of a group, one stands
  pub staged : IsStaged v.stage → 0 < v.group
  pub snapshots : IsPermutation m.snapshots (snapshots_of v.opened)
  pub floors : (relation : ℕ) → floor_at v.floors relation ≡ m.floors relation
  pub failed : v.failed ≡ m.failed

-- A reclaim up to the archive mark is being made: no open transaction reads what is to be forgotten, and while its slot is in the writing, what memory is to be
-- once it is done is made.
pub record Reclaims (archived upto : ℕ) (turning : Bool) (opened : List (Option ℕ)) (pending : Option (List KeyWrites)) (versions : List KeyWrites) : Type 0
  where
    pub is : upto ≡ archived
    pub recent : (snapshot : ℕ) → Contains (snapshots_of opened) snapshot → upto ≤ snapshot
    pub made : turning ≡ true → pending ≡ Some (forgotten upto versions)

-- A store whose log lies in the heap is never stuck for want of room.
use Rattle.std.specs.Prelude.{ℕ, ◌≡◌, ◌≢◌, ◌⊎◌, ◌≤◌, Bool, false, IsTrue, List, [], None, Result, Err}
use Rattle.disk.specs.Areas.{AreSound, LeavesImage, image_of}
use Rattle.disk.specs.Calls.{DiskState}
use Rattle.history.specs.Machine.{Machine}
use Rattle.history.specs.declared.key.KeyWrite.{KeyWrite}
use Rattle.law_image.specs.Values.{Value}
use Rattle.snapshot.specs.Txn.{TxnValue}
use Rattle.group.specs.declared.answers.Submitted.{Submitted}
use Rattle.group.specs.declared.answers.SubmitFault.{SubmitFault}
use Rattle.group.specs.declared.answers.SubmitFault.TheVariants as refused
use Rattle.commits.specs.Values.{last, ordered}
use Rattle.log_extents.specs.Chains.{count_of}
use Rattle.log_roots.specs.Roots.{IsHeapSize}
use Rattle.log_room.specs.Bases.{has_base_room}
use Rattle.log_room.specs.Contents.{extents_over}
use Rattle.log_store.specs.Archives.{StartsArchive}
use Rattle.log_store.specs.Calls.{with_commits}
use Rattle.log_store.specs.Formats.{Creates}
use Rattle.log_store.specs.Jobs.{base_parts}
use Rattle.log_store.specs.Opens.{Opens}
use Rattle.log_store.specs.Reclaims.{StartsReclaim}
use Rattle.log_store.specs.Submits.{Submits, anchors_behind}
use Rattle.log_store.specs.Values.{LogStoreValue, IsInStep}
use Rattle.log_store.specs.declared.job.StartFault.{StartFault}
use Rattle.log_store.specs.declared.job.StartFault.TheVariants as fault
use Rattle.law_log_queries.specs.Archive.{Stands}
use Rattle.law_log_queries.specs.Calls.{IsCall, LeadsTo}
use Rattle.law_log_room.specs.Bases.{LeavesBaseRoom}
use Rattle.law_log_room.specs.Ends.{Reclaims, ArchivesAll}

-- A base that names two rolls and two archives more than the log does keeps its share of the heap.
abbrev pub HasBaseRoom : LogStoreValue → Type 0
HasBaseRoom v = IsTrue (has_base_room v.room (base_parts v))

-- ---- a reclaim

-- where the log leaves room for its base it is not refused for want of room
abbrev pub ReclaimHasRoom : Type 0
ReclaimHasRoom =
    (tells : Bool) (v new : LogStoreValue) (m : Machine Value) (answer : Result (Unit {0}) StartFault) → IsTrue tells → Stands tells v m
    → LeavesBaseRoom v → StartsReclaim v answer new → answer ≢ Err fault.HeapFull

-- a new store leaves it
abbrev pub CreatedLeaves : Type 0
CreatedLeaves = (tells : Bool) (old : DiskState) (mark extents : ℕ) (v : LogStoreValue) → IsHeapSize extents → Creates tells old mark extents v
    → LeavesBaseRoom v

-- so does one that works, where a base keeps its share that names two rolls and two archives more
abbrev pub RoomLeaves : Type 0
RoomLeaves =
    (tells : Bool) (v : LogStoreValue) (m : Machine Value) → IsTrue tells → Stands tells v m → v.commits.failed ≡ false → v.job ≡ None → v.reclaim ≡ None
    → HasBaseRoom v → LeavesBaseRoom v

-- and each call keeps it, whatever its answer
abbrev pub CallLeaves : Type 0
CallLeaves =
    (tells : Bool) (old new : LogStoreValue) (m : Machine Value) → IsTrue tells → IsInStep old → Stands tells old m → IsCall tells old new
    → LeavesBaseRoom old → LeavesBaseRoom new

-- so after any calls no reclaim is refused for want of room
abbrev pub ReclaimIsNeverFull : Type 0
ReclaimIsNeverFull =
    (tells : Bool) (old now new : LogStoreValue) (between : List LogStoreValue) (m : Machine Value) (answer : Result (Unit {0}) StartFault) → IsTrue tells
    → Stands tells old m → LeavesBaseRoom old → LeadsTo tells old between now → StartsReclaim now answer new → answer ≢ Err fault.HeapFull

-- Whatever a stop leaves between two calls of a store that works, and leaves room, opens as a store that leaves it.
abbrev pub ReopenedLeaves : Type 0
ReopenedLeaves =
    (tells : Bool) (v again : LogStoreValue) (m : Machine Value) (old : DiskState) (mark : ℕ) → IsTrue tells → IsInStep v → Stands tells v m
    → v.commits.failed ≡ false → LeavesBaseRoom v → LeavesImage v.disk.areas (image_of old.areas) → AreSound old.areas → Opens tells old mark again
    → LeavesBaseRoom again

-- ---- an archive of all that is published

-- where no commit waits it is not refused for want of room, if there is room for a base that names it
abbrev pub LastHasRoom : Type 0
LastHasRoom =
    (tells : Bool) (v new : LogStoreValue) (m : Machine Value) (answer : Result (Unit {0}) StartFault) → IsTrue tells → IsInStep v → Stands tells v m
    → v.commits.queue ≡ [] → HasBaseRoom v → StartsArchive v (last v.commits) answer new → answer ≢ Err fault.HeapFull

-- ---- never stuck

-- A store that works, where no commit waits and no job runs.
pub record IsIdle (v : LogStoreValue) : Type 0 where
  pub works : v.commits.failed ≡ false
  pub none : v.commits.queue ≡ []
  pub job : v.job ≡ None
  pub reclaim : v.reclaim ≡ None

-- a commit of one extent, behind which the anchors have no more extents than before it
pub record IsSmall (v : LogStoreValue) (writes : List (KeyWrite Value)) : Type 0 where
  pub one : extents_over (ordered v.commits) writes ≡ 1
  pub no_more : count_of (anchors_behind v writes) ≤ count_of v.room.anchors

-- a reclaim is made first, or none is
abbrev pub MayReclaim : Bool → LogStoreValue → LogStoreValue → Type 0
MayReclaim tells v a = (a ≡ v) ⊎ Reclaims tells v a

-- What follows is not refused for want of room: a reclaim; with it or without it an archive of all that is published, while there is room for a base that
-- names it; behind that another reclaim; and behind that a small commit. Calls that change nothing but the commits in memory, as a begin does, may come before
-- it.
pub record HasAllRoom (tells : Bool) (v : LogStoreValue) : Type 0 where
  pub reclaim : (new : LogStoreValue) (answer : Result (Unit {0}) StartFault) → StartsReclaim v answer new → answer ≢ Err fault.HeapFull
  pub archive : (a new : LogStoreValue) (answer : Result (Unit {0}) StartFault) → MayReclaim tells v a → IsInStep a → HasBaseRoom a
      → StartsArchive a (last a.commits) answer new → answer ≢ Err fault.HeapFull
  pub again : (a b new : LogStoreValue) (answer : Result (Unit {0}) StartFault) → MayReclaim tells v a → ArchivesAll tells a b
      → StartsReclaim b answer new → answer ≢ Err fault.HeapFull
  pub commit : (a b c d new : LogStoreValue) (txn : TxnValue) (label now : ℕ) (answer : Result Submitted SubmitFault) → MayReclaim tells v a
      → ArchivesAll tells a b → Reclaims tells b c → IsInStep c → d ≡ with_commits c d.commits → IsSmall d txn.writes
      → Submits d txn label now answer new → answer ≢ Err refused.HeapFull

-- a store where no commit waits and no job runs is never stuck, while what the log names leaves room for the base of a reclaim
abbrev pub NeverStuck : Type 0
NeverStuck =
    (tells : Bool) (v : LogStoreValue) (m : Machine Value) → IsTrue tells → Stands tells v m → IsIdle v → LeavesBaseRoom v → HasAllRoom tells v

-- What a reclaim makes memory forget.
use Rattle.std.specs.Prelude.{ℕ, ◌-◌, ◌<◌, ◌≤◌, ◌||◌, Bool, nat_lt, List, length, take, filter, slice_get, slice_set, Option, Some, None, Contains}
use Rattle.std.specs.Prelude.{if◌then◌else◌}
use Rattle.history.specs.Histories.{last}
use Rattle.history.specs.Machine.{Machine, IsMachine}
use Rattle.law_image.specs.Values.{Value, IsValue}
use Rattle.chains.specs.KeyWrites.{forgotten}
use Rattle.group.specs.declared.commit_order.CommitHead.{CommitHead}
use Rattle.commits.specs.Values.{CommitsValue, WaitingValue}
use Rattle.law_refinement.specs.Standing.{snapshots_of}
use Rattle.law_commits.specs.Standing.{StandsInMemory}
use Rattle.law_commits.specs.Laws.{IsFresh}

-- a head stays that waits for its Done, or is later than the mark
abbrev pub stays : ℕ → CommitHead → Bool
stays mark head = head.awaited || nat_lt mark head.time

-- the heads that stay
abbrev pub left_after : ℕ → List CommitHead → List CommitHead
left_after mark heads = filter (stays mark) heads

-- what ended by the mark is forgotten, and the names up to it leave memory
abbrev pub reclaimed_to : ℕ → CommitsValue → CommitsValue
reclaimed_to mark v = record v {
  heads = left_after mark v.heads;
  published = length (left_after mark (take v.published v.heads));
  versions = forgotten mark v.versions;
  reclaimed = mark;
}

-- it stands for the same machine, where no open transaction reads what is forgotten
abbrev pub ReclaimStands : Type 0
ReclaimStands =
    (v : CommitsValue) (m : Machine Value) (mark : ℕ) → StandsInMemory v m → IsMachine IsValue m → v.reclaimed ≤ mark → mark ≤ last m.published
    → ((snapshot : ℕ) → Contains (snapshots_of v.opened) snapshot → mark ≤ snapshot) → StandsInMemory (reclaimed_to mark v) m

-- ---- a group that began before a reclaim was done

-- of the commit at this place, where its versions were made before the mark was raised, they forget what ended by it
abbrev pub fresh_at : ℕ → ℕ → List WaitingValue → Option WaitingValue → List WaitingValue
fresh_at mark place queue None = queue
fresh_at mark place queue (Some w) =
    if nat_lt w.reclaimed mark then slice_set queue place (record w { after = forgotten mark w.after; reclaimed = mark }) else queue

-- the versions that the group leaves have forgotten what ended by the reclaim mark
abbrev pub freshened : CommitsValue → CommitsValue
freshened v = record v { queue = fresh_at v.reclaimed (v.group - 1) v.queue (slice_get v.queue (v.group - 1)) }

-- the store stands for the same machine
abbrev pub FreshStands : Type 0
FreshStands = (v : CommitsValue) (m : Machine Value) → StandsInMemory v m → StandsInMemory (freshened v) m

-- and the group may be published
abbrev pub FreshIsFresh : Type 0
FreshIsFresh = (v : CommitsValue) (m : Machine Value) → StandsInMemory v m → 0 < v.group → v.group ≤ length v.queue → IsFresh (freshened v)

-- The steps of a group.
use Rattle.std.specs.Prelude.{ℕ, ◌≡◌, ◌+◌, ◌-◌, ◌==◌, ◌&&◌, Bool, true, false, nat_lt, min, List, [], ◌∷◌, length, map, take, drop, slice_get, slice_set}
use Rattle.std.specs.Prelude.{Option, Some, None, if◌then◌else◌}
use Rattle.std.specs.List.{flat_map}
use Rattle.wire.specs.declared.slot.Body.{Body}
use Rattle.wire.specs.declared.slot.Body.TheVariants.{Commit, Archived, Reclaimed, Floor}
use Rattle.wire.specs.declared.slot.Member.{Member}
use Rattle.extents.specs.declared.usage.Usage.TheVariants.{Kept}
use Rattle.extents.specs.Usages.{with_usages}
use Rattle.extents.specs.Times.{with_times}
use Rattle.chains.specs.KeyWrites.{forgotten}
use Rattle.group.specs.Queued.{QueuedValue, numbers_of}
use Rattle.group.specs.declared.queued.StoredExtent.{StoredExtent}
use Rattle.group.specs.declared.stage.GroupStage.{GroupStage}
use Rattle.group.specs.declared.stage.GroupStage.TheVariants.{NoGroup, Storing, Stored, Turning}
use Rattle.group.specs.declared.stage.NextStep.{NextStep}
use Rattle.group.specs.declared.stage.NextStep.TheVariants as steps
use Rattle.group.specs.Values.{TransactionsValue, versions_after}

-- the members of the group that stands
abbrev pub members : TransactionsValue → List QueuedValue
members v = take v.group v.queue

-- where no group stands and commits wait, one begins: of the first 16, or of all of them
abbrev pub grouped : TransactionsValue → TransactionsValue
grouped v = if (v.group == 0) && nat_lt 0 (length v.queue) then record v { group = min (length v.queue) 16; stage = Storing 0 0 } else v

-- what a stage asks for
abbrev pub step_of : GroupStage → ℕ → NextStep
step_of NoGroup group = steps.Idle
step_of (Storing member extent) group = if nat_lt member group then steps.WriteExtent else steps.SyncHeap
step_of Stored group = steps.BeginSlot
step_of Turning group = steps.AdvanceSlot

-- what the group that stands needs next
abbrev pub due : TransactionsValue → NextStep
due v = step_of v.stage v.group

-- what the next step of the store does: a group begins first where it may
abbrev pub next_step : TransactionsValue → NextStep
next_step v = due (grouped v)

-- an extent of a commit, counted from 0
abbrev pub extent_at : Option QueuedValue → ℕ → Option StoredExtent
extent_at None extent = None
extent_at (Some q) extent = slice_get q.stored extent

-- the extent that is to be written
abbrev pub extent_of : List QueuedValue → GroupStage → Option StoredExtent
extent_of queue (Storing member extent) = extent_at (slice_get queue member) extent
extent_of queue NoGroup = None
extent_of queue Stored = None
extent_of queue Turning = None

-- the extent that is to be written next, if one is
abbrev pub next_extent : TransactionsValue → Option StoredExtent
next_extent v = extent_of v.queue v.stage

-- the place behind an extent of a commit: its next one, or the first of the next commit
abbrev pub place_behind : Option QueuedValue → ℕ → ℕ → GroupStage
place_behind None member extent = Storing (member + 1) 0
place_behind (Some q) member extent = if nat_lt (extent + 1) (length q.stored) then Storing member (extent + 1) else Storing (member + 1) 0

-- what is done of a group once its next extent is written
abbrev pub stage_behind : List QueuedValue → GroupStage → GroupStage
stage_behind queue (Storing member extent) = place_behind (slice_get queue member) member extent
stage_behind queue NoGroup = NoGroup
stage_behind queue Stored = Stored
stage_behind queue Turning = Turning

-- the next extent of the group was written
abbrev pub wrote_extent : TransactionsValue → TransactionsValue
wrote_extent v = record v { stage = stage_behind v.queue v.stage }

-- of the commit at this place, where its versions were made before the mark was raised, they forget what ended by it
abbrev pub fresh_at : ℕ → ℕ → List QueuedValue → Option QueuedValue → List QueuedValue
fresh_at mark place queue None = queue
fresh_at mark place queue (Some q) =
    if nat_lt q.reclaimed mark then slice_set queue place (record q { after = forgotten mark q.after; reclaimed = mark }) else queue

-- whether they were made before the mark was raised
abbrev pub is_older : ℕ → Option QueuedValue → Bool
is_older mark None = false
is_older mark (Some q) = nat_lt q.reclaimed mark

-- so of the last commit of the group
abbrev pub is_stale : TransactionsValue → Bool
is_stale v = is_older v.reclaimed (slice_get v.queue (v.group - 1))

-- the versions that the group leaves have forgotten what ended by the reclaim mark
abbrev pub freshened : TransactionsValue → TransactionsValue
freshened v = record v { queue = fresh_at v.reclaimed (v.group - 1) v.queue (slice_get v.queue (v.group - 1)) }

-- this much is done of the group
abbrev pub at_stage : GroupStage → TransactionsValue → TransactionsValue
at_stage stage v = record v { stage = stage }

-- what the group's slot says of its members
abbrev pub entries : TransactionsValue → List Member
entries v = map (λ q. q.entry) (members v)

-- a slot is that of these members
abbrev pub IsCommitOf : List Member → Body → Type 0
IsCommitOf ms (Commit members) = members.items ≡ ms
IsCommitOf ms (Archived run) = ⊥
IsCommitOf ms (Reclaimed anchors) = ⊥
IsCommitOf ms (Floor relation floor) = ⊥

-- each extent of these commits is in the chain of its own
abbrev pub with_chains : List ℕ → List QueuedValue → List ℕ
with_chains times [] = times
with_chains times (q ∷ qs) = with_chains (with_times times (numbers_of q) q.entry.time) qs

-- the group is published: its extents are kept, and the log has one slot more
abbrev pub published : TransactionsValue → TransactionsValue
published v = record v {
  published = v.published + v.group;
  versions = versions_after v.versions (members v);
  queue = drop v.group v.queue;
  usages = with_usages v.usages (flat_map numbers_of (members v)) Kept;
  times = with_chains v.times (members v);
  used = v.used + 1;
  group = 0;
  stage = NoGroup;
}

-- nothing is written any more
abbrev pub broken : TransactionsValue → TransactionsValue
broken v = record v { failed = true }

-- What holds of the transactions of a store by themselves.
use Rattle.std.specs.Prelude.{ℕ, ◌≡◌, ◌<◌, ◌≤◌, ◌+◌, List, ◌++◌, length, slice_get, Some, MatchOption}
use Rattle.std.specs.List.{AllByRecursion, flat_map}
use Rattle.chains.specs.KeyWrites.{KeyWrites, latest}
use Rattle.extents.specs.Usages.{AreOut}
use Rattle.group.specs.CommitOrder as orders
use Rattle.group.specs.Queued.{QueuedValue, numbers_of}
use Rattle.group.specs.declared.stage.GroupStage.{GroupStage}
use Rattle.group.specs.declared.stage.GroupStage.TheVariants.{NoGroup, Storing, Stored, Turning}
use Rattle.group.specs.Values.{TransactionsValue, claimed}

-- the place of the next extent is one of the group's extents, or behind its last member
abbrev pub StageFits : GroupStage → ℕ → List QueuedValue → Type 0
StageFits NoGroup group queue = group ≡ 0
StageFits (Storing member extent) group queue =
    (0 < group) × (member ≤ group) × (member < group → (q : QueuedValue) → slice_get queue member ≡ Some q → extent < length q.stored)
StageFits Stored group queue = 0 < group
StageFits Turning group queue = 0 < group

-- a commit has at least one extent
abbrev pub HasExtent : QueuedValue → Type 0
HasExtent q = 0 < length q.stored

-- no version of these, nor of those after a commit that waits, is later than this time
abbrev pub AreBy : ℕ → List KeyWrites → List QueuedValue → Type 0
AreBy time versions queue = (latest versions ≤ time) × AllByRecursion (λ q. latest q.after ≤ time) queue

-- what always holds: the commit order, the group, the versions, the extents and the slots agree
pub record IsInOrder (v : TransactionsValue) : Type 0 where
  pub split : v.published + length v.queue ≡ length v.heads
  -- no version is later than the last time that was given
  pub pending : MatchOption v.pending (Unit {0}) (λ versions. latest versions ≤ orders.last_time v.heads)
  pub latest : AreBy (orders.last_time v.heads) v.versions v.queue
  pub group_within : v.group ≤ length v.queue
  pub group_few : v.group ≤ 16
  pub stage_fits : StageFits v.stage v.group v.queue
  pub stored : AllByRecursion HasExtent v.queue
  -- the extents of those that wait are out, and so are others for a job
  pub out : AreOut v.usages (flat_map numbers_of v.queue ++ v.reserved)
  -- there is a slot for each that waits
  pub room : v.used + claimed v ≤ v.slots
  pub slots_few : v.slots ≤ 65536

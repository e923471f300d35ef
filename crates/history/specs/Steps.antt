-- The steps of the machine: calls with their answers, and steps of the store's own.
use Rattle.std.specs.Prelude.{ℕ, ◌≡◌, ◌≢◌, ◌<◌, min, List, [], ◌∷◌, ◌++◌, length, take, drop, true, false, IsPermutation, IsSome, None, Some}
use Rattle.history.specs.Floors.{Raising, raised}
use Rattle.history.specs.Histories.{last}
use Rattle.history.specs.Machine.{Machine, commit_order, Change, OfGroup, OfFloor, Gate, Shut, Due, MayBeOpen, MayRaise}
use Rattle.history.specs.Submissions.{Submission, IsSubmitted, Decision, Reads, Conflicts, Ends, Queues, decision, conflict_of}
use Rattle.history.specs.FloorStarts.{FloorRefusal, floor_refusal}

-- why a call is refused for a reason that is not the machine's
pub data Refusal : Type 0 where
  -- the store has failed
  Failed : Refusal
  -- a growth was refused
  NoMemory : Refusal
  -- the heap or the log has no room for the commit
  NoRoom : Refusal

-- what happens to the machine: a call with its answer, or a step of the store's own
pub data Event (V : Type 0) : Type 0 where
  -- a transaction begins with this snapshot
  Began : ℕ → Event V
  BeginRefused : Refusal → Event V
  -- one of this snapshot is given up
  Aborted : ℕ → Event V
  -- one is submitted, with its answer
  Decided : Submission V → Decision V → Event V
  Refused : Submission V → Refusal → Event V
  -- a group of the queue begins, and this many are published
  GroupBegan : Event V
  Published : ℕ → Event V
  FloorStarted : Raising → Event V
  FloorRefused : Raising → FloorRefusal → Event V
  FloorPublished : Raising → Event V
  -- the next call of this change writes its gate, and the write of the gate begins
  GateDue : Change → Event V
  GateWritten : Change → Event V
  -- a write or a sync is refused
  Broke : Event V

-- ---- the machine after each

-- one more transaction is open: its snapshot is the time of the last published commit
abbrev pub begun : {V : Type 0} → Machine V → Machine V
begun m = record m { snapshots = last m.published ∷ m.snapshots }

-- a submission is decided: a commit that is made of it is the last of the queue
abbrev pub decided : {V : Type 0} → Machine V → Decision V → Machine V
decided m Reads = m
decided m (Conflicts key) = m
decided m Ends = m
decided m (Queues commit) = record m { queue = m.queue ++ commit ∷ [] }

-- a group takes as many of the queue as it may have
abbrev pub grouped : {V : Type 0} → Machine V → Machine V
grouped m = record m { group = min m.most (length m.queue) }

-- the commits of the group are published, and no group stands
abbrev pub group_published : {V : Type 0} → Machine V → Machine V
group_published m = record m { published = m.published ++ take m.group m.queue; queue = drop m.group m.queue; group = 0; gate = Shut }

-- this floor is in the making
abbrev pub floor_started : {V : Type 0} → Machine V → Raising → Machine V
floor_started m r = record m { raising = Some r }

-- this floor stands, and none is in the making
abbrev pub floor_published : {V : Type 0} → Machine V → Raising → Machine V
floor_published m r = record m { floors = raised r.scope r.floor m.floors; raising = None; gate = Shut }

-- how far the slot in the writing is from then on
abbrev pub gated : {V : Type 0} → Machine V → Gate → Machine V
gated m gate = record m { gate = gate }

-- the machine has failed
abbrev pub broken : {V : Type 0} → Machine V → Machine V
broken m = record m { failed = true }

-- ---- when each may be

-- one transaction with this snapshot is over
abbrev pub GivesUp : {V : Type 0} → Machine V → ℕ → Machine V → Type 0
GivesUp old snapshot new = (rest : List ℕ) × IsPermutation old.snapshots (snapshot ∷ rest) × (new ≡ record old { snapshots = rest })

-- a begin may be refused so
abbrev pub IsBeginRefusal : {V : Type 0} → Machine V → Refusal → Type 0
IsBeginRefusal m Failed = m.failed ≡ true
IsBeginRefusal m NoMemory = m.failed ≡ false
IsBeginRefusal m NoRoom = ⊥

-- and a submit: without room, after the test for a conflict
abbrev pub IsRefusal : {V : Type 0} → Machine V → Submission V → Refusal → Type 0
IsRefusal m s Failed = m.failed ≡ true
IsRefusal m s NoMemory = (m.failed ≡ false) × (s.writes ≢ [])
IsRefusal m s NoRoom = (m.failed ≡ false) × (s.writes ≢ []) × (conflict_of m s ≡ None)

-- what the change is of is in the making
abbrev pub IsInTheMaking : {V : Type 0} → Machine V → Change → Type 0
IsInTheMaking m OfGroup = 0 < m.group
IsInTheMaking m OfFloor = IsSome m.raising

-- The machine may go from old to new by this event. Where it has failed, transactions are still given up.
-- A refused call changes nothing, but a refused submit ends its transaction.
abbrev pub Step : {V : Type 0} → (V → Type 0) → Machine V → Event V → Machine V → Type 0
Step IsValue old (Began snapshot) new = (old.failed ≡ false) × (snapshot ≡ last old.published) × (new ≡ begun old)
Step IsValue old (BeginRefused why) new = IsBeginRefusal old why × (new ≡ old)
Step IsValue old (Aborted snapshot) new = GivesUp old snapshot new
Step IsValue old (Decided s answer) new =
    (old.failed ≡ false) × IsSubmitted IsValue (commit_order old) s × (answer ≡ decision old s) × GivesUp (decided old answer) s.snapshot new
Step IsValue old (Refused s why) new = IsRefusal old s why × GivesUp old s.snapshot new
Step IsValue old GroupBegan new = (old.failed ≡ false) × (old.group ≡ 0) × (old.queue ≢ []) × (new ≡ grouped old)
Step IsValue old (Published size) new = (old.failed ≡ false) × (0 < size) × (size ≡ old.group) × (old.gate ≡ MayBeOpen OfGroup) × (new ≡ group_published old)
Step IsValue old (FloorStarted r) new = (old.failed ≡ false) × (old.raising ≡ None) × MayRaise old r × (new ≡ floor_started old r)
Step IsValue old (FloorRefused r why) new = (old.failed ≡ false) × (floor_refusal old r ≡ Some why) × (new ≡ old)
Step IsValue old (FloorPublished r) new = (old.failed ≡ false) × (old.raising ≡ Some r) × (old.gate ≡ MayBeOpen OfFloor) × (new ≡ floor_published old r)
Step IsValue old (GateDue change) new = (old.failed ≡ false) × IsInTheMaking old change × (old.gate ≡ Shut) × (new ≡ gated old (Due change))
Step IsValue old (GateWritten change) new = (old.failed ≡ false) × (old.gate ≡ Due change) × (new ≡ gated old (MayBeOpen change))
Step IsValue old Broke new = (old.failed ≡ false) × (new ≡ broken old)

-- one event after another
abbrev pub Run : {V : Type 0} → (V → Type 0) → Machine V → List (Event V) → Machine V → Type 0
Run IsValue old [] new = new ≡ old
Run {V} IsValue old (event ∷ events) new = (mid : Machine V) × Step IsValue old event mid × Run IsValue mid events new

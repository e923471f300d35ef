-- The calls that change what a store has in memory are steps of the machine.
use Rattle.std.specs.Prelude.{ℕ, ◌≡◌, ◌≢◌, ◌≤◌, ◌<◌, ◌^◌, ◌↔◌, true, false, [], ◌++◌, length, take, drop, None, Some, Result, Ok, Err, MatchBool}
use Rattle.history.specs.declared.key.Key.{Key}
use Rattle.history.specs.Histories.{last}
use Rattle.history.specs.Machine.{Machine, commit_order, IsMachine}
use Rattle.history.specs.Answers as answers
use Rattle.history.specs.Submissions as submissions
use Rattle.history.specs.Submissions.{decision, conflict_of}
use Rattle.history.specs.Steps.{Event, Step, Began, BeginRefused, Aborted, begun}
use Rattle.history.specs.Steps as steps
use Rattle.law_image.specs.Values.{Value, IsValue}
use Rattle.snapshot.specs.Txn.{TxnValue, AreTxnWrites}
use Rattle.group.specs.CommitOrder.{is_awaited}
use Rattle.group.specs.Submits.{first_conflict}
use Rattle.group.specs.Tickets.{TicketValue}
use Rattle.group.specs.declared.answers.BeginFault.{BeginFault}
use Rattle.group.specs.declared.answers.BeginFault.TheVariants as fault
use Rattle.group.specs.declared.answers.Redeemed.{Redeemed}
use Rattle.group.specs.declared.answers.Redeemed.TheVariants as redeemed
use Rattle.group.specs.declared.answers.Submitted.{Submitted}
use Rattle.group.specs.declared.answers.Submitted.TheVariants as submitted
use Rattle.group.specs.declared.answers.SubmitFault.{SubmitFault}
use Rattle.group.specs.declared.answers.SubmitFault.TheVariants as refused
use Rattle.commits.specs.Values.{CommitsValue, ordered, mark_after, is_own, over, last_assigned}
use Rattle.commits.specs.Values as commits
use Rattle.commits.specs.Calls.{Begins, Aborts, Redeems}
use Rattle.commits.specs.Steps.{time_now, with_waiting, members, published, broken}
use Rattle.law_refinement.specs.Laws.{submission_of, event_of, RedeemsAs}
use Rattle.law_commits.specs.Standing.{StandsInMemory}

-- ---- the last times

-- the last published time is that of the published history
abbrev pub LastIsLast : Type 0
LastIsLast = (v : CommitsValue) (m : Machine Value) → StandsInMemory v m → commits.last v ≡ last m.published

-- the last time that was given is that of the commit order
abbrev pub AssignedIsLast : Type 0
AssignedIsLast = (v : CommitsValue) (m : Machine Value) → StandsInMemory v m → IsMachine IsValue m → last_assigned v ≡ last (commit_order m)

-- ---- transactions begin and are given up

-- what a begin leads to, by its answer
abbrev pub BeginsTo : Machine Value → Result TxnValue BeginFault → CommitsValue → Type 0
BeginsTo m (Ok txn) new = Step IsValue m (Began txn.snapshot) (begun m) × StandsInMemory new (begun m)
BeginsTo m (Err fault.NoMemory) new = Step IsValue m (BeginRefused steps.NoMemory) m × StandsInMemory new m
BeginsTo m (Err fault.Failed) new = Step IsValue m (BeginRefused steps.Failed) m × StandsInMemory new m

-- a begin is a step of the machine, and the store stands for the machine after it
abbrev pub BeginStands : Type 0
BeginStands = (old new : CommitsValue) (answer : Result TxnValue BeginFault) (m : Machine Value) → StandsInMemory old m → Begins old answer new
    → BeginsTo m answer new

-- the machine goes by this event to one that the store stands for
abbrev pub Goes : CommitsValue → Machine Value → Event Value → Type 0
Goes new m event = (after : Machine Value) × Step IsValue m event after × StandsInMemory new after

-- an own transaction is given up, and a stranger changes nothing
abbrev pub AbortStands : Type 0
AbortStands = (old new : CommitsValue) (txn : TxnValue) (m : Machine Value) → StandsInMemory old m → Aborts old txn new
    → MatchBool (is_own old txn) (Goes new m (Aborted txn.snapshot)) (StandsInMemory new m)

-- ---- submits

-- what the parts of a submit answer of an own transaction, in this order: a store that has failed, nothing that was written, the test for a conflict, the room
-- of the layout, the clock, and a commit that waits. Memory may be refused wherever something was written. The transaction is over by then.
abbrev pub AnswersSubmit : CommitsValue → TxnValue → ℕ → ℕ → Result Submitted SubmitFault → CommitsValue → Type 0
AnswersSubmit v txn label now (Ok (submitted.ReadOnly snapshot)) new = (v.failed ≡ false) × (txn.writes ≡ []) × (new ≡ v)
AnswersSubmit v txn label now (Ok (submitted.Queued ticket)) new =
    (v.failed ≡ false) × (txn.writes ≢ []) × (first_conflict (ordered v) txn.snapshot txn.writes ≡ None) × (ticket.time ≡ time_now v now)
    × (ticket.time < 2 ^ 63) × (new ≡ with_waiting v label ticket.time txn.writes)
AnswersSubmit v txn label now (Err (refused.Conflict key)) new =
    (v.failed ≡ false) × (first_conflict (ordered v) txn.snapshot txn.writes ≡ Some key) × (new ≡ v)
AnswersSubmit v txn label now (Err refused.HeapFull) new =
    (v.failed ≡ false) × (txn.writes ≢ []) × (first_conflict (ordered v) txn.snapshot txn.writes ≡ None) × (new ≡ v)
AnswersSubmit v txn label now (Err refused.StatusFull) new = ⊥
AnswersSubmit v txn label now (Err refused.ClockEnd) new =
    (v.failed ≡ false) × (txn.writes ≢ []) × (first_conflict (ordered v) txn.snapshot txn.writes ≡ None) × (2 ^ 63 ≤ time_now v now) × (new ≡ v)
AnswersSubmit v txn label now (Err refused.NoMemory) new = (v.failed ≡ false) × (txn.writes ≢ []) × (new ≡ v)
AnswersSubmit v txn label now (Err refused.Failed) new = (v.failed ≡ true) × (new ≡ v)
AnswersSubmit v txn label now (Err refused.Stranger) new = ⊥

-- the key that memory finds in conflict is the machine's
abbrev pub ConflictIsFound : Type 0
ConflictIsFound = (v : CommitsValue) (m : Machine Value) (txn : TxnValue) (label now : ℕ) → StandsInMemory v m → IsMachine IsValue m → is_own v txn ≡ true
    → first_conflict (ordered v) txn.snapshot txn.writes ≡ conflict_of m (submission_of txn label now)

-- so a key is found exactly where the machine decides that it conflicts
abbrev pub ConflictIsDecided : Type 0
ConflictIsDecided =
    (v : CommitsValue) (m : Machine Value) (txn : TxnValue) (label now : ℕ) (key : Key) → StandsInMemory v m → IsMachine IsValue m → is_own v txn ≡ true
    → (first_conflict (ordered v) txn.snapshot txn.writes ≡ Some key) ↔ (decision m (submission_of txn label now) ≡ submissions.Conflicts key)

-- a submit of an own transaction is a step of the machine
abbrev pub SubmitStands : Type 0
SubmitStands =
    (v new : CommitsValue) (txn : TxnValue) (label now : ℕ) (answer : Result Submitted SubmitFault) (m : Machine Value) → StandsInMemory v m
    → IsMachine IsValue m → AreTxnWrites txn.state txn.snapshot txn.writes → label < 2 ^ 64
    → is_own v txn ≡ true → AnswersSubmit (over v txn.number) txn label now answer new → Goes new m (event_of m (submission_of txn label now) answer)

-- ---- tickets

-- a ticket is answered as the machine does, or it is a stranger's, and nothing of the machine's changes
abbrev pub RedeemStands : Type 0
RedeemStands =
    (old new : CommitsValue) (ticket : TicketValue) (answer : Redeemed) (m : Machine Value) → StandsInMemory old m → IsMachine IsValue m
    → Redeems old ticket answer new → RedeemsAs (answers.redeemed_by m ticket.time) answer × StandsInMemory new m

-- what the machine says of a ticket, as the store tells it
abbrev pub told_as : TicketValue → answers.Redeemed → Redeemed
told_as ticket (answers.Done time) = redeemed.Done time
told_as ticket answers.Waiting = redeemed.Waiting ticket
told_as ticket answers.InDoubt = redeemed.InDoubt

-- an own ticket whose commit is awaited in memory is answered just as the machine does
abbrev pub AwaitedIsAnswered : Type 0
AwaitedIsAnswered =
    (old new : CommitsValue) (ticket : TicketValue) (answer : Redeemed) (m : Machine Value) → StandsInMemory old m → IsMachine IsValue m
    → Redeems old ticket answer new → ticket.mark ≡ old.mark → is_awaited ticket.time old.heads ≡ true
    → answer ≡ told_as ticket (answers.redeemed_by m ticket.time)

-- every other ticket is a stranger's, and nothing changes: it is of another store, or of a commit whose name is not in memory or is awaited no longer
abbrev pub OthersAreStrangers : Type 0
OthersAreStrangers =
    (old new : CommitsValue) (ticket : TicketValue) (answer : Redeemed) → Redeems old ticket answer new
    → ((ticket.mark ≡ old.mark) × (is_awaited ticket.time old.heads ≡ true) → ⊥) → (answer ≡ redeemed.Stranger) × (new ≡ old)

-- ---- groups

-- what the group leaves has forgotten all that ended by the reclaim mark
abbrev pub IsFresh : CommitsValue → Type 0
IsFresh v = mark_after v.reclaimed (members v) ≡ v.reclaimed

-- the machine whose first so many commits of the queue are published
abbrev pub with_published : ℕ → Machine Value → Machine Value
with_published count m = record m { published = m.published ++ take count m.queue; queue = drop count m.queue }

-- a group that is published is that of the first commits of the queue
abbrev pub PublishStands : Type 0
PublishStands = (v : CommitsValue) (m : Machine Value) → StandsInMemory v m → IsMachine IsValue m → v.group ≤ length v.queue → IsFresh v
    → StandsInMemory (published v) (with_published v.group m)

-- what is published so is a machine's, where no group of its own stands
abbrev pub PublishedIsMachine : Type 0
PublishedIsMachine = (m : Machine Value) (count : ℕ) → IsMachine IsValue m → m.group ≡ 0 → IsMachine IsValue (with_published count m)

-- a store that has failed stands for the machine that has
abbrev pub BreakStands : Type 0
BreakStands = (v : CommitsValue) (m : Machine Value) → StandsInMemory v m → StandsInMemory (broken v) (steps.broken m)

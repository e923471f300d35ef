-- The calls that ask nothing of the disk keep what the store stands for.
use Rattle.std.proofs.Common.{◌≡◌, ℕ, suc, ◌+◌, ◌<◌, ◌≤◌, ◌^◌, ◌==◌, nat_lt, nat_le, Bool, true, false, cond, List, [], ◌∷◌, ◌++◌, length, take, drop, map}
use Rattle.std.proofs.Common.{Option, None, Some, Result, Ok, Err, MatchBool, MatchOption, refl, arith, ap, sym, subst, ◌∙◌, inl, inr, ⊎_elim}
use Rattle.std.specs.Prelude.{◌⊎◌, Contains}
use Rattle.std.specs.List.{flat_map}
use Rattle.std.proofs.lemmas.List.{take-append-le}
use Rattle.std.proofs.lemmas.Bool.Decides.{nat_tests}
use Rattle.history.specs.declared.key.Key.{Key}
use Rattle.history.specs.declared.key.KeyWrite.{KeyWrite}
use Rattle.history.specs.Histories.{Commit, History, HasRisingTimes, last, last_after}
use Rattle.history.specs.Floors.{Raising}
use Rattle.history.specs.Machine.{Machine, Gate, Shut, Due, MayBeOpen, OfGroup, OfFloor, commit_order, IsMachine}
use Rattle.history.specs.Submissions.{Submission, commit_made}
use Rattle.history.specs.Fronts.{OnFront, OnOpened, OnRaised}
use Rattle.history.specs.Steps.{Step, Began, Aborted, begun}
use Rattle.history.specs.Answers as answers
use Rattle.history.proofs.Machines.{step-machine}
use Rattle.history.proofs.Histories.{last_after-append}
use Rattle.history.proofs.Runs.{last-later}
use Rattle.law_image.specs.Values.{Value, IsValue}
use Rattle.disk.specs.Areas.{Areas, Image}
use Rattle.chains.specs.KeyWrites.{KeyWrites, IsOrdered, forgotten, latest}
use Rattle.chains.proofs.Commits.{latest-with_commit}
use Rattle.deltas.specs.Extents.{extent_bytes}
use Rattle.status.specs.declared.header.Header.{Header}
use Rattle.status.specs.TurnState.{TurnState}
use Rattle.law_layout.specs.Layouts.{Layout, live}
use Rattle.law_layout.specs.Layouts.{extents_of}
use Rattle.law_layout.specs.Turn.{Group, IsStoring}
use Rattle.snapshot.specs.Txn.{TxnValue, AreTxnWrites}
use Rattle.snapshot.specs.OpenTable.{with_opened, with_closed}
use Rattle.group.specs.CommitOrder as orders
use Rattle.group.specs.Queued.{QueuedValue, numbers_of, stored_as}
use Rattle.deltas.specs.Chains.{chain_of, first_number}
use Rattle.group.specs.Taking.{AreLeastFree}
use Rattle.group.specs.Tickets.{TicketValue}
use Rattle.group.specs.declared.commit_order.CommitHead.{CommitHead}
use Rattle.group.specs.declared.commit_order.TicketState.{TicketState}
use Rattle.group.specs.declared.commit_order.TicketState.TheVariants as ticket_state
use Rattle.group.specs.declared.answers.BeginFault.{BeginFault}
use Rattle.group.specs.declared.answers.BeginFault.TheVariants as fault
use Rattle.group.specs.declared.answers.Redeemed.{Redeemed}
use Rattle.group.specs.declared.answers.Redeemed.TheVariants as redeemed
use Rattle.group.specs.declared.answers.Submitted.{Submitted}
use Rattle.group.specs.declared.answers.Submitted.TheVariants as submitted
use Rattle.group.specs.declared.answers.SubmitFault.{SubmitFault}
use Rattle.group.specs.declared.answers.SubmitFault.TheVariants as refused
use Rattle.group.proofs.Sealed.{length-sealed}
use Rattle.group.specs.Values.{TransactionsValue, ordered, is_own, over, spare}
use Rattle.group.specs.Order.{AreBy, IsInOrder, StageFits}
use Rattle.group.specs.Calls as calls
use Rattle.group.specs.Submits.{Verdict, Queues, verdict, verdict_on_clock, verdict_on_conflict, first_conflict, free_count, bodies_for, time_now, queued_as}
use Rattle.group.specs.Submits.{with_queued, SubmitsOwn, Submits}
use Rattle.group.specs.Submits as verdicts
use Rattle.group.specs.declared.stage.GroupStage.{GroupStage}
use Rattle.group.specs.declared.stage.GroupStage.TheVariants.{NoGroup, Storing, Stored, Turning}
use Rattle.group.proofs.Publishing.{numbers-stored, length-stored}
use Rattle.group.proofs.Kept.{by-last}
use Rattle.group.proofs.Queueing.{keeps-queued}
use Rattle.store.specs.Calls as stores
use Rattle.floors.specs.Floors.{FloorsValue}
use Rattle.store.specs.Values.{StoreValue, HasRest}
use Rattle.store.specs.declared.job.Job.{Job}
use Rattle.store.specs.declared.job.JobWork.{JobWork}
use Rattle.store.specs.declared.job.JobWork.TheVariants.{Archive, Reclaim, Floor, Grow}
use Rattle.law_refinement.specs.Standing.{HasWrites, StandsInMemory, snapshots_of}
use Rattle.law_refinement.specs.OnDisk.{IsImageOf, packed, IsPacked, members_of, slot_for, group_of, written_before, IsAtStage, Works, StandsOnDisk}
use Rattle.law_refinement.specs.Stands.{KeepsWork, KeepsJobOf, StandsStill as Stands}
use Rattle.law_refinement.specs.Laws.{submission_of, event_of, RedeemsAs}
use Rattle.law_refinement.specs.Calls.{BeginsTo}
use Rattle.law_refinement.proofs.Memory.{last-is, opened-were, closed-were, own-is, begin-step, abort-step}
use Rattle.law_refinement.proofs.Conflicts.{rising-behind}
use Rattle.law_refinement.proofs.Orders.{order-beside}
use Rattle.law_refinement.proofs.Submitting.{order-has, order-sorted, order-rising, submit-step}
use Rattle.law_refinement.proofs.Answering.{redeem-answered}
use Rattle.law_refinement.proofs.Packed.{bodies-packed, packed-more, as-many}
use Rattle.law_refinement.proofs.Usages.{all-taken}
use Rattle.law_refinement.proofs.RunsCalls.{left-beside}

-- ---- what the open transactions and the tickets are is nothing to the disk

same-works : (header : Header) (v : StoreValue) (m : Machine Value) (opened : List (Option ℕ)) (heads : List CommitHead) (snapshots : List ℕ) → Works header v m
    → Works header (record v { transactions = record v.transactions { opened = opened; heads = heads } }) (record m { snapshots = snapshots })
same-works header v m opened heads snapshots w = record {
  log = w.log;
  heap = w.heap;
  packed = w.packed;
  group = w.group;
  job = w.job;
  sound = w.sound;
}

same-disk : (v : StoreValue) (m : Machine Value) (opened : List (Option ℕ)) (heads : List CommitHead) (snapshots : List ℕ) → StandsOnDisk v m
    → StandsOnDisk (record v { transactions = record v.transactions { opened = opened; heads = heads } }) (record m { snapshots = snapshots })
same-disk v m opened heads snapshots d = record {
  header = d.header;
  profile = d.profile;
  slots = d.slots;
  pieces = d.pieces;
  profile_built = d.profile_built;
  leaves = d.leaves;
  works = λ on. same-works d.header v m opened heads snapshots (d.works on);
}

opened-order : (v : TransactionsValue) (opened : List (Option ℕ)) → IsInOrder v → IsInOrder (record v { opened = opened })
opened-order v opened order = order-beside v opened v.slots v.used v.floors v.failed order.room order.slots_few order

-- the store that has these transactions
abbrev with_transactions : StoreValue → TransactionsValue → StoreValue
with_transactions v t = record v { transactions = t }

same-rest : (old new : StoreValue) (t : TransactionsValue) → HasRest old new → new.transactions ≡ t → with_transactions old t ≡ new
same-rest old new t rest is = let a = sym is in let b = sym rest.log in let c = sym rest.turn in let d = sym rest.disk in let j = sym rest.job.job in let k =
    sym rest.job.archived in let l = sym rest.job.runs_end in let n =
    sym rest.job.archive in λ i. record { transactions = a i; log = b i; turn = c i; job = j i; archived = k i; runs_end = l i; archive = n i; disk = d i }

-- what memory keeps of a job is kept where each snapshot that is open was so, or is from the archive mark on
keeps-opened : (o : Option Job) (archived newest : ℕ) (old new : List (Option ℕ)) (pending : Option (List KeyWrites)) (versions : List KeyWrites)
    (standing : FloorsValue) → ((s : ℕ) → Contains (snapshots_of new) s → Contains (snapshots_of old) s ⊎ (archived ≤ s))
    → KeepsJobOf o archived newest old pending versions standing → KeepsJobOf o archived newest new pending versions standing
keeps-opened None archived newest old new pending versions standing were keeps = tt
keeps-opened (Some job) archived newest old new pending versions standing were keeps = by-work job.work keeps
  where
    by-work : (work : JobWork) → KeepsWork work job.stage archived newest old pending versions standing
        → KeepsWork work job.stage archived newest new pending versions standing
    by-work (Archive run writer) keeps = keeps
    by-work (Floor scope floor floors) keeps = keeps
    by-work (Grow growth) keeps = absurd keeps
    by-work (Reclaim anchors source written) keeps = record {
      is = keeps.is;
      recent = λ s there. ⊎_elim (λ (was : Contains (snapshots_of old) s). keeps.recent s was) (λ (late : archived ≤ s). let upto = keeps.is in omega (
        arith,
        upto,
        late,
      )) (were s there);
      made = keeps.made;
    }

-- the store once a transaction has begun or is over
opened-stands : (tells : Bool) (v : StoreValue) (m : Machine Value) (opened : List (Option ℕ)) (snapshots : List ℕ) → Stands tells v m
    → ((s : ℕ) → Contains (snapshots_of opened) s → Contains (snapshots_of v.transactions.opened) s ⊎ (v.archived ≤ s))
    → StandsInMemory (record v.transactions { opened = opened }) (record m { snapshots = snapshots })
    → IsMachine IsValue (record m { snapshots = snapshots })
    → Stands tells (with_transactions v (record v.transactions { opened = opened })) (record m { snapshots = snapshots })
opened-stands tells v m opened snapshots stands were memory machine = record {
  memory = memory;
  machine = machine;
  order = opened-order v.transactions opened stands.order;
  in_step =
      record {
        slots = stands.in_step.slots;
        used = stands.in_step.used;
        turns = λ on. let was = stands.in_step.turns on in record { turning = was.turning; writing = was.writing; turn = was.turn; job = was.job };
      };
  gate = stands.gate;
  raises = stands.raises;
  marks = stands.marks;
  job = keeps-opened v.job v.archived (last m.published) v.transactions.opened opened v.transactions.pending v.transactions.versions v.transactions.floors were
      stands.job;
  disk = λ told. same-disk v m opened v.transactions.heads snapshots (stands.disk told);
  place = (left-beside tells v m (record m { snapshots = snapshots }) (record v.transactions { opened = opened }) stands.machine refl refl refl refl
      stands.place stands.runs).place;
  runs = (left-beside tells v m (record m { snapshots = snapshots }) (record v.transactions { opened = opened }) stands.machine refl refl refl refl stands.place
      stands.runs).runs;
}

same-stands : (tells : Bool) (old new : StoreValue) (m : Machine Value) → Stands tells old m → HasRest old new → new.transactions ≡ old.transactions
    → Stands tells new m
same-stands tells old new m stands rest same = subst (λ (x : StoreValue). Stands tells x m) (same-rest old new old.transactions rest same) stands

-- ---- begin

pub begin-stands : (tells : Bool) (old new : StoreValue) (answer : Result TxnValue BeginFault) (m : Machine Value) → Stands tells old m
    → stores.Begins old answer new → BeginsTo (Stands tells) m answer new
begin-stands tells old new (Ok txn) m stands begins =
    let is = begins.transactions in
    let done = begin-step old.transactions new.transactions (Ok txn) m stands.memory begins.transactions in
    let memory = subst (λ (t : TransactionsValue). StandsInMemory t (begun m)) is.new_is done.1 in (
      done.0,
      subst (λ (x : StoreValue). Stands tells x (begun m))
          (same-rest old new (record old.transactions { opened = with_opened old.transactions.opened txn.number txn.snapshot }) begins.rest is.new_is)
          (opened-stands tells old m (with_opened old.transactions.opened txn.number txn.snapshot) (begun m).snapshots stands
          (λ s there. ⊎_elim (λ (same : txn.snapshot ≡ s). inr (let newest = is.snapshot
          ∙ last-is old.transactions m stands.memory in let reached = stands.marks.1 in omega (arith, newest, reached, same)))
          (λ (was : Contains (snapshots_of old.transactions.opened) s). inl was)
          (opened-were old.transactions.opened txn.number txn.snapshot is.fresh s there))
          memory (step-machine IsValue m (begun m) (Began txn.snapshot) stands.machine done.0)),
    )
begin-stands tells old new (Err fault.NoMemory) m stands begins =
    let done = begin-step old.transactions new.transactions (Err fault.NoMemory) m stands.memory begins.transactions in
    (done.0, same-stands tells old new m stands begins.rest begins.transactions.1)
begin-stands tells old new (Err fault.Failed) m stands begins =
    let done = begin-step old.transactions new.transactions (Err fault.Failed) m stands.memory begins.transactions in
    (done.0, same-stands tells old new m stands begins.rest begins.transactions.1)

-- ---- abort

pub abort-stands : (tells : Bool) (old new : StoreValue) (txn : TxnValue) (m : Machine Value) → Stands tells old m → stores.Aborts old txn new
    → MatchBool (is_own old.transactions txn) ((after : Machine Value) × Step IsValue m (Aborted txn.snapshot) after
    × Stands tells new after) (Stands tells new m)
abort-stands tells old new txn m stands aborts =
    by-own (is_own old.transactions txn) refl aborts.transactions (abort-step old.transactions new.transactions txn m stands.memory aborts.transactions)
  where
    by-own : (b : Bool) → is_own old.transactions txn ≡ b → new.transactions ≡ cond b (over old.transactions txn.number) old.transactions
        → MatchBool b ((after : Machine Value) × Step IsValue m (Aborted txn.snapshot) after
        × StandsInMemory new.transactions after) (StandsInMemory new.transactions m)
        → MatchBool b ((after : Machine Value) × Step IsValue m (Aborted txn.snapshot) after × Stands tells new after) (Stands tells new m)
    by-own true own is done =
        let rest : List ℕ = done.1.0 in
        let after : done.0 ≡ record m { snapshots = rest } = done.1.2 in
        let memory : StandsInMemory (over old.transactions txn.number) (record m { snapshots = rest }) =
        subst (λ (x : Machine Value). StandsInMemory (over old.transactions txn.number) x) after
        (subst (λ (t : TransactionsValue). StandsInMemory t done.0) is done.2) in
        let machine = subst (λ (x : Machine Value). IsMachine IsValue x) after (step-machine IsValue m done.0 (Aborted txn.snapshot) stands.machine done.1) in
        let now =
        opened-stands tells old m (with_closed old.transactions.opened txn.number) rest stands
        (λ s there. inl (closed-were old.transactions.opened txn.number txn.snapshot (own-is old.transactions txn own) s there)) memory machine in (
          done.0,
          done.1,
          subst (λ (x : StoreValue). Stands tells x done.0) (same-rest old new (over old.transactions txn.number) aborts.rest is)
              (subst (λ (x : Machine Value). Stands tells (with_transactions old (over old.transactions txn.number)) x) (sym after) now),
        )
    by-own false own is done = same-stands tells old new m stands aborts.rest is

-- ---- redeem

redeemed-order : (v : TransactionsValue) (time : ℕ) → IsInOrder v → IsInOrder (record v { heads = orders.redeemed time v.heads })
redeemed-order v time order = record {
  split = order.split ∙ sym (redeemed-many time v.heads);
  pending = subst (λ (t : ℕ). MatchOption v.pending (Unit {0}) (λ versions. latest versions ≤ t)) (sym (redeemed-last time 0 v.heads)) order.pending;
  latest = subst (λ (t : ℕ). AreBy t v.versions v.queue) (sym (redeemed-last time 0 v.heads)) order.latest;
  group_within = order.group_within;
  group_few = order.group_few;
  stage_fits = order.stage_fits;
  stored = order.stored;
  out = order.out;
  room = order.room;
  slots_few = order.slots_few;
}
  where
    redeemed-many : (time : ℕ) (heads : List CommitHead) → length (orders.redeemed time heads) ≡ length heads
    redeemed-many time [] = refl
    redeemed-many time (head ∷ heads) =
        elim (head.time == time) as (λ (b : Bool). length (cond b (record head { awaited = false } ∷ heads) (head ∷ orders.redeemed time heads))
        ≡ length (head ∷ heads)) [
          | true ↦ refl
          | false ↦ ap suc (redeemed-many time heads)
        ]

    redeemed-last : (time before : ℕ) (heads : List CommitHead) → orders.last_time_after before (orders.redeemed time heads)
        ≡ orders.last_time_after before heads
    redeemed-last time before [] = refl
    redeemed-last time before (head ∷ heads) =
        elim (head.time == time) as
        (λ (b : Bool). orders.last_time_after before (cond b (record head { awaited = false } ∷ heads) (head ∷ orders.redeemed time heads))
        ≡ orders.last_time_after before (head ∷ heads)) [
          | true ↦ refl
          | false ↦ redeemed-last time head.time heads
        ]

redeemed-stands : (tells : Bool) (v : StoreValue) (m : Machine Value) (time : ℕ) → Stands tells v m
    → StandsInMemory (record v.transactions { heads = orders.redeemed time v.transactions.heads }) m
    → Stands tells (with_transactions v (record v.transactions { heads = orders.redeemed time v.transactions.heads })) m
redeemed-stands tells v m time stands memory = record {
  memory = memory;
  machine = stands.machine;
  order = redeemed-order v.transactions time stands.order;
  in_step =
      record {
        slots = stands.in_step.slots;
        used = stands.in_step.used;
        turns = λ on. let was = stands.in_step.turns on in record { turning = was.turning; writing = was.writing; turn = was.turn; job = was.job };
      };
  gate = stands.gate;
  raises = stands.raises;
  marks = stands.marks;
  job = stands.job;
  disk = λ told. same-disk v m v.transactions.opened (orders.redeemed time v.transactions.heads) m.snapshots (stands.disk told);
  place = (left-beside tells v m m (record v.transactions { heads = orders.redeemed time v.transactions.heads }) stands.machine refl refl refl refl stands.place
      stands.runs).place;
  runs = (left-beside tells v m m (record v.transactions { heads = orders.redeemed time v.transactions.heads }) stands.machine refl refl refl refl stands.place
      stands.runs).runs;
}

pub redeem-stands : (tells : Bool) (old new : StoreValue) (ticket : TicketValue) (answer : Redeemed) (m : Machine Value) → Stands tells old m
    → stores.Redeems old ticket answer new
    → RedeemsAs (answers.redeemed_by m ticket.time) answer × Stands tells new m
redeem-stands tells old new ticket answer m stands redeems =
    let done = redeem-answered old.transactions new.transactions ticket answer m stands.memory redeems.transactions in
    (done.0, by-mark (ticket.mark == old.transactions.mark) redeems.transactions done.1)
  where
    by-standing : (s : TicketState) → calls.AnswersTicket old.transactions ticket s answer new.transactions → StandsInMemory new.transactions m
        → Stands tells new m
    by-standing ticket_state.Unknown is memory = same-stands tells old new m stands redeems.rest is.1
    by-standing ticket_state.Waiting is memory = same-stands tells old new m stands redeems.rest is.1
    by-standing ticket_state.Published is memory =
        subst (λ (x : StoreValue). Stands tells x m)
        (same-rest old new (record old.transactions { heads = orders.redeemed ticket.time old.transactions.heads }) redeems.rest is.1)
        (redeemed-stands tells old m ticket.time stands (subst (λ (t : TransactionsValue). StandsInMemory t m) is.1 memory))

    by-mark : (b : Bool) → MatchBool b
        (calls.AnswersTicket old.transactions ticket (orders.state_of_ticket ticket.time (calls.order_of old.transactions)) answer new.transactions) ((answer
        ≡ redeemed.Stranger) × (new.transactions ≡ old.transactions))
        → StandsInMemory new.transactions m → Stands tells new m
    by-mark true is memory = by-standing (orders.state_of_ticket ticket.time (calls.order_of old.transactions)) is memory
    by-mark false is memory = same-stands tells old new m stands redeems.rest is.1

-- ---- submit

-- what is queued has some writes, and there was room in the log
pub record MayQueue (v : TransactionsValue) (writes : List (KeyWrite Value)) (time : ℕ) : Type 0 where
  pub some : 0 < length writes
  pub room : 2 < spare v
  pub later : orders.last_time v.heads < time

clock-queues : (t time : ℕ) (b : Bool) → Path Verdict (cond b (Queues t) verdicts.ClockEnds) (Queues time) → t ≡ time
clock-queues t time true is = cc
clock-queues t time false is = absurd cc

room-queues : (v : TransactionsValue) (t time : ℕ) (full few : Bool) → nat_le (spare v) 2 ≡ few
    → Path Verdict (cond full verdicts.HeapIsFull (cond few verdicts.StatusIsFull (verdict_on_clock t))) (Queues time) → (2 < spare v) × (t ≡ time)
room-queues v t time true few test is = absurd cc
room-queues v t time false true test is = absurd cc
room-queues v t time false false test is = (grind (arith, nat_tests), clock-queues t time (nat_lt t (2 ^ 63)) is)

conflict-queues : (v : TransactionsValue) (writes : List (KeyWrite Value)) (now time : ℕ) (o : Option Key) → 0 < length writes
    → verdict_on_conflict v writes now o ≡ Queues time → MayQueue v writes time
conflict-queues v writes now time (Some key) some is = absurd cc
conflict-queues v writes now time None some is =
    let found = room-queues v (time_now v now) time (nat_lt (free_count v) (length (bodies_for v writes))) (nat_le (spare v) 2) refl is in
    let at = found.1 in
    record { some = some; room = found.0; later = omega (arith, at) }

may-queue : (v : TransactionsValue) (snapshot : ℕ) (writes : List (KeyWrite Value)) (now time : ℕ) → verdict v snapshot writes now ≡ Queues time
    → MayQueue v writes time
may-queue v snapshot [] now time is = absurd cc
may-queue v snapshot (w ∷ ws) now time is = conflict-queues v (w ∷ ws) now time (first_conflict (ordered v) snapshot (w ∷ ws)) (omega arith) is

-- the commit waits with its records in the extents that it took
queued-packed : (v : TransactionsValue) (h : History Value) (c : Commit Value) (label time : ℕ) (numbers : List ℕ) (floors : ℕ → ℕ) → IsOrdered (ordered v)
    → HasWrites floors v.reclaimed (forgotten v.reclaimed (ordered v)) h → HasRisingTimes 0 h → ((relation : ℕ) → floors relation ≤ last h) → length numbers
    ≡ length (bodies_for v c.writes) → IsPacked h (queued_as v label time c.writes numbers) c
queued-packed v h c label time numbers floors sorted has rising reached many =
    let q : QueuedValue = queued_as v label time c.writes numbers in
    let images : List (List ℕ) = map extent_bytes (chain_of numbers (bodies_for v c.writes)) in
    let sealed : length images ≡ length numbers = length-sealed numbers (bodies_for v c.writes) (sym many) in
    let named : numbers_of q ≡ numbers = numbers-stored numbers images sealed in
    let long : length q.stored ≡ length numbers = length-stored numbers images sealed in
    let same : bodies_for v c.writes ≡ packed h c = bodies-packed floors v.reclaimed (ordered v) h c sorted has rising reached in
    record {
      many = long ∙ many ∙ ap (λ (l : List (List ℕ)). length l) same;
      stored = let back = sym named in λ i. stored_as (back i) (map extent_bytes (chain_of (back i) (same i)));
      first = ap first_number (sym named);
      extents = sym long;
    }

-- the floors are reached by what is ordered
floors-order : (m : Machine Value) → IsMachine IsValue m → (relation : ℕ) → m.floors relation ≤ last (commit_order m)
floors-order m machine relation =
    let reached = machine.floors_reached relation in
    let behind = rising-behind 0 m.published m.queue (order-rising m machine) in
    let later : last m.published ≤ last_after (last m.published) m.queue = last-later (last m.published) m.queue behind in
    let both = last_after-append 0 m.published m.queue in
    omega arith

-- one more that waits changes nothing of the group
group-same : (layout : Layout) (v : TransactionsValue) (m : Machine Value) (q : QueuedValue) (c : Commit Value) → v.group ≤ length v.queue → length v.queue
    ≡ length m.queue
    → members_of m.published (take v.group (v.queue ++ q ∷ [])) (take v.group (m.queue ++ c ∷ []))
    ≡ members_of m.published (take v.group v.queue) (take v.group m.queue)
group-same layout v m q c within same =
    let a : take v.group (v.queue ++ q ∷ []) ≡ take v.group v.queue = take-append-le v.group v.queue (q ∷ []) within in
    let b : take v.group (m.queue ++ c ∷ []) ≡ take v.group m.queue = take-append-le v.group m.queue (c ∷ []) (omega (arith, within, same)) in
    λ i. members_of m.published (a i) (b i)

written-same : (qs : List QueuedValue) (q : QueuedValue) (member extent : ℕ) → member ≤ length qs → written_before (qs ++ q ∷ []) member extent
    ≡ written_before qs member extent
written-same qs q member extent within = ap (λ (l : List QueuedValue). length (flat_map numbers_of l) + extent) (take-append-le member qs (q ∷ []) within)

stage-same : (header : Header) (layout : Layout) (group : Group) (qs : List QueuedValue) (q : QueuedValue) (size : ℕ) (s : GroupStage) (turn : Option TurnState)
    (areas : Areas) → StageFits s size qs → size ≤ length qs
    → IsAtStage header layout group qs s turn areas → IsAtStage header layout group (qs ++ q ∷ []) s turn areas
stage-same header layout group qs q size NoGroup turn areas fits within at = at
stage-same header layout group qs q size Stored turn areas fits within at = at
stage-same header layout group qs q size Turning turn areas fits within at = at
stage-same header layout group qs q size (Storing member extent) turn areas fits within at =
    let low = fits.1 in
    subst (λ (n : ℕ). IsStoring header layout group (take n (extents_of group.members)) (drop n (extents_of group.members)) areas)
    (sym (written-same qs q member extent (omega (arith, low, within)))) at

queued-works : (header : Header) (v : StoreValue) (m : Machine Value) (label time : ℕ) (numbers snapshots : List ℕ) (c : Commit Value)
    → IsInOrder v.transactions → StandsInMemory v.transactions m → IsMachine IsValue m → AreLeastFree v.transactions.usages numbers
    → length numbers ≡ length (bodies_for v.transactions c.writes) → Works header v m
    → Works header (with_transactions v (with_queued v.transactions label time c.writes numbers)) (record m {
      queue = m.queue ++ c ∷ [];
      snapshots = snapshots;
    })
queued-works header v m label time numbers snapshots c order memory machine least many w =
    let q : QueuedValue = queued_as v.transactions label time c.writes numbers in
    let long = as-many v.transactions.reclaimed v.transactions.versions v.transactions.queue m.queue memory.queue in
    let members = group-same w.log.layout v.transactions m q c order.group_within long in
    let entries : take v.transactions.group (v.transactions.queue ++ q ∷ []) ≡ take v.transactions.group v.transactions.queue =
    take-append-le v.transactions.group v.transactions.queue (q ∷ []) order.group_within in
    let groups : Path Group (group_of w.log.layout v.transactions m)
    (record {
      members = members_of m.published (take v.transactions.group (v.transactions.queue ++ q ∷ [])) (take v.transactions.group (m.queue ++ c ∷ []));
      slot = slot_for (length w.log.layout.slots) (take v.transactions.group (v.transactions.queue ++ q ∷ []));
    }) =
    (let a = sym members in let b = sym entries in λ i. record { members = a i; slot = slot_for (length w.log.layout.slots) (b i) }) in
    record {
      log = w.log;
      heap = record {
        kept = all-taken v.transactions.usages numbers (live w.log.layout) least w.heap.kept;
        times = w.heap.times;
        times_long = w.heap.times_long;
        facts = w.heap.facts;
      };
      packed = packed-more m.published v.transactions.queue m.queue q c w.packed
          (queued-packed v.transactions (commit_order m) c label time numbers m.floors (order-sorted v.transactions m memory)
          (order-has v.transactions m memory machine) (order-rising m machine) (floors-order m machine) many);
      group = record {
        rested = w.group.rested;
        rests = w.group.rests;
        at = subst (λ (g : Group). IsAtStage header w.log.layout g (v.transactions.queue ++ q
            ∷ []) v.transactions.stage v.turn (record v.disk.areas { status = w.group.rested })) groups
            (stage-same header w.log.layout (group_of w.log.layout v.transactions m) v.transactions.queue q v.transactions.group v.transactions.stage v.turn
            (record v.disk.areas { status = w.group.rested }) order.stage_fits order.group_within w.group.at);
      };
      job = w.job;
      sound = w.sound;
    }

queued-disk : (v : StoreValue) (m : Machine Value) (label time : ℕ) (numbers snapshots : List ℕ) (c : Commit Value) → IsInOrder v.transactions
    → StandsInMemory v.transactions m → IsMachine IsValue m → AreLeastFree v.transactions.usages numbers
    → length numbers ≡ length (bodies_for v.transactions c.writes) → StandsOnDisk v m
    → StandsOnDisk (with_transactions v (with_queued v.transactions label time c.writes numbers)) (record m {
      queue = m.queue ++ c ∷ [];
      snapshots = snapshots;
    })
queued-disk v m label time numbers snapshots c order memory machine least many d =
    let long = as-many v.transactions.reclaimed v.transactions.versions v.transactions.queue m.queue memory.queue in
    let size = memory.group in
    let front : take m.group (m.queue ++ c ∷ []) ≡ take m.group m.queue =
    take-append-le m.group m.queue (c ∷ []) (omega (arith, order.group_within, long, size)) in
    record {
      header = d.header;
      profile = d.profile;
      slots = d.slots;
      pieces = d.pieces;
      profile_built = d.profile_built;
      leaves = λ image left. by-front image (sym front) (d.leaves image left);
      works = λ on. queued-works d.header v m label time numbers snapshots c order memory machine least many (d.works on);
    }
  where
    by-gate : (image : Image) → take m.group m.queue ≡ take m.group (m.queue ++ c ∷ []) → (gate : Gate) → OnOpened (IsImageOf d.header image) m gate
        → OnOpened (IsImageOf d.header image) (record m { queue = m.queue ++ c ∷ []; snapshots = snapshots }) gate
    by-gate image same Shut now = now
    by-gate image same (Due change) now = now
    by-gate image same (MayBeOpen OfGroup) now = subst (λ (l : History Value). IsImageOf d.header image (m.published ++ l) m.floors) same now
    by-gate image same (MayBeOpen OfFloor) now = by-raised m.raising now
      where
        by-raised : (o : Option Raising) → OnRaised (IsImageOf d.header image) m o
            → OnRaised (IsImageOf d.header image) (record m { queue = m.queue ++ c ∷ []; snapshots = snapshots }) o
        by-raised None none = none
        by-raised (Some r) one = one

    by-front : (image : Image) → take m.group m.queue ≡ take m.group (m.queue ++ c ∷ []) → OnFront (IsImageOf d.header image) m
        → OnFront (IsImageOf d.header image) (record m { queue = m.queue ++ c ∷ []; snapshots = snapshots })
    by-front image same (inl old) = inl old
    by-front image same (inr new) = inr (by-gate image same m.gate new)

-- a commit is queued as its transaction ends
queued-stands : (tells : Bool) (v : StoreValue) (m : Machine Value) (label time : ℕ) (numbers snapshots : List ℕ) (opened : List (Option ℕ)) (c : Commit Value)
    → Stands tells v m → ((s : ℕ) → Contains (snapshots_of opened) s → Contains (snapshots_of v.transactions.opened) s ⊎ (v.archived ≤ s))
    → MayQueue v.transactions c.writes time → AreLeastFree v.transactions.usages numbers
    → length numbers ≡ length (bodies_for v.transactions c.writes)
    → StandsInMemory (record (with_queued v.transactions label time c.writes numbers) { opened = opened }) (record m {
      queue = m.queue ++ c ∷ [];
      snapshots = snapshots;
    })
    → IsMachine IsValue (record m { queue = m.queue ++ c ∷ []; snapshots = snapshots })
    → Stands tells (with_transactions v (record (with_queued v.transactions label time c.writes numbers) { opened = opened })) (record m {
      queue = m.queue ++ c
          ∷ [];
      snapshots = snapshots;
    })
queued-stands tells v m label time numbers snapshots opened c stands were may least many memory machine = record {
  memory = memory;
  machine = machine;
  order = opened-order (with_queued v.transactions label time c.writes numbers) opened
      (keeps-queued v.transactions label time c.writes numbers stands.order least many may.some
      (latest-with_commit time (ordered v.transactions) c.writes
      (let last = by-last (orders.last_time v.transactions.heads) v.transactions.versions v.transactions.queue stands.order.latest in omega (
        arith,
        last,
        may.later,
      ))) (let after = may.later in omega (arith, after)) may.room);
  in_step =
      record {
        slots = stands.in_step.slots;
        used = stands.in_step.used;
        turns = λ on. let was = stands.in_step.turns on in record { turning = was.turning; writing = was.writing; turn = was.turn; job = was.job };
      };
  gate = stands.gate;
  raises = stands.raises;
  marks = stands.marks;
  job = keeps-opened v.job v.archived (last m.published) v.transactions.opened opened v.transactions.pending v.transactions.versions v.transactions.floors were
      stands.job;
  disk = λ told.
      same-disk (with_transactions v (with_queued v.transactions label time c.writes numbers)) (record m {
        queue = m.queue ++ c
            ∷ [];
      }) opened (with_queued v.transactions label time c.writes numbers).heads snapshots
      (queued-disk v m label time numbers m.snapshots c stands.order stands.memory stands.machine least many (stands.disk told));
  place = (left-beside tells v m (record m {
    queue = m.queue ++ c ∷ [];
    snapshots = snapshots;
  }) (record (with_queued v.transactions label time c.writes numbers) { opened = opened }) stands.machine refl refl refl refl
      stands.place stands.runs).place;
  runs = (left-beside tells v m (record m {
    queue = m.queue ++ c ∷ [];
    snapshots = snapshots;
  }) (record (with_queued v.transactions label time c.writes numbers) { opened = opened }) stands.machine refl refl refl refl
      stands.place stands.runs).runs;
}

abbrev SubmitsTo : Bool → Machine Value → Submission Value → Result Submitted SubmitFault → StoreValue → Type 0
SubmitsTo tells m s answer new = (after : Machine Value) × Step IsValue m (event_of m s answer) after × Stands tells new after

module _ (tells : Bool) (old new : StoreValue) (txn : TxnValue) (label now : ℕ) (m : Machine Value) (stands : Stands tells old m)
    (own : is_own old.transactions txn ≡ true) (rest : HasRest old new) where
  abbrev ended : TransactionsValue
  ended = over old.transactions txn.number

  were : (s : ℕ) → Contains (snapshots_of (with_closed old.transactions.opened txn.number)) s → Contains (snapshots_of old.transactions.opened) s
      ⊎ (old.archived ≤ s)
  were s there = inl (closed-were old.transactions.opened txn.number txn.snapshot (own-is old.transactions txn own) s there)

  -- the transaction is over, and nothing else
  ends-alone : (answer : Result Submitted SubmitFault) (after : Machine Value) (snapshots : List ℕ)
      → Step IsValue m (event_of m (submission_of txn label now) answer) after → after ≡ record m { snapshots = snapshots }
      → StandsInMemory new.transactions after → new.transactions ≡ ended
      → SubmitsTo tells m (submission_of txn label now) answer new
  ends-alone answer after snapshots step is memory same =
      let machine =
      subst (λ (x : Machine Value). IsMachine IsValue x) is
      (step-machine IsValue m after (event_of m (submission_of txn label now) answer) stands.machine step) in
      let here : StandsInMemory ended (record m { snapshots = snapshots }) =
      subst (λ (x : Machine Value). StandsInMemory ended x) is (subst (λ (t : TransactionsValue). StandsInMemory t after) same memory) in
      let whole = opened-stands tells old m (with_closed old.transactions.opened txn.number) snapshots stands were here machine in (
        after,
        step,
        subst (λ (x : StoreValue). Stands tells x after) (same-rest old new ended rest same)
            (subst (λ (x : Machine Value). Stands tells (with_transactions old ended) x) (sym is) whole),
      )

  by-answer : (answer : Result Submitted SubmitFault) → SubmitsOwn ended txn label now answer new.transactions
      → ((after : Machine Value) × Step IsValue m (event_of m (submission_of txn label now) answer) after × StandsInMemory new.transactions after)
      → SubmitsTo tells m (submission_of txn label now) answer new
  by-answer (Ok (submitted.ReadOnly snapshot)) own done = by-failure old.transactions.failed own
    where
      by-failure : (b : Bool)
          → MatchBool b ((Path (Result Submitted SubmitFault) (Ok (submitted.ReadOnly snapshot)) (Err refused.Failed))
          × (new.transactions ≡ ended)) (verdicts.AnswersSubmit ended txn label now (Ok (submitted.ReadOnly snapshot)) new.transactions)
          → SubmitsTo tells m (submission_of txn label now) (Ok (submitted.ReadOnly snapshot)) new
      by-failure true own = absurd (let no = own.0 in cc)
      by-failure false own = ends-alone (Ok (submitted.ReadOnly snapshot)) done.0 done.1.3.0 done.1 done.1.3.2 done.2 own.2
  by-answer (Err why) own done = by-failure old.transactions.failed own
    where
      snapshots-of : (f : SubmitFault) → Step IsValue m (event_of m (submission_of txn label now) (Err f)) done.0 → (snapshots : List ℕ)
          × (done.0 ≡ record m { snapshots = snapshots })
      snapshots-of (refused.Conflict key) step = (step.3.0, step.3.2)
      snapshots-of refused.ClockEnd step = (step.3.0, step.3.2)
      snapshots-of refused.HeapFull step = (step.1.0, step.1.2)
      snapshots-of refused.StatusFull step = (step.1.0, step.1.2)
      snapshots-of refused.NoMemory step = (step.1.0, step.1.2)
      snapshots-of refused.Failed step = (step.1.0, step.1.2)
      snapshots-of refused.Stranger step = (step.1.0, step.1.2)

      by-failure : (b : Bool)
          → MatchBool b ((Path (Result Submitted SubmitFault) (Err why) (Err refused.Failed))
          × (new.transactions ≡ ended)) (verdicts.AnswersSubmit ended txn label now (Err why) new.transactions)
          → SubmitsTo tells m (submission_of txn label now) (Err why) new
      by-failure true own = let at = snapshots-of why done.1 in ends-alone (Err why) done.0 at.0 done.1 at.1 done.2 own.1
      by-failure false own = let at = snapshots-of why done.1 in ends-alone (Err why) done.0 at.0 done.1 at.1 done.2 own.1
  by-answer (Ok (submitted.Queued ticket)) own done = by-failure old.transactions.failed own
    where
      by-failure : (b : Bool)
          → MatchBool b ((Path (Result Submitted SubmitFault) (Ok (submitted.Queued ticket)) (Err refused.Failed))
          × (new.transactions ≡ ended)) (verdicts.AnswersSubmit ended txn label now (Ok (submitted.Queued ticket)) new.transactions)
          → SubmitsTo tells m (submission_of txn label now) (Ok (submitted.Queued ticket)) new
      by-failure true own = absurd (let no = own.0 in cc)
      by-failure false own =
          let c : Commit Value = commit_made m (submission_of txn label now) in
          let snapshots : List ℕ = done.1.3.0 in
          let is : done.0 ≡ record m { queue = m.queue ++ c ∷ []; snapshots = snapshots } = done.1.3.2 in
          let join = own.2 in
          let machine =
          subst (λ (x : Machine Value). IsMachine IsValue x) is
          (step-machine IsValue m done.0 (event_of m (submission_of txn label now) (Ok (submitted.Queued ticket))) stands.machine done.1) in
          let t : TransactionsValue = with_queued ended label ticket.time txn.writes join.numbers in
          let memory : StandsInMemory t (record m { queue = m.queue ++ c ∷ []; snapshots = snapshots }) =
          subst (λ (x : Machine Value). StandsInMemory t x) is (subst (λ (y : TransactionsValue). StandsInMemory y done.0) join.new_is done.2) in
          let whole =
          queued-stands tells old m label ticket.time join.numbers snapshots (with_closed old.transactions.opened txn.number) c stands were
          (may-queue old.transactions txn.snapshot txn.writes now ticket.time own.0) join.least join.many memory machine in (
            done.0,
            done.1,
            subst (λ (x : StoreValue). Stands tells x done.0) (same-rest old new t rest join.new_is)
                (subst (λ (x : Machine Value). Stands tells (with_transactions old t) x) (sym is) whole),
          )

pub submit-stands : (tells : Bool) (old new : StoreValue) (txn : TxnValue) (label now : ℕ) (answer : Result Submitted SubmitFault) (m : Machine Value)
    → Stands tells old m
    → AreTxnWrites txn.state txn.snapshot txn.writes → label < 2 ^ 64 → stores.Submits old txn label now answer new
    → MatchBool (is_own old.transactions txn) ((after : Machine Value) × Step IsValue m (event_of m (submission_of txn label now) answer) after
    × Stands tells new after) (Stands tells new m)
submit-stands tells old new txn label now answer m stands are low submits =
    by-own (is_own old.transactions txn) refl submits.transactions
    (submit-step old.transactions new.transactions txn label now answer m stands.memory stands.machine are low submits.transactions)
  where
    by-own : (b : Bool) → is_own old.transactions txn ≡ b
        → MatchBool b (SubmitsOwn (over old.transactions txn.number) txn label now answer new.transactions) ((answer ≡ Err refused.Stranger)
        × (new.transactions ≡ old.transactions))
        → MatchBool b ((after : Machine Value) × Step IsValue m (event_of m (submission_of txn label now) answer) after
        × StandsInMemory new.transactions after) (StandsInMemory new.transactions m)
        → MatchBool b ((after : Machine Value) × Step IsValue m (event_of m (submission_of txn label now) answer) after
        × Stands tells new after) (Stands tells new m)
    by-own true own ends done = by-answer tells old new txn label now m stands own submits.rest answer ends done
    by-own false own is done = same-stands tells old new m stands submits.rest is.1

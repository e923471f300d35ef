-- Calls that change only which transactions are open and which commits are awaited.
use Rattle.std.proofs.Common.{◌≡◌, ℕ, ◌^◌, Bool, true, false, List, Result, Ok, Err, refl, arith, ap, sym, subst, ◌∙◌, inl, inr}
use Rattle.std.proofs.Common.{Option}
use Rattle.std.specs.Prelude.{MatchBool}
use Rattle.history.specs.Histories.{History}
use Rattle.history.specs.Machine.{Machine, IsMachine}
use Rattle.history.specs.Answers as answers
use Rattle.history.specs.Steps.{Began, Aborted, begun}
use Rattle.history.proofs.Machines.{step-machine}
use Rattle.law_image.specs.Values.{Value, IsValue}
use Rattle.snapshot.specs.Txn.{TxnValue}
use Rattle.group.specs.Tickets.{TicketValue}
use Rattle.group.specs.declared.answers.BeginFault.{BeginFault}
use Rattle.group.specs.declared.answers.BeginFault.TheVariants as fault
use Rattle.group.specs.declared.answers.Redeemed.{Redeemed}
use Rattle.commits.specs.Values.{CommitsValue, is_own}
use Rattle.log_base.specs.Bases.{mark_of}
use Rattle.log_extents.specs.Chains.{IsNumberOf}
use Rattle.log_store.specs.Live.{LiveValue}
use Rattle.log_store.specs.Named.{NamedValue}
use Rattle.log_store.specs.Values.{LogStoreValue, ReclaimValue}
use Rattle.log_store.specs.Calls as calls
use Rattle.log_store.specs.Calls.{with_commits}
use Rattle.log_store.specs.declared.job.Job.{Job}
use Rattle.floors.specs.Floors.{FloorsValue}
use Rattle.law_refinement.specs.Laws.{RedeemsAs}
use Rattle.law_commits.specs.Standing.{StandsInMemory}
use Rattle.law_commits.specs.Laws as memory
use Rattle.law_commits.proofs.Memory.{begin-step, abort-step}
use Rattle.law_commits.proofs.Answering.{redeem-step}
use Rattle.law_log_store.specs.Standing.{StandsOnHeap, StopsBy, StopsOnHeap}
use Rattle.law_log_store.specs.Calls.{KeepsDisk}
use Rattle.law_log_store.proofs.Calls.{AreNamesAlone, begin-alone, abort-alone, redeem-alone, begin-keeps, abort-keeps, redeem-keeps}
use Rattle.law_log_steps.specs.Store.{OnDisk, AreFresh, gate_of, gate_left, raising_of, HasAllMade, JobReaches, ReclaimReaches, HasMarks, IsLeft, IsWriting}
use Rattle.law_log_steps.specs.Store.{EndsInHeap, IsStoreOf}
use Rattle.law_log_steps.specs.Laws.{BeginsTo, Goes}

-- what the disk stands for is kept
pub on-disk : (old new : LogStoreValue) (h queue : History Value) (floors : ℕ → ℕ) → KeepsDisk old new → new.commits.failed ≡ old.commits.failed
    → OnDisk old h queue floors → OnDisk new h queue floors
on-disk old new h queue floors keeps same disk =
    subst (λ (b : Bool). MatchBool b (StopsOnHeap new h queue floors) (StandsOnHeap new h queue floors)) (sym same) (by-failed old.commits.failed disk)
  where
    by-failed : (b : Bool) → MatchBool b (StopsOnHeap old h queue floors) (StandsOnHeap old h queue floors)
        → MatchBool b (StopsOnHeap new h queue floors) (StandsOnHeap new h queue floors)
    by-failed true stops =
        subst (λ (b : Bool). StopsBy b new h queue floors) (sym same) (keeps.stops old.commits.failed h queue floors stops)
    by-failed false stands = keeps.stands h queue floors stands

-- the machine has the same group, which is as far as it was
pub record HasSameGroup (m n : Machine Value) : Type 0 where
  pub most : n.most ≡ m.most
  pub group : n.group ≡ m.group
  pub raising : n.raising ≡ m.raising
  pub gate : n.gate ≡ m.gate
  pub failed : n.failed ≡ m.failed

pub same-group : (m : Machine Value) → HasSameGroup m m
same-group m = record { most = refl; group = refl; raising = refl; gate = refl; failed = refl }

-- the store writes the same: its group, its job and its reclaim are as far as they were, and its log is the same
pub record WritesSame (old new : LogStoreValue) : Type 0 where
  pub group : new.commits.group ≡ old.commits.group
  pub floors : new.commits.floors ≡ old.commits.floors
  pub reclaimed : new.commits.reclaimed ≡ old.commits.reclaimed
  pub named : new.named ≡ old.named
  pub turn : new.turn ≡ old.turn
  pub job : new.job ≡ old.job
  pub reclaim : new.reclaim ≡ old.reclaim
  pub live : new.live ≡ old.live
  pub next : new.room.next ≡ old.room.next

pub writes-all-same : (old new : LogStoreValue) → new ≡ old → WritesSame old new
writes-all-same old new is = record {
  group = ap (λ (v : LogStoreValue). v.commits.group) is;
  floors = ap (λ (v : LogStoreValue). v.commits.floors) is;
  reclaimed = ap (λ (v : LogStoreValue). v.commits.reclaimed) is;
  named = ap (λ (v : LogStoreValue). v.named) is;
  turn = ap (λ (v : LogStoreValue). v.turn) is;
  job = ap (λ (v : LogStoreValue). v.job) is;
  reclaim = ap (λ (v : LogStoreValue). v.reclaim) is;
  live = ap (λ (v : LogStoreValue). v.live) is;
  next = ap (λ (v : LogStoreValue). v.room.next) is;
}

-- what memory has forgotten is archived still
pub marks-on : (old new : LogStoreValue) → HasMarks old → WritesSame old new → HasMarks new
marks-on old new is writes = record {
  reclaimed = (
      let low = is.reclaimed in
      let same = writes.reclaimed in
      let upto = ap (λ (n : NamedValue). n.upto) writes.named in
      omega (arith, low, same, upto)
      );
  base = (
      let low = is.base in
      let same = writes.reclaimed in
      let mark = ap (λ (l : LiveValue). mark_of l.chains) writes.live in
      omega (arith, low, same, mark)
      );
  job = subst (λ (n : NamedValue). JobReaches n.upto new.job) (sym writes.named)
      (subst (λ (j : Option Job). JobReaches old.named.upto j) (sym writes.job) is.job);
  reclaim = subst (λ (n : NamedValue). ReclaimReaches n.upto new.reclaim) (sym writes.named)
      (subst (λ (r : Option ReclaimValue). ReclaimReaches old.named.upto r) (sym writes.reclaim) is.reclaim);
}

pub ends-on : (old new : LogStoreValue) → EndsInHeap old → WritesSame old new → EndsInHeap new
ends-on old new ends writes = subst (IsNumberOf (2 ^ 20)) (sym writes.next) ends

-- where what a stop may leave is kept too
pub writes-on : (tells : Bool) (old new : LogStoreValue) (m n : Machine Value) → IsWriting tells old m → WritesSame old new → HasSameGroup m n
    → (m.failed ≡ true → StopsBy false old m.published m.queue m.floors → StopsBy false new n.published n.queue n.floors) → IsWriting tells new n
writes-on tells old new m n is writes same stops = record {
  most = same.most ∙ is.most;
  group = same.group ∙ is.group ∙ sym writes.group;
  raising = same.raising ∙ is.raising ∙ ap raising_of (sym writes.job);
  made = subst (λ (f : FloorsValue). HasAllMade f new.job) (sym writes.floors)
      (subst (λ (j : Option Job). HasAllMade old.commits.floors j) (sym writes.job) is.made);
  gate = λ works. same.gate ∙ is.gate (sym same.failed ∙ works) ∙ (λ i. gate_of (sym writes.turn i) (sym writes.job i));
  left = λ fails. by-left (sym same.failed ∙ fails) (is.left (sym same.failed ∙ fails));
}
  where
    by-left : m.failed ≡ true → IsLeft tells old m → IsLeft tells new n
    by-left fails (inl gate) = inl (same.gate ∙ gate ∙ (λ i. gate_left (sym writes.turn i) (sym writes.job i)))
    by-left fails (inr calm) = inr (record {
      gate = same.gate ∙ calm.gate ∙ (λ i. gate_of (sym writes.turn i) (sym writes.job i));
      stops = λ told. stops fails (calm.stops told);
    })

-- the machine has the same history, queue and floors
pub record IsAlike (m n : Machine Value) : Type 0 where
  pub published : m.published ≡ n.published
  pub queue : m.queue ≡ n.queue
  pub floors : m.floors ≡ n.floors
  pub group : HasSameGroup m n

pub disk-alike : (v : LogStoreValue) (m n : Machine Value) → IsAlike m n → OnDisk v m.published m.queue m.floors → OnDisk v n.published n.queue n.floors
disk-alike v m n alike disk =
    subst (λ (h : History Value). OnDisk v h n.queue n.floors) alike.published
    (subst (λ (queue : History Value). OnDisk v m.published queue n.floors) alike.queue
    (subst (λ (floors : ℕ → ℕ). OnDisk v m.published m.queue floors) alike.floors disk))

pub stops-alike : (v : LogStoreValue) (m n : Machine Value) → IsAlike m n → StopsBy false v m.published m.queue m.floors
    → StopsBy false v n.published n.queue n.floors
stops-alike v m n alike stops =
    subst (λ (h : History Value). StopsBy false v h n.queue n.floors) alike.published
    (subst (λ (queue : History Value). StopsBy false v m.published queue n.floors) alike.queue
    (subst (λ (floors : ℕ → ℕ). StopsBy false v m.published m.queue floors) alike.floors stops))

pub itself : (m : Machine Value) → IsAlike m m
itself m = record { published = refl; queue = refl; floors = refl; group = same-group m }

pub other-snapshots : (m n : Machine Value) (snapshots : List ℕ) → n ≡ record m { snapshots = snapshots } → IsAlike m n
other-snapshots m n snapshots is = record {
  published = ap (λ (x : Machine Value). x.published) (sym is);
  queue = ap (λ (x : Machine Value). x.queue) (sym is);
  floors = ap (λ (x : Machine Value). x.floors) (sym is);
  group = subst (HasSameGroup m) (sym is) (record { most = refl; group = refl; raising = refl; gate = refl; failed = refl });
}

pub store-keeps : (tells : Bool) (old new : LogStoreValue) (m n : Machine Value) → IsStoreOf tells old m → KeepsDisk old new
    → AreNamesAlone old.commits new.commits
    → new ≡ with_commits old new.commits → StandsInMemory new.commits n → IsMachine IsValue n → IsAlike m n → IsStoreOf tells new n
store-keeps tells old new m n is keeps alone new_is stands machine alike = record {
  memory = stands;
  machine = machine;
  writing = writes-on tells old new m n is.writing writes alike.group
      (λ fails stops. stops-alike new m n alike (keeps.stops false m.published m.queue m.floors stops));
  fresh = subst AreFresh (sym alone.new_is) is.fresh;
  marks = marks-on old new is.marks writes;
  ends = ends-on old new is.ends writes;
  disk = λ told.
      disk-alike new m n alike
      (on-disk old new m.published m.queue m.floors keeps (ap (λ (c : CommitsValue). c.failed) alone.new_is) (is.disk told));
}
  where
    writes : WritesSame old new
    writes = record {
      group = ap (λ (c : CommitsValue). c.group) alone.new_is;
      floors = ap (λ (c : CommitsValue). c.floors) alone.new_is;
      reclaimed = ap (λ (c : CommitsValue). c.reclaimed) alone.new_is;
      named = ap (λ (v : LogStoreValue). v.named) new_is;
      turn = ap (λ (v : LogStoreValue). v.turn) new_is;
      job = ap (λ (v : LogStoreValue). v.job) new_is;
      reclaim = ap (λ (v : LogStoreValue). v.reclaim) new_is;
      live = ap (λ (v : LogStoreValue). v.live) new_is;
      next = ap (λ (v : LogStoreValue). v.room.next) new_is;
    }

-- ---- transactions

pub begin-stands : (tells : Bool) (old new : LogStoreValue) (answer : Result TxnValue BeginFault) (m : Machine Value) → IsStoreOf tells old m
    → calls.Begins old answer new → BeginsTo tells m answer new
begin-stands tells old new answer m is begins = by-answer answer (begin-step old.commits new.commits answer m is.memory begins.is)
  where
    keeps : (n : Machine Value) → StandsInMemory new.commits n → IsMachine IsValue n → IsAlike m n → IsStoreOf tells new n
    keeps n stands machine alike =
        store-keeps tells old new m n is (begin-keeps old new answer begins) (begin-alone old.commits new.commits answer begins.is)
        begins.new_is stands machine alike

    by-answer : (a : Result TxnValue BeginFault) → memory.BeginsTo m a new.commits → BeginsTo tells m a new
    by-answer (Ok txn) to = (
      to.0,
      keeps (begun m) to.1 (step-machine IsValue m (begun m) (Began txn.snapshot) is.machine to.0) (record {
        published = refl;
        queue = refl;
        floors = refl;
        group = record { most = refl; group = refl; raising = refl; gate = refl; failed = refl };
      }),
    )
    by-answer (Err fault.NoMemory) to = (to.0, keeps m to.1 is.machine (itself m))
    by-answer (Err fault.Failed) to = (to.0, keeps m to.1 is.machine (itself m))

pub abort-stands : (tells : Bool) (old new : LogStoreValue) (txn : TxnValue) (m : Machine Value) → IsStoreOf tells old m → calls.Aborts old txn new
    → MatchBool (is_own old.commits txn) (Goes tells new m (Aborted txn.snapshot)) (IsStoreOf tells new m)
abort-stands tells old new txn m is aborts = by-own (is_own old.commits txn) (abort-step old.commits new.commits txn m is.memory aborts.is)
  where
    keeps : (n : Machine Value) → StandsInMemory new.commits n → IsMachine IsValue n → IsAlike m n → IsStoreOf tells new n
    keeps n stands machine alike =
        store-keeps tells old new m n is (abort-keeps old new txn aborts) (abort-alone old.commits new.commits txn aborts.is)
        aborts.new_is stands machine alike

    by-own : (b : Bool) → MatchBool b (memory.Goes new.commits m (Aborted txn.snapshot)) (StandsInMemory new.commits m)
        → MatchBool b (Goes tells new m (Aborted txn.snapshot)) (IsStoreOf tells new m)
    by-own true to = (
      to.0,
      to.1,
      keeps to.0 to.2 (step-machine IsValue m to.0 (Aborted txn.snapshot) is.machine to.1) (other-snapshots m to.0 (to.1).0 (to.1).2),
    )
    by-own false to = keeps m to is.machine (itself m)

pub redeem-stands : (tells : Bool) (old new : LogStoreValue) (ticket : TicketValue) (answer : Redeemed) (m : Machine Value) → IsStoreOf tells old m
    → calls.Redeems old ticket answer new → RedeemsAs (answers.redeemed_by m ticket.time) answer × IsStoreOf tells new m
redeem-stands tells old new ticket answer m is redeems =
    let to = redeem-step old.commits new.commits ticket answer m is.memory is.machine redeems.is in (
      to.0,
      store-keeps tells old new m m is (redeem-keeps old new ticket answer redeems) (redeem-alone old.commits new.commits ticket answer redeems.is)
          redeems.new_is to.1 is.machine (itself m),
    )

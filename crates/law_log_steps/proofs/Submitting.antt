-- A submit is a step of the machine.
use Rattle.std.proofs.Common.{◌≡◌, ◌≢◌, ℕ, ◌<◌, ◌≤◌, ◌^◌, ◌≡◌, nat_lt, Bool, true, false, cond, List, [], ◌∷◌, ◌++◌, length, Option, None, Some}
use Rattle.std.proofs.Common.{Result, Ok, Err, refl, arith, ap, sym, subst, ◌∙◌, append-nil, append_assoc}
use Rattle.std.specs.Prelude.{IsTrue, MatchBool}
use Rattle.std.proofs.lemmas.Bool.Decides.{nat_tests}
use Rattle.history.specs.declared.key.Key.{Key}
use Rattle.history.specs.declared.key.KeyWrite.{KeyWrite}
use Rattle.history.specs.Histories.{History, MayAllFollow}
use Rattle.history.specs.Machine.{Machine, IsMachine, commit_order}
use Rattle.history.specs.Submissions as submissions
use Rattle.history.specs.Submissions.{Submission, commit_made}
use Rattle.history.specs.Steps.{Step}
use Rattle.history.proofs.Filters.{AllByRecursion-append}
use Rattle.history.proofs.Histories.{may_follow-behind}
use Rattle.history.proofs.Machines.{step-machine}
use Rattle.law_image.specs.Values.{Value, IsValue}
use Rattle.clock.specs.Commit.{next_time}
use Rattle.snapshot.specs.Txn.{TxnValue, AreTxnWrites}
use Rattle.group.specs.Submits.{Verdict, Reads, Conflicts, HeapIsFull, StatusIsFull, ClockEnds, Queues, verdict_on_clock, IsRefusalOf, first_conflict}
use Rattle.group.specs.declared.answers.Submitted.{Submitted}
use Rattle.group.specs.declared.answers.Submitted.TheVariants as submitted
use Rattle.group.specs.declared.answers.SubmitFault.{SubmitFault}
use Rattle.group.specs.declared.answers.SubmitFault.TheVariants as refused
use Rattle.commits.specs.Values.{CommitsValue, WaitingValue, is_own, over, ordered, ordered_mark}
use Rattle.chains.specs.KeyWrites.{with_commit}
use Rattle.commits.specs.Steps.{time_now, with_waiting}
use Rattle.log_store.specs.Values.{LogStoreValue, IsInStep}
use Rattle.log_store.specs.Submits.{Submits, SubmitsOwn, AnswersSubmit, verdict, verdict_on_conflict, has_room, spent}
use Rattle.law_refinement.specs.Laws.{submission_of, event_of}
use Rattle.law_commits.specs.Standing.{StandsInMemory}
use Rattle.law_commits.specs.Laws as memory
use Rattle.law_commits.proofs.Names.{assigned-is}
use Rattle.law_commits.proofs.Submitting.{submit-step}
use Rattle.law_log_store.specs.Standing.{StandsOnHeap, StopsBy, StopsOnHeap}
use Rattle.law_log_store.specs.Calls.{queued_by}
use Rattle.law_log_store.proofs.Calls.{submit-steps, failed-queues-none}
use Rattle.law_log_steps.specs.Store.{OnDisk, AreFresh, IsStoreOf}
use Rattle.law_log_steps.proofs.Keeping.{HasSameGroup, WritesSame, writes-all-same, ends-on, marks-on, writes-on}
use Rattle.law_log_steps.specs.Laws.{Goes}
use Rattle.law_log_steps.proofs.Pumping.{marks-after}

-- ---- what a verdict says

module _ (v : LogStoreValue) (snapshot : ℕ) (writes : List (KeyWrite Value)) (now : ℕ) where
  -- that some writes have no conflict
  abbrev AreClear : Type 0
  AreClear = (writes ≢ []) × (first_conflict (ordered v.commits) snapshot writes ≡ None)

  abbrev Says : Verdict → Type 0
  Says Reads = writes ≡ []
  Says (Conflicts key) = first_conflict (ordered v.commits) snapshot writes ≡ Some key
  Says HeapIsFull = AreClear
  Says StatusIsFull = ⊥
  Says ClockEnds = AreClear × (2 ^ 63 ≤ time_now v.commits now)
  Says (Queues time) = AreClear × (time ≡ time_now v.commits now) × (time < 2 ^ 63)

verdict-says : (v : LogStoreValue) (snapshot : ℕ) (writes : List (KeyWrite Value)) (now : ℕ) → Says v snapshot writes now (verdict v snapshot writes now)
verdict-says v snapshot [] now = refl
verdict-says v snapshot (w ∷ ws) now = by-conflict (first_conflict (ordered v.commits) snapshot (w ∷ ws)) refl
  where
    some : (w ∷ ws) ≢ []
    some same = let none : length (w ∷ ws) ≡ 0 = ap (λ (l : List (KeyWrite Value)). length l) same in absurd (omega (arith, none))

    by-clock : first_conflict (ordered v.commits) snapshot (w ∷ ws) ≡ None → (b : Bool) → nat_lt (time_now v.commits now) (2 ^ 63) ≡ b
        → Says v snapshot (w ∷ ws) now (cond b (Queues (time_now v.commits now)) ClockEnds)
    by-clock none true early = ((some, none), refl, grind (arith, nat_tests))
    by-clock none false late = ((some, none), grind (arith, nat_tests))

    by-room : first_conflict (ordered v.commits) snapshot (w ∷ ws) ≡ None → (b : Bool)
        → Says v snapshot (w ∷ ws) now (cond b (verdict_on_clock (time_now v.commits now)) HeapIsFull)
    by-room none true = by-clock none (nat_lt (time_now v.commits now) (2 ^ 63)) refl
    by-room none false = (some, none)

    by-conflict : (o : Option Key) → first_conflict (ordered v.commits) snapshot (w ∷ ws) ≡ o
        → Says v snapshot (w ∷ ws) now (verdict_on_conflict v (w ∷ ws) now o)
    by-conflict None none = by-room none (has_room v (w ∷ ws))
    by-conflict (Some key) is = is

says : (v : LogStoreValue) (snapshot : ℕ) (writes : List (KeyWrite Value)) (now : ℕ) (said : Verdict) → verdict v snapshot writes now ≡ said
    → Says v snapshot writes now said
says v snapshot writes now said is = subst (Says v snapshot writes now) is (verdict-says v snapshot writes now)

-- ---- what is answered, as memory has it

-- want of memory is told of some writes alone
wants-some : (v : LogStoreValue) (snapshot : ℕ) (writes : List (KeyWrite Value)) (now : ℕ) → IsRefusalOf (verdict v snapshot writes now) refused.NoMemory
    → writes ≢ []
wants-some v snapshot [] now want = absurd want
wants-some v snapshot (w ∷ ws) now want = λ same.
    let none : length (w ∷ ws) ≡ 0 = ap (λ (l : List (KeyWrite Value)). length l) same in absurd (omega (arith, none))

-- of a store that works
answers-so : (v new : LogStoreValue) (txn : TxnValue) (label now : ℕ) (answer : Result Submitted SubmitFault) → v.commits.failed ≡ false
    → AnswersSubmit v txn label now answer new → memory.AnswersSubmit v.commits txn label now answer new.commits
answers-so v new txn label now (Ok (submitted.ReadOnly snapshot)) works is =
    (works, says v txn.snapshot txn.writes now Reads is.0, ap (λ (x : LogStoreValue). x.commits) is.2)
answers-so v new txn label now (Ok (submitted.Queued ticket)) works is =
    let said = says v txn.snapshot txn.writes now (Queues ticket.time) is.0 in
    (works, (said.0).0, (said.0).1, said.1, said.2, ap (λ (x : LogStoreValue). x.commits) is.2)
answers-so v new txn label now (Err (refused.Conflict key)) works is =
    (works, says v txn.snapshot txn.writes now (Conflicts key) is.0, ap (λ (x : LogStoreValue). x.commits) is.1)
answers-so v new txn label now (Err refused.HeapFull) works is =
    let said = says v txn.snapshot txn.writes now HeapIsFull is.0 in (works, said.0, said.1, ap (λ (x : LogStoreValue). x.commits) is.1)
answers-so v new txn label now (Err refused.StatusFull) works is = says v txn.snapshot txn.writes now StatusIsFull is.0
answers-so v new txn label now (Err refused.ClockEnd) works is =
    let said = says v txn.snapshot txn.writes now ClockEnds is.0 in
    (works, (said.0).0, (said.0).1, said.1, ap (λ (x : LogStoreValue). x.commits) is.1)
answers-so v new txn label now (Err refused.NoMemory) works is =
    (works, wants-some v txn.snapshot txn.writes now is.0, ap (λ (x : LogStoreValue). x.commits) is.1)
answers-so v new txn label now (Err refused.Failed) works is = absurd is.0
answers-so v new txn label now (Err refused.Stranger) works is = absurd is.0

-- ---- the machine after it

-- the commit that the machine queues, if it does
abbrev made : Machine Value → Submission Value → Result Submitted SubmitFault → History Value
made m s (Ok (submitted.ReadOnly snapshot)) = []
made m s (Ok (submitted.Queued ticket)) = commit_made m s ∷ []
made m s (Err why) = []

-- what it has besides
pub record IsLeft (m n : Machine Value) (more : History Value) : Type 0 where
  pub published : n.published ≡ m.published
  pub queue : n.queue ≡ m.queue ++ more
  pub floors : n.floors ≡ m.floors
  pub group : HasSameGroup m n

gives-up : (m n : Machine Value) (snapshots : List ℕ) → n ≡ record m { snapshots = snapshots } → IsLeft m n []
gives-up m n snapshots is = record {
  published = ap (λ (x : Machine Value). x.published) is;
  queue = ap (λ (x : Machine Value). x.queue) is ∙ sym (append-nil m.queue);
  floors = ap (λ (x : Machine Value). x.floors) is;
  group = subst (HasSameGroup m) (sym is) (record { most = refl; group = refl; raising = refl; gate = refl; failed = refl });
}

is-left : (m n : Machine Value) (s : Submission Value) (answer : Result Submitted SubmitFault) → Step IsValue m (event_of m s answer) n
    → IsLeft m n (made m s answer)
is-left m n s (Ok (submitted.ReadOnly snapshot)) step = gives-up m n (step.3).0 (step.3).2
is-left m n s (Ok (submitted.Queued ticket)) step =
    let is = (step.3).2 in record {
      published = ap (λ (x : Machine Value). x.published) is;
      queue = ap (λ (x : Machine Value). x.queue) is;
      floors = ap (λ (x : Machine Value). x.floors) is;
      group = subst (HasSameGroup m) (sym is) (record { most = refl; group = refl; raising = refl; gate = refl; failed = refl });
    }
is-left m n s (Err (refused.Conflict key)) step = gives-up m n (step.3).0 (step.3).2
is-left m n s (Err refused.ClockEnd) step = gives-up m n (step.3).0 (step.3).2
is-left m n s (Err refused.HeapFull) step = gives-up m n (step.1).0 (step.1).2
is-left m n s (Err refused.StatusFull) step = gives-up m n (step.1).0 (step.1).2
is-left m n s (Err refused.NoMemory) step = gives-up m n (step.1).0 (step.1).2
is-left m n s (Err refused.Failed) step = gives-up m n (step.1).0 (step.1).2
is-left m n s (Err refused.Stranger) step = gives-up m n (step.1).0 (step.1).2

-- ---- the commits after it

-- memory works on, and what waits is fresh
pub record WorksOn (old new : CommitsValue) : Type 0 where
  pub failed : new.failed ≡ old.failed
  pub group : new.group ≡ old.group
  pub fresh : AreFresh old → AreFresh new

spent-works : (old new : CommitsValue) (number : ℕ) → new ≡ over old number → WorksOn old new
spent-works old new number is = record {
  failed = ap (λ (v : CommitsValue). v.failed) is;
  group = ap (λ (v : CommitsValue). v.group) is;
  fresh = λ fresh. subst AreFresh (sym is) fresh;
}

waits-on : (old new : CommitsValue) (number label time : ℕ) (writes : List (KeyWrite Value)) → new ≡ with_waiting (over old number) label time writes
    → WorksOn old new
waits-on old new number label time writes is = record {
  failed = ap (λ (v : CommitsValue). v.failed) is;
  group = ap (λ (v : CommitsValue). v.group) is;
  fresh = λ fresh.
      subst AreFresh (sym is)
      (AllByRecursion-append (λ (w : WaitingValue). w.reclaimed ≡ old.reclaimed) old.queue
      (record { time = time; label = label; after = with_commit (ordered old) time writes; reclaimed = ordered_mark old } ∷ []) fresh
      (marks-after old.reclaimed old.reclaimed old.queue refl fresh, tt));
}

works-on : (old new : CommitsValue) (number : ℕ) (txn : TxnValue) (label now : ℕ) (answer : Result Submitted SubmitFault)
    → memory.AnswersSubmit (over old number) txn label now answer new → WorksOn old new
works-on old new number txn label now (Ok (submitted.ReadOnly snapshot)) is = spent-works old new number is.2
works-on old new number txn label now (Ok (submitted.Queued ticket)) is = waits-on old new number label ticket.time txn.writes is.5
works-on old new number txn label now (Err (refused.Conflict key)) is = spent-works old new number is.2
works-on old new number txn label now (Err refused.HeapFull) is = spent-works old new number is.3
works-on old new number txn label now (Err refused.StatusFull) is = absurd is
works-on old new number txn label now (Err refused.ClockEnd) is = spent-works old new number is.4
works-on old new number txn label now (Err refused.NoMemory) is = spent-works old new number is.2
works-on old new number txn label now (Err refused.Failed) is = spent-works old new number is.1
works-on old new number txn label now (Err refused.Stranger) is = absurd is

-- the commit that the store queues is the machine's
same-made : (v : CommitsValue) (m : Machine Value) (number : ℕ) (txn : TxnValue) (label now : ℕ) (new : CommitsValue) (answer : Result Submitted SubmitFault)
    → StandsInMemory v m → IsMachine IsValue m → memory.AnswersSubmit (over v number) txn label now answer new
    → made m (submission_of txn label now) answer ≡ queued_by txn label answer
same-made v m number txn label now new (Ok (submitted.ReadOnly snapshot)) stands machine is = refl
same-made v m number txn label now new (Ok (submitted.Queued ticket)) stands machine is =
    let time : submissions.time_now m now ≡ ticket.time = sym (is.3 ∙ ap (λ (t : ℕ). next_time t now) (assigned-is v m stands machine)) in
    ap (λ (t : ℕ). record { time = t; label = label; writes = txn.writes } ∷ []) time
same-made v m number txn label now new (Err why) stands machine is = refl

-- ---- the store after it

same-writes : (v new : LogStoreValue) (txn : TxnValue) (label now : ℕ) (answer : Result Submitted SubmitFault) → AnswersSubmit v txn label now answer new
    → WritesSame v new
same-writes v new txn label now (Ok (submitted.ReadOnly snapshot)) is = writes-all-same v new is.2
same-writes v new txn label now (Ok (submitted.Queued ticket)) is = record {
  group = ap (λ (x : LogStoreValue). x.commits.group) is.2;
  floors = ap (λ (x : LogStoreValue). x.commits.floors) is.2;
  reclaimed = ap (λ (x : LogStoreValue). x.commits.reclaimed) is.2;
  named = ap (λ (x : LogStoreValue). x.named) is.2;
  turn = ap (λ (x : LogStoreValue). x.turn) is.2;
  job = ap (λ (x : LogStoreValue). x.job) is.2;
  reclaim = ap (λ (x : LogStoreValue). x.reclaim) is.2;
  live = ap (λ (x : LogStoreValue). x.live) is.2;
  next = ap (λ (x : LogStoreValue). x.room.next) is.2;
}
same-writes v new txn label now (Err why) is = writes-all-same v new is.1

module _ (tells : Bool) (old new : LogStoreValue) (txn : TxnValue) (label now : ℕ) (answer : Result Submitted SubmitFault) (m : Machine Value)
    (step : IsInStep old) (is : IsStoreOf tells old m) (submits : Submits old txn label now answer new) where
  abbrev queued : History Value
  queued = queued_by txn label answer

  -- the disk with what is queued
  disk-then : IsTrue tells → MayAllFollow IsValue (m.published ++ m.queue) queued → new.commits.failed ≡ old.commits.failed
      → OnDisk new m.published (m.queue ++ queued) m.floors
  disk-then told may same =
      subst (λ (b : Bool). MatchBool b (StopsOnHeap new m.published (m.queue ++ queued) m.floors) (StandsOnHeap new m.published (m.queue ++ queued) m.floors))
      (sym same) (by-failed old.commits.failed refl (is.disk told))
    where
      by-failed : (b : Bool) → old.commits.failed ≡ b
          → MatchBool b (StopsOnHeap old m.published m.queue m.floors) (StandsOnHeap old m.published m.queue m.floors)
          → MatchBool b (StopsOnHeap new m.published (m.queue ++ queued) m.floors) (StandsOnHeap new m.published (m.queue ++ queued) m.floors)
      by-failed true failed stops =
          let none = failed-queues-none old new txn label now answer failed submits in
          subst (λ (queue : History Value). StopsOnHeap new m.published queue m.floors)
          (sym (ap (λ (more : History Value). m.queue ++ more) none.0 ∙ append-nil m.queue))
          (subst (λ (b : Bool). StopsBy b new m.published m.queue m.floors) (sym same)
          ((none.1).stops old.commits.failed m.published m.queue m.floors stops))
      by-failed false works stands = submit-steps old new txn label now answer m.published m.queue m.floors step stands may submits

  -- an own transaction
  own-stands : AreTxnWrites txn.state txn.snapshot txn.writes → label < 2 ^ 64 → is_own old.commits txn ≡ true → WritesSame old new
      → memory.AnswersSubmit (over old.commits txn.number) txn label now answer new.commits
      → Goes tells new m (event_of m (submission_of txn label now) answer)
  own-stands are range own writes answers =
      let to = submit-step old.commits new.commits txn label now answer m is.memory is.machine are range own answers in
      let n : Machine Value = to.0 in
      let left = is-left m n (submission_of txn label now) answer to.1 in
      let machine : IsMachine IsValue n = step-machine IsValue m n (event_of m (submission_of txn label now) answer) is.machine to.1 in
      let works = works-on old.commits new.commits txn.number txn label now answer answers in
      let queue : n.queue ≡ m.queue ++ queued =
      left.queue ∙ ap (λ (more : History Value). m.queue ++ more)
      (same-made old.commits m txn.number txn label now new.commits answer is.memory is.machine answers) in
      let order : commit_order n ≡ (m.published ++ m.queue) ++ queued =
      (λ i. left.published i ++ queue i) ∙ sym (append_assoc m.published m.queue queued) in
      let may : MayAllFollow IsValue (m.published ++ m.queue) queued =
      may_follow-behind IsValue [] (m.published ++ m.queue) queued (subst (λ (h : History Value). MayAllFollow IsValue [] h) order machine.history) in (
        n,
        to.1,
        record {
          memory = to.2;
          machine = machine;
          writing = writes-on tells old new m n is.writing writes left.group (λ fails stops.
              let none = failed-queues-none old new txn label now answer (is.memory.failed ∙ fails) submits in
              subst (λ (h : History Value). StopsBy false new h n.queue n.floors) (sym left.published)
              (subst (λ (q : History Value). StopsBy false new m.published q n.floors)
              (sym (queue ∙ ap (λ (more : History Value). m.queue ++ more) none.0 ∙ append-nil m.queue))
              (subst (λ (floors : ℕ → ℕ). StopsBy false new m.published m.queue floors) (sym left.floors)
              ((none.1).stops false m.published m.queue m.floors stops))));
          fresh = works.fresh is.fresh;
          marks = marks-on old new is.marks writes;
          ends = ends-on old new is.ends writes;
          disk = λ told. subst (λ (h : History Value). OnDisk new h n.queue n.floors) (sym left.published)
              (subst (λ (q : History Value). OnDisk new m.published q n.floors) (sym queue)
              (subst (λ (floors : ℕ → ℕ). OnDisk new m.published (m.queue ++ queued) floors) (sym left.floors) (disk-then told may works.failed)));
        },
      )

  pub submit-stands : AreTxnWrites txn.state txn.snapshot txn.writes → label < 2 ^ 64
      → MatchBool (is_own old.commits txn) (Goes tells new m (event_of m (submission_of txn label now) answer)) (IsStoreOf tells new m)
  submit-stands are range = by-own (is_own old.commits txn) refl submits
    where
      writes-spent : WritesSame (spent old txn.number) new → WritesSame old new
      writes-spent same = record {
        group = same.group;
        floors = same.floors;
        reclaimed = same.reclaimed;
        named = same.named;
        turn = same.turn;
        job = same.job;
        reclaim = same.reclaim;
        live = same.live;
        next = same.next;
      }

      by-failed : is_own old.commits txn ≡ true → (b : Bool) → old.commits.failed ≡ b
          → MatchBool b ((answer ≡ Err refused.Failed) × (new ≡ spent old txn.number)) (AnswersSubmit (spent old txn.number) txn label now answer new)
          → Goes tells new m (event_of m (submission_of txn label now) answer)
      by-failed own true failed so =
          own-stands are range own (writes-spent (writes-all-same (spent old txn.number) new so.1))
          (subst (λ (a : Result Submitted SubmitFault). memory.AnswersSubmit (over old.commits txn.number) txn label now a new.commits) (sym so.0)
          (failed, ap (λ (x : LogStoreValue). x.commits) so.1))
      by-failed own false works so =
          own-stands are range own (writes-spent (same-writes (spent old txn.number) new txn label now answer so))
          (answers-so (spent old txn.number) new txn label now answer works so)

      by-own : (b : Bool) → is_own old.commits txn ≡ b
          → MatchBool b (SubmitsOwn (spent old txn.number) txn label now answer new) ((answer ≡ Err refused.Stranger) × (new ≡ old))
          → MatchBool b (Goes tells new m (event_of m (submission_of txn label now) answer)) (IsStoreOf tells new m)
      by-own true own so = by-failed own old.commits.failed refl so
      by-own false stranger so = subst (λ (v : LogStoreValue). IsStoreOf tells v m) (sym so.1) is

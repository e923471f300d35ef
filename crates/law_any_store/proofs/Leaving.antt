-- What the calls leave in memory, in either layout.
use Rattle.std.proofs.Common.{◌≡◌, ℕ, ◌==◌, ◌≤◌, nat_le, nat_lt, min, max, ◌&&◌, Bool, true, false, cond, length, Option, None, Some}
use Rattle.std.proofs.Common.{Result, Ok, Err}
use Rattle.std.proofs.Common.{refl, arith, ap, sym, subst, ◌∙◌, inl, inr}
use Rattle.std.specs.Prelude.{MatchBool, MatchOption, MatchResult}
use Rattle.std.proofs.lemmas.Bool.Decides.{nat_tests}
use Rattle.snapshot.specs.Txn.{TxnValue}
use Rattle.group.specs.Calls as slot_memory
use Rattle.group.specs.CommitOrder.{is_awaited, last_published}
use Rattle.group.specs.Submits as slot_submits
use Rattle.group.specs.Tickets.{TicketValue}
use Rattle.group.specs.Values.{TransactionsValue}
use Rattle.group.specs.Values as slot_values
use Rattle.group.specs.declared.commit_order.TicketState.TheVariants as ticket_state
use Rattle.group.specs.declared.answers.BeginFault.{BeginFault}
use Rattle.group.specs.declared.answers.BeginFault.TheVariants as fault
use Rattle.group.specs.declared.answers.PumpFault.{PumpFault}
use Rattle.group.specs.declared.answers.PumpFault.TheVariants as pump
use Rattle.group.specs.declared.answers.Redeemed.{Redeemed}
use Rattle.group.specs.declared.answers.Redeemed.TheVariants as redeemed
use Rattle.group.specs.declared.answers.Submitted.{Submitted}
use Rattle.group.specs.declared.answers.Submitted.TheVariants as submitted
use Rattle.group.specs.declared.answers.SubmitFault.{SubmitFault}
use Rattle.group.specs.declared.answers.SubmitFault.TheVariants as refused
use Rattle.store.specs.declared.job.StartFault.{StartFault}
use Rattle.commits.specs.Calls as commits
use Rattle.commits.specs.Steps as commit_steps
use Rattle.commits.specs.Values.{CommitsValue, is_own, over, order_of}
use Rattle.log_writer.specs.Turns.{Stage, Writing, Syncing, Opening, Settling, Done}
use Rattle.log_writer.specs.Writer.{WriterState}
use Rattle.log_writer.specs.Writer as writers
use Rattle.log_store.specs.Values.{LogStoreValue, ReclaimValue}
use Rattle.log_store.specs.Pumps as log_steps
use Rattle.log_store.specs.Pumps.{Advances, AdvancesGroup, bars_groups, BeginsOrWaits, BeginsGroup, TakesStep, after_call}
use Rattle.log_store.specs.Submits as log_submits
use Rattle.log_store.specs.Archives as log_archives
use Rattle.log_store.specs.Gates.{waits_at, waits_to_open}
use Rattle.log_store.specs.Reclaiming as log_reclaim_steps
use Rattle.log_store.specs.Reclaims as log_reclaims
use Rattle.log_store.specs.declared.reclaim.ReclaimStage.{ReclaimStage}
use Rattle.log_store.specs.declared.reclaim.ReclaimStage.TheVariants as reclaims
use Rattle.log_roots.specs.Turning.{RootTurnState}
use Rattle.log_roots.specs.Turning as turning
use Rattle.log_store.specs.Jobs as log_jobs
use Rattle.log_store.specs.Runs as log_runs
use Rattle.log_store.specs.declared.job.Job as log_job
use Rattle.log_store.specs.declared.job.JobDid as log_did
use Rattle.log_store.specs.declared.job.JobStage as log_stages
use Rattle.log_store.specs.declared.job.JobStage.TheVariants as log_stage
use Rattle.log_store.specs.declared.job.JobWork.{JobWork}
use Rattle.log_store.specs.declared.job.JobWork.TheVariants.{Floor, Archive}
use Rattle.log_store.specs.declared.job.StartFault as log_starts
use Rattle.log_store.specs.declared.pump.Did as log_group
use Rattle.log_store.specs.declared.pump.Did.TheVariants as did
use Rattle.any_store.specs.declared.engine.Engine.TheVariants.{Slots, Log}
use Rattle.any_store.specs.declared.steps.Did.{Did}
use Rattle.any_store.specs.declared.steps.JobDid.{JobDid}
use Rattle.any_store.specs.Values.{StoreValue, commits_in, commits_of}
use Rattle.any_store.specs.Calls as stores
use Rattle.any_store.specs.Jobs.{StartsArchive, StartsReclaim, StartsFloor, StartsGrowth, PumpsJob}
use Rattle.law_refinement.specs.Leaving as slots
use Rattle.law_refinement.proofs.Leaving as slot_leaves
use Rattle.law_refinement.proofs.JobLeaving as job_leaves
use Rattle.law_refinement.proofs.Told as slot_told
use Rattle.law_any_store.specs.Leaving.{Leaves, LeftByBegin, LeftBySubmit, LeftByRedeem}

-- ---- steps

of-slots : (t t' : TransactionsValue) → slots.Leaves t t' → Leaves (commits_in t) (commits_in t')
of-slots t t' is = record { mark = is.mark; opened = is.opened; heads = is.heads }

same-left : (v v' : CommitsValue) → v' ≡ v → Leaves v v'
same-left v v' same = record {
  mark = ap (λ (c : CommitsValue). c.mark) same;
  opened = ap (λ (c : CommitsValue). c.opened) same;
  heads = ap (λ (c : CommitsValue). c.heads) same;
}

-- behind one that leaves memory so
left-then : (v mid v' : CommitsValue) → Leaves v mid → v' ≡ mid → Leaves v v'
left-then v mid v' is same = record {
  mark = ap (λ (c : CommitsValue). c.mark) same ∙ is.mark;
  opened = ap (λ (c : CommitsValue). c.opened) same ∙ is.opened;
  heads = ap (λ (c : CommitsValue). c.heads) same ∙ is.heads;
}

grouped-left : (v : CommitsValue) → Leaves v (commit_steps.grouped 1024 v)
grouped-left v = by-test ((v.group == 0) && nat_lt 0 (length v.queue))
  where
    by-test : (b : Bool) → Leaves v (cond b (record v { group = min 1024 (length v.queue) }) v)
    by-test true = record { mark = refl; opened = refl; heads = refl }
    by-test false = record { mark = refl; opened = refl; heads = refl }

call-left : (l : LogStoreValue) (w : WriterState) (stage : Stage) → Leaves l.commits (after_call l w stage).commits
call-left l w (Writing done rest) = record { mark = refl; opened = refl; heads = refl }
call-left l w Syncing = record { mark = refl; opened = refl; heads = refl }
call-left l w Opening = record { mark = refl; opened = refl; heads = refl }
call-left l w Settling = record { mark = refl; opened = refl; heads = refl }
call-left l w Done = record { mark = refl; opened = refl; heads = refl }

advance-left : (tells : Bool) (w : WriterState) (l l' : LogStoreValue) (answer : Result log_group.Did PumpFault) → Advances tells w l answer l'
    → Leaves l.commits l'.commits
advance-left tells w l l' answer advances = by-answer answer advances.answer
  where
    by-answer : (a : Result log_group.Did PumpFault)
        → MatchResult a (λ what. (what ≡ log_steps.did_of (writers.did w.stage) l.commits.group) × (l' ≡ record (after_call l w w.stage) { disk = l'.disk }))
        (λ why. (why ≡ pump.Failed) × (l' ≡ record (log_steps.with_failure l) { disk = l'.disk }))
        → Leaves l.commits l'.commits
    by-answer (Ok what) so = left-then l.commits (after_call l w w.stage).commits l'.commits (call-left l w w.stage) (ap (λ
        (x : LogStoreValue). x.commits) so.1)
    by-answer (Err why) so =
        left-then l.commits (commit_steps.broken l.commits) l'.commits (record { mark = refl; opened = refl; heads = refl })
        (ap (λ (x : LogStoreValue). x.commits) so.1)

log-pump-leaves : (tells : Bool) (l l' : LogStoreValue) (answer : Result log_group.Did PumpFault) → log_steps.Pumps tells l answer l'
    → Leaves l.commits l'.commits
log-pump-leaves tells l l' answer pumps = by-failed l.commits.failed pumps
  where
    same : l' ≡ l → Leaves l.commits l'.commits
    same is = same-left l.commits l'.commits (ap (λ (x : LogStoreValue). x.commits) is)

    by-standing : (x : LogStoreValue) (t : Option WriterState) → Leaves l.commits x.commits → AdvancesGroup tells x t answer l' → Leaves l.commits l'.commits
    by-standing x None left advances = absurd advances
    by-standing x (Some w) left advances =
        let then = advance-left tells w x l' answer advances in
        record { mark = then.mark ∙ left.mark; opened = then.opened ∙ left.opened; heads = then.heads ∙ left.heads }

    by-job : (b : Bool) → MatchBool b ((answer ≡ Err pump.Busy) × (l' ≡ l)) (BeginsGroup tells l answer l') → Leaves l.commits l'.commits
    by-job true busy = same busy.1
    by-job false (inl none) = same none.1
    by-job false (inr begun) =
        by-standing begun.0 (begun.0).turn
        (left-then l.commits (commit_steps.grouped 1024 l.commits) (begun.0).commits (grouped-left l.commits)
        (ap (λ (x : LogStoreValue). x.commits) (begun.1).new_is)) begun.2

    by-queue : (b : Bool) → MatchBool b ((answer ≡ Ok did.Idle) × (l' ≡ l)) (BeginsOrWaits tells l answer l') → Leaves l.commits l'.commits
    by-queue true idle = same idle.1
    by-queue false so = by-job (bars_groups l.job) so

    by-gate : (w : WriterState) (b : Bool) → MatchBool b ((answer ≡ Err pump.Busy) × (l' ≡ l)) (Advances tells w l answer l') → Leaves l.commits l'.commits
    by-gate w true busy = same busy.1
    by-gate w false next = advance-left tells w l l' answer next

    by-turn : (t : Option WriterState) → TakesStep tells l t answer l' → Leaves l.commits l'.commits
    by-turn None next = by-queue (length l.commits.queue == 0) next
    by-turn (Some w) next = by-gate w (waits_to_open l.reclaim w.stage) next

    by-failed : (b : Bool) → MatchBool b ((answer ≡ Err pump.Failed) × (l' ≡ l)) (TakesStep tells l l.turn answer l') → Leaves l.commits l'.commits
    by-failed true is = same is.1
    by-failed false takes = by-turn l.turn takes

-- ---- steps of a job, where the log lies in the heap

-- memory is left so, and no name has left it
pub record LeavesNames (old new : CommitsValue) : Type 0 where
  pub left : Leaves old new
  pub reclaimed : new.reclaimed ≡ old.reclaimed

same-names : (v v' : CommitsValue) → v' ≡ v → LeavesNames v v'
same-names v v' same = record { left = same-left v v' same; reclaimed = ap (λ (c : CommitsValue). c.reclaimed) same }

names-then : (v mid v' : CommitsValue) → LeavesNames v mid → v' ≡ mid → LeavesNames v v'
names-then v mid v' is same =
    record { left = left-then v mid v' is.left same; reclaimed = ap (λ (c : CommitsValue). c.reclaimed) same ∙ is.reclaimed }

broken-names : (v : CommitsValue) → LeavesNames v (commit_steps.broken v)
broken-names v = record { left = record { mark = refl; opened = refl; heads = refl }; reclaimed = refl }

-- what the work of a job puts into memory
work-left : (v : CommitsValue) (work : JobWork) → LeavesNames v (log_jobs.commits_with work v)
work-left v (Floor floor kept) = record { left = record { mark = refl; opened = refl; heads = refl }; reclaimed = refl }
work-left v (Archive archive archives) = same-names v v refl

entry-left : (l : LogStoreValue) (job : log_job.Job) (w : WriterState) (stage : Stage) → LeavesNames l.commits (log_jobs.after_call l job w stage).commits
entry-left l job w (Writing done rest) = same-names l.commits l.commits refl
entry-left l job w Syncing = same-names l.commits l.commits refl
entry-left l job w Opening = same-names l.commits l.commits refl
entry-left l job w Settling = work-left l.commits job.work
entry-left l job w Done = same-names l.commits l.commits refl

advance-entry-left : (tells : Bool) (job : log_job.Job) (w : WriterState) (l l' : LogStoreValue) (said : Result log_did.JobDid PumpFault)
    → log_jobs.Advances tells job w l said l' → LeavesNames l.commits l'.commits
advance-entry-left tells job w l l' said advances = by-answer said advances.answer
  where
    by-answer : (a : Result log_did.JobDid PumpFault)
        → MatchResult a (λ what. (what ≡ log_jobs.did_of (writers.did w.stage)) × (l' ≡ record (log_jobs.after_call l job w w.stage) { disk = l'.disk }))
        (λ why. (why ≡ pump.Failed) × (l' ≡ record (log_steps.with_failure l) { disk = l'.disk }))
        → LeavesNames l.commits l'.commits
    by-answer (Ok what) so = names-then l.commits (log_jobs.after_call l job w w.stage).commits l'.commits (entry-left l job w w.stage)
        (ap (λ (x : LogStoreValue). x.commits) so.1)
    by-answer (Err why) so =
        names-then l.commits (commit_steps.broken l.commits) l'.commits (broken-names l.commits) (ap (λ (x : LogStoreValue). x.commits) so.1)

-- a call of the writing of a run
run-left : (tells : Bool) (job : log_job.Job) (l l' : LogStoreValue) (said : Result log_did.JobDid PumpFault) → log_runs.WritesRun tells job l said l'
    → LeavesNames l.commits l'.commits
run-left tells job l l' said writes = by-answer said writes.answer
  where
    by-answer : (a : Result log_did.JobDid PumpFault)
        → MatchResult a (λ what. (what ≡ log_runs.did_at job.stage)
        × (l' ≡ record (log_runs.with_job_as l (log_runs.behind job true)) { disk = l'.disk }))
        (λ why. (why ≡ pump.Failed) × (l' ≡ record (log_steps.with_failure (log_runs.with_job_as l (log_runs.behind job false))) { disk = l'.disk }))
        → LeavesNames l.commits l'.commits
    by-answer (Ok what) so = same-names l.commits l'.commits (ap (λ (x : LogStoreValue). x.commits) so.1)
    by-answer (Err why) so =
        names-then l.commits (commit_steps.broken l.commits) l'.commits (broken-names l.commits) (ap (λ (x : LogStoreValue). x.commits) so.1)

-- a call of a reclaim, which takes nothing from memory
turn-kept : (l : LogStoreValue) (r : ReclaimValue) (t : RootTurnState) (k : turning.Stage) → (log_reclaim_steps.behind_turn l r t k).commits ≡ l.commits
turn-kept l r t turning.Writing = refl
turn-kept l r t turning.Syncing = refl
turn-kept l r t turning.Turning = refl
turn-kept l r t turning.Settling = refl
turn-kept l r t turning.Done = refl

behind-kept : (l : LogStoreValue) (r : ReclaimValue) (k : ReclaimStage) → (log_reclaim_steps.behind l r k).commits ≡ l.commits
behind-kept l r (reclaims.Writing anchors base) = refl
behind-kept l r (reclaims.Rolling roll) = refl
behind-kept l r (reclaims.Turning t) = turn-kept l r t t.stage

reclaim-left : (tells : Bool) (r : ReclaimValue) (l l' : LogStoreValue) (said : Result log_did.JobDid PumpFault)
    → log_reclaim_steps.StepsReclaim tells r l said l' → LeavesNames l.commits l'.commits
reclaim-left tells r l l' said steps = by-gate (waits_at l.turn r.stage) steps
  where
    by-answer : (a : Result log_did.JobDid PumpFault)
        → MatchResult a (λ what. (what ≡ log_reclaim_steps.did_at r.stage) × (l' ≡ record (log_reclaim_steps.behind l r r.stage) { disk = l'.disk }))
        (λ why. (why ≡ pump.Failed) × (l' ≡ record (log_steps.with_failure l) { disk = l'.disk }))
        → LeavesNames l.commits l'.commits
    by-answer (Ok what) so = same-names l.commits l'.commits (ap (λ (x : LogStoreValue). x.commits) so.1 ∙ behind-kept l r r.stage)
    by-answer (Err why) so =
        names-then l.commits (commit_steps.broken l.commits) l'.commits (broken-names l.commits) (ap (λ (x : LogStoreValue). x.commits) so.1)

    by-gate : (b : Bool) → MatchBool b ((said ≡ Err pump.Busy) × (l' ≡ l)) (log_reclaim_steps.AdvancesReclaim tells r l said l')
        → LeavesNames l.commits l'.commits
    by-gate true busy = same-names l.commits l'.commits (ap (λ (x : LogStoreValue). x.commits) busy.1)
    by-gate false advances = by-answer said advances.answer

pub log-job-leaves : (tells : Bool) (l l' : LogStoreValue) (said : Result log_did.JobDid PumpFault) → log_jobs.PumpsJob tells l said l'
    → LeavesNames l.commits l'.commits
log-job-leaves tells l l' said pumps = by-failed l.commits.failed pumps
  where
    same : (x : LogStoreValue) → x.commits ≡ l.commits → l' ≡ x → LeavesNames l.commits l'.commits
    same x kept is = same-names l.commits l'.commits (ap (λ (x : LogStoreValue). x.commits) is ∙ kept)

    by-at : (x : LogStoreValue) (job : log_job.Job) (k : log_stages.JobStage) → x.commits ≡ l.commits → log_jobs.AdvancesAt tells job k x said l'
        → LeavesNames l.commits l'.commits
    by-at x job (log_stage.Writing writer) kept advances = absurd advances
    by-at x job (log_stage.Ready waited) kept advances = absurd advances
    by-at x job (log_stage.Entering w) kept advances =
        subst (λ (v : CommitsValue). LeavesNames v l'.commits) kept (advance-entry-left tells job w x l' said advances)

    by-begun : (x : LogStoreValue) (j : Option log_job.Job) → x.commits ≡ l.commits → log_jobs.AdvancesEntry tells j x said l'
        → LeavesNames l.commits l'.commits
    by-begun x None kept advances = absurd advances
    by-begun x (Some job) kept advances = by-at x job job.stage kept advances

    by-turn : (job : log_job.Job) (t : Option WriterState) → log_jobs.StepsReady tells job t l said l' → LeavesNames l.commits l'.commits
    by-turn job None (inl none) = same l refl none.1
    by-turn job None (inr enters) = by-begun enters.0 (enters.0).job (ap (λ (x : LogStoreValue). x.commits) (enters.1).new_is) enters.2
    by-turn job (Some w) busy = same (log_jobs.at_stage l job (log_stage.Ready true)) refl busy.1

    by-stage : (job : log_job.Job) (k : log_stages.JobStage) → log_jobs.StepsAt tells job k l said l' → LeavesNames l.commits l'.commits
    by-stage job (log_stage.Writing writer) step = run-left tells job l l' said step
    by-stage job (log_stage.Ready waited) step = by-turn job l.turn step
    by-stage job (log_stage.Entering w) step = advance-entry-left tells job w l l' said step

    by-job : (j : Option log_job.Job) → log_jobs.StepsJob tells j l said l' → LeavesNames l.commits l'.commits
    by-job None idle = same l refl idle.1
    by-job (Some job) step = by-stage job job.stage step

    by-reclaim : (o : Option ReclaimValue)
        → MatchOption o (log_jobs.StepsJob tells l.job l said l') (λ r. log_reclaim_steps.StepsReclaim tells r l said l') → LeavesNames l.commits l'.commits
    by-reclaim None step = by-job l.job step
    by-reclaim (Some r) step = reclaim-left tells r l l' said step

    by-failed : (b : Bool)
        → MatchBool b ((said ≡ Err pump.Failed) × (l' ≡ l))
        (MatchOption l.reclaim (log_jobs.StepsJob tells l.job l said l') (λ r. log_reclaim_steps.StepsReclaim tells r l said l'))
        → LeavesNames l.commits l'.commits
    by-failed true failed = same l refl failed.1
    by-failed false step = by-reclaim l.reclaim step

-- ---- the beginning of a job, where the log lies in the heap

log-start-leaves : (l l' : LogStoreValue) (upto : ℕ) (said : Result (Unit {0}) log_starts.StartFault) → log_archives.StartsArchive l upto said l'
    → Leaves l.commits l'.commits
log-start-leaves l l' upto said starts = by-refusal (log_archives.archive_refusal l upto) starts
  where
    same : l'.commits ≡ l.commits → Leaves l.commits l'.commits
    same is = same-left l.commits l'.commits is

    begins : (a : Result (Unit {0}) log_starts.StartFault) → log_archives.BeginsRun l upto a l' → Leaves l.commits l'.commits
    begins (Ok done) begun = same (ap (λ (x : LogStoreValue). x.commits) (begun.3).new_is)
    begins (Err why) refused = same (ap (λ (x : LogStoreValue). x.commits) refused.1)

    by-refusal : (o : Option log_starts.StartFault) → MatchOption o (log_archives.BeginsRun l upto said l') (λ why. (said ≡ Err why) × (l' ≡ l))
        → Leaves l.commits l'.commits
    by-refusal None begun = begins said begun
    by-refusal (Some why) refused = same (ap (λ (x : LogStoreValue). x.commits) refused.1)

log-reclaim-leaves : (l l' : LogStoreValue) (said : Result (Unit {0}) log_starts.StartFault) → log_reclaims.StartsReclaim l said l'
    → Leaves l.commits l'.commits
log-reclaim-leaves l l' said starts = by-refusal (log_reclaims.reclaim_refusal l) starts
  where
    same : l'.commits ≡ l.commits → Leaves l.commits l'.commits
    same is = same-left l.commits l'.commits is

    begins : (a : Result (Unit {0}) log_starts.StartFault) → log_reclaims.BeginsReclaim l a l' → Leaves l.commits l'.commits
    begins (Ok done) begun = same (ap (λ (x : LogStoreValue). x.commits) begun.new_is)
    begins (Err why) refused = same (ap (λ (x : LogStoreValue). x.commits) refused.1)

    by-refusal : (o : Option log_starts.StartFault) → MatchOption o (log_reclaims.BeginsReclaim l said l') (λ why. (said ≡ Err why) × (l' ≡ l))
        → Leaves l.commits l'.commits
    by-refusal None begun = begins said begun
    by-refusal (Some why) refused = same (ap (λ (x : LogStoreValue). x.commits) refused.1)

log-floor-leaves : (l l' : LogStoreValue) (scope : Option ℕ) (floor : ℕ) (said : Result (Unit {0}) log_starts.StartFault)
    → log_jobs.StartsFloor l scope floor said l' → Leaves l.commits l'.commits
log-floor-leaves l l' scope floor said starts = by-refusal (log_jobs.floor_refusal l scope floor) starts
  where
    begins : (s : Option ℕ) (a : Result (Unit {0}) log_starts.StartFault) → log_jobs.BeginsFloor l s floor a l' → Leaves l.commits l'.commits
    begins None a begun = absurd begun
    begins (Some relation) (Ok done) begun = same-left l.commits l'.commits (ap (λ (x : LogStoreValue). x.commits) begun.1)
    begins (Some relation) (Err why) begun = same-left l.commits l'.commits (ap (λ (x : LogStoreValue). x.commits) begun.1)

    by-refusal : (o : Option log_starts.StartFault) → MatchOption o (log_jobs.BeginsFloor l scope floor said l') (λ why. (said ≡ Err why) × (l' ≡ l))
        → Leaves l.commits l'.commits
    by-refusal None begun = begins scope said begun
    by-refusal (Some why) refused = same-left l.commits l'.commits (ap (λ (x : LogStoreValue). x.commits) refused.1)

-- ---- in either

pub pump-leaves : (tells : Bool) (old new : StoreValue) (answer : Result Did PumpFault) → stores.Pumps tells old answer new
    → Leaves (commits_of old) (commits_of new)
pump-leaves tells (Slots s) (Slots s') answer pumps = of-slots s.transactions s'.transactions (slot_leaves.pump-leaves tells s s' pumps.0 pumps.1)
pump-leaves tells (Slots s) (Log l') answer pumps = absurd pumps
pump-leaves tells (Log l) (Slots s') answer pumps = absurd pumps
pump-leaves tells (Log l) (Log l') answer pumps = log-pump-leaves tells l l' pumps.0 pumps.1

pub start-leaves : (old new : StoreValue) (upto : ℕ) (answer : Result (Unit {0}) StartFault) → StartsArchive old upto answer new
    → Leaves (commits_of old) (commits_of new)
start-leaves (Slots s) (Slots s') upto answer starts = of-slots s.transactions s'.transactions (job_leaves.start-leaves s s' upto answer starts)
start-leaves (Slots s) (Log l') upto answer starts = absurd starts
start-leaves (Log l) (Slots s') upto answer starts = absurd starts
start-leaves (Log l) (Log l') upto answer starts = log-start-leaves l l' upto starts.0 starts.1

pub reclaim-leaves : (old new : StoreValue) (answer : Result (Unit {0}) StartFault) → StartsReclaim old answer new → Leaves (commits_of old) (commits_of new)
reclaim-leaves (Slots s) (Slots s') answer starts = of-slots s.transactions s'.transactions (job_leaves.reclaim-leaves s s' answer starts)
reclaim-leaves (Slots s) (Log l') answer starts = absurd starts
reclaim-leaves (Log l) (Slots s') answer starts = absurd starts
reclaim-leaves (Log l) (Log l') answer starts = log-reclaim-leaves l l' starts.0 starts.1

pub floor-leaves : (old new : StoreValue) (scope : Option ℕ) (floor : ℕ) (answer : Result (Unit {0}) StartFault) → StartsFloor old scope floor answer new
    → Leaves (commits_of old) (commits_of new)
floor-leaves (Slots s) (Slots s') scope floor answer starts = of-slots s.transactions s'.transactions (job_leaves.floor-leaves s s' scope floor answer starts)
floor-leaves (Slots s) (Log l') scope floor answer starts = absurd starts
floor-leaves (Log l) (Slots s') scope floor answer starts = absurd starts
floor-leaves (Log l) (Log l') scope floor answer starts = log-floor-leaves l l' scope floor starts.0 starts.1

pub grow-leaves : (old new : StoreValue) (answer : Result (Unit {0}) StartFault) → StartsGrowth old answer new → Leaves (commits_of old) (commits_of new)
grow-leaves (Slots s) (Slots s') answer starts = of-slots s.transactions s'.transactions (job_leaves.grow-leaves s s' answer starts)
grow-leaves (Slots s) (Log l') answer starts = absurd starts
grow-leaves (Log l) (Slots s') answer starts = absurd starts
grow-leaves (Log l) (Log l') answer starts = same-left l.commits l'.commits (ap (λ (x : LogStoreValue). x.commits) starts.1)

pub pumped-leaves : (tells : Bool) (old new : StoreValue) (answer : Result JobDid PumpFault) → PumpsJob tells old answer new
    → Leaves (commits_of old) (commits_of new)
pumped-leaves tells (Slots s) (Slots s') answer pumps = of-slots s.transactions s'.transactions (job_leaves.pumped-leaves tells s s' pumps.0 pumps.1)
pumped-leaves tells (Slots s) (Log l') answer pumps = absurd pumps
pumped-leaves tells (Log l) (Slots s') answer pumps = absurd pumps
pumped-leaves tells (Log l) (Log l') answer pumps = (log-job-leaves tells l l' pumps.0 pumps.1).left

-- ---- transactions

slots-begun : (t t' : TransactionsValue) (answer : Result TxnValue BeginFault) → slot_memory.Begins t answer t'
    → LeftByBegin (commits_in t) answer (commits_in t')
slots-begun t t' (Ok txn) is = record {
  mark = is.mark;
  state = is.state;
  writes = is.writes;
  fresh = is.fresh;
  within = is.within;
  new_is = ap commits_in is.new_is;
}
slots-begun t t' (Err fault.NoMemory) is = ap commits_in is.1
slots-begun t t' (Err fault.Failed) is = ap commits_in is.1

log-begun : (v v' : CommitsValue) (answer : Result TxnValue BeginFault) → commits.Begins v answer v' → LeftByBegin v answer v'
log-begun v v' (Ok txn) is =
    record { mark = is.mark; state = is.state; writes = is.writes; fresh = is.fresh; within = is.within; new_is = is.new_is }
log-begun v v' (Err fault.NoMemory) is = is.1
log-begun v v' (Err fault.Failed) is = is.1

pub begin-leaves : (old new : StoreValue) (answer : Result TxnValue BeginFault) → stores.Begins old answer new
    → LeftByBegin (commits_of old) answer (commits_of new)
begin-leaves (Slots s) (Slots s') answer begins = slots-begun s.transactions s'.transactions answer begins.transactions
begin-leaves (Slots s) (Log l') answer begins = absurd begins
begin-leaves (Log l) (Slots s') answer begins = absurd begins
begin-leaves (Log l) (Log l') answer begins = log-begun l.commits l'.commits answer begins.is

pub abort-leaves : (old new : StoreValue) (txn : TxnValue) → stores.Aborts old txn new
    → commits_of new ≡ cond (is_own (commits_of old) txn) (over (commits_of old) txn.number) (commits_of old)
abort-leaves (Slots s) (Slots s') txn aborts = by-own (slot_values.is_own s.transactions txn) aborts.transactions
  where
    by-own : (b : Bool) → s'.transactions ≡ cond b (slot_values.over s.transactions txn.number) s.transactions
        → commits_in s'.transactions ≡ cond b (over (commits_in s.transactions) txn.number) (commits_in s.transactions)
    by-own true is = ap commits_in is
    by-own false is = ap commits_in is
abort-leaves (Slots s) (Log l') txn aborts = absurd aborts
abort-leaves (Log l) (Slots s') txn aborts = absurd aborts
abort-leaves (Log l) (Log l') txn aborts = aborts.is

-- ---- submits

slots-left : (t t' : TransactionsValue) (txn : TxnValue) (label : ℕ) (answer : Result Submitted SubmitFault) → slots.LeftBySubmit t txn label answer t'
    → LeftBySubmit (commits_in t) txn label answer (commits_in t')
slots-left t t' txn label (Ok (submitted.ReadOnly snapshot)) is = (is.0, ap commits_in is.1)
slots-left t t' txn label (Ok (submitted.Queued ticket)) is =
    let joins = is.1 in (
      is.0,
      record {
        mark = ap (λ (x : TransactionsValue). x.mark) joins.new_is;
        opened = ap (λ (x : TransactionsValue). x.opened) joins.new_is;
        versions = ap (λ (x : TransactionsValue). x.versions) joins.new_is;
        heads = ap (λ (x : TransactionsValue). x.heads) joins.new_is;
      },
    )
slots-left t t' txn label (Err (refused.Conflict key)) is = ap commits_in is
slots-left t t' txn label (Err refused.HeapFull) is = ap commits_in is
slots-left t t' txn label (Err refused.StatusFull) is = ap commits_in is
slots-left t t' txn label (Err refused.ClockEnd) is = ap commits_in is
slots-left t t' txn label (Err refused.NoMemory) is = ap commits_in is
slots-left t t' txn label (Err refused.Failed) is = ap commits_in is
slots-left t t' txn label (Err refused.Stranger) is = is

log-left : (l l' : LogStoreValue) (txn : TxnValue) (label now : ℕ) (answer : Result Submitted SubmitFault) → log_submits.AnswersSubmit l txn label now answer l'
    → LeftBySubmit l.commits txn label answer l'.commits
log-left l l' txn label now (Ok (submitted.ReadOnly snapshot)) is = (is.1, ap (λ (x : LogStoreValue). x.commits) is.2)
log-left l l' txn label now (Ok (submitted.Queued ticket)) is =
    let same = ap (λ (x : LogStoreValue). x.commits) is.2 in (
      is.1,
      record {
        mark = ap (λ (c : CommitsValue). c.mark) same;
        opened = ap (λ (c : CommitsValue). c.opened) same;
        versions = ap (λ (c : CommitsValue). c.versions) same;
        heads = ap (λ (c : CommitsValue). c.heads) same;
      },
    )
log-left l l' txn label now (Err (refused.Conflict key)) is = ap (λ (x : LogStoreValue). x.commits) is.1
log-left l l' txn label now (Err refused.HeapFull) is = ap (λ (x : LogStoreValue). x.commits) is.1
log-left l l' txn label now (Err refused.StatusFull) is = ap (λ (x : LogStoreValue). x.commits) is.1
log-left l l' txn label now (Err refused.ClockEnd) is = ap (λ (x : LogStoreValue). x.commits) is.1
log-left l l' txn label now (Err refused.NoMemory) is = ap (λ (x : LogStoreValue). x.commits) is.1
log-left l l' txn label now (Err refused.Failed) is = ap (λ (x : LogStoreValue). x.commits) is.1
log-left l l' txn label now (Err refused.Stranger) is = absurd is.0

pub submit-leaves : (old new : StoreValue) (t : TxnValue) (label now : ℕ) (answer : Result Submitted SubmitFault) → stores.Submits old t label now answer new
    → MatchBool (is_own (commits_of old) t) (LeftBySubmit (over (commits_of old) t.number) t label answer (commits_of new))
    ((answer ≡ Err refused.Stranger) × (commits_of new ≡ commits_of old))
submit-leaves (Slots s) (Slots s') t label now answer submits = by-own (slot_values.is_own s.transactions t) submits.transactions
  where
    by-own : (b : Bool) → MatchBool b (slot_submits.SubmitsOwn (slot_values.over s.transactions t.number) t label now answer s'.transactions)
        ((answer ≡ Err refused.Stranger) × (s'.transactions ≡ s.transactions))
        → MatchBool b (LeftBySubmit (over (commits_in s.transactions) t.number) t label answer (commits_in s'.transactions))
        ((answer ≡ Err refused.Stranger) × (commits_in s'.transactions ≡ commits_in s.transactions))
    by-own true so =
        let old = slot_values.over s.transactions t.number in
        slots-left old s'.transactions t label answer (slot_told.left-is old s'.transactions t label now answer so)
    by-own false so = (so.0, ap commits_in so.1)
submit-leaves (Slots s) (Log l') t label now answer submits = absurd submits
submit-leaves (Log l) (Slots s') t label now answer submits = absurd submits
submit-leaves (Log l) (Log l') t label now answer submits = by-own (is_own l.commits t) submits
  where
    by-failed : (b : Bool)
        → MatchBool b ((answer ≡ Err refused.Failed) × (l' ≡ log_submits.spent l t.number)) (log_submits.AnswersSubmit
        (log_submits.spent l t.number) t label now answer l')
        → LeftBySubmit (over l.commits t.number) t label answer l'.commits
    by-failed true so =
        subst (λ (a : Result Submitted SubmitFault). LeftBySubmit (over l.commits t.number) t label a l'.commits) (sym so.0)
        (ap (λ (x : LogStoreValue). x.commits) so.1)
    by-failed false so = log-left (log_submits.spent l t.number) l' t label now answer so

    by-own : (b : Bool) → MatchBool b (log_submits.SubmitsOwn (log_submits.spent l t.number) t label now answer l')
        ((answer ≡ Err refused.Stranger) × (l' ≡ l))
        → MatchBool b (LeftBySubmit (over l.commits t.number) t label answer l'.commits) ((answer ≡ Err refused.Stranger) × (l'.commits ≡ l.commits))
    by-own true so = by-failed l.commits.failed so
    by-own false so = (so.0, ap (λ (x : LogStoreValue). x.commits) so.1)

-- ---- tickets

slots-redeemed : (t t' : TransactionsValue) (k : TicketValue) (answer : Redeemed) → slots.LeftByRedeem t k answer t'
    → LeftByRedeem (commits_in t) (slot_memory.last t) k answer (commits_in t')
slots-redeemed t t' k (redeemed.Done time) is = (is.0, is.1, is.2, ap commits_in is.3)
slots-redeemed t t' k (redeemed.Waiting back) is = (is.0, ap commits_in is.1)
slots-redeemed t t' k redeemed.InDoubt is = ap commits_in is
slots-redeemed t t' k redeemed.Stranger is = (ap commits_in is.0, is.1)

log-redeemed : (old new : CommitsValue) (last : ℕ) (k : TicketValue) (r : Redeemed) → last_published (order_of old) ≤ last → commits.Redeems old k r new
    → LeftByRedeem old last k r new
log-redeemed old new last k r within redeems =
    by-mark (k.mark == old.mark) refl (is_awaited k.time old.heads) refl (nat_le k.time (last_published (order_of old))) refl redeems
  where
    stranger : (k.mark ≡ old.mark → is_awaited k.time old.heads ≡ true → ⊥) → (r ≡ redeemed.Stranger) × (new ≡ old) → LeftByRedeem old last k r new
    stranger none says = subst (λ (x : Redeemed). LeftByRedeem old last k x new) (sym says.0) (says.1, none)

    by-failure : (b : Bool) → (r ≡ cond b redeemed.InDoubt (redeemed.Waiting k)) × (new ≡ old) → LeftByRedeem old last k r new
    by-failure true says = subst (λ (x : Redeemed). LeftByRedeem old last k x new) (sym says.0) says.1
    by-failure false says = subst (λ (x : Redeemed). LeftByRedeem old last k x new) (sym says.0) (refl, says.1)

    by-mark : (a : Bool) → (k.mark == old.mark) ≡ a → (b : Bool) → is_awaited k.time old.heads ≡ b → (d : Bool)
        → nat_le k.time (last_published (order_of old)) ≡ d
        → MatchBool a (commits.AnswersTicket old k (cond b (cond d ticket_state.Published ticket_state.Waiting) ticket_state.Unknown) r new) ((r
        ≡ redeemed.Stranger) × (new ≡ old)) → LeftByRedeem old last k r new
    by-mark true own true waits true early says =
        let le : k.time ≤ last = grind (arith, nat_tests) in
        subst (λ (x : Redeemed). LeftByRedeem old last k x new) (sym says.0) (refl, waits, le, says.1)
    by-mark true own true waits false late says = by-failure old.failed says
    by-mark true own false none d is says = stranger (λ same waits. absurd cc) says
    by-mark false other b is d early says = stranger (λ same waits. absurd (grind (arith, nat_tests))) says

max-last : (a b : ℕ) → b ≤ max a b
max-last a b = grind (arith, nat_tests)

pub redeem-leaves : (old new : StoreValue) (k : TicketValue) (answer : Redeemed) → stores.Redeems old k answer new
    → LeftByRedeem (commits_of old) (stores.last old) k answer (commits_of new)
redeem-leaves (Slots s) (Slots s') k answer redeems =
    slots-redeemed s.transactions s'.transactions k answer (slot_told.redeeming s.transactions s'.transactions k answer redeems.transactions)
redeem-leaves (Slots s) (Log l') k answer redeems = absurd redeems
redeem-leaves (Log l) (Slots s') k answer redeems = absurd redeems
redeem-leaves (Log l) (Log l') k answer redeems =
    log-redeemed l.commits l'.commits (stores.last (Log l)) k answer (max-last l.commits.reclaimed (last_published (order_of l.commits))) redeems.is

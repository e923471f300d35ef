-- A step of a job, over plain values.
use Rattle.std.proofs.Common.{◌≡◌, ◌<◌, ℕ, Bool, true, false, is_some, List, [], ◌∷◌, length, Option, Some, Result, Ok, Err, MatchResult, subst, arith, inr}
use Rattle.disk.specs.Calls.{DiskState}
use Rattle.archive.specs.Pieces.{InWriting}
use Rattle.wire.specs.declared.slot.Run.{Run}
use Rattle.wire.specs.declared.slot.Body.{Body}
use Rattle.wire.specs.Spelling.{spelling}
use Rattle.status.specs.SlotCalls.{SlotStage}
use Rattle.status.specs.SlotCalls as slots
use Rattle.status.specs.TurnState.{TurnState, LogState}
use Rattle.group.specs.declared.answers.PumpFault.{PumpFault}
use Rattle.group.specs.Values.{TransactionsValue}
use Rattle.store.specs.Values.{ArchiveValue, StoreValue}
use Rattle.store.specs.Parts.{parts_of}
use Rattle.disk.specs.declared.area.Area.TheVariants as areas
use Rattle.store.specs.Jobs.{TakesJobStep, Stores, writing, WritesOrSyncs, WritesRun, SyncsStored, BeginsJobSlot, TurnsJob, IsJobTurned, JobTurnFails}
use Rattle.store.specs.Jobs.{slot_taken, made_ready, slot_body}
use Rattle.store.specs.declared.job.Job.{Job}
use Rattle.store.specs.declared.job.JobWork.{JobWork}
use Rattle.store.specs.declared.job.JobStage.{JobStage}
use Rattle.store.specs.declared.job.JobStage.TheVariants as stages
use Rattle.store.specs.declared.job.JobDid.{JobDid}
use Rattle.store.specs.declared.job.JobDid.TheVariants as did

-- ---- the run

pub synced-all : (tells : Bool) (left : List ℕ) (run : Run) (writer : InWriting) (job : Job) (old : StoreValue) (result : Result JobDid PumpFault)
    (new : StoreValue) → length left ≡ 0 → SyncsStored tells areas.Archive did.RunSynced job old result new
    → WritesOrSyncs tells left run writer job old result new
synced-all tells [] run writer job old result new none syncs = syncs
synced-all tells (b ∷ bs) run writer job old result new none syncs = absurd (omega arith)

pub wrote-some : (tells : Bool) (left : List ℕ) (run : Run) (writer : InWriting) (job : Job) (old : StoreValue) (result : Result JobDid PumpFault)
    (new : StoreValue) → 0 < length left → WritesRun tells run writer job old result new → WritesOrSyncs tells left run writer job old result new
wrote-some tells [] run writer job old result new some writes = absurd (omega arith)
wrote-some tells (b ∷ bs) run writer job old result new some writes = writes

-- ---- the slot

-- what is said of a turn doesn't say at which stage the job stands
turned-alike : (stage : SlotStage) (turn : TurnState) (work : JobWork) (a b : JobStage) (old : StoreValue) (what : JobDid) (new : StoreValue)
    → IsJobTurned stage turn (record { work = work; stage = a }) old what new → IsJobTurned stage turn (record { work = work; stage = b }) old what new
turned-alike slots.Begun turn work a b old what new is = is
turned-alike slots.BodyWritten turn work a b old what new is = is
turned-alike slots.BodySynced turn work a b old what new is = is
turned-alike slots.GateWritten turn work a b old what new is = is
turned-alike slots.Opened turn work a b old what new is = is

answered-alike : (turn : TurnState) (work : JobWork) (a b : JobStage) (old : StoreValue) (result : Result JobDid PumpFault) (new : StoreValue)
    → MatchResult result (λ what. IsJobTurned turn.stage turn (record { work = work; stage = a }) old what new)
    (λ why. JobTurnFails (record { work = work; stage = a }) old why new)
    → MatchResult result (λ what. IsJobTurned turn.stage turn (record { work = work; stage = b }) old what new)
    (λ why. JobTurnFails (record { work = work; stage = b }) old why new)
answered-alike turn work a b old (Ok what) new is = turned-alike turn.stage turn work a b old what new is
answered-alike turn work a b old (Err why) new is = is

pub turns-alike : (tells : Bool) (turn : TurnState) (work : JobWork) (a b : JobStage) (old : StoreValue) (result : Result JobDid PumpFault) (new : StoreValue)
    → TurnsJob tells (record { work = work; stage = a }) turn old result new → TurnsJob tells (record { work = work; stage = b }) turn old result new
turns-alike tells turn work a b old result new turns = record { call = turns.call; answer = answered-alike turn work a b old result new turns.answer }

-- a turn that the log began is the job's first one
pub began : (tells : Bool) (job : Job) (body : Body) (turn : TurnState) (log taken : LogState) (transactions made : TransactionsValue)
    (other : Option TurnState) (before : Option Job) (archived runs_end : ℕ) (archive : ArchiveValue) (disk : DiskState) (result : Result JobDid PumpFault)
    (new : StoreValue)
    → body ≡ slot_body job.work → turn.number ≡ log.used → turn.body ≡ spelling log.profile (record { number = log.used; body = body })
    → turn.stage ≡ slots.Begun → taken ≡ record log { writing = true }
    → parts_of made log other before archived runs_end archive disk
    ≡ made_ready job.work (parts_of transactions log other before archived runs_end archive disk)
    → TurnsJob tells job turn (parts_of made taken other before archived runs_end archive disk) result new
    → BeginsJobSlot tells job (parts_of transactions log other before archived runs_end archive disk) result new
began tells job body turn log taken transactions made other before archived runs_end archive disk result new body_is number text stage taken_is made_is turns =
    let spelled : turn.body ≡ spelling log.profile (record { number = log.used; body = slot_body job.work }) =
    subst (λ (b : Body). turn.body ≡ spelling log.profile (record { number = log.used; body = b })) body_is text in
    let turn_is : turn ≡ record {
      number = log.used;
      body = spelling log.profile (record { number = log.used; body = slot_body job.work });
      stage = slots.Begun;
    } = λ i. record { number = number i; body = spelled i; stage = stage i } in
    inr (subst (λ (v : StoreValue). TurnsJob tells job (record {
      number = log.used;
      body = spelling log.profile (record { number = log.used; body = slot_body job.work });
      stage = slots.Begun;
    }) (slot_taken v) result new) made_is
    (subst (λ (t : TurnState). TurnsJob tells job t (slot_taken (parts_of made log other before archived runs_end archive disk)) result new) turn_is
    (subst (λ (l : LogState). TurnsJob tells job turn (parts_of made l other before archived runs_end archive disk) result new) taken_is turns)))

-- ---- by the job's stage

pub at-writing : (tells : Bool) (work : JobWork) (stage : JobStage) (transactions : TransactionsValue) (log : LogState) (turn : Option TurnState)
    (archived runs_end : ℕ) (archive : ArchiveValue) (disk : DiskState) (result : Result JobDid PumpFault) (new : StoreValue)
    → stage ≡ stages.Writing
    → Stores tells work (writing work) (parts_of transactions log turn (Some (writing work)) archived runs_end archive disk) result new
    → TakesJobStep tells stage (record { work = work; stage = stage })
    (parts_of transactions log turn (Some (record { work = work; stage = stage })) archived runs_end archive disk) result new
at-writing tells work stage transactions log turn archived runs_end archive disk result new is takes = rw is takes

pub at-stored : (tells : Bool) (work : JobWork) (stage : JobStage) (transactions : TransactionsValue) (log : LogState) (turn : Option TurnState)
    (archived runs_end : ℕ) (archive : ArchiveValue) (disk : DiskState) (result : Result JobDid PumpFault) (new : StoreValue)
    → stage ≡ stages.Stored → is_some turn ≡ false
    → BeginsJobSlot tells (record { work = work; stage = stages.Stored })
    (parts_of transactions log turn (Some (record { work = work; stage = stages.Stored })) archived runs_end archive disk) result new
    → TakesJobStep tells stage (record { work = work; stage = stage })
    (parts_of transactions log turn (Some (record { work = work; stage = stage })) archived runs_end archive disk) result new
at-stored tells work stage transactions log turn archived runs_end archive disk result new is free begins = rw (is, free) begins

pub at-turning : (tells : Bool) (work : JobWork) (stage : JobStage) (own : TurnState) (transactions : TransactionsValue) (log : LogState)
    (turn : Option TurnState) (archived runs_end : ℕ) (archive : ArchiveValue) (disk : DiskState) (result : Result JobDid PumpFault) (new : StoreValue)
    → stage ≡ stages.Turning own
    → ((before : Option Job) → TurnsJob tells (record { work = work; stage = stages.Stored }) own
    (parts_of transactions log turn before archived runs_end archive disk) result new)
    → TakesJobStep tells stage (record { work = work; stage = stage })
    (parts_of transactions log turn (Some (record { work = work; stage = stage })) archived runs_end archive disk) result new
at-turning tells work stage own transactions log turn archived runs_end archive disk result new is turns =
    rw is (turns-alike tells own work stages.Stored (stages.Turning own)
    (parts_of transactions log turn (Some (record { work = work; stage = stages.Turning own })) archived runs_end archive disk) result new
    (turns (Some (record { work = work; stage = stages.Turning own }))))

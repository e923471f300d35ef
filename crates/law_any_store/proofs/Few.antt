-- No call makes more than one write or sync of the disk, in either layout.
use Rattle.std.proofs.Common.{◌≡◌, ℕ, ◌+◌, ◌≤◌, ◌==◌, Bool, true, false, List, [], ◌∷◌, length, Some, None, Option, is_some, Result, Ok, Err, MatchBool}
use Rattle.std.proofs.Common.{MatchOption, slice_get, refl, ap, ◌∙◌, inl, inr, arith}
use Rattle.std.specs.declared.alloc.Global.{Global}
use Rattle.std.specs.declared.vec.Vec.{Vec}
use Rattle.disk.specs.Calls.{DiskState, counted}
use Rattle.history.specs.declared.key.Key.{Key}
use Rattle.history.specs.declared.time.Version.{Version}
use Rattle.history.specs.Histories.{History}
use Rattle.law_image.specs.Values.{Value}
use Rattle.status.specs.Growth.{next_piece}
use Rattle.status.specs.GrowthState.{GrowthState}
use Rattle.status.specs.TurnState.{TurnState}
use Rattle.snapshot.specs.Txn.{TxnValue}
use Rattle.timequery.specs.Archives.{ArchiveValue}
use Rattle.timequery.specs.Asked.{Holding, Finds, OrStranger, is_own as view_own}
use Rattle.timequery.specs.Faults.{after_query}
use Rattle.timequery.specs.View.{ViewValue}
use Rattle.timequery.specs.declared.fault.QueryFault.{QueryFault}
use Rattle.timequery.specs.declared.fault.QueryFault.TheVariants as query
use Rattle.group.specs.Steps as groups
use Rattle.group.specs.Tickets.{TicketValue}
use Rattle.group.specs.declared.answers.BeginFault.{BeginFault}
use Rattle.group.specs.declared.answers.Did.{Did}
use Rattle.group.specs.declared.answers.PumpFault.{PumpFault}
use Rattle.group.specs.declared.answers.PumpFault.TheVariants as pump
use Rattle.group.specs.declared.answers.Redeemed.{Redeemed}
use Rattle.group.specs.declared.answers.Submitted.{Submitted}
use Rattle.group.specs.declared.answers.Submitted.TheVariants as submitted
use Rattle.group.specs.declared.answers.SubmitFault.{SubmitFault}
use Rattle.group.specs.declared.answers.SubmitFault.TheVariants as refused
use Rattle.group.specs.declared.queued.StoredExtent.{StoredExtent}
use Rattle.group.specs.declared.stage.NextStep.{NextStep}
use Rattle.group.specs.declared.stage.NextStep.TheVariants as next
use Rattle.commits.specs.Values.{CommitsValue, is_own}
use Rattle.log_writer.specs.Writer.{WriterState}
use Rattle.store.specs.Calls as slot_calls
use Rattle.store.specs.Archives.{refusal_now, BeginsRun}
use Rattle.store.specs.Archives as archives
use Rattle.store.specs.Floors.{floor_refusal, BeginsFloor}
use Rattle.store.specs.Floors as raises
use Rattle.store.specs.Growths.{BeginsPiece, refusal_to_grow}
use Rattle.store.specs.Growths as growths
use Rattle.store.specs.Jobs.{TakesJobStep, Stores, WritesOrSyncs, AnchorsOrSync, BeginsJobSlot, TurnsJob, made_ready, first_turn, slot_taken}
use Rattle.store.specs.Jobs as jobs
use Rattle.store.specs.Pumps.{TakesStep, WritesExtent, MayBeginSlot, TurnsSlot, started}
use Rattle.store.specs.Pumps as slot_pumps
use Rattle.store.specs.Reclaims.{reclaim_refusal, BeginsReclaim}
use Rattle.store.specs.Reclaims as reclaims
use Rattle.store.specs.Values.{turn_of, HasRest}
use Rattle.store.specs.Values as slot_values
use Rattle.store.specs.declared.job.Job.{Job}
use Rattle.store.specs.declared.job.JobDid.{JobDid}
use Rattle.store.specs.declared.job.JobDid.TheVariants as did
use Rattle.store.specs.declared.job.JobStage.{JobStage}
use Rattle.store.specs.declared.job.JobStage.TheVariants as stages
use Rattle.store.specs.declared.job.JobWork.{JobWork}
use Rattle.store.specs.declared.job.JobWork.TheVariants.{Archive, Reclaim, Floor, Grow}
use Rattle.store.specs.declared.job.StartFault.{StartFault}
use Rattle.log_store.specs.Archives as log_archives
use Rattle.log_store.specs.Jobs as log_jobs
use Rattle.log_store.specs.Gates.{waits_at, waits_to_open}
use Rattle.log_store.specs.Reclaiming.{AdvancesReclaim, StepsReclaim}
use Rattle.log_store.specs.Reclaims as log_reclaims
use Rattle.log_store.specs.Queries.{in_log_store}
use Rattle.log_store.specs.Pumps as log_pumps
use Rattle.log_store.specs.Submits as log_submits
use Rattle.log_store.specs.Values.{LogStoreValue, ReclaimValue}
use Rattle.log_store.specs.declared.job.Job as log_job
use Rattle.log_store.specs.declared.job.JobDid as log_did
use Rattle.log_store.specs.declared.job.JobStage as log_stages
use Rattle.log_store.specs.declared.job.JobStage.TheVariants as log_stage
use Rattle.log_store.specs.declared.job.StartFault as log_starts
use Rattle.log_store.specs.declared.pump.Did as log_group
use Rattle.log_store.specs.declared.pump.Did.TheVariants as log_group_did
use Rattle.any_store.specs.declared.engine.Engine.TheVariants.{Slots, Log}
use Rattle.any_store.specs.declared.steps.Did as told
use Rattle.any_store.specs.declared.steps.JobDid as told_jobs
use Rattle.any_store.specs.Values.{StoreValue}
use Rattle.any_store.specs.Calls as stores
use Rattle.any_store.specs.Queries as queries
use Rattle.any_store.specs.Jobs.{StartsArchive, StartsReclaim, StartsFloor, StartsGrowth, PumpsJob}
use Rattle.law_any_store.specs.Few.{MakesFew}

counted-few : (n : ℕ) → counted n ≤ n + 1
counted-few n = omega arith

-- ---- steps of a group, where the log is slots

wrote-few : (tells : Bool) (o : Option StoredExtent) (old new : slot_values.StoreValue) (r : Result Did PumpFault)
    → MatchOption o ⊥ (λ stored. WritesExtent tells stored old r new) → new.disk.made ≤ old.disk.made + 1
wrote-few tells None old new r takes = absurd takes
wrote-few tells (Some stored) old new r takes = omega (arith, takes.call.counts.made, counted-few old.disk.made)

advance-few : (tells : Bool) (o : Option TurnState) (old new : slot_values.StoreValue) (r : Result Did PumpFault)
    → MatchOption o ⊥ (λ turn. TurnsSlot tells turn old r new)
    → new.disk.made ≤ old.disk.made + 1
advance-few tells None old new r takes = absurd takes
advance-few tells (Some turn) old new r takes = omega (arith, takes.call.counts.made, counted-few old.disk.made)

step-few : (tells : Bool) (s : NextStep) (old new : slot_values.StoreValue) (r : Result Did PumpFault) → TakesStep tells s old r new
    → new.disk.made ≤ old.disk.made + 1
step-few tells next.Idle old new r takes = let is = ap (λ (v : slot_values.StoreValue). v.disk.made) takes.1 in omega (arith, is)
step-few tells next.WriteExtent old new r takes = wrote-few tells (groups.next_extent old.transactions) old new r takes
step-few tells next.SyncHeap old new r takes = omega (arith, takes.call.counts.made, counted-few old.disk.made)
step-few tells next.BeginSlot old new r takes = by-job (is_some (turn_of old.job)) takes
  where
    by-job : (b : Bool) → MatchBool b ((r ≡ Err pump.Busy) × (new ≡ old)) (MayBeginSlot tells old r new) → new.disk.made ≤ old.disk.made + 1
    by-job true is = let same = ap (λ (v : slot_values.StoreValue). v.disk.made) is.1 in omega (arith, same)
    by-job false (inl short) = let same = ap (λ (v : slot_values.StoreValue). v.disk.made) short.2 in omega (arith, same)
    by-job false (inr first) = omega (arith, first.turns.call.counts.made, counted-few old.disk.made)
step-few tells next.AdvanceSlot old new r takes = advance-few tells old.turn old new r takes

slots-pump : (tells : Bool) (old new : slot_values.StoreValue) (r : Result Did PumpFault) → slot_pumps.Pumps tells old r new → new.disk.made ≤ old.disk.made + 1
slots-pump tells old new r pumps = by-failure old.transactions.failed pumps
  where
    by-failure : (b : Bool) → MatchBool b ((r ≡ Err pump.Failed) × (new ≡ old)) (TakesStep tells (groups.next_step old.transactions) (started old) r new)
        → new.disk.made ≤ old.disk.made + 1
    by-failure true is = let same = ap (λ (v : slot_values.StoreValue). v.disk.made) is.1 in omega (arith, same)
    by-failure false takes = step-few tells (groups.next_step old.transactions) (started old) new r takes

-- ---- jobs, where the log is slots

slots-start : (old new : slot_values.StoreValue) (upto : ℕ) (r : Result (Unit {0}) StartFault) → archives.StartsArchive old upto r new
    → new.disk.made ≤ old.disk.made + 1
slots-start old new upto r starts = by-refusal (refusal_now old upto) starts
  where
    at-rest : {so : slot_values.StoreValue} → so.disk.made ≡ old.disk.made → new ≡ so → new.disk.made ≤ old.disk.made + 1
    at-rest few is = let made = ap (λ (v : slot_values.StoreValue). v.disk.made) is in omega (arith, made, few)

    begins : (r : Result (Unit {0}) StartFault) → BeginsRun old upto r new → new.disk.made ≤ old.disk.made + 1
    begins (Ok done) is = at-rest refl is.2.new_is
    begins (Err why) is = at-rest refl is.1

    by-refusal : (o : Option StartFault) → MatchOption o (BeginsRun old upto r new) (λ why. (r ≡ Err why) × (new ≡ old)) → new.disk.made ≤ old.disk.made + 1
    by-refusal None is = begins r is
    by-refusal (Some why) is = at-rest refl is.1

slots-reclaim : (old new : slot_values.StoreValue) (r : Result (Unit {0}) StartFault) → reclaims.StartsReclaim old r new → new.disk.made ≤ old.disk.made + 1
slots-reclaim old new r starts = by-refusal (reclaim_refusal old) starts
  where
    at-rest : {so : slot_values.StoreValue} → so.disk.made ≡ old.disk.made → new ≡ so → new.disk.made ≤ old.disk.made + 1
    at-rest few is = let made = ap (λ (v : slot_values.StoreValue). v.disk.made) is in omega (arith, made, few)

    begins : (r : Result (Unit {0}) StartFault) → BeginsReclaim old r new → new.disk.made ≤ old.disk.made + 1
    begins (Ok done) is = at-rest refl (is.1).new_is
    begins (Err why) is = at-rest refl is.1

    by-refusal : (o : Option StartFault) → MatchOption o (BeginsReclaim old r new) (λ why. (r ≡ Err why) × (new ≡ old)) → new.disk.made ≤ old.disk.made + 1
    by-refusal None is = begins r is
    by-refusal (Some why) is = at-rest refl is.1

slots-floor : (old new : slot_values.StoreValue) (scope : Option ℕ) (floor : ℕ) (r : Result (Unit {0}) StartFault) → raises.StartsFloor old scope floor r new
    → new.disk.made ≤ old.disk.made + 1
slots-floor old new scope floor r starts = by-refusal (floor_refusal old scope floor) starts
  where
    begun : (said : Result (Unit {0}) StartFault) → BeginsFloor old scope floor said new → new.disk.made ≤ old.disk.made + 1
    begun (Ok done) is = let made = ap (λ (v : slot_values.StoreValue). v.disk.made) is.1 in omega (arith, made)
    begun (Err why) is = let made = ap (λ (v : slot_values.StoreValue). v.disk.made) is.2 in omega (arith, made)

    by-refusal : (o : Option StartFault) → MatchOption o (BeginsFloor old scope floor r new) (λ why. (r ≡ Err why) × (new ≡ old))
        → new.disk.made ≤ old.disk.made + 1
    by-refusal None is = begun r is
    by-refusal (Some why) is = let made = ap (λ (v : slot_values.StoreValue). v.disk.made) is.1 in omega (arith, made)

slots-grow : (old new : slot_values.StoreValue) (r : Result (Unit {0}) StartFault) → growths.StartsGrowth old r new → new.disk.made ≤ old.disk.made + 1
slots-grow old new r starts = by-refusal (refusal_to_grow old) starts
  where
    at-rest : {so : slot_values.StoreValue} → so.disk.made ≡ old.disk.made → new ≡ so → new.disk.made ≤ old.disk.made + 1
    at-rest few is = let made = ap (λ (v : slot_values.StoreValue). v.disk.made) is in omega (arith, made, few)

    by-piece : (o : Option GrowthState) → BeginsPiece old o r new → new.disk.made ≤ old.disk.made + 1
    by-piece None is = at-rest refl is.1
    by-piece (Some growth) is = at-rest refl is.1

    by-refusal : (o : Option StartFault) → MatchOption o (BeginsPiece old (next_piece old.log) r new) (λ why. (r ≡ Err why) × (new ≡ old))
        → new.disk.made ≤ old.disk.made + 1
    by-refusal None is = by-piece (next_piece old.log) is
    by-refusal (Some why) is = at-rest refl is.1

stores-few : (tells : Bool) (work : JobWork) (j : Job) (old new : slot_values.StoreValue) (r : Result JobDid PumpFault) → Stores tells work j old r new
    → new.disk.made ≤ old.disk.made + 1
stores-few tells (Archive run writer) j old new r is = by-left writer.left is
  where
    by-left : (left : List ℕ) → WritesOrSyncs tells left run writer j old r new → new.disk.made ≤ old.disk.made + 1
    by-left [] syncs = omega (arith, syncs.call.counts.made, counted-few old.disk.made)
    by-left (b ∷ bs) writes = omega (arith, writes.call.counts.made, counted-few old.disk.made)
stores-few tells (Floor scope floor floors) j old new r is = absurd is
stores-few tells (Grow growth) j old new r is = omega (arith, is.call.counts.made, counted-few old.disk.made)
stores-few tells (Reclaim anchors source written) j old new r is = by-extent (slice_get old.transactions.reserved written) is
  where
    by-extent : (o : Option ℕ) → AnchorsOrSync tells o anchors source written j old r new → new.disk.made ≤ old.disk.made + 1
    by-extent None syncs = omega (arith, syncs.call.counts.made, counted-few old.disk.made)
    by-extent (Some number) writes = omega (arith, writes.call.counts.made, counted-few old.disk.made)

begun-few : (tells : Bool) (work : JobWork) (j : Job) (old new : slot_values.StoreValue) (r : Result JobDid PumpFault)
    → TurnsJob tells j (first_turn old j) (slot_taken (made_ready work old)) r new → new.disk.made ≤ old.disk.made + 1
begun-few tells (Archive run writer) j old new r first = omega (arith, first.call.counts.made, counted-few old.disk.made)
begun-few tells (Floor scope floor floors) j old new r first = omega (arith, first.call.counts.made, counted-few old.disk.made)
begun-few tells (Grow growth) j old new r first = omega (arith, first.call.counts.made, counted-few old.disk.made)
begun-few tells (Reclaim anchors source written) j old new r first = omega (arith, first.call.counts.made, counted-few old.disk.made)

job-few : (tells : Bool) (s : JobStage) (j : Job) (old new : slot_values.StoreValue) (r : Result JobDid PumpFault) → TakesJobStep tells s j old r new
    → new.disk.made ≤ old.disk.made + 1
job-few tells stages.Writing j old new r is = stores-few tells j.work j old new r is
job-few tells stages.Stored j old new r is = by-turn (is_some old.turn) is
  where
    by-turn : (b : Bool) → MatchBool b ((r ≡ Err pump.Busy) × (new ≡ old)) (BeginsJobSlot tells j old r new) → new.disk.made ≤ old.disk.made + 1
    by-turn true busy = let same = ap (λ (v : slot_values.StoreValue). v.disk.made) busy.1 in omega (arith, same)
    by-turn false (inl short) = let same = ap (λ (v : slot_values.StoreValue). v.disk.made) short.2 in omega (arith, same)
    by-turn false (inr first) = begun-few tells j.work j old new r first
job-few tells (stages.Turning turn) j old new r is = omega (arith, is.call.counts.made, counted-few old.disk.made)

slots-pumped : (tells : Bool) (old new : slot_values.StoreValue) (r : Result JobDid PumpFault) → jobs.PumpsJob tells old r new
    → new.disk.made ≤ old.disk.made + 1
slots-pumped tells old new r pumps = by-failure old.transactions.failed pumps
  where
    at-rest : new ≡ old → new.disk.made ≤ old.disk.made + 1
    at-rest is = let same = ap (λ (v : slot_values.StoreValue). v.disk.made) is in omega (arith, same)

    by-job : (o : Option Job) → MatchOption o ((r ≡ Ok did.Idle) × (new ≡ old)) (λ j. TakesJobStep tells j.stage j old r new)
        → new.disk.made ≤ old.disk.made + 1
    by-job None is = at-rest is.1
    by-job (Some j) is = job-few tells j.stage j old new r is

    by-failure : (b : Bool)
        → MatchBool b ((r ≡ Err pump.Failed)
        × (new ≡ old)) (MatchOption old.job ((r ≡ Ok did.Idle) × (new ≡ old)) (λ j. TakesJobStep tells j.stage j old r new)) → new.disk.made ≤ old.disk.made + 1
    by-failure true is = at-rest is.1
    by-failure false is = by-job old.job is

-- ---- the calls of one whose log lies in the heap

log-same : (l l' : LogStoreValue) → l'.disk ≡ l.disk → MakesFew (Log l) (Log l')
log-same l l' same = let made = ap (λ (d : DiskState). d.made) same in omega (arith, made)

-- nothing has changed
log-rests : (l l' : LogStoreValue) → l' ≡ l → MakesFew (Log l) (Log l')
log-rests l l' same = log-same l l' (ap (λ (x : LogStoreValue). x.disk) same)

advance-log : (tells : Bool) (w : WriterState) (l x l' : LogStoreValue) (answer : Result log_group.Did PumpFault) → x.disk ≡ l.disk
    → log_pumps.Advances tells w x answer l' → MakesFew (Log l) (Log l')
advance-log tells w l x l' answer same advances =
    let before = ap (λ (d : DiskState). d.made) same in omega (arith, before, advances.counts.made, counted-few x.disk.made)

log-pump : (tells : Bool) (l l' : LogStoreValue) (answer : Result log_group.Did PumpFault) → log_pumps.Pumps tells l answer l' → MakesFew (Log l) (Log l')
log-pump tells l l' answer pumps = by-failed l.commits.failed pumps
  where
    by-standing : (x : LogStoreValue) (t : Option WriterState) → x.disk ≡ l.disk → log_pumps.AdvancesGroup tells x t answer l' → MakesFew (Log l) (Log l')
    by-standing x None same advances = absurd advances
    by-standing x (Some w) same advances = advance-log tells w l x l' answer same advances

    begins : log_pumps.BeginsGroup tells l answer l' → MakesFew (Log l) (Log l')
    begins (inl none) = log-rests l l' none.1
    begins (inr begun) = by-standing begun.0 (begun.0).turn (ap (λ (x : LogStoreValue). x.disk) (begun.1).new_is) begun.2

    by-job : (b : Bool) → MatchBool b ((answer ≡ Err pump.Busy) × (l' ≡ l)) (log_pumps.BeginsGroup tells l answer l') → MakesFew (Log l) (Log l')
    by-job true busy = log-rests l l' busy.1
    by-job false begun = begins begun

    by-queue : (b : Bool) → MatchBool b ((answer ≡ Ok log_group_did.Idle) × (l' ≡ l)) (log_pumps.BeginsOrWaits tells l answer l') → MakesFew (Log l) (Log l')
    by-queue true idle = log-rests l l' idle.1
    by-queue false begun = by-job (log_pumps.bars_groups l.job) begun

    by-gate : (w : WriterState) (b : Bool) → MatchBool b ((answer ≡ Err pump.Busy) × (l' ≡ l)) (log_pumps.Advances tells w l answer l')
        → MakesFew (Log l) (Log l')
    by-gate w true busy = log-rests l l' busy.1
    by-gate w false step = advance-log tells w l l l' answer refl step

    by-turn : (t : Option WriterState) → log_pumps.TakesStep tells l t answer l' → MakesFew (Log l) (Log l')
    by-turn None step = by-queue (length l.commits.queue == 0) step
    by-turn (Some w) step = by-gate w (waits_to_open l.reclaim w.stage) step

    by-failed : (b : Bool) → MatchBool b ((answer ≡ Err pump.Failed) × (l' ≡ l)) (log_pumps.TakesStep tells l l.turn answer l') → MakesFew (Log l) (Log l')
    by-failed true failed = log-rests l l' failed.1
    by-failed false step = by-turn l.turn step

-- a step of a job
advance-entry : (tells : Bool) (job : log_job.Job) (w : WriterState) (l x l' : LogStoreValue) (said : Result log_did.JobDid PumpFault) → x.disk ≡ l.disk
    → log_jobs.Advances tells job w x said l' → MakesFew (Log l) (Log l')
advance-entry tells job w l x l' said same advances =
    let before = ap (λ (d : DiskState). d.made) same in omega (arith, before, advances.counts.made, counted-few x.disk.made)

-- a step of a reclaim
reclaim-step : (tells : Bool) (r : ReclaimValue) (l l' : LogStoreValue) (said : Result log_did.JobDid PumpFault) → StepsReclaim tells r l said l'
    → MakesFew (Log l) (Log l')
reclaim-step tells r l l' said steps = by-gate (waits_at l.turn r.stage) steps
  where
    by-gate : (b : Bool) → MatchBool b ((said ≡ Err pump.Busy) × (l' ≡ l)) (AdvancesReclaim tells r l said l') → MakesFew (Log l) (Log l')
    by-gate true busy = log-rests l l' busy.1
    by-gate false advances = omega (arith, advances.counts.made, counted-few l.disk.made)

log-pumped : (tells : Bool) (l l' : LogStoreValue) (said : Result log_did.JobDid PumpFault) → log_jobs.PumpsJob tells l said l' → MakesFew (Log l) (Log l')
log-pumped tells l l' said pumps = by-failed l.commits.failed pumps
  where
    by-at : (x : LogStoreValue) (job : log_job.Job) (k : log_stages.JobStage) → x.disk ≡ l.disk → log_jobs.AdvancesAt tells job k x said l'
        → MakesFew (Log l) (Log l')
    by-at x job (log_stage.Writing writer) same advances = absurd advances
    by-at x job (log_stage.Ready waited) same advances = absurd advances
    by-at x job (log_stage.Entering w) same advances = advance-entry tells job w l x l' said same advances

    by-begun : (x : LogStoreValue) (j : Option log_job.Job) → x.disk ≡ l.disk → log_jobs.AdvancesEntry tells j x said l' → MakesFew (Log l) (Log l')
    by-begun x None same advances = absurd advances
    by-begun x (Some job) same advances = by-at x job job.stage same advances

    by-turn : (job : log_job.Job) (t : Option WriterState) → log_jobs.StepsReady tells job t l said l' → MakesFew (Log l) (Log l')
    by-turn job None (inl none) = log-rests l l' none.1
    by-turn job None (inr enters) = by-begun enters.0 (enters.0).job (ap (λ (x : LogStoreValue). x.disk) (enters.1).new_is) enters.2
    by-turn job (Some w) busy = log-same l l' (ap (λ (x : LogStoreValue). x.disk) busy.1)

    by-stage : (job : log_job.Job) (k : log_stages.JobStage) → log_jobs.StepsAt tells job k l said l' → MakesFew (Log l) (Log l')
    by-stage job (log_stage.Writing writer) step = omega (arith, step.counts.made, counted-few l.disk.made)
    by-stage job (log_stage.Ready waited) step = by-turn job l.turn step
    by-stage job (log_stage.Entering w) step = advance-entry tells job w l l l' said refl step

    by-job : (j : Option log_job.Job) → log_jobs.StepsJob tells j l said l' → MakesFew (Log l) (Log l')
    by-job None idle = log-rests l l' idle.1
    by-job (Some job) step = by-stage job job.stage step

    by-reclaim : (o : Option ReclaimValue) → MatchOption o (log_jobs.StepsJob tells l.job l said l') (λ r. StepsReclaim tells r l said l')
        → MakesFew (Log l) (Log l')
    by-reclaim None step = by-job l.job step
    by-reclaim (Some r) step = reclaim-step tells r l l' said step

    by-failed : (b : Bool)
        → MatchBool b ((said ≡ Err pump.Failed) × (l' ≡ l))
        (MatchOption l.reclaim (log_jobs.StepsJob tells l.job l said l') (λ r. StepsReclaim tells r l said l')) → MakesFew (Log l) (Log l')
    by-failed true failed = log-rests l l' failed.1
    by-failed false step = by-reclaim l.reclaim step

-- an archive that begins
log-start : (l l' : LogStoreValue) (upto : ℕ) (said : Result (Unit {0}) log_starts.StartFault) → log_archives.StartsArchive l upto said l'
    → MakesFew (Log l) (Log l')
log-start l l' upto said starts = by-refusal (log_archives.archive_refusal l upto) starts
  where
    begins : (a : Result (Unit {0}) log_starts.StartFault) → log_archives.BeginsRun l upto a l' → MakesFew (Log l) (Log l')
    begins (Ok done) begun = log-same l l' (ap (λ (x : LogStoreValue). x.disk) (begun.3).new_is)
    begins (Err why) refused = log-rests l l' refused.1

    by-refusal : (o : Option log_starts.StartFault) → MatchOption o (log_archives.BeginsRun l upto said l') (λ why. (said ≡ Err why) × (l' ≡ l))
        → MakesFew (Log l) (Log l')
    by-refusal None begun = begins said begun
    by-refusal (Some why) refused = log-rests l l' refused.1

-- a reclaim that begins
log-reclaim : (l l' : LogStoreValue) (said : Result (Unit {0}) log_starts.StartFault) → log_reclaims.StartsReclaim l said l' → MakesFew (Log l) (Log l')
log-reclaim l l' said starts = by-refusal (log_reclaims.reclaim_refusal l) starts
  where
    begins : (a : Result (Unit {0}) log_starts.StartFault) → log_reclaims.BeginsReclaim l a l' → MakesFew (Log l) (Log l')
    begins (Ok done) begun = log-same l l' (ap (λ (x : LogStoreValue). x.disk) begun.new_is)
    begins (Err why) refused = log-rests l l' refused.1

    by-refusal : (o : Option log_starts.StartFault) → MatchOption o (log_reclaims.BeginsReclaim l said l') (λ why. (said ≡ Err why) × (l' ≡ l))
        → MakesFew (Log l) (Log l')
    by-refusal None begun = begins said begun
    by-refusal (Some why) refused = log-rests l l' refused.1

-- a floor that begins
log-floor : (l l' : LogStoreValue) (scope : Option ℕ) (floor : ℕ) (said : Result (Unit {0}) log_starts.StartFault) → log_jobs.StartsFloor l scope floor said l'
    → MakesFew (Log l) (Log l')
log-floor l l' scope floor said starts = by-refusal (log_jobs.floor_refusal l scope floor) starts
  where
    begins : (s : Option ℕ) (a : Result (Unit {0}) log_starts.StartFault) → log_jobs.BeginsFloor l s floor a l' → MakesFew (Log l) (Log l')
    begins None a begun = absurd begun
    begins (Some relation) (Ok done) begun = log-same l l' (ap (λ (x : LogStoreValue). x.disk) begun.1)
    begins (Some relation) (Err why) begun = log-rests l l' begun.1

    by-refusal : (o : Option log_starts.StartFault) → MatchOption o (log_jobs.BeginsFloor l scope floor said l') (λ why. (said ≡ Err why) × (l' ≡ l))
        → MakesFew (Log l) (Log l')
    by-refusal None begun = begins scope said begun
    by-refusal (Some why) refused = log-rests l l' refused.1

-- what only the commits in memory show
log-in-memory : (l l' : LogStoreValue) (commits : CommitsValue) → l' ≡ record l { commits = commits } → MakesFew (Log l) (Log l')
log-in-memory l l' commits is = log-same l l' (ap (λ (x : LogStoreValue). x.disk) is)

log-submit : (l l' : LogStoreValue) (txn : TxnValue) (label now : ℕ) (answer : Result Submitted SubmitFault) → log_submits.Submits l txn label now answer l'
    → MakesFew (Log l) (Log l')
log-submit l l' txn label now answer submits = by-own (is_own l.commits txn) submits
  where
    over : LogStoreValue
    over = log_submits.spent l txn.number

    by-answer : (a : Result Submitted SubmitFault) → log_submits.AnswersSubmit over txn label now a l' → l'.disk ≡ l.disk
    by-answer (Ok (submitted.ReadOnly snapshot)) is = ap (λ (x : LogStoreValue). x.disk) is.2
    by-answer (Ok (submitted.Queued ticket)) is = ap (λ (x : LogStoreValue). x.disk) is.2
    by-answer (Err why) is = ap (λ (x : LogStoreValue). x.disk) is.1

    by-failed : (b : Bool) → MatchBool b ((answer ≡ Err refused.Failed) × (l' ≡ over)) (log_submits.AnswersSubmit over txn label now answer l')
        → l'.disk ≡ l.disk
    by-failed true failed = ap (λ (x : LogStoreValue). x.disk) failed.1
    by-failed false is = by-answer answer is

    by-own : (b : Bool) → MatchBool b (log_submits.SubmitsOwn over txn label now answer l') ((answer ≡ Err refused.Stranger) × (l' ≡ l))
        → MakesFew (Log l) (Log l')
    by-own true is = log-same l l' (by-failed l.commits.failed is)
    by-own false strange = log-rests l l' strange.1

-- ---- queries

after-made : {T : Type 0} (answer : Result T QueryFault) (disk : DiskState) → (after_query answer disk).made ≡ disk.made
after-made (Ok found) disk = refl
after-made (Err query.Device) disk = refl
after-made (Err (query.BeforeKept floor)) disk = refl
after-made (Err (query.NotYet late)) disk = refl
after-made (Err query.EmptyInterval) disk = refl
after-made (Err query.NoMemory) disk = refl
after-made (Err (query.Damaged start)) disk = refl
after-made (Err query.NeedsDisk) disk = refl
after-made (Err query.Stranger) disk = refl

-- a query writes and syncs nothing
asked : {T W : Type 0} (held : Holding W) (tells : Bool) (own : Bool) (v v' : W) (view : ViewValue) (from : ℕ) (Refuses : QueryFault → Type 0) (Recent : T
    → Type 0) (OfHistory : History Value → T → Type 0) (Exact : Result T QueryFault → Type 0) (answer : Result T QueryFault)
    → ((x : W) (archive : ArchiveValue) (disk : DiskState) → held.disk (held.with_both x archive disk) ≡ disk)
    → OrStranger own v (Finds held tells v view from Refuses Recent OfHistory Exact) answer v' → (held.disk v').made ≤ (held.disk v).made + 1
asked {T} {W} held tells true v v' view from Refuses Recent OfHistory Exact answer has finds =
    let now = ap (λ (x : W). (held.disk x).made) finds.asks.new_is in
    let archive = record (held.archive v) { kept = (held.archive v').kept } in
    let there = ap (λ (d : DiskState). d.made) (has v archive (after_query answer (held.disk v))) in
    let same = after-made answer (held.disk v) in
    let made = now ∙ there ∙ same in
    omega (arith, made)
asked {T} {W} held tells false v v' view from Refuses Recent OfHistory Exact answer has strange =
    let now = ap (λ (x : W). (held.disk x).made) strange.1 in omega (arith, now)

-- ---- in either

slots-rest : (s s' : slot_values.StoreValue) → HasRest s s' → MakesFew (Slots s) (Slots s')
slots-rest s s' rest = let made = ap (λ (d : DiskState). d.made) rest.disk in omega (arith, made)

pub begin-few : (old new : StoreValue) (answer : Result TxnValue BeginFault) → stores.Begins old answer new → MakesFew old new
begin-few (Slots s) (Slots s') answer begins = slots-rest s s' begins.rest
begin-few (Slots s) (Log l') answer begins = absurd begins
begin-few (Log l) (Slots s') answer begins = absurd begins
begin-few (Log l) (Log l') answer begins = log-in-memory l l' l'.commits begins.new_is

pub abort-few : (old new : StoreValue) (txn : TxnValue) → stores.Aborts old txn new → MakesFew old new
abort-few (Slots s) (Slots s') txn aborts = slots-rest s s' aborts.rest
abort-few (Slots s) (Log l') txn aborts = absurd aborts
abort-few (Log l) (Slots s') txn aborts = absurd aborts
abort-few (Log l) (Log l') txn aborts = log-in-memory l l' l'.commits aborts.new_is

pub submit-few : (old new : StoreValue) (txn : TxnValue) (label now : ℕ) (answer : Result Submitted SubmitFault)
    → stores.Submits old txn label now answer new → MakesFew old new
submit-few (Slots s) (Slots s') txn label now answer submits = slots-rest s s' submits.rest
submit-few (Slots s) (Log l') txn label now answer submits = absurd submits
submit-few (Log l) (Slots s') txn label now answer submits = absurd submits
submit-few (Log l) (Log l') txn label now answer submits = log-submit l l' txn label now answer submits

pub redeem-few : (old new : StoreValue) (ticket : TicketValue) (answer : Redeemed) → stores.Redeems old ticket answer new → MakesFew old new
redeem-few (Slots s) (Slots s') ticket answer redeems = slots-rest s s' redeems.rest
redeem-few (Slots s) (Log l') ticket answer redeems = absurd redeems
redeem-few (Log l) (Slots s') ticket answer redeems = absurd redeems
redeem-few (Log l) (Log l') ticket answer redeems = log-in-memory l l' l'.commits redeems.new_is

pub pump-few : (tells : Bool) (old new : StoreValue) (answer : Result told.Did PumpFault) → stores.Pumps tells old answer new → MakesFew old new
pump-few tells (Slots s) (Slots s') answer pumps = slots-pump tells s s' pumps.0 pumps.1
pump-few tells (Slots s) (Log l') answer pumps = absurd pumps
pump-few tells (Log l) (Slots s') answer pumps = absurd pumps
pump-few tells (Log l) (Log l') answer pumps = log-pump tells l l' pumps.0 pumps.1

pub start-few : (old new : StoreValue) (upto : ℕ) (answer : Result (Unit {0}) StartFault) → StartsArchive old upto answer new → MakesFew old new
start-few (Slots s) (Slots s') upto answer starts = slots-start s s' upto answer starts
start-few (Slots s) (Log l') upto answer starts = absurd starts
start-few (Log l) (Slots s') upto answer starts = absurd starts
start-few (Log l) (Log l') upto answer starts = log-start l l' upto starts.0 starts.1

pub reclaim-few : (old new : StoreValue) (answer : Result (Unit {0}) StartFault) → StartsReclaim old answer new → MakesFew old new
reclaim-few (Slots s) (Slots s') answer starts = slots-reclaim s s' answer starts
reclaim-few (Slots s) (Log l') answer starts = absurd starts
reclaim-few (Log l) (Slots s') answer starts = absurd starts
reclaim-few (Log l) (Log l') answer starts = log-reclaim l l' starts.0 starts.1

pub floor-few : (old new : StoreValue) (scope : Option ℕ) (floor : ℕ) (answer : Result (Unit {0}) StartFault) → StartsFloor old scope floor answer new
    → MakesFew old new
floor-few (Slots s) (Slots s') scope floor answer starts = slots-floor s s' scope floor answer starts
floor-few (Slots s) (Log l') scope floor answer starts = absurd starts
floor-few (Log l) (Slots s') scope floor answer starts = absurd starts
floor-few (Log l) (Log l') scope floor answer starts = log-floor l l' scope floor starts.0 starts.1

pub grow-few : (old new : StoreValue) (answer : Result (Unit {0}) StartFault) → StartsGrowth old answer new → MakesFew old new
grow-few (Slots s) (Slots s') answer starts = slots-grow s s' answer starts
grow-few (Slots s) (Log l') answer starts = absurd starts
grow-few (Log l) (Slots s') answer starts = absurd starts
grow-few (Log l) (Log l') answer starts = log-rests l l' starts.1

pub pumped-few : (tells : Bool) (old new : StoreValue) (answer : Result told_jobs.JobDid PumpFault) → PumpsJob tells old answer new → MakesFew old new
pumped-few tells (Slots s) (Slots s') answer pumps = slots-pumped tells s s' pumps.0 pumps.1
pumped-few tells (Slots s) (Log l') answer pumps = absurd pumps
pumped-few tells (Log l) (Slots s') answer pumps = absurd pumps
pumped-few tells (Log l) (Log l') answer pumps = log-pumped tells l l' pumps.0 pumps.1

pub at-few : (tells : Bool) (v new : StoreValue) (view : ViewValue) (key : Key) (time : ℕ) (answer : Result (Option Value) QueryFault)
    → queries.AnswersAtView tells v view key time answer new → MakesFew v new
at-few tells (Slots s) (Slots s') view key time answer asks =
    asked slot_calls.in_store tells (slot_calls.is_own s view) s s' view time _ _ _ _ answer (λ x archive disk. refl) asks
at-few tells (Slots s) (Log l') view key time answer asks = absurd asks
at-few tells (Log l) (Slots s') view key time answer asks = absurd asks
at-few tells (Log l) (Log l') view key time answer asks =
    asked in_log_store tells (view_own l.commits.mark l.archive view) l l' view time _ _ _ _ answer (λ x archive disk. refl) asks

pub scan_at-few : (tells : Bool) (v new : StoreValue) (view : ViewValue) (relation time : ℕ) (answer : Result (Vec (ℕ × Value) Global) QueryFault)
    → queries.AnswersScanAt tells v view relation time answer new → MakesFew v new
scan_at-few tells (Slots s) (Slots s') view relation time answer asks =
    asked slot_calls.in_store tells (slot_calls.is_own s view) s s' view time _ _ _ _ answer (λ x archive disk. refl) asks
scan_at-few tells (Slots s) (Log l') view relation time answer asks = absurd asks
scan_at-few tells (Log l) (Slots s') view relation time answer asks = absurd asks
scan_at-few tells (Log l) (Log l') view relation time answer asks =
    asked in_log_store tells (view_own l.commits.mark l.archive view) l l' view time _ _ _ _ answer (λ x archive disk. refl) asks

pub between-few : (tells : Bool) (v new : StoreValue) (view : ViewValue) (key : Key) (a b : ℕ) (answer : Result (Vec (Version Value) Global) QueryFault)
    → queries.AnswersRows tells v view key a b answer new → MakesFew v new
between-few tells (Slots s) (Slots s') view key a b answer asks =
    asked slot_calls.in_store tells (slot_calls.is_own s view) s s' view a _ _ _ _ answer (λ x archive disk. refl) asks
between-few tells (Slots s) (Log l') view key a b answer asks = absurd asks
between-few tells (Log l) (Slots s') view key a b answer asks = absurd asks
between-few tells (Log l) (Log l') view key a b answer asks =
    asked in_log_store tells (view_own l.commits.mark l.archive view) l l' view a _ _ _ _ answer (λ x archive disk. refl) asks

pub scan_between-few : (tells : Bool) (v new : StoreValue) (view : ViewValue) (relation a b : ℕ)
    (answer : Result (Vec (ℕ × Version Value) Global) QueryFault) → queries.AnswersScanRows tells v view relation a b answer new → MakesFew v new
scan_between-few tells (Slots s) (Slots s') view relation a b answer asks =
    asked slot_calls.in_store tells (slot_calls.is_own s view) s s' view a _ _ _ _ answer (λ x archive disk. refl) asks
scan_between-few tells (Slots s) (Log l') view relation a b answer asks = absurd asks
scan_between-few tells (Log l) (Slots s') view relation a b answer asks = absurd asks
scan_between-few tells (Log l) (Log l') view relation a b answer asks =
    asked in_log_store tells (view_own l.commits.mark l.archive view) l l' view a _ _ _ _ answer (λ x archive disk. refl) asks

pub times-few : (tells : Bool) (v new : StoreValue) (label : ℕ) (answer : Result (Vec ℕ Global) QueryFault) → queries.AnswersTimes tells v label answer new
    → MakesFew v new
times-few tells (Slots s) (Slots s') label answer asks =
    let made = ap (λ (x : slot_values.StoreValue). x.disk.made) asks.new_is in omega (arith, made)
times-few tells (Slots s) (Log l') label answer asks = absurd asks
times-few tells (Log l) (Slots s') label answer asks = absurd asks
times-few tells (Log l) (Log l') label answer asks =
    let made = ap (λ (x : LogStoreValue). x.disk.made) asks.new_is ∙ after-made answer l.disk in omega (arith, made)

-- What a slot names that is open now.
use Rattle.std.proofs.Common.{◌≡◌, ◌+◌, ℕ, zero, suc, Bool, true, false, is_some, List, [], ◌∷◌, ◌++◌, take, drop, append_assoc, slice_get, Option, Some, None}
use Rattle.std.proofs.Common.{Result, Ok, Err, MatchBool, MatchOption, refl, sym, ap, subst, ◌∙◌, arith, inl, inr}
use Rattle.std.specs.List.{AllByRecursion, flat_map}
use Rattle.extents.specs.declared.usage.Usage.{Usage}
use Rattle.extents.specs.declared.usage.Usage.TheVariants.{Out, Kept}
use Rattle.extents.specs.Usages.{IsKept, AreOut, with_usage, with_usages}
use Rattle.extents.proofs.Frames.{first_changed, now_has}
use Rattle.status.specs.Growth.{grew_at}
use Rattle.status.specs.GrowthState.{GrowthState}
use Rattle.status.specs.declared.growth.Grew.{Grew}
use Rattle.status.specs.declared.growth.Grew.TheVariants as grew
use Rattle.status.specs.SlotCalls.{SlotStage}
use Rattle.status.specs.SlotCalls as slots
use Rattle.status.specs.TurnState.{TurnState, LogState}
use Rattle.group.specs.Queued.{QueuedValue, numbers_of}
use Rattle.group.specs.declared.queued.StoredExtent.{StoredExtent}
use Rattle.group.specs.declared.answers.Did.{Did}
use Rattle.group.specs.declared.answers.Did.TheVariants as group
use Rattle.group.specs.declared.answers.PumpFault.{PumpFault}
use Rattle.group.specs.declared.answers.PumpFault.TheVariants as fault
use Rattle.group.proofs.Publishing.{out-front, out-swapped}
use Rattle.group.specs.Order.{IsInOrder}
use Rattle.vacuum.specs.Anchors.{Sourced}
use Rattle.wire.specs.declared.slot.Anchors.{Anchors}
use Rattle.group.specs.Values.{TransactionsValue}
use Rattle.group.specs.Steps.{next_step, next_extent, grouped}
use Rattle.group.specs.declared.stage.NextStep.{NextStep}
use Rattle.group.specs.declared.stage.NextStep.TheVariants as step
use Rattle.floors.specs.Floors.{FloorsValue}
use Rattle.store.specs.Values.{StoreValue, IsOnItsWay, turn_of, turn_in}
use Rattle.store.specs.Pumps.{Pumps, TakesStep, WritesExtent, MayBeginSlot, TurnsSlot, IsTurned, started}
use Rattle.store.specs.Parts.{IsStageOf, GrowsBehind}
use Rattle.store.specs.Jobs.{PumpsJob, TakesJobStep, HasGrown, WritesOrSyncs, AnchorsOrSync, BeginsJobSlot, IsJobTurned}
use Rattle.store.specs.Archives.{ArchiveJob, job_of}
use Rattle.store.specs.declared.job.Job.{Job}
use Rattle.store.specs.declared.job.JobWork.TheVariants.{Reclaim, Floor, Grow}
use Rattle.store.specs.declared.job.JobStage.{JobStage}
use Rattle.store.specs.declared.job.JobStage.TheVariants as stages
use Rattle.store.specs.declared.job.JobDid.{JobDid}
use Rattle.store.specs.declared.job.JobDid.TheVariants as did
use Rattle.law_live_ranges.specs.Named.{IsTyped}
use Rattle.law_live_ranges.specs.Laws.{HasPublished, HasArchived, HasAnchored, NamesNoMore, NamesPiece}
use Rattle.law_refinement.proofs.Retired.{reserved-kept}
use Rattle.law_live_ranges.proofs.Naming.{kept_published, others_of, grouped_usages, grouped_queue}

-- ---- a group

first_rest : (n : ℕ) (queue : List QueuedValue) → flat_map numbers_of (take n queue) ++ flat_map numbers_of (drop n queue) ≡ flat_map numbers_of queue
first_rest zero queue = refl
first_rest (suc n) [] = refl
first_rest (suc n) (q ∷ qs) =
    append_assoc (numbers_of q) (flat_map numbers_of (take n qs)) (flat_map numbers_of (drop n qs)) ∙ ap (λ (l : List ℕ). numbers_of q ++ l) (first_rest n qs)

all_published : (us : List Usage) (ns : List ℕ) → AreOut us ns → AllByRecursion (IsKept (with_usages us ns Kept)) ns
all_published us [] out = tt
all_published us (m ∷ ms) out =
    let next = first_changed us ms m Kept out in
    let now = now_has us m Kept Out (λ same. cc) out.each.0 in
    (kept_published (with_usage us m Kept) ms m (others_of (with_usage us m Kept) ms m next.each now) now, all_published (with_usage us m Kept) ms next)

turned_published : (stage : SlotStage) (t : TurnState) (v new : StoreValue) (count : ℕ)
    → AreOut v.transactions.usages (flat_map numbers_of v.transactions.queue) → t.number ≡ v.log.used → IsTurned stage t v (group.Published count) new
    → HasPublished v count new
turned_published slots.Begun t v new count out number is = absurd (let wrong = is.0 in cc)
turned_published slots.BodyWritten t v new count out number is = absurd (let wrong = is.0 in cc)
turned_published slots.BodySynced t v new count out number is = absurd (let wrong = is.0 in cc)
turned_published slots.GateWritten t v new count out number is =
    let said : ◌≡◌ {A = Did} (group.Published count) (group.Published v.transactions.group) = is.0 in
    let same : count ≡ v.transactions.group = cc in
    let numbers : List ℕ = flat_map numbers_of (take v.transactions.group v.transactions.queue) in
    let front : AreOut v.transactions.usages numbers =
    out-front v.transactions.usages numbers (flat_map numbers_of (drop v.transactions.group v.transactions.queue))
    (subst (AreOut v.transactions.usages) (sym (first_rest v.transactions.group v.transactions.queue)) out) in
    let kept : AllByRecursion (IsKept new.transactions.usages) numbers =
    subst (λ (us : List Usage). AllByRecursion (IsKept us) numbers) (sym (ap (λ (x : TransactionsValue). x.usages) is.1))
    (all_published v.transactions.usages numbers front) in
    record {
      extents = subst (λ (n : ℕ). AllByRecursion (IsKept new.transactions.usages) (flat_map numbers_of (take n v.transactions.queue))) (sym same) kept;
      slots = omega (arith, ap (λ (l : LogState). l.used) is.2, number);
    }
turned_published slots.Opened t v new count out number is = absurd is

wrote_none : (tells : Bool) (v new : StoreValue) (count : ℕ) (o : Option StoredExtent)
    → MatchOption o ⊥ (λ stored. WritesExtent tells stored v (Ok (group.Published count)) new) → ⊥
wrote_none tells v new count None is = is
wrote_none tells v new count (Some stored) is = let wrong : ◌≡◌ {A = Did} (group.Published count) group.WroteExtent = (is.steps).answer.0 in cc

begun_none : (tells : Bool) (v new : StoreValue) (count : ℕ) (b : Bool)
    → MatchBool b ((◌≡◌ {A = Result Did PumpFault} (Ok (group.Published count)) (Err fault.Busy))
    × (new ≡ v)) (MayBeginSlot tells v (Ok (group.Published count)) new) → ⊥
begun_none tells v new count true is = let wrong = is.0 in cc
begun_none tells v new count false (inl short) = let wrong = short.1 in cc
begun_none tells v new count false (inr is) = let wrong : ◌≡◌ {A = Did} (group.Published count) group.BodyWritten = (is.turns).answer.0 in cc

turn_published : (tells : Bool) (v new : StoreValue) (count : ℕ) (o : Option TurnState)
    → AreOut v.transactions.usages (flat_map numbers_of v.transactions.queue) → MatchOption o (Unit {0}) (λ t. (t.number ≡ v.log.used) × IsOnItsWay t.stage)
    → MatchOption o ⊥ (λ t. TurnsSlot tells t v (Ok (group.Published count)) new) → HasPublished v count new
turn_published tells v new count None out number is = absurd is
turn_published tells v new count (Some t) out number is = turned_published t.stage t v new count out number.0 is.answer

takes_published : (tells : Bool) (next : NextStep) (v new : StoreValue) (count : ℕ) → AreOut v.transactions.usages (flat_map numbers_of v.transactions.queue)
    → MatchOption v.turn (Unit {0}) (λ t. (t.number ≡ v.log.used) × IsOnItsWay t.stage)
    → TakesStep tells next v (Ok (group.Published count)) new → HasPublished v count new
takes_published tells step.Idle v new count out turn is = absurd (let wrong = is.0 in cc)
takes_published tells step.WriteExtent v new count out turn is = absurd (wrote_none tells v new count (next_extent v.transactions) is)
takes_published tells step.SyncHeap v new count out turn is =
    absurd (let wrong : ◌≡◌ {A = Did} (group.Published count) group.HeapSynced = (is.steps).answer.0 in cc)
takes_published tells step.BeginSlot v new count out turn is = absurd (begun_none tells v new count (is_some (turn_of v.job)) is)
takes_published tells step.AdvanceSlot v new count out turn is = turn_published tells v new count v.turn out turn is

by_failed : (tells b : Bool) (v new : StoreValue) (count : ℕ) → v.transactions.failed ≡ b → IsTyped tells v
    → MatchBool b ((◌≡◌ {A = Result Did PumpFault} (Ok (group.Published count)) (Err fault.Failed))
    × (new ≡ v)) (TakesStep tells (next_step v.transactions) (started v) (Ok (group.Published count)) new) → HasPublished v count new
by_failed tells true v new count failed typed is = absurd (let wrong = is.0 in cc)
by_failed tells false v new count works typed is =
    let out : AreOut (grouped v.transactions).usages (flat_map numbers_of (grouped v.transactions).queue) =
    subst (λ (us : List Usage). AreOut us (flat_map numbers_of (grouped v.transactions).queue)) (sym (grouped_usages v.transactions))
    (subst (λ (q : List QueuedValue). AreOut v.transactions.usages (flat_map numbers_of q)) (sym (grouped_queue v.transactions))
    (out-front v.transactions.usages (flat_map numbers_of v.transactions.queue) v.transactions.reserved (typed.order).out)) in
    let has = takes_published tells (next_step v.transactions) (started v) new count out (((typed.in_step).turns works).turn) is in
    record {
      extents = subst (λ (q : List QueuedValue). AllByRecursion (IsKept new.transactions.usages) (flat_map numbers_of (take count q)))
          (grouped_queue v.transactions) has.extents;
      slots = has.slots;
    }

pub group_named : (tells : Bool) (old new : StoreValue) (count : ℕ) → IsTyped tells old → Pumps tells old (Ok (group.Published count)) new
    → HasPublished old count new
group_named tells old new count typed pumps = by_failed tells old.transactions.failed old new count refl typed pumps

-- ---- a job

job_turned : (stage : SlotStage) (t : TurnState) (job : ArchiveJob) (v new : StoreValue) → t.number ≡ v.log.used
    → IsJobTurned stage t (job_of job) v did.JobDone new → HasArchived v job new
job_turned slots.Begun t job v new number is = absurd (let wrong = is.0 in cc)
job_turned slots.BodyWritten t job v new number is = absurd (let wrong = is.0 in cc)
job_turned slots.BodySynced t job v new number is = absurd (let wrong = is.0 in cc)
job_turned slots.GateWritten t job v new number is =
    record { run = ap (λ (s : StoreValue). s.runs_end) is.2; slots = omega (arith, ap (λ (s : StoreValue). s.log.used) is.2, number) }
job_turned slots.Opened t job v new number is = absurd is

left_none : (tells : Bool) (left : List ℕ) (job : ArchiveJob) (v new : StoreValue)
    → WritesOrSyncs tells left job.run job.writer (job_of job) v (Ok did.JobDone) new → ⊥
left_none tells [] job v new is = let wrong : ◌≡◌ {A = JobDid} did.JobDone did.RunSynced = (is.moves).0 in cc
left_none tells (b ∷ bs) job v new is = let wrong : ◌≡◌ {A = JobDid} did.JobDone did.WroteRun = (is.moves).0 in cc

job_begun_none : (tells : Bool) (v new : StoreValue) (job : ArchiveJob) (b : Bool)
    → MatchBool b ((◌≡◌ {A = Result JobDid PumpFault} (Ok did.JobDone) (Err fault.Busy)) × (new ≡ v)) (BeginsJobSlot tells (job_of job) v (Ok did.JobDone) new)
    → ⊥
job_begun_none tells v new job true is = let wrong = is.0 in cc
job_begun_none tells v new job false (inl is) = absurd is.0
job_begun_none tells v new job false (inr is) = let wrong : ◌≡◌ {A = JobDid} did.JobDone did.BodyWritten = is.answer.0 in cc

job_takes : (tells : Bool) (stage : JobStage) (v new : StoreValue) (job : ArchiveJob) → MatchOption (turn_in stage) (Unit {0}) (λ t. t.number ≡ v.log.used)
    → TakesJobStep tells stage (job_of job) v (Ok did.JobDone) new → HasArchived v job new
job_takes tells stages.Writing v new job number is = absurd (left_none tells job.writer.left job v new is)
job_takes tells stages.Stored v new job number is = absurd (job_begun_none tells v new job (is_some v.turn) is)
job_takes tells (stages.Turning t) v new job number is = job_turned t.stage t job v new number is.answer

job_number : (v : StoreValue) (o : Option TurnState) → MatchOption o (Unit {0}) (λ t. (t.number ≡ v.log.used) × IsOnItsWay t.stage × (v.turn ≡ None))
    → MatchOption o (Unit {0}) (λ t. t.number ≡ v.log.used)
job_number v None is = tt
job_number v (Some t) is = is.0

job_by_failed : (tells b : Bool) (v new : StoreValue) (job : ArchiveJob) → v.job ≡ Some (job_of job) → v.transactions.failed ≡ b → IsTyped tells v
    → MatchBool b ((◌≡◌ {A = Result JobDid PumpFault} (Ok did.JobDone) (Err fault.Failed))
    × (new ≡ v)) (MatchOption v.job ((◌≡◌ {A = Result JobDid PumpFault} (Ok did.JobDone) (Ok did.Idle))
    × (new ≡ v)) (λ j. TakesJobStep tells j.stage j v (Ok did.JobDone) new)) → HasArchived v job new
job_by_failed tells true v new job there failed typed is = absurd (let wrong = is.0 in cc)
job_by_failed tells false v new job there works typed is =
    let number = job_number v (turn_of v.job) (((typed.in_step).turns works).job) in
    job_takes tells job.stage v new job
    (subst (λ (o : Option Job). MatchOption (turn_of o) (Unit {0}) (λ (t : TurnState). t.number ≡ v.log.used)) there number)
    (subst (λ (o : Option Job). MatchOption o ((◌≡◌ {A = Result JobDid PumpFault} (Ok did.JobDone) (Ok did.Idle))
    × (new ≡ v)) (λ (j : Job). TakesJobStep tells j.stage j v (Ok did.JobDone) new)) there is)

pub run_named : (tells : Bool) (old new : StoreValue) (job : ArchiveJob) → IsTyped tells old → old.job ≡ Some (job_of job)
    → PumpsJob tells old (Ok did.JobDone) new → HasArchived old job new
run_named tells old new job typed there pumps = job_by_failed tells old.transactions.failed old new job there refl typed pumps

-- ---- a reclaim

abbrev reclaim_of : Anchors → Sourced → ℕ → JobStage → Job
reclaim_of anchors source written stage = record { work = Reclaim anchors source written; stage = stage }

reclaim_turned : (at : SlotStage) (t : TurnState) (anchors : Anchors) (source : Sourced) (written : ℕ) (stage : JobStage) (v new : StoreValue)
    → AreOut v.transactions.usages v.transactions.reserved → t.number ≡ v.log.used
    → IsJobTurned at t (reclaim_of anchors source written stage) v did.JobDone new → HasAnchored v new
reclaim_turned slots.Begun t anchors source written stage v new out number is = absurd (let wrong = is.0 in cc)
reclaim_turned slots.BodyWritten t anchors source written stage v new out number is = absurd (let wrong = is.0 in cc)
reclaim_turned slots.BodySynced t anchors source written stage v new out number is = absurd (let wrong = is.0 in cc)
reclaim_turned slots.GateWritten t anchors source written stage v new out number is = record {
  extents =
      subst (λ (us : List Usage). AllByRecursion (IsKept us) v.transactions.reserved) (sym (ap (λ (s : StoreValue). s.transactions.usages) is.2))
      (reserved-kept anchors.upto v.transactions.times v.transactions.usages v.transactions.reserved out);
  slots = omega (arith, ap (λ (s : StoreValue). s.log.used) is.2, number);
}
reclaim_turned slots.Opened t anchors source written stage v new out number is = absurd is

anchors_none : (tells : Bool) (o : Option ℕ) (anchors : Anchors) (source : Sourced) (written : ℕ) (job : Job) (v new : StoreValue)
    → AnchorsOrSync tells o anchors source written job v (Ok did.JobDone) new → ⊥
anchors_none tells None anchors source written job v new is = let wrong : ◌≡◌ {A = JobDid} did.JobDone did.HeapSynced = (is.moves).0 in cc
anchors_none tells (Some number) anchors source written job v new is = let wrong : ◌≡◌ {A = JobDid} did.JobDone did.WroteExtent = (is.moves).0 in cc

reclaim_begun_none : (tells : Bool) (v new : StoreValue) (anchors : Anchors) (source : Sourced) (written : ℕ) (stage : JobStage) (b : Bool)
    → MatchBool b ((◌≡◌ {A = Result JobDid PumpFault} (Ok did.JobDone) (Err fault.Busy))
    × (new ≡ v)) (BeginsJobSlot tells (reclaim_of anchors source written stage) v (Ok did.JobDone) new) → ⊥
reclaim_begun_none tells v new anchors source written stage true is = let wrong = is.0 in cc
reclaim_begun_none tells v new anchors source written stage false (inl short) = let wrong = short.1 in cc
reclaim_begun_none tells v new anchors source written stage false (inr is) = let wrong : ◌≡◌ {A = JobDid} did.JobDone did.BodyWritten = is.answer.0 in cc

reclaim_takes : (tells : Bool) (stage : JobStage) (v new : StoreValue) (anchors : Anchors) (source : Sourced) (written : ℕ)
    → AreOut v.transactions.usages v.transactions.reserved → MatchOption (turn_in stage) (Unit {0}) (λ t. t.number ≡ v.log.used)
    → TakesJobStep tells stage (reclaim_of anchors source written stage) v (Ok did.JobDone) new → HasAnchored v new
reclaim_takes tells stages.Writing v new anchors source written out number is =
    absurd (anchors_none tells (slice_get v.transactions.reserved written) anchors source written (reclaim_of anchors source written stages.Writing) v new is)
reclaim_takes tells stages.Stored v new anchors source written out number is =
    absurd (reclaim_begun_none tells v new anchors source written stages.Stored (is_some v.turn) is)
reclaim_takes tells (stages.Turning t) v new anchors source written out number is =
    reclaim_turned t.stage t anchors source written (stages.Turning t) v new out number is.answer

job_out : (v : TransactionsValue) → IsInOrder v → AreOut v.usages v.reserved
job_out v order = out-front v.usages v.reserved (flat_map numbers_of v.queue) (out-swapped v.usages (flat_map numbers_of v.queue) v.reserved order.out)

reclaim_by_failed : (tells b : Bool) (v new : StoreValue) (anchors : Anchors) (source : Sourced) (written : ℕ) (stage : JobStage) → v.job
    ≡ Some (reclaim_of anchors source written stage) → v.transactions.failed ≡ b → IsTyped tells v
    → MatchBool b ((◌≡◌ {A = Result JobDid PumpFault} (Ok did.JobDone) (Err fault.Failed))
    × (new ≡ v)) (MatchOption v.job ((◌≡◌ {A = Result JobDid PumpFault} (Ok did.JobDone) (Ok did.Idle))
    × (new ≡ v)) (λ j. TakesJobStep tells j.stage j v (Ok did.JobDone) new)) → HasAnchored v new
reclaim_by_failed tells true v new anchors source written stage there failed typed is = absurd (let wrong = is.0 in cc)
reclaim_by_failed tells false v new anchors source written stage there works typed is =
    let number = job_number v (turn_of v.job) (((typed.in_step).turns works).job) in
    reclaim_takes tells stage v new anchors source written (job_out v.transactions typed.order)
    (subst (λ (o : Option Job). MatchOption (turn_of o) (Unit {0}) (λ (t : TurnState). t.number ≡ v.log.used)) there number)
    (subst (λ (o : Option Job). MatchOption o ((◌≡◌ {A = Result JobDid PumpFault} (Ok did.JobDone) (Ok did.Idle))
    × (new ≡ v)) (λ (j : Job). TakesJobStep tells j.stage j v (Ok did.JobDone) new)) there is)

pub anchors_named : (tells : Bool) (old new : StoreValue) (anchors : Anchors) (source : Sourced) (written : ℕ) (stage : JobStage) → IsTyped tells old → old.job
    ≡ Some (reclaim_of anchors source written stage) → PumpsJob tells old (Ok did.JobDone) new → HasAnchored old new
anchors_named tells old new anchors source written stage typed there pumps =
    reclaim_by_failed tells old.transactions.failed old new anchors source written stage there refl typed pumps

-- ---- a floor

abbrev floor_of : Option ℕ → ℕ → FloorsValue → JobStage → Job
floor_of scope time floors stage = record { work = Floor scope time floors; stage = stage }

floor_turned : (at : SlotStage) (t : TurnState) (scope : Option ℕ) (time : ℕ) (floors : FloorsValue) (stage : JobStage) (v new : StoreValue) → t.number
    ≡ v.log.used → IsJobTurned at t (floor_of scope time floors stage) v did.JobDone new → NamesNoMore v new
floor_turned slots.Begun t scope time floors stage v new number is = absurd (let wrong = is.0 in cc)
floor_turned slots.BodyWritten t scope time floors stage v new number is = absurd (let wrong = is.0 in cc)
floor_turned slots.BodySynced t scope time floors stage v new number is = absurd (let wrong = is.0 in cc)
floor_turned slots.GateWritten t scope time floors stage v new number is = record {
  slots = omega (arith, ap (λ (s : StoreValue). s.log.used) is.2, number);
  usages = ap (λ (s : StoreValue). s.transactions.usages) is.2;
  runs = ap (λ (s : StoreValue). s.runs_end) is.2;
}
floor_turned slots.Opened t scope time floors stage v new number is = absurd is

floor_begun_none : (tells : Bool) (v new : StoreValue) (scope : Option ℕ) (time : ℕ) (floors : FloorsValue) (stage : JobStage) (b : Bool)
    → MatchBool b ((◌≡◌ {A = Result JobDid PumpFault} (Ok did.JobDone) (Err fault.Busy))
    × (new ≡ v)) (BeginsJobSlot tells (floor_of scope time floors stage) v (Ok did.JobDone) new) → ⊥
floor_begun_none tells v new scope time floors stage true is = let wrong = is.0 in cc
floor_begun_none tells v new scope time floors stage false (inl is) = absurd is.0
floor_begun_none tells v new scope time floors stage false (inr is) = let wrong : ◌≡◌ {A = JobDid} did.JobDone did.BodyWritten = is.answer.0 in cc

floor_takes : (tells : Bool) (stage : JobStage) (v new : StoreValue) (scope : Option ℕ) (time : ℕ) (floors : FloorsValue)
    → MatchOption (turn_in stage) (Unit {0}) (λ t. t.number ≡ v.log.used) → TakesJobStep tells stage (floor_of scope time floors stage) v (Ok did.JobDone) new
    → NamesNoMore v new
floor_takes tells stages.Writing v new scope time floors number is = absurd is
floor_takes tells stages.Stored v new scope time floors number is = absurd (floor_begun_none tells v new scope time floors stages.Stored (is_some v.turn) is)
floor_takes tells (stages.Turning t) v new scope time floors number is = floor_turned t.stage t scope time floors (stages.Turning t) v new number is.answer

floor_by_failed : (tells b : Bool) (v new : StoreValue) (scope : Option ℕ) (time : ℕ) (floors : FloorsValue) (stage : JobStage) → v.job
    ≡ Some (floor_of scope time floors stage) → v.transactions.failed ≡ b → IsTyped tells v
    → MatchBool b ((◌≡◌ {A = Result JobDid PumpFault} (Ok did.JobDone) (Err fault.Failed))
    × (new ≡ v)) (MatchOption v.job ((◌≡◌ {A = Result JobDid PumpFault} (Ok did.JobDone) (Ok did.Idle))
    × (new ≡ v)) (λ j. TakesJobStep tells j.stage j v (Ok did.JobDone) new)) → NamesNoMore v new
floor_by_failed tells true v new scope time floors stage there failed typed is = absurd (let wrong = is.0 in cc)
floor_by_failed tells false v new scope time floors stage there works typed is =
    let number = job_number v (turn_of v.job) (((typed.in_step).turns works).job) in
    floor_takes tells stage v new scope time floors
    (subst (λ (o : Option Job). MatchOption (turn_of o) (Unit {0}) (λ (t : TurnState). t.number ≡ v.log.used)) there number)
    (subst (λ (o : Option Job). MatchOption o ((◌≡◌ {A = Result JobDid PumpFault} (Ok did.JobDone) (Ok did.Idle))
    × (new ≡ v)) (λ (j : Job). TakesJobStep tells j.stage j v (Ok did.JobDone) new)) there is)

pub floor_names_no_more : (tells : Bool) (old new : StoreValue) (scope : Option ℕ) (time : ℕ) (floors : FloorsValue) (stage : JobStage) → IsTyped tells old
    → old.job ≡ Some (floor_of scope time floors stage) → PumpsJob tells old (Ok did.JobDone) new → NamesNoMore old new
floor_names_no_more tells old new scope time floors stage typed there pumps =
    floor_by_failed tells old.transactions.failed old new scope time floors stage there refl typed pumps

-- ---- a growth

abbrev growth_of : GrowthState → JobStage → Job
growth_of growth stage = record { work = Grow growth; stage = stage }

has_grown : (grew : Grew) (growth : GrowthState) (v new : StoreValue) → growth.piece ≡ v.log.pieces → HasGrown grew growth v did.JobDone new → NamesPiece v new
has_grown grew.WroteZeros growth v new piece is = absurd (let wrong = is.0 in cc)
has_grown grew.ZerosSynced growth v new piece is = absurd (let wrong = is.0 in cc)
has_grown grew.GateWritten growth v new piece is = absurd (let wrong = is.0 in cc)
has_grown grew.Grown growth v new piece is = record {
  pieces = ap (λ (s : StoreValue). s.log.pieces) is.2 ∙ ap (λ (n : ℕ). n + 1) piece;
  slots = ap (λ (s : StoreValue). s.log.used) is.2;
  usages = ap (λ (s : StoreValue). s.transactions.usages) is.2;
  runs = ap (λ (s : StoreValue). s.runs_end) is.2;
}

growth_takes : (tells : Bool) (stage : JobStage) (v new : StoreValue) (growth : GrowthState) → IsStageOf (Grow growth) stage → growth.piece ≡ v.log.pieces
    → TakesJobStep tells stage (growth_of growth stage) v (Ok did.JobDone) new → NamesPiece v new
growth_takes tells stages.Writing v new growth fits piece is = has_grown (grew_at growth.stage) growth v new piece is.answer
growth_takes tells stages.Stored v new growth fits piece is = absurd fits
growth_takes tells (stages.Turning t) v new growth fits piece is = absurd fits

growth_by_failed : (tells b : Bool) (v new : StoreValue) (growth : GrowthState) (stage : JobStage) → v.job ≡ Some (growth_of growth stage)
    → v.transactions.failed ≡ b → IsTyped tells v
    → MatchBool b ((◌≡◌ {A = Result JobDid PumpFault} (Ok did.JobDone) (Err fault.Failed))
    × (new ≡ v)) (MatchOption v.job ((◌≡◌ {A = Result JobDid PumpFault} (Ok did.JobDone) (Ok did.Idle))
    × (new ≡ v)) (λ j. TakesJobStep tells j.stage j v (Ok did.JobDone) new)) → NamesPiece v new
growth_by_failed tells true v new growth stage there failed typed is = absurd (let wrong = is.0 in cc)
growth_by_failed tells false v new growth stage there works typed is =
    let behind : GrowsBehind (Grow growth) v.log =
    subst (λ (o : Option Job). MatchOption o (Unit {0}) (λ (j : Job). GrowsBehind j.work v.log)) there typed.grows in
    let fits : IsStageOf (Grow growth) stage = subst (λ (o : Option Job). MatchOption o (Unit {0}) (λ (j : Job). IsStageOf j.work j.stage)) there typed.stage in
    growth_takes tells stage v new growth fits behind.1
    (subst (λ (o : Option Job). MatchOption o ((◌≡◌ {A = Result JobDid PumpFault} (Ok did.JobDone) (Ok did.Idle))
    × (new ≡ v)) (λ (j : Job). TakesJobStep tells j.stage j v (Ok did.JobDone) new)) there is)

pub growth_names_piece : (tells : Bool) (old new : StoreValue) (growth : GrowthState) (stage : JobStage) → IsTyped tells old → old.job
    ≡ Some (growth_of growth stage) → PumpsJob tells old (Ok did.JobDone) new → NamesPiece old new
growth_names_piece tells old new growth stage typed there pumps = growth_by_failed tells old.transactions.failed old new growth stage there refl typed pumps

-- A store stays in step when its job goes on.
use Rattle.std.proofs.Common.{◌≡◌, ◌≤◌, ℕ, ◌+◌, ◌||◌, Bool, true, false, is_some, List, [], ◌∷◌, Option, Some, None, Result, Ok, Err, MatchBool, MatchOption}
use Rattle.std.proofs.Common.{MatchResult, slice_get, refl, sym, ◌∙◌, ap, subst, arith, inl, inr}
use Rattle.status.specs.SlotCalls.{SlotStage}
use Rattle.status.specs.SlotCalls as slots
use Rattle.status.specs.TurnState.{TurnState, LogState}
use Rattle.group.specs.declared.answers.PumpFault.{PumpFault}
use Rattle.group.specs.declared.answers.PumpFault.TheVariants as fault
use Rattle.group.specs.Values.{is_turning}
use Rattle.disk.specs.declared.area.Area.{Area}
use Rattle.disk.specs.declared.area.Area.TheVariants as areas
use Rattle.archive.specs.Pieces.{InWriting}
use Rattle.vacuum.specs.Anchors.{Sourced}
use Rattle.wire.specs.declared.slot.Run.{Run}
use Rattle.wire.specs.declared.slot.Anchors.{Anchors}
use Rattle.group.specs.Reclaims.{prepared}
use Rattle.status.specs.Growth.{grew_at, growth_after}
use Rattle.status.specs.GrowthState.{GrowthState}
use Rattle.status.specs.declared.growth.Grew.{Grew}
use Rattle.status.specs.declared.growth.Grew.TheVariants as grew
use Rattle.store.specs.Values.{StoreValue, IsInStep, IsOnItsWay, turn_in, lent_by}
use Rattle.store.specs.Parts.{IsInPlace, IsStageOf, IsInRange, GrowsBehind}
use Rattle.store.specs.Jobs.{TakesJobStep, Stores, WritesOrSyncs, AnchorsOrSync, SyncsStored, BeginsJobSlot, TurnsJob, IsJobTurned, JobTurnFails, JobMoves}
use Rattle.store.specs.Jobs.{with_job, job_fails, work_done, slot_opened, slot_taken, made_ready, first_turn, behind_piece, growing, grown_store, HasGrown}
use Rattle.store.specs.declared.job.Job.{Job}
use Rattle.store.specs.declared.job.JobWork.{JobWork}
use Rattle.store.specs.declared.job.JobWork.TheVariants.{Archive, Reclaim, Floor, Grow}
use Rattle.store.specs.declared.job.JobStage.{JobStage}
use Rattle.store.specs.declared.job.JobStage.TheVariants as stages
use Rattle.store.specs.declared.job.JobDid.{JobDid}
use Rattle.store.specs.declared.job.JobDid.TheVariants as did

-- what a store's own invariant says
pub record Holds (v : StoreValue) : Type 0 where
  pub in_step : IsInStep v
  pub in_range : IsInRange v

-- the same of its counts alone, while a job runs
record Counts (v : StoreValue) (job : Job) : Type 0 where
  slots : v.log.slots ≡ v.transactions.slots + lent_by job.work
  used : v.log.used ≡ v.transactions.used
  few : v.log.slots ≤ 65536
  run : IsInPlace job.work
  behind : GrowsBehind job.work v.log

-- a store on which this job runs
abbrev pub running : StoreValue → Job → StoreValue
running v job = record v { job = Some job }

counts : (v : StoreValue) (job : Job) → Holds (running v job) → Counts v job
counts v job holds =
    record { slots = holds.in_step.slots; used = holds.in_step.used; few = holds.in_range.slots; run = holds.in_range.run; behind = holds.in_range.behind }

-- a job whose slot is in the writing, or is to be, has one lent
stored-before : (work : JobWork) (turn : TurnState) → IsStageOf work (stages.Turning turn) → IsStageOf work stages.Stored
stored-before (Archive run writer) turn at = tt
stored-before (Reclaim anchors source written) turn at = tt
stored-before (Floor scope floor floors) turn at = tt
stored-before (Grow growth) turn at = absurd at

turning-stage : (work : JobWork) (turn : TurnState) → IsStageOf work stages.Stored → IsStageOf work (stages.Turning turn)
turning-stage (Archive run writer) turn at = tt
turning-stage (Reclaim anchors source written) turn at = tt
turning-stage (Floor scope floor floors) turn at = tt
turning-stage (Grow growth) turn at = absurd at

pub one-lent : (work : JobWork) → IsStageOf work stages.Stored → lent_by work ≡ 1
one-lent (Archive run writer) at = refl
one-lent (Reclaim anchors source written) at = refl
one-lent (Floor scope floor floors) at = refl
one-lent (Grow growth) at = absurd at

-- the job after a step has as many slots lent as before, and makes a piece behind the same
record Alike (v : StoreValue) (job made : Job) : Type 0 where
  lent : lent_by made.work ≡ lent_by job.work
  behind : GrowsBehind made.work v.log

alike : (v : StoreValue) (job : Job) (stage : JobStage) → Counts v job → Alike v job (record job { stage = stage })
alike v job stage c = record { lent = refl; behind = c.behind }

none-there : (o : Option TurnState) → is_some o ≡ false → o ≡ None
none-there None out = refl
none-there (Some turn) out = absurd (let is : true ≡ false = out in cc)

-- ---- one step

fails : (v : StoreValue) (job made : Job) (new : StoreValue) → (IsInPlace job.work → IsInPlace made.work) → IsStageOf made.work made.stage → Alike v job made
    → Counts v job → Holds (job_fails (running v job) made new)
fails v job made new run_is stage same c = record {
  in_step = record {
    slots = c.slots ∙ ap (λ (n : ℕ). v.transactions.slots + n) (sym same.lent);
    used = c.used;
    turns = λ works. absurd (let is : true ≡ false = works in cc);
  };
  in_range = record { slots = c.few; run = run_is c.run; stage = stage; behind = same.behind };
}

-- the job's slot is what it was
goes-on : (v : StoreValue) (job made : Job) (new : StoreValue) → (IsInPlace job.work → IsInPlace made.work) → IsStageOf made.work made.stage → Alike v job made
    → turn_in made.stage ≡ turn_in job.stage → Holds (running v job) → Holds (with_job (running v job) made new)
goes-on v job made new run_is stage same turn_is holds = record {
  in_step = record {
    slots = holds.in_step.slots ∙ ap (λ (n : ℕ). v.transactions.slots + n) (sym same.lent);
    used = holds.in_step.used;
    turns = λ works. record {
      turning = (holds.in_step.turns works).turning;
      writing = rw turn_is (holds.in_step.turns works).writing;
      turn = (holds.in_step.turns works).turn;
      job = rw turn_is (holds.in_step.turns works).job;
    };
  };
  in_range = record { slots = holds.in_range.slots; run = run_is holds.in_range.run; stage = stage; behind = same.behind };
}

-- the job's slot is in the writing
turns : (v : StoreValue) (job : Job) (next : TurnState) (new : StoreValue) → IsStageOf job.work stages.Stored → Counts v job → next.number ≡ v.log.used
    → IsOnItsWay next.stage → v.turn ≡ None → v.log.writing ≡ true → is_turning v.transactions.stage ≡ is_some v.turn
    → Holds (with_job (running v job) (record job { stage = stages.Turning next }) new)
turns v job next new stored c number way none writing turning = record {
  in_step = record {
    slots = c.slots;
    used = c.used;
    turns = λ works. record {
      turning = turning;
      writing = writing ∙ sym (ap (λ (o : Option TurnState). is_some o || true) none);
      turn = subst (λ (o : Option TurnState). MatchOption o (Unit {0}) (λ t. (t.number ≡ v.log.used) × IsOnItsWay t.stage)) (sym none) tt;
      job = (number, way, none);
    };
  };
  in_range = record { slots = c.few; run = c.run; stage = turning-stage job.work next stored; behind = c.behind };
}

-- what a job made changes nothing of the slots
record KeepsTurn (v made : StoreValue) : Type 0 where
  log : made.log ≡ v.log
  turn : made.turn ≡ v.turn
  slots : made.transactions.slots ≡ v.transactions.slots
  used : made.transactions.used ≡ v.transactions.used
  stage : made.transactions.stage ≡ v.transactions.stage

keeps-turn : (work : JobWork) (v : StoreValue) → KeepsTurn v (work_done work v)
keeps-turn (Archive run writer) v = record { log = refl; turn = refl; slots = refl; used = refl; stage = refl }
keeps-turn (Reclaim anchors source written) v = record { log = refl; turn = refl; slots = refl; used = refl; stage = refl }
keeps-turn (Floor scope floor floors) v = record { log = refl; turn = refl; slots = refl; used = refl; stage = refl }
keeps-turn (Grow growth) v = record { log = refl; turn = refl; slots = refl; used = refl; stage = refl }

-- the job is done
ends : (work : JobWork) (v : StoreValue) (job : Job) (turn : TurnState) (new : StoreValue) → lent_by job.work ≡ 1 → Counts v job → turn.number ≡ v.log.used
    → v.turn ≡ None → is_turning v.transactions.stage ≡ is_some v.turn → Holds (slot_opened (work_done work (running v job)) turn new)
ends work v job turn new one c number none turning =
    let same = keeps-turn work (running v job) in
    let no_turn : (work_done work (running v job)).turn ≡ None = same.turn ∙ none in
    record {
      in_step = record {
        slots = omega (arith, c.slots, one, ap (λ (l : LogState). l.slots) same.log, same.slots);
        used = omega (arith, c.used, number, same.used);
        turns = λ works. record {
          turning = ap is_turning same.stage ∙ turning ∙ ap is_some (sym same.turn);
          writing = sym (ap (λ (o : Option TurnState). is_some o || false) no_turn);
          turn = subst (λ (o : Option TurnState). MatchOption o (Unit {0}) (λ t. (t.number ≡ turn.number + 1) × IsOnItsWay t.stage)) (sym no_turn) tt;
          job = tt;
        };
      };
      in_range = record { slots = subst (λ (l : LogState). l.slots ≤ 65536) (sym same.log) c.few; run = tt; stage = tt; behind = tt };
    }

-- ---- what becomes of it

moves : (what : JobDid) (v : StoreValue) (job made refused : Job) (result : Result JobDid PumpFault) (new : StoreValue)
    → (IsInPlace job.work → IsInPlace made.work) → IsStageOf made.work made.stage → Alike v job made → (IsInPlace job.work → IsInPlace refused.work)
    → IsStageOf refused.work refused.stage → Alike v job refused → turn_in made.stage ≡ turn_in job.stage
    → JobMoves what made refused (running v job) result new → Holds (running v job) → Holds new
moves what v job made refused (Ok said) new run_is stage same refused_is refused_stage refused_same turn_is done holds =
    subst Holds (sym done.1) (goes-on v job made new run_is stage same turn_is holds)
moves what v job made refused (Err why) new run_is stage same refused_is refused_stage refused_same turn_is done holds =
    subst Holds (sym done.1) (fails v job refused new refused_is refused_stage refused_same (counts v job holds))

syncs : (tells : Bool) (area : Area) (what : JobDid) (v : StoreValue) (job : Job) (result : Result JobDid PumpFault) (new : StoreValue)
    → job.stage ≡ stages.Writing → IsStageOf job.work stages.Stored → SyncsStored tells area what job (running v job) result new → Holds (running v job)
    → Holds new
syncs tells area what v job result new is stored does holds =
    let c = counts v job holds in
    moves what v job _ _ result new (λ place. place) stored (alike v job stages.Stored c) (λ place. place) holds.in_range.stage
    (record { lent = refl; behind = c.behind }) (sym (ap turn_in is)) does.moves holds

runs : (tells : Bool) (left : List ℕ) (run : Run) (writer : InWriting) (v : StoreValue) (job : Job) (result : Result JobDid PumpFault) (new : StoreValue)
    → job.stage ≡ stages.Writing → job.work ≡ Archive run writer
    → WritesOrSyncs tells left run writer job (running v job) result new → Holds (running v job) → Holds new
runs tells [] run writer v job result new is work does holds =
    syncs tells areas.Archive did.RunSynced v job result new is (subst (λ (w : JobWork). IsStageOf w stages.Stored) (sym work) tt) does holds
runs tells (b ∷ bs) run writer v job result new is work does holds =
    let place : IsInPlace job.work → IsInPlace (Archive run writer) = subst IsInPlace work in
    let same : Alike v job (record job { work = Archive run (behind_piece writer) }) = record { lent = ap lent_by (sym work); behind = tt } in
    moves did.WroteRun v job _ _ result new place tt same place tt same refl does.moves holds

anchors-or-sync : (tells : Bool) (o : Option ℕ) (anchors : Anchors) (source : Sourced) (written : ℕ) (v : StoreValue) (job : Job)
    (result : Result JobDid PumpFault) (new : StoreValue) → job.stage ≡ stages.Writing → job.work ≡ Reclaim anchors source written
    → AnchorsOrSync tells o anchors source written job (running v job) result new → Holds (running v job) → Holds new
anchors-or-sync tells None anchors source written v job result new is work does holds =
    syncs tells areas.Heap did.HeapSynced v job result new is (subst (λ (w : JobWork). IsStageOf w stages.Stored) (sym work) tt) does holds
anchors-or-sync tells (Some number) anchors source written v job result new is work does holds =
    let same : Alike v job (record job { work = Reclaim anchors does.behind (written + 1) }) = record { lent = ap lent_by (sym work); behind = tt } in
    moves did.WroteExtent v job _ _ result new (λ place. tt) tt same (λ place. tt) tt same refl does.moves holds

-- ---- a piece

module _ (growth : GrowthState) (v : StoreValue) (job : Job) (new : StoreValue) (is : job.stage ≡ stages.Writing) (work : job.work ≡ Grow growth)
    (holds : Holds (running v job)) where
  made-behind : (growth.slots ≡ v.log.slots) × (growth.piece ≡ v.log.pieces) × (growth.slots + 256 ≤ 65536)
  made-behind = subst (λ (w : JobWork). GrowsBehind w v.log) work holds.in_range.behind

  piece-alike : Alike v job (growing (growth_after growth))
  piece-alike = record { lent = ap lent_by (sym work); behind = made-behind }

  goes-on-growing : Holds (with_job (running v job) (growing (growth_after growth)) new)
  goes-on-growing = goes-on v job (growing (growth_after growth)) new (λ place. tt) tt piece-alike (sym (ap turn_in is)) holds

  is-grown : v.transactions.slots + 256 ≤ 65536 → Holds (grown_store growth (running v job) new)
  is-grown room =
      let none = ap lent_by work in
      record {
        in_step = record {
          slots = omega (arith, holds.in_step.slots, none, made-behind.0);
          used = holds.in_step.used;
          turns = λ works.
              let was = holds.in_step.turns works in record {
                turning = was.turning;
                writing = was.writing ∙ ap (λ (s : JobStage). is_some v.turn || is_some (turn_in s)) is;
                turn = was.turn;
                job = tt;
              };
        };
        in_range = record { slots = omega (arith, room, holds.in_step.slots, none, made-behind.0); run = tt; stage = tt; behind = tt };
      }

  has-grown : (what : Grew) (said : JobDid) → HasGrown what growth (running v job) said new → Holds new
  has-grown grew.WroteZeros said done = subst Holds (sym done.1) goes-on-growing
  has-grown grew.ZerosSynced said done = subst Holds (sym done.1) goes-on-growing
  has-grown grew.GateWritten said done = subst Holds (sym done.1) goes-on-growing
  has-grown grew.Grown said done = subst Holds (sym done.2) (is-grown done.1)

  grows : (result : Result JobDid PumpFault)
      → MatchResult result (λ what. HasGrown (grew_at growth.stage) growth (running v job) what new)
      (λ why. Path PumpFault why fault.Failed × (new ≡ job_fails (running v job) (growing (growth_after growth)) new)) → Holds new
  grows (Ok said) done = has-grown (grew_at growth.stage) said done
  grows (Err why) done = subst Holds (sym done.1) (fails v job (growing (growth_after growth)) new (λ place. tt) tt piece-alike (counts v job holds))

stores : (tells : Bool) (work : JobWork) (v : StoreValue) (job : Job) (result : Result JobDid PumpFault) (new : StoreValue) → job.stage ≡ stages.Writing
    → job.work ≡ work → Stores tells work job (running v job) result new → Holds (running v job) → Holds new
stores tells (Archive run writer) v job result new is work does holds = runs tells writer.left run writer v job result new is work does holds
stores tells (Reclaim anchors source written) v job result new is work does holds =
    anchors-or-sync tells (slice_get v.transactions.reserved written) anchors source written v job result new is work does holds
stores tells (Floor scope floor floors) v job result new is work does holds = absurd does
stores tells (Grow growth) v job result new is work does holds = grows growth v job new is work holds result does.answer

turned : (stage : SlotStage) (own : TurnState) (v : StoreValue) (job : Job) (what : JobDid) (new : StoreValue)
    → IsJobTurned stage own job (running v job) what new → IsOnItsWay stage
    → IsStageOf job.work stages.Stored → Counts v job → own.number ≡ v.log.used → v.turn ≡ None → v.log.writing ≡ true
    → is_turning v.transactions.stage ≡ is_some v.turn → Holds new
turned slots.Begun own v job what new is way stored c number none writing turning = absurd way
turned slots.BodyWritten own v job what new is way stored c number none writing turning =
    subst Holds (sym is.1) (turns v job _ new stored c number tt none writing turning)
turned slots.BodySynced own v job what new is way stored c number none writing turning =
    subst Holds (sym is.1) (turns v job _ new stored c number tt none writing turning)
turned slots.GateWritten own v job what new is way stored c number none writing turning =
    subst Holds (sym is.2) (ends job.work v job own new (one-lent job.work stored) c number none turning)
turned slots.Opened own v job what new is way stored c number none writing turning = absurd way

advances : (own : TurnState) (v : StoreValue) (job : Job) (result : Result JobDid PumpFault) (new : StoreValue) → job.stage ≡ stages.Turning own
    → v.transactions.failed ≡ false
    → MatchResult result (λ what. IsJobTurned own.stage own job (running v job) what new) (λ why. JobTurnFails job (running v job) why new)
    → Holds (running v job) → Holds new
advances own v job (Err why) new is works answer holds =
    let stored = stored-before job.work own (subst (λ (s : JobStage). IsStageOf job.work s) is holds.in_range.stage) in
    let c = counts v job holds in
    subst Holds (sym answer.1) (fails v job (record job { stage = stages.Stored }) new (λ place. place) stored (alike v job stages.Stored c) c)
advances own v job (Ok what) new is works answer holds =
    let turns = holds.in_step.turns works in
    let turn_is : turn_in job.stage ≡ Some own = ap turn_in is in
    let slot : (own.number ≡ v.log.used) × IsOnItsWay own.stage × (v.turn ≡ None) =
    subst (λ (o : Option TurnState). MatchOption o (Unit {0}) (λ t. (t.number ≡ v.log.used) × IsOnItsWay t.stage × (v.turn ≡ None))) turn_is turns.job in
    let writing : v.log.writing ≡ true =
    turns.writing ∙ ap (λ (o : Option TurnState). is_some v.turn || is_some o) turn_is ∙ ap (λ (o : Option TurnState). is_some o || true) slot.2 in
    let stored = stored-before job.work own (subst (λ (s : JobStage). IsStageOf job.work s) is holds.in_range.stage) in
    turned own.stage own v job what new answer slot.1 stored (counts v job holds) slot.0 slot.2 writing turns.turning

-- a slot that is taken changes nothing of that
taken-behind : (work : JobWork) (log : LogState) → GrowsBehind work log → GrowsBehind work (record log { writing = true })
taken-behind (Archive run writer) log behind = tt
taken-behind (Reclaim anchors source written) log behind = tt
taken-behind (Floor scope floor floors) log behind = tt
taken-behind (Grow growth) log behind = behind

taken : (v : StoreValue) (job : Job) → Counts v job → Counts (slot_taken v) job
taken v job c = record { slots = c.slots; used = c.used; few = c.few; run = c.run; behind = taken-behind job.work v.log c.behind }

first-call : (v : StoreValue) (job : Job) (turn : TurnState) (result : Result JobDid PumpFault) (new : StoreValue) → turn.number ≡ v.log.used → v.turn ≡ None
    → is_turning v.transactions.stage ≡ is_some v.turn → IsStageOf job.work stages.Stored → Counts v job
    → MatchResult result (λ what. IsJobTurned slots.Begun turn job (running (slot_taken v) job) what new)
    (λ why. JobTurnFails job (running (slot_taken v) job) why new) → Holds new
first-call v job turn (Err why) new number none turning stored c answer =
    subst Holds (sym answer.1) (fails (slot_taken v) job _ new (λ place. place) stored (record { lent = refl; behind = taken-behind job.work v.log c.behind })
    (taken v job c))
first-call v job turn (Ok what) new number none turning stored c answer =
    subst Holds (sym answer.1) (turns (slot_taken v) job _ new stored (taken v job c) number tt none refl turning)

by-work : (tells : Bool) (work : JobWork) (v : StoreValue) (job : Job) (result : Result JobDid PumpFault) (new : StoreValue) → v.turn ≡ None
    → is_turning v.transactions.stage ≡ is_some v.turn → IsStageOf job.work stages.Stored → Counts v job
    → TurnsJob tells job (first_turn (running v job) job) (slot_taken (made_ready work (running v job))) result new → Holds new
by-work tells (Archive run writer) v job result new none turning stored c takes =
    first-call v job (first_turn (running v job) job) result new refl none turning stored c takes.answer
by-work tells (Reclaim anchors source written) v job result new none turning stored c takes =
    first-call (record v { transactions = prepared v.transactions anchors.upto }) job (first_turn (running v job) job) result new refl none turning stored
    (record { slots = c.slots; used = c.used; few = c.few; run = c.run; behind = c.behind }) takes.answer
by-work tells (Floor scope floor floors) v job result new none turning stored c takes =
    first-call v job (first_turn (running v job) job) result new refl none turning stored c takes.answer
by-work tells (Grow growth) v job result new none turning stored c takes =
    first-call v job (first_turn (running v job) job) result new refl none turning stored c takes.answer

begins : (tells b : Bool) (v : StoreValue) (job : Job) (result : Result JobDid PumpFault) (new : StoreValue) → job.stage ≡ stages.Stored → is_some v.turn ≡ b
    → v.transactions.failed ≡ false
    → MatchBool b (Path (Result JobDid PumpFault) result (Err fault.Busy) × (new ≡ running v job)) (BeginsJobSlot tells job (running v job) result new)
    → Holds (running v job) → Holds new
begins tells true v job result new at is works takes holds = subst Holds (sym takes.1) holds
begins tells false v job result new at is works (inl short) holds = subst Holds (sym short.2) holds
begins tells false v job result new at is works (inr takes) holds =
    let stored = subst (λ (s : JobStage). IsStageOf job.work s) at holds.in_range.stage in
    by-work tells job.work v job result new (none-there v.turn is) (holds.in_step.turns works).turning stored (counts v job holds) takes

takes-at : (tells : Bool) (stage : JobStage) (v : StoreValue) (job : Job) (result : Result JobDid PumpFault) (new : StoreValue) → job.stage ≡ stage
    → v.transactions.failed ≡ false
    → TakesJobStep tells stage job (running v job) result new → Holds (running v job) → Holds new
takes-at tells stages.Writing v job result new is works takes holds = stores tells job.work v job result new is refl takes holds
takes-at tells stages.Stored v job result new is works takes holds = begins tells (is_some v.turn) v job result new is refl works takes holds
takes-at tells (stages.Turning own) v job result new is works takes holds = advances own v job result new is works takes.answer holds

pub stays-in-step : (tells : Bool) (v : StoreValue) (job : Job) (result : Result JobDid PumpFault) (new : StoreValue) → v.transactions.failed ≡ false
    → TakesJobStep tells job.stage job (running v job) result new → Holds (running v job) → Holds new
stays-in-step tells v job result new works takes holds = takes-at tells job.stage v job result new refl works takes holds

-- The steps of a job, and the beginning of a floor, are the machine's.
use Rattle.std.proofs.Common.{◌≡◌, ℕ, ◌≤◌, Bool, true, false, cond, List, [], ◌∷◌, Option, None, Some, Result}
use Rattle.std.proofs.Common.{Ok, Err, refl, arith, ap, sym, subst, ◌∙◌, inl, inr}
use Rattle.std.specs.Prelude.{IsTrue, IsSome, MatchBool, MatchOption}
use Rattle.history.specs.Floors.{Raising, raised}
use Rattle.history.specs.Histories.{History}
use Rattle.history.specs.Machine.{Machine, Gate, Shut, Due, MayBeOpen, OfGroup, OfFloor, IsMachine, MayRaise}
use Rattle.history.specs.Steps.{Event, Run, FloorPublished, GateDue, GateWritten, Broke, gated}
use Rattle.history.specs.Steps.{floor_published}
use Rattle.history.specs.Steps as steps
use Rattle.history.proofs.Machines.{run-machine}
use Rattle.disk.specs.Areas.{AreSound}
use Rattle.floors.specs.Floors.{FloorsValue, floor_at, raised_in}
use Rattle.floors.proofs.Owns.{raised-is}
use mathlib.Core.Path.{fun_ext}
use Rattle.law_image.specs.Values.{Value, IsValue}
use Rattle.archive.specs.Pieces.{InWriting}
use Rattle.group.specs.declared.answers.PumpFault.{PumpFault}
use Rattle.group.specs.declared.answers.PumpFault.TheVariants as pump
use Rattle.log_base.specs.Rolls.{InRoll}
use Rattle.log_entries.specs.declared.entry.Archive.{Archive}
use Rattle.log_entries.specs.declared.entry.Base.{Base}
use Rattle.log_entries.specs.declared.entry.RelationFloor.{RelationFloor}
use Rattle.log_entries.specs.Spelling.{entry_bytes}
use Rattle.log_roots.specs.Turning.{RootTurnState}
use Rattle.log_roots.specs.Turning as turning
use Rattle.log_writer.specs.Turns.{Part, Stage, Writing, Syncing, Opening, Settling, Done, stage_after, chain_turn}
use Rattle.log_writer.specs.Whole.{WholeState}
use Rattle.log_writer.specs.Writer.{WriterState, IsOnItsWay, with_stage}
use Rattle.log_writer.specs.Writer as writers
use Rattle.commits.specs.Values.{CommitsValue, with_floors}
use Rattle.log_recovery.specs.Live.{part_of}
use Rattle.log_store.specs.Gates.{waits_at}
use Rattle.log_store.specs.Live.{is_base, with_live}
use Rattle.log_store.specs.Named.{NamedValue}
use Rattle.log_store.specs.Reclaiming.{AdvancesReclaim, StepsReclaim, at_turn, begins_roll, behind, behind_extents, behind_roll, behind_turn, with_base}
use Rattle.log_store.specs.Reclaiming.{with_reclaim_as}
use Rattle.log_store.specs.Values.{LogStoreValue, ReclaimValue, IsInStep, IsBeside, IsReclaimBeside, IsStageBeside}
use Rattle.log_store.specs.Pumps.{with_failure}
use Rattle.log_store.specs.Jobs.{PumpsJob, StepsJob, StepsAt, StepsReady, AdvancesEntry, Advances, BeginsEntry, at_stage, with_entry}
use Rattle.log_store.specs.Jobs.{after_call}
use Rattle.log_store.specs.Jobs.{did_of, entry_of, is_entering}
use Rattle.log_store.specs.Runs.{did_with, stage_with, WritesRun}
use Rattle.log_store.specs.declared.job.Job.{Job}
use Rattle.log_store.specs.declared.job.JobDid.{JobDid}
use Rattle.log_store.specs.declared.job.JobDid.TheVariants as did
use Rattle.log_store.specs.declared.job.JobStage.{JobStage}
use Rattle.log_store.specs.declared.job.JobStage.TheVariants.{Ready, Entering}
use Rattle.log_store.specs.declared.job.JobStage.TheVariants as stages
use Rattle.log_store.specs.declared.job.JobWork.{JobWork}
use Rattle.log_store.specs.declared.job.JobWork.TheVariants.{Floor}
use Rattle.log_store.specs.declared.job.JobWork.TheVariants as kinds
use Rattle.log_store.specs.declared.reclaim.ReclaimStage.{ReclaimStage}
use Rattle.log_store.specs.declared.reclaim.ReclaimStage.TheVariants.{Rolling, Turning}
use Rattle.log_store.specs.declared.reclaim.ReclaimStage.TheVariants as reclaims
use Rattle.law_refinement.specs.Laws.{job_breaks_in}
use Rattle.law_commits.specs.Standing.{StandsInMemory}
use Rattle.law_commits.proofs.Beside.{raises}
use Rattle.law_log_store.specs.Standing.{StandsOnHeap, StopsBy, StopsOnHeap}
use Rattle.law_log_store.specs.Calls.{JobStepsTo, floors_by, floors_after}
use Rattle.law_log_store.proofs.Archiving.{run-breaks}
use Rattle.law_log_store.proofs.Jobs.{job-steps}
use Rattle.law_log_store.proofs.Reclaimed.{reclaim-breaks}
use Rattle.law_log_steps.specs.Store.{AreFresh, gate_at, gate_for, gate_on, gate_of, gate_behind, gate_left, raising_with, raising_of, HasMade}
use Rattle.law_log_steps.specs.Store.{HasAllMade, Reaches, JobReaches, BaseReaches, ReclaimReaches, HasMarks, EndsInHeap, IsLeft, IsStoreOf}
use Rattle.law_log_steps.specs.Laws.{floor_events, floor_ends, job_events_in, Runs}
use Rattle.law_log_steps.proofs.InStep.{job-holds}
use Rattle.law_log_steps.proofs.Pumping.{mark-more}

-- what memory says of a machine it says of it with another floor in the making and another gate
pub making-memory : (v : CommitsValue) (m : Machine Value) (raising : Option Raising) (gate : Gate) → StandsInMemory v m
    → StandsInMemory v (record m { raising = raising; gate = gate })
making-memory v m raising gate stands = record {
  names = stands.names;
  rising = stands.rising;
  versions = stands.versions;
  forgot = stands.forgot;
  recent = stands.recent;
  queue = stands.queue;
  snapshots = stands.snapshots;
  floors = stands.floors;
  failed = stands.failed;
}

-- ---- a call of the entry's chain

-- the floor that one of a relation is to raise
abbrev raising_by : RelationFloor → Raising
raising_by floor = record { scope = Some floor.relation; floor = floor.floor }

-- the floors once the floor is in the log are those that memory has then
made-floors : (v : CommitsValue) (m : Machine Value) (floor : RelationFloor) (kept : FloorsValue) → StandsInMemory v m → MayRaise m (raising_by floor)
    → kept ≡ raised_in (Some floor.relation) floor.floor v.floors → StandsInMemory (with_floors v kept) (floor_published m (raising_by floor))
made-floors v m floor kept stands may made =
    raises v m (raising_by floor) kept stands may
    (λ relation. ap (λ (f : FloorsValue). floor_at f relation) made
    ∙ raised-is v.floors (Some floor.relation) floor.floor relation
    ∙ ap (λ (f : ℕ → ℕ). raised (Some floor.relation) floor.floor f relation) (fun_ext stands.floors))

-- and of one that has failed
broken-memory : (v : CommitsValue) (m : Machine Value) (gate : Gate) → StandsInMemory v m
    → StandsInMemory (record v { failed = true }) (record (steps.broken m) { gate = gate })
broken-memory v m gate memory = record {
  names = memory.names;
  rising = memory.rising;
  versions = memory.versions;
  forgot = memory.forgot;
  recent = memory.recent;
  queue = memory.queue;
  snapshots = memory.snapshots;
  floors = memory.floors;
  failed = refl;
}

-- the machine that has gone on, or has failed, with its gate
record Gone (tells : Bool) (m : Machine Value) (events : List (Event Value)) (after : Machine Value) (new : LogStoreValue) : Type 0 where
  run : Run IsValue m events after
  memory : StandsInMemory new.commits after
  group : after.group ≡ new.commits.group
  most : after.most ≡ m.most
  raising : after.raising ≡ raising_of new.job
  made : HasAllMade new.commits.floors new.job
  gate : after.failed ≡ false → after.gate ≡ gate_of new.turn new.job
  left : after.failed ≡ true → IsLeft tells new after
  fresh : AreFresh new.commits
  marks : HasMarks new

-- where it went: to a machine with the same history and these floors
record Went (tells : Bool) (m : Machine Value) (events : List (Event Value)) (floors : ℕ → ℕ) (fails : Bool) (new : LogStoreValue) : Type 0 where
  after : Machine Value
  gone : Gone tells m events after new
  published : after.published ≡ m.published
  queue : after.queue ≡ m.queue
  floors-are : after.floors ≡ floors
  failed : after.failed ≡ fails

-- by the answer of a call of a job with this work
abbrev Calls : Bool → Machine Value → LogStoreValue → JobWork → Result JobDid PumpFault → Type 0
Calls tells m new work (Ok what) = Went tells m (floor_ends what (raising_with work)) (floors_by work what m.floors) false new
Calls tells m new work (Err why) = (why ≡ pump.Failed) × Went tells m (job_breaks_in m.gate) m.floors true new

-- a call of the entry's chain of a floor, in a store that works
module _ (tells : Bool) (floor : RelationFloor) (kept : FloorsValue) (w : WriterState) (old new : LogStoreValue) (m : Machine Value) (on : IsOnItsWay w.stage)
    (works : m.failed ≡ false) (at_rest : old.turn ≡ None) (memory : StandsInMemory old.commits m) (fresh : AreFresh old.commits)
    (marks : HasMarks old) (machine : IsMachine IsValue m) (group : m.group ≡ old.commits.group)
    (raising : m.raising ≡ Some (raising_by floor)) (made : kept ≡ raised_in (Some floor.relation) floor.floor old.commits.floors)
    (gate : m.gate ≡ gate_at OfFloor w.stage) (is-job : old.job ≡ Some (record { work = Floor floor kept; stage = Entering w })) where
  abbrev r : Raising
  r = raising_by floor

  abbrev floor-job : Job
  floor-job = record { work = Floor floor kept; stage = Entering w }

  may : MayRaise m r
  may = subst (λ (o : Option Raising). MatchOption o (Unit {0}) (MayRaise m)) raising machine.raising

  -- the entry is one call further
  further : (next : Gate) (events : List (Event Value)) → Run IsValue m events (record m { gate = next }) → new
      ≡ record (at_stage old floor-job (Entering (with_stage w (stage_after w.stage)))) { disk = new.disk }
      → next ≡ gate_at OfFloor (stage_after w.stage) → Gone tells m events (record m { gate = next }) new
  further next events run is next-is = record {
    run = run;
    memory = subst (λ (v : CommitsValue). StandsInMemory v (record m { gate = next })) (sym (ap (λ (v : LogStoreValue). v.commits) is))
        (making-memory old.commits m m.raising next memory);
    group = group ∙ ap (λ (v : LogStoreValue). v.commits.group) (sym is);
    most = refl;
    raising = raising ∙ ap (λ (v : LogStoreValue). raising_of v.job) (sym is);
    made = subst (λ (v : LogStoreValue). HasAllMade v.commits.floors v.job) (sym is) made;
    gate = λ still. next-is
        ∙ sym (ap (λ (t : Option WriterState). gate_of t (Some (record floor-job { stage = Entering (with_stage w (stage_after w.stage)) }))) at_rest)
        ∙ ap (λ (v : LogStoreValue). gate_of v.turn v.job) (sym is);
    left = λ fails. absurd (let no : false ≡ true = sym works ∙ fails in cc);
    fresh = subst AreFresh (sym (ap (λ (v : LogStoreValue). v.commits) is)) fresh;
    marks = subst HasMarks (sym is) (record { reclaimed = marks.reclaimed; base = marks.base; job = tt; reclaim = marks.reclaim });
  }

  -- the entry is the log's
  ended : m.gate ≡ MayBeOpen OfFloor → new ≡ record (with_entry old floor-job) { disk = new.disk }
      → Gone tells m (FloorPublished r ∷ []) (floor_published m r) new
  ended may-be-open is = record {
    run = (floor_published m r, (works, raising, may-be-open, refl), refl);
    memory = subst (λ (v : CommitsValue). StandsInMemory v (floor_published m r)) (sym (ap (λ (v : LogStoreValue). v.commits) is))
        (made-floors old.commits m floor kept memory may made);
    group = group ∙ ap (λ (v : LogStoreValue). v.commits.group) (sym is);
    most = refl;
    raising = ap (λ (v : LogStoreValue). raising_of v.job) (sym is);
    made = subst (λ (v : LogStoreValue). HasAllMade v.commits.floors v.job) (sym is) tt;
    gate = λ still. sym (ap (λ (t : Option WriterState). gate_of t None) at_rest) ∙ ap (λ (v : LogStoreValue). gate_of v.turn v.job) (sym is);
    left = λ fails. absurd (let no : false ≡ true = sym works ∙ fails in cc);
    fresh = subst AreFresh (sym (ap (λ (v : LogStoreValue). v.commits) is)) fresh;
    marks = subst HasMarks (sym is) (record { reclaimed = marks.reclaimed; base = marks.base; job = tt; reclaim = marks.reclaim });
  }

  -- the machine after a call
  abbrev after : JobDid → Machine Value
  after did.Idle = m
  after did.WroteRun = m
  after did.RunSynced = m
  after did.WroteEntry = m
  after did.GateClosed = m
  after did.HeapSynced = gated m (Due OfFloor)
  after did.GateWritten = gated m (MayBeOpen OfFloor)
  after did.WroteExtent = m
  after did.WroteRoll = m
  after did.RollSynced = m
  after did.RootWritten = m
  after did.RootSynced = m
  after did.TurnWritten = m
  after did.JobDone = floor_published m r

  goes : (what : JobDid) → Advances tells floor-job w old (Ok what) new → Gone tells m (floor_events what r) (after what) new
  goes what advances =
      subst (λ (d : JobDid). Gone tells m (floor_events d r) (after d) new) (sym advances.answer.0) (by-stage w.stage refl on advances.answer.1)
    where
      by-stage : (k : Stage) → w.stage ≡ k → IsOnItsWay k → new ≡ record (after_call old floor-job w k) { disk = new.disk }
          → Gone tells m (floor_events (did_of (writers.did k)) r) (after (did_of (writers.did k))) new
      by-stage (Writing d []) e call is =
          further m.gate [] refl is (gate ∙ ap (gate_at OfFloor) e ∙ ap (λ (k : Stage). gate_at OfFloor (stage_after k)) (sym e))
      by-stage (Writing d (p ∷ rest)) e call is =
          further m.gate [] refl is (gate ∙ ap (gate_at OfFloor) e ∙ ap (λ (k : Stage). gate_at OfFloor (stage_after k)) (sym e))
      by-stage Syncing e call is =
          further (Due OfFloor) (GateDue OfFloor ∷ [])
          (gated m (Due OfFloor), (works, subst IsSome (sym raising) refl, gate ∙ ap (gate_at OfFloor) e, refl), refl) is
          (ap (λ (k : Stage). gate_at OfFloor (stage_after k)) (sym e))
      by-stage Opening e call is =
          further (MayBeOpen OfFloor) (GateWritten OfFloor ∷ [])
          (gated m (MayBeOpen OfFloor), (works, gate ∙ ap (gate_at OfFloor) e, refl), refl) is
          (ap (λ (k : Stage). gate_at OfFloor (stage_after k)) (sym e))
      by-stage Settling e call is = ended (gate ∙ ap (gate_at OfFloor) e) is
      by-stage Done e call is = absurd call

  -- where the device refuses the call the machine has failed
  fails-with : (next : Gate) (events : List (Event Value)) → Run IsValue m events (record (steps.broken m) { gate = next })
      → new ≡ record (with_failure old) { disk = new.disk }
      → next ≡ gate_behind OfFloor w.stage → Gone tells m events (record (steps.broken m) { gate = next }) new
  fails-with next events run is next-is = record {
    run = run;
    memory = subst (λ (v : CommitsValue). StandsInMemory v (record (steps.broken m) { gate = next })) (sym (ap (λ (v : LogStoreValue). v.commits) is))
        (broken-memory old.commits m next memory);
    group = group ∙ ap (λ (v : LogStoreValue). v.commits.group) (sym is);
    most = refl;
    raising = raising ∙ ap raising_of (sym is-job) ∙ ap (λ (v : LogStoreValue). raising_of v.job) (sym is);
    made = subst (λ (v : LogStoreValue). HasAllMade v.commits.floors v.job) (sym is)
        (subst (λ (j : Option Job). HasAllMade old.commits.floors j) (sym is-job) made);
    gate = λ still. absurd (let no : true ≡ false = still in cc);
    left = λ fails. inl (next-is ∙ sym (λ i. gate_left (at_rest i) (is-job i)) ∙ ap (λ (v : LogStoreValue). gate_left v.turn v.job) (sym is));
    fresh = subst AreFresh (sym (ap (λ (v : LogStoreValue). v.commits) is)) fresh;
    marks = subst HasMarks (sym is) (record { reclaimed = marks.reclaimed; base = marks.base; job = marks.job; reclaim = marks.reclaim });
  }

  abbrev Breaks : Gate → Type 0
  Breaks g = (after : Machine Value) × (after.failed ≡ true) × (after.published ≡ m.published) × (after.queue ≡ m.queue) × (after.floors ≡ m.floors)
      × Gone tells m (job_breaks_in g) after new

  breaks : (why : PumpFault) → Advances tells floor-job w old (Err why) new → Breaks m.gate
  breaks why advances = by-stage w.stage refl
    where
      here : (g : Gate) → m.gate ≡ g → Breaks g → Breaks m.gate
      here g same goes = subst Breaks (sym same) goes

      only : (g : Gate) → job_breaks_in g ≡ Broke ∷ [] → m.gate ≡ g → m.gate ≡ gate_behind OfFloor w.stage → Breaks m.gate
      only g is same left =
          here g same (
            record (steps.broken m) { gate = m.gate },
            refl,
            refl,
            refl,
            refl,
            subst (λ (es : List (Event Value)). Gone tells m es (record (steps.broken m) { gate = m.gate }) new) (sym is)
                (fails-with m.gate (Broke ∷ []) (steps.broken m, (works, refl), refl) advances.answer.1 left),
          )

      by-stage : (k : Stage) → w.stage ≡ k → Breaks m.gate
      by-stage (Writing d rest) e =
          let shut : m.gate ≡ Shut = gate ∙ ap (gate_at OfFloor) e in only Shut refl shut (shut ∙ ap (gate_behind OfFloor) (sym e))
      by-stage Syncing e = let shut : m.gate ≡ Shut = gate ∙ ap (gate_at OfFloor) e in only Shut refl shut (shut ∙ ap (gate_behind OfFloor) (sym e))
      by-stage Opening e =
          let due : m.gate ≡ Due OfFloor = gate ∙ ap (gate_at OfFloor) e in
          here (Due OfFloor) due (
            record (steps.broken m) { gate = MayBeOpen OfFloor },
            refl,
            refl,
            refl,
            refl,
            fails-with (MayBeOpen OfFloor) (GateWritten OfFloor ∷ Broke ∷ [])
                (gated m (MayBeOpen OfFloor), (works, due, refl), (steps.broken (gated m (MayBeOpen OfFloor)), (works, refl), refl)) advances.answer.1
                (ap (gate_behind OfFloor) (sym e)),
          )
      by-stage Settling e =
          let may-be-open : m.gate ≡ MayBeOpen OfFloor = gate ∙ ap (gate_at OfFloor) e in
          only (MayBeOpen OfFloor) refl may-be-open (may-be-open ∙ ap (gate_behind OfFloor) (sym e))
      by-stage Done e =
          let may-be-open : m.gate ≡ MayBeOpen OfFloor = gate ∙ ap (gate_at OfFloor) e in
          only (MayBeOpen OfFloor) refl may-be-open (may-be-open ∙ ap (gate_behind OfFloor) (sym e))

  -- ---- how the machine went

  went : (what : JobDid) → Gone tells m (floor_events what r) (after what) new
      → Went tells m (floor_events what r) (floors_by (Floor floor kept) what m.floors) false new
  went did.Idle gone = record { after = after did.Idle; gone = gone; published = refl; queue = refl; floors-are = refl; failed = works }
  went did.WroteRun gone = record { after = after did.WroteRun; gone = gone; published = refl; queue = refl; floors-are = refl; failed = works }
  went did.RunSynced gone = record { after = after did.RunSynced; gone = gone; published = refl; queue = refl; floors-are = refl; failed = works }
  went did.WroteEntry gone = record { after = after did.WroteEntry; gone = gone; published = refl; queue = refl; floors-are = refl; failed = works }
  went did.GateClosed gone = record { after = after did.GateClosed; gone = gone; published = refl; queue = refl; floors-are = refl; failed = works }
  went did.HeapSynced gone = record { after = after did.HeapSynced; gone = gone; published = refl; queue = refl; floors-are = refl; failed = works }
  went did.GateWritten gone = record { after = after did.GateWritten; gone = gone; published = refl; queue = refl; floors-are = refl; failed = works }
  went did.WroteExtent gone = record { after = after did.WroteExtent; gone = gone; published = refl; queue = refl; floors-are = refl; failed = works }
  went did.WroteRoll gone = record { after = after did.WroteRoll; gone = gone; published = refl; queue = refl; floors-are = refl; failed = works }
  went did.RollSynced gone = record { after = after did.RollSynced; gone = gone; published = refl; queue = refl; floors-are = refl; failed = works }
  went did.RootWritten gone = record { after = after did.RootWritten; gone = gone; published = refl; queue = refl; floors-are = refl; failed = works }
  went did.RootSynced gone = record { after = after did.RootSynced; gone = gone; published = refl; queue = refl; floors-are = refl; failed = works }
  went did.TurnWritten gone = record { after = after did.TurnWritten; gone = gone; published = refl; queue = refl; floors-are = refl; failed = works }
  went did.JobDone gone = record { after = after did.JobDone; gone = gone; published = refl; queue = refl; floors-are = refl; failed = works }

  floor-goes : (answer : Result JobDid PumpFault) → Advances tells floor-job w old answer new → Calls tells m new (Floor floor kept) answer
  floor-goes (Ok what) advances = went what (goes what advances)
  floor-goes (Err why) advances =
      let broken = breaks why advances in (
        advances.answer.0,
        record {
          after = broken.0;
          gone = broken.5;
          published = broken.2;
          queue = broken.3;
          floors-are = broken.4;
          failed = broken.1;
        },
      )

-- ---- calls that are no events of the machine's

-- a call of a job with this work, in a store that works
module _ (tells : Bool) (work : JobWork) (stage : JobStage) (old new : LogStoreValue) (m : Machine Value) (works : m.failed ≡ false)
    (memory : StandsInMemory old.commits m) (fresh : AreFresh old.commits) (marks : HasMarks old) (group : m.group ≡ old.commits.group)
    (raising : m.raising ≡ raising_with work) (made : HasMade old.commits.floors work)
    (is-job : old.job ≡ Some (record { work = work; stage = stage })) where
  reaches : Reaches old.named.upto work
  reaches = subst (λ (j : Option Job). JobReaches old.named.upto j) is-job marks.job

  -- the machine stays where it is
  stays : new.commits ≡ old.commits → raising_of new.job ≡ raising_with work → HasAllMade new.commits.floors new.job → HasMarks new
      → m.gate ≡ gate_of new.turn new.job → Gone tells m [] m new
  stays commits same-raising has-made has-marks gate = record {
    run = refl;
    memory = subst (λ (c : CommitsValue). StandsInMemory c m) (sym commits) memory;
    group = group ∙ ap (λ (c : CommitsValue). c.group) (sym commits);
    most = refl;
    raising = raising ∙ sym same-raising;
    made = has-made;
    gate = λ still. gate;
    left = λ fails. absurd (let no : false ≡ true = sym works ∙ fails in cc);
    fresh = subst AreFresh (sym commits) fresh;
    marks = has-marks;
  }

  staying : (what : JobDid) → floor_ends what (raising_with work) ≡ [] → m.floors ≡ floors_by work what m.floors → Gone tells m [] m new
      → Went tells m (floor_ends what (raising_with work)) (floors_by work what m.floors) false new
  staying what none same gone =
      subst (λ (es : List (Event Value)). Went tells m es (floors_by work what m.floors) false new) (sym none)
      (record { after = m; gone = gone; published = refl; queue = refl; floors-are = same; failed = works })

  -- or it fails, since the device refuses a call
  breaking : (g : Gate) → m.gate ≡ g → job_breaks_in g ≡ Broke ∷ [] → (k : JobStage)
      → new ≡ record old { commits = record old.commits { failed = true }; job = Some (record { work = work; stage = k }); disk = new.disk }
      → IsLeft tells new (steps.broken m) → Went tells m (job_breaks_in m.gate) m.floors true new
  breaking g same events k is left =
      subst (λ (es : List (Event Value)). Went tells m es m.floors true new) (sym (ap job_breaks_in same ∙ events)) (record {
        after = steps.broken m;
        gone = record {
          run = (steps.broken m, (works, refl), refl);
          memory = subst (λ (v : LogStoreValue). StandsInMemory v.commits (steps.broken m)) (sym is) (broken-memory old.commits m m.gate memory);
          group = group ∙ ap (λ (v : LogStoreValue). v.commits.group) (sym is);
          most = refl;
          raising = raising ∙ ap (λ (v : LogStoreValue). raising_of v.job) (sym is);
          made = subst (λ (v : LogStoreValue). HasAllMade v.commits.floors v.job) (sym is) made;
          gate = λ still. absurd (let no : true ≡ false = still in cc);
          left = λ fails. left;
          fresh = subst (λ (v : LogStoreValue). AreFresh v.commits) (sym is) fresh;
          marks = subst HasMarks (sym is) (record { reclaimed = marks.reclaimed; base = marks.base; job = reaches; reclaim = marks.reclaim });
        };
        published = refl;
        queue = refl;
        floors-are = refl;
        failed = refl;
      })

-- a call of the entry's chain of an archive
module _ (tells : Bool) (archive : Archive) (archives : List Archive) (w : WriterState) (old new : LogStoreValue) (m : Machine Value) (on : IsOnItsWay w.stage)
    (works : m.failed ≡ false) (at_rest : old.turn ≡ None) (memory : StandsInMemory old.commits m) (fresh : AreFresh old.commits) (marks : HasMarks old)
    (unmade : old.reclaim ≡ None) (group : m.group ≡ old.commits.group) (raising : m.raising ≡ None) (gate : m.gate ≡ Shut)
    (is-job : old.job ≡ Some (record { work = kinds.Archive archive archives; stage = Entering w })) where
  abbrev work-here : JobWork
  work-here = kinds.Archive archive archives

  abbrev entering-job : Job
  entering-job = record { work = kinds.Archive archive archives; stage = Entering w }

  reaches-here : old.named.upto ≤ archive.upto
  reaches-here = reaches tells work-here (Entering w) old new m works memory fresh marks group raising tt is-job

  -- the entry is one call further
  entry-on : (next : WriterState) → new ≡ record (at_stage old entering-job (Entering next)) { disk = new.disk } → Gone tells m [] m new
  entry-on next is =
      stays tells work-here (Entering w) old new m works memory fresh marks group raising tt is-job (ap (λ (v : LogStoreValue). v.commits) is)
      (ap (λ (v : LogStoreValue). raising_of v.job) is)
      (subst (λ (v : LogStoreValue). HasAllMade v.commits.floors v.job) (sym is) tt)
      (subst HasMarks (sym is) (record { reclaimed = marks.reclaimed; base = marks.base; job = reaches-here; reclaim = marks.reclaim }))
      (gate ∙ sym (ap (λ (t : Option WriterState). gate_of t (Some (record entering-job { stage = Entering next }))) at_rest)
      ∙ ap (λ (v : LogStoreValue). gate_of v.turn v.job) (sym is))

  -- the entry is the log's
  entry-done : new ≡ record (with_entry old entering-job) { disk = new.disk } → Gone tells m [] m new
  entry-done is =
      stays tells work-here (Entering w) old new m works memory fresh marks group raising tt is-job (ap (λ (v : LogStoreValue). v.commits) is)
      (ap (λ (v : LogStoreValue). raising_of v.job) is)
      (subst (λ (v : LogStoreValue). HasAllMade v.commits.floors v.job) (sym is) tt)
      (subst HasMarks (sym is) (record {
        reclaimed = (let low = marks.reclaimed in omega (arith, low, reaches-here));
        base = marks.base;
        job = tt;
        reclaim = subst (ReclaimReaches archive.upto) (sym unmade) tt;
      }))
      (gate ∙ sym (ap (λ (t : Option WriterState). gate_of t None) at_rest) ∙ ap (λ (v : LogStoreValue). gate_of v.turn v.job) (sym is))

  entry-stays : (k : Stage) → IsOnItsWay k → new ≡ record (after_call old entering-job w k) { disk = new.disk } → Gone tells m [] m new
  entry-stays (Writing d rest) call is = entry-on (with_stage w (stage_after w.stage)) is
  entry-stays Syncing call is = entry-on (with_stage w (stage_after w.stage)) is
  entry-stays Opening call is = entry-on (with_stage w (stage_after w.stage)) is
  entry-stays Settling call is = entry-done is
  entry-stays Done call is = absurd call

  same-floors : (what : JobDid) → m.floors ≡ floors_by work-here what m.floors
  same-floors did.Idle = refl
  same-floors did.WroteRun = refl
  same-floors did.RunSynced = refl
  same-floors did.WroteEntry = refl
  same-floors did.GateClosed = refl
  same-floors did.HeapSynced = refl
  same-floors did.GateWritten = refl
  same-floors did.WroteExtent = refl
  same-floors did.WroteRoll = refl
  same-floors did.RollSynced = refl
  same-floors did.RootWritten = refl
  same-floors did.RootSynced = refl
  same-floors did.TurnWritten = refl
  same-floors did.JobDone = refl

  archive-goes : (answer : Result JobDid PumpFault) → Advances tells entering-job w old answer new → Calls tells m new work-here answer
  archive-goes (Ok what) advances =
      staying tells work-here (Entering w) old new m works memory fresh marks group raising tt is-job what refl (same-floors what)
      (entry-stays w.stage on advances.answer.1)
  archive-goes (Err why) advances =
      let is : new ≡ record old { commits = record old.commits { failed = true }; job = Some entering-job; disk = new.disk } =
      advances.answer.1 ∙ ap (λ (j : Option Job). record old { commits = record old.commits { failed = true }; job = j; disk = new.disk }) is-job in (
        advances.answer.0,
        breaking tells work-here (Entering w) old new m works memory fresh marks group raising tt is-job Shut gate refl (Entering w) is
            (inl (gate ∙ sym (ap (λ (t : Option WriterState). gate_left t (Some entering-job)) at_rest)
            ∙ ap (λ (v : LogStoreValue). gate_left v.turn v.job) (sym is))),
      )

-- a call of the writing of a run, whatever group is in the writing
module _ (tells : Bool) (work : JobWork) (writer : InWriting) (old new : LogStoreValue) (m : Machine Value) (works : m.failed ≡ false)
    (memory : StandsInMemory old.commits m) (fresh : AreFresh old.commits) (marks : HasMarks old) (group : m.group ≡ old.commits.group)
    (raising : m.raising ≡ raising_with work) (made : HasMade old.commits.floors work) (gate : m.gate ≡ gate_of old.turn old.job)
    (is-job : old.job ≡ Some (record { work = work; stage = stages.Writing writer })) where
  abbrev writing-job : Job
  writing-job = record { work = work; stage = stages.Writing writer }

  -- of a job whose entry is not in the writing the gate is that of the group
  quiet-gate : (k : JobStage) → is_entering k ≡ false → m.gate ≡ gate_of old.turn (Some (record { work = work; stage = k }))
  quiet-gate k calm = gate ∙ ap (gate_of old.turn) is-job ∙ by-turn old.turn
    where
      shut : (s : JobStage) → is_entering s ≡ false → gate_on work s ≡ Shut
      shut (stages.Writing x) quiet = refl
      shut (Ready waited) quiet = refl
      shut (Entering x) quiet = absurd (let no : true ≡ false = quiet in cc)

      by-turn : (t : Option WriterState) → gate_of t (Some writing-job) ≡ gate_of t (Some (record { work = work; stage = k }))
      by-turn None = sym (shut k calm)
      by-turn (Some x) = refl

  calm-behind : (left : List ℕ) (made : Bool) → is_entering (stage_with left writer made) ≡ false
  calm-behind [] true = refl
  calm-behind [] false = refl
  calm-behind (b ∷ bs) made = refl

  run-stays : (k : JobStage) → is_entering k ≡ false → new ≡ record old { job = Some (record { work = work; stage = k }); disk = new.disk }
      → Gone tells m [] m new
  run-stays k calm is =
      stays tells work (stages.Writing writer) old new m works memory fresh marks group raising made is-job (ap (λ (v : LogStoreValue). v.commits) is)
      (ap (λ (v : LogStoreValue). raising_of v.job) is)
      (subst (λ (v : LogStoreValue). HasAllMade v.commits.floors v.job) (sym is) made)
      (subst HasMarks (sym is) (record {
        reclaimed = marks.reclaimed;
        base = marks.base;
        job = reaches tells work (stages.Writing writer) old new m works memory fresh marks group raising made is-job;
        reclaim = marks.reclaim;
      }))
      (quiet-gate k calm ∙ ap (λ (v : LogStoreValue). gate_of v.turn v.job) (sym is))

  -- it is none, and raises none
  no-events : (left : List ℕ) (r : Option Raising) → floor_ends (did_with left) r ≡ []
  no-events [] None = refl
  no-events [] (Some r) = refl
  no-events (b ∷ bs) None = refl
  no-events (b ∷ bs) (Some r) = refl

  no-floors : (left : List ℕ) → m.floors ≡ floors_by work (did_with left) m.floors
  no-floors [] = refl
  no-floors (b ∷ bs) = refl

  run-goes : (answer : Result JobDid PumpFault) → (IsTrue tells → (why : PumpFault) → answer ≡ Err why → StopsBy false new m.published m.queue m.floors)
      → WritesRun tells writing-job old answer new → Calls tells m new work answer
  run-goes (Ok what) stops writes =
      subst (λ (d : JobDid). Went tells m (floor_ends d (raising_with work)) (floors_by work d m.floors) false new) (sym writes.answer.0)
      (staying tells work (stages.Writing writer) old new m works memory fresh marks group raising made is-job (did_with writer.left)
      (no-events writer.left (raising_with work)) (no-floors writer.left)
      (run-stays (stage_with writer.left writer true) (calm-behind writer.left true) writes.answer.1))
  run-goes (Err why) stops writes = (
    writes.answer.0,
    breaking tells work (stages.Writing writer) old new m works memory fresh marks group raising made is-job (gate_of old.turn old.job) gate
        (ap (λ (j : Option Job). job_breaks_in (gate_of old.turn j)) is-job ∙ broke old.turn) behind-it writes.answer.1 (inr (record {
          gate = quiet-gate behind-it (calm-behind writer.left false) ∙ ap (λ (v : LogStoreValue). gate_of v.turn v.job) (sym writes.answer.1);
          stops = λ told. stops told why refl;
        })),
  )
    where
      behind-it : JobStage
      behind-it = stage_with writer.left writer false

      by-stage : (k : Stage) → job_breaks_in (gate_at OfGroup k) ≡ Broke ∷ []
      by-stage (Writing d rest) = refl
      by-stage Syncing = refl
      by-stage Opening = refl
      by-stage Settling = refl
      by-stage Done = refl

      broke : (t : Option WriterState) → job_breaks_in (gate_of t (Some writing-job)) ≡ Broke ∷ []
      broke None = refl
      broke (Some x) = by-stage x.stage

-- ---- what a call of a reclaim leaves

-- memory forgets nothing, and the group and the job are as far as they were
record LeavesStore (old new : LogStoreValue) : Type 0 where
  commits : new.commits ≡ old.commits
  turn : new.turn ≡ old.turn
  job : new.job ≡ old.job
  marks : HasMarks new

module _ (v : LogStoreValue) (r : ReclaimValue) (marks : HasMarks v) (reaches : BaseReaches v.named.upto r) where
  -- it is further, and makes the same
  further-leaves : (after : ReclaimValue) → after.base ≡ r.base → after.named ≡ r.named → LeavesStore v (with_reclaim_as v after)
  further-leaves after base named = record {
    commits = refl;
    turn = refl;
    job = refl;
    marks = record {
      reclaimed = marks.reclaimed;
      base = marks.base;
      job = marks.job;
      reclaim = record {
        base = ap (λ (b : Base). b.upto) base ∙ reaches.base;
        named = ap (λ (n : NamedValue). n.upto) named ∙ reaches.named;
      };
    };
  }

  -- the base is the log's
  based-leaves : LeavesStore v (with_base v r)
  based-leaves = record {
    commits = refl;
    turn = refl;
    job = refl;
    marks = record {
      reclaimed = (let low = marks.reclaimed in let same = reaches.named in omega (arith, low, same));
      base = (let low = marks.reclaimed in let same = reaches.base in omega (arith, low, same));
      job = subst (λ (n : ℕ). JobReaches n v.job) (sym reaches.named) marks.job;
      reclaim = tt;
    };
  }

  roll-leaves : (roll : Option InRoll) → LeavesStore v (with_reclaim_as v (begins_roll v.roots r roll))
  roll-leaves None = further-leaves (begins_roll v.roots r None) refl refl
  roll-leaves (Some roll) = further-leaves (begins_roll v.roots r (Some roll)) refl refl

  extents-leave : (anchors base : WholeState) (xs ys : List Part) → LeavesStore v (with_reclaim_as v (behind_extents v.roots r anchors base xs ys))
  extents-leave anchors base (x ∷ xs) ys = further-leaves (behind_extents v.roots r anchors base (x ∷ xs) ys) refl refl
  extents-leave anchors base [] (y ∷ ys) = further-leaves (behind_extents v.roots r anchors base [] (y ∷ ys)) refl refl
  extents-leave anchors base [] [] = roll-leaves r.roll

  pieces-leave : (roll : InRoll) (bs : List ℕ) → LeavesStore v (with_reclaim_as v (behind_roll v.roots r roll bs))
  pieces-leave roll [] = further-leaves (behind_roll v.roots r roll []) refl refl
  pieces-leave roll (b ∷ bs) = further-leaves (behind_roll v.roots r roll (b ∷ bs)) refl refl

  turn-leaves : (t : RootTurnState) (k : turning.Stage) → LeavesStore v (behind_turn v r t k)
  turn-leaves t turning.Writing = further-leaves (at_turn r t turning.Syncing) refl refl
  turn-leaves t turning.Syncing = further-leaves (at_turn r t turning.Turning) refl refl
  turn-leaves t turning.Turning = further-leaves (at_turn r t turning.Settling) refl refl
  turn-leaves t turning.Settling = based-leaves
  turn-leaves t turning.Done = record { commits = refl; turn = refl; job = refl; marks = marks }

  behind-leaves : (k : ReclaimStage) → LeavesStore v (behind v r k)
  behind-leaves (reclaims.Writing anchors base) = extents-leave anchors base anchors.left base.left
  behind-leaves (Rolling roll) = pieces-leave roll roll.left
  behind-leaves (Turning t) = turn-leaves t t.stage

-- ---- a step of a job

-- the store stands for where the machine went
runs-so : (tells : Bool) (old new : LogStoreValue) (m : Machine Value) (events : List (Event Value)) (floors : ℕ → ℕ) (failed : Bool)
    → IsStoreOf tells old m → Went tells m events floors failed new
    → (IsTrue tells → MatchBool failed (StopsOnHeap new m.published m.queue floors) (StandsOnHeap new m.published m.queue floors)) → EndsInHeap new
    → Runs tells m events new
runs-so tells old new m events floors failed is went disk ends = record {
  after = went.after;
  run = went.gone.run;
  stands = record {
    memory = went.gone.memory;
    machine = run-machine IsValue m went.after events is.machine went.gone.run;
    writing = record {
      most = went.gone.most ∙ is.writing.most;
      group = went.gone.group;
      raising = went.gone.raising;
      made = went.gone.made;
      gate = went.gone.gate;
      left = went.gone.left;
    };
    fresh = went.gone.fresh;
    marks = went.gone.marks;
    ends = ends;
    disk = λ told. subst (λ (b : Bool). OnDiskAs b went.after.published went.after.queue went.after.floors)
        (sym (went.gone.memory.failed ∙ went.failed))
        (subst (λ (h : History Value). OnDiskAs failed h went.after.queue went.after.floors) (sym went.published)
        (subst (λ (q : History Value). OnDiskAs failed m.published q went.after.floors) (sym went.queue)
        (subst (λ (f : ℕ → ℕ). OnDiskAs failed m.published m.queue f) (sym went.floors-are) (disk told))));
  };
}
  where
    OnDiskAs : Bool → History Value → History Value → (ℕ → ℕ) → Type 0
    OnDiskAs b h queue f = MatchBool b (StopsOnHeap new h queue f) (StandsOnHeap new h queue f)

no-idle : (o : Option Raising) → [] ≡ floor_ends did.Idle o
no-idle None = refl
no-idle (Some r) = refl

module _ (tells : Bool) (old new : LogStoreValue) (answer : Result JobDid PumpFault) (m : Machine Value) (step : IsInStep old)
    (sound : IsTrue tells → AreSound new.disk.areas) (is : IsStoreOf tells old m) where
  -- a store that works
  module _ (works : old.commits.failed ≡ false) (pumps : PumpsJob tells old answer new) where
    works-here : m.failed ≡ false
    works-here = sym is.memory.failed ∙ works

    ends-on : EndsInHeap new
    ends-on = (job-holds tells old new answer (step, is.ends) pumps).1

    steps-to : IsTrue tells → JobStepsTo answer old new m.published m.queue m.floors
    steps-to told =
        job-steps tells old new answer m.published m.queue m.floors told works step
        (subst (λ (b : Bool). MatchBool b (StopsOnHeap old m.published m.queue m.floors) (StandsOnHeap old m.published m.queue m.floors)) works
        (is.disk told)) pumps (sound told)

    stands-here : IsTrue tells → StandsOnHeap old m.published m.queue m.floors
    stands-here told =
        subst (λ (b : Bool). MatchBool b (StopsOnHeap old m.published m.queue m.floors) (StandsOnHeap old m.published m.queue m.floors)) works (is.disk told)

    same : new ≡ old → Runs tells m [] new
    same new-is = record { after = m; run = refl; stands = subst (λ (v : LogStoreValue). IsStoreOf tells v m) (sym new-is) is }

    called : (job : Job) → old.job ≡ Some job → (a : Result JobDid PumpFault) → Calls tells m new job.work a
        → (IsTrue tells → JobStepsTo a old new m.published m.queue m.floors) → Runs tells m (job_events_in m a) new
    called job is-job (Ok what) calls steps-to =
        subst (λ (o : Option Raising). Runs tells m (floor_ends what o) new) (sym (is.writing.raising ∙ ap raising_of is-job))
        (runs-so tells old new m (floor_ends what (raising_with job.work)) (floors_by job.work what m.floors) false is calls
        (λ told. subst (λ (j : Option Job). StandsOnHeap new m.published m.queue (floors_after j what m.floors)) is-job (steps-to told)) ends-on)
    called job is-job (Err why) calls steps-to =
        subst (λ (f : PumpFault). Runs tells m (job_events_in m (Err f)) new) (sym calls.0)
        (subst (λ (es : List (Event Value)). Runs tells m es new) (ap (λ (b : Bool). cond b [] (job_breaks_in m.gate)) (sym works-here))
        (runs-so tells old new m (job_breaks_in m.gate) m.floors true is calls.1
        (λ told. (subst (λ (f : PumpFault). JobStepsTo (Err f) old new m.published m.queue m.floors) calls.0 (steps-to told)).stops) ends-on))

    raising-is : (job : Job) → old.job ≡ Some job → m.raising ≡ raising_with job.work
    raising-is job is-job = is.writing.raising ∙ ap raising_of is-job

    made-is : (job : Job) → old.job ≡ Some job → HasMade old.commits.floors job.work
    made-is job is-job = subst (λ (j : Option Job). HasAllMade old.commits.floors j) is-job is.writing.made

    gate-is : (job : Job) → old.job ≡ Some job → old.turn ≡ None → m.gate ≡ gate_on job.work job.stage
    gate-is job is-job at_rest = is.writing.gate works-here ∙ (λ i. gate_of (at_rest i) (is-job i))

    marks-are : (job : Job) → old.job ≡ Some job → Reaches old.named.upto job.work
    marks-are job is-job = subst (λ (j : Option Job). JobReaches old.named.upto j) is-job is.marks.job

    -- beside a job no reclaim runs
    none-made : (job : Job) → old.job ≡ Some job → old.reclaim ≡ None
    none-made job is-job = by-reclaim old.reclaim step.reclaim
      where
        by-reclaim : (o : Option ReclaimValue) → IsReclaimBeside old.job old.live.chains old.room o → o ≡ None
        by-reclaim None beside = refl
        by-reclaim (Some r) beside = absurd (let alone : old.job ≡ None = beside.alone in let no : Some job ≡ None = sym is-job ∙ alone in cc)

    -- a call of an entry's chain, by the work of its job
    goes-by : (v : LogStoreValue) (work : JobWork) (w : WriterState) → IsOnItsWay w.stage → v.turn ≡ None → StandsInMemory v.commits m → AreFresh v.commits
        → HasMarks v → v.reclaim ≡ None → m.group ≡ v.commits.group → m.raising ≡ raising_with work → HasMade v.commits.floors work
        → m.gate ≡ gate_for work w.stage
        → v.job ≡ Some (record { work = work; stage = Entering w }) → Advances tells (record { work = work; stage = Entering w }) w v answer new
        → Calls tells m new work answer
    goes-by v (Floor floor kept) w on at_rest memory fresh marks unmade group raising made gate is-job advances =
        floor-goes tells floor kept w v new m on works-here at_rest memory fresh marks is.machine group raising made gate is-job answer advances
    goes-by v (kinds.Archive archive archives) w on at_rest memory fresh marks unmade group raising made gate is-job advances =
        archive-goes tells archive archives w v new m on works-here at_rest memory fresh marks unmade group raising gate is-job answer advances

    -- an entry begins, and its first call is made
    begun : (job : Job) (waited : Bool) → old.job ≡ Some job → job.stage ≡ Ready waited → old.turn ≡ None → (there : LogStoreValue)
        → (b : BeginsEntry old job there) → AdvancesEntry tells there.job there answer new → Calls tells m new job.work answer
    begun job waited is-job e at_rest there b advances =
        let writer : WriterState = record {
          numbers = b.numbers;
          link = b.link;
          content = entry_bytes (entry_of job.work);
          stage = Writing [] (chain_turn b.numbers b.link (entry_bytes (entry_of job.work))).parts;
        } in
        let target : LogStoreValue =
        record (at_stage old job (Entering writer)) { room = b.room; live = with_live old.live b.numbers (part_of (entry_of job.work)) } in
        goes-by target job.work writer tt at_rest is.memory is.fresh (record {
          reclaimed = is.marks.reclaimed;
          base = (
              let low = is.marks.base in
              let same = mark-more old.live.chains (record { numbers = b.numbers; part = part_of (entry_of job.work) }) (no-base job.work) in
              omega (arith, low, same)
              );
          job = marks-are job is-job;
          reclaim = is.marks.reclaim;
        }) (none-made job is-job) is.writing.group
        (raising-is job is-job) (made-is job is-job) (gate-is job is-job at_rest ∙ ap (gate_on job.work) e ∙ sym (begun-gate job.work writer.stage refl)) refl
        (subst (λ (x : LogStoreValue). AdvancesEntry tells x.job x answer new) b.new_is advances)
      where
        no-base : (work : JobWork) → is_base (part_of (entry_of work)) ≡ false
        no-base (Floor floor kept) = refl
        no-base (kinds.Archive archive archives) = refl

        begun-gate : (work : JobWork) (k : Stage) → gate_at OfFloor k ≡ Shut → gate_for work k ≡ Shut
        begun-gate (Floor floor kept) k shut = shut
        begun-gate (kinds.Archive archive archives) k shut = refl

    by-turn : (job : Job) (waited : Bool) → old.job ≡ Some job → job.stage ≡ Ready waited → (t : Option WriterState) → old.turn ≡ t
        → StepsReady tells job t old answer new → Runs tells m (job_events_in m answer) new
    by-turn job waited is-job e None at_rest (inl none) = subst (λ (a : Result JobDid PumpFault). Runs tells m (job_events_in m a) new) (sym none.0)
        (same none.1)
    by-turn job waited is-job e None at_rest (inr enters) =
        called job is-job answer (begun job waited is-job e at_rest enters.0 enters.1 enters.2) steps-to
    by-turn job waited is-job e (Some w) standing busy =
        subst (λ (a : Result JobDid PumpFault). Runs tells m (job_events_in m a) new) (sym busy.0)
        (runs-so tells old new m [] m.floors false is (record {
          after = m;
          gone = record {
            run = refl;
            memory = subst (λ (v : LogStoreValue). StandsInMemory v.commits m) (sym busy.1) is.memory;
            group = is.writing.group ∙ ap (λ (v : LogStoreValue). v.commits.group) (sym busy.1);
            most = refl;
            raising = raising-is job is-job ∙ ap (λ (v : LogStoreValue). raising_of v.job) (sym busy.1);
            made = subst (λ (v : LogStoreValue). HasAllMade v.commits.floors v.job) (sym busy.1) (made-is job is-job);
            gate = λ on. is.writing.gate on ∙ ap (λ (t : Option WriterState). gate_of t old.job) standing
                ∙ ap (λ (t : Option WriterState). gate_of t (Some (record job { stage = Ready true }))) (sym standing)
                ∙ ap (λ (v : LogStoreValue). gate_of v.turn v.job) (sym busy.1);
            left = λ fails. absurd (let no : false ≡ true = sym works-here ∙ fails in cc);
            fresh = subst (λ (v : LogStoreValue). AreFresh v.commits) (sym busy.1) is.fresh;
            marks = subst HasMarks (sym busy.1)
                (record { reclaimed = is.marks.reclaimed; base = is.marks.base; job = marks-are job is-job; reclaim = is.marks.reclaim });
          };
          published = refl;
          queue = refl;
          floors-are = refl;
          failed = works-here;
        }) (λ told. subst (λ (a : Result JobDid PumpFault). JobStepsTo a old new m.published m.queue m.floors) busy.0 (steps-to told)) ends-on)

    -- what is so of a job is so of it with the stage that it has
    at-stage : (job : Job) (k : JobStage) → job.stage ≡ k → (P : Job → Type 0) → P job → P (record { work = job.work; stage = k })
    at-stage job k e P so = subst (λ (s : JobStage). P (record { work = job.work; stage = s })) e so

    -- a refused call of a run leaves the heap as it is
    breaks-calm : (job : Job) (writer : InWriting) → old.job ≡ Some job → job.stage ≡ stages.Writing writer → WritesRun tells job old answer new → IsTrue tells
        → (why : PumpFault) → answer ≡ Err why → StopsBy false new m.published m.queue m.floors
    breaks-calm job writer is-job e writes told why refused =
        let on = subst (λ (b : Bool). MatchBool b (StopsOnHeap old m.published m.queue m.floors) (StandsOnHeap old m.published m.queue m.floors)) works
        (is.disk told) in
        run-breaks old m.published m.queue m.floors on job writer is-job e tells told works new false why
        (subst (λ (a : Result JobDid PumpFault). WritesRun tells job old a new) refused writes)

    by-stage : (job : Job) → old.job ≡ Some job → (k : JobStage) → job.stage ≡ k → StepsAt tells job k old answer new
        → Runs tells m (job_events_in m answer) new
    by-stage job is-job (stages.Writing writer) e so =
        called job is-job answer
        (run-goes tells job.work writer old new m works-here is.memory is.fresh is.marks is.writing.group (raising-is job is-job) (made-is job is-job)
        (is.writing.gate works-here) (is-job ∙ ap (λ (k : JobStage). Some (record { work = job.work; stage = k })) e) answer
        (breaks-calm job writer is-job e so)
        (at-stage job (stages.Writing writer) e (λ (j : Job). WritesRun tells j old answer new) so)) steps-to
    by-stage job is-job (Ready waited) e so = by-turn job waited is-job e old.turn refl so
    by-stage job is-job (Entering w) e so =
        let beside = subst (λ (k : JobStage). IsStageBeside old.turn k) e (subst (λ (j : Option Job). IsBeside old.turn j) is-job step.beside) in
        called job is-job answer
        (goes-by old job.work w beside.1 beside.0 is.memory is.fresh is.marks (none-made job is-job) is.writing.group (raising-is job is-job)
        (made-is job is-job)
        (gate-is job is-job beside.0 ∙ ap (gate_on job.work) e) (is-job ∙ ap (λ (k : JobStage). Some (record { work = job.work; stage = k })) e)
        (at-stage job (Entering w) e (λ (j : Job). Advances tells j w old answer new) so)) steps-to

    by-job : (j : Option Job) → old.job ≡ j → StepsJob tells j old answer new → Runs tells m (job_events_in m answer) new
    by-job None none so =
        subst (λ (a : Result JobDid PumpFault). Runs tells m (job_events_in m a) new) (sym so.0)
        (subst (λ (es : List (Event Value)). Runs tells m es new) (no-idle m.raising) (same so.1))
    by-job (Some job) is-job so = by-stage job is-job job.stage refl so

    -- ---- a step of a reclaim

    alone : (r : ReclaimValue) → old.reclaim ≡ Some r → old.job ≡ None
    alone r runs = (subst (IsReclaimBeside old.job old.live.chains old.room) runs step.reclaim).alone

    reaches-so : (r : ReclaimValue) → old.reclaim ≡ Some r → BaseReaches old.named.upto r
    reaches-so r runs = subst (ReclaimReaches old.named.upto) runs is.marks.reclaim

    -- where no job runs the gate is that of the group
    group-breaks : old.job ≡ None → job_breaks_in m.gate ≡ Broke ∷ []
    group-breaks none =
        ap job_breaks_in (is.writing.gate works-here) ∙ ap (λ (j : Option Job). job_breaks_in (gate_of old.turn j)) none ∙ by-group old.turn
      where
        by-stage-of : (k : Stage) → job_breaks_in (gate_at OfGroup k) ≡ Broke ∷ []
        by-stage-of (Writing d rest) = refl
        by-stage-of Syncing = refl
        by-stage-of Opening = refl
        by-stage-of Settling = refl
        by-stage-of Done = refl

        by-group : (t : Option WriterState) → job_breaks_in (gate_of t None) ≡ Broke ∷ []
        by-group None = refl
        by-group (Some w) = by-stage-of w.stage

    reclaim-runs : (r : ReclaimValue) → old.reclaim ≡ Some r → (a : Result JobDid PumpFault) → AdvancesReclaim tells r old a new
        → (IsTrue tells → JobStepsTo a old new m.published m.queue m.floors) → Runs tells m (job_events_in m a) new
    reclaim-runs r runs (Ok what) advances stepped =
        let there = behind-leaves old r is.marks (reaches-so r runs) r.stage in
        let commits : new.commits ≡ old.commits = ap (λ (v : LogStoreValue). v.commits) advances.answer.1 ∙ there.commits in
        let turn : new.turn ≡ old.turn = ap (λ (v : LogStoreValue). v.turn) advances.answer.1 ∙ there.turn in
        let job : new.job ≡ old.job = ap (λ (v : LogStoreValue). v.job) advances.answer.1 ∙ there.job in
        let none = alone r runs in
        subst (λ (o : Option Raising). Runs tells m (floor_ends what o) new) (sym (is.writing.raising ∙ ap raising_of none)) (record {
          after = m;
          run = refl;
          stands = record {
            memory = subst (λ (c : CommitsValue). StandsInMemory c m) (sym commits) is.memory;
            machine = is.machine;
            writing = record {
              most = is.writing.most;
              group = is.writing.group ∙ ap (λ (c : CommitsValue). c.group) (sym commits);
              raising = is.writing.raising ∙ ap raising_of (sym job);
              made = subst (λ (c : CommitsValue). HasAllMade c.floors new.job) (sym commits)
                  (subst (λ (j : Option Job). HasAllMade old.commits.floors j) (sym job) is.writing.made);
              gate = λ on. is.writing.gate on ∙ (λ i. gate_of (sym turn i) (sym job i));
              left = λ fails. absurd (let no : false ≡ true = sym works-here ∙ fails in cc);
            };
            fresh = subst AreFresh (sym commits) is.fresh;
            marks = subst HasMarks (sym advances.answer.1) (record {
              reclaimed = there.marks.reclaimed;
              base = there.marks.base;
              job = there.marks.job;
              reclaim = there.marks.reclaim;
            });
            ends = ends-on;
            disk = λ told. subst (λ (b : Bool). MatchBool b (StopsOnHeap new m.published m.queue m.floors) (StandsOnHeap new m.published m.queue m.floors))
                (sym (ap (λ (c : CommitsValue). c.failed) commits ∙ works))
                (subst (λ (j : Option Job). StandsOnHeap new m.published m.queue (floors_after j what m.floors)) none (stepped told));
          };
        })
    reclaim-runs r runs (Err why) advances stepped =
        let is-new = advances.answer.1 in
        let none = alone r runs in
        let broke : Run IsValue m (Broke ∷ []) (steps.broken m) = (steps.broken m, (works-here, refl), refl) in
        subst (λ (f : PumpFault). Runs tells m (job_events_in m (Err f)) new) (sym advances.answer.0)
        (subst (λ (es : List (Event Value)). Runs tells m es new) (ap (λ (b : Bool). cond b [] (job_breaks_in m.gate)) (sym works-here))
        (subst (λ (es : List (Event Value)). Runs tells m es new) (sym (group-breaks none)) (record {
          after = steps.broken m;
          run = broke;
          stands = record {
            memory = subst (λ (v : LogStoreValue). StandsInMemory v.commits (steps.broken m)) (sym is-new)
                (broken-memory old.commits m m.gate is.memory);
            machine = run-machine IsValue m (steps.broken m) (Broke ∷ []) is.machine broke;
            writing = record {
              most = is.writing.most;
              group = is.writing.group ∙ ap (λ (v : LogStoreValue). v.commits.group) (sym is-new);
              raising = is.writing.raising ∙ ap (λ (v : LogStoreValue). raising_of v.job) (sym is-new);
              made = subst (λ (v : LogStoreValue). HasAllMade v.commits.floors v.job) (sym is-new) is.writing.made;
              gate = λ still. absurd (let no : true ≡ false = still in cc);
              left = λ fails. inr (record {
                gate = is.writing.gate works-here ∙ ap (λ (v : LogStoreValue). gate_of v.turn v.job) (sym is-new);
                stops = λ told. reclaim-breaks tells old new m.published m.queue m.floors told works (stands-here told) r runs why advances;
              });
            };
            fresh = subst (λ (v : LogStoreValue). AreFresh v.commits) (sym is-new) is.fresh;
            marks = subst HasMarks (sym is-new)
                (record { reclaimed = is.marks.reclaimed; base = is.marks.base; job = is.marks.job; reclaim = is.marks.reclaim });
            ends = ends-on;
            disk = λ told. subst (λ (b : Bool). MatchBool b (StopsOnHeap new m.published m.queue m.floors) (StandsOnHeap new m.published m.queue m.floors))
                (sym (ap (λ (v : LogStoreValue). v.commits.failed) is-new))
                (subst (λ (f : PumpFault). JobStepsTo (Err f) old new m.published m.queue m.floors) advances.answer.0 (stepped told)).stops;
          };
        })))

    reclaim-stands : (r : ReclaimValue) → old.reclaim ≡ Some r → StepsReclaim tells r old answer new → Runs tells m (job_events_in m answer) new
    reclaim-stands r runs so = by-gate (waits_at old.turn r.stage) so
      where
        by-gate : (b : Bool) → MatchBool b ((answer ≡ Err pump.Busy) × (new ≡ old)) (AdvancesReclaim tells r old answer new)
            → Runs tells m (job_events_in m answer) new
        by-gate true busy = subst (λ (a : Result JobDid PumpFault). Runs tells m (job_events_in m a) new) (sym busy.0) (same busy.1)
        by-gate false advances = reclaim-runs r runs answer advances steps-to

    by-reclaim : (o : Option ReclaimValue) → old.reclaim ≡ o
        → MatchOption o (StepsJob tells old.job old answer new) (λ r. StepsReclaim tells r old answer new) → Runs tells m (job_events_in m answer) new
    by-reclaim None none so = by-job old.job refl so
    by-reclaim (Some r) runs so = reclaim-stands r runs so

  pub job-stands : PumpsJob tells old answer new → Runs tells m (job_events_in m answer) new
  job-stands pumps = by-failed old.commits.failed refl pumps
    where
      Steps : Type 0
      Steps = MatchOption old.reclaim (StepsJob tells old.job old answer new) (λ r. StepsReclaim tells r old answer new)

      by-failed : (b : Bool) → old.commits.failed ≡ b → PumpsJob tells old answer new → Runs tells m (job_events_in m answer) new
      by-failed true failed is-so =
          let rests = subst (λ (b : Bool). MatchBool b ((answer ≡ Err pump.Failed) × (new ≡ old)) Steps) failed is-so in
          let fails : m.failed ≡ true = sym is.memory.failed ∙ failed in
          subst (λ (a : Result JobDid PumpFault). Runs tells m (job_events_in m a) new) (sym rests.0)
          (subst (λ (es : List (Event Value)). Runs tells m es new) (ap (λ (b : Bool). cond b [] (job_breaks_in m.gate)) (sym fails))
          (record { after = m; run = refl; stands = subst (λ (v : LogStoreValue). IsStoreOf tells v m) (sym rests.1) is }))
      by-failed false works is-so =
          by-reclaim works is-so old.reclaim refl
          (subst (λ (b : Bool). MatchBool b ((answer ≡ Err pump.Failed) × (new ≡ old)) Steps) works is-so)

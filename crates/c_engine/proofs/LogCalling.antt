-- The device call of a step of a store whose log lies in the heap: all are calls of the heap, but those that write the run of an archive or the roll of a
-- reclaim, and those that turn the status area to another root.
use Rattle.std.specs.Prelude.{ℕ, ◌≡◌, ◌==◌, Bool, true, false, List, [], ◌∷◌, ◌++◌, length, Option, None, Some, is_some, Result, Ok, Err}
use Rattle.std.specs.Prelude.{MatchBool, MatchOption, if◌then◌else◌}
use Rattle.std.proofs.Common.{ap, sym, subst, refl, inl, inr}
use Rattle.disk.specs.Areas.{Areas}
use Rattle.disk.specs.Calls.{DiskState}
use Rattle.disk.specs.declared.area.Area.{Area}
use Rattle.disk.specs.declared.area.Area.TheVariants.{Status, Heap, Archive}
use Rattle.archive.specs.Pieces.{InWriting}
use Rattle.group.specs.declared.answers.PumpFault.{PumpFault}
use Rattle.group.specs.declared.answers.PumpFault.TheVariants as fault
use Rattle.log_writer.specs.Turns.{Turn, Stage, Writing, Syncing, Opening, Settling, Done, IsCallOf}
use Rattle.log_writer.specs.Writer.{WriterState, turn}
use Rattle.log_writer.specs.Writer as writers
use Rattle.byteorder.specs.Endian.{little_bytes}
use Rattle.log_roots.specs.Turning as turning
use Rattle.log_base.specs.Rolls.{InRoll}
use Rattle.log_writer.specs.Turns.{Part}
use Rattle.log_store.specs.Gates.{waits_at, waits_to_open}
use Rattle.log_store.specs.Reclaiming.{StepsReclaim, AdvancesReclaim, CallsExtents, CallsRoll, did_extents, did_roll, did_of_root}
use Rattle.log_store.specs.Reclaiming as reclaiming
use Rattle.log_store.specs.declared.reclaim.ReclaimStage.{ReclaimStage}
use Rattle.log_store.specs.declared.reclaim.ReclaimStage.TheVariants as reclaims
use Rattle.log_store.specs.Pumps.{Pumps, TakesStep, bars_groups, BeginsOrWaits, BeginsGroup, AdvancesGroup, Advances, did_of}
use Rattle.log_store.specs.Jobs as log_jobs
use Rattle.log_store.specs.Runs.{CallsWith, CallsAt, WritesRun, did_with, did_at}
use Rattle.log_store.specs.Values.{LogStoreValue, ReclaimValue}
use Rattle.log_store.specs.declared.job.Job.{Job}
use Rattle.log_store.specs.declared.job.JobDid.{JobDid}
use Rattle.log_store.specs.declared.job.JobDid.TheVariants as job_did
use Rattle.log_store.specs.declared.job.JobStage.{JobStage}
use Rattle.log_store.specs.declared.job.JobStage.TheVariants.{Ready, Entering}
use Rattle.log_store.specs.declared.job.JobStage.TheVariants as stages
use Rattle.log_store.specs.declared.pump.Did.{Did}
use Rattle.log_store.specs.declared.pump.Did.TheVariants as did
use Rattle.any_store.specs.Steps.{log_did, log_job_did}
use Rattle.c_engine.specs.Steps.{group_call, job_call}
use Rattle.c_engine.proofs.Leading.{LeadsBy, by-write, by-sync, of-did, of-job-did}

-- what a step did, by either name
of-log-did : (log : Area) (before after : Areas) (what other : Did) → what ≡ other → LeadsBy before (group_call log (log_did other)) after
    → LeadsBy before (group_call log (log_did what)) after
of-log-did log before after what other same leads = of-did log before after (log_did what) (log_did other) (ap log_did same) leads

of-log-job-did : (log : Area) (before after : Areas) (what other : JobDid) → what ≡ other → LeadsBy before (job_call log (log_job_did other)) after
    → LeadsBy before (job_call log (log_job_did what)) after
of-log-job-did log before after what other same leads =
    of-job-did log before after (log_job_did what) (log_job_did other) (ap log_job_did same) leads

-- ---- groups

stage-leads : (stage : Stage) (t : Turn) (group : ℕ) (before after : Areas) (what : Did) → IsCallOf t stage (Ok tt) before after
    → what ≡ did_of (writers.did stage) group → LeadsBy before (group_call Heap (log_did what)) after
stage-leads (Writing done (p ∷ rest)) t group before after what call is = of-log-did Heap _ _ what did.WroteExtent is (by-write Heap _ _ _ _ call)
stage-leads (Writing done []) t group before after what call is = of-log-did Heap _ _ what did.GateClosed is (by-write Heap _ _ _ _ call)
stage-leads Syncing t group before after what call is = of-log-did Heap _ _ what did.HeapSynced is (by-sync Heap _ _ call)
stage-leads Opening t group before after what call is = of-log-did Heap _ _ what did.GateWritten is (by-write Heap _ _ _ _ call)
stage-leads Settling t group before after what call is = of-log-did Heap _ _ what (did.Published group) is (by-sync Heap _ _ call)
stage-leads Done t group before after what call is = absurd call

advances-lead : (w : WriterState) (old new : LogStoreValue) (what : Did) → Advances true w old (Ok what) new
    → LeadsBy old.disk.areas (group_call Heap (log_did what)) new.disk.areas
advances-lead w old new what advances = stage-leads w.stage (turn w) old.commits.group _ _ what (advances.call refl) advances.answer.0

begins-lead : (old new : LogStoreValue) (what : Did) → BeginsGroup true old (Ok what) new
    → LeadsBy old.disk.areas (group_call Heap (log_did what)) new.disk.areas
begins-lead old new what (inl none) = absurd (let e = none.0 in cc)
begins-lead old new what (inr begins) =
    subst (λ (d : DiskState). LeadsBy d.areas (group_call Heap (log_did what)) new.disk.areas) (ap (λ (v : LogStoreValue). v.disk) begins.1.new_is)
    (by-turn begins.0.turn begins.2)
  where
    by-turn : (o : Option WriterState) → AdvancesGroup true begins.0 o (Ok what) new
        → LeadsBy begins.0.disk.areas (group_call Heap (log_did what)) new.disk.areas
    by-turn None never = absurd never
    by-turn (Some w) advances = advances-lead w begins.0 new what advances

abbrev said : Did → Result Did PumpFault
said what = Ok what

pub log-pump-leads : (old new : LogStoreValue) (what : Did) → Pumps true old (Ok what) new
    → LeadsBy old.disk.areas (group_call Heap (log_did what)) new.disk.areas
log-pump-leads old new what pumps = by-failed old.commits.failed pumps
  where
    by-turn : (o : Option WriterState) → TakesStep true old o (Ok what) new → LeadsBy old.disk.areas (group_call Heap (log_did what)) new.disk.areas
    by-turn None takes = by-idle (length old.commits.queue == 0) takes
      where
        by-job : (b : Bool) → MatchBool b ((said what ≡ Err fault.Busy) × (new ≡ old)) (BeginsGroup true old (Ok what) new)
            → LeadsBy old.disk.areas (group_call Heap (log_did what)) new.disk.areas
        by-job true busy = absurd (let e = busy.0 in cc)
        by-job false begins = begins-lead old new what begins

        by-idle : (b : Bool) → MatchBool b ((said what ≡ said did.Idle) × (new ≡ old)) (BeginsOrWaits true old (Ok what) new)
            → LeadsBy old.disk.areas (group_call Heap (log_did what)) new.disk.areas
        by-idle true idle = let same : what ≡ did.Idle =
            (let e = idle.0 in cc) in of-log-did Heap _ _ what did.Idle same (ap (λ (v : LogStoreValue). v.disk.areas) idle.1)
        by-idle false begins = by-job (bars_groups old.job) begins
    by-turn (Some w) takes = by-gate (waits_to_open old.reclaim w.stage) takes
      where
        by-gate : (b : Bool) → MatchBool b ((said what ≡ Err fault.Busy) × (new ≡ old)) (Advances true w old (Ok what) new)
            → LeadsBy old.disk.areas (group_call Heap (log_did what)) new.disk.areas
        by-gate true busy = absurd (let e = busy.0 in cc)
        by-gate false advances = advances-lead w old new what advances

    by-failed : (b : Bool) → MatchBool b ((Ok what ≡ Err fault.Failed) × (new ≡ old)) (TakesStep true old old.turn (Ok what) new)
        → LeadsBy old.disk.areas (group_call Heap (log_did what)) new.disk.areas
    by-failed true fails = absurd (let e = fails.0 in cc)
    by-failed false takes = by-turn old.turn takes

-- ---- jobs

entry-stage-leads : (stage : Stage) (t : Turn) (before after : Areas) (what : JobDid) → IsCallOf t stage (Ok tt) before after
    → what ≡ log_jobs.did_of (writers.did stage) → LeadsBy before (job_call Heap (log_job_did what)) after
entry-stage-leads (Writing done (p ∷ rest)) t before after what call is = of-log-job-did Heap _ _ what job_did.WroteEntry is (by-write Heap _ _ _ _ call)
entry-stage-leads (Writing done []) t before after what call is = of-log-job-did Heap _ _ what job_did.GateClosed is (by-write Heap _ _ _ _ call)
entry-stage-leads Syncing t before after what call is = of-log-job-did Heap _ _ what job_did.HeapSynced is (by-sync Heap _ _ call)
entry-stage-leads Opening t before after what call is = of-log-job-did Heap _ _ what job_did.GateWritten is (by-write Heap _ _ _ _ call)
entry-stage-leads Settling t before after what call is = of-log-job-did Heap _ _ what job_did.JobDone is (by-sync Heap _ _ call)
entry-stage-leads Done t before after what call is = absurd call

entry-leads : (job : Job) (w : WriterState) (old new : LogStoreValue) (what : JobDid) → log_jobs.Advances true job w old (Ok what) new
    → LeadsBy old.disk.areas (job_call Heap (log_job_did what)) new.disk.areas
entry-leads job w old new what advances = entry-stage-leads w.stage (turn w) _ _ what (advances.call refl) advances.answer.0

-- a piece of a run is written, or all of it is synced
run-leads : (left : List ℕ) (writer : InWriting) (before after : Areas) (what : JobDid) → CallsWith left writer (Ok tt) before after → what ≡ did_with left
    → LeadsBy before (job_call Heap (log_job_did what)) after
run-leads [] writer before after what call is = of-log-job-did Heap _ _ what job_did.RunSynced is (by-sync Archive _ _ call)
run-leads (b ∷ bs) writer before after what call is = of-log-job-did Heap _ _ what job_did.WroteRun is (by-write Archive _ _ _ _ call)

writes-lead : (job : Job) (old new : LogStoreValue) (what : JobDid) → WritesRun true job old (Ok what) new
    → LeadsBy old.disk.areas (job_call Heap (log_job_did what)) new.disk.areas
writes-lead job old new what writes = by-stage job.stage (writes.call refl) writes.answer.0
  where
    by-stage : (k : JobStage) → CallsAt k (Ok tt) old.disk.areas new.disk.areas → what ≡ did_at k
        → LeadsBy old.disk.areas (job_call Heap (log_job_did what)) new.disk.areas
    by-stage (stages.Writing writer) call is = run-leads writer.left writer _ _ what call is
    by-stage (Ready waited) never is = absurd never
    by-stage (Entering w) never is = absurd never

abbrev job_said : JobDid → Result JobDid PumpFault
job_said what = Ok what

-- a step of a job that is no reclaim
other-job-leads : (old new : LogStoreValue) (what : JobDid) → log_jobs.StepsJob true old.job old (Ok what) new
    → LeadsBy old.disk.areas (job_call Heap (log_job_did what)) new.disk.areas
other-job-leads old new what steps = by-job old.job steps
  where
    by-at : (x : LogStoreValue) (job : Job) (k : JobStage) → log_jobs.AdvancesAt true job k x (Ok what) new
        → LeadsBy x.disk.areas (job_call Heap (log_job_did what)) new.disk.areas
    by-at x job (stages.Writing writer) never = absurd never
    by-at x job (Ready waited) never = absurd never
    by-at x job (Entering w) advances = entry-leads job w x new what advances

    by-begun : (x : LogStoreValue) (j : Option Job) → log_jobs.AdvancesEntry true j x (Ok what) new
        → LeadsBy x.disk.areas (job_call Heap (log_job_did what)) new.disk.areas
    by-begun x None never = absurd never
    by-begun x (Some job) advances = by-at x job job.stage advances

    by-turn : (job : Job) (t : Option WriterState) → log_jobs.StepsReady true job t old (Ok what) new
        → LeadsBy old.disk.areas (job_call Heap (log_job_did what)) new.disk.areas
    by-turn job None (inl none) = absurd (let e = none.0 in cc)
    by-turn job None (inr begins) =
        subst (λ (d : DiskState). LeadsBy d.areas (job_call Heap (log_job_did what)) new.disk.areas) (ap (λ (v : LogStoreValue). v.disk) begins.1.new_is)
        (by-begun begins.0 begins.0.job begins.2)
    by-turn job (Some w) busy = absurd (let e = busy.0 in cc)

    by-stage : (job : Job) (k : JobStage) → log_jobs.StepsAt true job k old (Ok what) new
        → LeadsBy old.disk.areas (job_call Heap (log_job_did what)) new.disk.areas
    by-stage job (stages.Writing writer) writes = writes-lead job old new what writes
    by-stage job (Ready waited) takes = by-turn job old.turn takes
    by-stage job (Entering w) advances = entry-leads job w old new what advances

    by-job : (j : Option Job) → log_jobs.StepsJob true j old (Ok what) new → LeadsBy old.disk.areas (job_call Heap (log_job_did what)) new.disk.areas
    by-job None idle =
        let same : what ≡ job_did.Idle = (let e = idle.0 in cc) in
        of-log-job-did Heap _ _ what job_did.Idle same (ap (λ (v : LogStoreValue). v.disk.areas) idle.1)
    by-job (Some job) takes = by-stage job job.stage takes

-- an extent of a base or of its anchors is written, or all of them are synced
extents-lead : (parts : List Part) (before after : Areas) (what : JobDid) → CallsExtents parts (Ok tt) before after → what ≡ did_extents parts
    → LeadsBy before (job_call Status (log_job_did what)) after
extents-lead [] before after what call is = of-log-job-did Status _ _ what job_did.HeapSynced is (by-sync Heap _ _ call)
extents-lead (p ∷ ps) before after what call is = of-log-job-did Status _ _ what job_did.WroteExtent is (by-write Heap _ _ _ _ call)

-- a piece of a roll is written, or all of it is synced
roll-leads : (left : List ℕ) (roll : InRoll) (before after : Areas) (what : JobDid) → CallsRoll left roll (Ok tt) before after → what ≡ did_roll left
    → LeadsBy before (job_call Status (log_job_did what)) after
roll-leads [] roll before after what call is = of-log-job-did Status _ _ what job_did.RollSynced is (by-sync Archive _ _ call)
roll-leads (b ∷ bs) roll before after what call is = of-log-job-did Status _ _ what job_did.WroteRoll is (by-write Archive _ _ _ _ call)

-- the status area is one call further on its way to another root
turn-leads : (turned : Bool) (root : List ℕ) (stage : turning.Stage) (before after : Areas) (what : JobDid)
    → turning.IsCallOf turned root stage (Ok tt) before after → what ≡ did_of_root (turning.did stage)
    → LeadsBy before (job_call Status (log_job_did what)) after
turn-leads turned root turning.Writing before after what call is = of-log-job-did Status _ _ what job_did.RootWritten is (by-write Status _ _ _ _ call)
turn-leads turned root turning.Syncing before after what call is = of-log-job-did Status _ _ what job_did.RootSynced is (by-sync Status _ _ call)
turn-leads turned root turning.Turning before after what call is = of-log-job-did Status _ _ what job_did.TurnWritten is (by-write Status _ _ _ _ call)
turn-leads turned root turning.Settling before after what call is = of-log-job-did Status _ _ what job_did.JobDone is (by-sync Status _ _ call)
turn-leads turned root turning.Done before after what call is = absurd call

-- a step of a reclaim
reclaim-leads : (r : ReclaimValue) (old new : LogStoreValue) (what : JobDid) → StepsReclaim true r old (Ok what) new
    → LeadsBy old.disk.areas (job_call Status (log_job_did what)) new.disk.areas
reclaim-leads r old new what steps = by-gate (waits_at old.turn r.stage) steps
  where
    by-stage : (k : ReclaimStage) → reclaiming.CallsAt k (Ok tt) old.disk.areas new.disk.areas → what ≡ reclaiming.did_at k
        → LeadsBy old.disk.areas (job_call Status (log_job_did what)) new.disk.areas
    by-stage (reclaims.Writing anchors base) call is = extents-lead (anchors.left ++ base.left) _ _ what call is
    by-stage (reclaims.Rolling roll) call is = roll-leads roll.left roll _ _ what call is
    by-stage (reclaims.Turning t) call is = turn-leads t.roots.turned (little_bytes 4 t.root) t.stage _ _ what call is

    by-gate : (b : Bool) → MatchBool b ((job_said what ≡ Err fault.Busy) × (new ≡ old)) (AdvancesReclaim true r old (Ok what) new)
        → LeadsBy old.disk.areas (job_call Status (log_job_did what)) new.disk.areas
    by-gate true busy = absurd (let e = busy.0 in cc)
    by-gate false advances = by-stage r.stage (advances.call refl) advances.answer.0

-- the area of the gate that makes the job count
abbrev pub gate_area : Option ReclaimValue → Area
gate_area reclaim = if is_some reclaim then Status else Heap

pub log-job-leads : (old new : LogStoreValue) (what : JobDid) → log_jobs.PumpsJob true old (Ok what) new
    → LeadsBy old.disk.areas (job_call (gate_area old.reclaim) (log_job_did what)) new.disk.areas
log-job-leads old new what pumps = by-failed old.commits.failed pumps
  where
    by-reclaim : (o : Option ReclaimValue)
        → MatchOption o (log_jobs.StepsJob true old.job old (Ok what) new) (λ r. StepsReclaim true r old (Ok what) new)
        → LeadsBy old.disk.areas (job_call (gate_area o) (log_job_did what)) new.disk.areas
    by-reclaim None steps = other-job-leads old new what steps
    by-reclaim (Some r) steps = reclaim-leads r old new what steps

    by-failed : (b : Bool)
        → MatchBool b ((job_said what ≡ Err fault.Failed) × (new ≡ old))
        (MatchOption old.reclaim (log_jobs.StepsJob true old.job old (Ok what) new) (λ r. StepsReclaim true r old (Ok what) new))
        → LeadsBy old.disk.areas (job_call (gate_area old.reclaim) (log_job_did what)) new.disk.areas
    by-failed true fails = absurd (let e = fails.0 in cc)
    by-failed false takes = by-reclaim old.reclaim takes

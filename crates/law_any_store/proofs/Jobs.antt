-- The jobs of a store, in either layout. Where the log lies in the heap no growth begins.
use Rattle.std.proofs.Common.{◌≡◌, ℕ, Bool, true, false, List, [], ◌∷◌, Option, Result, Ok, Err, refl, ap, sym, subst, ◌∙◌}
use Rattle.std.specs.Prelude.{IsTrue, MatchBool, MatchOption}
use Rattle.disk.specs.Areas.{AreSound}
use Rattle.history.specs.Floors.{Raising}
use Rattle.history.specs.Machine.{Machine}
use Rattle.history.specs.Steps.{Event, Run, FloorStarted, floor_started}
use Rattle.law_image.specs.Values.{Value, IsValue}
use Rattle.group.specs.declared.answers.PumpFault.{PumpFault}
use Rattle.group.specs.declared.answers.PumpFault.TheVariants as pump
use Rattle.store.specs.Jobs as slot_store_jobs
use Rattle.store.specs.Values as slot_store
use Rattle.store.specs.declared.job.JobDid as slot_steps
use Rattle.store.specs.declared.job.StartFault.{StartFault}
use Rattle.store.specs.declared.job.StartFault.TheVariants as start
use Rattle.log_store.specs.Archives as log_archives
use Rattle.log_store.specs.Jobs as log_jobs
use Rattle.log_store.specs.Reclaiming.{StepsReclaim}
use Rattle.log_store.specs.Reclaims as log_reclaims
use Rattle.log_store.specs.Values.{LogStoreValue}
use Rattle.log_store.specs.declared.job.JobDid as log_steps
use Rattle.log_store.specs.declared.job.StartFault as log_starts
use Rattle.log_store.specs.declared.job.StartFault.TheVariants as log_fault
use Rattle.any_store.specs.declared.engine.Engine.TheVariants.{Slots, Log}
use Rattle.any_store.specs.declared.steps.JobDid.{JobDid}
use Rattle.any_store.specs.Values.{StoreValue, is_log, disk_of}
use Rattle.any_store.specs.Jobs.{BeginsNone, StartsArchive, StartsReclaim, StartsFloor, StartsGrowth, PumpsJob}
use Rattle.any_store.specs.Jobs.{told_start}
use Rattle.any_store.specs.Steps.{slots_job_step, log_job_step}
use Rattle.law_refinement.specs.Calls.{raising_to}
use Rattle.law_refinement.specs.Calls as slot_calls
use Rattle.law_refinement.specs.Laws as slot_ends
use Rattle.law_refinement.specs.Stands as slots
use Rattle.law_refinement.proofs.GrowingCalls as slot_laws
use Rattle.law_refinement.proofs.GrowingJobs as slot_jobs
use Rattle.law_refinement.proofs.GrowingPiece as slot_pieces
use Rattle.law_log_steps.specs.Laws as log_calls
use Rattle.law_log_steps.specs.Store.{IsStoreOf}
use Rattle.law_log_steps.proofs.ArchiveStarts.{archive-starts, archive-starts-in-step}
use Rattle.law_log_steps.proofs.FloorStarts.{floor-starts, starts-in-step}
use Rattle.law_log_steps.proofs.InStep.{job-in-step}
use Rattle.law_log_steps.proofs.Jobs.{job-stands}
use Rattle.law_log_steps.proofs.ReclaimStarts.{reclaim-starts, reclaim-starts-in-step}
use Rattle.law_log_queries.specs.Calls.{OfFloor, OfArchive, OfReclaim, OfJob}
use Rattle.law_log_queries.proofs.Calls.{call-keeps}
use Rattle.law_any_store.specs.Standing.{Stands}
use Rattle.law_any_store.specs.Calls.{StartsOn, RunsTo, job_ends_in}
use Rattle.law_any_store.proofs.Told.{slots-job-told, log-job-told}

-- nothing has changed
none-begins : (tells : Bool) (why : StartFault) (answer : Result (Unit {0}) StartFault) (l l' : LogStoreValue) (m : Machine Value) → Stands tells (Log l) m
    → BeginsNone why answer l l' → Stands tells (Log l') m
none-begins tells why answer l l' m is none = subst (λ (x : LogStoreValue). Stands tells (Log x) m) (sym none.1) is

-- an archive of one whose log lies in the heap
log-archive-stands : (tells : Bool) (l l' : LogStoreValue) (upto : ℕ) (said : Result (Unit {0}) log_starts.StartFault) (m : Machine Value)
    → Stands tells (Log l) m → log_archives.StartsArchive l upto said l' → Stands tells (Log l') m
log-archive-stands tells l l' upto said m is starts = (
  archive-starts-in-step l l' upto said is.0 starts,
  (call-keeps tells l l' m m [] is.1 (OfArchive upto said starts) refl (archive-starts tells l l' upto said m is.0 (is.1).store starts)).0,
)

pub archive-start-stands : (tells : Bool) (old new : StoreValue) (upto : ℕ) (answer : Result (Unit {0}) StartFault) (m : Machine Value) → Stands tells old m
    → StartsArchive old upto answer new → Stands tells new m
archive-start-stands tells (Slots s) (Slots s') upto answer m is starts = slot_laws.archive-start-stands tells s s' upto answer m is starts
archive-start-stands tells (Slots s) (Log l') upto answer m is starts = absurd starts
archive-start-stands tells (Log l) (Slots s') upto answer m is starts = absurd starts
archive-start-stands tells (Log l) (Log l') upto answer m is starts = log-archive-stands tells l l' upto starts.0 m is starts.1

-- a reclaim of one
log-reclaim-stands : (tells : Bool) (l l' : LogStoreValue) (said : Result (Unit {0}) log_starts.StartFault) (m : Machine Value) → Stands tells (Log l) m
    → log_reclaims.StartsReclaim l said l' → Stands tells (Log l') m
log-reclaim-stands tells l l' said m is starts = (
  reclaim-starts-in-step l l' said is.0 starts,
  (call-keeps tells l l' m m [] is.1 (OfReclaim said starts) refl (reclaim-starts tells l l' said m is.0 (is.1).store starts)).0,
)

pub reclaim-start-stands : (tells : Bool) (old new : StoreValue) (answer : Result (Unit {0}) StartFault) (m : Machine Value) → Stands tells old m
    → StartsReclaim old answer new → Stands tells new m
reclaim-start-stands tells (Slots s) (Slots s') answer m is starts = slot_laws.reclaim-start-stands tells s s' answer m is starts
reclaim-start-stands tells (Slots s) (Log l') answer m is starts = absurd starts
reclaim-start-stands tells (Log l) (Slots s') answer m is starts = absurd starts
reclaim-start-stands tells (Log l) (Log l') answer m is starts = log-reclaim-stands tells l l' starts.0 m is starts.1

pub grow-start-stands : (tells : Bool) (old new : StoreValue) (answer : Result (Unit {0}) StartFault) (m : Machine Value) → Stands tells old m
    → StartsGrowth old answer new → Stands tells new m
grow-start-stands tells (Slots s) (Slots s') answer m is starts = slot_jobs.grow-start-stands tells s s' answer m is starts
grow-start-stands tells (Slots s) (Log l') answer m is starts = absurd starts
grow-start-stands tells (Log l) (Slots s') answer m is starts = absurd starts
grow-start-stands tells (Log l) (Log l') answer m is starts = none-begins tells start.NotGrowable answer l l' m is starts

-- a floor of one whose log lies in the heap
log-floor-stands : (tells : Bool) (l l' : LogStoreValue) (scope : Option ℕ) (floor : ℕ) (said : Result (Unit {0}) log_starts.StartFault) (m : Machine Value)
    → Stands tells (Log l) m → log_jobs.StartsFloor l scope floor said l' → StartsOn tells true m (raising_to scope floor) (told_start said) (Log l')
log-floor-stands tells l l' scope floor said m is starts = by-answer said (floor-starts tells l l' scope floor said m (is.1).store starts)
  where
    r : Raising
    r = raising_to scope floor

    stands : (after : Machine Value) (events : List (Event Value)) → Run IsValue m events after → IsStoreOf tells l' after → Stands tells (Log l') after
    stands after events run store = (
      starts-in-step l l' scope floor said is.0 starts,
      (call-keeps tells l l' m after events is.1 (OfFloor scope floor said starts) run store).0,
    )

    rests : IsStoreOf tells l' m → Stands tells (Log l') m
    rests store = stands m [] refl store

    by-answer : (a : Result (Unit {0}) log_starts.StartFault) → log_calls.StartsOn tells m r a l' → StartsOn tells true m r (told_start a) (Log l')
    by-answer (Ok done) to = (to.0, stands (floor_started m r) (FloorStarted r ∷ []) (floor_started m r, to.0, refl) to.1)
    by-answer (Err log_fault.NothingToDo) to = (to.0, rests to.1)
    by-answer (Err (log_fault.NotYet time)) to = (to.0, rests to.1)
    by-answer (Err (log_fault.InUse snapshot)) to = (to.0, rests to.1)
    by-answer (Err log_fault.Failed) to = (to.0, rests to.1)
    by-answer (Err log_fault.WrongProfile) to = rests to.1
    by-answer (Err log_fault.JobBusy) to = rests to
    by-answer (Err log_fault.HeapFull) to = (refl, rests to)
    by-answer (Err log_fault.ArchiveFull) to = absurd to
    by-answer (Err log_fault.NoMemory) to = (to.0, rests to.1)

pub floor-start-stands : (tells : Bool) (old new : StoreValue) (scope : Option ℕ) (floor : ℕ) (answer : Result (Unit {0}) StartFault) (m : Machine Value)
    → Stands tells old m → StartsFloor old scope floor answer new → StartsOn tells (is_log old) m (raising_to scope floor) answer new
floor-start-stands tells (Slots s) (Slots s') scope floor answer m is starts =
    so answer (slot_laws.floor-start-stands tells s s' scope floor answer m is starts)
  where
    so : (a : Result (Unit {0}) StartFault) → slot_calls.StartsOn tells m (raising_to scope floor) a s'
        → StartsOn tells false m (raising_to scope floor) a (Slots s')
    so (Ok done) to = to
    so (Err start.NothingToDo) to = to
    so (Err (start.NotYet time)) to = to
    so (Err (start.InUse snapshot)) to = to
    so (Err start.Failed) to = to
    so (Err start.WrongProfile) to = to
    so (Err start.JobBusy) to = to
    so (Err start.StatusFull) to = to
    so (Err start.ArchiveFull) to = to
    so (Err start.HeapFull) to = absurd to
    so (Err start.NoMemory) to = to
    so (Err start.NotGrowable) to = to
floor-start-stands tells (Slots s) (Log l') scope floor answer m is starts = absurd starts
floor-start-stands tells (Log l) (Slots s') scope floor answer m is starts = absurd starts
floor-start-stands tells (Log l) (Log l') scope floor answer m is starts =
    subst (λ (a : Result (Unit {0}) StartFault). StartsOn tells true m (raising_to scope floor) a (Log l')) (sym starts.2)
    (log-floor-stands tells l l' scope floor starts.0 m is starts.1)

-- ---- the steps of a job

-- a step of a job of one whose log is slots
slots-job-stands : (tells : Bool) (s s' : slot_store.StoreValue) (said : Result slot_steps.JobDid PumpFault) (m : Machine Value) → Stands tells (Slots s) m
    → (IsTrue tells → AreSound s'.disk.areas) → slot_store_jobs.PumpsJob tells s said s'
    → MatchBool m.failed ((slots_job_step said ≡ Err pump.Failed) × Stands tells (Slots s') m)
    (RunsTo tells m (job_ends_in false m (slots_job_step said)) (Slots s'))
slots-job-stands tells s s' said m is sound pumps = so m.failed (slot_pieces.job-pump-stands tells s s' said m is sound pumps)
  where
    so : (b : Bool)
        → MatchBool b ((said ≡ Err pump.Failed) × slots.Stands tells s' m) ((after : Machine Value)
        × Run IsValue m (slot_ends.job_ends_in m said) after × slots.Stands tells s' after)
        → MatchBool b ((slots_job_step said ≡ Err pump.Failed) × Stands tells (Slots s') m)
        (RunsTo tells m (job_ends_in false m (slots_job_step said)) (Slots s'))
    so true to = (ap slots_job_step to.0, to.1)
    so false to = record {
      after = to.0;
      run = subst (λ (events : List (Event Value)). Run IsValue m events to.0) (slots-job-told m said) to.1;
      stands = to.2;
    }

-- and of one whose log lies in the heap
log-job-stands : (tells : Bool) (l l' : LogStoreValue) (said : Result log_steps.JobDid PumpFault) (m : Machine Value) → Stands tells (Log l) m
    → (IsTrue tells → AreSound l'.disk.areas) → log_jobs.PumpsJob tells l said l'
    → MatchBool m.failed ((log_job_step said ≡ Err pump.Failed) × Stands tells (Log l') m)
    (RunsTo tells m (job_ends_in true m (log_job_step said)) (Log l'))
log-job-stands tells l l' said m is sound pumps = so m.failed refl
  where
    stands_then : IsStoreOf tells l m
    stands_then = (is.1).store

    failed-rests : l.commits.failed ≡ true → (said ≡ Err pump.Failed) × (l' ≡ l)
    failed-rests failed =
        subst (λ (b : Bool). MatchBool b ((said ≡ Err pump.Failed) × (l' ≡ l))
        (MatchOption l.reclaim (log_jobs.StepsJob tells l.job l said l') (λ r. StepsReclaim tells r l said l'))) failed pumps

    so : (b : Bool) → m.failed ≡ b
        → MatchBool b ((log_job_step said ≡ Err pump.Failed) × Stands tells (Log l') m) (RunsTo tells m (job_ends_in true m (log_job_step said)) (Log l'))
    so true fails =
        let rests = failed-rests (stands_then.memory.failed ∙ fails) in
        (ap log_job_step rests.0, subst (λ (x : LogStoreValue). Stands tells (Log x) m) (sym rests.1) is)
    so false works =
        let runs = job-stands tells l l' said m is.0 sound stands_then pumps in record {
          after = runs.after;
          run = subst (λ (events : List (Event Value)). Run IsValue m events runs.after) (log-job-told m said works) runs.run;
          stands = (
            job-in-step tells l l' said (is.0, stands_then.ends) pumps,
            (call-keeps tells l l' m runs.after (log_calls.job_events_in m said) is.1 (OfJob said sound pumps) runs.run runs.stands).0,
          );
        }

pub job-pump-stands : (tells : Bool) (old new : StoreValue) (answer : Result JobDid PumpFault) (m : Machine Value) → Stands tells old m
    → (IsTrue tells → AreSound (disk_of new).areas) → PumpsJob tells old answer new
    → MatchBool m.failed ((answer ≡ Err pump.Failed) × Stands tells new m) (RunsTo tells m (job_ends_in (is_log old) m answer) new)
job-pump-stands tells (Slots s) (Slots s') answer m is sound pumps =
    subst (λ (a : Result JobDid PumpFault). MatchBool m.failed ((a ≡ Err pump.Failed) × Stands tells (Slots s') m)
    (RunsTo tells m (job_ends_in false m a) (Slots s')))
    (sym pumps.2) (slots-job-stands tells s s' pumps.0 m is sound pumps.1)
job-pump-stands tells (Slots s) (Log l') answer m is sound pumps = absurd pumps
job-pump-stands tells (Log l) (Slots s') answer m is sound pumps = absurd pumps
job-pump-stands tells (Log l) (Log l') answer m is sound pumps =
    subst (λ (a : Result JobDid PumpFault). MatchBool m.failed ((a ≡ Err pump.Failed) × Stands tells (Log l') m)
    (RunsTo tells m (job_ends_in true m a) (Log l')))
    (sym pumps.2) (log-job-stands tells l l' pumps.0 m is sound pumps.1)

-- The beginnings of an archive and of a reclaim, and the steps of a job.
use Rattle.std.proofs.Common.{◌≡◌, ℕ, Bool, true, false, List, [], ◌∷◌, ◌++◌, Result, Ok, Err, MatchBool, refl, sym, subst, inr}
use Rattle.std.specs.Prelude.{IsTrue, IfErr}
use Rattle.disk.specs.Areas.{AreSound}
use Rattle.history.specs.Machine.{Machine}
use Rattle.history.specs.Steps as steps
use Rattle.law_image.specs.Values.{Value, IsValue}
use Rattle.group.specs.declared.answers.PumpFault.{PumpFault}
use Rattle.group.specs.declared.answers.PumpFault.TheVariants as pump
use Rattle.store.specs.declared.job.StartFault.{StartFault}
use Rattle.store.specs.declared.job.StartFault.TheVariants as start
use Rattle.any_store.specs.declared.steps.JobDid.{JobDid}
use Rattle.any_store.specs.Values.{StoreValue, is_log, commits_of, disk_of}
use Rattle.any_store.specs.Jobs.{StartsArchive, StartsReclaim, PumpsJob}
use Rattle.law_any_store.specs.Calls.{job_ends_in, RunsTo}
use Rattle.law_any_store.specs.Standing.{Stands}
use Rattle.law_any_store.specs.Starts.{ArchiveSays, ReclaimSays}
use Rattle.law_any_store.proofs.Memory.{memory-stands}
use Rattle.law_any_store.proofs.Jobs.{archive-start-stands, reclaim-start-stands, job-pump-stands}
use Rattle.law_any_store.proofs.Leaving.{start-leaves, reclaim-leaves, pumped-leaves}
use Rattle.law_any_store.proofs.Names.{start-names, reclaim-names, pumped-names}
use Rattle.law_any_store.proofs.StartSays.{start-says, reclaim-says}
use Rattle.law_any_store.proofs.Views.{archive-start-goes, reclaim-start-goes, job-pump-goes}
use Rattle.run.specs.declared.calls.Call.TheVariants as call
use Rattle.run.specs.declared.calls.Answer.TheVariants as answer
use Rattle.run.specs.declared.held.Held.{Held}
use Rattle.run.specs.declared.held.Held.TheVariants as held
use Rattle.run.specs.Worlds.{World, IsWorld, moved, same}
use Rattle.run.specs.Runs.{Does, Goes, Leads, Follows, IsStepFault, Archives, Reclaims}
use Rattle.run.proofs.Runs.{no-step}
use Rattle.run.proofs.Places.{GoesOn, goes_on-same, run-goes_on}
use Rattle.run.proofs.Pumping.{pump-keeps, any-fault}
use Rattle.run.proofs.Steps.{kept-world}

-- ---- the beginning of an archive

-- what it says of the machine is what the call does
archives-so : (w : World) (upto : ℕ) (r : Result (Unit {0}) StartFault) → ArchiveSays w.in_heap w.machine upto r → Archives w upto r (same w)
archives-so w upto (Ok u) says = (says.0, says.1, refl)
archives-so w upto (Err start.Failed) says = (says, refl)
archives-so w upto (Err start.WrongProfile) says = says
archives-so w upto (Err start.JobBusy) says = refl
archives-so w upto (Err start.NothingToDo) says = refl
archives-so w upto (Err (start.NotYet time)) says = (says.0, says.1, refl)
archives-so w upto (Err start.StatusFull) says = (says, refl)
archives-so w upto (Err start.ArchiveFull) says = refl
archives-so w upto (Err (start.InUse time)) says = says
archives-so w upto (Err start.HeapFull) says = (says, refl)
archives-so w upto (Err start.NoMemory) says = refl
archives-so w upto (Err start.NotGrowable) says = says

start-leads : (tells : Bool) (v v' : StoreValue) (xs : List Held) (upto : ℕ) (r : Result (Unit {0}) StartFault) → StartsArchive v upto r v'
    → Leads tells v xs (call.Archive upto) (answer.Archive r) v' (xs ++ held.Nothing ∷ [])
start-leads tells v v' xs upto r starts w is = (
  same w,
  archives-so w upto r
      (subst (λ (b : Bool). ArchiveSays b w.machine upto r) (sym is.layout) (start-says tells v v' upto r w.machine is.stands starts)),
  no-step w.machine,
  kept-world tells v v' xs w w.machine is
      (record { goes = archive-start-goes tells v v' upto r w.machine is.stands starts; names = start-names v v' upto r starts })
      (archive-start-stands tells v v' upto r w.machine is.stands starts) (goes_on-same w.machine.published)
      (λ x. pump-keeps (commits_of v) (commits_of v') x (start-leaves v v' upto r starts)),
)

-- ---- the beginning of a reclaim

-- what it says of the machine is what the call does
reclaims-so : (w : World) (r : Result (Unit {0}) StartFault) → ReclaimSays w.in_heap w.machine r → Reclaims w r (same w)
reclaims-so w (Ok u) says = (says, refl)
reclaims-so w (Err start.Failed) says = (says, refl)
reclaims-so w (Err start.WrongProfile) says = says
reclaims-so w (Err start.JobBusy) says = refl
reclaims-so w (Err start.NothingToDo) says = refl
reclaims-so w (Err (start.InUse time)) says = (says, refl)
reclaims-so w (Err start.StatusFull) says = (says, refl)
reclaims-so w (Err start.HeapFull) says = refl
reclaims-so w (Err start.NoMemory) says = refl
reclaims-so w (Err (start.NotYet time)) says = says
reclaims-so w (Err start.ArchiveFull) says = (says, refl)
reclaims-so w (Err start.NotGrowable) says = says

reclaim-leads : (tells : Bool) (v v' : StoreValue) (xs : List Held) (r : Result (Unit {0}) StartFault) → StartsReclaim v r v'
    → Leads tells v xs call.Reclaim (answer.Reclaim r) v' (xs ++ held.Nothing ∷ [])
reclaim-leads tells v v' xs r starts w is = (
  same w,
  reclaims-so w r (subst (λ (b : Bool). ReclaimSays b w.machine r) (sym is.layout) (reclaim-says tells v v' r w.machine is.stands starts)),
  no-step w.machine,
  kept-world tells v v' xs w w.machine is
      (record { goes = reclaim-start-goes tells v v' r w.machine is.stands starts; names = reclaim-names v v' r starts })
      (reclaim-start-stands tells v v' r w.machine is.stands starts) (goes_on-same w.machine.published)
      (λ x. pump-keeps (commits_of v) (commits_of v') x (reclaim-leaves v v' r starts)),
)

-- ---- a step

pumped-refused : (r : Result JobDid PumpFault) → IfErr r IsStepFault
pumped-refused (Ok what) = tt
pumped-refused (Err why) = any-fault why

pumped-leads : (tells : Bool) (v v' : StoreValue) (xs : List Held) (r : Result JobDid PumpFault) → (IsTrue tells → AreSound (disk_of v').areas)
    → PumpsJob tells v r v' → Leads tells v xs call.JobPump (answer.JobPump r) v' (xs ++ held.Nothing ∷ [])
pumped-leads tells v v' xs r sound pumps w is =
    by-failure w.machine.failed refl (pumped-refused r) (job-pump-stands tells v v' r w.machine is.stands sound pumps)
  where
    world : (m : Machine Value) → GoesOn w.machine.published m.published → Stands tells v' m
        → IsWorld tells v' (xs ++ held.Nothing ∷ []) (same (moved w m))
    world m goes stands =
        kept-world tells v v' xs w m is
        (record { goes = job-pump-goes tells v v' r w.machine is.stands pumps; names = pumped-names tells v v' r pumps }) stands goes
        (λ x. pump-keeps (commits_of v) (commits_of v') x (pumped-leaves tells v v' r pumps))

    Does-so : Bool → World → Type 0
    Does-so b next = MatchBool b ((r ≡ Err pump.Failed) × (next ≡ same w)) ((after : Machine Value) × IfErr r IsStepFault
        × steps.Run IsValue w.machine (job_ends_in w.in_heap w.machine r) after × (next ≡ same (moved w after)))

    by-failure : (b : Bool) → w.machine.failed ≡ b → IfErr r IsStepFault
        → MatchBool b ((r ≡ Err pump.Failed) × Stands tells v' w.machine) (RunsTo tells w.machine (job_ends_in (is_log v) w.machine r) v')
        → (next : World) × Does tells w call.JobPump (answer.JobPump r) next × Follows w.machine next.machine × IsWorld tells v' (xs ++ held.Nothing ∷ []) next
    by-failure true failed refused done = (
      same w,
      subst (λ (b : Bool). Does-so b (same w)) (sym failed) (done.0, refl),
      no-step w.machine,
      world w.machine (goes_on-same w.machine.published) done.1,
    )
    by-failure false works refused done =
        let events = job_ends_in (is_log v) w.machine r in
        let run : steps.Run IsValue w.machine (job_ends_in w.in_heap w.machine r) done.after =
        subst (λ (b : Bool). steps.Run IsValue w.machine (job_ends_in b w.machine r) done.after) (sym is.layout) done.run in
        let machine = (memory-stands tells v' done.after done.stands).1 in (
          same (moved w done.after),
          subst (λ (b : Bool). Does-so b (same (moved w done.after))) (sym works) (done.after, refused, run, refl),
          (events, done.run),
          world done.after (run-goes_on w.machine done.after events machine done.run) done.stands,
        )

-- ---- as the store's own clauses say

pub start-goes : (tells : Bool) (v v' : StoreValue) (xs : List Held) (upto : ℕ) (r : Result (Unit {0}) StartFault) → StartsArchive v upto r v'
    → Goes tells v xs (call.Archive upto) (answer.Archive r) v' (xs ++ held.Nothing ∷ [])
start-goes tells v v' xs upto r starts = record { makes = inr (r, starts, (refl, refl)); leads = start-leads tells v v' xs upto r starts }

pub reclaim-goes : (tells : Bool) (v v' : StoreValue) (xs : List Held) (r : Result (Unit {0}) StartFault) → StartsReclaim v r v'
    → Goes tells v xs call.Reclaim (answer.Reclaim r) v' (xs ++ held.Nothing ∷ [])
reclaim-goes tells v v' xs r starts = record { makes = inr (r, starts, (refl, refl)); leads = reclaim-leads tells v v' xs r starts }

pub pumped-goes : (tells : Bool) (v v' : StoreValue) (xs : List Held) (r : Result JobDid PumpFault) → (IsTrue tells → AreSound (disk_of v').areas)
    → PumpsJob tells v r v' → Goes tells v xs call.JobPump (answer.JobPump r) v' (xs ++ held.Nothing ∷ [])
pumped-goes tells v v' xs r sound pumps = record { makes = inr (r, pumps, (refl, refl)); leads = pumped-leads tells v v' xs r sound pumps }

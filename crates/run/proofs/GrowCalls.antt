-- The beginning of a growth.
use Rattle.std.proofs.Common.{inr, Bool, List, [], ◌∷◌, ◌++◌, Result, Ok, Err, refl}
use Rattle.store.specs.declared.job.StartFault.{StartFault}
use Rattle.store.specs.declared.job.StartFault.TheVariants as start
use Rattle.any_store.specs.Values.{StoreValue, commits_of}
use Rattle.any_store.specs.Jobs.{StartsGrowth}
use Rattle.law_any_store.specs.Starts.{GrowSays}
use Rattle.law_any_store.proofs.Jobs.{grow-start-stands}
use Rattle.law_any_store.proofs.Leaving.{grow-leaves}
use Rattle.law_any_store.proofs.Names.{grow-names}
use Rattle.law_any_store.proofs.StartSays.{grow-says}
use Rattle.law_any_store.proofs.Views.{grow-start-goes}
use Rattle.run.specs.declared.calls.Call.TheVariants as call
use Rattle.run.specs.declared.calls.Answer.TheVariants as answer
use Rattle.run.specs.declared.held.Held.{Held}
use Rattle.run.specs.declared.held.Held.TheVariants as held
use Rattle.run.specs.Worlds.{World, same}
use Rattle.run.specs.Runs.{Goes, Leads, Grows}
use Rattle.run.proofs.Runs.{no-step}
use Rattle.run.proofs.Places.{goes_on-same}
use Rattle.run.proofs.Pumping.{pump-keeps}
use Rattle.run.proofs.Steps.{kept-world}

-- what it says of the machine is what the call does
grows-so : (w : World) (r : Result (Unit {0}) StartFault) → GrowSays w.machine r → Grows w r (same w)
grows-so w (Ok u) says = (says, refl)
grows-so w (Err start.Failed) says = (says, refl)
grows-so w (Err start.JobBusy) says = refl
grows-so w (Err start.NotGrowable) says = refl
grows-so w (Err start.WrongProfile) says = says
grows-so w (Err start.NothingToDo) says = says
grows-so w (Err (start.NotYet time)) says = says
grows-so w (Err (start.InUse time)) says = says
grows-so w (Err start.StatusFull) says = says
grows-so w (Err start.ArchiveFull) says = says
grows-so w (Err start.HeapFull) says = says
grows-so w (Err start.NoMemory) says = says

grow-leads : (tells : Bool) (v v' : StoreValue) (xs : List Held) (r : Result (Unit {0}) StartFault) → StartsGrowth v r v'
    → Leads tells v xs call.Grow (answer.Grow r) v' (xs ++ held.Nothing ∷ [])
grow-leads tells v v' xs r starts w is = (
  same w,
  grows-so w r (grow-says tells v v' r w.machine is.stands starts),
  no-step w.machine,
  kept-world tells v v' xs w w.machine is
      (record { goes = grow-start-goes tells v v' r w.machine is.stands starts; names = grow-names v v' r starts })
      (grow-start-stands tells v v' r w.machine is.stands starts) (goes_on-same w.machine.published)
      (λ x. pump-keeps (commits_of v) (commits_of v') x (grow-leaves v v' r starts)),
)

pub grow-goes : (tells : Bool) (v v' : StoreValue) (xs : List Held) (r : Result (Unit {0}) StartFault) → StartsGrowth v r v'
    → Goes tells v xs call.Grow (answer.Grow r) v' (xs ++ held.Nothing ∷ [])
grow-goes tells v v' xs r starts = record { makes = inr (r, starts, (refl, refl)); leads = grow-leads tells v v' xs r starts }

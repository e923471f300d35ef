-- The beginning of a floor.
use Rattle.std.proofs.Common.{◌≡◌, inr, ℕ, Bool, List, [], ◌∷◌, ◌++◌, Option, Result, Ok, Err, refl, sym, subst}
use Rattle.history.specs.Histories.{History}
use Rattle.history.specs.Steps as steps
use Rattle.history.specs.Machine.{Machine}
use Rattle.law_image.specs.Values.{Value}
use Rattle.store.specs.declared.job.StartFault.{StartFault}
use Rattle.store.specs.declared.job.StartFault.TheVariants as start
use Rattle.any_store.specs.Values.{StoreValue, commits_of}
use Rattle.any_store.specs.Jobs.{StartsFloor}
use Rattle.law_refinement.specs.Calls.{raising_to}
use Rattle.law_any_store.specs.Calls.{StartsOn}
use Rattle.law_any_store.specs.Standing.{Stands}
use Rattle.law_any_store.proofs.Jobs.{floor-start-stands}
use Rattle.law_any_store.proofs.Leaving.{floor-leaves}
use Rattle.law_any_store.proofs.Names.{floor-names}
use Rattle.law_any_store.proofs.Views.{floor-start-goes}
use Rattle.run.specs.declared.calls.Call.TheVariants as call
use Rattle.run.specs.declared.calls.Answer.TheVariants as answer
use Rattle.run.specs.declared.held.Held.{Held}
use Rattle.run.specs.declared.held.Held.TheVariants as held
use Rattle.run.specs.Worlds.{World, moved, same}
use Rattle.run.specs.Runs.{Goes, Leads, Follows, Raises}
use Rattle.run.proofs.Runs.{no-step}
use Rattle.run.proofs.Places.{GoesOn, goes_on-same}
use Rattle.run.proofs.Pumping.{pump-keeps}
use Rattle.run.proofs.Steps.{kept-world}

-- what the call leads to
record StartsTo (tells : Bool) (v' : StoreValue) (w : World) (scope : Option ℕ) (floor : ℕ) (r : Result (Unit {0}) StartFault) : Type 0 where
  after : Machine Value
  published : after.published ≡ w.machine.published
  says : Raises w scope floor r (same (moved w after))
  follows : Follows w.machine after
  stands : Stands tells v' after

starts-to : (tells : Bool) (v' : StoreValue) (w : World) (scope : Option ℕ) (floor : ℕ) (r : Result (Unit {0}) StartFault)
    → StartsOn tells w.in_heap w.machine (raising_to scope floor) r v' → StartsTo tells v' w scope floor r
starts-to tells v' w scope floor (Ok done) is = record {
  after = steps.floor_started w.machine (raising_to scope floor);
  published = refl;
  says = (is.0, refl);
  follows = (steps.FloorStarted (raising_to scope floor) ∷ [], (steps.floor_started w.machine (raising_to scope floor), is.0, refl));
  stands = is.1;
}
starts-to tells v' w scope floor (Err start.NothingToDo) is =
    record { after = w.machine; published = refl; says = (is.0, refl); follows = no-step w.machine; stands = is.1 }
starts-to tells v' w scope floor (Err (start.NotYet time)) is =
    record { after = w.machine; published = refl; says = (is.0, refl); follows = no-step w.machine; stands = is.1 }
starts-to tells v' w scope floor (Err (start.InUse snapshot)) is =
    record { after = w.machine; published = refl; says = (is.0, refl); follows = no-step w.machine; stands = is.1 }
starts-to tells v' w scope floor (Err start.Failed) is =
    record { after = w.machine; published = refl; says = (is.0, refl); follows = no-step w.machine; stands = is.1 }
starts-to tells v' w scope floor (Err start.WrongProfile) is =
    record { after = w.machine; published = refl; says = refl; follows = no-step w.machine; stands = is }
starts-to tells v' w scope floor (Err start.JobBusy) is = record { after = w.machine; published = refl; says = refl; follows = no-step w.machine; stands = is }
starts-to tells v' w scope floor (Err start.StatusFull) is =
    record { after = w.machine; published = refl; says = refl; follows = no-step w.machine; stands = is }
starts-to tells v' w scope floor (Err start.ArchiveFull) is = absurd is
starts-to tells v' w scope floor (Err start.HeapFull) is =
    record { after = w.machine; published = refl; says = (is.0, refl); follows = no-step w.machine; stands = is.1 }
starts-to tells v' w scope floor (Err start.NoMemory) is =
    record { after = w.machine; published = refl; says = (is.0, refl); follows = no-step w.machine; stands = is.1 }
starts-to tells v' w scope floor (Err start.NotGrowable) is = absurd is

floor-leads : (tells : Bool) (v v' : StoreValue) (xs : List Held) (scope : Option ℕ) (floor : ℕ) (r : Result (Unit {0}) StartFault)
    → StartsFloor v scope floor r v' → Leads tells v xs (call.Floor scope floor) (answer.Floor r) v' (xs ++ held.Nothing ∷ [])
floor-leads tells v v' xs scope floor r starts w is =
    let on = subst (λ (b : Bool). StartsOn tells b w.machine (raising_to scope floor) r v') (sym is.layout)
    (floor-start-stands tells v v' scope floor r w.machine is.stands starts) in
    let leads = starts-to tells v' w scope floor r on in (
      same (moved w leads.after),
      leads.says,
      leads.follows,
      kept-world tells v v' xs w leads.after is
          (record { goes = floor-start-goes tells v v' scope floor r w.machine is.stands starts; names = floor-names v v' scope floor r starts })
          leads.stands
          (subst (λ (h : History Value). GoesOn w.machine.published h) (sym leads.published) (goes_on-same w.machine.published))
          (λ x. pump-keeps (commits_of v) (commits_of v') x (floor-leaves v v' scope floor r starts)),
    )

pub floor-goes : (tells : Bool) (v v' : StoreValue) (xs : List Held) (scope : Option ℕ) (floor : ℕ) (r : Result (Unit {0}) StartFault)
    → StartsFloor v scope floor r v' → Goes tells v xs (call.Floor scope floor) (answer.Floor r) v' (xs ++ held.Nothing ∷ [])
floor-goes tells v v' xs scope floor r starts = record { makes = inr (r, starts, (refl, refl)); leads = floor-leads tells v v' xs scope floor r starts }

-- What a stop leaves is a front of the machine, and opens as one.
use Rattle.std.proofs.Common.{◌≡◌, ◌⊎◌, ℕ, Bool, true, false, ◌++◌, take, Option, None, Some, refl, ap, sym, subst, ◌∙◌, inl, inr}
use Rattle.std.specs.Prelude.{IsTrue, MatchBool}
use Rattle.history.specs.Floors.{Raising}
use Rattle.history.specs.Fronts.{OnRaised, OnOpened, OnFront}
use Rattle.history.specs.Machine.{Machine, Gate, Shut, Due, MayBeOpen, OfGroup, OfFloor, opened_by}
use Rattle.disk.specs.Areas.{Image, AreSound, LeavesImage, image_of}
use Rattle.disk.specs.Calls.{DiskState}
use Rattle.law_image.specs.Values.{Value}
use Rattle.recovery.specs.declared.fault.OpenFault.{OpenFault}
use Rattle.log_writer.specs.Turns.{Stage, Writing, Syncing, Opening, Settling, Done}
use Rattle.log_writer.specs.Writer.{WriterState, IsOnItsWay}
use Rattle.law_log_layout.specs.Turns.{MayBe, MayBecome}
use Rattle.law_log_opening.specs.Laws.{SaysNothing}
use Rattle.law_refinement.proofs.Growing.{front-map}
use Rattle.log_store.specs.Values.{LogStoreValue, IsInStep}
use Rattle.log_store.specs.Values as stores
use Rattle.log_store.specs.declared.job.JobWork.{JobWork}
use Rattle.log_store.specs.declared.job.JobWork.TheVariants.{Floor, Archive}
use Rattle.log_store.specs.declared.job.Job.{Job}
use Rattle.log_store.specs.declared.job.JobStage.{JobStage}
use Rattle.log_store.specs.declared.job.JobStage.TheVariants.{Ready, Entering}
use Rattle.log_store.specs.declared.job.JobStage.TheVariants as stages
use Rattle.log_store.specs.Opens.{Opens, OpenRefuses}
use Rattle.law_log_store.specs.Standing.{StandsOnHeap, IsImageOf, MayStand, MayStandOn, MayStandBy, StopsBy, StopsOnHeap, floors_with}
use Rattle.law_log_store.proofs.Going.{standing-stops}
use Rattle.law_log_store.proofs.Opening.{opens-any}
use Rattle.law_log_steps.specs.Store.{gate_at, gate_for, gate_on, gate_of, gate_behind, gate_left_for, gate_left_on, gate_left, raising_with, raising_of}
use Rattle.law_log_steps.specs.Store.{IsLeft, IsStoreOf}
use Rattle.law_log_steps.proofs.Opening.{is-opened}

module _ (tells : Bool) (v : LogStoreValue) (m : Machine Value) (image : Image) (told : IsTrue tells) (step : IsInStep v) (is : IsStoreOf tells v m)
    (left : LeavesImage v.disk.areas image) where
  abbrev Old : Type 0
  Old = IsImageOf v.roots image m.published m.floors

  abbrev New : ℕ → Type 0
  New group = IsImageOf v.roots image (m.published ++ take group m.queue) m.floors

  abbrev OnIt : Type 0
  OnIt = OnFront (IsImageOf v.roots image) m

  abbrev Entered : JobWork → Type 0
  Entered work = IsImageOf v.roots image m.published (floors_with work m.floors)

  -- the gate of a floor in the making may be open; an archive's entry changes nothing that the machine has
  abbrev MayBeIn : JobWork → Type 0
  MayBeIn (Floor floor kept) = m.gate ≡ MayBeOpen OfFloor
  MayBeIn (Archive archive archives) = Unit {0}

  with-work : (work : JobWork) → m.raising ≡ raising_with work → MayBeIn work → Entered work → OnIt
  with-work (Floor floor kept) raising may new =
      inr (subst (λ (g : Gate). OnOpened (IsImageOf v.roots image) m g) (sym may)
      (subst (λ (r : Option Raising). OnRaised (IsImageOf v.roots image) m r) (sym raising) new))
  with-work (Archive archive archives) raising may new = inl new

  either-work : (work : JobWork) → m.raising ≡ raising_with work → MayBeIn work → Old ⊎ Entered work → OnIt
  either-work work raising may (inl old) = inl old
  either-work work raising may (inr new) = with-work work raising may new

  -- where the entry is, by the gate of a store that works, and of one that has failed
  may-be-in : (work : JobWork) (k : Stage) → m.gate ≡ gate_for work k → k ≡ Settling → MayBeIn work
  may-be-in (Floor floor kept) k gate settling = gate ∙ ap (gate_at OfFloor) settling
  may-be-in (Archive archive archives) k gate settling = tt

  may-be-left : (work : JobWork) (k : Stage) → m.gate ≡ gate_left_for work k → gate_behind OfFloor k ≡ MayBeOpen OfFloor → MayBeIn work
  may-be-left (Floor floor kept) k gate may = gate ∙ may
  may-be-left (Archive archive archives) k gate may = tt

  -- of a job's entry, in a store that works, and in one that has failed
  entry-at-work : (work : JobWork) → m.raising ≡ raising_with work → (k : Stage) → IsOnItsWay k → m.gate ≡ gate_for work k → MayBe k Old (Entered work) → OnIt
  entry-at-work work raising (Writing d rest) on gate so = inl so
  entry-at-work work raising Syncing on gate so = inl so
  entry-at-work work raising Opening on gate so = inl so
  entry-at-work work raising Settling on gate so = either-work work raising (may-be-in work Settling gate refl) so
  entry-at-work work raising Done on gate so = absurd on

  entry-at-rest : (work : JobWork) → m.raising ≡ raising_with work → (k : Stage) → IsOnItsWay k → m.gate ≡ gate_left_for work k → MayBecome k Old (Entered work)
      → OnIt
  entry-at-rest work raising (Writing d rest) on gate so = inl so
  entry-at-rest work raising Syncing on gate so = inl so
  entry-at-rest work raising Opening on gate so = either-work work raising (may-be-left work Opening gate refl) so
  entry-at-rest work raising Settling on gate so = either-work work raising (may-be-left work Settling gate refl) so
  entry-at-rest work raising Done on gate so = absurd on

  -- with the whole group, where the gate may be open
  with-it : m.gate ≡ MayBeOpen OfGroup → New v.commits.group → OnIt
  with-it may new =
      inr (subst (λ (g : Gate). OnOpened (IsImageOf v.roots image) m g) (sym may) (subst New (sym is.writing.group) new))

  either : m.gate ≡ MayBeOpen OfGroup → Old ⊎ New v.commits.group → OnIt
  either may (inl old) = inl old
  either may (inr new) = with-it may new

  -- of a store that works
  at-work : (k : Stage) → IsOnItsWay k → m.gate ≡ gate_at OfGroup k → MayBe k Old (New v.commits.group) → OnIt
  at-work (Writing d rest) on gate so = inl so
  at-work Syncing on gate so = inl so
  at-work Opening on gate so = inl so
  at-work Settling on gate so = either gate so
  at-work Done on gate so = absurd on

  -- of one that has failed
  at-rest : (k : Stage) → IsOnItsWay k → m.gate ≡ gate_behind OfGroup k → MayBecome k Old (New v.commits.group) → OnIt
  at-rest (Writing d rest) on gate so = inl so
  at-rest Syncing on gate so = inl so
  at-rest Opening on gate so = either gate so
  at-rest Settling on gate so = either gate so
  at-rest Done on gate so = absurd on

  -- the machine's gate, by whether a chain's call was refused
  abbrev GateIs : Bool → Option WriterState → Option Job → Type 0
  GateIs refused turn job = MatchBool refused (m.gate ≡ gate_left turn job) (m.gate ≡ gate_of turn job)

  by-gate : (refused : Bool) → GateIs refused v.turn v.job → MayStand refused v.turn v.job Old (New v.commits.group) Entered → OnIt
  by-gate refused gate may = by-turn refused v.turn refl step.turn gate may
    where
      by-stage : (b : Bool) → v.turn ≡ None → (job : Job) → v.job ≡ Some job → (k : JobStage) → stores.IsStageBeside v.turn k
          → MatchBool b (m.gate ≡ gate_left_on job.work k) (m.gate ≡ gate_on job.work k) → MayStandOn b k Old (Entered job.work) → OnIt
      by-stage b none job is-job (stages.Writing writer) beside gate may = inl may
      by-stage b none job is-job (Ready waited) beside gate may = inl may
      by-stage false none job is-job (Entering w) beside gate may =
          entry-at-work job.work (is.writing.raising ∙ ap raising_of is-job) w.stage beside.1 gate may
      by-stage true none job is-job (Entering w) beside gate may =
          entry-at-rest job.work (is.writing.raising ∙ ap raising_of is-job) w.stage beside.1 gate may

      by-job : (b : Bool) → v.turn ≡ None → (j : Option Job) → v.job ≡ j → stores.IsBeside v.turn j → GateIs b None j → MayStandBy b j Old Entered → OnIt
      by-job b none None no-job beside gate may = inl may
      by-job b none (Some job) is-job beside gate may = by-stage b none job is-job job.stage beside gate may

      by-turn : (b : Bool) (t : Option WriterState) → v.turn ≡ t → stores.HasTurn v.commits.group t → GateIs b t v.job
          → MayStand b t v.job Old (New v.commits.group) Entered → OnIt
      by-turn b None none has gate may = by-job b none v.job refl step.beside gate may
      by-turn false (Some w) some has gate may = at-work w.stage has.1 gate may
      by-turn true (Some w) some has gate may = at-rest w.stage has.1 gate may

  pub leaves-fronts : OnIt
  leaves-fronts = by-failed v.commits.failed refl (is.disk told)
    where
      by-left : IsLeft tells v m → StopsBy true v m.published m.queue m.floors → OnIt
      by-left (inl gate) stops = by-gate true gate (stops image left)
      by-left (inr calm) stops = by-gate false calm.gate (calm.stops told image left)

      by-failed : (b : Bool) → v.commits.failed ≡ b → MatchBool b (StopsOnHeap v m.published m.queue m.floors) (StandsOnHeap v m.published m.queue m.floors)
          → OnIt
      by-failed true failed stops =
          by-left (is.writing.left (sym is.memory.failed ∙ failed))
          (subst (λ (b : Bool). StopsBy b v m.published m.queue m.floors) failed stops)
      by-failed false works stands =
          by-gate false (is.writing.gate (sym is.memory.failed ∙ works))
          ((subst (λ (b : Bool). StopsBy b v m.published m.queue m.floors) works (standing-stops v m.published m.queue m.floors works stands)) image left)

-- ---- openings

pub stop-reopens : (tells : Bool) (v : LogStoreValue) (m : Machine Value) (old : DiskState) (mark : ℕ) (again : LogStoreValue) → IsTrue tells → IsInStep v
    → IsStoreOf tells v m → LeavesImage v.disk.areas (image_of old.areas) → AreSound old.areas → Opens tells old mark again
    → OnFront (λ h floors. IsStoreOf tells again (opened_by 1024 h floors)) m
stop-reopens tells v m old mark again told step is left sound opens =
    front-map (IsImageOf v.roots (image_of old.areas)) (λ h floors. IsStoreOf tells again (opened_by 1024 h floors)) m
    (λ h floors image. is-opened tells old mark again v.roots h floors told sound image opens) (leaves-fronts tells v m (image_of old.areas) told step is left)

-- what is so of every front
whatever : (R : Type 0) (m : Machine Value) → OnFront (λ h floors. R) m → R
whatever R m (inl r) = r
whatever R m (inr o) = by-gate m.gate o
  where
    by-raised : (r : Option Raising) → OnRaised (λ h floors. R) m r → R
    by-raised None none = absurd none
    by-raised (Some r) so = so

    by-gate : (g : Gate) → OnOpened (λ h floors. R) m g → R
    by-gate Shut none = absurd none
    by-gate (Due change) none = absurd none
    by-gate (MayBeOpen OfGroup) so = so
    by-gate (MayBeOpen OfFloor) so = by-raised m.raising so

pub stop-opens : (tells : Bool) (v : LogStoreValue) (m : Machine Value) (old new : DiskState) (why : OpenFault) → IsTrue tells → IsInStep v
    → IsStoreOf tells v m
    → LeavesImage v.disk.areas (image_of old.areas) → OpenRefuses tells old why new → SaysNothing why
stop-opens tells v m old new why told step is left refuses =
    whatever (SaysNothing why) m
    (front-map (IsImageOf v.roots (image_of old.areas)) (λ h floors. SaysNothing why) m
    (λ h floors image. opens-any tells old new why v.roots h floors told image refuses) (leaves-fronts tells v m (image_of old.areas) told step is left))

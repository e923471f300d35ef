-- What a stop may leave between two calls, and what an opened store stands for.
use Rattle.std.proofs.Common.{◌≡◌, ◌⊎◌, ℕ, ◌≤◌, Bool, true, false, List, [], ◌++◌, take, Option, None, Some, refl, arith, ap, sym, subst, inl}
use Rattle.std.proofs.Common.{inr}
use Rattle.std.specs.Prelude.{IsTrue, MatchBool}
use Rattle.history.specs.Histories.{History}
use Rattle.history.specs.Machine.{Machine, opened_by}
use Rattle.history.proofs.Machines.{opened_by-machine}
use Rattle.disk.specs.Areas.{Image, AreSound, LeavesImage, settled_on}
use Rattle.law_image.specs.Values.{Value, IsValue}
use Rattle.law_image.specs.Reading.{Reading}
use Rattle.law_image.specs.StandsFor.{StandsFor}
use Rattle.law_image.proofs.Standing.{floor-range}
use Rattle.log_recovery.specs.Opening.{ReadsRoots}
use Rattle.log_roots.specs.Roots.{root_of}
use Rattle.log_writer.specs.Writer.{WriterState}
use Rattle.law_log_layout.specs.HeapLog.{HeapLog, IsLogOf, HoldsLog}
use Rattle.law_log_layout.specs.Turns.{MayBe, MayBecome}
use Rattle.commits.specs.Values.{CommitsValue, WaitingValue}
use Rattle.commits.specs.Steps.{grouped}
use Rattle.log_base.specs.Bases.{mark_of}
use Rattle.log_room.specs.Rooms.{RoomValue}
use Rattle.log_store.specs.Values.{LogStoreValue, ReclaimValue, IsInStep}
use Rattle.log_store.specs.Values as stores
use Rattle.log_store.specs.declared.job.JobWork.{JobWork}
use Rattle.log_store.specs.declared.job.Job.{Job}
use Rattle.log_store.specs.declared.job.JobStage.{JobStage}
use Rattle.log_store.specs.declared.job.JobStage.TheVariants.{Ready, Entering}
use Rattle.log_store.specs.declared.job.JobStage.TheVariants as stages
use Rattle.law_commits.specs.Standing.{StandsInMemory}
use Rattle.law_log_store.specs.Standing.{StandsOnHeap, IsImageOf, MayStand, MayStandAt, MayStandOn, MayStandBy, StopsOnHeap, floors_with}
use Rattle.law_log_store.specs.Calls.{HasEntered, IsFront}
use Rattle.law_log_store.specs.Opened.{IsOpenedOn}
use Rattle.law_log_store.proofs.Going.{standing-stops}
use Rattle.law_log_store.proofs.Pumping.{either-old, either-new, grouped-stays}
use Rattle.law_log_store.proofs.Opened as rooms
use Rattle.law_log_steps.specs.Store.{HaveMark, gate_of, raising_of, HasAllMade, JobReaches, ReclaimReaches, HasMarks, EndsInHeap, IsWriting, IsStoreOf}

module _ (tells : Bool) (v : LogStoreValue) (m : Machine Value) (image : Image) (told : IsTrue tells) (step : IsInStep v) (is : IsStoreOf tells v m) where
  abbrev Old : Type 0
  Old = IsImageOf v.roots image m.published m.floors

  abbrev New : ℕ → Type 0
  New group = IsImageOf v.roots image (m.published ++ take group m.queue) m.floors

  stops : StopsOnHeap v m.published m.queue m.floors
  stops = by-failed v.commits.failed refl (is.disk told)
    where
      by-failed : (b : Bool) → v.commits.failed ≡ b → MatchBool b (StopsOnHeap v m.published m.queue m.floors) (StandsOnHeap v m.published m.queue m.floors)
          → StopsOnHeap v m.published m.queue m.floors
      by-failed true failed so = so
      by-failed false works stands = standing-stops v m.published m.queue m.floors works stands

  abbrev Entered : JobWork → Type 0
  Entered work = IsImageOf v.roots image m.published (floors_with work m.floors)

  pub rests-on-front : LeavesImage v.disk.areas image → IsFront v image m.published m.queue m.floors
  rests-on-front left = by-turn v.turn step.turn (stops image left)
    where
      or-entered : (work : JobWork) → Old ⊎ Entered work → Old ⊎ New (grouped 1024 v.commits).group ⊎ Entered work
      or-entered work (inl old) = inl old
      or-entered work (inr new) = inr (inr new)

      by-failed : (w : WriterState) (b : Bool) → MatchBool b (MayBecome w.stage Old (New v.commits.group)) (MayBe w.stage Old (New v.commits.group))
          → Old ⊎ New v.commits.group
      by-failed w true may = either-new w.stage Old (New v.commits.group) may
      by-failed w false may = either-old w.stage Old (New v.commits.group) may

      by-entry : (work : JobWork) (w : WriterState) (b : Bool) → MayStandAt b w.stage Old (Entered work)
          → Old ⊎ New (grouped 1024 v.commits).group ⊎ Entered work
      by-entry work w true may = or-entered work (either-new w.stage Old (Entered work) may)
      by-entry work w false may = or-entered work (either-old w.stage Old (Entered work) may)

      by-stage : (work : JobWork) (k : JobStage) → MayStandOn v.commits.failed k Old (Entered work) → Old ⊎ New (grouped 1024 v.commits).group ⊎ Entered work
      by-stage work (stages.Writing writer) may = inl may
      by-stage work (Ready waited) may = inl may
      by-stage work (Entering w) may = by-entry work w v.commits.failed may

      by-job : (j : Option Job) → MayStandBy v.commits.failed j Old Entered
          → Old ⊎ New (grouped 1024 v.commits).group ⊎ HasEntered v image m.published m.floors j
      by-job None may = inl may
      by-job (Some job) may = by-stage job.work job.stage may

      grouped-too : Old ⊎ New (grouped 1024 v.commits).group → IsFront v image m.published m.queue m.floors
      grouped-too (inl old) = inl old
      grouped-too (inr new) = inr (inl new)

      by-turn : (t : Option WriterState) → stores.HasTurn v.commits.group t → MayStand v.commits.failed t v.job Old (New v.commits.group) Entered
          → IsFront v image m.published m.queue m.floors
      by-turn None none may = by-job v.job may
      by-turn (Some w) some may =
          grouped-too
          (subst (λ (n : ℕ). Old ⊎ New n) (ap (λ (c : CommitsValue). c.group) (sym (grouped-stays v.commits some.0))) (by-failed w v.commits.failed may))

-- a store that stands for a history, with nothing behind it, stands for a machine that is opened on it
pub stands-opened : (tells : Bool) (v : LogStoreValue) (h : History Value) (floors : ℕ → ℕ) (reading : Reading) → StandsFor reading h floors
    → StandsOnHeap v h [] floors
    → v.commits.failed ≡ false → v.commits.queue ≡ [] → IsWriting tells v (opened_by 1024 h floors) → HasMarks v → EndsInHeap v
    → StandsInMemory v.commits (opened_by 1024 h floors) → IsStoreOf tells v (opened_by 1024 h floors)
stands-opened tells v h floors reading stands on works none writing marks ends memory = record {
  memory = memory;
  marks = marks;
  ends = ends;
  machine = opened_by-machine IsValue 1024 h floors stands.opens.history (floor-range reading h floors stands);
  writing = writing;
  fresh = subst (λ (ws : List WaitingValue). HaveMark v.commits.reclaimed ws) (sym none) tt;
  disk = λ told. subst (λ (b : Bool). MatchBool b (StopsOnHeap v h [] floors) (StandsOnHeap v h [] floors)) (sym works) on;
}

pub opened-stands : (tells : Bool) (v : LogStoreValue) (image : Image) (l : HeapLog) (reading : Reading) (h : History Value) (floors : ℕ → ℕ)
    → v.disk.areas ≡ settled_on image → AreSound v.disk.areas → ReadsRoots image.status v.roots → IsLogOf v.roots.extents (root_of v.roots) l reading
    → HoldsLog l image.heap image.archive → StandsFor reading h floors → IsOpenedOn v l reading → v.commits.failed ≡ false
    → v.commits.reclaimed ≤ mark_of v.live.chains
    → StandsInMemory v.commits (opened_by 1024 h floors) → IsStoreOf tells v (opened_by 1024 h floors)
opened-stands tells v image l reading h floors same sound reads is held stands on works marks memory =
    stands-opened tells v h floors reading stands (rooms.opened-stands v image l reading h floors same sound reads is held stands on) works on.queue
    (record {
      most = refl;
      group = sym on.group;
      raising = ap raising_of (sym on.job);
      made = subst (λ (j : Option Job). HasAllMade v.commits.floors j) (sym on.job) tt;
      gate = λ works. λ i. gate_of (sym on.turn i) (sym on.job i);
      left = λ fails. absurd (let no : false ≡ true = fails in cc);
    })
    (record {
      reclaimed = on.marks;
      base = marks;
      job = subst (λ (j : Option Job). JobReaches v.named.upto j) (sym on.job) tt;
      reclaim = subst (λ (r : Option ReclaimValue). ReclaimReaches v.named.upto r) (sym on.reclaim) tt;
    }) (
    let next : v.room.next ≡ l.next = ap (λ (r : RoomValue). r.next) on.room in
    let low = is.next.0 in
    let high = is.next.1 in
    let most = reads.has.in_range.size.most in
    (omega (arith, next, low), omega (arith, next, high, most))
    ) memory

-- What stands of a base while something else is written, and once it turns.
use Rattle.std.proofs.Common.{◌≡◌, ℕ, List, ◌∷◌, ◌++◌, Option, None, Some, Result, refl, ap, sym, subst}
use Rattle.disk.specs.Areas.{AreaState, Areas, AreSound}
use Rattle.disk.specs.declared.area.DeviceFault.{DeviceFault}
use Rattle.law_image.specs.Reading.{Reading}
use Rattle.log_extents.specs.Chains.{first_or, IsNumberOf, AreDistinct}
use Rattle.log_base.specs.Rolls.{InRoll}
use Rattle.log_roots.specs.declared.roots.Roots.{Roots}
use Rattle.log_writer.specs.Turns.{IsCallOf, Part, Stage}
use Rattle.law_log_layout.specs.HeapLog.{HeapLog, PlacedChain, PlacedRoll, heap_parts, IsLogOf, MayJoin, turn_of}
use Rattle.law_log_layout.specs.Reclaims.{NewBase, new_parts}
use Rattle.law_log_layout.specs.Behind.{IsBesideBase}
use Rattle.law_log_layout.specs.Turns.{HoldsAll, KeepsAll, IsAt}
use Rattle.law_log_layout.proofs.Joining.{all-new}
use Rattle.log_store.specs.Values.{ReclaimValue}
use Rattle.log_store.specs.declared.job.Job.{Job}
use Rattle.log_store.specs.declared.reclaim.ReclaimStage.{ReclaimStage}
use Rattle.log_store.specs.declared.reclaim.ReclaimStage.TheVariants.{Writing, Rolling, Turning}
use Rattle.law_log_store.specs.Reclaiming.{HasMadeAt, HasReclaim, IsBaseOf, KeepsRoll, PlanValue, numbers_of, plan_of, root_then, taken_of}
use Rattle.law_log_store.specs.Reclaiming.{written_of}
use Rattle.law_log_store.proofs.Headers.{Turns, TurnsAt}
use Rattle.law_log_store.proofs.Made.{chain-leaves, chain-leaves-done}
use Rattle.law_log_store.proofs.Reclaims.{taken-are}

-- ---- the base of a reclaim that turns is on the disk

pub record IsOnDisk (most : ℕ) (l : HeapLog) (reading : Reading) (reclaim : Option ReclaimValue) (heap archive : AreaState) : Type 0 where
  pub plan : PlanValue
  pub base : IsBaseOf most l reading plan
  pub root_is : first_or 0 (base.n).numbers ≡ root_then reclaim
  pub taken_is : taken_of reclaim ≡ numbers_of (written_of plan.makes base.n)
  pub parts : KeepsAll (new_parts (written_of plan.makes base.n)) heap
  pub roll : KeepsRoll base.more archive

made-turning : (r : Roots) (root : ℕ) (w : NewBase) (more : Option PlacedRoll) (waits : Option InRoll) (k : ReclaimStage) (heap archive : AreaState) → TurnsAt k
    → HasMadeAt r root w more waits k heap archive → KeepsAll (new_parts w) heap × KeepsRoll more archive
made-turning r root w more waits (Writing anchors base) heap archive turns made = absurd turns
made-turning r root w more waits (Rolling roll) heap archive turns made = absurd turns
made-turning r root w more waits (Turning t) heap archive turns made = (made.0, made.1)

module _ (roots : Roots) (job : Option Job) (end : ℕ) (heap archive : AreaState) (l : HeapLog) (reading : Reading) where
  pub on-disk : (reclaim : Option ReclaimValue) → Turns reclaim → HasReclaim roots job end heap archive l reading reclaim
      → IsOnDisk roots.extents l reading reclaim heap archive
  on-disk None turns is = absurd turns
  on-disk (Some r) turns is =
      let b = is.base in
      let made = made-turning roots (first_or 0 r.numbers) (written_of r.makes b.n) b.more r.roll r.stage heap archive turns is.made in
      record {
        plan = plan_of r;
        base = b;
        root_is = ap (first_or 0) b.numbers_are;
        taken_is = taken-are roots job end heap archive l reading r is;
        parts = made.0;
        roll = made.1;
      }

  -- and no job runs
  pub turns-alone : (reclaim : Option ReclaimValue) → Turns reclaim → HasReclaim roots job end heap archive l reading reclaim → job ≡ None
  turns-alone None turns is = absurd turns
  turns-alone (Some r) turns is = is.alone

-- its root is an extent of the heap
pub root-number : (most : ℕ) (l : HeapLog) (reading : Reading) (plan : PlanValue) (b : IsBaseOf most l reading plan)
    → IsNumberOf most (first_or 0 (b.n).numbers)
root-number most l reading plan b =
    let may = b.may in
    let placed = may.placed in
    all-new (IsNumberOf most) (b.n).numbers (first_or 0 (b.n).numbers) placed.in_range refl placed.some

-- ---- what is written of it is left where it is

pub made-left : (r : Roots) (root : ℕ) (w : NewBase) (more : Option PlacedRoll) (waits : Option InRoll) (k : ReclaimStage) (old new archive : AreaState)
    → ((done rest : List Part) → done ++ rest ≡ new_parts w → HoldsAll done old.bytes → HoldsAll done new.bytes)
    → (KeepsAll (new_parts w) old → KeepsAll (new_parts w) new) → HasMadeAt r root w more waits k old archive → HasMadeAt r root w more waits k new archive
made-left r root w more waits (Writing anchors base) old new archive held kept made =
    let is = made.0 in
    (record { done = is.done; are = is.are; held = held is.done (anchors.left ++ base.left) is.are is.held }, made.1)
made-left r root w more waits (Rolling roll) old new archive held kept made = (kept made.0, made.1)
made-left r root w more waits (Turning t) old new archive held kept made = (kept made.0, made.1, made.2, made.3)

-- by each call of a chain behind the log
module _ (roots : Roots) (job : Option Job) (end root : ℕ) (old new : Areas) (l : HeapLog) (reading : Reading) (c : PlacedChain)
    (is-log : IsLogOf roots.extents root l reading) (joins : MayJoin roots.extents l c) (stage : Stage) (result : Result (Unit {0}) DeviceFault)
    (sound : AreSound old) (at : IsAt (heap_parts l) (turn_of l.next c) stage old.heap) (call : IsCallOf (turn_of l.next c) stage result old new) where
  pub left-by-chain : (reclaim : Option ReclaimValue) → AreDistinct (taken_of reclaim ++ c.link ∷ c.numbers) → new.archive ≡ old.archive
      → HasReclaim roots job end old.heap old.archive l reading reclaim → HasReclaim roots job end new.heap new.archive l reading reclaim
  left-by-chain None beside same is = tt
  left-by-chain (Some r) beside same is =
      let b = is.base in
      let w = written_of r.makes b.n in
      let apart : IsBesideBase c w =
      subst (λ (ns : List ℕ). AreDistinct (ns ++ c.link ∷ c.numbers)) (taken-are roots job end old.heap old.archive l reading r is) beside in
      record {
        alone = is.alone;
        base = b;
        made = made-left roots (first_or 0 r.numbers) w b.more r.roll r.stage old.heap new.heap new.archive
            (λ done rest are held.
            chain-leaves-done roots.extents root l reading w is-log b.free c joins apart stage done rest result old new sound are at call held)
            (let both = chain-leaves roots.extents root l reading w is-log b.free c joins apart stage result old new sound at call in
            let leaves = both.0 in leaves.kept)
            (subst (λ (a : AreaState). HasMadeAt roots (first_or 0 r.numbers) w b.more r.roll r.stage old.heap a) (sym same) is.made);
        ends = is.ends;
      }

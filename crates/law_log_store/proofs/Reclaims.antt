-- What a reclaim that runs has taken, and that no job runs beside it.
use Rattle.std.proofs.Common.{◌≡◌, ℕ, Bool, true, false, List, ◌∷◌, ◌++◌, Option, None, Some, refl, sym, subst}
use Rattle.std.specs.Prelude.{if◌then◌else◌}
use Rattle.disk.specs.Areas.{AreaState}
use Rattle.law_image.specs.Reading.{Reading}
use Rattle.log_extents.specs.Chains.{IsNew, AreDistinct}
use Rattle.log_roots.specs.declared.roots.Roots.{Roots}
use Rattle.law_log_layout.specs.HeapLog.{HeapLog, live_numbers}
use Rattle.law_log_layout.specs.Reclaims.{NewBase}
use Rattle.law_log_layout.proofs.Places.{distinct-parts, new-back}
use Rattle.log_store.specs.Values.{ReclaimValue, taken_by}
use Rattle.log_store.specs.declared.job.Job.{Job}
use Rattle.law_log_store.specs.Reclaiming.{HasReclaim, IsReclaiming, numbers_of, plan_of, taken_of, written_of}

-- there is none, or one
pub none-some : (j : Option Job) (it : Job) → j ≡ None → j ≡ Some it → ⊥
none-some None it none some = cc
none-some (Some x) it none some = cc

-- ---- the extents that are taken

taken-by : (makes : Bool) (n : NewBase) (numbers anchors : List ℕ) → n.numbers ≡ numbers → (n.anchors).numbers ≡ anchors
    → (if makes then anchors ++ numbers else numbers) ≡ numbers_of (written_of makes n)
taken-by true n numbers anchors numbers-are anchors-are = λ i. sym anchors-are i ++ sym numbers-are i
taken-by false n numbers anchors numbers-are anchors-are = sym numbers-are

module _ (roots : Roots) (job : Option Job) (end : ℕ) (heap archive : AreaState) (l : HeapLog) (reading : Reading) where
  -- they are those of what is written
  pub taken-are : (r : ReclaimValue) (is : IsReclaiming roots job end heap archive l reading (plan_of r) r.roll r.stage)
      → taken_by r ≡ numbers_of (written_of r.makes (is.base).n)
  taken-are r is = let b = is.base in taken-by r.makes b.n r.numbers r.anchors b.numbers_are b.anchors_are

  -- no two of them are one, and the log ends in none
  pub taken-apart : (reclaim : Option ReclaimValue) → HasReclaim roots job end heap archive l reading reclaim
      → AreDistinct (taken_of reclaim) × IsNew l.next (taken_of reclaim)
  taken-apart None is = (tt, tt)
  taken-apart (Some r) is =
      let free = (is.base).free in
      let own = numbers_of (written_of r.makes (is.base).n) in
      subst (λ (ns : List ℕ). AreDistinct ns × IsNew l.next ns) (sym (taken-are r is)) (
        (distinct-parts (l.next ∷ live_numbers l) own free.apart).back,
        new-back l.next (live_numbers l) own (free.apart).0,
      )

  -- ---- jobs

  -- where a job runs no reclaim does
  pub beside-job : (it : Job) (reclaim : Option ReclaimValue) → job ≡ Some it → HasReclaim roots job end heap archive l reading reclaim → reclaim ≡ None
  beside-job it None is-job is = refl
  beside-job it (Some r) is-job is = absurd (none-some job it is.alone is-job)

-- so nothing is said of one
pub none-made : (roots : Roots) (job : Option Job) (end : ℕ) (heap archive : AreaState) (l : HeapLog) (reading : Reading) (reclaim : Option ReclaimValue)
    → reclaim ≡ None → HasReclaim roots job end heap archive l reading reclaim
none-made roots job end heap archive l reading reclaim none =
    subst (HasReclaim roots job end heap archive l reading) (sym none) tt

use Rattle.std.proofs.Common.{◌≡◌, ◌∙◌, ap}
use Rattle.log_store.specs.Values.{ReclaimValue}
use Rattle.log_store.specs.Reclaiming.{did_at, stage_behind}
use Rattle.log_store.specs.declared.reclaim.ReclaimStage.{ReclaimStage}
use Rattle.log_store.proofs.Advancing.{same-behind}
use Rattle.log_store.proofs.reclaim.Reclaim.advance.Goals as goal

pub returns-in_default-clause-ok : goal.returns-in_default-clause-ok
returns-in_default-clause-ok g c =
    let made = c.in_ok-did.ensures.ok in
    let stage : c.self.inside.stage ≡ c.args.self.now.stage = ap (λ (r : ReclaimValue). r.stage) c.self.view_is in
    let did : c.in_ok-did.did ≡ did_at c.args.self.now.stage = made.0 ∙ ap did_at stage in (
      did,
      ap (λ (r : ReclaimValue). record r { stage = c.make_call.new.self }) c.self.view_is
          ∙ (ap (λ (s : ReclaimStage). record c.args.self.now { stage = s }) (made.1 ∙ ap stage_behind stage)
          ∙ same-behind c.args.roots c.args.self.now c.args.self.now.stage (λ e. c.in_default.not-HeapSynced (did ∙ e))
          (λ e. c.in_default.not-RollSynced (did ∙ e))),
    )

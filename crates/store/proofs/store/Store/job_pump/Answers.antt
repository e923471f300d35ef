use Rattle.std.proofs.Common.{◌≡◌, is_some, Option, Some, sym, subst, ap, ◌∙◌}
use Rattle.store.specs.Values.{StoreValue}
use Rattle.store.specs.Parts.{parts_of}
use Rattle.store.specs.declared.job.Job.{Job}
use Rattle.store.proofs.InStep.{Holds, stays-in-step}
use Rattle.store.proofs.store.Store.job_pump.Goals as goal

pub invariant_of-self-in-Some : goal.invariant_of-self-in-Some
invariant_of-self-in-Some g c =
    let s = c.self.inside in
    let before : StoreValue = parts_of s.transactions s.log s.turn s.job s.archived.upto s.archived.runs_end s.archived.archive (g.D.Disk.state s.disk) in
    let job_is : s.job ≡ Some c.in-Some.job = sym c.replace.ensures.value ∙ c.in-Some.is in
    let held : Holds (parts_of s.transactions s.log s.turn (Some c.in-Some.job) s.archived.upto s.archived.runs_end s.archived.archive
    (g.D.Disk.state s.disk)) =
    subst (λ (o : Option Job). Holds (parts_of s.transactions s.log s.turn o s.archived.upto s.archived.runs_end s.archived.archive (g.D.Disk.state s.disk)))
    job_is (record { in_step = c.self.invariant.0; in_range = c.self.invariant.1 }) in
    let made = stays-in-step g.D.Disk.tells before c.in-Some.job c.step_job-answer.result.0 _ (sym c.has_failed.ensures.is ∙ c.if-has_failed.false)
    (c.step_job-answer.ensures s.turn (sym (c.is_group_turning-is_turning.ensures ∙ ap (λ (v : StoreValue). is_some v.turn) (sym c.self.view_is)))) held in
    let after = c.step_job-answer.new in
    let placed : Holds (parts_of after.transactions after.log s.turn c.put_in_place.new.place after.archived.upto after.archived.runs_end
    after.archived.archive (g.D.Disk.state after.disk)) =
    subst (λ (o : Option Job). Holds (parts_of after.transactions after.log s.turn o after.archived.upto after.archived.runs_end after.archived.archive
    (g.D.Disk.state after.disk))) (sym c.put_in_place.ensures) made in
    (placed.in_step, placed.in_range)

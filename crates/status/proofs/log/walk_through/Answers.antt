use Rattle.std.proofs.lemmas.Grind.{common_steps}
use Rattle.std.proofs.Common.{sym, ◌∙◌, subst, ℕ, arith}
use Rattle.status.specs.Log.{OpensWith}
use Rattle.status.specs.Rules.{KeepsRules}
use Rattle.status.proofs.Steps.{opens_with_none}
use Rattle.status.proofs.log.walk_through.Goals as goal

pub returns-clause-log : goal.returns-clause-log
returns-clause-log g c = λ told.
    let header = c.args.header.now in
    let bytes = (g.D.Disk.state c.args.disk.now).areas.status.bytes in
    let none : OpensWith header bytes c.new-walk.result.slots.items = rw c.new-walk.ensures.slots (opens_with_none header bytes (c.requires.room told)) in
    let read = c.in_ok-read_slots.ensures.goes told header (sym c.new-walk.ensures.profile) (sym c.total.ensures) none in
    record {
      opens = read.0;
      rules = subst (λ (p : ℕ). KeepsRules p c.read_slots.new.walk.slots.items)
          (c.in_ok-read_slots.ensures.profile ∙ c.new-walk.ensures.profile) c.in_ok-read_slots.ensures.walk.are_slots.rules;
      ended = read.1;
    }

pub returns-clause-ends : goal.returns-clause-ends
returns-clause-ends g c = grind (arith, common_steps)

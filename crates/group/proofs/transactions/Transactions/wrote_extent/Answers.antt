use Rattle.std.proofs.Common.{◌≡◌, ap, sym, subst, ◌∙◌}
use Rattle.group.specs.Values.{TransactionsValue}
use Rattle.group.specs.Steps.{due, stage_behind}
use Rattle.group.specs.declared.stage.NextStep.TheVariants as steps
use Rattle.group.proofs.Kept.{keeps-wrote}
use Rattle.group.proofs.transactions.Transactions.wrote_extent.Goals as goal

pub invariant_of-self : goal.invariant_of-self
invariant_of-self c =
    rw (c.stage_behind-self-inside.ensures ∙ ap (λ (w : TransactionsValue). stage_behind w.queue w.stage) (sym c.self.view_is))
    (keeps-wrote _ c.self.invariant (subst (λ (v : TransactionsValue). due v ≡ steps.WriteExtent) (sym c.self.view_is) c.requires))

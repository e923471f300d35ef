use Rattle.std.proofs.Common.{◌∙◌, sym, inr}
use Rattle.workload.proofs.workers.read.Goals as goal

pub returns-clause-says : goal.returns-clause-says
returns-clause-says g c =
    let says = c.at-answer.ensures.says in
    inr (says.0, says.1, sym c.in-Ok.ensures.moment ∙ says.2, (c.in-Ok.view.shown.reclaimed, says.3))

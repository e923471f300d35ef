use Rattle.law_refinement.proofs.Answering.{times-of_label}
use Rattle.law_refinement.proofs.times_are_of_label.Goals as goal

pub returns : goal.returns
returns c = times-of_label

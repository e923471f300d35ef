use Rattle.clock.proofs.Texts.{shown_as_one}
use Rattle.clock.proofs.laws.texts_are_instants.Goals as goal

pub returns-clause-shown : goal.returns-clause-shown
returns-clause-shown c = shown_as_one

use Rattle.shared.proofs.Fronts.{later-then}
use Rattle.shared.proofs.latest.another_of.Goals as goal

pub returns-in_ok-another-in-Some-clause-later : goal.returns-in_ok-another-in-Some-clause-later
returns-in_ok-another-in-Some-clause-later g c = later-then _ _ _ c.load-time.ensures.later c.another.ensures.later

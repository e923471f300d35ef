use Rattle.law_commits.proofs.Tickets.{late-times}
use Rattle.law_commits.proofs.laws.times_are_of_label.Goals as goal

pub returns : goal.returns
returns c = late-times

use Rattle.law_client.proofs.Winning.{first-wins}
use Rattle.law_client.proofs.first_wins.Goals as goal

pub returns : goal.returns
returns c = first-wins c.public_clauses.ensures

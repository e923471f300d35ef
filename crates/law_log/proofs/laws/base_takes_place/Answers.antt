use Rattle.law_log.proofs.Based.{base-placed}
use Rattle.law_log.proofs.laws.base_takes_place.Goals as goal

pub returns : goal.returns
returns c = λ front back b rules le place. base-placed front back b rules le place

use Rattle.vacuum.proofs.Records.{at-first}
use Rattle.vacuum.proofs.archive_walk.first_place.Goals as goal

pub returns : goal.returns
returns c = λ since upto frozen. at-first since upto frozen

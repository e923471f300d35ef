use Rattle.archive.proofs.Frames.{kept_again}
use Rattle.archive.proofs.laws.kept_keeps.Goals as goal

pub returns : goal.returns
returns c = kept_again

use Rattle.disk.proofs.Parts.{kept_by_write}
use Rattle.disk.proofs.laws.write_keeps.Goals as goal

pub returns : goal.returns
returns c = λ at n from part old new sound keeps apart is. kept_by_write at n from part old new sound keeps apart is

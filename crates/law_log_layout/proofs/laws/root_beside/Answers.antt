use Rattle.law_log_layout.proofs.RootBeside.{root-beside}
use Rattle.law_log_layout.proofs.laws.root_beside.Goals as goal

pub returns : goal.returns
returns g c = root-beside g.C.RootClaims.Old g.C.RootClaims.New

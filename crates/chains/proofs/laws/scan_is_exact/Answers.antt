use Rattle.chains.proofs.Shown.{scan_is}
use Rattle.chains.proofs.laws.scan_is_exact.Goals as goal

pub returns : goal.returns
returns c = scan_is

use Rattle.chains.proofs.ShownRows.{scan_of_rows}
use Rattle.chains.proofs.laws.scan_of_rows_is_exact.Goals as goal

pub returns : goal.returns
returns c = scan_of_rows

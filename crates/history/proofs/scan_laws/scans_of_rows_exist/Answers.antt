use Rattle.history.specs.Key.{key_of}
use Rattle.history.specs.Histories.{between}
use Rattle.history.proofs.ScanNumbers.{numbers_of, between-written}
use Rattle.history.proofs.ScansMade.{scan_of_rows-made}
use Rattle.history.proofs.scan_laws.scans_of_rows_exist.Goals as goal

pub returns : goal.returns
returns g c =
    λ h relation a b. scan_of_rows-made (λ key. between h key a b) relation (numbers_of h) (λ number some. between-written h (key_of relation number) a b some)

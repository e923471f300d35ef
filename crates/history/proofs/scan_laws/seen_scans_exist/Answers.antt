use Rattle.std.proofs.Common.{◌++◌}
use Rattle.history.specs.Key.{key_of}
use Rattle.history.specs.Queries.{seen}
use Rattle.history.proofs.ScanNumbers.{numbers_in, numbers_of, seen-written}
use Rattle.history.proofs.ScansMade.{scan-made}
use Rattle.history.proofs.scan_laws.seen_scans_exist.Goals as goal

pub returns : goal.returns
returns g c =
    λ h snapshot writes relation. scan-made (seen h snapshot writes) relation (numbers_in writes
    ++ numbers_of h) (λ number value is. seen-written h snapshot writes (key_of relation number) value is)

use Rattle.history.specs.Key.{key_of}
use Rattle.history.specs.Histories.{state}
use Rattle.history.proofs.ScanNumbers.{numbers_of, state-written}
use Rattle.history.proofs.ScansMade.{scan-made}
use Rattle.history.proofs.scan_laws.scans_exist.Goals as goal

pub returns : goal.returns
returns g c = λ h relation time. scan-made (state h time) relation (numbers_of h) (λ number value is. state-written h time (key_of relation number) value is)

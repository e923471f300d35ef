-- Scans exist, over every value type and of every list of commits; the law ScanIsOne of `history` says that there is one only.
use Rattle.std.specs.Prelude.{ℕ, List}
use Rattle.history.specs.declared.key.KeyWrite.{KeyWrite}
use Rattle.history.specs.declared.time.Version.{Version}
use Rattle.history.specs.Histories.{History}
use Rattle.history.specs.Queries.{IsScanAt, IsScanBetween, IsScanSeen}

-- of the values at a time
abbrev pub ScanExists : Type 0 → Type 0
ScanExists V = (h : History V) (relation time : ℕ) → (found : List (ℕ × V)) × IsScanAt h relation time found

-- of the rows from a to b
abbrev pub ScanOfRowsExists : Type 0 → Type 0
ScanOfRowsExists V = (h : History V) (relation a b : ℕ) → (found : List (ℕ × Version V)) × IsScanBetween h relation a b found

-- of what a transaction sees
abbrev pub SeenScanExists : Type 0 → Type 0
SeenScanExists V =
    (h : History V) (snapshot : ℕ) (writes : List (KeyWrite V)) (relation : ℕ) → (found : List (ℕ × V)) × IsScanSeen h snapshot writes relation found

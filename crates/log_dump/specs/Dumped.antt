-- The dump of a store.
use Rattle.std.specs.Prelude.{◌≡◌, ℕ, List, Bool, IsTrue}
use Rattle.log_shown.specs.declared.shown.LogShown.{LogShown}
use Rattle.log_shown.specs.Shown.{IsLogShown}
use Rattle.log_dump.specs.declared.dump.Dump.{Dump}
use Rattle.log_dump.specs.Dump.{IsDumpText, fault_of}

-- what is shown of a log, as text
pub record IsDump (shown : LogShown) (dump : Dump) : Type 0 where
  pub text : IsDumpText shown dump.text.items
  pub fault : dump.fault ≡ fault_of shown.end

-- The dump of a disk with these areas: that of the log that stands on it, if the disk tells its bytes.
pub record IsDumpOf (tells : Bool) (status heap : List ℕ) (dump : Dump) : Type 0 where
  pub shown : LogShown
  pub stands : IsTrue tells → IsLogShown status heap shown
  pub is : IsDump shown dump

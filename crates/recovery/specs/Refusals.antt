-- The faults of the log as those of an opening, and the refusals that are counted at one.
use Rattle.std.specs.Prelude.{ℕ, Result, Ok, Err}
use Rattle.disk.specs.Calls.{counted}
use Rattle.disk.specs.declared.area.Area.TheVariants.{Status}
use Rattle.status.specs.declared.fault.LogFault.{LogFault}
use Rattle.status.specs.declared.fault.LogFault.TheVariants as log
use Rattle.recovery.specs.declared.fault.OpenFault.{OpenFault}
use Rattle.recovery.specs.declared.fault.OpenFault.TheVariants.{NotAStore, Damaged, Device, NoMemory}

-- a fault of the log as one of the image
abbrev pub open_fault : LogFault → OpenFault
open_fault log.NotAStore = NotAStore
open_fault (log.Damaged n) = Damaged Status n
open_fault log.Device = Device
open_fault log.NoMemory = NoMemory

-- the refusals counted after this answer
abbrev pub refusals_at_opening : {T : Type 0} → Result T OpenFault → ℕ → ℕ
refusals_at_opening (Ok x) n = n
refusals_at_opening (Err NotAStore) n = n
refusals_at_opening (Err (Damaged area place)) n = n
refusals_at_opening (Err Device) n = counted n
refusals_at_opening (Err NoMemory) n = n

-- The call of a stage at which zeros are to be written.
use Rattle.std.proofs.Common.{◌≡◌, ℕ, ◌<◌, true, nat_lt, Result, arith}
use Rattle.std.proofs.lemmas.Bool.Decides.{nat_tests}
use Rattle.disk.specs.Areas.{Areas}
use Rattle.disk.specs.declared.area.DeviceFault.{DeviceFault}
use Rattle.status.specs.declared.growth.GrowthStage.{GrowthStage}
use Rattle.status.specs.declared.growth.GrowthStage.TheVariants.{Zeroing}
use Rattle.status.specs.Growth.{WritesZeros, IsGrowthCall}

pub zeros-are_call : (stage : GrowthStage) (parts many piece : ℕ) (result : Result (Unit {0}) DeviceFault) (old new : Areas) → stage ≡ Zeroing parts
    → parts < 16 → WritesZeros many parts result old new → IsGrowthCall stage many piece result old new
zeros-are_call stage parts many piece result old new is few call = let test : nat_lt parts 16 ≡ true = grind (arith, nat_tests) in rw (is, test) call

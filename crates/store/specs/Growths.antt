-- The beginning of a growth.
use Rattle.std.specs.Prelude.{◌≡◌, is_some, Option, Some, None, Result, Ok, Err, MatchOption, if◌then◌else◌}
use Rattle.status.specs.Growth.{next_piece}
use Rattle.status.specs.GrowthState.{GrowthState}
use Rattle.store.specs.Values.{StoreValue}
use Rattle.store.specs.Jobs.{growing}
use Rattle.store.specs.declared.job.StartFault.{StartFault}
use Rattle.store.specs.declared.job.StartFault.TheVariants as fault

-- why the store does not grow, whatever its log is: the first reason in this order
abbrev pub refusal_to_grow : StoreValue → Option StartFault
refusal_to_grow v =
    if v.transactions.failed then Some fault.Failed
    else (if is_some v.job then Some fault.JobBusy else None)

-- the piece that comes next is begun, if there may be one
abbrev pub BeginsPiece : StoreValue → Option GrowthState → Result (Unit {0}) StartFault → StoreValue → Type 0
BeginsPiece v None result new = (result ≡ Err fault.NotGrowable) × (new ≡ v)
BeginsPiece v (Some growth) result new = (result ≡ Ok tt) × (new ≡ record v { job = Some (growing growth) })

-- no device call is made, no memory is taken, and no slot
abbrev pub StartsGrowth : StoreValue → Result (Unit {0}) StartFault → StoreValue → Type 0
StartsGrowth v result new = MatchOption (refusal_to_grow v) (BeginsPiece v (next_piece v.log) result new) (λ why. (result ≡ Err why) × (new ≡ v))

-- What the store's calls do, each in one word: what its engine's call does.
use Rattle.std.specs.Prelude.{◌==◌, ℕ, Bool, true, Result}
use Rattle.floors.specs.Floors.{FloorsValue}
use Rattle.snapshot.specs.Txn.{TxnValue}
use Rattle.group.specs.Tickets.{TicketValue}
use Rattle.group.specs.declared.answers.BeginFault.{BeginFault}
use Rattle.group.specs.declared.answers.PumpFault.{PumpFault}
use Rattle.group.specs.declared.answers.Redeemed.{Redeemed}
use Rattle.group.specs.declared.answers.Submitted.{Submitted}
use Rattle.group.specs.declared.answers.SubmitFault.{SubmitFault}
use Rattle.commits.specs.Values as commits
use Rattle.store.specs.Calls as slots
use Rattle.log_store.specs.Calls as logs
use Rattle.log_store.specs.Submits as log_submits
use Rattle.any_store.specs.declared.engine.Engine.TheVariants.{Slots, Log}
use Rattle.any_store.specs.declared.steps.Did.{Did}
use Rattle.any_store.specs.Steps.{PumpsSlots, PumpsLog}
use Rattle.any_store.specs.Values.{StoreValue, ByEngine}

-- the time of the last published commit
abbrev pub last : StoreValue → ℕ
last (Slots s) = slots.last s
last (Log l) = commits.last l.commits

-- the floors that stand
abbrev pub floors : StoreValue → FloorsValue
floors (Slots s) = slots.floors s
floors (Log l) = l.commits.floors

-- each relation has a floor of its own
abbrev pub has_own_floors : StoreValue → Bool
has_own_floors (Slots s) = s.log.profile == 3
has_own_floors (Log l) = true

-- a begin
abbrev pub Begins : StoreValue → Result TxnValue BeginFault → StoreValue → Type 0
Begins old answer new = ByEngine (λ s s'. slots.Begins s answer s') (λ l l'. logs.Begins l answer l') old new

-- an abort
abbrev pub Aborts : StoreValue → TxnValue → StoreValue → Type 0
Aborts old txn new = ByEngine (λ s s'. slots.Aborts s txn s') (λ l l'. logs.Aborts l txn l') old new

-- a submit
abbrev pub Submits : StoreValue → TxnValue → ℕ → ℕ → Result Submitted SubmitFault → StoreValue → Type 0
Submits old txn label now answer new =
    ByEngine (λ s s'. slots.Submits s txn label now answer s') (λ l l'. log_submits.Submits l txn label now answer l') old new

-- a redeem
abbrev pub Redeems : StoreValue → TicketValue → Redeemed → StoreValue → Type 0
Redeems old ticket answer new = ByEngine (λ s s'. slots.Redeems s ticket answer s') (λ l l'. logs.Redeems l ticket answer l') old new

-- a step of a group
abbrev pub Pumps : Bool → StoreValue → Result Did PumpFault → StoreValue → Type 0
Pumps tells old answer new = ByEngine (PumpsSlots tells answer) (PumpsLog tells answer) old new

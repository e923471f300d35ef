-- A group's slot is begun.
use Rattle.std.proofs.Common.{◌≡◌, Bool, true, Result, Err, refl, subst, inl, inr}
use Rattle.wire.specs.declared.slot.Body.{Body}
use Rattle.group.specs.declared.answers.Did.{Did}
use Rattle.group.specs.declared.answers.PumpFault.{PumpFault}
use Rattle.group.specs.declared.answers.PumpFault.TheVariants as fault
use Rattle.group.specs.Steps.{IsCommitOf, entries, is_stale}
use Rattle.store.specs.Values.{StoreValue}
use Rattle.store.specs.Pumps.{MayBeginSlot, TakesSlot, freshly}

pub may_begin : (tells : Bool) (old mid new : StoreValue) (body : Body) (result : Result Did PumpFault) → IsCommitOf (entries old.transactions) body
    → mid ≡ freshly old → TakesSlot tells body mid result new → MayBeginSlot tells old result new
may_begin tells old mid new body result commit is takes =
    inr (record { body = body; commit = commit; turns = subst (λ (v : StoreValue). TakesSlot tells body v result new) is takes })

pub lacks : (tells : Bool) (old new : StoreValue) → is_stale old.transactions ≡ true → new ≡ old → MayBeginSlot tells old (Err fault.NoMemory) new
lacks tells old new stale is = inl (stale, refl, is)

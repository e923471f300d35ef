-- Each step that does something makes one device call.
use Rattle.std.proofs.Common.{◌≡◌, ◌≢◌, Bool, true, false, is_some, Option, Some, None, Result, Ok, Err, MatchBool, MatchOption, inl, inr}
use Rattle.disk.specs.Calls.{DiskState, Counts, counted, top}
use Rattle.disk.specs.declared.area.DeviceFault.{DeviceFault}
use Rattle.status.specs.TurnState.{TurnState}
use Rattle.group.specs.declared.answers.Did.{Did}
use Rattle.group.specs.declared.answers.Did.TheVariants as did
use Rattle.group.specs.declared.answers.PumpFault.{PumpFault}
use Rattle.group.specs.declared.answers.PumpFault.TheVariants as fault
use Rattle.group.specs.declared.queued.StoredExtent.{StoredExtent}
use Rattle.group.specs.Steps.{next_step, next_extent}
use Rattle.group.specs.declared.stage.NextStep.{NextStep}
use Rattle.group.specs.declared.stage.NextStep.TheVariants as step
use Rattle.store.specs.Values.{StoreValue, turn_of}
use Rattle.store.specs.Pumps.{Pumps, TakesStep, WritesExtent, MayBeginSlot, TurnsSlot, started}

pub record MakesOne (old new : DiskState) : Type 0 where
  pub made : new.made ≡ counted old.made
  pub room : old.made ≢ top

made-one : (old new : DiskState) → Counts {T = Unit {0}} {E = DeviceFault} (Ok tt) old new → MakesOne old new
made-one old new counts = record { made = counts.made; room = λ full. let no = (counts.full full).0 in cc }

written-one : (tells : Bool) (o : Option StoredExtent) (old new : StoreValue) (what : Did)
    → MatchOption o ⊥ (λ stored. WritesExtent tells stored old (Ok what) new) → MakesOne old.disk new.disk
written-one tells None old new what takes = absurd takes
written-one tells (Some stored) old new what takes = made-one old.disk new.disk takes.call.counts

turned-one : (tells : Bool) (o : Option TurnState) (old new : StoreValue) (what : Did) → MatchOption o ⊥ (λ turn. TurnsSlot tells turn old (Ok what) new)
    → MakesOne old.disk new.disk
turned-one tells None old new what takes = absurd takes
turned-one tells (Some turn) old new what takes = made-one old.disk new.disk takes.call.counts

begun-one : (tells b : Bool) (old new : StoreValue) (what : Did)
    → MatchBool b (Path (Result Did PumpFault) (Ok what) (Err fault.Busy) × (new ≡ old)) (MayBeginSlot tells old (Ok what) new) → MakesOne old.disk new.disk
begun-one tells true old new what takes = absurd (let is = takes.0 in cc)
begun-one tells false old new what (inl short) = absurd (let is = short.1 in cc)
begun-one tells false old new what (inr takes) = made-one old.disk new.disk takes.turns.call.counts

step-one : (tells : Bool) (s : NextStep) (old new : StoreValue) (what : Did) → TakesStep tells s old (Ok what) new → what ≢ did.Idle
    → MakesOne old.disk new.disk
step-one tells step.Idle old new what takes some = absurd (some (let is : Path (Result Did PumpFault) (Ok what) (Ok did.Idle) = takes.0 in cc))
step-one tells step.WriteExtent old new what takes some = written-one tells (next_extent old.transactions) old new what takes
step-one tells step.SyncHeap old new what takes some = made-one old.disk new.disk takes.call.counts
step-one tells step.BeginSlot old new what takes some = begun-one tells (is_some (turn_of old.job)) old new what takes
step-one tells step.AdvanceSlot old new what takes some = turned-one tells old.turn old new what takes

works-one : (tells : Bool) (b : Bool) (old new : StoreValue) (what : Did)
    → MatchBool b (Path (Result Did PumpFault) (Ok what) (Err fault.Failed) × (new ≡ old))
    (TakesStep tells (next_step old.transactions) (started old) (Ok what) new) → what ≢ did.Idle → MakesOne old.disk new.disk
works-one tells true old new what pumps some = absurd (let is = pumps.0 in cc)
works-one tells false old new what pumps some = step-one tells (next_step old.transactions) (started old) new what pumps some

pub pump-one : (tells : Bool) (old new : StoreValue) (what : Did) → Pumps tells old (Ok what) new → what ≢ did.Idle → MakesOne old.disk new.disk
pump-one tells old new what pumps some = works-one tells old.transactions.failed old new what pumps some

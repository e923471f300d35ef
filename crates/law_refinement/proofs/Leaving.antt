-- What a step of a group leaves alone of the transactions.
use Rattle.std.proofs.Common.{◌≡◌, ◌==◌, ◌&&◌, nat_lt, min, length, Bool, true, false, cond, Some, None, Option, is_some, Result, Ok, Err, MatchBool}
use Rattle.std.proofs.Common.{MatchOption, refl, sym, ◌∙◌, ap, subst, inl, inr}
use Rattle.status.specs.SlotCalls.{SlotStage}
use Rattle.status.specs.SlotCalls as slots
use Rattle.status.specs.TurnState.{TurnState}
use Rattle.group.specs.declared.answers.Did.{Did}
use Rattle.group.specs.declared.answers.PumpFault.{PumpFault}
use Rattle.group.specs.declared.answers.PumpFault.TheVariants as pump
use Rattle.group.specs.declared.queued.StoredExtent.{StoredExtent}
use Rattle.group.specs.Values.{TransactionsValue}
use Rattle.group.specs.Steps as groups
use Rattle.group.specs.declared.stage.GroupStage.TheVariants as stages
use Rattle.group.specs.declared.stage.NextStep.{NextStep}
use Rattle.group.specs.declared.stage.NextStep.TheVariants as next
use Rattle.store.specs.Values.{StoreValue, turn_of}
use Rattle.store.specs.Pumps.{Pumps, TakesStep, WritesExtent, MayBeginSlot, TurnsSlot, IsTurned, Steps, started, begun}
use Rattle.law_refinement.specs.Leaving.{Leaves}

-- the same transactions but for what it does not leave alone
pub leaves-so : (old so new : TransactionsValue) → Leaves old so → new ≡ so → Leaves old new
leaves-so old so new leaves is = subst (λ (v : TransactionsValue). Leaves old v) (sym is) leaves

leaves-then : (old mid new : TransactionsValue) → Leaves old mid → Leaves mid new → Leaves old new
leaves-then old mid new first second = record { mark = second.mark ∙ first.mark; opened = second.opened ∙ first.opened; heads = second.heads ∙ first.heads }

grouped-leaves : (v : TransactionsValue) → Leaves v (groups.grouped v)
grouped-leaves v = by-test ((v.group == 0) && nat_lt 0 (length v.queue))
  where
    by-test : (b : Bool) → Leaves v (cond b (record v { group = min (length v.queue) 16; stage = stages.Storing 0 0 }) v)
    by-test true = record { mark = refl; opened = refl; heads = refl }
    by-test false = record { mark = refl; opened = refl; heads = refl }

broken-leaves : (v new : TransactionsValue) → new ≡ groups.broken v → Leaves v new
broken-leaves v new is = leaves-so v (groups.broken v) new (record { mark = refl; opened = refl; heads = refl }) is

wrote-leaves : (tells : Bool) (o : Option StoredExtent) (old new : StoreValue) (r : Result Did PumpFault)
    → MatchOption o ⊥ (λ stored. WritesExtent tells stored old r new) → Leaves old.transactions new.transactions
wrote-leaves tells None old new r takes = absurd takes
wrote-leaves tells (Some stored) old new (Ok said) takes =
    leaves-so old.transactions (groups.wrote_extent old.transactions) new.transactions (record {
      mark = refl;
      opened = refl;
      heads = refl;
    }) takes.steps.answer.1
wrote-leaves tells (Some stored) old new (Err why) takes = broken-leaves old.transactions new.transactions takes.steps.answer.1

turned-leaves : (stage : SlotStage) (turn : TurnState) (old new : StoreValue) (what : Did) → IsTurned stage turn old what new
    → Leaves old.transactions new.transactions
turned-leaves slots.Begun turn old new what is =
    leaves-so old.transactions old.transactions new.transactions (record { mark = refl; opened = refl; heads = refl }) is.1
turned-leaves slots.BodyWritten turn old new what is =
    leaves-so old.transactions old.transactions new.transactions (record { mark = refl; opened = refl; heads = refl }) is.1
turned-leaves slots.BodySynced turn old new what is =
    leaves-so old.transactions old.transactions new.transactions (record { mark = refl; opened = refl; heads = refl }) is.1
turned-leaves slots.GateWritten turn old new what is =
    leaves-so old.transactions (groups.published old.transactions) new.transactions (record { mark = refl; opened = refl; heads = refl }) is.1
turned-leaves slots.Opened turn old new what is = absurd is

slot-leaves : (tells : Bool) (turn : TurnState) (old new : StoreValue) (r : Result Did PumpFault) → TurnsSlot tells turn old r new
    → Leaves old.transactions new.transactions
slot-leaves tells turn old new (Ok what) turns = turned-leaves turn.stage turn old new what turns.answer
slot-leaves tells turn old new (Err why) turns = broken-leaves old.transactions new.transactions turns.answer.transactions

advance-leaves : (tells : Bool) (o : Option TurnState) (old new : StoreValue) (r : Result Did PumpFault)
    → MatchOption o ⊥ (λ turn. TurnsSlot tells turn old r new) → Leaves old.transactions new.transactions
advance-leaves tells None old new r takes = absurd takes
advance-leaves tells (Some turn) old new r takes = slot-leaves tells turn old new r takes

synced-leaves : (old new : StoreValue) (what : Did) (r : Result Did PumpFault) → Steps what (groups.at_stage stages.Stored old.transactions) old r new
    → Leaves old.transactions new.transactions
synced-leaves old new what (Ok said) does =
    leaves-so old.transactions (groups.at_stage stages.Stored old.transactions) new.transactions (record {
      mark = refl;
      opened = refl;
      heads = refl;
    }) does.answer.1
synced-leaves old new what (Err why) does = broken-leaves old.transactions new.transactions does.answer.1

step-leaves : (tells : Bool) (s : NextStep) (old new : StoreValue) (r : Result Did PumpFault) → TakesStep tells s old r new
    → Leaves old.transactions new.transactions
step-leaves tells next.Idle old new r takes =
    leaves-so old.transactions old.transactions new.transactions (record {
      mark = refl;
      opened = refl;
      heads = refl;
    }) (ap (λ (v : StoreValue). v.transactions) takes.1)
step-leaves tells next.WriteExtent old new r takes = wrote-leaves tells (groups.next_extent old.transactions) old new r takes
step-leaves tells next.SyncHeap old new r takes = synced-leaves old new _ r takes.steps
step-leaves tells next.BeginSlot old new r takes = by-job (is_some (turn_of old.job)) takes
  where
    by-job : (b : Bool) → MatchBool b ((r ≡ Err pump.Busy) × (new ≡ old)) (MayBeginSlot tells old r new) → Leaves old.transactions new.transactions
    by-job true is =
        leaves-so old.transactions old.transactions new.transactions (record {
          mark = refl;
          opened = refl;
          heads = refl;
        }) (ap (λ (v : StoreValue). v.transactions) is.1)
    by-job false (inl short) =
        leaves-so old.transactions old.transactions new.transactions (record {
          mark = refl;
          opened = refl;
          heads = refl;
        }) (ap (λ (v : StoreValue). v.transactions) short.2)
    by-job false (inr first) =
        leaves-then old.transactions (begun old).transactions new.transactions (record {
          mark = refl;
          opened = refl;
          heads = refl;
        }) (slot-leaves tells _ (begun old) new r first.turns)
step-leaves tells next.AdvanceSlot old new r takes = advance-leaves tells old.turn old new r takes

pub pump-leaves : (tells : Bool) (old new : StoreValue) (r : Result Did PumpFault) → Pumps tells old r new → Leaves old.transactions new.transactions
pump-leaves tells old new r pumps = by-failure old.transactions.failed pumps
  where
    by-failure : (b : Bool) → MatchBool b ((r ≡ Err pump.Failed) × (new ≡ old)) (TakesStep tells (groups.next_step old.transactions) (started old) r new)
        → Leaves old.transactions new.transactions
    by-failure true is =
        leaves-so old.transactions old.transactions new.transactions (record {
          mark = refl;
          opened = refl;
          heads = refl;
        }) (ap (λ (v : StoreValue). v.transactions) is.1)
    by-failure false takes =
        leaves-then old.transactions (groups.grouped old.transactions) new.transactions (grouped-leaves old.transactions)
        (step-leaves tells (groups.next_step old.transactions) (started old) new r takes)

-- What a job leaves alone of the transactions.
use Rattle.std.proofs.Common.{◌≡◌, ℕ, Bool, true, false, List, [], ◌∷◌, Some, None, Option, is_some, Result, Ok, Err, MatchBool, MatchOption, refl, ap, inl}
use Rattle.std.proofs.Common.{inr}
use Rattle.status.specs.Growth.{next_piece, grew_at}
use Rattle.status.specs.GrowthState.{GrowthState}
use Rattle.status.specs.declared.growth.Grew.{Grew}
use Rattle.status.specs.declared.growth.Grew.TheVariants as grew
use Rattle.status.specs.SlotCalls.{SlotStage}
use Rattle.status.specs.SlotCalls as slots
use Rattle.status.specs.TurnState.{TurnState}
use Rattle.group.specs.declared.answers.PumpFault.{PumpFault}
use Rattle.group.specs.declared.answers.PumpFault.TheVariants as pump
use Rattle.group.specs.Values.{TransactionsValue}
use Rattle.store.specs.Values.{StoreValue}
use Rattle.store.specs.Archives.{refusal_now, BeginsRun, StartsArchive}
use Rattle.store.specs.Reclaims.{reclaim_refusal, BeginsReclaim, StartsReclaim}
use Rattle.store.specs.Floors.{floor_refusal, BeginsFloor, StartsFloor}
use Rattle.store.specs.Growths.{refusal_to_grow, BeginsPiece, StartsGrowth}
use Rattle.store.specs.Jobs.{PumpsJob, TakesJobStep, Stores, Grows, HasGrown, WritesOrSyncs, AnchorsOrSync, BeginsJobSlot, TurnsJob, IsJobTurned, JobMoves}
use Rattle.store.specs.Jobs.{work_done, slot_opened, made_ready, first_turn, slot_taken}
use Rattle.archive.specs.Pieces.{InWriting}
use Rattle.vacuum.specs.Anchors.{Sourced}
use Rattle.wire.specs.declared.slot.Anchors.{Anchors}
use Rattle.wire.specs.declared.slot.Run.{Run as WireRun}
use Rattle.store.specs.declared.job.Job.{Job}
use Rattle.store.specs.declared.job.JobWork.{JobWork}
use Rattle.store.specs.declared.job.JobWork.TheVariants.{Archive, Reclaim, Floor, Grow}
use Rattle.store.specs.declared.job.JobStage.{JobStage}
use Rattle.store.specs.declared.job.JobStage.TheVariants as stages
use Rattle.store.specs.declared.job.JobDid.{JobDid}
use Rattle.store.specs.declared.job.JobDid.TheVariants as did
use Rattle.store.specs.declared.job.StartFault.{StartFault}
use Rattle.law_refinement.specs.Leaving.{Leaves}
use Rattle.law_refinement.proofs.Leaving.{leaves-so}

-- what is left alone is left alone by a store that is the same but for its transactions
same-leaves : (old : TransactionsValue) (so new : StoreValue) → Leaves old so.transactions → new ≡ so → Leaves old new.transactions
same-leaves old so new leaves is = leaves-so old so.transactions new.transactions leaves (ap (λ (v : StoreValue). v.transactions) is)

nothing-left : (old : StoreValue) (new : StoreValue) → new ≡ old → Leaves old.transactions new.transactions
nothing-left old new is = same-leaves old.transactions old new (record { mark = refl; opened = refl; heads = refl }) is

-- ---- the beginning

pub start-leaves : (old new : StoreValue) (upto : ℕ) (r : Result (Unit {0}) StartFault) → StartsArchive old upto r new
    → Leaves old.transactions new.transactions
start-leaves old new upto r starts = by-refusal (refusal_now old upto) starts
  where
    begins : (r : Result (Unit {0}) StartFault) → BeginsRun old upto r new → Leaves old.transactions new.transactions
    begins (Ok done) is = same-leaves old.transactions _ new (record { mark = refl; opened = refl; heads = refl }) is.2.new_is
    begins (Err why) is = nothing-left old new is.1

    by-refusal : (o : Option StartFault) → MatchOption o (BeginsRun old upto r new) (λ why. (r ≡ Err why) × (new ≡ old))
        → Leaves old.transactions new.transactions
    by-refusal None is = begins r is
    by-refusal (Some why) is = nothing-left old new is.1

pub reclaim-leaves : (old new : StoreValue) (r : Result (Unit {0}) StartFault) → StartsReclaim old r new → Leaves old.transactions new.transactions
reclaim-leaves old new r starts = by-refusal (reclaim_refusal old) starts
  where
    begins : (r : Result (Unit {0}) StartFault) → BeginsReclaim old r new → Leaves old.transactions new.transactions
    begins (Ok done) is = same-leaves old.transactions _ new (record { mark = refl; opened = refl; heads = refl }) is.1.new_is
    begins (Err why) is = nothing-left old new is.1

    by-refusal : (o : Option StartFault) → MatchOption o (BeginsReclaim old r new) (λ why. (r ≡ Err why) × (new ≡ old))
        → Leaves old.transactions new.transactions
    by-refusal None is = begins r is
    by-refusal (Some why) is = nothing-left old new is.1

pub floor-leaves : (old new : StoreValue) (scope : Option ℕ) (floor : ℕ) (r : Result (Unit {0}) StartFault) → StartsFloor old scope floor r new
    → Leaves old.transactions new.transactions
floor-leaves old new scope floor r starts = by-refusal (floor_refusal old scope floor) starts
  where
    begins : (r : Result (Unit {0}) StartFault) → BeginsFloor old scope floor r new → Leaves old.transactions new.transactions
    begins (Ok done) is = same-leaves old.transactions _ new (record { mark = refl; opened = refl; heads = refl }) is.1
    begins (Err why) is = nothing-left old new is.2

    by-refusal : (o : Option StartFault) → MatchOption o (BeginsFloor old scope floor r new) (λ why. (r ≡ Err why) × (new ≡ old))
        → Leaves old.transactions new.transactions
    by-refusal None is = begins r is
    by-refusal (Some why) is = nothing-left old new is.1

pub grow-leaves : (old new : StoreValue) (r : Result (Unit {0}) StartFault) → StartsGrowth old r new → Leaves old.transactions new.transactions
grow-leaves old new r starts = by-refusal (refusal_to_grow old) starts
  where
    by-piece : (o : Option GrowthState) → BeginsPiece old o r new → Leaves old.transactions new.transactions
    by-piece None is = nothing-left old new is.1
    by-piece (Some growth) is = same-leaves old.transactions _ new (record { mark = refl; opened = refl; heads = refl }) is.1

    by-refusal : (o : Option StartFault) → MatchOption o (BeginsPiece old (next_piece old.log) r new) (λ why. (r ≡ Err why) × (new ≡ old))
        → Leaves old.transactions new.transactions
    by-refusal None is = by-piece (next_piece old.log) is
    by-refusal (Some why) is = nothing-left old new is.1

-- ---- a step

moves-leave : (what : JobDid) (made refused : Job) (old new : StoreValue) (r : Result JobDid PumpFault) → JobMoves what made refused old r new
    → Leaves old.transactions new.transactions
moves-leave what made refused old new (Ok said) is = same-leaves old.transactions _ new (record { mark = refl; opened = refl; heads = refl }) is.1
moves-leave what made refused old new (Err why) is = same-leaves old.transactions _ new (record { mark = refl; opened = refl; heads = refl }) is.1

done-leaves : (work : JobWork) (turn : TurnState) (old new : StoreValue) → Leaves old.transactions (slot_opened (work_done work old) turn new).transactions
done-leaves (Archive run writer) turn old new = record { mark = refl; opened = refl; heads = refl }
done-leaves (Reclaim anchors source written) turn old new = record { mark = refl; opened = refl; heads = refl }
done-leaves (Floor scope floor floors) turn old new = record { mark = refl; opened = refl; heads = refl }
done-leaves (Grow growth) turn old new = record { mark = refl; opened = refl; heads = refl }

turned-leave : (stage : SlotStage) (turn : TurnState) (j : Job) (old new : StoreValue) (what : JobDid) → IsJobTurned stage turn j old what new
    → Leaves old.transactions new.transactions
turned-leave slots.Begun turn j old new what is = same-leaves old.transactions _ new (record { mark = refl; opened = refl; heads = refl }) is.1
turned-leave slots.BodyWritten turn j old new what is = same-leaves old.transactions _ new (record { mark = refl; opened = refl; heads = refl }) is.1
turned-leave slots.BodySynced turn j old new what is = same-leaves old.transactions _ new (record { mark = refl; opened = refl; heads = refl }) is.1
turned-leave slots.GateWritten turn j old new what is = same-leaves old.transactions _ new (done-leaves j.work turn old new) is.2
turned-leave slots.Opened turn j old new what is = absurd is

turn-leaves : (tells : Bool) (j : Job) (turn : TurnState) (old new : StoreValue) (r : Result JobDid PumpFault) → TurnsJob tells j turn old r new
    → Leaves old.transactions new.transactions
turn-leaves tells j turn old new (Ok what) is = turned-leave turn.stage turn j old new what is.answer
turn-leaves tells j turn old new (Err why) is = same-leaves old.transactions _ new (record { mark = refl; opened = refl; heads = refl }) is.answer.1

write-leaves : (tells : Bool) (left : List ℕ) (run : WireRun) (writer : InWriting) (j : Job) (old new : StoreValue) (r : Result JobDid PumpFault)
    → WritesOrSyncs tells left run writer j old r new → Leaves old.transactions new.transactions
write-leaves tells [] run writer j old new r is = moves-leave _ _ _ old new r is.moves
write-leaves tells (b ∷ bs) run writer j old new r is = moves-leave _ _ _ old new r is.moves

anchors-leave : (tells : Bool) (o : Option ℕ) (anchors : Anchors) (source : Sourced) (written : ℕ) (j : Job) (old new : StoreValue)
    (r : Result JobDid PumpFault) → AnchorsOrSync tells o anchors source written j old r new → Leaves old.transactions new.transactions
anchors-leave tells None anchors source written j old new r is = moves-leave _ _ _ old new r is.moves
anchors-leave tells (Some number) anchors source written j old new r is = moves-leave _ _ _ old new r is.moves

grown-leaves : (grew : Grew) (growth : GrowthState) (old new : StoreValue) (what : JobDid) → HasGrown grew growth old what new
    → Leaves old.transactions new.transactions
grown-leaves grew.WroteZeros growth old new what is = same-leaves old.transactions _ new (record { mark = refl; opened = refl; heads = refl }) is.1
grown-leaves grew.ZerosSynced growth old new what is = same-leaves old.transactions _ new (record { mark = refl; opened = refl; heads = refl }) is.1
grown-leaves grew.GateWritten growth old new what is = same-leaves old.transactions _ new (record { mark = refl; opened = refl; heads = refl }) is.1
grown-leaves grew.Grown growth old new what is = same-leaves old.transactions _ new (record { mark = refl; opened = refl; heads = refl }) is.2

grows-leave : (tells : Bool) (growth : GrowthState) (old new : StoreValue) (r : Result JobDid PumpFault) → Grows tells growth old r new
    → Leaves old.transactions new.transactions
grows-leave tells growth old new (Ok what) is = grown-leaves (grew_at growth.stage) growth old new what is.answer
grows-leave tells growth old new (Err why) is = same-leaves old.transactions _ new (record { mark = refl; opened = refl; heads = refl }) is.answer.1

stores-leave : (tells : Bool) (work : JobWork) (j : Job) (old new : StoreValue) (r : Result JobDid PumpFault) → Stores tells work j old r new
    → Leaves old.transactions new.transactions
stores-leave tells (Archive run writer) j old new r is = write-leaves tells writer.left run writer j old new r is
stores-leave tells (Reclaim anchors source written) j old new r is = anchors-leave tells _ anchors source written j old new r is
stores-leave tells (Floor scope floor floors) j old new r is = absurd is
stores-leave tells (Grow growth) j old new r is = grows-leave tells growth old new r is

begun-leaves : (tells : Bool) (work : JobWork) (j : Job) (old new : StoreValue) (r : Result JobDid PumpFault)
    → TurnsJob tells j (first_turn old j) (slot_taken (made_ready work old)) r new → Leaves old.transactions new.transactions
begun-leaves tells (Archive run writer) j old new r is = turn-leaves tells j (first_turn old j) (slot_taken old) new r is
begun-leaves tells (Reclaim anchors source written) j old new r is =
    let left = turn-leaves tells j (first_turn old j) (slot_taken (made_ready (Reclaim anchors source written) old)) new r is in
    record { mark = left.mark; opened = left.opened; heads = left.heads }
begun-leaves tells (Floor scope floor floors) j old new r is = turn-leaves tells j (first_turn old j) (slot_taken old) new r is
begun-leaves tells (Grow growth) j old new r is = turn-leaves tells j (first_turn old j) (slot_taken old) new r is

job-leaves : (tells : Bool) (s : JobStage) (j : Job) (old new : StoreValue) (r : Result JobDid PumpFault) → TakesJobStep tells s j old r new
    → Leaves old.transactions new.transactions
job-leaves tells stages.Writing j old new r is = stores-leave tells j.work j old new r is
job-leaves tells stages.Stored j old new r is = by-turn (is_some old.turn) is
  where
    by-turn : (b : Bool) → MatchBool b ((r ≡ Err pump.Busy) × (new ≡ old)) (BeginsJobSlot tells j old r new) → Leaves old.transactions new.transactions
    by-turn true busy = nothing-left old new busy.1
    by-turn false (inl short) = nothing-left old new short.2
    by-turn false (inr first) = begun-leaves tells j.work j old new r first
job-leaves tells (stages.Turning turn) j old new r is = turn-leaves tells j turn old new r is

pub pumped-leaves : (tells : Bool) (old new : StoreValue) (r : Result JobDid PumpFault) → PumpsJob tells old r new → Leaves old.transactions new.transactions
pumped-leaves tells old new r pumps = by-failure old.transactions.failed pumps
  where
    by-job : (o : Option Job) → MatchOption o ((r ≡ Ok did.Idle) × (new ≡ old)) (λ j. TakesJobStep tells j.stage j old r new)
        → Leaves old.transactions new.transactions
    by-job None is = nothing-left old new is.1
    by-job (Some j) is = job-leaves tells j.stage j old new r is

    by-failure : (b : Bool)
        → MatchBool b ((r ≡ Err pump.Failed)
        × (new ≡ old)) (MatchOption old.job ((r ≡ Ok did.Idle) × (new ≡ old)) (λ j. TakesJobStep tells j.stage j old r new))
        → Leaves old.transactions new.transactions
    by-failure true is = nothing-left old new is.1
    by-failure false is = by-job old.job is

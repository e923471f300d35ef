-- The calls of a store whose log lies in the heap, one after the other.
use Rattle.std.specs.Prelude.{ℕ, ◌≡◌, ◌<◌, ◌^◌, Bool, IsTrue, List, [], ◌∷◌, Option, Result}
use Rattle.std.specs.declared.alloc.Global.{Global}
use Rattle.std.specs.declared.vec.Vec.{Vec}
use Rattle.disk.specs.Areas.{AreSound}
use Rattle.history.specs.declared.key.Key.{Key}
use Rattle.history.specs.declared.time.Version.{Version}
use Rattle.law_image.specs.Values.{Value}
use Rattle.snapshot.specs.Txn.{TxnValue, AreTxnWrites}
use Rattle.group.specs.Tickets.{TicketValue}
use Rattle.group.specs.declared.answers.BeginFault.{BeginFault}
use Rattle.group.specs.declared.answers.PumpFault.{PumpFault}
use Rattle.group.specs.declared.answers.Redeemed.{Redeemed}
use Rattle.group.specs.declared.answers.Submitted.{Submitted}
use Rattle.group.specs.declared.answers.SubmitFault.{SubmitFault}
use Rattle.timequery.specs.View.{ViewValue}
use Rattle.timequery.specs.declared.fault.QueryFault.{QueryFault}
use Rattle.log_store.specs.Values.{LogStoreValue, IsInStep}
use Rattle.log_store.specs.Calls.{Begins, Aborts, Redeems}
use Rattle.log_store.specs.Submits.{Submits}
use Rattle.log_store.specs.Pumps.{Pumps}
use Rattle.log_store.specs.Archives.{StartsArchive}
use Rattle.log_store.specs.Reclaims.{StartsReclaim}
use Rattle.log_store.specs.Jobs.{StartsFloor, PumpsJob}
use Rattle.log_store.specs.declared.job.JobDid.{JobDid}
use Rattle.log_store.specs.declared.job.StartFault.{StartFault}
use Rattle.log_store.specs.Queries.{AnswersAtView, AnswersScanAt, AnswersRows, AnswersScanRows}
use Rattle.log_store.specs.Names.{AnswersTimes}
use Rattle.log_store.specs.declared.pump.Did.{Did}

-- a call that changes the store, whatever its answer
pub data IsCall (tells : Bool) (old new : LogStoreValue) : Type 0 where
  OfBegin : (answer : Result TxnValue BeginFault) → Begins old answer new → IsCall tells old new
  OfAbort : (txn : TxnValue) → Aborts old txn new → IsCall tells old new
  OfRedeem : (ticket : TicketValue) (answer : Redeemed) → Redeems old ticket answer new → IsCall tells old new
  OfSubmit : (txn : TxnValue) (label now : ℕ) (answer : Result Submitted SubmitFault) → AreTxnWrites txn.state txn.snapshot txn.writes → label < 2 ^ 64
      → Submits old txn label now answer new → IsCall tells old new
  OfPump : (answer : Result Did PumpFault) → (IsTrue tells → AreSound new.disk.areas) → Pumps tells old answer new → IsCall tells old new
  OfFloor : (scope : Option ℕ) (floor : ℕ) (answer : Result (Unit {0}) StartFault) → StartsFloor old scope floor answer new → IsCall tells old new
  OfArchive : (upto : ℕ) (answer : Result (Unit {0}) StartFault) → StartsArchive old upto answer new → IsCall tells old new
  OfReclaim : (answer : Result (Unit {0}) StartFault) → StartsReclaim old answer new → IsCall tells old new
  OfJob : (answer : Result JobDid PumpFault) → (IsTrue tells → AreSound new.disk.areas) → PumpsJob tells old answer new → IsCall tells old new
  OfAt : (view : ViewValue) (key : Key) (time : ℕ) (answer : Result (Option Value) QueryFault) → AnswersAtView tells old view key time answer new
      → IsCall tells old new
  OfScanAt : (view : ViewValue) (relation time : ℕ) (answer : Result (Vec (ℕ × Value) Global) QueryFault)
      → AnswersScanAt tells old view relation time answer new → IsCall tells old new
  OfBetween : (view : ViewValue) (key : Key) (a b : ℕ) (answer : Result (Vec (Version Value) Global) QueryFault)
      → AnswersRows tells old view key a b answer new → IsCall tells old new
  OfScanBetween : (view : ViewValue) (relation a b : ℕ) (answer : Result (Vec (ℕ × Version Value) Global) QueryFault)
      → AnswersScanRows tells old view relation a b answer new → IsCall tells old new
  OfTimes : (label : ℕ) (answer : Result (Vec ℕ Global) QueryFault) → AnswersTimes tells old label answer new → IsCall tells old new

-- calls lead from one store through these to another; each call is made on a store that is in step
abbrev pub LeadsTo : Bool → LogStoreValue → List LogStoreValue → LogStoreValue → Type 0
LeadsTo tells old [] new = new ≡ old
LeadsTo tells old (next ∷ rest) new = IsInStep old × IsCall tells old next × LeadsTo tells next rest new

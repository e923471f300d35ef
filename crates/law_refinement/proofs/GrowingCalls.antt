-- The calls that make no device call, of a store in which a piece of slots may be in the making.
use Rattle.std.proofs.Common.{◌≡◌, ◌⊎◌, ℕ, ◌<◌, ◌^◌, Bool, true, false, is_some, Option, Some, Result, Ok, Err, MatchBool, MatchOption, refl, sym, ap, subst}
use Rattle.std.proofs.Common.{◌∙◌, inl, inr, cond}
use Rattle.disk.specs.Calls.{DiskState}
use Rattle.history.specs.Floors.{Raising}
use Rattle.history.specs.Machine.{Machine}
use Rattle.history.specs.Answers as answers
use Rattle.history.specs.Steps.{Event, Step, Began, BeginRefused, Aborted, Decided, Refused, GroupBegan, Published, FloorStarted, FloorRefused, FloorPublished}
use Rattle.history.specs.Steps.{GateDue, GateWritten, Broke, begun}
use Rattle.law_image.specs.Values.{Value, IsValue}
use Rattle.snapshot.specs.Txn.{TxnValue, AreTxnWrites}
use Rattle.group.specs.Tickets.{TicketValue}
use Rattle.group.specs.declared.answers.BeginFault.{BeginFault}
use Rattle.group.specs.declared.answers.BeginFault.TheVariants as fault
use Rattle.group.specs.declared.answers.Redeemed.{Redeemed}
use Rattle.group.specs.declared.answers.Submitted.{Submitted}
use Rattle.group.specs.declared.answers.SubmitFault.{SubmitFault}
use Rattle.group.specs.Values.{is_own}
use Rattle.status.specs.GrowthState.{GrowthState}
use Rattle.store.specs.Calls as stores
use Rattle.store.specs.Values.{StoreValue, HasRest}
use Rattle.store.specs.Archives.{StartsArchive, BeginsRun}
use Rattle.store.specs.Reclaims.{StartsReclaim, BeginsReclaim}
use Rattle.store.specs.Floors.{StartsFloor, BeginsFloor, is_wrong_profile}
use Rattle.store.specs.declared.job.Job.{Job}
use Rattle.store.specs.declared.job.StartFault.{StartFault}
use Rattle.store.specs.declared.job.StartFault.TheVariants as start
use Rattle.law_refinement.specs.Laws.{submission_of, event_of, RedeemsAs}
use Rattle.law_refinement.specs.Stands.{Stands, StandsStill, StandsGrowing, without_growth}
use Rattle.law_refinement.specs.Calls.{BeginsTo, BeginsOn, StartsTo, StartsOn, raising_to}
use Rattle.law_refinement.proofs.Calling as calling
use Rattle.law_refinement.proofs.Whole as whole
use Rattle.law_refinement.proofs.Growing.{as-still, as-growing, by-kind, rest-without, still-growing}

-- ---- a machine that works after a step did so before it

pub step-on : (m after : Machine Value) (e : Event Value) → Step IsValue m e after → after.failed ≡ false → m.failed ≡ false
step-on m after (Began snapshot) step on = step.0
step-on m after (BeginRefused why) step on = sym (ap (λ (x : Machine Value). x.failed) step.1) ∙ on
step-on m after (Aborted snapshot) step on = sym (ap (λ (x : Machine Value). x.failed) step.2) ∙ on
step-on m after (Decided s answer) step on = step.0
step-on m after (Refused s why) step on = sym (ap (λ (x : Machine Value). x.failed) (step.1).2) ∙ on
step-on m after GroupBegan step on = step.0
step-on m after (Published size) step on = step.0
step-on m after (FloorStarted r) step on = step.0
step-on m after (FloorRefused r why) step on = step.0
step-on m after (FloorPublished r) step on = step.0
step-on m after (GateDue change) step on = step.0
step-on m after (GateWritten change) step on = step.0
step-on m after Broke step on = step.0

-- ---- the transactions alone change

module _ (tells : Bool) (growth : GrowthState) (old new : StoreValue) (m : Machine Value) (s : StandsGrowing tells growth old m) (rest : HasRest old new) where
  bare : HasRest (without_growth old s.calm) (without_growth new s.calm)
  bare = rest-without old new s.calm rest

  after-rest : (m' : Machine Value) → (m'.failed ≡ false → m.failed ≡ false) → StandsStill tells (without_growth new s.calm) m' → Stands tells new m'
  after-rest m' on still =
      as-growing tells growth new m' (still-growing tells growth old new m m' s rest.job.job rest.log (ap (λ (d : DiskState). d.areas) rest.disk) on still)

pub begin-stands : (tells : Bool) (old new : StoreValue) (answer : Result TxnValue BeginFault) (m : Machine Value) → Stands tells old m
    → stores.Begins old answer new → BeginsOn tells m answer new
begin-stands tells old new answer m stands begins =
    by-kind tells old m (BeginsOn tells m answer new) stands (λ still. of-still answer (calling.begin-stands tells old new answer m still begins)) grows
  where
    of-still : (a : Result TxnValue BeginFault) → BeginsTo (StandsStill tells) m a new → BeginsTo (Stands tells) m a new
    of-still (Ok txn) is = (is.0, as-still tells new (begun m) is.1)
    of-still (Err fault.NoMemory) is = (is.0, as-still tells new m is.1)
    of-still (Err fault.Failed) is = (is.0, as-still tells new m is.1)

    grows : (growth : GrowthState) → StandsGrowing tells growth old m → BeginsOn tells m answer new
    grows growth s =
        by-answer answer
        (calling.begin-stands tells (without_growth old s.calm) (without_growth new s.calm) answer m s.still (record {
          transactions = begins.transactions;
          rest = bare tells growth old new m s begins.rest;
        }))
      where
        by-answer : (a : Result TxnValue BeginFault) → BeginsTo (StandsStill tells) m a (without_growth new s.calm) → BeginsTo (Stands tells) m a new
        by-answer (Ok txn) is = (is.0, after-rest tells growth old new m s begins.rest (begun m) (λ on. on) is.1)
        by-answer (Err fault.NoMemory) is = (is.0, after-rest tells growth old new m s begins.rest m (λ on. on) is.1)
        by-answer (Err fault.Failed) is = (is.0, after-rest tells growth old new m s begins.rest m (λ on. on) is.1)

-- an own transaction's call is a step, and a stranger's none
own-moves : (tells : Bool) (old new : StoreValue) (m : Machine Value) (e : Event Value) (b : Bool) (S T : Machine Value → Type 0)
    → ((m' : Machine Value) → (m'.failed ≡ false → m.failed ≡ false) → S m' → T m')
    → MatchBool b ((after : Machine Value) × Step IsValue m e after × S after) (S m)
    → MatchBool b ((after : Machine Value) × Step IsValue m e after × T after) (T m)
own-moves tells old new m e true S T to is = (is.0, is.1, to is.0 (step-on m is.0 e is.1) is.2)
own-moves tells old new m e false S T to is = to m (λ on. on) is

pub abort-stands : (tells : Bool) (old new : StoreValue) (txn : TxnValue) (m : Machine Value) → Stands tells old m → stores.Aborts old txn new
    → MatchBool (is_own old.transactions txn) ((after : Machine Value) × Step IsValue m (Aborted txn.snapshot) after
    × Stands tells new after) (Stands tells new m)
abort-stands tells old new txn m stands aborts =
    by-kind tells old m (MatchBool (is_own old.transactions txn) ((after : Machine Value) × Step IsValue m (Aborted txn.snapshot) after
    × Stands tells new after) (Stands tells new m)) stands
    (λ still. own-moves tells old new m (Aborted txn.snapshot) (is_own old.transactions txn) (StandsStill tells new) (Stands tells new)
    (λ m' on is. as-still tells new m' is) (calling.abort-stands tells old new txn m still aborts))
    (λ growth s. own-moves tells old new m (Aborted txn.snapshot) (is_own old.transactions txn) (StandsStill tells (without_growth new s.calm))
    (Stands tells new) (λ m' on is. after-rest tells growth old new m s aborts.rest m' on is)
    (calling.abort-stands tells (without_growth old s.calm) (without_growth new s.calm) txn m s.still (record {
      transactions = aborts.transactions;
      rest = bare tells growth old new m s aborts.rest;
    })))

pub submit-stands : (tells : Bool) (old new : StoreValue) (txn : TxnValue) (label now : ℕ) (answer : Result Submitted SubmitFault) (m : Machine Value)
    → Stands tells old m
    → AreTxnWrites txn.state txn.snapshot txn.writes → label < 2 ^ 64 → stores.Submits old txn label now answer new
    → MatchBool (is_own old.transactions txn) ((after : Machine Value) × Step IsValue m (event_of m (submission_of txn label now) answer) after
    × Stands tells new after) (Stands tells new m)
submit-stands tells old new txn label now answer m stands are low submits =
    by-kind tells old m (MatchBool (is_own old.transactions txn) ((after : Machine Value)
    × Step IsValue m (event_of m (submission_of txn label now) answer) after × Stands tells new after) (Stands tells new m)) stands
    (λ still. own-moves tells old new m (event_of m (submission_of txn label now) answer) (is_own old.transactions txn) (StandsStill tells new)
    (Stands tells new) (λ m' on is. as-still tells new m' is)
    (calling.submit-stands tells old new txn label now answer m still are low submits))
    (λ growth s. own-moves tells old new m (event_of m (submission_of txn label now) answer) (is_own old.transactions txn)
    (StandsStill tells (without_growth new s.calm)) (Stands tells new)
    (λ m' on is. after-rest tells growth old new m s submits.rest m' on is)
    (calling.submit-stands tells (without_growth old s.calm) (without_growth new s.calm) txn label now answer m s.still are low
    (record { transactions = submits.transactions; rest = bare tells growth old new m s submits.rest })))

pub redeem-stands : (tells : Bool) (old new : StoreValue) (ticket : TicketValue) (answer : Redeemed) (m : Machine Value) → Stands tells old m
    → stores.Redeems old ticket answer new
    → RedeemsAs (answers.redeemed_by m ticket.time) answer × Stands tells new m
redeem-stands tells old new ticket answer m stands redeems =
    by-kind tells old m (RedeemsAs (answers.redeemed_by m ticket.time) answer × Stands tells new m) stands
    (λ still. let done = calling.redeem-stands tells old new ticket answer m still redeems in (done.0, as-still tells new m done.1))
    (λ growth s.
    let done =
    calling.redeem-stands tells (without_growth old s.calm) (without_growth new s.calm) ticket answer m s.still
    (record { transactions = redeems.transactions; rest = bare tells growth old new m s redeems.rest }) in
    (done.0, after-rest tells growth old new m s redeems.rest m (λ on. on) done.1))

-- ---- beside a growth no other job begins

-- the first two reasons against a job
pub bars : (P : Type 0) (failed busy : Bool) (rest : Option StartFault) (answer : Result (Unit {0}) StartFault) (old new : StoreValue) → busy ≡ true
    → MatchOption (cond failed (Some start.Failed) (cond busy (Some start.JobBusy) rest)) P (λ why. (answer ≡ Err why) × (new ≡ old))
    → (new ≡ old) × (((failed ≡ true) × (answer ≡ Err start.Failed)) ⊎ (answer ≡ Err start.JobBusy))
bars P true busy rest answer old new is said = (said.1, inl (refl, said.0))
bars P false true rest answer old new is said = (said.1, inr said.0)
bars P false false rest answer old new is said = absurd (let no : false ≡ true = is in cc)

-- the first three against a floor
pub floor-bars : (P : Type 0) (failed wrong busy : Bool) (rest : Option StartFault) (answer : Result (Unit {0}) StartFault) (old new : StoreValue) → busy ≡ true
    → MatchOption (cond failed (Some start.Failed) (cond wrong (Some start.WrongProfile) (cond busy (Some start.JobBusy) rest))) P (λ why. (answer ≡ Err why)
    × (new ≡ old))
    → (new ≡ old) × (((failed ≡ true) × (answer ≡ Err start.Failed)) ⊎ ((answer ≡ Err start.WrongProfile) ⊎ (answer ≡ Err start.JobBusy)))
floor-bars P true wrong busy rest answer old new is said = (said.1, inl (refl, said.0))
floor-bars P false true busy rest answer old new is said = (said.1, inr (inl said.0))
floor-bars P false false true rest answer old new is said = (said.1, inr (inr said.0))
floor-bars P false false false rest answer old new is said = absurd (let no : false ≡ true = is in cc)

pub busy-job : (tells : Bool) (growth : GrowthState) (v : StoreValue) (m : Machine Value) → StandsGrowing tells growth v m → is_some v.job ≡ true
busy-job tells growth v m s = ap (λ (o : Option Job). is_some o) s.job

pub kept : (tells : Bool) (old new : StoreValue) (m : Machine Value) → Stands tells old m → new ≡ old → Stands tells new m
kept tells old new m stands is = subst (λ (x : StoreValue). Stands tells x m) (sym is) stands

pub archive-start-stands : (tells : Bool) (old new : StoreValue) (upto : ℕ) (answer : Result (Unit {0}) StartFault) (m : Machine Value) → Stands tells old m
    → StartsArchive old upto answer new → Stands tells new m
archive-start-stands tells old new upto answer m stands starts =
    by-kind tells old m (Stands tells new m) stands
    (λ still. as-still tells new m (whole.archive-start-stands tells old new upto answer m still starts))
    (λ growth s. kept tells old new m stands
    (bars (BeginsRun old upto answer new) old.transactions.failed (is_some old.job) _ answer old new (busy-job tells growth old m s) starts).0)

pub reclaim-start-stands : (tells : Bool) (old new : StoreValue) (answer : Result (Unit {0}) StartFault) (m : Machine Value) → Stands tells old m
    → StartsReclaim old answer new → Stands tells new m
reclaim-start-stands tells old new answer m stands starts =
    by-kind tells old m (Stands tells new m) stands
    (λ still. as-still tells new m (whole.reclaim-start-stands tells old new answer m still starts))
    (λ growth s. kept tells old new m stands
    (bars (BeginsReclaim old answer new) old.transactions.failed (is_some old.job) _ answer old new (busy-job tells growth old m s) starts).0)

pub floor-start-stands : (tells : Bool) (old new : StoreValue) (scope : Option ℕ) (floor : ℕ) (answer : Result (Unit {0}) StartFault) (m : Machine Value)
    → Stands tells old m → StartsFloor old scope floor answer new → StartsOn tells m (raising_to scope floor) answer new
floor-start-stands tells old new scope floor answer m stands starts =
    by-kind tells old m (StartsOn tells m r answer new) stands
    (λ still. of-still answer (whole.floor-start-stands tells old new scope floor answer m still starts)) grows
  where
    r : Raising
    r = raising_to scope floor

    of-still : (a : Result (Unit {0}) StartFault) → StartsTo (StandsStill tells) m r a new → StartsTo (Stands tells) m r a new
    of-still (Ok done) is = (is.0, as-still tells new _ is.1)
    of-still (Err start.NothingToDo) is = (is.0, as-still tells new m is.1)
    of-still (Err (start.NotYet time)) is = (is.0, as-still tells new m is.1)
    of-still (Err (start.InUse snapshot)) is = (is.0, as-still tells new m is.1)
    of-still (Err start.Failed) is = (is.0, as-still tells new m is.1)
    of-still (Err start.WrongProfile) is = as-still tells new m is
    of-still (Err start.JobBusy) is = as-still tells new m is
    of-still (Err start.StatusFull) is = as-still tells new m is
    of-still (Err start.ArchiveFull) is = absurd is
    of-still (Err start.HeapFull) is = absurd is
    of-still (Err start.NoMemory) is = (is.0, as-still tells new m is.1)
    of-still (Err start.NotGrowable) is = absurd is

    grows : (growth : GrowthState) → StandsGrowing tells growth old m → StartsOn tells m r answer new
    grows growth s =
        by-reason (floor-bars (BeginsFloor old scope floor answer new) old.transactions.failed (is_wrong_profile old.log.profile scope) (is_some old.job) _
        answer old new (busy-job tells growth old m s) starts)
      where
        by-reason : (new ≡ old)
            × (((old.transactions.failed ≡ true) × (answer ≡ Err start.Failed)) ⊎ ((answer ≡ Err start.WrongProfile) ⊎ (answer ≡ Err start.JobBusy)))
            → StartsOn tells m r answer new
        by-reason said = elim said.1 [
          | inl failed ↦ subst (λ (a : Result (Unit {0}) StartFault). StartsOn tells m r a new) (sym failed.1) (
            sym stands.memory.failed ∙ failed.0,
            kept tells old new m stands said.0,
          )
          | inr other ↦ elim other [
            | inl wrong ↦ subst (λ (a : Result (Unit {0}) StartFault). StartsOn tells m r a new) (sym wrong) (kept tells old new m stands said.0)
            | inr busy ↦ subst (λ (a : Result (Unit {0}) StartFault). StartsOn tells m r a new) (sym busy) (kept tells old new m stands said.0)
          ]
        ]

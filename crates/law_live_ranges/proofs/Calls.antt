-- The calls that ask nothing of the disk.
use Rattle.std.proofs.Common.{◌≡◌, ℕ, ◌==◌, List, Bool, true, false, cond, Option, Some, None, Result, Ok, Err, MatchBool, MatchOption, refl, sym, ap, subst}
use Rattle.std.proofs.Common.{◌∙◌, arith}
use Rattle.std.specs.List.{AllByRecursion, flat_map}
use Rattle.disk.specs.Areas.{Areas, area_of}
use Rattle.disk.specs.Calls.{DiskState}
use Rattle.extents.specs.declared.usage.Usage.TheVariants.{Out, Free}
use Rattle.extents.specs.Usages.{IsKept, IsOut, with_usages}
use Rattle.group.specs.Taking.{AreLeastFree}
use Rattle.group.specs.Queued.{numbers_of}
use Rattle.timequery.specs.Faults.{after_query}
use Rattle.timequery.specs.View.{ViewValue}
use Rattle.timequery.specs.declared.fault.QueryFault.{QueryFault}
use Rattle.timequery.specs.declared.fault.QueryFault.TheVariants as query
use Rattle.history.specs.Histories.{History}
use Rattle.law_image.specs.Values.{Value}
use Rattle.group.specs.CommitOrder as orders
use Rattle.group.specs.Tickets.{TicketValue}
use Rattle.group.specs.declared.commit_order.TicketState.{TicketState}
use Rattle.group.specs.declared.commit_order.TicketState.TheVariants as ticket_state
use Rattle.group.specs.declared.answers.BeginFault.{BeginFault}
use Rattle.group.specs.declared.answers.BeginFault.TheVariants as begin
use Rattle.group.specs.declared.answers.Submitted.{Submitted}
use Rattle.group.specs.declared.answers.Submitted.TheVariants.{ReadOnly, Queued}
use Rattle.group.specs.declared.answers.SubmitFault.{SubmitFault}
use Rattle.group.specs.declared.answers.SubmitFault.TheVariants as submit_fault
use Rattle.group.specs.declared.answers.Redeemed.{Redeemed}
use Rattle.group.specs.declared.answers.Redeemed.TheVariants as answers
use Rattle.snapshot.specs.Txn.{TxnValue}
use Rattle.group.specs.Values.{TransactionsValue, is_own, over}
use Rattle.group.specs.Calls as calls
use Rattle.group.specs.Submits as submits
use Rattle.status.specs.TurnState.{LogState}
use Rattle.store.specs.Values.{StoreValue, HasRest}
use Rattle.store.specs.Calls as asking
use Rattle.store.specs.Calls.{Begins, Aborts, Submits, Redeems, Finds, OrStranger}
use Rattle.store.specs.Archives.{StartsArchive, BeginsRun, refusal_now, with_archive}
use Rattle.store.specs.Reclaims.{StartsReclaim, BeginsReclaim, reclaim_refusal, with_reclaim}
use Rattle.store.specs.Floors.{BeginsFloor, StartsFloor, floor_refusal, with_floor}
use Rattle.store.specs.Growths.{StartsGrowth, BeginsPiece, refusal_to_grow}
use Rattle.store.specs.Jobs.{growing}
use Rattle.status.specs.Growth.{next_piece}
use Rattle.status.specs.GrowthState.{GrowthState}
use Rattle.store.specs.declared.job.StartFault.{StartFault}
use Rattle.law_live_ranges.specs.Named.{WritesBehind, IsTyped}
use Rattle.law_live_ranges.proofs.Places.{same_left}
use Rattle.law_live_ranges.proofs.Naming.{LeavesAll, named_by, kept_same, kept_taken, disk_stays, leaves_itself, behind_by, behind_kept, kept_beside, others_of}
use Rattle.law_live_ranges.proofs.Naming.{all_back}

-- what was kept is kept
abbrev KeepsKept : TransactionsValue → TransactionsValue → Type 0
KeepsKept old new = (n : ℕ) → IsKept old.usages n → IsKept new.usages n

of_same : (old new : TransactionsValue) → new.usages ≡ old.usages → KeepsKept old new
of_same old new same n kept = kept_same old.usages new.usages same n kept

-- a call that keeps the rest
rests : (tells : Bool) (old new : StoreValue) → KeepsKept old.transactions new.transactions → HasRest old new → WritesBehind old → LeavesAll tells old new
    × WritesBehind new
rests tells old new kept rest behind = (
  disk_stays tells old new
      (named_by old new kept (omega (arith, ap (λ (l : LogState). l.used) rest.log)) (omega (arith, ap (λ (l : LogState). l.pieces) rest.log)) (omega (
        arith,
        (rest.job).runs_end,
      ))) rest.disk,
  behind_kept old new rest.job behind,
)

begins_same : (old : TransactionsValue) (answer : Result TxnValue BeginFault) (new : TransactionsValue) → calls.Begins old answer new → new.usages ≡ old.usages
begins_same old (Ok txn) new begins = ap (λ (t : TransactionsValue). t.usages) begins.new_is
begins_same old (Err begin.NoMemory) new begins = ap (λ (t : TransactionsValue). t.usages) begins.1
begins_same old (Err begin.Failed) new begins = ap (λ (t : TransactionsValue). t.usages) begins.1

pub began : (tells : Bool) (old new : StoreValue) (answer : Result TxnValue BeginFault) → Begins old answer new → WritesBehind old → LeavesAll tells old new
    × WritesBehind new
began tells old new answer begins behind =
    rests tells old new (of_same old.transactions new.transactions (begins_same old.transactions answer new.transactions begins.transactions)) begins.rest
    behind

aborts_same : (old : TransactionsValue) (txn : TxnValue) (new : TransactionsValue) → calls.Aborts old txn new → new.usages ≡ old.usages
aborts_same old txn new aborts =
    ap (λ (t : TransactionsValue). t.usages) aborts
    ∙ (elim (is_own old txn) as (λ b. (cond b (over old txn.number) old).usages ≡ old.usages) [ true ↦ refl | false ↦ refl ])

pub aborted : (tells : Bool) (old new : StoreValue) (txn : TxnValue) → Aborts old txn new → WritesBehind old → LeavesAll tells old new × WritesBehind new
aborted tells old new txn aborts behind =
    rests tells old new (of_same old.transactions new.transactions (aborts_same old.transactions txn new.transactions aborts.transactions)) aborts.rest behind

ticket_same : (old : TransactionsValue) (ticket : TicketValue) (at : TicketState) (answer : Redeemed) (new : TransactionsValue)
    → calls.AnswersTicket old ticket at answer new → new.usages ≡ old.usages
ticket_same old ticket ticket_state.Unknown answer new is = ap (λ (t : TransactionsValue). t.usages) is.1
ticket_same old ticket ticket_state.Published answer new is = ap (λ (t : TransactionsValue). t.usages) is.1
ticket_same old ticket ticket_state.Waiting answer new is = ap (λ (t : TransactionsValue). t.usages) is.1

pub redeemed : (tells : Bool) (old new : StoreValue) (ticket : TicketValue) (answer : Redeemed) → Redeems old ticket answer new → WritesBehind old
    → LeavesAll tells old new × WritesBehind new
redeemed tells old new ticket answer redeems behind =
    rests tells old new (of_same old.transactions new.transactions (by_mark (ticket.mark == old.transactions.mark) redeems.transactions)) redeems.rest behind
  where
    by_mark : (b : Bool) → MatchBool b
        (calls.AnswersTicket old.transactions ticket (orders.state_of_ticket ticket.time (calls.order_of old.transactions)) answer new.transactions) ((answer
        ≡ answers.Stranger) × (new.transactions ≡ old.transactions)) → new.transactions.usages ≡ old.transactions.usages
    by_mark true is = ticket_same old.transactions ticket (orders.state_of_ticket ticket.time (calls.order_of old.transactions)) answer new.transactions is
    by_mark false is = ap (λ (t : TransactionsValue). t.usages) is.1

submit_keeps : (v : TransactionsValue) (txn : TxnValue) (label now : ℕ) (answer : Result Submitted SubmitFault) (new : TransactionsValue)
    → submits.AnswersSubmit v txn label now answer new → KeepsKept v new
submit_keeps v txn label now (Ok (ReadOnly snapshot)) new is = of_same v new (ap (λ (t : TransactionsValue). t.usages) is.2)
submit_keeps v txn label now (Ok (Queued ticket)) new is = λ n kept.
    kept_same _ new.usages (ap (λ (t : TransactionsValue). t.usages) (is.2).new_is) n (kept_taken v.usages (is.2).numbers n (is.2).least kept)
submit_keeps v txn label now (Err fault) new is = of_same v new (ap (λ (t : TransactionsValue). t.usages) is.1)

own_keeps : (b : Bool) (v : TransactionsValue) (txn : TxnValue) (label now : ℕ) (answer : Result Submitted SubmitFault) (new : TransactionsValue)
    → MatchBool b ((answer ≡ Err submit_fault.Failed) × (new ≡ v)) (submits.AnswersSubmit v txn label now answer new) → KeepsKept v new
own_keeps true v txn label now answer new is = of_same v new (ap (λ (t : TransactionsValue). t.usages) is.1)
own_keeps false v txn label now answer new is = submit_keeps v txn label now answer new is

any_keeps : (b : Bool) (v : TransactionsValue) (txn : TxnValue) (label now : ℕ) (answer : Result Submitted SubmitFault) (new : TransactionsValue)
    → MatchBool b (submits.SubmitsOwn (over v txn.number) txn label now answer new) ((answer ≡ Err submit_fault.Stranger) × (new ≡ v)) → KeepsKept v new
any_keeps true v txn label now answer new is = own_keeps v.failed (over v txn.number) txn label now answer new is
any_keeps false v txn label now answer new is = of_same v new (ap (λ (t : TransactionsValue). t.usages) is.1)

pub submitted : (tells : Bool) (old new : StoreValue) (txn : TxnValue) (label now : ℕ) (answer : Result Submitted SubmitFault)
    → Submits old txn label now answer new → WritesBehind old → LeavesAll tells old new × WritesBehind new
submitted tells old new txn label now answer submits behind =
    rests tells old new (any_keeps (is_own old.transactions txn) old.transactions txn label now answer new.transactions submits.transactions) submits.rest
    behind

-- ---- an archive begins

begins_run : (tells : Bool) (old new : StoreValue) (upto : ℕ) (answer : Result (Unit {0}) StartFault) → BeginsRun old upto answer new → WritesBehind old
    → LeavesAll tells old new × WritesBehind new
begins_run tells old new upto (Ok done) is behind = (
  disk_stays tells old new
      (named_by old new (kept_same old.transactions.usages new.transactions.usages (ap (λ (v : StoreValue). v.transactions.usages) is.2.new_is))
      (omega (arith, ap (λ (v : StoreValue). v.log.used) is.2.new_is)) (omega (arith, ap (λ (v : StoreValue). v.log.pieces) is.2.new_is)) (omega (
        arith,
        ap (λ (v : StoreValue). v.runs_end) is.2.new_is,
      )))
      (ap (λ (v : StoreValue). v.disk) is.2.new_is),
  behind_by new (with_archive old upto is.2.entry).job old.runs_end (ap (λ (v : StoreValue). v.job) is.2.new_is)
      (ap (λ (v : StoreValue). v.runs_end) is.2.new_is) (omega arith, omega arith),
)
begins_run tells old new upto (Err why) is behind = (
  leaves_itself tells old new is.1,
  behind_by new old.job old.runs_end (ap (λ (v : StoreValue). v.job) is.1) (ap (λ (v : StoreValue). v.runs_end) is.1) behind,
)

pub archiving : (tells : Bool) (old new : StoreValue) (upto : ℕ) (answer : Result (Unit {0}) StartFault) → StartsArchive old upto answer new → WritesBehind old
    → LeavesAll tells old new × WritesBehind new
archiving tells old new upto answer starts behind = by_refusal (refusal_now old upto) starts
  where
    by_refusal : (o : Option StartFault) → MatchOption o (BeginsRun old upto answer new) (λ why. (answer ≡ Err why) × (new ≡ old)) → LeavesAll tells old new
        × WritesBehind new
    by_refusal None is = begins_run tells old new upto answer is behind
    by_refusal (Some why) is = (
      leaves_itself tells old new is.1,
      behind_by new old.job old.runs_end (ap (λ (v : StoreValue). v.job) is.1) (ap (λ (v : StoreValue). v.runs_end) is.1) behind,
    )

-- ---- a reclaim begins

-- others are taken for it, and those that were out for one before are free
kept_reserved : (v : TransactionsValue) (numbers : List ℕ) (n : ℕ) → AllByRecursion (IsOut v.usages) v.reserved → AreLeastFree v.usages numbers
    → IsKept v.usages n → IsKept (with_usages (with_usages v.usages numbers Out) v.reserved Free) n
kept_reserved v numbers n out least kept =
    kept_beside (with_usages v.usages numbers Out) v.reserved Free n (others_of v.usages v.reserved n out kept) (kept_taken v.usages numbers n least kept)

begins_reclaim : (tells : Bool) (old new : StoreValue) (answer : Result (Unit {0}) StartFault) → BeginsReclaim old answer new
    → AllByRecursion (IsOut old.transactions.usages) old.transactions.reserved → WritesBehind old → LeavesAll tells old new × WritesBehind new
begins_reclaim tells old new (Ok done) is out behind =
    let new_is = (is.1).new_is in (
      disk_stays tells old new
          (named_by old new (λ n kept. kept_same _ new.transactions.usages (ap (λ (v : StoreValue). v.transactions.usages) new_is) n
          (kept_reserved old.transactions (is.1).numbers n out (is.1).least kept))
          (omega (arith, ap (λ (v : StoreValue). v.log.used) new_is)) (omega (arith, ap (λ (v : StoreValue). v.log.pieces) new_is)) (omega (
            arith,
            ap (λ (v : StoreValue). v.runs_end) new_is,
          )))
          (ap (λ (v : StoreValue). v.disk) new_is),
      behind_by new (with_reclaim old (is.1).numbers).job old.runs_end (ap (λ (v : StoreValue). v.job) new_is) (ap (λ (v : StoreValue). v.runs_end) new_is) tt,
    )
begins_reclaim tells old new (Err why) is out behind = (
  leaves_itself tells old new is.1,
  behind_by new old.job old.runs_end (ap (λ (v : StoreValue). v.job) is.1) (ap (λ (v : StoreValue). v.runs_end) is.1) behind,
)

pub reclaiming : (tells : Bool) (old new : StoreValue) (answer : Result (Unit {0}) StartFault) → StartsReclaim old answer new → IsTyped tells old
    → WritesBehind old → LeavesAll tells old new × WritesBehind new
reclaiming tells old new answer starts typed behind = by_refusal (reclaim_refusal old) starts
  where
    by_refusal : (o : Option StartFault) → MatchOption o (BeginsReclaim old answer new) (λ why. (answer ≡ Err why) × (new ≡ old)) → LeavesAll tells old new
        × WritesBehind new
    by_refusal None is =
        begins_reclaim tells old new answer is
        (all_back (IsOut old.transactions.usages) (flat_map numbers_of old.transactions.queue) old.transactions.reserved ((typed.order).out).each) behind
    by_refusal (Some why) is = (
      leaves_itself tells old new is.1,
      behind_by new old.job old.runs_end (ap (λ (v : StoreValue). v.job) is.1) (ap (λ (v : StoreValue). v.runs_end) is.1) behind,
    )

-- ---- a floor begins

pub raising_floor : (tells : Bool) (old new : StoreValue) (scope : Option ℕ) (time : ℕ) (answer : Result (Unit {0}) StartFault)
    → StartsFloor old scope time answer new → WritesBehind old → LeavesAll tells old new × WritesBehind new
raising_floor tells old new scope time answer starts behind = by_refusal (floor_refusal old scope time) starts
  where
    nothing : new ≡ old → LeavesAll tells old new × WritesBehind new
    nothing is =
        (leaves_itself tells old new is, behind_by new old.job old.runs_end (ap (λ (v : StoreValue). v.job) is) (ap (λ (v : StoreValue). v.runs_end) is) behind)

    begun : (said : Result (Unit {0}) StartFault) → BeginsFloor old scope time said new → LeavesAll tells old new × WritesBehind new
    begun (Ok done) is = (
      disk_stays tells old new
          (named_by old new (kept_same old.transactions.usages new.transactions.usages (ap (λ (v : StoreValue). v.transactions.usages) is.1))
          (omega (arith, ap (λ (v : StoreValue). v.log.used) is.1)) (omega (arith, ap (λ (v : StoreValue). v.log.pieces) is.1)) (omega (
            arith,
            ap (λ (v : StoreValue). v.runs_end) is.1,
          )))
          (ap (λ (v : StoreValue). v.disk) is.1),
      behind_by new (with_floor old scope time).job old.runs_end (ap (λ (v : StoreValue). v.job) is.1) (ap (λ (v : StoreValue). v.runs_end) is.1) tt,
    )
    begun (Err why) is = nothing is.2

    by_refusal : (o : Option StartFault) → MatchOption o (BeginsFloor old scope time answer new) (λ why. (answer ≡ Err why) × (new ≡ old))
        → LeavesAll tells old new × WritesBehind new
    by_refusal None is = begun answer is
    by_refusal (Some why) is = nothing is.1

-- ---- a growth begins

pub starting_growth : (tells : Bool) (old new : StoreValue) (answer : Result (Unit {0}) StartFault) → StartsGrowth old answer new → WritesBehind old
    → LeavesAll tells old new × WritesBehind new
starting_growth tells old new answer starts behind = by_refusal (refusal_to_grow old) starts
  where
    same : new ≡ old → LeavesAll tells old new × WritesBehind new
    same is = (leaves_itself tells old new is, subst WritesBehind (sym is) behind)

    by_piece : (o : Option GrowthState) → BeginsPiece old o answer new → LeavesAll tells old new × WritesBehind new
    by_piece None is = same is.1
    by_piece (Some growth) is = (
      disk_stays tells old new
          (named_by old new (kept_same old.transactions.usages new.transactions.usages (ap (λ (v : StoreValue). v.transactions.usages) is.1))
          (omega (arith, ap (λ (v : StoreValue). v.log.used) is.1)) (omega (arith, ap (λ (v : StoreValue). v.log.pieces) is.1)) (omega (
            arith,
            ap (λ (v : StoreValue). v.runs_end) is.1,
          )))
          (ap (λ (v : StoreValue). v.disk) is.1),
      behind_by new (Some (growing growth)) old.runs_end (ap (λ (v : StoreValue). v.job) is.1) (ap (λ (v : StoreValue). v.runs_end) is.1) tt,
    )

    by_refusal : (o : Option StartFault) → MatchOption o (BeginsPiece old (next_piece old.log) answer new) (λ why. (answer ≡ Err why) × (new ≡ old))
        → LeavesAll tells old new × WritesBehind new
    by_refusal None is = by_piece (next_piece old.log) is
    by_refusal (Some why) is = same is.1

-- ---- queries

after_areas : {T : Type 0} (answer : Result T QueryFault) (disk : DiskState) → (after_query answer disk).areas ≡ disk.areas
after_areas (Ok found) disk = refl
after_areas (Err query.Device) disk = refl
after_areas (Err (query.BeforeKept floor)) disk = refl
after_areas (Err (query.NotYet late)) disk = refl
after_areas (Err query.EmptyInterval) disk = refl
after_areas (Err query.NoMemory) disk = refl
after_areas (Err (query.Damaged start)) disk = refl
after_areas (Err query.NeedsDisk) disk = refl
after_areas (Err query.Stranger) disk = refl

-- a query writes nothing, and changes nothing of the log
pub asked : {T : Type 0} (tells : Bool) (old new : StoreValue) (view : ViewValue) (from : ℕ) (Refuses : QueryFault → Type 0) (Recent : T
    → Type 0) (OfHistory : History Value → T → Type 0) (Exact : Result T QueryFault → Type 0) (answer : Result T QueryFault)
    → OrStranger old view (Finds tells old view from Refuses Recent OfHistory Exact) answer new → WritesBehind old → LeavesAll tells old new × WritesBehind new
asked tells old new view from Refuses Recent OfHistory Exact answer says behind = by_own (asking.is_own old view) says
  where
    by_own : (b : Bool) → MatchBool b (Finds tells old view from Refuses Recent OfHistory Exact answer new) ((answer ≡ Err query.Stranger) × (new ≡ old))
        → LeavesAll tells old new × WritesBehind new
    by_own true finds =
        let new_is = (finds.asks).new_is in (
          record {
            left = λ told area k is. same_left k (area_of old.disk.areas area) (area_of new.disk.areas area)
                (ap (λ (v : StoreValue). area_of v.disk.areas area) new_is ∙ ap (λ (areas : Areas). area_of areas area) (after_areas answer old.disk));
            named = named_by old new (kept_same old.transactions.usages new.transactions.usages (ap (λ (v : StoreValue). v.transactions.usages) new_is))
                (omega (arith, ap (λ (v : StoreValue). v.log.used) new_is)) (omega (arith, ap (λ (v : StoreValue). v.log.pieces) new_is)) (omega (
                  arith,
                  ap (λ (v : StoreValue). v.runs_end) new_is,
                ));
          },
          behind_by new old.job old.runs_end (ap (λ (v : StoreValue). v.job) new_is) (ap (λ (v : StoreValue). v.runs_end) new_is) behind,
        )
    by_own false strange = (leaves_itself tells old new strange.1, subst WritesBehind (sym strange.1) behind)

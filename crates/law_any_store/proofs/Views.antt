-- Views, in either layout.
use Rattle.std.proofs.Common.{◌≡◌, ◌⊎◌, ℕ, Bool, true, false, cond, Option, Result, Ok, Err, ap, sym, subst, inl, inr}
use Rattle.std.specs.Prelude.{MatchBool}
use Rattle.std.specs.declared.alloc.Global.{Global}
use Rattle.std.specs.declared.vec.Vec.{Vec}
use Rattle.disk.specs.Calls.{DiskState}
use Rattle.history.specs.declared.key.Key.{Key}
use Rattle.history.specs.declared.time.Version.{Version}
use Rattle.history.specs.Answers as answers
use Rattle.history.specs.Histories.{History}
use Rattle.history.specs.Machine.{Machine}
use Rattle.law_image.specs.Values.{Value}
use Rattle.snapshot.specs.Txn.{TxnValue}
use Rattle.timequery.specs.Archives.{ArchiveValue}
use Rattle.timequery.specs.Asked.{Finds, OrStranger, is_own}
use Rattle.timequery.specs.Faults.{after_query}
use Rattle.timequery.specs.View.{ViewValue}
use Rattle.timequery.specs.declared.fault.QueryFault.{QueryFault}
use Rattle.timequery.specs.declared.fault.QueryFault.TheVariants as query
use Rattle.group.specs.Calls as slot_memory
use Rattle.group.specs.Tickets.{TicketValue}
use Rattle.group.specs.Values.{TransactionsValue}
use Rattle.group.specs.Values as slot_groups
use Rattle.group.specs.declared.answers.BeginFault.{BeginFault}
use Rattle.group.specs.declared.answers.BeginFault.TheVariants as fault
use Rattle.group.specs.declared.answers.PumpFault.{PumpFault}
use Rattle.group.specs.declared.answers.Redeemed.{Redeemed}
use Rattle.group.specs.declared.answers.Redeemed.TheVariants as redeemed
use Rattle.group.specs.declared.answers.Submitted.{Submitted}
use Rattle.group.specs.declared.answers.Submitted.TheVariants as submitted
use Rattle.group.specs.declared.answers.SubmitFault.{SubmitFault}
use Rattle.group.specs.declared.answers.SubmitFault.TheVariants as refused
use Rattle.commits.specs.Values.{CommitsValue, over}
use Rattle.commits.specs.Values as commits
use Rattle.store.specs.Calls as slot_queries
use Rattle.store.specs.Values as slot_values
use Rattle.store.specs.declared.job.StartFault.{StartFault}
use Rattle.log_store.specs.Jobs as log_jobs
use Rattle.log_store.specs.Queries.{in_log_store}
use Rattle.log_store.specs.Values.{LogStoreValue, IsInStep}
use Rattle.log_store.specs.declared.job.JobDid as log_did
use Rattle.any_store.specs.declared.engine.Engine.TheVariants.{Slots, Log}
use Rattle.any_store.specs.declared.steps.Did.{Did}
use Rattle.any_store.specs.declared.steps.JobDid.{JobDid}
use Rattle.any_store.specs.Values.{StoreValue, commits_in}
use Rattle.any_store.specs.Calls as stores
use Rattle.any_store.specs.Jobs.{StartsArchive, StartsReclaim, StartsFloor, StartsGrowth, PumpsJob}
use Rattle.any_store.specs.Queries as queries
use Rattle.law_refinement.specs.Homes.{IsSure, ViewStands}
use Rattle.law_refinement.specs.Laws.{SaysAt, SaysBetween, SaysScanAt, SaysScanBetween}
use Rattle.law_refinement.specs.Stands as slots
use Rattle.law_refinement.proofs.GrowingViews as slot_asked
use Rattle.law_refinement.proofs.Views as slot_views
use Rattle.law_refinement.proofs.Whole.{rest-goes}
use Rattle.law_log_store.proofs.Calls.{begin-alone, abort-alone, redeem-alone}
use Rattle.law_log_queries.specs.Archive as logs
use Rattle.law_log_queries.proofs.Adding.{added-goes}
use Rattle.law_log_queries.proofs.Asking as log_asked
use Rattle.law_log_queries.proofs.Calls.{base-past, run-past}
use Rattle.law_log_queries.proofs.Leaving.{alone-leaves, leaves-goes, leaves-same}
use Rattle.law_log_queries.proofs.Leaving as log_leaves
use Rattle.law_log_queries.proofs.Views as log_views
use Rattle.law_any_store.specs.Leaving.{LeftBySubmit, LeftByRedeem}
use Rattle.law_any_store.specs.Standing.{Stands, ViewReads, GoesOn}
use Rattle.law_any_store.specs.Views.{IsKept}
use Rattle.law_any_store.proofs.Leaving.{submit-leaves, redeem-leaves}

pub view-of-history : (tells : Bool) (v : StoreValue) (view : ViewValue) (m : Machine Value) → Stands tells v m → queries.IsViewOf v view
    → ViewStands view m.published m.floors × ViewReads tells v view m.published m.floors
view-of-history tells (Slots s) view m is of = slot_views.view-of-history tells s view m is of
view-of-history tells (Log l) view m is of = log_views.view-of-history tells l view m is.1 of

pub view-goes-on : (tells : Bool) (old new : StoreValue) (view : ViewValue) (h : History Value) (floors : ℕ → ℕ) → ViewReads tells old view h floors
    → GoesOn tells old new → ViewReads tells new view h floors
view-goes-on tells (Slots s) (Slots s') view h floors reads goes = slot_views.view-goes-on tells s s' view h floors reads goes
view-goes-on tells (Slots s) (Log l') view h floors reads goes = absurd goes
view-goes-on tells (Log l) (Slots s') view h floors reads goes = absurd goes
view-goes-on tells (Log l) (Log l') view h floors reads goes = log_views.view-goes-on tells l l' view h floors reads goes

pub at-answered : (tells : Bool) (v new : StoreValue) (m : Machine Value) (view : ViewValue) (h : History Value) (floors : ℕ
    → ℕ) (key : Key) (time : ℕ) (answer : Result (Option Value) QueryFault)
    → Stands tells v m → ViewStands view h floors → ViewReads tells v view h floors → queries.AnswersAtView tells v view key time answer new
    → SaysAt (IsSure tells view.reclaimed time) (answers.at_answer h floors key time) answer
at-answered tells (Slots s) (Slots s') m view h floors key time answer is stands reads asks =
    slot_views.at-answered tells s s' m view h floors key time answer is stands reads asks
at-answered tells (Slots s) (Log l') m view h floors key time answer is stands reads asks = absurd asks
at-answered tells (Log l) (Slots s') m view h floors key time answer is stands reads asks = absurd asks
at-answered tells (Log l) (Log l') m view h floors key time answer is stands reads asks =
    log_views.at-answered tells l l' m view h floors is.1 stands reads key time answer asks

pub scan_at-answered : (tells : Bool) (v new : StoreValue) (m : Machine Value) (view : ViewValue) (h : History Value) (floors : ℕ
    → ℕ) (relation time : ℕ) (answer : Result (Vec (ℕ × Value) Global) QueryFault)
    → Stands tells v m → ViewStands view h floors → ViewReads tells v view h floors → queries.AnswersScanAt tells v view relation time answer new
    → SaysScanAt (IsSure tells view.reclaimed time) h floors relation time answer
scan_at-answered tells (Slots s) (Slots s') m view h floors relation time answer is stands reads asks =
    slot_views.scan_at-answered tells s s' m view h floors relation time answer is stands reads asks
scan_at-answered tells (Slots s) (Log l') m view h floors relation time answer is stands reads asks = absurd asks
scan_at-answered tells (Log l) (Slots s') m view h floors relation time answer is stands reads asks = absurd asks
scan_at-answered tells (Log l) (Log l') m view h floors relation time answer is stands reads asks =
    log_views.scan_at-answered tells l l' m view h floors is.1 stands reads relation time answer asks

pub between-answered : (tells : Bool) (v new : StoreValue) (m : Machine Value) (view : ViewValue) (h : History Value) (floors : ℕ
    → ℕ) (key : Key) (a b : ℕ) (answer : Result (Vec (Version Value) Global) QueryFault)
    → Stands tells v m → ViewStands view h floors → ViewReads tells v view h floors → queries.AnswersRows tells v view key a b answer new
    → SaysBetween (IsSure tells view.reclaimed a) h floors key a b answer
between-answered tells (Slots s) (Slots s') m view h floors key a b answer is stands reads asks =
    slot_views.between-answered tells s s' m view h floors key a b answer is stands reads asks
between-answered tells (Slots s) (Log l') m view h floors key a b answer is stands reads asks = absurd asks
between-answered tells (Log l) (Slots s') m view h floors key a b answer is stands reads asks = absurd asks
between-answered tells (Log l) (Log l') m view h floors key a b answer is stands reads asks =
    log_views.between-answered tells l l' m view h floors is.1 stands reads key a b answer asks

pub scan_between-answered : (tells : Bool) (v new : StoreValue) (m : Machine Value) (view : ViewValue) (h : History Value) (floors : ℕ
    → ℕ) (relation a b : ℕ) (answer : Result (Vec (ℕ × Version Value) Global) QueryFault)
    → Stands tells v m → ViewStands view h floors → ViewReads tells v view h floors → queries.AnswersScanRows tells v view relation a b answer new
    → SaysScanBetween (IsSure tells view.reclaimed a) h floors relation a b answer
scan_between-answered tells (Slots s) (Slots s') m view h floors relation a b answer is stands reads asks =
    slot_views.scan_between-answered tells s s' m view h floors relation a b answer is stands reads asks
scan_between-answered tells (Slots s) (Log l') m view h floors relation a b answer is stands reads asks = absurd asks
scan_between-answered tells (Log l) (Slots s') m view h floors relation a b answer is stands reads asks = absurd asks
scan_between-answered tells (Log l) (Log l') m view h floors relation a b answer is stands reads asks =
    log_views.scan_between-answered tells l l' m view h floors is.1 stands reads relation a b answer asks

-- ---- what a query leaves

slots-asked : {T : Type 0} (tells : Bool) (s s' : slot_values.StoreValue) (m : Machine Value) (view : ViewValue) (from : ℕ) (Refuses : QueryFault
    → Type 0) (Recent : T → Type 0) (OfHistory : History Value → T → Type 0) (Exact : Result T QueryFault → Type 0) (answer : Result T QueryFault)
    → slots.Stands tells s m
    → slot_queries.OrStranger s view (slot_queries.Finds tells s view from Refuses Recent OfHistory Exact) answer s' → IsKept tells (Slots s) (Slots s') m
slots-asked tells s s' m view from Refuses Recent OfHistory Exact answer is says =
    let done = slot_asked.query-stands tells s s' m view from Refuses Recent OfHistory Exact answer is says in
    record { stands = done.0; goes = done.1; commits = by-own (slot_queries.is_own s view) says }
  where
    by-own : (b : Bool)
        → MatchBool b (slot_queries.Finds tells s view from Refuses Recent OfHistory Exact answer s') ((answer ≡ Err query.Stranger) × (s' ≡ s))
        → commits_in s'.transactions ≡ commits_in s.transactions
    by-own true finds = ap (λ (x : slot_values.StoreValue). commits_in x.transactions) finds.asks.new_is
    by-own false strange = ap (λ (x : slot_values.StoreValue). commits_in x.transactions) strange.1

-- what a query changes is no part of what is in step
pub asked-in_step : (l : LogStoreValue) (archive : ArchiveValue) (disk : DiskState) → IsInStep l → IsInStep (record l { archive = archive; disk = disk })
asked-in_step l archive disk is = record {
  contents = is.contents;
  bytes = is.bytes;
  promised = is.promised;
  few = is.few;
  many = is.many;
  counted = is.counted;
  turn = is.turn;
  beside = is.beside;
  place = is.place;
  live = is.live;
  reclaim = is.reclaim;
}

log-asked : {T : Type 0} (tells : Bool) (l l' : LogStoreValue) (m : Machine Value) (view : ViewValue) (from : ℕ) (Refuses : QueryFault
    → Type 0) (Recent : T → Type 0) (OfHistory : History Value → T → Type 0) (Exact : Result T QueryFault → Type 0) (answer : Result T QueryFault)
    → Stands tells (Log l) m
    → OrStranger (is_own l.commits.mark l.archive view) l (Finds in_log_store tells l view from Refuses Recent OfHistory Exact) answer l'
    → IsKept tells (Log l) (Log l') m
log-asked tells l l' m view from Refuses Recent OfHistory Exact answer is says =
    let done = log_asked.query-stands tells l l' m view from Refuses Recent OfHistory Exact answer is.1 says in
    let same = by-own (is_own l.commits.mark l.archive view) says in
    record { stands = (same.1, done.0); goes = done.1; commits = same.0 }
  where
    by-own : (b : Bool)
        → MatchBool b (Finds in_log_store tells l view from Refuses Recent OfHistory Exact answer l') ((answer ≡ Err query.Stranger) × (l' ≡ l))
        → (l'.commits ≡ l.commits) × IsInStep l'
    by-own true finds = (
      ap (λ (x : LogStoreValue). x.commits) finds.asks.new_is,
      subst IsInStep (sym finds.asks.new_is) (asked-in_step l (record l.archive { kept = l'.archive.kept }) (after_query answer l.disk) is.0),
    )
    by-own false strange = (ap (λ (x : LogStoreValue). x.commits) strange.1, subst IsInStep (sym strange.1) is.0)

pub at-stands : (tells : Bool) (v new : StoreValue) (m : Machine Value) (view : ViewValue) (key : Key) (time : ℕ) (answer : Result (Option Value) QueryFault)
    → Stands tells v m → queries.AnswersAtView tells v view key time answer new → IsKept tells v new m
at-stands tells (Slots s) (Slots s') m view key time answer is asks = slots-asked tells s s' m view time _ _ _ _ answer is asks
at-stands tells (Slots s) (Log l') m view key time answer is asks = absurd asks
at-stands tells (Log l) (Slots s') m view key time answer is asks = absurd asks
at-stands tells (Log l) (Log l') m view key time answer is asks = log-asked tells l l' m view time _ _ _ _ answer is asks

pub scan_at-stands : (tells : Bool) (v new : StoreValue) (m : Machine Value) (view : ViewValue) (relation time : ℕ)
    (answer : Result (Vec (ℕ × Value) Global) QueryFault)
    → Stands tells v m → queries.AnswersScanAt tells v view relation time answer new → IsKept tells v new m
scan_at-stands tells (Slots s) (Slots s') m view relation time answer is asks = slots-asked tells s s' m view time _ _ _ _ answer is asks
scan_at-stands tells (Slots s) (Log l') m view relation time answer is asks = absurd asks
scan_at-stands tells (Log l) (Slots s') m view relation time answer is asks = absurd asks
scan_at-stands tells (Log l) (Log l') m view relation time answer is asks = log-asked tells l l' m view time _ _ _ _ answer is asks

pub between-stands : (tells : Bool) (v new : StoreValue) (m : Machine Value) (view : ViewValue) (key : Key) (a b : ℕ)
    (answer : Result (Vec (Version Value) Global) QueryFault)
    → Stands tells v m → queries.AnswersRows tells v view key a b answer new → IsKept tells v new m
between-stands tells (Slots s) (Slots s') m view key a b answer is asks = slots-asked tells s s' m view a _ _ _ _ answer is asks
between-stands tells (Slots s) (Log l') m view key a b answer is asks = absurd asks
between-stands tells (Log l) (Slots s') m view key a b answer is asks = absurd asks
between-stands tells (Log l) (Log l') m view key a b answer is asks = log-asked tells l l' m view a _ _ _ _ answer is asks

pub scan_between-stands : (tells : Bool) (v new : StoreValue) (m : Machine Value) (view : ViewValue) (relation a b : ℕ)
    (answer : Result (Vec (ℕ × Version Value) Global) QueryFault)
    → Stands tells v m → queries.AnswersScanRows tells v view relation a b answer new → IsKept tells v new m
scan_between-stands tells (Slots s) (Slots s') m view relation a b answer is asks = slots-asked tells s s' m view a _ _ _ _ answer is asks
scan_between-stands tells (Slots s) (Log l') m view relation a b answer is asks = absurd asks
scan_between-stands tells (Log l) (Slots s') m view relation a b answer is asks = absurd asks
scan_between-stands tells (Log l) (Log l') m view relation a b answer is asks = log-asked tells l l' m view a _ _ _ _ answer is asks

-- ---- the other calls: views go on

same-goes : (tells : Bool) (l l' : LogStoreValue) → l' ≡ l → logs.GoesOn tells l l'
same-goes tells l l' same = subst (λ (x : LogStoreValue). logs.GoesOn tells l x) (sym same) (leaves-goes tells l l (leaves-same tells l))

pub begin-goes : (tells : Bool) (old new : StoreValue) (answer : Result TxnValue BeginFault) → stores.Begins old answer new → GoesOn tells old new
begin-goes tells (Slots s) (Slots s') answer begins = rest-goes tells s s' begins.rest (by-answer answer begins.transactions)
  where
    by-answer : (a : Result TxnValue BeginFault) → slot_memory.Begins s.transactions a s'.transactions → s'.transactions.mark ≡ s.transactions.mark
    by-answer (Ok txn) is = ap (λ (t : TransactionsValue). t.mark) is.new_is
    by-answer (Err fault.NoMemory) is = ap (λ (t : TransactionsValue). t.mark) is.1
    by-answer (Err fault.Failed) is = ap (λ (t : TransactionsValue). t.mark) is.1
begin-goes tells (Slots s) (Log l') answer begins = absurd begins
begin-goes tells (Log l) (Slots s') answer begins = absurd begins
begin-goes tells (Log l) (Log l') answer begins =
    leaves-goes tells l l' (alone-leaves tells l l' (begin-alone l.commits l'.commits answer begins.is) begins.new_is)

pub abort-goes : (tells : Bool) (old new : StoreValue) (txn : TxnValue) → stores.Aborts old txn new → GoesOn tells old new
abort-goes tells (Slots s) (Slots s') txn aborts = rest-goes tells s s' aborts.rest (by-own (slot_groups.is_own s.transactions txn) aborts.transactions)
  where
    by-own : (b : Bool) → s'.transactions ≡ cond b (slot_groups.over s.transactions txn.number) s.transactions → s'.transactions.mark ≡ s.transactions.mark
    by-own true is = ap (λ (t : TransactionsValue). t.mark) is
    by-own false is = ap (λ (t : TransactionsValue). t.mark) is
abort-goes tells (Slots s) (Log l') txn aborts = absurd aborts
abort-goes tells (Log l) (Slots s') txn aborts = absurd aborts
abort-goes tells (Log l) (Log l') txn aborts =
    leaves-goes tells l l' (alone-leaves tells l l' (abort-alone l.commits l'.commits txn aborts.is) aborts.new_is)

pub submit-goes : (tells : Bool) (old new : StoreValue) (txn : TxnValue) (label now : ℕ) (answer : Result Submitted SubmitFault)
    → stores.Submits old txn label now answer new → GoesOn tells old new
submit-goes tells (Slots s) (Slots s') txn label now answer submits =
    rest-goes tells s s' submits.rest (by-own (commits.is_own (commits_in s.transactions) txn) (submit-leaves (Slots s)
    (Slots s') txn label now answer submits))
  where
    by-answer : (a : Result Submitted SubmitFault) → LeftBySubmit (over (commits_in s.transactions) txn.number) txn label a (commits_in s'.transactions)
        → s'.transactions.mark ≡ s.transactions.mark
    by-answer (Ok (submitted.ReadOnly snapshot)) is = ap (λ (c : CommitsValue). c.mark) is.1
    by-answer (Ok (submitted.Queued ticket)) is = let joins = is.1 in joins.mark
    by-answer (Err (refused.Conflict key)) is = ap (λ (c : CommitsValue). c.mark) is
    by-answer (Err refused.HeapFull) is = ap (λ (c : CommitsValue). c.mark) is
    by-answer (Err refused.StatusFull) is = ap (λ (c : CommitsValue). c.mark) is
    by-answer (Err refused.ClockEnd) is = ap (λ (c : CommitsValue). c.mark) is
    by-answer (Err refused.NoMemory) is = ap (λ (c : CommitsValue). c.mark) is
    by-answer (Err refused.Failed) is = ap (λ (c : CommitsValue). c.mark) is
    by-answer (Err refused.Stranger) is = absurd is

    by-own : (b : Bool)
        → MatchBool b (LeftBySubmit (over (commits_in s.transactions) txn.number) txn label answer (commits_in s'.transactions))
        ((answer ≡ Err refused.Stranger) × (commits_in s'.transactions ≡ commits_in s.transactions)) → s'.transactions.mark ≡ s.transactions.mark
    by-own true is = by-answer answer is
    by-own false is = ap (λ (c : CommitsValue). c.mark) is.1
submit-goes tells (Slots s) (Log l') txn label now answer submits = absurd submits
submit-goes tells (Log l) (Slots s') txn label now answer submits = absurd submits
submit-goes tells (Log l) (Log l') txn label now answer submits = leaves-goes tells l l' (log_leaves.submit-leaves tells l l' txn label now answer submits)

pub redeem-goes : (tells : Bool) (old new : StoreValue) (ticket : TicketValue) (answer : Redeemed) → stores.Redeems old ticket answer new → GoesOn tells old new
redeem-goes tells (Slots s) (Slots s') ticket answer redeems =
    rest-goes tells s s' redeems.rest (by-answer answer (redeem-leaves (Slots s) (Slots s') ticket answer redeems))
  where
    by-answer : (a : Redeemed) → LeftByRedeem (commits_in s.transactions) (stores.last (Slots s)) ticket a (commits_in s'.transactions)
        → s'.transactions.mark ≡ s.transactions.mark
    by-answer (redeemed.Done time) is = ap (λ (c : CommitsValue). c.mark) is.3
    by-answer (redeemed.Waiting back) is = ap (λ (c : CommitsValue). c.mark) is.1
    by-answer redeemed.InDoubt is = ap (λ (c : CommitsValue). c.mark) is
    by-answer redeemed.Stranger is = ap (λ (c : CommitsValue). c.mark) is.0
redeem-goes tells (Slots s) (Log l') ticket answer redeems = absurd redeems
redeem-goes tells (Log l) (Slots s') ticket answer redeems = absurd redeems
redeem-goes tells (Log l) (Log l') ticket answer redeems =
    leaves-goes tells l l' (alone-leaves tells l l' (redeem-alone l.commits l'.commits ticket answer redeems.is) redeems.new_is)

pub pump-goes : (tells : Bool) (old new : StoreValue) (answer : Result Did PumpFault) (m : Machine Value) → Stands tells old m
    → stores.Pumps tells old answer new → GoesOn tells old new
pump-goes tells (Slots s) (Slots s') answer m is pumps = slot_asked.pump-goes tells s s' pumps.0 m is pumps.1
pump-goes tells (Slots s) (Log l') answer m is pumps = absurd pumps
pump-goes tells (Log l) (Slots s') answer m is pumps = absurd pumps
pump-goes tells (Log l) (Log l') answer m is pumps = leaves-goes tells l l' (log_leaves.pump-leaves tells l l' pumps.0 pumps.1)

-- a step of a job leaves the runs as they are, or adds one behind them
log-job-goes : (tells : Bool) (l l' : LogStoreValue) (said : Result log_did.JobDid PumpFault) (m : Machine Value) → logs.Stands tells l m
    → log_jobs.PumpsJob tells l said l' → logs.GoesOn tells l l'
log-job-goes tells l l' said m is pumps = by-move (log_leaves.job-moves tells l l' said (run-past tells l m is) (base-past tells l m is) pumps)
  where
    by-move : log_leaves.LeavesArchive tells l l' ⊎ log_leaves.AddsRun tells l l' → logs.GoesOn tells l l'
    by-move (inl leaves) = leaves-goes tells l l' leaves
    by-move (inr adds) = added-goes tells l l' m m is adds

pub job-pump-goes : (tells : Bool) (old new : StoreValue) (answer : Result JobDid PumpFault) (m : Machine Value) → Stands tells old m
    → PumpsJob tells old answer new → GoesOn tells old new
job-pump-goes tells (Slots s) (Slots s') answer m is pumps = slot_asked.job-pump-goes tells s s' pumps.0 m is pumps.1
job-pump-goes tells (Slots s) (Log l') answer m is pumps = absurd pumps
job-pump-goes tells (Log l) (Slots s') answer m is pumps = absurd pumps
job-pump-goes tells (Log l) (Log l') answer m is pumps = log-job-goes tells l l' pumps.0 m is.1 pumps.1

pub archive-start-goes : (tells : Bool) (old new : StoreValue) (upto : ℕ) (answer : Result (Unit {0}) StartFault) (m : Machine Value) → Stands tells old m
    → StartsArchive old upto answer new → GoesOn tells old new
archive-start-goes tells (Slots s) (Slots s') upto answer m is starts = slot_asked.archive-start-goes tells s s' upto answer m is starts
archive-start-goes tells (Slots s) (Log l') upto answer m is starts = absurd starts
archive-start-goes tells (Log l) (Slots s') upto answer m is starts = absurd starts
archive-start-goes tells (Log l) (Log l') upto answer m is starts =
    leaves-goes tells l l' (log_leaves.archive-leaves tells l l' upto starts.0 starts.1)

pub reclaim-start-goes : (tells : Bool) (old new : StoreValue) (answer : Result (Unit {0}) StartFault) (m : Machine Value) → Stands tells old m
    → StartsReclaim old answer new → GoesOn tells old new
reclaim-start-goes tells (Slots s) (Slots s') answer m is starts = slot_asked.reclaim-start-goes tells s s' answer m is starts
reclaim-start-goes tells (Slots s) (Log l') answer m is starts = absurd starts
reclaim-start-goes tells (Log l) (Slots s') answer m is starts = absurd starts
reclaim-start-goes tells (Log l) (Log l') answer m is starts =
    leaves-goes tells l l' (log_leaves.reclaim-leaves tells l l' starts.0 starts.1)

pub floor-start-goes : (tells : Bool) (old new : StoreValue) (scope : Option ℕ) (floor : ℕ) (answer : Result (Unit {0}) StartFault) (m : Machine Value)
    → Stands tells old m → StartsFloor old scope floor answer new → GoesOn tells old new
floor-start-goes tells (Slots s) (Slots s') scope floor answer m is starts = slot_asked.floor-start-goes tells s s' scope floor answer m is starts
floor-start-goes tells (Slots s) (Log l') scope floor answer m is starts = absurd starts
floor-start-goes tells (Log l) (Slots s') scope floor answer m is starts = absurd starts
floor-start-goes tells (Log l) (Log l') scope floor answer m is starts =
    leaves-goes tells l l' (log_leaves.floor-leaves tells l l' scope floor starts.0 starts.1)

pub grow-start-goes : (tells : Bool) (old new : StoreValue) (answer : Result (Unit {0}) StartFault) (m : Machine Value) → Stands tells old m
    → StartsGrowth old answer new → GoesOn tells old new
grow-start-goes tells (Slots s) (Slots s') answer m is starts = slot_asked.grow-start-goes tells s s' answer m is starts
grow-start-goes tells (Slots s) (Log l') answer m is starts = absurd starts
grow-start-goes tells (Log l) (Slots s') answer m is starts = absurd starts
grow-start-goes tells (Log l) (Log l') answer m is starts = same-goes tells l l' starts.1

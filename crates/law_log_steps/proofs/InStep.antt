-- A store stays in step by its calls.
use Rattle.std.proofs.Common.{◌≡◌, ◌≢◌, ℕ, ◌==◌, ◌*◌, ◌/◌, ◌<◌, ◌≤◌, ◌^◌, ◌-◌, ◌+◌, ◌&&◌, nat_le, Bool, true, false, List, [], ◌∷◌, ◌++◌, length}
use Rattle.std.proofs.Common.{take, drop, Option, None, Some}
use Rattle.std.proofs.Common.{Result, Ok, Err, refl, arith, ap, sym, subst, ◌∙◌, inl, inr}
use Rattle.std.specs.Prelude.{IsTrue, MatchBool, MatchOption, MatchResult}
use Rattle.std.specs.List.{AllByRecursion}
use Rattle.std.proofs.lemmas.Bool.Decides.{nat_tests}
use Rattle.std.proofs.lemmas.List.{length-drop}
use Rattle.wire.specs.declared.slot.Run.{Run}
use Rattle.archive.specs.Pieces.{InWriting}
use Rattle.archive.specs.declared.run.RunEntry.{RunEntry}
use Rattle.disk.specs.Calls.{DiskState}
use Rattle.history.specs.declared.key.KeyWrite.{KeyWrite}
use Rattle.law_image.specs.Values.{Value}
use Rattle.snapshot.specs.Txn.{TxnValue}
use Rattle.group.specs.Tickets.{TicketValue}
use Rattle.group.specs.declared.answers.BeginFault.{BeginFault}
use Rattle.log_store.specs.declared.pump.Did.{Did}
use Rattle.log_store.specs.declared.pump.Did.TheVariants as did
use Rattle.group.specs.declared.answers.PumpFault.{PumpFault}
use Rattle.group.specs.declared.answers.PumpFault.TheVariants as pump
use Rattle.group.specs.declared.answers.Redeemed.{Redeemed}
use Rattle.group.specs.declared.answers.Submitted.{Submitted}
use Rattle.group.specs.declared.answers.Submitted.TheVariants as submitted
use Rattle.group.specs.declared.answers.SubmitFault.{SubmitFault}
use Rattle.group.specs.declared.answers.SubmitFault.TheVariants as refused
use Rattle.log_entries.specs.Spelling.{entry_bytes}
use Rattle.log_extents.specs.Chains.{count_of, IsNumberOf}
use Rattle.log_roots.specs.Turning.{RootTurnState}
use Rattle.log_roots.specs.Turning as turning
use Rattle.log_writer.specs.Turns.{Part, Stage, Writing, Syncing, Opening, Settling, Done, stage_after}
use Rattle.log_writer.specs.Writer.{WriterState, IsOnItsWay, with_stage}
use Rattle.log_writer.specs.Writer as writers
use Rattle.log_room.specs.Rooms as rooms
use Rattle.log_room.specs.Rooms.{RoomValue, TakesChain, fits, has_entry_room}
use Rattle.log_room.specs.Reserves.{based_on}
use Rattle.log_room.proofs.Taken.{in_heap, used_len}
use Rattle.log_room.specs.Contents.{content_over, extents_over, extents_of}
use Rattle.commits.specs.Values.{ordered, is_own}
use Rattle.commits.specs.Steps.{with_waiting}
use Rattle.log_store.specs.Values.{LogStoreValue, ReclaimValue, IsBeside, IsStageBeside, promised_at, promised_to, IsJobInPlace, IsInStep}
use Rattle.log_store.specs.Values.{IsReclaimBeside}
use Rattle.log_store.specs.declared.job.Job.{Job}
use Rattle.log_store.specs.declared.job.JobStage.{JobStage}
use Rattle.log_store.specs.declared.job.JobStage.TheVariants.{Ready, Entering}
use Rattle.log_store.specs.declared.job.JobStage.TheVariants as stages
use Rattle.log_store.specs.Values as stores
use Rattle.log_store.specs.Calls as calls
use Rattle.log_store.specs.Calls.{with_commits}
use Rattle.log_store.specs.Gates.{waits_at, waits_to_open}
use Rattle.log_store.specs.Pumps.{Pumps, TakesStep, bars_groups, BeginsOrWaits, BeginsGroup, Begins, AdvancesGroup, Advances, after_call, at_next}
use Rattle.log_store.specs.Pumps.{with_published, with_failure, did_of, group_content, group_size}
use Rattle.log_store.specs.Reclaiming.{AdvancesReclaim, StepsReclaim, at_turn, behind, behind_extents, behind_roll, behind_turn, did_at, did_extents}
use Rattle.log_store.specs.Reclaiming.{did_of_root, did_roll, reclaim_behind, with_base, with_reclaim_as}
use Rattle.log_store.specs.declared.job.JobDid.{JobDid}
use Rattle.log_store.specs.declared.job.JobDid.TheVariants as job_did
use Rattle.log_store.specs.declared.job.JobWork.{JobWork}
use Rattle.log_store.specs.declared.job.JobWork.TheVariants.{Floor}
use Rattle.log_store.specs.declared.job.JobWork.TheVariants as kinds
use Rattle.log_store.specs.Archives.{with_archive}
use Rattle.log_store.specs.Runs as run_calls
use Rattle.log_store.specs.Runs.{stage_with, stage_behind, with_job_as, WritesRun}
use Rattle.log_store.specs.Jobs as jobs
use Rattle.log_store.specs.Jobs.{PumpsJob, StepsJob, StepsAt, StepsReady, AdvancesEntry, BeginsEntry, at_stage, entry_of, with_entry, with_work, with_floor}
use Rattle.log_store.specs.Submits.{Submits, SubmitsOwn, AnswersSubmit, anchors_behind, has_room, spent, with_queued}
use Rattle.log_recovery.specs.Live.{LiveChainValue, part_of}
use Rattle.log_store.specs.Live.{AreNumbers, is_base, with_live}
use Rattle.log_store.specs.declared.reclaim.ReclaimStage.{ReclaimStage}
use Rattle.log_store.specs.declared.reclaim.ReclaimStage.TheVariants.{Rolling, Turning}
use Rattle.log_store.specs.declared.reclaim.ReclaimStage.TheVariants as reclaims
use Rattle.log_store.proofs.Advancing.{based_in_step, further_in_step}
use Rattle.log_store.proofs.Entering.{entry-counts}
use Rattle.log_store.proofs.InStep.{begun_writer, queued_in_step, begun_in_step, counted_more}
use Rattle.log_store.proofs.Lives.{beside-job, kept-all, live-more}
use Rattle.law_log_store.proofs.Calls.{AreNamesAlone, begin-alone, abort-alone, redeem-alone, has-room}
use Rattle.law_log_steps.specs.Store.{EndsInHeap}

-- ---- names

pub names-in-step : (old new : LogStoreValue) → IsInStep old → AreNamesAlone old.commits new.commits → new ≡ with_commits old new.commits → IsInStep new
names-in-step old new is alone new_is =
    subst IsInStep (sym (new_is ∙ ap (with_commits old) alone.new_is)) (record {
      contents = is.contents;
      bytes = is.bytes;
      promised = is.promised;
      few = is.few;
      many = is.many;
      counted = is.counted;
      turn = is.turn;
      beside = is.beside;
      place = is.place;
      live = is.live;
      reclaim = is.reclaim;
    })

pub begin-in-step : (old new : LogStoreValue) (answer : Result TxnValue BeginFault) → IsInStep old → calls.Begins old answer new → IsInStep new
begin-in-step old new answer is begins = names-in-step old new is (begin-alone old.commits new.commits answer begins.is) begins.new_is

pub abort-in-step : (old new : LogStoreValue) (txn : TxnValue) → IsInStep old → calls.Aborts old txn new → IsInStep new
abort-in-step old new txn is aborts = names-in-step old new is (abort-alone old.commits new.commits txn aborts.is) aborts.new_is

pub redeem-in-step : (old new : LogStoreValue) (ticket : TicketValue) (answer : Redeemed) → IsInStep old → calls.Redeems old ticket answer new → IsInStep new
redeem-in-step old new ticket answer is redeems = names-in-step old new is (redeem-alone old.commits new.commits ticket answer redeems.is) redeems.new_is

-- ---- submits

spent-in-step : (v : LogStoreValue) (number : ℕ) → IsInStep v → IsInStep (spent v number)
spent-in-step v number is =
    record {
      contents = is.contents;
      bytes = is.bytes;
      promised = is.promised;
      few = is.few;
      many = is.many;
      counted = is.counted;
      turn = is.turn;
      beside = is.beside;
      place = is.place;
      live = is.live;
      reclaim = is.reclaim;
    }

-- a commit that fits leaves few extents promised
fits-few : (v : LogStoreValue) (count anchors : ℕ) → IsInStep v → IsTrue (fits v.room count anchors) → v.room.promised + count ≤ 2 ^ 20
fits-few v count anchors is fit = by-first (nat_le (v.room.log + v.room.promised + count) (length v.room.used / 2 - 4)) refl fit
  where
    by-first : (b : Bool) → nat_le (v.room.log + v.room.promised + count) (length v.room.used / 2 - 4) ≡ b
        → IsTrue (b && nat_le (count_of anchors) ((3 * length v.room.used) / 16)) → v.room.promised + count ≤ 2 ^ 20
    by-first true low fit = let many = is.many in grind (arith, nat_tests)
    by-first false high fit = absurd (let no : false ≡ true = fit in cc)

queued-in-step : (v : LogStoreValue) (label time : ℕ) (writes : List (KeyWrite Value)) → IsInStep v → IsTrue (has_room v writes)
    → IsInStep (with_queued v label time writes)
queued-in-step v label time writes is fit =
    let count = extents_over (ordered v.commits) writes in
    let anchors = anchors_behind v writes in
    let content = content_over (ordered v.commits) label time writes in
    queued_in_step v label time count anchors writes content (with_waiting v.commits label time writes) (v.contents ++ content ∷ [])
    (rooms.promised_to v.room count anchors) is refl refl refl refl refl (fits-few v count anchors is fit)

answer-in-step : (v new : LogStoreValue) (txn : TxnValue) (label now : ℕ) (answer : Result Submitted SubmitFault) → IsInStep v
    → AnswersSubmit v txn label now answer new → IsInStep new
answer-in-step v new txn label now (Ok (submitted.ReadOnly snapshot)) is so = subst IsInStep (sym so.2) is
answer-in-step v new txn label now (Ok (submitted.Queued ticket)) is so =
    subst IsInStep (sym so.2) (queued-in-step v label ticket.time txn.writes is (has-room v txn.snapshot txn.writes now ticket.time so.0))
answer-in-step v new txn label now (Err why) is so = subst IsInStep (sym so.1) is

pub submit-in-step : (old new : LogStoreValue) (txn : TxnValue) (label now : ℕ) (answer : Result Submitted SubmitFault) → IsInStep old
    → Submits old txn label now answer new → IsInStep new
submit-in-step old new txn label now answer is submits = by-own (is_own old.commits txn) submits
  where
    by-failed : (b : Bool)
        → MatchBool b ((answer ≡ Err refused.Failed) × (new ≡ spent old txn.number)) (AnswersSubmit (spent old txn.number) txn label now answer new)
        → IsInStep new
    by-failed true so = subst IsInStep (sym so.1) (spent-in-step old txn.number is)
    by-failed false so = answer-in-step (spent old txn.number) new txn label now answer (spent-in-step old txn.number is) so

    by-own : (b : Bool) → MatchBool b (SubmitsOwn (spent old txn.number) txn label now answer new) ((answer ≡ Err refused.Stranger) × (new ≡ old))
        → IsInStep new
    by-own true so = by-failed old.commits.failed so
    by-own false so = subst IsInStep (sym so.1) is

-- ---- steps of a group

-- where a group's chain is in the writing no entry is, whichever the chain is; and where none is, an entry may be
other-beside : (w x : WriterState) (j : Option Job) → IsBeside (Some w) j → IsBeside (Some x) j
other-beside w x None beside = tt
other-beside w x (Some job) beside = by-stage job.stage beside
  where
    by-stage : (k : JobStage) → IsStageBeside (Some w) k → IsStageBeside (Some x) k
    by-stage (stages.Writing writer) beside = tt
    by-stage (Ready waited) beside = tt
    by-stage (Entering e) beside = absurd (let no = beside.0 in cc)

none-beside : (t : Option WriterState) (j : Option Job) → IsBeside t j → IsBeside None j
none-beside t None beside = tt
none-beside t (Some job) beside = by-stage job.stage beside
  where
    by-stage : (k : JobStage) → IsStageBeside t k → IsStageBeside None k
    by-stage (stages.Writing writer) beside = tt
    by-stage (Ready waited) beside = tt
    by-stage (Entering e) beside = (refl, beside.1)

failed-in-step : (v : LogStoreValue) → IsInStep v → IsInStep (with_failure v)
failed-in-step v is =
    record {
      contents = is.contents;
      bytes = is.bytes;
      promised = is.promised;
      few = is.few;
      many = is.many;
      counted = is.counted;
      turn = is.turn;
      beside = is.beside;
      place = is.place;
      live = is.live;
      reclaim = is.reclaim;
    }

published-in-step : (v : LogStoreValue) → IsInStep v → IsInStep (with_published v)
published-in-step v is = record {
  contents = let all = is.contents in omega (arith, all, length-drop v.commits.group v.commits.queue);
  bytes = is.bytes;
  promised = is.promised;
  few = is.few;
  many = is.many;
  counted = is.counted;
  turn = refl;
  beside = none-beside v.turn v.job is.beside;
  place = is.place;
  live = is.live;
  reclaim = is.reclaim;
}

next-in-step : (v : LogStoreValue) (w : WriterState) → v.turn ≡ Some w → IsInStep v → 0 < v.commits.group → IsOnItsWay (stage_after w.stage)
    → IsInStep (at_next v w)
next-in-step v w standing is some on = record {
  contents = is.contents;
  bytes = is.bytes;
  promised = is.promised;
  few = is.few;
  many = is.many;
  counted = is.counted;
  turn = (some, on);
  beside = other-beside w (with_stage w (stage_after w.stage)) v.job (subst (λ (t : Option WriterState). IsBeside t v.job) standing is.beside);
  place = is.place;
  live = is.live;
  reclaim = is.reclaim;
}

call-in-step : (v : LogStoreValue) (w : WriterState) (stage : Stage) → v.turn ≡ Some w → w.stage ≡ stage → IsInStep v → 0 < v.commits.group
    → IsInStep (after_call v w stage)
call-in-step v w (Writing done []) standing same is some =
    next-in-step v w standing is some (subst (λ (k : Stage). IsOnItsWay (stage_after k)) (sym same) tt)
call-in-step v w (Writing done (part ∷ [])) standing same is some =
    next-in-step v w standing is some (subst (λ (k : Stage). IsOnItsWay (stage_after k)) (sym same) tt)
call-in-step v w (Writing done (part ∷ next ∷ rest)) standing same is some =
    next-in-step v w standing is some (subst (λ (k : Stage). IsOnItsWay (stage_after k)) (sym same) tt)
call-in-step v w Syncing standing same is some = next-in-step v w standing is some (subst (λ (k : Stage). IsOnItsWay (stage_after k)) (sym same) tt)
call-in-step v w Opening standing same is some = next-in-step v w standing is some (subst (λ (k : Stage). IsOnItsWay (stage_after k)) (sym same) tt)
call-in-step v w Settling standing same is some = published-in-step v is
call-in-step v w Done standing same is some = is

-- a store over another disk
disk-in-step : (v : LogStoreValue) (disk : DiskState) → IsInStep v → IsInStep (record v { disk = disk })
disk-in-step v disk is =
    record {
      contents = is.contents;
      bytes = is.bytes;
      promised = is.promised;
      few = is.few;
      many = is.many;
      counted = is.counted;
      turn = is.turn;
      beside = is.beside;
      place = is.place;
      live = is.live;
      reclaim = is.reclaim;
    }

-- it is in step, and its log ends in an extent of a heap
abbrev pub Holds : LogStoreValue → Type 0
Holds v = IsInStep v × EndsInHeap v

-- the extents of a chain that begins are those of a heap, and so is the one behind it
split-last : (P : ℕ → Type 0) (ns : List ℕ) (n : ℕ) → AllByRecursion P (ns ++ n ∷ []) → AllByRecursion P ns × P n
split-last P [] n all = (tt, all.0)
split-last P (m ∷ ms) n all = let rest = split-last P ms n all.1 in ((all.0, rest.0), rest.1)

taken-range : (old new : RoomValue) (count promised : ℕ) (numbers : List ℕ) (link : ℕ) → length old.used ≤ 2 ^ 20 → IsNumberOf (2 ^ 20) old.next
    → TakesChain old count promised numbers link new → AreNumbers numbers × IsNumberOf (2 ^ 20) new.next
taken-range old new count promised numbers link many next takes =
    let each = split-last (IsNumberOf (2 ^ 20)) takes.others link (in_heap (2 ^ 20) old.used (takes.others ++ link ∷ []) many takes.least) in (
      subst AreNumbers (sym takes.numbers_are) (next, each.0),
      subst (λ (r : RoomValue). IsNumberOf (2 ^ 20) r.next) (sym takes.new_is) each.1,
    )

call-ends : (v : LogStoreValue) (w : WriterState) (stage : Stage) → EndsInHeap v → EndsInHeap (after_call v w stage)
call-ends v w (Writing done rest) ends = ends
call-ends v w Syncing ends = ends
call-ends v w Opening ends = ends
call-ends v w Settling ends = ends
call-ends v w Done ends = ends

advance-holds : (tells : Bool) (w : WriterState) (old new : LogStoreValue) (answer : Result Did PumpFault) → old.turn ≡ Some w → Holds old
    → 0 < old.commits.group → Advances tells w old answer new → Holds new
advance-holds tells w old new answer standing holds some advances = by-answer answer advances.answer
  where
    by-answer : (a : Result Did PumpFault)
        → MatchResult a (λ what. (what ≡ did_of (writers.did w.stage) old.commits.group) × (new ≡ record (after_call old w w.stage) { disk = new.disk }))
        (λ why. (why ≡ pump.Failed) × (new ≡ record (with_failure old) { disk = new.disk }))
        → Holds new
    by-answer (Ok what) so =
        subst Holds (sym so.1) (
          disk-in-step (after_call old w w.stage) new.disk (call-in-step old w w.stage standing refl holds.0 some),
          call-ends old w w.stage holds.1,
        )
    by-answer (Err why) so = subst Holds (sym so.1) (disk-in-step (with_failure old) new.disk (failed-in-step old holds.0), holds.1)

-- the store stays so by a step of a group
pub pump-holds : (tells : Bool) (old new : LogStoreValue) (answer : Result Did PumpFault) → Holds old → Pumps tells old answer new → Holds new
pump-holds tells old new answer holds pumps = by-failed old.commits.failed pumps
  where
    by-standing : (v : LogStoreValue) (t : Option WriterState) → v.turn ≡ t → Holds v → AdvancesGroup tells v t answer new → Holds new
    by-standing v None none step advances = absurd advances
    by-standing v (Some w) some step advances =
        let has : stores.HasTurn v.commits.group (Some w) = subst (stores.HasTurn v.commits.group) some step.0.turn in
        advance-holds tells w v new answer some step has.0 advances

    -- a group begins
    begun : (there : LogStoreValue) → bars_groups old.job ≡ false → old.turn ≡ None → 0 < length old.commits.queue → Begins old there → Holds there
    begun there unbarred at_rest some b =
        let in-range = taken-range old.room b.room (count_of (length (group_content old))) (extents_of (take (group_size old) old.contents)) b.numbers b.link
        holds.0.many holds.1 b.takes in (
          begun_in_step old there holds.0 at_rest unbarred some b in-range.0,
          subst EndsInHeap (sym b.new_is) in-range.1,
        )

    by-job : (b : Bool) → bars_groups old.job ≡ b → old.turn ≡ None → 0 < length old.commits.queue
        → MatchBool b ((answer ≡ Err pump.Busy) × (new ≡ old)) (BeginsGroup tells old answer new) → Holds new
    by-job true barred at_rest some so = subst Holds (sym so.1) holds
    by-job false unbarred at_rest some (inl none) = subst Holds (sym none.1) holds
    by-job false unbarred at_rest some (inr group) =
        by-standing group.0 (group.0).turn refl (begun group.0 unbarred at_rest some group.1) group.2

    by-queue : (b : Bool) → (length old.commits.queue == 0) ≡ b → old.turn ≡ None
        → MatchBool b ((answer ≡ Ok did.Idle) × (new ≡ old)) (BeginsOrWaits tells old answer new) → Holds new
    by-queue true none at_rest idle = subst Holds (sym idle.1) holds
    by-queue false some at_rest so = by-job (bars_groups old.job) refl at_rest (grind (arith, nat_tests)) so

    by-gate : (w : WriterState) (b : Bool) → old.turn ≡ Some w → MatchBool b ((answer ≡ Err pump.Busy) × (new ≡ old)) (Advances tells w old answer new)
        → Holds new
    by-gate w true standing busy = subst Holds (sym busy.1) holds
    by-gate w false standing next = by-standing old (Some w) standing holds next

    by-turn : (t : Option WriterState) → old.turn ≡ t → TakesStep tells old t answer new → Holds new
    by-turn None at_rest next = by-queue (length old.commits.queue == 0) refl at_rest next
    by-turn (Some w) standing next = by-gate w (waits_to_open old.reclaim w.stage) standing next

    by-failed : (b : Bool) → MatchBool b ((answer ≡ Err pump.Failed) × (new ≡ old)) (TakesStep tells old old.turn answer new) → Holds new
    by-failed true so = subst Holds (sym so.1) holds
    by-failed false takes = by-turn old.turn refl takes

pub pump-in-step : (tells : Bool) (old new : LogStoreValue) (answer : Result Did PumpFault) → Holds old → Pumps tells old answer new → IsInStep new
pump-in-step tells old new answer holds pumps = (pump-holds tells old new answer holds pumps).0

-- ---- jobs

-- where no reclaim runs a job may begin
alone-beside : (before after : Option Job) (chains : List LiveChainValue) (old new : RoomValue) (reclaim : Option ReclaimValue) → reclaim ≡ None
    → new.reserved ≡ old.reserved → IsReclaimBeside before chains old reclaim → IsReclaimBeside after chains new reclaim
alone-beside before after chains old new None none same is = same ∙ is
alone-beside before after chains old new (Some r) none same is = absurd (let no : Some r ≡ None = none in cc)

-- a floor that begins is promised an extent
pub floor-in-step : (v : LogStoreValue) (relation time : ℕ) → v.job ≡ None → v.reclaim ≡ None → IsTrue (has_entry_room v.room) → IsInStep v
    → IsInStep (with_floor v relation time)
floor-in-step v relation time none unmade room is = record {
  contents = is.contents;
  bytes = is.bytes;
  promised = let was = is.promised in let nothing : promised_to v.job ≡ 0 = ap promised_to none in omega (arith, was, nothing);
  few = let many = is.many in
      let test : nat_le (v.room.log + v.room.promised + 1) (length v.room.used / 2 - 2) ≡ true = room in
      let fits : v.room.log + v.room.promised + 1 ≤ length v.room.used / 2 - 2 = grind (arith, nat_tests) in
      omega (arith, many, fits);
  many = is.many;
  counted = is.counted;
  turn = is.turn;
  beside = tt;
  place = tt;
  live = is.live;
  reclaim = alone-beside v.job (with_floor v relation time).job v.live.chains v.room (with_floor v relation time).room v.reclaim unmade refl is.reclaim;
}

-- so is an archive, whose run ends at a place that a disk has
pub archive-in-step : (v : LogStoreValue) (run : Run) (writer : InWriting) (entry : RunEntry) → v.job ≡ None → v.reclaim ≡ None
    → v.room.log + v.room.promised + 1 ≤ length v.room.used / 2 → run.start + run.len < 2 ^ 63 → IsInStep v → IsInStep (with_archive v run writer entry)
archive-in-step v run writer entry none unmade fits low is = record {
  contents = is.contents;
  bytes = is.bytes;
  promised = let was = is.promised in let nothing : promised_to v.job ≡ 0 = ap promised_to none in omega (arith, was, nothing);
  few = let many = is.many in omega (arith, many, fits);
  many = is.many;
  counted = is.counted;
  turn = is.turn;
  beside = tt;
  place = low;
  live = is.live;
  reclaim = alone-beside v.job (with_archive v run writer entry).job v.live.chains v.room (with_archive v run writer entry).room v.reclaim unmade refl
      is.reclaim;
}

-- a job is at another stage before its entry, over another disk
moved-in-step : (v : LogStoreValue) (job : Job) (stage : JobStage) (disk : DiskState) → v.job ≡ Some job → promised_at job.stage ≡ 1 → promised_at stage ≡ 1
    → IsInStep v → IsInStep (record v { job = Some (record job { stage = stage }); disk = disk })
moved-in-step v job stage disk is-job was now is = record {
  contents = is.contents;
  bytes = is.bytes;
  promised = is.promised ∙ ap (λ (n : ℕ). extents_of v.contents + n) (ap promised_to is-job ∙ was ∙ sym now);
  few = is.few;
  many = is.many;
  counted = is.counted;
  turn = is.turn;
  beside = by-stage stage now;
  place = subst IsJobInPlace is-job is.place;
  live = is.live;
  reclaim = beside-job job v.job (Some (record job { stage = stage })) v.live.chains v.live.chains v.room v.room v.reclaim is-job refl is.reclaim;
}
  where
    by-stage : (k : JobStage) → promised_at k ≡ 1 → IsStageBeside v.turn k
    by-stage (stages.Writing writer) one = tt
    by-stage (Ready waited) one = tt
    by-stage (Entering w) one = absurd (omega (arith, one))

-- a call of the run
run-holds : (tells : Bool) (job : Job) (writer : InWriting) (old new : LogStoreValue) (answer : Result JobDid PumpFault) → old.job ≡ Some job
    → job.stage ≡ stages.Writing writer → Holds old → WritesRun tells job old answer new → Holds new
run-holds tells job writer old new answer is-job e holds writes = by-answer answer writes.answer
  where
    stage-promised : (left : List ℕ) (made : Bool) → promised_at (stage_with left writer made) ≡ 1
    stage-promised [] true = refl
    stage-promised [] false = refl
    stage-promised (b ∷ bs) made = refl

    behind-promised : (made : Bool) → promised_at (stage_behind job.stage made) ≡ 1
    behind-promised made = ap (λ (k : JobStage). promised_at (stage_behind k made)) e ∙ stage-promised writer.left made

    by-answer : (a : Result JobDid PumpFault)
        → MatchResult a (λ what. (what ≡ run_calls.did_at job.stage) × (new ≡ record (with_job_as old (run_calls.behind job true)) { disk = new.disk }))
        (λ why. (why ≡ pump.Failed) × (new ≡ record (with_failure (with_job_as old (run_calls.behind job false))) { disk = new.disk }))
        → Holds new
    by-answer (Ok what) so =
        subst Holds (sym so.1)
        (moved-in-step old job (stage_behind job.stage true) new.disk is-job (ap promised_at e) (behind-promised true) holds.0, holds.1)
    by-answer (Err why) so =
        subst Holds (sym so.1) (
          failed-in-step (record old { job = Some (run_calls.behind job false); disk = new.disk })
              (moved-in-step old job (stage_behind job.stage false) new.disk is-job (ap promised_at e) (behind-promised false) holds.0),
          holds.1,
        )

-- a job waits for a group
waits-in-step : (v : LogStoreValue) (job : Job) (waited : Bool) → v.job ≡ Some job → job.stage ≡ Ready waited → IsInStep v
    → IsInStep (at_stage v job (Ready true))
waits-in-step v job waited is-job e is = record {
  contents = is.contents;
  bytes = is.bytes;
  promised = is.promised ∙ ap (λ (n : ℕ). extents_of v.contents + n) (ap promised_to is-job ∙ ap promised_at e);
  few = is.few;
  many = is.many;
  counted = is.counted;
  turn = is.turn;
  beside = tt;
  place = subst IsJobInPlace is-job is.place;
  live = is.live;
  reclaim = beside-job job v.job (Some (record job { stage = Ready true })) v.live.chains v.live.chains v.room v.room v.reclaim is-job refl is.reclaim;
}

-- an entry begins
begun-entry-in-step : (old new : LogStoreValue) (job : Job) (waited : Bool) → old.job ≡ Some job → job.stage ≡ Ready waited → old.turn ≡ None → Holds old
    → BeginsEntry old job new → Holds new
begun-entry-in-step old new job waited is-job e at_rest holds b =
    let is = holds.0 in
    let in-range = taken-range old.room b.room 1 1 b.numbers b.link is.many holds.1 b.takes in
    subst Holds (sym b.new_is) (
      record {
        contents = is.contents;
        bytes = is.bytes;
        promised =
            let was = is.promised in
            let one : promised_to old.job ≡ 1 = ap promised_to is-job ∙ ap promised_at e in
            let now = ap (λ (r : RoomValue). r.promised) b.takes.new_is in
            omega (arith, was, one, now);
        few = let was = is.few in let now = ap (λ (r : RoomValue). r.promised) b.takes.new_is in omega (arith, was, now);
        many = subst (λ (n : ℕ). n ≤ 2 ^ 20)
            (sym (ap (λ (r : RoomValue). length r.used) b.takes.new_is ∙ used_len old.room.used (b.takes.others ++ b.link ∷ []))) is.many;
        counted = counted_more old.live (part_of (entry_of job.work)) old.room b.room 1 1 b.numbers b.link (entry-counts job.work b.numbers) b.takes is.counted;
        turn = is.turn;
        beside = (at_rest, tt);
        place = subst IsJobInPlace is-job is.place;
        live = live-more old.live b.numbers (part_of (entry_of job.work)) is.live in-range.0 (no-base job.work);
        reclaim = beside-job job old.job (Some (record job { stage = Entering (begun_writer b.numbers b.link (entry_bytes (entry_of job.work))) }))
            old.live.chains (with_live old.live b.numbers (part_of (entry_of job.work))).chains old.room b.room old.reclaim is-job
            (ap (λ (r : RoomValue). r.reserved) b.takes.new_is) is.reclaim;
      },
      in-range.1,
    )
  where
    no-base : (work : JobWork) → is_base (part_of (entry_of work)) ≡ false
    no-base (Floor floor kept) = refl
    no-base (kinds.Archive archive archives) = refl

-- a call of the entry's chain
next-entry-in-step : (v : LogStoreValue) (job : Job) (w : WriterState) → v.turn ≡ None → v.job ≡ Some job → job.stage ≡ Entering w → IsInStep v
    → IsOnItsWay (stage_after w.stage) → IsInStep (at_stage v job (Entering (with_stage w (stage_after w.stage))))
next-entry-in-step v job w at_rest is-job e is on = record {
  contents = is.contents;
  bytes = is.bytes;
  promised = is.promised ∙ ap (λ (n : ℕ). extents_of v.contents + n) (ap promised_to is-job ∙ ap promised_at e);
  few = is.few;
  many = is.many;
  counted = is.counted;
  turn = is.turn;
  beside = (at_rest, on);
  place = subst IsJobInPlace is-job is.place;
  live = is.live;
  reclaim = beside-job job v.job (Some (record job { stage = Entering (with_stage w (stage_after w.stage)) })) v.live.chains v.live.chains v.room v.room
      v.reclaim is-job refl is.reclaim;
}

entered-in-step : (v : LogStoreValue) (job : Job) (w : WriterState) → v.job ≡ Some job → job.stage ≡ Entering w → IsInStep v → IsInStep (with_entry v job)
entered-in-step v job w is-job e is = by-work job.work
  where
    -- memory has the same commits that wait
    by-work : (work : JobWork) → IsInStep (record (with_work work v) { job = None })
    by-work (Floor floor kept) = record {
      contents = is.contents;
      bytes = is.bytes;
      promised = is.promised ∙ ap (λ (n : ℕ). extents_of v.contents + n) (ap promised_to is-job ∙ ap promised_at e);
      few = is.few;
      many = is.many;
      counted = is.counted;
      turn = is.turn;
      beside = tt;
      place = tt;
      live = is.live;
      reclaim = beside-job job v.job None v.live.chains v.live.chains v.room v.room v.reclaim is-job refl is.reclaim;
    }
    by-work (kinds.Archive archive archives) = record {
      contents = is.contents;
      bytes = is.bytes;
      promised = is.promised ∙ ap (λ (n : ℕ). extents_of v.contents + n) (ap promised_to is-job ∙ ap promised_at e);
      few = is.few;
      many = is.many;
      counted = is.counted;
      turn = is.turn;
      beside = tt;
      place = tt;
      live = is.live;
      reclaim = beside-job job v.job None v.live.chains v.live.chains v.room v.room v.reclaim is-job refl is.reclaim;
    }

entry-call-in-step : (v : LogStoreValue) (job : Job) (w : WriterState) (stage : Stage) → v.turn ≡ None → v.job ≡ Some job → job.stage ≡ Entering w
    → w.stage ≡ stage → IsInStep v → IsInStep (jobs.after_call v job w stage)
entry-call-in-step v job w (Writing done []) at_rest is-job e same is =
    next-entry-in-step v job w at_rest is-job e is (subst (λ (k : Stage). IsOnItsWay (stage_after k)) (sym same) tt)
entry-call-in-step v job w (Writing done (part ∷ [])) at_rest is-job e same is =
    next-entry-in-step v job w at_rest is-job e is (subst (λ (k : Stage). IsOnItsWay (stage_after k)) (sym same) tt)
entry-call-in-step v job w (Writing done (part ∷ next ∷ rest)) at_rest is-job e same is =
    next-entry-in-step v job w at_rest is-job e is (subst (λ (k : Stage). IsOnItsWay (stage_after k)) (sym same) tt)
entry-call-in-step v job w Syncing at_rest is-job e same is =
    next-entry-in-step v job w at_rest is-job e is (subst (λ (k : Stage). IsOnItsWay (stage_after k)) (sym same) tt)
entry-call-in-step v job w Opening at_rest is-job e same is =
    next-entry-in-step v job w at_rest is-job e is (subst (λ (k : Stage). IsOnItsWay (stage_after k)) (sym same) tt)
entry-call-in-step v job w Settling at_rest is-job e same is = entered-in-step v job w is-job e is
entry-call-in-step v job w Done at_rest is-job e same is = is

entry-call-ends : (v : LogStoreValue) (job : Job) (w : WriterState) (stage : Stage) → EndsInHeap v → EndsInHeap (jobs.after_call v job w stage)
entry-call-ends v job w (Writing done rest) ends = ends
entry-call-ends v job w Syncing ends = ends
entry-call-ends v job w Opening ends = ends
entry-call-ends v job w Settling ends = ends
entry-call-ends v job w Done ends = ends

advance-entry-holds : (tells : Bool) (job : Job) (w : WriterState) (old new : LogStoreValue) (answer : Result JobDid PumpFault) → old.job ≡ Some job
    → job.stage ≡ Entering w → Holds old → jobs.Advances tells job w old answer new → Holds new
advance-entry-holds tells job w old new answer is-job e holds advances = by-answer answer advances.answer
  where
    is : IsInStep old
    is = holds.0

    at_rest : old.turn ≡ None
    at_rest = (subst (λ (k : JobStage). IsStageBeside old.turn k) e (subst (λ (j : Option Job). IsBeside old.turn j) is-job is.beside)).0

    by-answer : (a : Result JobDid PumpFault)
        → MatchResult a (λ what. (what ≡ jobs.did_of (writers.did w.stage)) × (new ≡ record (jobs.after_call old job w w.stage) { disk = new.disk }))
        (λ why. (why ≡ pump.Failed) × (new ≡ record (with_failure old) { disk = new.disk }))
        → Holds new
    by-answer (Ok what) so =
        subst Holds (sym so.1) (
          disk-in-step (jobs.after_call old job w w.stage) new.disk (entry-call-in-step old job w w.stage at_rest is-job e refl is),
          entry-call-ends old job w w.stage holds.1,
        )
    by-answer (Err why) so = subst Holds (sym so.1) (disk-in-step (with_failure old) new.disk (failed-in-step old is), holds.1)

-- ---- reclaims

-- what the calls before the last one did
extents-not-last : (xs : List Part) → did_extents xs ≢ job_did.JobDone
extents-not-last [] last = cc
extents-not-last (x ∷ xs) last = cc

roll-not-last : (bs : List ℕ) → did_roll bs ≢ job_did.JobDone
roll-not-last [] last = cc
roll-not-last (b ∷ bs) last = cc

-- the end of a reclaim leaves the place where the log ends
based-ends : (v : LogStoreValue) (r : ReclaimValue) → EndsInHeap v → EndsInHeap (with_base v r)
based-ends v r ends =
    subst (IsNumberOf (2 ^ 20)) (sym (kept-all (based_on v.room r.anchors r.numbers) (drop r.front v.live.chains)).next) ends

module _ (v : LogStoreValue) (r : ReclaimValue) (runs : v.reclaim ≡ Some r) (holds : Holds v) where
  -- it is one call further
  goes-further : (k : ReclaimStage) → r.stage ≡ k → (after : ReclaimValue) → after ≡ reclaim_behind v.roots r k → did_at k ≢ job_did.JobDone
      → Holds (with_reclaim_as v after)
  goes-further k e after same more = (
    further_in_step v r after v.disk holds.0 runs (same ∙ ap (reclaim_behind v.roots r) (sym e))
        (subst (λ (x : ReclaimStage). did_at x ≢ job_did.JobDone) (sym e) more),
    holds.1,
  )

  turn-holds : (t : RootTurnState) → r.stage ≡ Turning t → (k : turning.Stage) → t.stage ≡ k → Holds (behind_turn v r t k)
  turn-holds t e turning.Writing same =
      goes-further (Turning t) e (at_turn r t turning.Syncing) (ap (λ (x : turning.Stage). at_turn r t (turning.stage_after x)) (sym same))
      (subst (λ (x : turning.Stage). did_of_root (turning.did x) ≢ job_did.JobDone) (sym same) (λ last. cc))
  turn-holds t e turning.Syncing same =
      goes-further (Turning t) e (at_turn r t turning.Turning) (ap (λ (x : turning.Stage). at_turn r t (turning.stage_after x)) (sym same))
      (subst (λ (x : turning.Stage). did_of_root (turning.did x) ≢ job_did.JobDone) (sym same) (λ last. cc))
  turn-holds t e turning.Turning same =
      goes-further (Turning t) e (at_turn r t turning.Settling) (ap (λ (x : turning.Stage). at_turn r t (turning.stage_after x)) (sym same))
      (subst (λ (x : turning.Stage). did_of_root (turning.did x) ≢ job_did.JobDone) (sym same) (λ last. cc))
  turn-holds t e turning.Settling same = (
    based_in_step v r (with_base v r).roots (with_base v r).room (with_base v r).live (with_base v r).named None v.disk holds.0 runs refl
        (record { roots_are = refl; room_is = refl; live_is = refl; named_is = refl }),
    based-ends v r holds.1,
  )
  turn-holds t e turning.Done same = holds

  stage-holds : (k : ReclaimStage) → r.stage ≡ k → Holds (behind v r k)
  stage-holds (reclaims.Writing anchors base) e =
      goes-further (reclaims.Writing anchors base) e (behind_extents v.roots r anchors base anchors.left base.left) refl
      (extents-not-last (anchors.left ++ base.left))
  stage-holds (Rolling roll) e = goes-further (Rolling roll) e (behind_roll v.roots r roll roll.left) refl (roll-not-last roll.left)
  stage-holds (Turning t) e = turn-holds t e t.stage refl

-- a step of a reclaim
reclaim-holds : (tells : Bool) (r : ReclaimValue) (old new : LogStoreValue) (answer : Result JobDid PumpFault) → old.reclaim ≡ Some r → Holds old
    → StepsReclaim tells r old answer new → Holds new
reclaim-holds tells r old new answer runs holds steps = by-gate (waits_at old.turn r.stage) steps
  where
    by-answer : (a : Result JobDid PumpFault)
        → MatchResult a (λ what. (what ≡ did_at r.stage) × (new ≡ record (behind old r r.stage) { disk = new.disk }))
        (λ why. (why ≡ pump.Failed) × (new ≡ record (with_failure old) { disk = new.disk })) → Holds new
    by-answer (Ok what) so =
        let there = stage-holds old r runs holds r.stage refl in
        subst Holds (sym so.1) (disk-in-step (behind old r r.stage) new.disk there.0, there.1)
    by-answer (Err why) so = subst Holds (sym so.1) (disk-in-step (with_failure old) new.disk (failed-in-step old holds.0), holds.1)

    by-gate : (b : Bool) → MatchBool b ((answer ≡ Err pump.Busy) × (new ≡ old)) (AdvancesReclaim tells r old answer new) → Holds new
    by-gate true busy = subst Holds (sym busy.1) holds
    by-gate false advances = by-answer answer advances.answer

-- ---- a step of a job

-- the store stays so by it
pub job-holds : (tells : Bool) (old new : LogStoreValue) (answer : Result JobDid PumpFault) → Holds old → PumpsJob tells old answer new → Holds new
job-holds tells old new answer holds pumps = by-failed old.commits.failed pumps
  where
    by-begun : (v : LogStoreValue) (j : Option Job) → v.job ≡ j → Holds v → AdvancesEntry tells j v answer new → Holds new
    by-begun v None none step advances = absurd advances
    by-begun v (Some job) is-job step advances = by-at job.stage refl advances
      where
        by-at : (k : JobStage) → job.stage ≡ k → jobs.AdvancesAt tells job k v answer new → Holds new
        by-at (stages.Writing writer) e advances = absurd advances
        by-at (Ready waited) e advances = absurd advances
        by-at (Entering w) e advances = advance-entry-holds tells job w v new answer is-job e step advances

    by-turn : (job : Job) (waited : Bool) → old.job ≡ Some job → job.stage ≡ Ready waited → (t : Option WriterState) → old.turn ≡ t
        → StepsReady tells job t old answer new → Holds new
    by-turn job waited is-job e None at_rest (inl none) = subst Holds (sym none.1) holds
    by-turn job waited is-job e None at_rest (inr enters) =
        by-begun enters.0 (enters.0).job refl (begun-entry-in-step old enters.0 job waited is-job e at_rest holds enters.1) enters.2
    by-turn job waited is-job e (Some w) standing so = subst Holds (sym so.1) (waits-in-step old job waited is-job e holds.0, holds.1)

    by-stage : (job : Job) → old.job ≡ Some job → (k : JobStage) → job.stage ≡ k → StepsAt tells job k old answer new → Holds new
    by-stage job is-job (stages.Writing writer) e so = run-holds tells job writer old new answer is-job e holds so
    by-stage job is-job (Ready waited) e so = by-turn job waited is-job e old.turn refl so
    by-stage job is-job (Entering w) e so = advance-entry-holds tells job w old new answer is-job e holds so

    by-job : (j : Option Job) → old.job ≡ j → StepsJob tells j old answer new → Holds new
    by-job None none so = subst Holds (sym so.1) holds
    by-job (Some job) is-job so = by-stage job is-job job.stage refl so

    by-reclaim : (o : Option ReclaimValue) → old.reclaim ≡ o
        → MatchOption o (StepsJob tells old.job old answer new) (λ r. StepsReclaim tells r old answer new) → Holds new
    by-reclaim None none steps = by-job old.job refl steps
    by-reclaim (Some r) runs steps = reclaim-holds tells r old new answer runs holds steps

    by-failed : (b : Bool)
        → MatchBool b ((answer ≡ Err pump.Failed) × (new ≡ old))
        (MatchOption old.reclaim (StepsJob tells old.job old answer new) (λ r. StepsReclaim tells r old answer new)) → Holds new
    by-failed true so = subst Holds (sym so.1) holds
    by-failed false steps = by-reclaim old.reclaim refl steps

pub job-in-step : (tells : Bool) (old new : LogStoreValue) (answer : Result JobDid PumpFault) → Holds old → PumpsJob tells old answer new → IsInStep new
job-in-step tells old new answer holds pumps = (job-holds tells old new answer holds pumps).0

-- After each call, and after any calls, the store stands for a state of the machine, and its views go on.
use Rattle.std.proofs.Common.{◌≡◌, ◌⊎◌, ◌≤◌, Bool, true, false, IsTrue, List, [], ◌∷◌, ◌++◌, Option, Some, Result, Ok, Err, MatchBool, refl, arith, ap}
use Rattle.std.proofs.Common.{sym, subst, ◌∙◌, inl, inr, append_assoc}
use Rattle.history.specs.Machine.{Machine}
use Rattle.history.specs.Steps.{Event, Run, Began, Aborted, begun}
use Rattle.law_image.specs.Values.{Value, IsValue}
use Rattle.snapshot.specs.Txn.{TxnValue}
use Rattle.group.specs.declared.answers.BeginFault.{BeginFault}
use Rattle.group.specs.declared.answers.BeginFault.TheVariants as fault
use Rattle.archive.specs.declared.run.RunEntry.{RunEntry}
use Rattle.commits.specs.Values.{is_own}
use Rattle.archive.specs.Pieces.{InWriting}
use Rattle.log_store.specs.Values.{LogStoreValue, ReclaimValue, IsInStep}
use Rattle.log_store.specs.declared.job.Job.{Job}
use Rattle.log_store.specs.declared.job.JobStage.{JobStage}
use Rattle.log_store.specs.declared.job.JobStage.TheVariants.{Entering}
use Rattle.log_store.specs.declared.job.JobStage.TheVariants as stages
use Rattle.log_store.specs.declared.job.JobWork.{JobWork}
use Rattle.log_store.specs.declared.job.JobWork.TheVariants as works
use Rattle.law_image.specs.Reading.{ArchiveRecord}
use Rattle.law_log_store.specs.Standing.{StandsOnHeap, StopsOnHeap, HasWritten, HasAllWritten}
use Rattle.law_refinement.specs.Laws.{submission_of, event_of}
use Rattle.law_refinement.proofs.RunsKept.{IsLater, machine-rises, run-later}
use Rattle.law_log_store.proofs.Calls.{begin-alone, abort-alone, redeem-alone}
use Rattle.log_store.specs.declared.job.StartFault.{StartFault}
use Rattle.log_store.specs.declared.job.StartFault.TheVariants as start
use Rattle.history.specs.Floors.{Raising}
use Rattle.history.specs.Steps.{FloorStarted, floor_started}
use Rattle.law_refinement.specs.Calls.{raising_to}
use Rattle.law_log_steps.specs.Laws.{BeginsTo, Goes, events_in, job_events_in, StartsOn}
use Rattle.law_log_steps.specs.Store.{IsStoreOf}
use Rattle.law_log_steps.proofs.Keeping.{begin-stands, abort-stands, redeem-stands}
use Rattle.law_log_steps.proofs.Submitting.{submit-stands}
use Rattle.law_log_steps.proofs.Pumping.{pump-stands}
use Rattle.law_log_steps.proofs.Jobs.{job-stands}
use Rattle.law_log_steps.proofs.ArchiveStarts.{archive-starts}
use Rattle.law_log_steps.proofs.FloorStarts.{floor-starts}
use Rattle.law_log_steps.proofs.ReclaimStarts.{reclaim-starts}
use Rattle.law_log_queries.specs.Archive.{HasPlace, JobHasPlace, ReclaimHasPlace, Stands, GoesOn, end_of}
use Rattle.law_log_queries.specs.Calls.{IsCall, LeadsTo, OfBegin, OfAbort, OfRedeem, OfSubmit, OfPump, OfFloor, OfArchive, OfReclaim, OfJob, OfAt}
use Rattle.law_log_queries.specs.Calls.{OfScanAt, OfBetween, OfScanBetween, OfTimes}
use Rattle.law_log_queries.specs.Laws.{GoesTo}
use Rattle.law_log_queries.proofs.Runs.{end-more}
use Rattle.law_log_queries.proofs.Leaving.{LeavesArchive, AddsRun, BaseIsPast, IsPastAll, alone-leaves, submit-leaves, pump-leaves, floor-leaves}
use Rattle.law_log_queries.proofs.Leaving.{archive-leaves}
use Rattle.law_log_queries.proofs.Leaving.{beside-place, job-moves, leaves-goes, leaves-same, reclaim-leaves, runs-left}
use Rattle.law_log_queries.proofs.Adding.{added-goes, names-added, runs-added}
use Rattle.law_log_queries.proofs.Names.{names-left}
use Rattle.law_log_queries.proofs.Asking.{query-stands, times-stand}

-- ---- one call

-- a call that leaves the archive keeps it for each later state
kept : (tells : Bool) (old new : LogStoreValue) (m after : Machine Value) → Stands tells old m → LeavesArchive tells old new → IsLater m after
    → IsStoreOf tells new after → Stands tells new after × GoesOn tells old new
kept tells old new m after stands leaves later is = (
  record {
    store = is;
    place = leaves.place stands.place;
    runs = λ told. runs-left tells old new m after (machine-rises m stands.store.machine) later leaves told (stands.runs told);
    names = λ told. names-left tells old new m after later leaves is told (stands.names told);
  },
  leaves-goes tells old new leaves,
)

-- a run that was made stands for each later state
added : (tells : Bool) (old new : LogStoreValue) (m after : Machine Value) → Stands tells old m → AddsRun tells old new → IsLater m after
    → IsStoreOf tells new after → Stands tells new after × GoesOn tells old new
added tells old new m after stands adds later is = (
  record {
    store = is;
    place = (
      subst (λ (j : Option Job). JobHasPlace new.named new.archive.runs new.archive.next j) (sym adds.no-job) tt,
      subst (λ (r : Option ReclaimValue). ReclaimHasPlace new.job new.named.end r) (sym adds.reclaim)
          (beside-place old.job new.job (record { work = works.Archive adds.a adds.archives; stage = Entering adds.w }) old.named.end new.named.end old.reclaim
          adds.is-job stands.place.1),
    );
    runs = λ told. runs-added tells old new m after stands adds told (machine-rises m stands.store.machine) later;
    names = λ told. names-added tells old new m after stands adds told later;
  },
  added-goes tells old new m after stands adds,
)

-- a run goes behind those that stand, and behind all that the log names
pub run-past : (tells : Bool) (old : LogStoreValue) (m : Machine Value) → Stands tells old m → (writer : InWriting) (job : Job) → old.commits.failed ≡ false
    → old.job ≡ Some job → job.stage ≡ stages.Writing writer → IsTrue tells → IsPastAll old writer
run-past tells old m stands writer job works-on is-job e told =
    let s : StandsOnHeap old m.published m.queue m.floors =
    subst (λ (b : Bool). MatchBool b (StopsOnHeap old m.published m.queue m.floors) (StandsOnHeap old m.published m.queue m.floors)) works-on
    (stands.store.disk told) in
    by-work (s.made) job.work (subst (λ (j : Option Job). JobHasPlace old.named old.archive.runs old.archive.next j) is-job stands.place.0)
    (subst (λ (k : JobStage). HasWritten job.work s.made k old.disk.areas.archive) e
    (subst (λ (j : Option Job). HasAllWritten s.made j old.disk.areas.archive) is-job s.written))
  where
    by-work : (made : List ArchiveRecord) (work : JobWork) → HasPlace old.named old.archive.runs old.archive.next work
        → HasWritten work made (stages.Writing writer) old.disk.areas.archive → IsPastAll old writer
    by-work made (works.Floor floor kept) place has = absurd has
    by-work made (works.Archive a archives) place has =
        let end = (stands.runs told).ends in let behind = place.behind in let at = has.place in
        (omega (arith, end, behind, at), omega (arith, behind, at))

-- and so does the roll of a reclaim
pub base-past : (tells : Bool) (old : LogStoreValue) (m : Machine Value) → Stands tells old m → BaseIsPast tells old
base-past tells old m stands = record {
  ends = λ told. (stands.runs told).ends;
  reaches = stands.store.marks.reclaim;
  place = stands.place.1;
}

-- a query keeps it for the state that stood, and so for each later one
asked : (tells : Bool) (old new : LogStoreValue) (m after : Machine Value) → IsLater m after → IsStoreOf tells new after
    → Stands tells new m × GoesOn tells old new → Stands tells new after × GoesOn tells old new
asked tells old new m after later is done = (
  (kept tells new new m after done.0 (leaves-same tells new) later is).0,
  done.1,
)

pub call-keeps : (tells : Bool) (old new : LogStoreValue) (m after : Machine Value) (events : List (Event Value)) → Stands tells old m → IsCall tells old new
    → Run IsValue m events after → IsStoreOf tells new after → Stands tells new after × GoesOn tells old new
call-keeps tells old new m after events stands call run is = by-call call
  where
    later : IsLater m after
    later = run-later m after events stands.store.machine is.machine run

    leaving : LeavesArchive tells old new → Stands tells new after × GoesOn tells old new
    leaving leaves = kept tells old new m after stands leaves later is

    moving : LeavesArchive tells old new ⊎ AddsRun tells old new → Stands tells new after × GoesOn tells old new
    moving (inl leaves) = leaving leaves
    moving (inr adds) = added tells old new m after stands adds later is

    by-call : IsCall tells old new → Stands tells new after × GoesOn tells old new
    by-call (OfBegin answer begins) =
        leaving (alone-leaves tells old new (begin-alone old.commits new.commits answer begins.is) begins.new_is)
    by-call (OfAbort txn aborts) = leaving (alone-leaves tells old new (abort-alone old.commits new.commits txn aborts.is) aborts.new_is)
    by-call (OfRedeem ticket answer redeems) =
        leaving (alone-leaves tells old new (redeem-alone old.commits new.commits ticket answer redeems.is) redeems.new_is)
    by-call (OfSubmit txn label now answer are range submits) = leaving (submit-leaves tells old new txn label now answer submits)
    by-call (OfPump answer sound pumps) = leaving (pump-leaves tells old new answer pumps)
    by-call (OfFloor scope floor answer starts) = leaving (floor-leaves tells old new scope floor answer starts)
    by-call (OfArchive upto answer starts) = leaving (archive-leaves tells old new upto answer starts)
    by-call (OfReclaim answer starts) = leaving (reclaim-leaves tells old new answer starts)
    by-call (OfJob answer sound pumps) = moving (job-moves tells old new answer (run-past tells old m stands) (base-past tells old m stands) pumps)
    by-call (OfAt view key time answer says) =
        asked tells old new m after later is (query-stands tells old new m view time _ _ _ _ answer stands says)
    by-call (OfScanAt view relation time answer says) =
        asked tells old new m after later is (query-stands tells old new m view time _ _ _ _ answer stands says)
    by-call (OfBetween view key a b answer says) =
        asked tells old new m after later is (query-stands tells old new m view a _ _ _ _ answer stands says)
    by-call (OfScanBetween view relation a b answer says) =
        asked tells old new m after later is (query-stands tells old new m view a _ _ _ _ answer stands says)
    by-call (OfTimes label answer says) = asked tells old new m after later is (times-stand tells old new m label answer stands says)

-- ---- there is a state after it

module _ (tells : Bool) (old new : LogStoreValue) (m : Machine Value) (told : IsTrue tells) (step : IsInStep old) (stands : Stands tells old m)
    (call : IsCall tells old new) where
  -- a state that the machine has run to
  through : (events : List (Event Value)) (after : Machine Value) → Run IsValue m events after → IsStoreOf tells new after → GoesTo tells old new
  through events after run is =
      let done = call-keeps tells old new m after events stands call run is in record { after = after; stands = done.0; goes = done.1 }

  stays : IsStoreOf tells new m → GoesTo tells old new
  stays is = through [] m refl is

  one : (event : Event Value) → Goes tells new m event → GoesTo tells old new
  one event goes = through (event ∷ []) goes.0 (goes.0, goes.1, refl) goes.2

  begun-to : (answer : Result TxnValue BeginFault) → BeginsTo tells m answer new → GoesTo tells old new
  begun-to (Ok txn) to = one (Began txn.snapshot) (begun m, to.0, to.1)
  begun-to (Err fault.NoMemory) to = stays to.1
  begun-to (Err fault.Failed) to = stays to.1

  by-own : (b : Bool) (event : Event Value) → MatchBool b (Goes tells new m event) (IsStoreOf tells new m) → GoesTo tells old new
  by-own true event goes = one event goes
  by-own false event is = stays is

  started-on : (r : Raising) (answer : Result (Unit {0}) StartFault) → StartsOn tells m r answer new → GoesTo tells old new
  started-on r (Ok done) to = one (FloorStarted r) (floor_started m r, to.0, to.1)
  started-on r (Err start.NothingToDo) to = stays to.1
  started-on r (Err (start.NotYet time)) to = stays to.1
  started-on r (Err (start.InUse snapshot)) to = stays to.1
  started-on r (Err start.Failed) to = stays to.1
  started-on r (Err start.WrongProfile) to = stays to.1
  started-on r (Err start.JobBusy) to = stays to
  started-on r (Err start.HeapFull) to = stays to
  started-on r (Err start.ArchiveFull) to = absurd to
  started-on r (Err start.NoMemory) to = stays to.1

  queried : Stands tells new m × GoesOn tells old new → GoesTo tells old new
  queried done = record { after = m; stands = done.0; goes = done.1 }

  by-call : IsCall tells old new → GoesTo tells old new
  by-call (OfBegin answer begins) = begun-to answer (begin-stands tells old new answer m stands.store begins)
  by-call (OfAbort txn aborts) = by-own (is_own old.commits txn) (Aborted txn.snapshot) (abort-stands tells old new txn m stands.store aborts)
  by-call (OfRedeem ticket answer redeems) = stays (redeem-stands tells old new ticket answer m stands.store redeems).1
  by-call (OfSubmit txn label now answer are range submits) =
      by-own (is_own old.commits txn) (event_of m (submission_of txn label now) answer)
      (submit-stands tells old new txn label now answer m step stands.store submits are range)
  by-call (OfPump answer sound pumps) =
      let runs = pump-stands tells old new answer m step sound stands.store pumps in through (events_in m answer) runs.after runs.run runs.stands
  by-call (OfFloor scope floor answer starts) =
      started-on (raising_to scope floor) answer (floor-starts tells old new scope floor answer m stands.store starts)
  by-call (OfArchive upto answer starts) = stays (archive-starts tells old new upto answer m step stands.store starts)
  by-call (OfReclaim answer starts) = stays (reclaim-starts tells old new answer m step stands.store starts)
  by-call (OfJob answer sound pumps) =
      let runs = job-stands tells old new answer m step sound stands.store pumps in through (job_events_in m answer) runs.after runs.run runs.stands
  by-call (OfAt view key time answer says) = queried (query-stands tells old new m view time _ _ _ _ answer stands says)
  by-call (OfScanAt view relation time answer says) = queried (query-stands tells old new m view time _ _ _ _ answer stands says)
  by-call (OfBetween view key a b answer says) = queried (query-stands tells old new m view a _ _ _ _ answer stands says)
  by-call (OfScanBetween view relation a b answer says) = queried (query-stands tells old new m view a _ _ _ _ answer stands says)
  by-call (OfTimes label answer says) = queried (times-stand tells old new m label answer stands says)

  pub call-stands : GoesTo tells old new
  call-stands = by-call call

-- ---- many calls

further : (tells : Bool) (a b c : LogStoreValue) → GoesOn tells a b → GoesOn tells b c → GoesOn tells a c
further tells a b c first next = record {
  mark = next.mark ∙ first.mark;
  more = first.more ++ next.more;
  runs = next.runs ∙ ap (λ (runs : List RunEntry). runs ++ next.more) first.runs ∙ append_assoc a.archive.runs first.more next.more;
  bytes = λ told at part low held.
      let longer = subst (λ (runs : List RunEntry). end_of a.archive.runs ≤ end_of runs) (sym first.runs) (end-more a.archive.runs first.more) in
      next.bytes told at part (omega arith) (first.bytes told at part low held);
}

pub calls-go-on : (tells : Bool) (old now : LogStoreValue) (between : List LogStoreValue) (m : Machine Value) → IsTrue tells → Stands tells old m
    → LeadsTo tells old between now → GoesTo tells old now
calls-go-on tells old now [] m told stands is =
    subst (λ (v : LogStoreValue). GoesTo tells old v) (sym is)
    (record { after = m; stands = stands; goes = leaves-goes tells old old (leaves-same tells old) })
calls-go-on tells old now (next ∷ rest) m told stands leads =
    let one = call-stands tells old next m told leads.0 stands leads.1 in
    let more = calls-go-on tells next now rest one.after told one.stands leads.2 in
    record { after = more.after; stands = more.stands; goes = further tells old next now one.goes more.goes }

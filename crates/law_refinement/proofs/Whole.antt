-- The calls of a store keep its runs too, and go on.
use Rattle.std.proofs.Common.{◌≡◌, ℕ, ◌++◌, Bool, true, false, IsTrue, List, [], Option, None, Some, Result, Ok, Err, MatchBool, MatchOption, refl, arith, ap}
use Rattle.std.proofs.Common.{sym, subst, ◌∙◌, append-nil}
use Rattle.disk.specs.Areas.{AreSound}
use Rattle.history.specs.Floors.{Raising}
use Rattle.history.specs.Machine.{Machine}
use Rattle.history.specs.Steps.{Run, floor_started}
use Rattle.law_image.specs.Values.{Value, IsValue}
use Rattle.archive.specs.Searches.{archive_of}
use Rattle.group.specs.declared.answers.Did.{Did}
use Rattle.group.specs.declared.answers.PumpFault.{PumpFault}
use Rattle.group.specs.declared.answers.PumpFault.TheVariants as pump
use Rattle.store.specs.Values.{ArchiveValue, StoreValue, HasRest}
use Rattle.store.specs.Pumps.{Pumps}
use Rattle.store.specs.Archives.{refusal_now, BeginsRun, IsArchiveBegun, StartsArchive, with_archive}
use Rattle.store.specs.Jobs.{PumpsJob}
use Rattle.store.specs.Reclaims.{reclaim_refusal, with_reclaim, BeginsReclaim, StartsReclaim}
use Rattle.floors.specs.Floors.{FloorsValue, floor_at}
use Rattle.store.specs.Floors.{floor_refusal, with_floor, BeginsFloor, StartsFloor}
use Rattle.store.specs.declared.job.JobDid.{JobDid}
use Rattle.store.specs.declared.job.StartFault.{StartFault}
use Rattle.store.specs.declared.job.StartFault.TheVariants as start
use Rattle.law_refinement.specs.Homes.{GoesOn}
use Rattle.law_refinement.specs.Laws.{begins_in, ends_in, job_ends_in}
use Rattle.law_refinement.specs.Stands.{StandsStill as Stands, StandsBeside}
use Rattle.law_refinement.specs.Calls.{raising_to, StartsTo}
use Rattle.law_refinement.proofs.RunsKept.{IsLater, run-later, same-later, machine-rises, up_to-same, up_to-is}
use Rattle.law_refinement.proofs.RunsStep.{KeepsArchive, runs-move, goes-same}
use Rattle.law_refinement.proofs.RunsCalls.{Leaves, KnowsRun, beside-leaves, pump-stays, job_pump-leaves}
use Rattle.law_refinement.proofs.RunsAhead.{piece-behind, run-ready}
use Rattle.law_refinement.proofs.Archiving as archiving
use Rattle.law_refinement.proofs.Reclaiming as reclaiming
use Rattle.law_refinement.proofs.FloorStarts as floors
use Rattle.law_refinement.proofs.FloorStarts.{Refuses}
use Rattle.law_refinement.proofs.JobPumping as jobs
use Rattle.law_refinement.proofs.Pumping as groups

pub beside : (tells : Bool) (v : StoreValue) (m : Machine Value) → Stands tells v m → StandsBeside tells v m
beside tells v m s =
    record {
      memory = s.memory;
      machine = s.machine;
      order = s.order;
      in_step = s.in_step;
      gate = s.gate;
      raises = s.raises;
      marks = s.marks;
      job = s.job;
      disk = s.disk;
    }

pub whole : (tells : Bool) (old v : StoreValue) (m : Machine Value) → StandsBeside tells v m → Leaves tells old v m → Stands tells v m
whole tells old v m s left =
    record {
      memory = s.memory;
      machine = s.machine;
      order = s.order;
      in_step = s.in_step;
      gate = s.gate;
      raises = s.raises;
      marks = s.marks;
      job = s.job;
      disk = s.disk;
      place = left.place;
      runs = left.runs;
    }

-- ---- a group's steps

pump-left : (tells : Bool) (old new : StoreValue) (answer : Result Did PumpFault) (m after : Machine Value) → Stands tells old m → IsLater m after
    → Pumps tells old answer new → Leaves tells old new after
pump-left tells old new answer m after stands later pumps =
    beside-leaves tells old new m after (machine-rises m stands.machine) later (pump-stays tells old new answer pumps) stands.place stands.runs

pub pump-stands : (tells : Bool) (old new : StoreValue) (answer : Result Did PumpFault) (m : Machine Value) → Stands tells old m
    → (IsTrue tells → AreSound new.disk.areas) → Pumps tells old answer new
    → MatchBool m.failed ((answer ≡ Err pump.Failed) × Stands tells new m) ((after : Machine Value) × Run IsValue m (begins_in m ++ ends_in m.gate answer) after
    × Stands tells new after)
pump-stands tells old new answer m stands sound pumps = by-failure m.failed (groups.pump-stands tells old new answer m (beside tells old m stands) sound pumps)
  where
    by-failure : (b : Bool)
        → MatchBool b ((answer ≡ Err pump.Failed) × StandsBeside tells new m) ((after : Machine Value)
        × Run IsValue m (begins_in m ++ ends_in m.gate answer) after × StandsBeside tells new after)
        → MatchBool b ((answer ≡ Err pump.Failed) × Stands tells new m) ((after : Machine Value) × Run IsValue m (begins_in m ++ ends_in m.gate answer) after
        × Stands tells new after)
    by-failure true is = (is.0, whole tells old new m is.1 (pump-left tells old new answer m m stands (same-later m) pumps))
    by-failure false is =
        (is.0, is.1, whole tells old new is.0 is.2 (pump-left tells old new answer m is.0 stands (run-later m is.0 _ stands.machine is.2.machine is.1) pumps))

pub pump-goes : (tells : Bool) (old new : StoreValue) (answer : Result Did PumpFault) (m : Machine Value) → Stands tells old m → Pumps tells old answer new
    → GoesOn tells old new
pump-goes tells old new answer m stands pumps = (pump-left tells old new answer m m stands (same-later m) pumps).goes

-- ---- a job's steps

knows : (tells : Bool) (old : StoreValue) (m : Machine Value) → Stands tells old m → old.transactions.failed ≡ false → IsTrue tells → KnowsRun old m
knows tells old m stands works told =
    let d = stands.disk told in
    let on = d.works (sym stands.memory.failed ∙ works) in
    record { behind = λ run writer is. piece-behind d.header old m on run writer is; ready = λ run writer t is. run-ready d.header old m on run writer t is }

job_pump-left : (tells : Bool) (old new : StoreValue) (answer : Result JobDid PumpFault) (m after : Machine Value) → Stands tells old m → IsLater m after
    → PumpsJob tells old answer new → Leaves tells old new after
job_pump-left tells old new answer m after stands later pumps =
    job_pump-leaves tells old new m after answer (machine-rises m stands.machine) later stands.place stands.runs (knows tells old m stands) pumps

pub job-pump-stands : (tells : Bool) (old new : StoreValue) (answer : Result JobDid PumpFault) (m : Machine Value) → Stands tells old m
    → (IsTrue tells → AreSound new.disk.areas) → PumpsJob tells old answer new
    → MatchBool m.failed ((answer ≡ Err pump.Failed) × Stands tells new m) ((after : Machine Value) × Run IsValue m (job_ends_in m answer) after
    × Stands tells new after)
job-pump-stands tells old new answer m stands sound pumps =
    by-failure m.failed (jobs.job-pump-stands tells old new answer m (beside tells old m stands) sound pumps)
  where
    by-failure : (b : Bool)
        → MatchBool b ((answer ≡ Err pump.Failed) × StandsBeside tells new m) ((after : Machine Value) × Run IsValue m (job_ends_in m answer) after
        × StandsBeside tells new after)
        → MatchBool b ((answer ≡ Err pump.Failed) × Stands tells new m) ((after : Machine Value) × Run IsValue m (job_ends_in m answer) after
        × Stands tells new after)
    by-failure true is = (is.0, whole tells old new m is.1 (job_pump-left tells old new answer m m stands (same-later m) pumps))
    by-failure false is = (
      is.0,
      is.1,
      whole tells old new is.0 is.2
          (job_pump-left tells old new answer m is.0 stands (run-later m is.0 _ stands.machine is.2.machine is.1) pumps),
    )

pub job-pump-goes : (tells : Bool) (old new : StoreValue) (answer : Result JobDid PumpFault) (m : Machine Value) → Stands tells old m
    → PumpsJob tells old answer new → GoesOn tells old new
job-pump-goes tells old new answer m stands pumps = (job_pump-left tells old new answer m m stands (same-later m) pumps).goes

-- ---- the beginning of an archive

begun-left : (tells : Bool) (old new : StoreValue) (upto : ℕ) (m : Machine Value) → Stands tells old m → IsArchiveBegun old upto new → Leaves tells old new m
begun-left tells old new upto m stands begun =
    let made : StoreValue = with_archive old upto begun.entry in
    let keeps : KeepsArchive old made = record { runs = refl; kept = refl; archived = refl; runs_end = refl; mark = refl } in
    subst (λ (x : StoreValue). Leaves tells old x m) (sym begun.new_is) (record {
      place = (
        begun.entry,
        begun.slot,
        begun.mark,
        (λ relation. let same = stands.memory.floors relation in let is = ap (λ (f : FloorsValue). floor_at f relation) begun.floors_are in omega (
          arith,
          same,
          is,
        )),
        refl,
      );
      runs = λ told. runs-move old made m m (machine-rises m stands.machine) (same-later m) keeps (stands.runs told).marks
          (up_to-same old.runs_end (archive_of old.disk)) (stands.runs told);
      goes = goes-same tells old made keeps (λ told. up_to-same old.runs_end (archive_of old.disk));
    })

-- nothing was done
left-same : (tells : Bool) (old new : StoreValue) (m : Machine Value) → Stands tells old m → new ≡ old → Leaves tells old new m
left-same tells old new m stands is =
    subst (λ (x : StoreValue). Leaves tells old x m) (sym is)
    (beside-leaves tells old old m m (machine-rises m stands.machine) (same-later m)
    (record {
      keeps = record { runs = refl; kept = refl; archived = refl; runs_end = refl; mark = refl };
      archive = refl;
      job = refl;
      reclaimed = refl;
      bytes = λ told. refl;
    }) stands.place stands.runs)

start-left : (tells : Bool) (old new : StoreValue) (upto : ℕ) (answer : Result (Unit {0}) StartFault) (m : Machine Value) → Stands tells old m
    → StartsArchive old upto answer new → Leaves tells old new m
start-left tells old new upto answer m stands starts = by-refusal (refusal_now old upto) starts
  where
    same : new ≡ old → Leaves tells old new m
    same is = left-same tells old new m stands is

    by-answer : (answer : Result (Unit {0}) StartFault) → BeginsRun old upto answer new → Leaves tells old new m
    by-answer (Ok done) is = begun-left tells old new upto m stands is.2
    by-answer (Err why) is = same is.1

    by-refusal : (o : Option StartFault) → MatchOption o (BeginsRun old upto answer new) (λ why. (answer ≡ Err why) × (new ≡ old)) → Leaves tells old new m
    by-refusal None is = by-answer answer is
    by-refusal (Some why) is = same is.1

-- ---- the beginning of a reclaim

reclaim-begun-left : (tells : Bool) (old new : StoreValue) (numbers : List ℕ) (m : Machine Value) → Stands tells old m → new ≡ with_reclaim old numbers
    → Leaves tells old new m
reclaim-begun-left tells old new numbers m stands is =
    let made : StoreValue = with_reclaim old numbers in
    let keeps : KeepsArchive old made = record { runs = refl; kept = refl; archived = refl; runs_end = refl; mark = refl } in
    subst (λ (x : StoreValue). Leaves tells old x m) (sym is) (record {
      place = omega arith;
      runs = λ told. runs-move old made m m (machine-rises m stands.machine) (same-later m) keeps (stands.runs told).marks
          (up_to-same old.runs_end (archive_of old.disk)) (stands.runs told);
      goes = goes-same tells old made keeps (λ told. up_to-same old.runs_end (archive_of old.disk));
    })

reclaim-left : (tells : Bool) (old new : StoreValue) (answer : Result (Unit {0}) StartFault) (m : Machine Value) → Stands tells old m
    → StartsReclaim old answer new → Leaves tells old new m
reclaim-left tells old new answer m stands starts = by-refusal (reclaim_refusal old) starts
  where
    by-answer : (answer : Result (Unit {0}) StartFault) → BeginsReclaim old answer new → Leaves tells old new m
    by-answer (Ok done) is = reclaim-begun-left tells old new is.1.numbers m stands is.1.new_is
    by-answer (Err why) is = left-same tells old new m stands is.1

    by-refusal : (o : Option StartFault) → MatchOption o (BeginsReclaim old answer new) (λ why. (answer ≡ Err why) × (new ≡ old)) → Leaves tells old new m
    by-refusal None is = by-answer answer is
    by-refusal (Some why) is = left-same tells old new m stands is.1

pub reclaim-start-stands : (tells : Bool) (old new : StoreValue) (answer : Result (Unit {0}) StartFault) (m : Machine Value) → Stands tells old m
    → StartsReclaim old answer new → Stands tells new m
reclaim-start-stands tells old new answer m stands starts =
    whole tells old new m (reclaiming.reclaim-start-stands tells old new answer m (beside tells old m stands) starts)
    (reclaim-left tells old new answer m stands starts)

pub reclaim-start-goes : (tells : Bool) (old new : StoreValue) (answer : Result (Unit {0}) StartFault) (m : Machine Value) → Stands tells old m
    → StartsReclaim old answer new → GoesOn tells old new
reclaim-start-goes tells old new answer m stands starts = (reclaim-left tells old new answer m stands starts).goes

pub archive-start-stands : (tells : Bool) (old new : StoreValue) (upto : ℕ) (answer : Result (Unit {0}) StartFault) (m : Machine Value) → Stands tells old m
    → StartsArchive old upto answer new → Stands tells new m
archive-start-stands tells old new upto answer m stands starts =
    whole tells old new m (archiving.archive-start-stands tells old new upto answer m (beside tells old m stands) starts)
    (start-left tells old new upto answer m stands starts)

pub archive-start-goes : (tells : Bool) (old new : StoreValue) (upto : ℕ) (answer : Result (Unit {0}) StartFault) (m : Machine Value) → Stands tells old m
    → StartsArchive old upto answer new → GoesOn tells old new
archive-start-goes tells old new upto answer m stands starts = (start-left tells old new upto answer m stands starts).goes

-- ---- the beginning of a floor

floor-begun-left : (tells : Bool) (old new : StoreValue) (scope : Option ℕ) (floor : ℕ) (m after : Machine Value) → Stands tells old m → after.published
    ≡ m.published → after.floors ≡ m.floors → new ≡ with_floor old scope floor → Leaves tells old new after
floor-begun-left tells old new scope floor m after stands published floors is =
    let made : StoreValue = with_floor old scope floor in
    let keeps : KeepsArchive old made = record { runs = refl; kept = refl; archived = refl; runs_end = refl; mark = refl } in
    let later : IsLater m after =
    record {
      more = [];
      published = published ∙ sym (append-nil m.published);
      rising = tt;
      floors = λ relation. (let same = ap (λ (f : ℕ → ℕ). f relation) floors in omega arith);
    } in
    subst (λ (x : StoreValue). Leaves tells old x after) (sym is) (record {
      place = tt;
      runs = λ told. runs-move old made m after (machine-rises m stands.machine) later keeps (stands.runs told).marks
          (up_to-same old.runs_end (archive_of old.disk)) (stands.runs told);
      goes = goes-same tells old made keeps (λ told. up_to-same old.runs_end (archive_of old.disk));
    })

pub floor-start-stands : (tells : Bool) (old new : StoreValue) (scope : Option ℕ) (floor : ℕ) (answer : Result (Unit {0}) StartFault) (m : Machine Value)
    → Stands tells old m → StartsFloor old scope floor answer new → StartsTo (Stands tells) m (raising_to scope floor) answer new
floor-start-stands tells old new scope floor answer m stands starts = by-refusal (floor_refusal old scope floor) refl starts
  where
    r : Raising
    r = raising_to scope floor

    kept : new ≡ old → Stands tells new m
    kept is = subst (λ (x : StoreValue). Stands tells x m) (sym is) stands

    refused : (why : StartFault) → Refuses m r why → Stands tells new m → StartsTo (Stands tells) m r (Err why) new
    refused start.NothingToDo is same = (is, same)
    refused (start.NotYet time) is same = (is, same)
    refused (start.InUse snapshot) is same = (is, same)
    refused start.Failed is same = (is, same)
    refused start.WrongProfile is same = same
    refused start.JobBusy is same = same
    refused start.StatusFull is same = same
    refused start.ArchiveFull is same = absurd is
    refused start.HeapFull is same = absurd is
    refused start.NoMemory is same = absurd is
    refused start.NotGrowable is same = absurd is

    begun : floor_refusal old scope floor ≡ None → (said : Result (Unit {0}) StartFault) → BeginsFloor old scope floor said new
        → StartsTo (Stands tells) m r said new
    begun none (Ok done) is =
        let starts = floors.begins tells old scope floor m (beside tells old m stands) none is.0 in (
          starts.0,
          whole tells old new (floor_started m r) (subst (λ (x : StoreValue). StandsBeside tells x (floor_started m r)) (sym is.1) starts.1)
              (floor-begun-left tells old new scope floor m (floor_started m r) stands refl refl is.1),
        )
    begun none (Err why) is = subst (λ (e : StartFault). StartsTo (Stands tells) m r (Err e) new) (sym is.0) (is.1, kept is.2)

    by-refusal : (o : Option StartFault) → floor_refusal old scope floor ≡ o
        → MatchOption o (BeginsFloor old scope floor answer new) (λ why. (answer ≡ Err why) × (new ≡ old)) → StartsTo (Stands tells) m r answer new
    by-refusal None none is = begun none answer is
    by-refusal (Some why) some is =
        subst (λ (a : Result (Unit {0}) StartFault). StartsTo (Stands tells) m r a new) (sym is.0)
        (refused why (floors.refuses tells old scope floor m (beside tells old m stands) why some) (kept is.1))

pub floor-start-goes : (tells : Bool) (old new : StoreValue) (scope : Option ℕ) (floor : ℕ) (answer : Result (Unit {0}) StartFault) (m : Machine Value)
    → Stands tells old m → StartsFloor old scope floor answer new → GoesOn tells old new
floor-start-goes tells old new scope floor answer m stands starts = by-refusal (floor_refusal old scope floor) starts
  where
    begun : (said : Result (Unit {0}) StartFault) → BeginsFloor old scope floor said new → GoesOn tells old new
    begun (Ok done) is = (floor-begun-left tells old new scope floor m m stands refl refl is.1).goes
    begun (Err why) is = (left-same tells old new m stands is.2).goes

    by-refusal : (o : Option StartFault) → MatchOption o (BeginsFloor old scope floor answer new) (λ why. (answer ≡ Err why) × (new ≡ old))
        → GoesOn tells old new
    by-refusal None is = begun answer is
    by-refusal (Some why) is = (left-same tells old new m stands is.1).goes

-- ---- calls that change the transactions alone

pub rest-goes : (tells : Bool) (old new : StoreValue) → HasRest old new → new.transactions.mark ≡ old.transactions.mark → GoesOn tells old new
rest-goes tells old new rest mark =
    goes-same tells old new (record {
      runs = ap (λ (a : ArchiveValue). a.runs) rest.job.archive;
      kept = ap (λ (a : ArchiveValue). a.kept) rest.job.archive;
      archived = rest.job.archived;
      runs_end = rest.job.runs_end;
      mark = mark;
    })
    (λ told. up_to-is old.runs_end (archive_of old.disk) (archive_of new.disk) (ap archive_of rest.disk))

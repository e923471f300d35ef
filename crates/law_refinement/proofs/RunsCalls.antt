-- What each call keeps of the runs of a store.
use Rattle.std.proofs.Common.{◌≡◌, ℕ, ◌≤◌, ◌==◌, ◌&&◌, nat_lt, min, Bool, true, false, cond, IsTrue, List, [], ◌∷◌, length, is_some, Option, None, Some, Result}
use Rattle.std.proofs.Common.{Ok, Err, MatchBool, MatchOption, MatchResult, slice_get, refl, arith, ap, sym, subst, ◌∙◌, inl, inr}
use Rattle.std.proofs.lemmas.List.{append-nil}
use Rattle.history.specs.Histories.{HasRisingTimes}
use Rattle.history.specs.Machine.{Machine, IsMachine}
use Rattle.law_image.specs.Values.{Value, IsValue}
use Rattle.archive.specs.Pieces.{InWriting}
use Rattle.archive.specs.Searches.{archive_of}
use Rattle.vacuum.specs.Anchors.{Sourced}
use Rattle.wire.specs.declared.slot.Anchors.{Anchors}
use Rattle.wire.specs.declared.slot.Run.{Run}
use Rattle.disk.specs.Areas.{Areas}
use Rattle.status.specs.Growth.{grew_at, growth_after}
use Rattle.status.specs.GrowthState.{GrowthState}
use Rattle.status.specs.declared.growth.Grew.{Grew}
use Rattle.status.specs.declared.growth.Grew.TheVariants as grew
use Rattle.law_layout.proofs.Growing.{growth-alone}
use Rattle.status.specs.SlotCalls.{SlotStage}
use Rattle.status.specs.SlotCalls as slots
use Rattle.status.specs.TurnState.{LogState, TurnState}
use Rattle.group.specs.declared.answers.Did.{Did}
use Rattle.group.specs.declared.answers.PumpFault.{PumpFault}
use Rattle.group.specs.declared.answers.PumpFault.TheVariants as fault
use Rattle.group.specs.declared.queued.StoredExtent.{StoredExtent}
use Rattle.group.specs.Values.{TransactionsValue}
use Rattle.group.specs.Steps.{next_step, next_extent, grouped, published, broken}
use Rattle.group.specs.declared.stage.GroupStage.TheVariants as stage
use Rattle.group.specs.declared.stage.NextStep.{NextStep}
use Rattle.group.specs.declared.stage.NextStep.TheVariants as step
use Rattle.store.specs.Values.{ArchiveValue, StoreValue, KeepsJob, turn_of}
use Rattle.store.specs.Pumps.{Pumps, TakesStep, WritesExtent, Steps, MayBeginSlot, TurnsSlot, IsTurned, started, freshly, taken, disk_answer}
use Rattle.store.specs.Jobs.{PumpsJob, TakesJobStep, Stores, WritesOrSyncs, AnchorsOrSync, BeginsJobSlot, TurnsJob, IsJobTurned, JobMoves, job_fails, work_done}
use Rattle.store.specs.Jobs.{slot_opened, slot_taken, made_ready, first_turn, piece_of, growing, grown_store, HasGrown}
use Rattle.store.specs.declared.job.Job.{Job}
use Rattle.store.specs.declared.job.JobStage.{JobStage}
use Rattle.store.specs.declared.job.JobStage.TheVariants as stages
use Rattle.store.specs.declared.job.JobWork.{JobWork}
use Rattle.store.specs.declared.job.JobWork.TheVariants.{Archive, Reclaim, Floor, Grow}
use Rattle.store.specs.declared.job.JobDid.{JobDid}
use Rattle.store.specs.declared.job.JobDid.TheVariants as did
use Rattle.law_refinement.specs.Homes.{HasPlace, JobHasPlace, RunsStand, KeepsUpTo, GoesOn}
use Rattle.law_refinement.proofs.RunsKept.{machine-rises, up_to-is, up_to-in_part, heap-written, heap-synced, archive-synced, slot-called, IsLater}
use Rattle.law_refinement.proofs.RunsStep.{KeepsArchive, runs-move, goes-same, place-move, place-same, runs-done}
use Rattle.law_refinement.proofs.RunsAhead.{RunReady}

-- what a call leaves of the runs
pub record Leaves (tells : Bool) (old new : StoreValue) (after : Machine Value) : Type 0 where
  pub place : JobHasPlace new after
  pub runs : IsTrue tells → RunsStand new after
  pub goes : GoesOn tells old new

-- ---- a group's steps

-- the runs, the job and the archive's bytes are as they were
pub record StaysBeside (tells : Bool) (old new : StoreValue) : Type 0 where
  pub keeps : KeepsArchive old new
  pub archive : new.archive ≡ old.archive
  pub job : new.job ≡ old.job
  pub reclaimed : new.transactions.reclaimed ≡ old.transactions.reclaimed
  pub bytes : IsTrue tells → archive_of new.disk ≡ archive_of old.disk

pub beside-leaves : (tells : Bool) (old new : StoreValue) (m after : Machine Value) → HasRisingTimes 0 m.published → IsLater m after → StaysBeside tells old new
    → JobHasPlace old m → (IsTrue tells → RunsStand old m) → Leaves tells old new after
beside-leaves tells old new m after up later stays place runs =
    let bytes : IsTrue tells → KeepsUpTo old.runs_end (archive_of old.disk) (archive_of new.disk) =
    λ told. up_to-is old.runs_end (archive_of old.disk) (archive_of new.disk) (stays.bytes told) in
    record {
      place = place-same old new m after later.floors stays.job (ap (λ (a : ArchiveValue). a.runs) stays.archive)
          (ap (λ (a : ArchiveValue). a.next) stays.archive) stays.keeps.archived place;
      runs = λ told. runs-move old new m after up later stays.keeps (let marks = (runs told).marks in let same = stays.reclaimed in omega arith) (bytes told)
          (runs told);
      goes = goes-same tells old new stays.keeps bytes;
    }

-- other transactions with the same marks, beside the rest
pub left-beside : (tells : Bool) (v : StoreValue) (m after : Machine Value) (t : TransactionsValue) → IsMachine IsValue m → after.published ≡ m.published
    → after.floors ≡ m.floors → t.mark ≡ v.transactions.mark → t.reclaimed ≡ v.transactions.reclaimed
    → JobHasPlace v m → (IsTrue tells → RunsStand v m) → Leaves tells v (record v { transactions = t }) after
left-beside tells v m after t machine published floors mark reclaimed place runs =
    let later : IsLater m after =
    record {
      more = [];
      published = published ∙ sym (append-nil m.published);
      rising = tt;
      floors = λ relation. let same = ap (λ (f : ℕ → ℕ). f relation) floors in omega arith;
    } in
    beside-leaves tells v (record v { transactions = t }) m after (machine-rises m machine) later
    (record {
      keeps = record { runs = refl; kept = refl; archived = refl; runs_end = refl; mark = mark };
      archive = refl;
      job = refl;
      reclaimed = reclaimed;
      bytes = λ told. refl;
    }) place runs

-- transactions that carry the same marks
record SameMarks (old new : TransactionsValue) : Type 0 where
  mark : new.mark ≡ old.mark
  reclaimed : new.reclaimed ≡ old.reclaimed

marks-is : (old new other : TransactionsValue) → new ≡ other → SameMarks old other → SameMarks old new
marks-is old new other is same = subst (λ (t : TransactionsValue). SameMarks old t) (sym is) same

grouped-marks : (v : TransactionsValue) → SameMarks v (grouped v)
grouped-marks v =
    elim ((v.group == 0) && nat_lt 0 (length v.queue)) as
    (λ (b : Bool). SameMarks v (cond b (record v { group = min (length v.queue) 16; stage = stage.Storing 0 0 }) v)) [
      | true ↦ record { mark = refl; reclaimed = refl }
      | false ↦ record { mark = refl; reclaimed = refl }
    ]

stays-of : (tells : Bool) (old new : StoreValue) → SameMarks old.transactions new.transactions → KeepsJob old new
    → (IsTrue tells → archive_of new.disk ≡ archive_of old.disk) → StaysBeside tells old new
stays-of tells old new marks job bytes = record {
  keeps = record {
    runs = ap (λ (a : ArchiveValue). a.runs) job.archive;
    kept = ap (λ (a : ArchiveValue). a.kept) job.archive;
    archived = job.archived;
    runs_end = job.runs_end;
    mark = marks.mark;
  };
  archive = job.archive;
  job = job.job;
  reclaimed = marks.reclaimed;
  bytes = bytes;
}

stays-same : (tells : Bool) (old new : StoreValue) → new ≡ old → StaysBeside tells old new
stays-same tells old new is =
    subst (λ (x : StoreValue). StaysBeside tells old x) (sym is)
    (record {
      keeps = record { runs = refl; kept = refl; archived = refl; runs_end = refl; mark = refl };
      archive = refl;
      job = refl;
      reclaimed = refl;
      bytes = λ told. refl;
    })

steps-marks : (what : Did) (after : TransactionsValue) (old : StoreValue) (result : Result Did PumpFault) (new : StoreValue) → SameMarks old.transactions after
    → Steps what after old result new → SameMarks old.transactions new.transactions
steps-marks what after old (Ok said) new same steps = marks-is old.transactions new.transactions after steps.answer.1 same
steps-marks what after old (Err why) new same steps =
    marks-is old.transactions new.transactions (broken old.transactions) steps.answer.1 (record { mark = refl; reclaimed = refl })

turned-marks : (s : SlotStage) (turn : TurnState) (old : StoreValue) (what : Did) (new : StoreValue) → IsTurned s turn old what new
    → SameMarks old.transactions new.transactions
turned-marks slots.Begun turn old what new is = marks-is old.transactions new.transactions old.transactions is.1 (record { mark = refl; reclaimed = refl })
turned-marks slots.BodyWritten turn old what new is =
    marks-is old.transactions new.transactions old.transactions is.1 (record { mark = refl; reclaimed = refl })
turned-marks slots.BodySynced turn old what new is = marks-is old.transactions new.transactions old.transactions is.1 (record { mark = refl; reclaimed = refl })
turned-marks slots.GateWritten turn old what new is =
    marks-is old.transactions new.transactions (published old.transactions) is.1 (record { mark = refl; reclaimed = refl })
turned-marks slots.Opened turn old what new is = absurd is

turns-marks : (tells : Bool) (turn : TurnState) (old : StoreValue) (result : Result Did PumpFault) (new : StoreValue) → TurnsSlot tells turn old result new
    → SameMarks old.transactions new.transactions
turns-marks tells turn old (Ok what) new turns = turned-marks turn.stage turn old what new turns.answer
turns-marks tells turn old (Err why) new turns =
    marks-is old.transactions new.transactions (broken old.transactions) turns.answer.transactions (record { mark = refl; reclaimed = refl })

turns-stays : (tells : Bool) (turn : TurnState) (old : StoreValue) (result : Result Did PumpFault) (new : StoreValue) → TurnsSlot tells turn old result new
    → StaysBeside tells old new
turns-stays tells turn old result new turns =
    stays-of tells old new (turns-marks tells turn old result new turns) turns.job
    (λ told. slot-called turn.number turn.body turn.stage (disk_answer result) old.disk.areas new.disk.areas (turns.call.areas told))

written-stays : (tells : Bool) (o : Option StoredExtent) (old : StoreValue) (result : Result Did PumpFault) (new : StoreValue)
    → MatchOption o ⊥ (λ stored. WritesExtent tells stored old result new) → StaysBeside tells old new
written-stays tells None old result new takes = absurd takes
written-stays tells (Some stored) old result new takes =
    stays-of tells old new (steps-marks _ _ old result new (record { mark = refl; reclaimed = refl }) takes.steps) takes.steps.job
    (λ told. heap-written _ stored.image (disk_answer result) old.disk.areas new.disk.areas (takes.call.areas told))

turning-stays : (tells : Bool) (o : Option TurnState) (old : StoreValue) (result : Result Did PumpFault) (new : StoreValue)
    → MatchOption o ⊥ (λ turn. TurnsSlot tells turn old result new) → StaysBeside tells old new
turning-stays tells None old result new takes = absurd takes
turning-stays tells (Some turn) old result new takes = turns-stays tells turn old result new takes

begins-stays : (tells b : Bool) (old : StoreValue) (result : Result Did PumpFault) (new : StoreValue)
    → MatchBool b (Path (Result Did PumpFault) result (Err fault.Busy) × (new ≡ old)) (MayBeginSlot tells old result new) → StaysBeside tells old new
begins-stays tells true old result new takes = stays-same tells old new takes.1
begins-stays tells false old result new (inl short) = stays-same tells old new short.2
begins-stays tells false old result new (inr begins) =
    let turned = turns-stays tells _ (taken (freshly old)) result new begins.turns in
    record {
      keeps = record {
        runs = turned.keeps.runs;
        kept = turned.keeps.kept;
        archived = turned.keeps.archived;
        runs_end = turned.keeps.runs_end;
        mark = turned.keeps.mark;
      };
      archive = turned.archive;
      job = turned.job;
      reclaimed = turned.reclaimed;
      bytes = turned.bytes;
    }

step-stays : (tells : Bool) (s : NextStep) (old : StoreValue) (result : Result Did PumpFault) (new : StoreValue) → TakesStep tells s old result new
    → StaysBeside tells old new
step-stays tells step.Idle old result new takes = stays-same tells old new takes.1
step-stays tells step.WriteExtent old result new takes = written-stays tells (next_extent old.transactions) old result new takes
step-stays tells step.SyncHeap old result new takes =
    stays-of tells old new (steps-marks _ _ old result new (record { mark = refl; reclaimed = refl }) takes.steps) takes.steps.job
    (λ told. heap-synced (disk_answer result) old.disk.areas new.disk.areas (takes.call.areas told))
step-stays tells step.BeginSlot old result new takes = begins-stays tells (is_some (turn_of old.job)) old result new takes
step-stays tells step.AdvanceSlot old result new takes = turning-stays tells old.turn old result new takes

pub pump-stays : (tells : Bool) (old new : StoreValue) (answer : Result Did PumpFault) → Pumps tells old answer new → StaysBeside tells old new
pump-stays tells old new answer pumps = by-failure old.transactions.failed pumps
  where
    by-failure : (b : Bool)
        → MatchBool b (Path (Result Did PumpFault) answer (Err fault.Failed)
        × (new ≡ old)) (TakesStep tells (next_step old.transactions) (started old) answer new) → StaysBeside tells old new
    by-failure true is = stays-same tells old new is.1
    by-failure false takes =
        let from = step-stays tells (next_step old.transactions) (started old) answer new takes in
        let marks = grouped-marks old.transactions in
        record {
          keeps = record {
            runs = from.keeps.runs;
            kept = from.keeps.kept;
            archived = from.keeps.archived;
            runs_end = from.keeps.runs_end;
            mark = from.keeps.mark ∙ marks.mark;
          };
          archive = from.archive;
          job = from.job;
          reclaimed = from.reclaimed ∙ marks.reclaimed;
          bytes = from.bytes;
        }

-- ---- a job's steps

-- what is known of the job's run where the store works and the disk tells its bytes
pub record KnowsRun (v : StoreValue) (m : Machine Value) : Type 0 where
  pub behind : (run : Run) (writer : InWriting) → v.job ≡ Some (record { work = Archive run writer; stage = stages.Writing }) → v.runs_end ≤ writer.at
  pub ready : (run : Run) (writer : InWriting) (t : TurnState) → v.job ≡ Some (record { work = Archive run writer; stage = stages.Turning t })
      → RunReady v m run

-- the store before the step, and the machine after it
module _ (tells : Bool) (v : StoreValue) (m after : Machine Value) (up : HasRisingTimes 0 m.published) (later : IsLater m after) (runs : IsTrue tells
    → RunsStand v m) (knows : IsTrue tells → KnowsRun v m) where
  -- a store with other transactions, another log and another job, and nothing written below the end of the runs
  moved : (t : TransactionsValue) (log : LogState) (turn : Option TurnState) (made : Job) (new : StoreValue) → t.mark ≡ v.transactions.mark → t.reclaimed
      ≡ v.transactions.reclaimed → HasPlace made.work v m
      → (IsTrue tells → KeepsUpTo v.runs_end (archive_of v.disk) (archive_of new.disk))
      → Leaves tells v (record v { transactions = t; log = log; turn = turn; job = Some made; disk = new.disk }) after
  moved t log turn made new mark reclaimed place bytes =
      let keeps : KeepsArchive v (record v { transactions = t; log = log; turn = turn; job = Some made; disk = new.disk }) =
      record { runs = refl; kept = refl; archived = refl; runs_end = refl; mark = mark } in
      record {
        place = place-move made.work v (record v {
          transactions = t;
          log = log;
          turn = turn;
          job = Some made;
          disk = new.disk;
        }) m after later.floors refl refl refl place;
        runs = λ told. runs-move v (record v {
          transactions = t;
          log = log;
          turn = turn;
          job = Some made;
          disk = new.disk;
        }) m after up later keeps (let marks = (runs told).marks in omega arith) (bytes told) (runs told);
        goes = goes-same tells v (record v { transactions = t; log = log; turn = turn; job = Some made; disk = new.disk }) keeps bytes;
      }

  unchanged : (new : StoreValue) → JobHasPlace v m → new ≡ v → Leaves tells v new after
  unchanged new place is =
      subst (λ (x : StoreValue). Leaves tells v x after) (sym is) (beside-leaves tells v v m after up later (stays-same tells v v refl) place runs)

  moves : (what : JobDid) (job made refused : Job) (result : Result JobDid PumpFault) (new : StoreValue) → HasPlace made.work v m → HasPlace refused.work v m
      → (IsTrue tells → KeepsUpTo v.runs_end (archive_of v.disk) (archive_of new.disk))
      → JobMoves what made refused v result new → Leaves tells v new after
  moves what job made refused (Ok said) new made_has refused_has bytes done =
      subst (λ (x : StoreValue). Leaves tells v x after) (sym done.1) (moved v.transactions v.log v.turn made new refl refl made_has bytes)
  moves what job made refused (Err why) new made_has refused_has bytes done =
      subst (λ (x : StoreValue). Leaves tells v x after) (sym done.1) (moved (broken v.transactions) v.log v.turn refused new refl refl refused_has bytes)

  from-same : (new : StoreValue) → (IsTrue tells → archive_of new.disk ≡ archive_of v.disk) → IsTrue tells
      → KeepsUpTo v.runs_end (archive_of v.disk) (archive_of new.disk)
  from-same new same told = up_to-is v.runs_end (archive_of v.disk) (archive_of new.disk) (same told)

  archive-steps : (left : List ℕ) (run : Run) (writer : InWriting) (result : Result JobDid PumpFault) (new : StoreValue) → v.job
      ≡ Some (record { work = Archive run writer; stage = stages.Writing }) → HasPlace (Archive run writer) v m
      → WritesOrSyncs tells left run writer (record { work = Archive run writer; stage = stages.Writing }) v result new → Leaves tells v new after
  archive-steps [] run writer result new is has does =
      moves did.RunSynced (record {
        work = Archive run writer;
        stage = stages.Writing;
      }) _ _ result new has has (from-same new (λ told. archive-synced _ v.disk.areas new.disk.areas (does.call.areas told)))
      does.moves
  archive-steps (b ∷ bs) run writer result new is has does =
      moves did.WroteRun (record { work = Archive run writer; stage = stages.Writing }) _ _ result new has has
      (λ told. up_to-in_part v.runs_end writer.at (length (piece_of writer)) v.disk.areas new.disk.areas ((knows told).behind run writer is)
      (does.call.areas told).in_part) does.moves

  reclaim-steps : (o : Option ℕ) (anchors : Anchors) (source : Sourced) (written : ℕ) (result : Result JobDid PumpFault) (new : StoreValue)
      → HasPlace (Reclaim anchors source written) v m
      → AnchorsOrSync tells o anchors source written (record { work = Reclaim anchors source written; stage = stages.Writing }) v result new
      → Leaves tells v new after
  reclaim-steps None anchors source written result new has does =
      moves did.HeapSynced (record {
        work = Reclaim anchors source written;
        stage = stages.Writing;
      }) _ _ result new has has (from-same new (λ told. heap-synced _ v.disk.areas new.disk.areas (does.call.areas told))) does.moves
  reclaim-steps (Some number) anchors source written result new has does =
      moves did.WroteExtent (record {
        work = Reclaim anchors source written;
        stage = stages.Writing;
      }) _ _ result new has has
      (from-same new (λ told. heap-written _ does.image _ v.disk.areas new.disk.areas (does.call.areas told))) does.moves

  -- a piece is made in the status area
  grown-so : (growth : GrowthState) (new : StoreValue) → (IsTrue tells → archive_of new.disk ≡ archive_of v.disk)
      → Leaves tells v (grown_store growth v new) after
  grown-so growth new same =
      let whole : StoreValue = grown_store growth v new in
      let keeps : KeepsArchive v whole = record { runs = refl; kept = refl; archived = refl; runs_end = refl; mark = refl } in
      record {
        place = tt;
        runs = λ told. runs-move v whole m after up later keeps (let marks = (runs told).marks in omega arith) (from-same new same told) (runs told);
        goes = goes-same tells v whole keeps (from-same new same);
      }

  has-grown : (what : Grew) (growth : GrowthState) (said : JobDid) (new : StoreValue) → (IsTrue tells → archive_of new.disk ≡ archive_of v.disk)
      → HasGrown what growth v said new → Leaves tells v new after
  has-grown grew.WroteZeros growth said new same done =
      subst (λ (x : StoreValue). Leaves tells v x after) (sym done.1)
      (moved v.transactions v.log v.turn (growing (growth_after growth)) new refl refl tt (from-same new same))
  has-grown grew.ZerosSynced growth said new same done =
      subst (λ (x : StoreValue). Leaves tells v x after) (sym done.1)
      (moved v.transactions v.log v.turn (growing (growth_after growth)) new refl refl tt (from-same new same))
  has-grown grew.GateWritten growth said new same done =
      subst (λ (x : StoreValue). Leaves tells v x after) (sym done.1)
      (moved v.transactions v.log v.turn (growing (growth_after growth)) new refl refl tt (from-same new same))
  has-grown grew.Grown growth said new same done = subst (λ (x : StoreValue). Leaves tells v x after) (sym done.2) (grown-so growth new same)

  growth-steps : (growth : GrowthState) (result : Result JobDid PumpFault) (new : StoreValue) → (IsTrue tells → archive_of new.disk ≡ archive_of v.disk)
      → MatchResult result (λ what. HasGrown (grew_at growth.stage) growth v what new) (λ why. Path PumpFault why fault.Failed
      × (new ≡ job_fails v (growing (growth_after growth)) new)) → Leaves tells v new after
  growth-steps growth (Ok said) new same done = has-grown (grew_at growth.stage) growth said new same done
  growth-steps growth (Err why) new same done =
      subst (λ (x : StoreValue). Leaves tells v x after) (sym done.1)
      (moved (broken v.transactions) v.log v.turn (growing (growth_after growth)) new refl refl tt (from-same new same))

  stores : (work : JobWork) (result : Result JobDid PumpFault) (new : StoreValue) → v.job ≡ Some (record { work = work; stage = stages.Writing })
      → HasPlace work v m → Stores tells work (record { work = work; stage = stages.Writing }) v result new → Leaves tells v new after
  stores (Archive run writer) result new is has does = archive-steps writer.left run writer result new is has does
  stores (Floor scope floor floors) result new is has does = absurd does
  stores (Grow growth) result new is has does =
      growth-steps growth result new
      (λ told. ap (λ (a : Areas). a.archive.bytes)
      (growth-alone growth.stage growth.slots growth.piece (disk_answer result) v.disk.areas new.disk.areas (does.call.areas told))) does.answer
  stores (Reclaim anchors source written) result new is has does =
      reclaim-steps (slice_get v.transactions.reserved written) anchors source written result new has does

  -- once the slot is open
  done : (work : JobWork) (t : TurnState) (new : StoreValue) → v.job ≡ Some (record { work = work; stage = stages.Turning t }) → HasPlace work v m
      → (IsTrue tells → archive_of new.disk ≡ archive_of v.disk) → Leaves tells v (slot_opened (work_done work v) t new) after
  done (Archive run writer) t new is has same =
      let whole : StoreValue = slot_opened (work_done (Archive run writer) v) t new in
      record {
        place = tt;
        runs = λ told. runs-done v whole m after run has.0 up later (runs told) ((knows told).ready run writer t is) has.1 has.2 has.3 has.4 refl refl refl refl
            (same told);
        goes = record {
          mark = refl;
          more = has.0 ∷ [];
          runs = has.4;
          end = λ told. let start = ((knows told).ready run writer t is).start in omega arith;
          bytes = from-same new same;
        };
      }
  done (Reclaim anchors source written) t new is has same =
      let whole : StoreValue = slot_opened (work_done (Reclaim anchors source written) v) t new in
      let keeps : KeepsArchive v whole = record { runs = refl; kept = refl; archived = refl; runs_end = refl; mark = refl } in
      record {
        place = tt;
        runs = λ told. runs-move v whole m after up later keeps has (from-same new same told) (runs told);
        goes = goes-same tells v whole keeps (from-same new same);
      }
  done (Floor scope floor floors) t new is has same =
      let whole : StoreValue = slot_opened (work_done (Floor scope floor floors) v) t new in
      let keeps : KeepsArchive v whole = record { runs = refl; kept = refl; archived = refl; runs_end = refl; mark = refl } in
      record {
        place = tt;
        runs = λ told. runs-move v whole m after up later keeps (let marks = (runs told).marks in omega arith) (from-same new same told) (runs told);
        goes = goes-same tells v whole keeps (from-same new same);
      }
  done (Grow growth) t new is has same =
      let whole : StoreValue = slot_opened (work_done (Grow growth) v) t new in
      let keeps : KeepsArchive v whole = record { runs = refl; kept = refl; archived = refl; runs_end = refl; mark = refl } in
      record {
        place = tt;
        runs = λ told. runs-move v whole m after up later keeps (let marks = (runs told).marks in omega arith) (from-same new same told) (runs told);
        goes = goes-same tells v whole keeps (from-same new same);
      }

  -- a job's slot is its own: what is said of its stage is not looked at
  turned : (s : SlotStage) (t : TurnState) (job : Job) (what : JobDid) (new : StoreValue) → v.job ≡ Some (record { work = job.work; stage = stages.Turning t })
      → HasPlace job.work v m → (IsTrue tells → archive_of new.disk ≡ archive_of v.disk)
      → IsJobTurned s t job v what new → Leaves tells v new after
  turned slots.Begun t job what new is has same turns =
      subst (λ (x : StoreValue). Leaves tells v x after) (sym turns.1) (moved v.transactions v.log v.turn _ new refl refl has (from-same new same))
  turned slots.BodyWritten t job what new is has same turns =
      subst (λ (x : StoreValue). Leaves tells v x after) (sym turns.1) (moved v.transactions v.log v.turn _ new refl refl has (from-same new same))
  turned slots.BodySynced t job what new is has same turns =
      subst (λ (x : StoreValue). Leaves tells v x after) (sym turns.1) (moved v.transactions v.log v.turn _ new refl refl has (from-same new same))
  turned slots.GateWritten t job what new is has same turns = subst (λ (x : StoreValue). Leaves tells v x after) (sym turns.2) (done job.work t new is has same)
  turned slots.Opened t job what new is has same turns = absurd turns

  turns : (t : TurnState) (job : Job) (result : Result JobDid PumpFault) (new : StoreValue) → v.job
      ≡ Some (record { work = job.work; stage = stages.Turning t }) → HasPlace job.work v m → TurnsJob tells job t v result new → Leaves tells v new after
  turns t job (Ok what) new is has takes =
      turned t.stage t job what new is has (λ told. slot-called t.number t.body t.stage _ v.disk.areas new.disk.areas (takes.call.areas told)) takes.answer
  turns t job (Err why) new is has takes =
      subst (λ (x : StoreValue). Leaves tells v x after) (sym takes.answer.1)
      (moved (broken v.transactions) v.log v.turn _ new refl refl has
      (from-same new (λ told. slot-called t.number t.body t.stage _ v.disk.areas new.disk.areas (takes.call.areas told))))

  -- the first device call of a slot
  first-turned : (job : Job) (t : TurnState) (taken : TransactionsValue) (result : Result JobDid PumpFault) (new : StoreValue) → t.stage ≡ slots.Begun
      → taken.mark ≡ v.transactions.mark → taken.reclaimed ≡ v.transactions.reclaimed → HasPlace job.work v m
      → TurnsJob tells job t (slot_taken (record v { transactions = taken })) result new → Leaves tells v new after
  first-turned job t taken (Ok what) new begun mark reclaimed has takes =
      let answer : IsJobTurned slots.Begun t job (slot_taken (record v { transactions = taken })) what new =
      subst (λ (s : SlotStage). IsJobTurned s t job (slot_taken (record v { transactions = taken })) what new) begun takes.answer in
      subst (λ (x : StoreValue). Leaves tells v x after) (sym answer.1)
      (moved taken _ v.turn _ new mark reclaimed has
      (from-same new (λ told. slot-called t.number t.body t.stage _ v.disk.areas new.disk.areas (takes.call.areas told))))
  first-turned job t taken (Err why) new begun mark reclaimed has takes =
      subst (λ (x : StoreValue). Leaves tells v x after) (sym takes.answer.1)
      (moved (broken taken) _ v.turn _ new mark reclaimed has
      (from-same new (λ told. slot-called t.number t.body t.stage _ v.disk.areas new.disk.areas (takes.call.areas told))))

  by-work : (work : JobWork) (job : Job) (result : Result JobDid PumpFault) (new : StoreValue) → HasPlace job.work v m
      → TurnsJob tells job (first_turn v job) (slot_taken (made_ready work v)) result new → Leaves tells v new after
  by-work (Archive run writer) job result new has takes = first-turned job (first_turn v job) v.transactions result new refl refl refl has takes
  by-work (Reclaim anchors source written) job result new has takes = first-turned job (first_turn v job) _ result new refl refl refl has takes
  by-work (Floor scope floor floors) job result new has takes = first-turned job (first_turn v job) v.transactions result new refl refl refl has takes
  by-work (Grow growth) job result new has takes = first-turned job (first_turn v job) v.transactions result new refl refl refl has takes

  stored : (b : Bool) (job : Job) (result : Result JobDid PumpFault) (new : StoreValue) → JobHasPlace v m → HasPlace job.work v m
      → MatchBool b (Path (Result JobDid PumpFault) result (Err fault.Busy) × (new ≡ v)) (BeginsJobSlot tells job v result new) → Leaves tells v new after
  stored true job result new place has takes = unchanged new place takes.1
  stored false job result new place has (inl short) = unchanged new place short.2
  stored false job result new place has (inr takes) = by-work job.work job result new has takes

  takes : (work : JobWork) (s : JobStage) (result : Result JobDid PumpFault) (new : StoreValue) → v.job ≡ Some (record { work = work; stage = s })
      → JobHasPlace v m → HasPlace work v m → TakesJobStep tells s (record { work = work; stage = s }) v result new → Leaves tells v new after
  takes work stages.Writing result new is place has does = stores work result new is has does
  takes work stages.Stored result new is place has does = stored (is_some v.turn) (record { work = work; stage = stages.Stored }) result new place has does
  takes work (stages.Turning t) result new is place has does = turns t (record { work = work; stage = stages.Turning t }) result new is has does

  by-job : (o : Option Job) (result : Result JobDid PumpFault) (new : StoreValue) → v.job ≡ o → JobHasPlace v m
      → MatchOption o (Unit {0}) (λ job. HasPlace job.work v m)
      → MatchOption o (Path (Result JobDid PumpFault) result (Ok did.Idle) × (new ≡ v)) (λ job. TakesJobStep tells job.stage job v result new)
      → Leaves tells v new after
  by-job None result new is place has does = unchanged new place does.1
  by-job (Some job) result new is place has does = takes job.work job.stage result new is place has does

  pub works-leaves : (result : Result JobDid PumpFault) (new : StoreValue) → JobHasPlace v m
      → MatchOption v.job ((result ≡ Ok did.Idle) × (new ≡ v)) (λ job. TakesJobStep tells job.stage job v result new) → Leaves tells v new after
  works-leaves result new place does = by-job v.job result new refl place place does

-- a store that has failed does nothing
pub job_pump-leaves : (tells : Bool) (old new : StoreValue) (m after : Machine Value) (answer : Result JobDid PumpFault) → HasRisingTimes 0 m.published
    → IsLater m after → JobHasPlace old m → (IsTrue tells → RunsStand old m)
    → (old.transactions.failed ≡ false → IsTrue tells → KnowsRun old m) → PumpsJob tells old answer new → Leaves tells old new after
job_pump-leaves tells old new m after answer up later place runs knows pumps = by-failure old.transactions.failed refl pumps
  where
    by-failure : (b : Bool) → old.transactions.failed ≡ b
        → MatchBool b ((answer ≡ Err fault.Failed)
        × (new ≡ old)) (MatchOption old.job ((answer ≡ Ok did.Idle) × (new ≡ old)) (λ job. TakesJobStep tells job.stage job old answer new))
        → Leaves tells old new after
    by-failure true is said =
        subst (λ (x : StoreValue). Leaves tells old x after) (sym said.1)
        (beside-leaves tells old old m after up later (stays-same tells old old refl) place runs)
    by-failure false is said = works-leaves tells old m after up later runs (knows is) answer new place said

-- Calls that leave the archive as it is.
use Rattle.std.proofs.Common.{◌≡◌, ◌⊎◌, ℕ, ◌+◌, ◌≤◌, ◌==◌, ◌&&◌, min, nat_lt, Bool, true, false, cond, List, [], ◌∷◌, ◌++◌, length, take, Option, None, Some}
use Rattle.std.proofs.Common.{Result, Ok, Err, refl}
use Rattle.std.proofs.Common.{arith, ap, sym, subst, ◌∙◌, inl, inr, append-nil}
use Rattle.std.specs.Prelude.{IsTrue, MatchBool, MatchOption, MatchResult}
use Rattle.byteorder.specs.Endian.{little_bytes}
use Rattle.disk.specs.Areas.{Areas}
use Rattle.disk.specs.Calls.{DiskState}
use Rattle.disk.specs.declared.area.DeviceFault.{DeviceFault}
use Rattle.history.specs.Histories.{History, HasRisingTimes}
use Rattle.history.specs.Machine.{Machine}
use Rattle.law_image.specs.Values.{Value}
use Rattle.snapshot.specs.Txn.{TxnValue}
use Rattle.group.specs.declared.answers.PumpFault.{PumpFault}
use Rattle.group.specs.declared.answers.PumpFault.TheVariants as pump
use Rattle.group.specs.declared.answers.Submitted.{Submitted}
use Rattle.group.specs.declared.answers.Submitted.TheVariants.{ReadOnly, Queued}
use Rattle.group.specs.declared.answers.SubmitFault.{SubmitFault}
use Rattle.group.specs.declared.answers.SubmitFault.TheVariants as refused
use Rattle.archive.specs.declared.run.RunEntry.{RunEntry}
use Rattle.archive.specs.Parts.{IsRight, EndBy}
use Rattle.archive.specs.Pieces.{InWriting}
use Rattle.archive.specs.Runs.{HoldRuns}
use Rattle.archive.specs.Searches.{archive_of}
use Rattle.timequery.specs.Archives.{ArchiveValue}
use Rattle.timequery.specs.View.{mark_of}
use Rattle.vacuum.specs.Archives.{unwritten}
use Rattle.log_entries.specs.declared.entry.Archive.{Archive}
use Rattle.log_entries.specs.Spelling.{entry_bytes}
use Rattle.log_base.specs.Bases.{mark_of as mark_of_log}
use Rattle.log_base.specs.Rolls.{InRoll}
use Rattle.log_roots.specs.Turning.{RootTurnState}
use Rattle.log_roots.specs.Turning as turning
use Rattle.log_writer.specs.Turns.{Part, Stage, Writing, Syncing, Opening, Settling, Done, Turn, IsCallOf, open_gate, stage_after, chain_turn}
use Rattle.log_writer.specs.Whole.{WholeState}
use Rattle.log_writer.specs.Writer.{WriterState, turn, with_stage}
use Rattle.log_writer.specs.Writer as writers
use Rattle.commits.specs.Values.{CommitsValue, is_own}
use Rattle.commits.specs.Steps.{group_last, grouped}
use Rattle.log_recovery.specs.Live.{part_of}
use Rattle.log_recovery.specs.declared.live.LivePart.TheVariants.{Commits}
use Rattle.log_store.specs.Live.{LiveValue, is_base, with_live}
use Rattle.log_store.specs.Archives.{archive_refusal, records_to, run_to, with_archive, BeginsArchive, BeginsRun, StartsArchive}
use Rattle.log_store.specs.Named.{NamedValue, with_archives}
use Rattle.log_store.specs.Runs as run_calls
use Rattle.log_store.specs.Runs.{piece_of, CallsWith, CallsAt, did_at, stage_behind, behind, with_job_as, WritesRun}
use Rattle.log_store.specs.Gates.{waits_at, waits_to_open}
use Rattle.log_store.specs.Reclaiming as reclaim_calls
use Rattle.log_store.specs.Reclaiming.{AdvancesReclaim, CallsExtents, CallsRoll, StepsReclaim, at_turn, begins_roll, behind_extents, behind_roll, behind_turn}
use Rattle.log_store.specs.Reclaiming.{with_base, with_reclaim_as}
use Rattle.log_store.specs.Reclaims.{BeginsReclaim, IsReclaimBegun, StartsReclaim, reclaim_refusal, roll_left, with_reclaim}
use Rattle.log_store.specs.Values.{LogStoreValue, ReclaimValue}
use Rattle.log_store.specs.Calls.{with_commits}
use Rattle.log_store.specs.Submits.{Submits, SubmitsOwn, AnswersSubmit, with_queued, spent}
use Rattle.log_store.specs.Pumps.{Pumps, TakesStep, bars_groups, BeginsOrWaits, BeginsGroup, AdvancesGroup, Advances, Begins, after_call, with_failure}
use Rattle.log_store.specs.Pumps.{did_of, disk_answer}
use Rattle.log_store.specs.Jobs as jobs
use Rattle.log_store.specs.Jobs.{PumpsJob, StepsJob, StepsAt, StepsReady, AdvancesEntry, StartsFloor, BeginsFloor, BeginsEntry, at_stage, entry_of}
use Rattle.log_store.specs.Jobs.{with_work, with_floor, floor_refusal}
use Rattle.log_store.specs.declared.job.Job.{Job}
use Rattle.log_store.specs.declared.job.JobDid.{JobDid}
use Rattle.log_store.specs.declared.job.JobStage.{JobStage}
use Rattle.log_store.specs.declared.job.JobStage.TheVariants.{Ready, Entering}
use Rattle.log_store.specs.declared.job.JobStage.TheVariants as stages
use Rattle.log_store.specs.declared.job.JobWork.{JobWork}
use Rattle.log_store.specs.declared.job.JobWork.TheVariants.{Floor}
use Rattle.log_store.specs.declared.job.JobWork.TheVariants as works
use Rattle.log_store.specs.declared.reclaim.ReclaimStage.{ReclaimStage}
use Rattle.log_store.specs.declared.reclaim.ReclaimStage.TheVariants.{Rolling, Turning}
use Rattle.log_store.specs.declared.reclaim.ReclaimStage.TheVariants as reclaims
use Rattle.log_store.specs.declared.job.StartFault.{StartFault}
use Rattle.log_store.specs.declared.pump.Did.{Did}
use Rattle.log_store.specs.declared.pump.Did.TheVariants as did
use Rattle.law_refinement.specs.Homes.{AreArchived, KeepsUpTo}
use Rattle.law_refinement.proofs.RunsKept.{IsLater, archived-later, last-rises, heap-written, heap-synced, archive-synced, runs-held, right-kept}
use Rattle.law_refinement.proofs.RunsKept.{status-synced, status-written, up_to-in_part, up_to-is}
use Rattle.law_log_store.proofs.Calls.{AreNamesAlone}
use Rattle.law_log_steps.specs.Store.{BaseReaches, ReclaimReaches}
use Rattle.law_log_steps.proofs.ArchiveStarts.{may-archive}
use Rattle.law_log_steps.proofs.FloorStarts.{may-begin}
use Rattle.law_log_steps.proofs.Pumping.{mark-more}
use Rattle.law_log_steps.proofs.ReclaimStarts.{may-reclaim}
use Rattle.law_log_queries.specs.Archive.{JobHasPlace, WaitsBehind, GoesBehind, BaseHasPlace, ReclaimHasPlace, IsPlaced, RunsStand, GoesOn, end_of}
use Rattle.law_log_queries.proofs.Runs.{ends-all}

-- the log names the same rolls, and its reclaim mark is the same
pub record SameNames (old new : LogStoreValue) : Type 0 where
  pub rolls : new.named.rolls ≡ old.named.rolls
  pub mark : mark_of_log new.live.chains ≡ mark_of_log old.live.chains

-- so it is, or the store works
abbrev pub NamesOrWorks : LogStoreValue → LogStoreValue → Type 0
NamesOrWorks old new = SameNames old new ⊎ (new.commits.failed ≡ false)

-- what of a store its archive rests on is as it was
pub record LeavesArchive (tells : Bool) (old new : LogStoreValue) : Type 0 where
  pub runs : new.archive.runs ≡ old.archive.runs
  pub kept : new.archive.kept ≡ old.archive.kept
  -- the log names as much in the archive, which ends no earlier
  pub upto : new.named.upto ≡ old.named.upto
  pub end : old.named.end ≤ new.named.end
  pub reclaimed : new.commits.reclaimed ≡ old.commits.reclaimed
  pub mark : new.commits.mark ≡ old.commits.mark
  pub place : IsPlaced old → IsPlaced new
  pub names : NamesOrWorks old new
  -- no byte of its runs is written, nor of anything else that the log names
  pub bytes : IsTrue tells → KeepsUpTo (end_of old.archive.runs) (archive_of old.disk) (archive_of new.disk)
  pub all : IsTrue tells → KeepsUpTo old.named.end (archive_of old.disk) (archive_of new.disk)

-- what is in memory of that
record LeavesMemory (old new : LogStoreValue) : Type 0 where
  runs : new.archive.runs ≡ old.archive.runs
  kept : new.archive.kept ≡ old.archive.kept
  upto : new.named.upto ≡ old.named.upto
  end : old.named.end ≤ new.named.end
  reclaimed : new.commits.reclaimed ≡ old.commits.reclaimed
  mark : new.commits.mark ≡ old.commits.mark
  place : IsPlaced old → IsPlaced new
  names : NamesOrWorks old new

same-memory : (v : LogStoreValue) → LeavesMemory v v
same-memory v = record {
  runs = refl;
  kept = refl;
  upto = refl;
  end = omega arith;
  reclaimed = refl;
  mark = refl;
  place = λ place. place;
  names = inl (record { rolls = refl; mark = refl });
}

moved-memory : (old next new : LogStoreValue) → new ≡ next → LeavesMemory old next → LeavesMemory old new
moved-memory old next new is leaves = subst (λ (v : LogStoreValue). LeavesMemory old v) (sym is) leaves

-- where the disk is the same, or says the same up to where the runs end, and up to where all ends that the log names
on-disk : (tells : Bool) (old new : LogStoreValue) → LeavesMemory old new
    → (IsTrue tells → (end : ℕ) → (end ≡ end_of old.archive.runs) ⊎ (end ≡ old.named.end) → KeepsUpTo end (archive_of old.disk) (archive_of new.disk))
    → LeavesArchive tells old new
on-disk tells old new is keeps = record {
  runs = is.runs;
  kept = is.kept;
  upto = is.upto;
  end = is.end;
  reclaimed = is.reclaimed;
  mark = is.mark;
  place = is.place;
  names = is.names;
  bytes = λ told. keeps told (end_of old.archive.runs) (inl refl);
  all = λ told. keeps told old.named.end (inr refl);
}

same-disk : (tells : Bool) (old new : LogStoreValue) → LeavesMemory old new → archive_of new.disk ≡ archive_of old.disk → LeavesArchive tells old new
same-disk tells old new is same =
    on-disk tells old new is (λ told end either. up_to-is end (archive_of old.disk) (archive_of new.disk) same)

-- what has the same of both names the same
names-as : (old new : LogStoreValue) → new.named ≡ old.named → new.live ≡ old.live → SameNames old new
names-as old new named live =
    record { rolls = ap (λ (n : NamedValue). n.rolls) named; mark = ap (λ (l : LiveValue). mark_of_log l.chains) live }

pub leaves-same : (tells : Bool) (v : LogStoreValue) → LeavesArchive tells v v
leaves-same tells v = same-disk tells v v (same-memory v) refl

-- a run that is in the making has its place still
same-place : (old new : LogStoreValue) → new.archive ≡ old.archive → new.named ≡ old.named → new.job ≡ old.job → new.reclaim ≡ old.reclaim
    → IsPlaced old → IsPlaced new
same-place old new archive named job reclaim place = (
  subst (λ (j : Option Job). JobHasPlace new.named new.archive.runs new.archive.next j) (sym job)
      (subst (λ (a : ArchiveValue). JobHasPlace new.named a.runs a.next old.job) (sym archive)
      (subst (λ (n : NamedValue). JobHasPlace n old.archive.runs old.archive.next old.job) (sym named) place.0)),
  subst (λ (r : Option ReclaimValue). ReclaimHasPlace new.job new.named.end r) (sym reclaim)
      (subst (λ (j : Option Job). ReclaimHasPlace j new.named.end old.reclaim) (sym job)
      (subst (λ (n : NamedValue). ReclaimHasPlace old.job n.end old.reclaim) (sym named) place.1)),
)

-- beside a job there is no reclaim, whatever job there is then
pub beside-place : (before after : Option Job) (job : Job) (end then : ℕ) (o : Option ReclaimValue) → before ≡ Some job → ReclaimHasPlace before end o
    → ReclaimHasPlace after then o
beside-place before after job end then None is-job place = tt
beside-place before after job end then (Some r) is-job place =
    absurd (let alone : before ≡ None = place.alone in let no : Some job ≡ None = sym is-job ∙ alone in cc)

none-place : (after : Option Job) (end : ℕ) (o : Option ReclaimValue) → o ≡ None → ReclaimHasPlace after end o
none-place after end None none = tt
none-place after end (Some r) none = absurd (let no : Some r ≡ None = none in cc)

moved : (tells : Bool) (old next new : LogStoreValue) → new ≡ next → LeavesArchive tells old next → LeavesArchive tells old new
moved tells old next new is leaves = subst (λ (v : LogStoreValue). LeavesArchive tells old v) (sym is) leaves

both-leave : (tells : Bool) (a b c : LogStoreValue) → SameNames a b → LeavesArchive tells a b → LeavesArchive tells b c → LeavesArchive tells a c
both-leave tells a b c same first next = record {
  runs = next.runs ∙ first.runs;
  kept = next.kept ∙ first.kept;
  upto = next.upto ∙ first.upto;
  end = (let later = next.end in let before = first.end in omega (arith, later, before));
  reclaimed = next.reclaimed ∙ first.reclaimed;
  mark = next.mark ∙ first.mark;
  place = λ place. next.place (first.place place);
  names = by-names next.names;
  bytes = λ told at part low held.
      next.bytes told at part (subst (λ (runs : List RunEntry). at + length part ≤ end_of runs) (sym first.runs) low) (first.bytes told at part low held);
  all = λ told at part low held. next.all told at part (let later = first.end in omega (arith, low, later)) (first.all told at part low held);
}
  where
    by-names : NamesOrWorks b c → NamesOrWorks a c
    by-names (inl is) = inl (record { rolls = is.rolls ∙ same.rolls; mark = is.mark ∙ same.mark })
    by-names (inr works) = inr works

-- ---- transactions and tickets

pub alone-leaves : (tells : Bool) (old new : LogStoreValue) → AreNamesAlone old.commits new.commits → new ≡ with_commits old new.commits
    → LeavesArchive tells old new
alone-leaves tells old new alone is =
    same-disk tells old new (record {
      runs = ap (λ (v : LogStoreValue). v.archive.runs) is;
      kept = ap (λ (v : LogStoreValue). v.archive.kept) is;
      upto = ap (λ (v : LogStoreValue). v.named.upto) is;
      end = (let same = ap (λ (v : LogStoreValue). v.named.end) is in omega (arith, same));
      reclaimed = ap (λ (c : CommitsValue). c.reclaimed) alone.new_is;
      mark = ap (λ (c : CommitsValue). c.mark) alone.new_is;
      place = same-place old new (ap (λ (v : LogStoreValue). v.archive) is) (ap (λ (v : LogStoreValue). v.named) is) (ap (λ (v : LogStoreValue). v.job) is)
          (ap (λ (v : LogStoreValue). v.reclaim) is);
      names = inl (names-as old new (ap (λ (v : LogStoreValue). v.named) is) (ap (λ (v : LogStoreValue). v.live) is));
    }) (ap (λ (v : LogStoreValue). archive_of v.disk) is)

answer-leaves : (tells : Bool) (v new : LogStoreValue) (txn : TxnValue) (label now : ℕ) (answer : Result Submitted SubmitFault)
    → AnswersSubmit v txn label now answer new → LeavesArchive tells v new
answer-leaves tells v new txn label now (Ok (ReadOnly snapshot)) is = moved tells v v new is.2 (leaves-same tells v)
answer-leaves tells v new txn label now (Ok (Queued ticket)) is =
    let queued : LogStoreValue = with_queued v label ticket.time txn.writes in
    moved tells v queued new is.2 (same-disk tells v queued
    (record {
      runs = refl;
      kept = refl;
      upto = refl;
      end = omega arith;
      reclaimed = refl;
      mark = refl;
      place = λ place. place;
      names = inl (record { rolls = refl; mark = refl });
    }) refl)
answer-leaves tells v new txn label now (Err why) is = moved tells v v new is.1 (leaves-same tells v)

own-leaves : (tells : Bool) (v new : LogStoreValue) (txn : TxnValue) (label now : ℕ) (answer : Result Submitted SubmitFault)
    → SubmitsOwn v txn label now answer new → LeavesArchive tells v new
own-leaves tells v new txn label now answer submits = by-failed v.commits.failed submits
  where
    by-failed : (b : Bool) → MatchBool b ((answer ≡ Err refused.Failed) × (new ≡ v)) (AnswersSubmit v txn label now answer new)
        → LeavesArchive tells v new
    by-failed true is = moved tells v v new is.1 (leaves-same tells v)
    by-failed false is = answer-leaves tells v new txn label now answer is

pub submit-leaves : (tells : Bool) (old new : LogStoreValue) (txn : TxnValue) (label now : ℕ) (answer : Result Submitted SubmitFault)
    → Submits old txn label now answer new → LeavesArchive tells old new
submit-leaves tells old new txn label now answer submits = by-own (is_own old.commits txn) submits
  where
    by-own : (b : Bool)
        → MatchBool b (SubmitsOwn (spent old txn.number) txn label now answer new) ((answer ≡ Err refused.Stranger) × (new ≡ old))
        → LeavesArchive tells old new
    by-own true is =
        both-leave tells old (spent old txn.number) new (record { rolls = refl; mark = refl })
        (same-disk tells old (spent old txn.number)
        (record {
          runs = refl;
          kept = refl;
          upto = refl;
          end = omega arith;
          reclaimed = refl;
          mark = refl;
          place = λ place. place;
          names = inl (record { rolls = refl; mark = refl });
        }) refl)
        (own-leaves tells (spent old txn.number) new txn label now answer is)
    by-own false is = moved tells old old new is.1 (leaves-same tells old)

-- ---- steps of a group

-- a call of the group's chain writes and syncs the heap alone
call-bytes : (t : Turn) (stage : Stage) (result : Result (Unit {0}) DeviceFault) (old new : Areas) → IsCallOf t stage result old new
    → new.archive.bytes ≡ old.archive.bytes
call-bytes t (Writing done (p ∷ rest)) result old new call = heap-written p.place p.bytes result old new call
call-bytes t (Writing done []) result old new call = heap-written t.closes (0 ∷ []) result old new call
call-bytes t Syncing result old new call = heap-synced result old new call
call-bytes t Opening result old new call = heap-written t.gate (open_gate ∷ []) result old new call
call-bytes t Settling result old new call = heap-synced result old new call
call-bytes t Done result old new call = absurd call

-- and memory has the same archive
after-leaves : (old : LogStoreValue) (w : WriterState) (stage : Stage) → LeavesMemory old (after_call old w stage)
after-leaves old w (Writing done rest) =
    record {
      runs = refl;
      kept = refl;
      upto = refl;
      end = omega arith;
      reclaimed = refl;
      mark = refl;
      place = λ place. place;
      names = inl (record { rolls = refl; mark = refl });
    }
after-leaves old w Syncing = record {
  runs = refl;
  kept = refl;
  upto = refl;
  end = omega arith;
  reclaimed = refl;
  mark = refl;
  place = λ place. place;
  names = inl (record { rolls = refl; mark = refl });
}
after-leaves old w Opening = record {
  runs = refl;
  kept = refl;
  upto = refl;
  end = omega arith;
  reclaimed = refl;
  mark = refl;
  place = λ place. place;
  names = inl (record { rolls = refl; mark = refl });
}
after-leaves old w Settling = record {
  runs = refl;
  kept = refl;
  upto = refl;
  end = omega arith;
  reclaimed = refl;
  mark = refl;
  place = λ place. place;
  names = inl (record { rolls = refl; mark = refl });
}
after-leaves old w Done = same-memory old

-- over another disk too
other-disk : (old next : LogStoreValue) (disk : DiskState) → LeavesMemory old next → LeavesMemory old (record next { disk = disk })
other-disk old next disk is =
    record { runs = is.runs; kept = is.kept; upto = is.upto; end = is.end; reclaimed = is.reclaimed; mark = is.mark; place = is.place; names = other is.names }
  where
    other : NamesOrWorks old next → NamesOrWorks old (record next { disk = disk })
    other (inl same) = inl (record { rolls = same.rolls; mark = same.mark })
    other (inr works) = inr works

-- and where the device refuses a call
failed-memory : (v : LogStoreValue) → LeavesMemory v (with_failure v)
failed-memory v = record {
  runs = refl;
  kept = refl;
  upto = refl;
  end = omega arith;
  reclaimed = refl;
  mark = refl;
  place = λ place. place;
  names = inl (record { rolls = refl; mark = refl });
}

advance-leaves : (tells : Bool) (w : WriterState) (old new : LogStoreValue) (answer : Result Did PumpFault) → Advances tells w old answer new
    → LeavesArchive tells old new
advance-leaves tells w old new answer advances =
    on-disk tells old new (memory answer advances.answer) (λ told end either.
    up_to-is end (archive_of old.disk) (archive_of new.disk)
    (call-bytes (turn w) w.stage (disk_answer answer) old.disk.areas new.disk.areas (advances.call told)))
  where
    memory : (a : Result Did PumpFault)
        → MatchResult a (λ what. (what ≡ did_of (writers.did w.stage) old.commits.group) × (new ≡ record (after_call old w w.stage) { disk = new.disk }))
        (λ why. (why ≡ pump.Failed) × (new ≡ record (with_failure old) { disk = new.disk }))
        → LeavesMemory old new
    memory (Ok what) is =
        moved-memory old (record (after_call old w w.stage) { disk = new.disk }) new is.1
        (other-disk old (after_call old w w.stage) new.disk (after-leaves old w w.stage))
    memory (Err why) is =
        moved-memory old (record (with_failure old) { disk = new.disk }) new is.1 (other-disk old (with_failure old) new.disk (failed-memory old))

-- what a group that begins leaves of what is in memory
grouped-same : (f : CommitsValue → ℕ) (c : CommitsValue) → f (record c { group = min 1024 (length c.queue) }) ≡ f c → f (grouped 1024 c) ≡ f c
grouped-same f c same =
    elim ((c.group == 0) && nat_lt 0 (length c.queue)) as (λ (b : Bool). f (cond b (record c { group = min 1024 (length c.queue) }) c) ≡ f c) [
      | true ↦ same
      | false ↦ refl
    ]

-- the group's chain is behind the base
begun-names : (old begun : LogStoreValue) → Begins old begun → SameNames old begun
begun-names old begun begins = record {
  rolls = ap (λ (v : LogStoreValue). v.named.rolls) begins.new_is;
  mark = ap (λ (v : LogStoreValue). mark_of_log v.live.chains) begins.new_is
      ∙ mark-more old.live.chains (record { numbers = begins.numbers; part = Commits (group_last (grouped 1024 old.commits)) }) refl;
}

begin-leaves : (tells : Bool) (old begun : LogStoreValue) → Begins old begun → LeavesArchive tells old begun
begin-leaves tells old begun begins =
    let is = begins.new_is in
    same-disk tells old begun (record {
      runs = ap (λ (v : LogStoreValue). v.archive.runs) is;
      kept = ap (λ (v : LogStoreValue). v.archive.kept) is;
      upto = ap (λ (v : LogStoreValue). v.named.upto) is;
      end = (let same = ap (λ (v : LogStoreValue). v.named.end) is in omega (arith, same));
      reclaimed = ap (λ (v : LogStoreValue). v.commits.reclaimed) is ∙ grouped-same (λ (c : CommitsValue). c.reclaimed) old.commits refl;
      mark = ap (λ (v : LogStoreValue). v.commits.mark) is ∙ grouped-same (λ (c : CommitsValue). c.mark) old.commits refl;
      place = same-place old begun (ap (λ (v : LogStoreValue). v.archive) is) (ap (λ (v : LogStoreValue). v.named) is) (ap (λ (v : LogStoreValue). v.job) is)
          (ap (λ (v : LogStoreValue). v.reclaim) is);
      names = inl (begun-names old begun begins);
    }) (ap (λ (v : LogStoreValue). archive_of v.disk) is)

pub pump-leaves : (tells : Bool) (old new : LogStoreValue) (answer : Result Did PumpFault) → Pumps tells old answer new → LeavesArchive tells old new
pump-leaves tells old new answer pumps = by-failed old.commits.failed pumps
  where
    same : new ≡ old → LeavesArchive tells old new
    same is = moved tells old old new is (leaves-same tells old)

    advanced : (begun : LogStoreValue) (t : Option WriterState) → Begins old begun → AdvancesGroup tells begun t answer new → LeavesArchive tells old new
    advanced begun None begins advances = absurd advances
    advanced begun (Some w) begins advances =
        both-leave tells old begun new (begun-names old begun begins) (begin-leaves tells old begun begins) (advance-leaves tells w begun new answer advances)

    begins : BeginsGroup tells old answer new → LeavesArchive tells old new
    begins (inl none) = same none.1
    begins (inr begun) = advanced begun.0 begun.0.turn begun.1 begun.2

    by-job : (b : Bool) → MatchBool b ((answer ≡ Err pump.Busy) × (new ≡ old)) (BeginsGroup tells old answer new) → LeavesArchive tells old new
    by-job true busy = same busy.1
    by-job false begun = begins begun

    by-queue : (b : Bool) → MatchBool b ((answer ≡ Ok did.Idle) × (new ≡ old)) (BeginsOrWaits tells old answer new) → LeavesArchive tells old new
    by-queue true idle = same idle.1
    by-queue false begun = by-job (bars_groups old.job) begun

    by-gate : (w : WriterState) (b : Bool) → MatchBool b ((answer ≡ Err pump.Busy) × (new ≡ old)) (Advances tells w old answer new)
        → LeavesArchive tells old new
    by-gate w true busy = same busy.1
    by-gate w false step = advance-leaves tells w old new answer step

    by-turn : (t : Option WriterState) → TakesStep tells old t answer new → LeavesArchive tells old new
    by-turn None step = by-queue (length old.commits.queue == 0) step
    by-turn (Some w) step = by-gate w (waits_to_open old.reclaim w.stage) step

    by-failed : (b : Bool) → MatchBool b ((answer ≡ Err pump.Failed) × (new ≡ old)) (TakesStep tells old old.turn answer new) → LeavesArchive tells old new
    by-failed true failed = same failed.1
    by-failed false step = by-turn old.turn step

-- ---- jobs

-- A run that was made is one of the log's.
pub record AddsRun (tells : Bool) (old new : LogStoreValue) : Type 0 where
  pub worked : old.commits.failed ≡ false
  pub a : Archive
  pub archives : List Archive
  pub w : WriterState
  pub is-job : old.job ≡ Some (record { work = works.Archive a archives; stage = Entering w })
  pub runs : new.archive.runs ≡ old.archive.next
  pub kept : new.archive.kept ≡ old.archive.kept
  pub named : new.named ≡ with_archives archives a old.named
  pub no-job : new.job ≡ None
  pub reclaim : new.reclaim ≡ old.reclaim
  pub reclaimed : new.commits.reclaimed ≡ old.commits.reclaimed
  pub mark : new.commits.mark ≡ old.commits.mark
  pub live : new.live ≡ old.live
  pub bytes : IsTrue tells → archive_of new.disk ≡ archive_of old.disk

-- its job at another stage
stage-leaves : (old : LogStoreValue) (job : Job) (stage : JobStage) → old.job ≡ Some job → LeavesMemory old (at_stage old job stage)
stage-leaves old job stage is-job = record {
  runs = refl;
  kept = refl;
  upto = refl;
  end = omega arith;
  reclaimed = refl;
  mark = refl;
  place = λ place. (
    subst (λ (j : Option Job). JobHasPlace old.named old.archive.runs old.archive.next j) is-job place.0,
    beside-place old.job (Some (record job { stage = stage })) job old.named.end old.named.end old.reclaim is-job place.1,
  );
  names = inl (record { rolls = refl; mark = refl });
}

-- a call of the entry's chain: the last one of an archive's adds its run
module _ (tells : Bool) (work : JobWork) (w : WriterState) (old new : LogStoreValue) (works-on : old.commits.failed ≡ false)
    (is-job : old.job ≡ Some (record { work = work; stage = Entering w })) where
  abbrev entering-job : Job
  entering-job = record { work = work; stage = Entering w }

  entry-call-moves : (answer : Result JobDid PumpFault) → jobs.Advances tells entering-job w old answer new
      → LeavesArchive tells old new ⊎ ((w.stage ≡ Settling) × AddsRun tells old new)
  entry-call-moves answer advances = by-answer answer advances.answer
    where
      same : IsTrue tells → archive_of new.disk ≡ archive_of old.disk
      same told = call-bytes (turn w) w.stage (run_calls.disk_answer answer) old.disk.areas new.disk.areas (advances.call told)

      leaving : (next : LogStoreValue) → LeavesMemory old next → new ≡ record next { disk = new.disk } → LeavesArchive tells old new
      leaving next leaves is =
          on-disk tells old new (moved-memory old (record next { disk = new.disk }) new is (other-disk old next new.disk leaves)) (λ told end either.
          up_to-is end (archive_of old.disk) (archive_of new.disk) (same told))

      further : (next : WriterState) → new ≡ record (at_stage old entering-job (Entering next)) { disk = new.disk } → LeavesArchive tells old new
      further next is = leaving (at_stage old entering-job (Entering next)) (stage-leaves old entering-job (Entering next) is-job) is

      ended : (kind : JobWork) → work ≡ kind → new ≡ record (record (with_work kind old) { job = None }) { disk = new.disk }
          → LeavesArchive tells old new ⊎ AddsRun tells old new
      ended (Floor floor kept) kind-is is =
          inl (leaving (record (with_work (Floor floor kept) old) { job = None })
          (record {
            runs = refl;
            kept = refl;
            upto = refl;
            end = omega arith;
            reclaimed = refl;
            mark = refl;
            place = λ place. (tt, beside-place old.job None entering-job old.named.end old.named.end old.reclaim is-job place.1);
            names = inl (record { rolls = refl; mark = refl });
          }) is)
      ended (works.Archive a archives) kind-is is = inr (record {
        worked = works-on;
        a = a;
        archives = archives;
        w = w;
        is-job = is-job ∙ ap (λ (k : JobWork). Some (record { work = k; stage = Entering w })) kind-is;
        runs = ap (λ (v : LogStoreValue). v.archive.runs) is;
        kept = ap (λ (v : LogStoreValue). v.archive.kept) is;
        named = ap (λ (v : LogStoreValue). v.named) is;
        no-job = ap (λ (v : LogStoreValue). v.job) is;
        reclaim = ap (λ (v : LogStoreValue). v.reclaim) is;
        reclaimed = ap (λ (v : LogStoreValue). v.commits.reclaimed) is;
        mark = ap (λ (v : LogStoreValue). v.commits.mark) is;
        live = ap (λ (v : LogStoreValue). v.live) is;
        bytes = same;
      })

      settled : w.stage ≡ Settling → LeavesArchive tells old new ⊎ AddsRun tells old new
          → LeavesArchive tells old new ⊎ ((w.stage ≡ Settling) × AddsRun tells old new)
      settled at (inl leaves) = inl leaves
      settled at (inr adds) = inr (at, adds)

      by-stage : (k : Stage) → w.stage ≡ k → new ≡ record (jobs.after_call old entering-job w k) { disk = new.disk }
          → LeavesArchive tells old new ⊎ ((w.stage ≡ Settling) × AddsRun tells old new)
      by-stage (Writing done rest) e is = inl (further (with_stage w (stage_after w.stage)) is)
      by-stage Syncing e is = inl (further (with_stage w (stage_after w.stage)) is)
      by-stage Opening e is = inl (further (with_stage w (stage_after w.stage)) is)
      by-stage Settling e is = settled e (ended work refl is)
      by-stage Done e is = inl (leaving old (same-memory old) is)

      by-answer : (a : Result JobDid PumpFault)
          → MatchResult a (λ what. (what ≡ jobs.did_of (writers.did w.stage)) × (new ≡ record (jobs.after_call old entering-job w w.stage) { disk = new.disk }))
          (λ why. (why ≡ pump.Failed) × (new ≡ record (with_failure old) { disk = new.disk }))
          → LeavesArchive tells old new ⊎ ((w.stage ≡ Settling) × AddsRun tells old new)
      by-answer (Ok what) is = by-stage w.stage refl is.1
      by-answer (Err why) is = inl (leaving (with_failure old) (failed-memory old) is.1)

-- the place where a run is written is behind the others, and behind all that the log names
abbrev pub IsPastAll : LogStoreValue → InWriting → Type 0
IsPastAll v writer = (end_of v.archive.runs ≤ writer.at) × (v.named.end ≤ writer.at)

-- a call of the writing of a run, which goes behind the others
module _ (tells : Bool) (job : Job) (writer : InWriting) (old new : LogStoreValue) (is-job : old.job ≡ Some job) (e : job.stage ≡ stages.Writing writer)
    (past : IsTrue tells → IsPastAll old writer) where
  run-bytes : (result : Result (Unit {0}) DeviceFault) (left : List ℕ) (end : ℕ) → end ≤ writer.at
      → CallsWith left writer result old.disk.areas new.disk.areas → KeepsUpTo end (archive_of old.disk) (archive_of new.disk)
  run-bytes result [] end low call =
      up_to-is end (archive_of old.disk) (archive_of new.disk) (archive-synced result old.disk.areas new.disk.areas call)
  run-bytes result (b ∷ bs) end low call =
      up_to-in_part end writer.at (length (piece_of writer)) old.disk.areas new.disk.areas low call.in_part

  low : IsTrue tells → (end : ℕ) → (end ≡ end_of old.archive.runs) ⊎ (end ≡ old.named.end) → end ≤ writer.at
  low told end (inl is) = let before = (past told).0 in omega (arith, before, is)
  low told end (inr is) = let before = (past told).1 in omega (arith, before, is)

  run-leaves : (answer : Result JobDid PumpFault) → WritesRun tells job old answer new → LeavesArchive tells old new
  run-leaves answer writes =
      on-disk tells old new (memory answer writes.answer) (λ told end either.
      run-bytes (run_calls.disk_answer answer) writer.left end (low told end either)
      (subst (λ (k : JobStage). CallsAt k (run_calls.disk_answer answer) old.disk.areas new.disk.areas) e (writes.call told)))
    where
      memory : (a : Result JobDid PumpFault)
          → MatchResult a (λ what. (what ≡ did_at job.stage) × (new ≡ record (with_job_as old (behind job true)) { disk = new.disk }))
          (λ why. (why ≡ pump.Failed) × (new ≡ record (with_failure (with_job_as old (behind job false))) { disk = new.disk }))
          → LeavesMemory old new
      memory (Ok what) is =
          let next : LogStoreValue = at_stage old job (stage_behind job.stage true) in
          moved-memory old (record next { disk = new.disk }) new is.1
          (other-disk old next new.disk (stage-leaves old job (stage_behind job.stage true) is-job))
      memory (Err why) is =
          let next : LogStoreValue = at_stage old job (stage_behind job.stage false) in
          let left = stage-leaves old job (stage_behind job.stage false) is-job in
          moved-memory old (record (with_failure next) { disk = new.disk }) new is.1
          (other-disk old (with_failure next) new.disk
          (record {
            runs = left.runs;
            kept = left.kept;
            upto = left.upto;
            end = left.end;
            reclaimed = left.reclaimed;
            mark = left.mark;
            place = left.place;
            names = inl (record { rolls = refl; mark = refl });
          }))

-- an entry begins, and its first call is made
entry-begins-leaves : (tells : Bool) (old new : LogStoreValue) (job : Job) (begun : LogStoreValue) (answer : Result JobDid PumpFault)
    → old.commits.failed ≡ false → old.job ≡ Some job → BeginsEntry old job begun → AdvancesEntry tells begun.job begun answer new
    → LeavesArchive tells old new
entry-begins-leaves tells old new job begun answer works-on is-job b advances =
    let writer : WriterState = record {
      numbers = b.numbers;
      link = b.link;
      content = entry_bytes (entry_of job.work);
      stage = Writing [] (chain_turn b.numbers b.link (entry_bytes (entry_of job.work))).parts;
    } in
    let target : LogStoreValue =
    record (at_stage old job (Entering writer)) { room = b.room; live = with_live old.live b.numbers (part_of (entry_of job.work)) } in
    let on = stage-leaves old job (Entering writer) is-job in
    let names : SameNames old target = record {
      rolls = refl;
      mark = mark-more old.live.chains (record { numbers = b.numbers; part = part_of (entry_of job.work) }) (no-base job.work);
    } in
    both-leave tells old target new names
    (same-disk tells old target
    (record { runs = refl; kept = refl; upto = refl; end = omega arith; reclaimed = refl; mark = refl; place = on.place; names = inl names }) refl)
    (first writer.stage
    (λ at. let no : Writing [] (chain_turn b.numbers b.link (entry_bytes (entry_of job.work))).parts ≡ Settling = at in cc)
    (entry-call-moves tells job.work writer target new works-on refl answer
    (subst (λ (x : LogStoreValue). AdvancesEntry tells x.job x answer new) b.new_is advances)))
  where
    no-base : (work : JobWork) → is_base (part_of (entry_of work)) ≡ false
    no-base (Floor floor kept) = refl
    no-base (works.Archive a archives) = refl

    -- which is no last one
    first : {X Y : Type 0} (k : Stage) → (k ≡ Settling → ⊥) → X ⊎ ((k ≡ Settling) × Y) → X
    first k never (inl x) = x
    first k never (inr last) = absurd (never last.0)

-- ---- reclaims

-- where the runs end, and what a reclaim then names
pub record BaseIsPast (tells : Bool) (v : LogStoreValue) : Type 0 where
  pub ends : IsTrue tells → end_of v.archive.runs ≤ v.named.end
  pub reaches : ReclaimReaches v.named.upto v.reclaim
  pub place : ReclaimHasPlace v.job v.named.end v.reclaim

module _ (v : LogStoreValue) (r : ReclaimValue) (works-on : v.commits.failed ≡ false) (runs : v.reclaim ≡ Some r) (reaches : BaseReaches v.named.upto r)
    (past : BaseHasPlace v.job v.named.end r) where
  -- it is further, and names the same
  goes-further : (after : ReclaimValue) → after.named ≡ r.named → WaitsBehind v.named.end after.roll → GoesBehind v.named.end after.stage
      → LeavesMemory v (with_reclaim_as v after)
  goes-further after named waits goes = record {
    runs = refl;
    kept = refl;
    upto = refl;
    end = omega arith;
    reclaimed = refl;
    mark = refl;
    place = λ place. (
      place.0,
      record {
        alone = past.alone;
        waits = waits;
        goes = goes;
        named = (let low = past.named in let same = ap (λ (n : NamedValue). n.end) named in omega (arith, low, same));
      },
    );
    names = inl (record { rolls = refl; mark = refl });
  }

  -- the base is the log's
  base-leaves : LeavesMemory v (with_base v r)
  base-leaves = record {
    runs = refl;
    kept = refl;
    upto = reaches.named;
    end = past.named;
    reclaimed = refl;
    mark = refl;
    place = λ place. (subst (λ (j : Option Job). JobHasPlace r.named v.archive.runs v.archive.next j) (sym past.alone) tt, tt);
    names = inr works-on;
  }

  roll-begins : (roll : Option InRoll) → r.roll ≡ roll → LeavesMemory v (with_reclaim_as v (begins_roll v.roots r roll))
  roll-begins None none = goes-further (begins_roll v.roots r None) refl past.waits tt
  roll-begins (Some roll) some =
      goes-further (begins_roll v.roots r (Some roll)) refl tt (subst (WaitsBehind v.named.end) some past.waits)

  extents-go : (anchors base : WholeState) (xs ys : List Part) → LeavesMemory v (with_reclaim_as v (behind_extents v.roots r anchors base xs ys))
  extents-go anchors base (x ∷ xs) ys = goes-further (behind_extents v.roots r anchors base (x ∷ xs) ys) refl past.waits tt
  extents-go anchors base [] (y ∷ ys) = goes-further (behind_extents v.roots r anchors base [] (y ∷ ys)) refl past.waits tt
  extents-go anchors base [] [] = roll-begins r.roll refl

  pieces-go : (roll : InRoll) (bs : List ℕ) → v.named.end ≤ roll.at → LeavesMemory v (with_reclaim_as v (behind_roll v.roots r roll bs))
  pieces-go roll [] low = goes-further (behind_roll v.roots r roll []) refl past.waits tt
  pieces-go roll (b ∷ bs) low = goes-further (behind_roll v.roots r roll (b ∷ bs)) refl past.waits (omega (arith, low))

  turn-goes : (t : RootTurnState) (k : turning.Stage) → LeavesMemory v (behind_turn v r t k)
  turn-goes t turning.Writing = goes-further (at_turn r t turning.Syncing) refl past.waits tt
  turn-goes t turning.Syncing = goes-further (at_turn r t turning.Turning) refl past.waits tt
  turn-goes t turning.Turning = goes-further (at_turn r t turning.Settling) refl past.waits tt
  turn-goes t turning.Settling = base-leaves
  turn-goes t turning.Done = same-memory v

  call-goes : (k : ReclaimStage) → r.stage ≡ k → LeavesMemory v (reclaim_calls.behind v r k)
  call-goes (reclaims.Writing anchors base) e = extents-go anchors base anchors.left base.left
  call-goes (Rolling roll) e = pieces-go roll roll.left (subst (GoesBehind v.named.end) e past.goes)
  call-goes (Turning t) e = turn-goes t t.stage

-- it writes to the archive behind all runs alone
extents-bytes : (parts : List Part) (result : Result (Unit {0}) DeviceFault) (old new : Areas) → CallsExtents parts result old new
    → new.archive.bytes ≡ old.archive.bytes
extents-bytes [] result old new call = heap-synced result old new call
extents-bytes (p ∷ ps) result old new call = heap-written p.place p.bytes result old new call

root-bytes : (turned : Bool) (root : List ℕ) (k : turning.Stage) (result : Result (Unit {0}) DeviceFault) (old new : Areas)
    → turning.IsCallOf turned root k result old new → new.archive.bytes ≡ old.archive.bytes
root-bytes turned root turning.Writing result old new call =
    status-written (turning.root_place (turning.other turned)) root result old new call
root-bytes turned root turning.Syncing result old new call = status-synced result old new call
root-bytes turned root turning.Turning result old new call =
    status-written turning.turn_place (turning.turn_byte (turning.other turned) ∷ []) result old new call
root-bytes turned root turning.Settling result old new call = status-synced result old new call
root-bytes turned root turning.Done result old new call = absurd call

base-bytes : (end : ℕ) (k : ReclaimStage) (result : Result (Unit {0}) DeviceFault) (old new : Areas) → GoesBehind end k
    → reclaim_calls.CallsAt k result old new → KeepsUpTo end old.archive.bytes new.archive.bytes
base-bytes end (reclaims.Writing anchors base) result old new low call =
    up_to-is end old.archive.bytes new.archive.bytes (extents-bytes (anchors.left ++ base.left) result old new call)
base-bytes end (Rolling roll) result old new low call = by-left roll.left call
  where
    by-left : (left : List ℕ) → CallsRoll left roll result old new → KeepsUpTo end old.archive.bytes new.archive.bytes
    by-left [] call = up_to-is end old.archive.bytes new.archive.bytes (archive-synced result old new call)
    by-left (b ∷ bs) call = up_to-in_part end roll.at (length (take 8192 roll.left)) old new low call.in_part
base-bytes end (Turning t) result old new low call =
    up_to-is end old.archive.bytes new.archive.bytes (root-bytes t.roots.turned (little_bytes 4 t.root) t.stage result old new call)

-- so much of it is kept that ends earlier
up_to-less : (less end : ℕ) (old new : List ℕ) → less ≤ end → KeepsUpTo end old new → KeepsUpTo less old new
up_to-less less end old new low keeps = λ at part within held. keeps at part (omega (arith, within, low)) held

reclaim-step-leaves : (tells : Bool) (r : ReclaimValue) (old new : LogStoreValue) (answer : Result JobDid PumpFault) → old.commits.failed ≡ false
    → old.reclaim ≡ Some r → BaseIsPast tells old → StepsReclaim tells r old answer new → LeavesArchive tells old new
reclaim-step-leaves tells r old new answer works-on runs base steps = by-gate (waits_at old.turn r.stage) steps
  where
    reaches : BaseReaches old.named.upto r
    reaches = subst (ReclaimReaches old.named.upto) runs base.reaches

    past : BaseHasPlace old.job old.named.end r
    past = subst (ReclaimHasPlace old.job old.named.end) runs base.place

    memory : (a : Result JobDid PumpFault)
        → MatchResult a (λ what. (what ≡ reclaim_calls.did_at r.stage) × (new ≡ record (reclaim_calls.behind old r r.stage) { disk = new.disk }))
        (λ why. (why ≡ pump.Failed) × (new ≡ record (with_failure old) { disk = new.disk })) → LeavesMemory old new
    memory (Ok what) is =
        let next : LogStoreValue = reclaim_calls.behind old r r.stage in
        moved-memory old (record next { disk = new.disk }) new is.1
        (other-disk old next new.disk (call-goes old r works-on runs reaches past r.stage refl))
    memory (Err why) is =
        moved-memory old (record (with_failure old) { disk = new.disk }) new is.1 (other-disk old (with_failure old) new.disk (failed-memory old))

    low : IsTrue tells → (end : ℕ) → (end ≡ end_of old.archive.runs) ⊎ (end ≡ old.named.end) → end ≤ old.named.end
    low told end (inl is) = let before = base.ends told in omega (arith, before, is)
    low told end (inr is) = omega (arith, is)

    by-gate : (b : Bool) → MatchBool b ((answer ≡ Err pump.Busy) × (new ≡ old)) (AdvancesReclaim tells r old answer new) → LeavesArchive tells old new
    by-gate true busy = moved tells old old new busy.1 (leaves-same tells old)
    by-gate false advances =
        on-disk tells old new (memory answer advances.answer) (λ told end either.
        up_to-less end old.named.end (archive_of old.disk) (archive_of new.disk) (low told end either)
        (base-bytes old.named.end r.stage (run_calls.disk_answer answer) old.disk.areas new.disk.areas past.goes (advances.call told)))

-- a step of a job leaves the archive, or adds a run
pub job-moves : (tells : Bool) (old new : LogStoreValue) (answer : Result JobDid PumpFault)
    → ((writer : InWriting) (job : Job) → old.commits.failed ≡ false → old.job ≡ Some job → job.stage ≡ stages.Writing writer → IsTrue tells
    → IsPastAll old writer)
    → BaseIsPast tells old
    → PumpsJob tells old answer new → LeavesArchive tells old new ⊎ AddsRun tells old new
job-moves tells old new answer past base pumps = by-failed old.commits.failed refl pumps
  where
    same : new ≡ old → LeavesArchive tells old new ⊎ AddsRun tells old new
    same is = inl (moved tells old old new is (leaves-same tells old))

    by-turn : old.commits.failed ≡ false → (job : Job) → old.job ≡ Some job → (t : Option WriterState) → StepsReady tells job t old answer new
        → LeavesArchive tells old new ⊎ AddsRun tells old new
    by-turn works-on job is-job None (inl none) = same none.1
    by-turn works-on job is-job None (inr enters) = inl (entry-begins-leaves tells old new job enters.0 answer works-on is-job enters.1 enters.2)
    by-turn works-on job is-job (Some w) busy =
        let next : LogStoreValue = at_stage old job (Ready true) in
        inl (moved tells old next new busy.1 (same-disk tells old next (stage-leaves old job (Ready true) is-job) refl))

    added : {X Y Z : Type 0} → X ⊎ (Z × Y) → X ⊎ Y
    added (inl x) = inl x
    added (inr both) = inr both.1

    by-stage : old.commits.failed ≡ false → (job : Job) → old.job ≡ Some job → (k : JobStage) → job.stage ≡ k → StepsAt tells job k old answer new
        → LeavesArchive tells old new ⊎ AddsRun tells old new
    by-stage works-on job is-job (stages.Writing writer) e step =
        inl (run-leaves tells job writer old new is-job e (past writer job works-on is-job e) answer step)
    by-stage works-on job is-job (Ready waited) e step = by-turn works-on job is-job old.turn step
    by-stage works-on job is-job (Entering w) e step =
        added (entry-call-moves tells job.work w old new works-on (is-job ∙ ap (λ (k : JobStage). Some (record { work = job.work; stage = k })) e) answer
        (subst (λ (k : JobStage). jobs.Advances tells (record { work = job.work; stage = k }) w old answer new) e step))

    by-job : old.commits.failed ≡ false → (j : Option Job) → old.job ≡ j → StepsJob tells j old answer new → LeavesArchive tells old new ⊎ AddsRun tells old new
    by-job works-on None none idle = same idle.1
    by-job works-on (Some job) is-job step = by-stage works-on job is-job job.stage refl step

    by-reclaim : old.commits.failed ≡ false → (o : Option ReclaimValue) → old.reclaim ≡ o
        → MatchOption o (StepsJob tells old.job old answer new) (λ r. StepsReclaim tells r old answer new)
        → LeavesArchive tells old new ⊎ AddsRun tells old new
    by-reclaim works-on None none step = by-job works-on old.job refl step
    by-reclaim works-on (Some r) runs step = inl (reclaim-step-leaves tells r old new answer works-on runs base step)

    by-failed : (b : Bool) → old.commits.failed ≡ b
        → MatchBool b ((answer ≡ Err pump.Failed) × (new ≡ old))
        (MatchOption old.reclaim (StepsJob tells old.job old answer new) (λ r. StepsReclaim tells r old answer new))
        → LeavesArchive tells old new ⊎ AddsRun tells old new
    by-failed true failed rests = same rests.1
    by-failed false works-on step = by-reclaim works-on old.reclaim refl step

-- an archive that begins has its place behind the others
pub archive-leaves : (tells : Bool) (old new : LogStoreValue) (upto : ℕ) (answer : Result (Unit {0}) StartFault) → StartsArchive old upto answer new
    → LeavesArchive tells old new
archive-leaves tells old new upto answer starts = by-refusal (archive_refusal old upto) refl starts
  where
    same : new ≡ old → LeavesArchive tells old new
    same is = moved tells old old new is (leaves-same tells old)

    begun : archive_refusal old upto ≡ None → BeginsArchive old (run_to old upto) (unwritten old.named.end (records_to old upto)) new
        → LeavesArchive tells old new
    begun none b =
        let next : LogStoreValue = with_archive old (run_to old upto) (unwritten old.named.end (records_to old upto)) b.entry in
        moved tells old next new b.new_is (same-disk tells old next (record {
          runs = refl;
          kept = refl;
          upto = refl;
          end = omega arith;
          reclaimed = refl;
          mark = refl;
          place = λ place. (
            record {
              entry = b.entry;
              slot = b.slot;
              mark = b.mark;
              floors = b.floors;
              next_is = refl;
              alone = refl;
              behind = omega arith;
            },
            none-place next.job next.named.end next.reclaim (may-archive old upto none).unmade,
          );
          names = inl (record { rolls = refl; mark = refl });
        }) refl)

    begins : archive_refusal old upto ≡ None → (a : Result (Unit {0}) StartFault) → BeginsRun old upto a new → LeavesArchive tells old new
    begins none (Ok done) so = begun none so.3
    begins none (Err why) so = same so.1

    by-refusal : (o : Option StartFault) → archive_refusal old upto ≡ o
        → MatchOption o (BeginsRun old upto answer new) (λ why. (answer ≡ Err why) × (new ≡ old)) → LeavesArchive tells old new
    by-refusal None none so = begins none answer so
    by-refusal (Some why) some refused = same refused.1

pub floor-leaves : (tells : Bool) (old new : LogStoreValue) (scope : Option ℕ) (floor : ℕ) (answer : Result (Unit {0}) StartFault)
    → StartsFloor old scope floor answer new → LeavesArchive tells old new
floor-leaves tells old new scope floor answer starts = by-refusal (floor_refusal old scope floor) refl starts
  where
    same : new ≡ old → LeavesArchive tells old new
    same is = moved tells old old new is (leaves-same tells old)

    begins : (s : Option ℕ) (a : Result (Unit {0}) StartFault) → floor_refusal old s floor ≡ None → BeginsFloor old s floor a new
        → LeavesArchive tells old new
    begins None a none begun = absurd begun
    begins (Some relation) (Ok done) none begun =
        let next : LogStoreValue = with_floor old relation floor in
        moved tells old next new begun.1 (same-disk tells old next (record {
          runs = refl;
          kept = refl;
          upto = refl;
          end = omega arith;
          reclaimed = refl;
          mark = refl;
          place = λ place. (tt, none-place next.job next.named.end next.reclaim (may-begin old relation floor none).unmade);
          names = inl (record { rolls = refl; mark = refl });
        }) refl)
    begins (Some relation) (Err why) none begun = same begun.1

    by-refusal : (o : Option StartFault) → floor_refusal old scope floor ≡ o
        → MatchOption o (BeginsFloor old scope floor answer new) (λ why. (answer ≡ Err why) × (new ≡ old)) → LeavesArchive tells old new
    by-refusal None none begun = begins scope answer none begun
    by-refusal (Some why) some refused = same refused.1

-- a reclaim that begins has the place of its roll behind the others
pub reclaim-leaves : (tells : Bool) (old new : LogStoreValue) (answer : Result (Unit {0}) StartFault) → StartsReclaim old answer new
    → LeavesArchive tells old new
reclaim-leaves tells old new answer starts = by-refusal (reclaim_refusal old) refl starts
  where
    same : new ≡ old → LeavesArchive tells old new
    same is = moved tells old old new is (leaves-same tells old)

    waits : (end : ℕ) (names : List ℕ) → WaitsBehind end (roll_left end names)
    waits end [] = tt
    waits end (b ∷ bs) = omega arith

    begun : reclaim_refusal old ≡ None → IsReclaimBegun old new → LeavesArchive tells old new
    begun none b =
        let next : LogStoreValue = with_reclaim old b.names b.made b.numbers b.room in
        moved tells old next new b.new_is (same-disk tells old next (record {
          runs = refl;
          kept = refl;
          upto = refl;
          end = omega arith;
          reclaimed = refl;
          mark = refl;
          place = λ place. (
            place.0,
            record {
              alone = (may-reclaim old none).free;
              waits = waits old.named.end b.names;
              goes = tt;
              named = omega arith;
            },
          );
          names = inl (record { rolls = refl; mark = refl });
        }) refl)

    begins : reclaim_refusal old ≡ None → (a : Result (Unit {0}) StartFault) → BeginsReclaim old a new → LeavesArchive tells old new
    begins none (Ok done) so = begun none so
    begins none (Err why) so = same so.1

    by-refusal : (o : Option StartFault) → reclaim_refusal old ≡ o
        → MatchOption o (BeginsReclaim old answer new) (λ why. (answer ≡ Err why) × (new ≡ old)) → LeavesArchive tells old new
    by-refusal None none so = begins none answer so
    by-refusal (Some why) some refused = same refused.1

-- ---- what is left

-- it stands for a later state of the machine
pub runs-left : (tells : Bool) (old new : LogStoreValue) (m after : Machine Value) → HasRisingTimes 0 m.published → IsLater m after
    → LeavesArchive tells old new → IsTrue tells → RunsStand old m.published m.floors → RunsStand new after.published after.floors
runs-left tells old new m after up later leaves told r =
    let past = last-rises m after later in
    let by_last = r.by_last in
    let marks = r.marks in
    let reclaimed = leaves.reclaimed in
    let end = end_of old.archive.runs in
    let low = r.ends in
    let same-end : end_of new.archive.runs ≡ end_of old.archive.runs = ap end_of leaves.runs in
    let same-mark : mark_of new.archive.runs ≡ mark_of old.archive.runs = ap mark_of leaves.runs in
    let named-end = leaves.end in
    let right : IsRight old.archive.kept (archive_of new.disk) =
    right-kept end (archive_of old.disk) (archive_of new.disk) old.archive.kept (leaves.bytes told) r.near r.right in
    record {
      lists = r.lists;
      held = subst (λ (runs : List RunEntry). HoldRuns (archive_of new.disk) runs r.lists) (sym leaves.runs)
          (runs-held end (archive_of old.disk) (archive_of new.disk) old.archive.runs r.lists (leaves.bytes told) (ends-all old.archive.runs) r.held);
      marks = omega (arith, marks, reclaimed, same-mark);
      by_last = omega (arith, by_last, past, same-mark);
      archived = subst (λ (mark : ℕ). AreArchived after.published after.floors mark r.lists) (sym same-mark)
          (subst (λ (h : History Value). AreArchived h after.floors (mark_of old.archive.runs) r.lists) (sym later.published)
          (archived-later m.published later.more m.floors after.floors (mark_of old.archive.runs) r.lists up later.rising later.floors r.by_last r.archived));
      right = subst (λ (kept : List (ℕ × List ℕ)). IsRight kept (archive_of new.disk)) (sym leaves.kept) right;
      near = subst (λ (kept : List (ℕ × List ℕ)). EndBy (end_of new.archive.runs) kept) (sym leaves.kept)
          (subst (λ (n : ℕ). EndBy n old.archive.kept) (sym same-end) r.near);
      ends = omega (arith, low, same-end, named-end);
      named = same-mark ∙ r.named ∙ sym leaves.upto;
    }

-- and views go on
pub leaves-goes : (tells : Bool) (old new : LogStoreValue) → LeavesArchive tells old new → GoesOn tells old new
leaves-goes tells old new leaves = record {
  mark = leaves.mark;
  more = [];
  runs = leaves.runs ∙ sym (append-nil old.archive.runs);
  bytes = leaves.bytes;
}

-- The steps of a job.
use Rattle.std.proofs.Common.{◌≡◌, ◌*◌, ℕ, zero, suc, ◌+◌, ◌≤◌, nat_le, Bool, true, false, is_some, IsTrue, List, [], ◌∷◌, Option, Some, None, Result, Ok, Err}
use Rattle.std.proofs.Common.{MatchBool, MatchOption, MatchResult, slice_get, refl, sym, ap, subst, ◌∙◌, inl, inr, arith}
use Rattle.std.specs.Prelude.{◌⊎◌}
use Rattle.std.specs.List.{AllByRecursion, flat_map}
use Rattle.std.proofs.lemmas.Bool.Decides.{nat_tests}
use Rattle.disk.specs.Areas.{AreSound, area_of}
use Rattle.disk.specs.Calls.{DiskState}
use Rattle.disk.specs.declared.area.Area.{Area}
use Rattle.disk.specs.declared.area.Area.TheVariants.{Status, Heap, Archive}
use Rattle.deltas.specs.Extents.{extent_start}
use Rattle.extents.specs.Times.{time_of}
use Rattle.extents.specs.declared.usage.Usage.{Usage}
use Rattle.extents.specs.Usages.{IsOut, AreOut}
use Rattle.group.specs.Queued.{numbers_of}
use Rattle.archive.specs.Pieces.{InWriting}
use Rattle.vacuum.specs.Anchors.{Sourced}
use Rattle.wire.specs.declared.slot.Anchors.{Anchors}
use Rattle.wire.specs.declared.slot.Run.{Run}
use Rattle.status.specs.Growth.{growth_after, grew_at}
use Rattle.status.specs.GrowthState.{GrowthState}
use Rattle.status.specs.declared.growth.Grew.{Grew}
use Rattle.status.specs.declared.growth.Grew.TheVariants as grew
use Rattle.status.specs.SlotCalls.{SlotStage}
use Rattle.status.specs.SlotCalls as slots
use Rattle.status.specs.TurnState.{TurnState, LogState}
use Rattle.group.specs.declared.answers.PumpFault.{PumpFault}
use Rattle.group.specs.declared.answers.PumpFault.TheVariants as fault
use Rattle.group.specs.Order.{IsInOrder}
use Rattle.group.specs.Values.{TransactionsValue}
use Rattle.group.proofs.Publishing.{out-front, out-swapped}
use Rattle.floors.specs.Floors.{FloorsValue}
use Rattle.store.specs.Values.{StoreValue, IsOnItsWay, turn_of}
use Rattle.store.specs.Parts.{GrowsBehind}
use Rattle.store.specs.Pumps.{disk_answer}
use Rattle.store.specs.Jobs.{PumpsJob, TakesJobStep, Stores, Grows, HasGrown, growing, WritesOrSyncs, WritesRun, AnchorsOrSync, WritesAnchors, SyncsStored}
use Rattle.store.specs.Jobs.{BeginsJobSlot, TurnsJob, IsJobTurned, JobTurnFails, JobMoves, with_job, job_fails, first_turn, slot_taken, made_ready, piece_of}
use Rattle.store.specs.Jobs.{behind_piece}
use Rattle.store.specs.declared.job.Job.{Job}
use Rattle.store.specs.declared.job.JobWork.{JobWork}
use Rattle.store.specs.declared.job.JobWork.TheVariants.{Archive as ArchiveWork, Reclaim, Floor, Grow}
use Rattle.store.specs.declared.job.JobStage.{JobStage}
use Rattle.store.specs.declared.job.JobStage.TheVariants as stages
use Rattle.store.specs.declared.job.JobDid.{JobDid}
use Rattle.store.specs.declared.job.JobDid.TheVariants as did
use Rattle.law_refinement.proofs.Retired.{still-kept}
use Rattle.law_live_ranges.specs.Named.{IsInKept, IsNamed, IsLeft, IsGivenUpIn, LeavesNamed, IsBehindRuns, WritesBehind, IsTyped}
use Rattle.law_live_ranges.proofs.Places.{left_by_write, left_by_sync, left_by_slot, left_by_growth}
use Rattle.law_live_ranges.proofs.Naming.{kept_same, named_by, slots_named, heap_apart, leaves_named, leaves_itself, behind_by}

-- what a job's step goes by: its extents are out, its slot is the next one, and its piece lies behind the log
record Goes (tells : Bool) (v : StoreValue) : Type 0 where
  out : AreOut v.transactions.usages v.transactions.reserved
  used : v.log.used ≤ v.log.slots
  pieces : 256 * v.log.pieces ≤ v.log.slots
  sound : IsTrue tells → AreSound v.disk.areas

-- what a step leaves
record Ends (tells : Bool) (v new : StoreValue) : Type 0 where
  leaves : LeavesNamed tells v new
  behind : WritesBehind new

ends_same : (tells : Bool) (v new : StoreValue) → new ≡ v → WritesBehind v → Ends tells v new
ends_same tells v new same behind = record { leaves = leaves_named tells v new (leaves_itself tells v new same); behind = subst WritesBehind (sym same) behind }

-- what the log names, and the job
record Named (v new : StoreValue) : Type 0 where
  named : (area : Area) (k : ℕ) → IsNamed v area k → IsNamed new area k ⊎ IsGivenUpIn v new area k
  behind : WritesBehind new

-- a store with the same log and the same extents names the same
same_named : (v new : StoreValue) (job : Option Job) → MatchOption job (Unit {0}) (λ j. IsBehindRuns v.runs_end j.work) → new.transactions.usages
    ≡ v.transactions.usages → new.log ≡ v.log → new.runs_end ≡ v.runs_end → new.job ≡ job → Named v new
same_named v new job behind usages log runs is = record {
  named = λ area k named. inl
      (named_by v new (kept_same v.transactions.usages new.transactions.usages usages) (omega (arith, ap (λ (l : LogState). l.used) log)) (omega (
        arith,
        ap (λ (l : LogState). l.pieces) log,
      )) (omega (arith, runs)) area k named);
  behind = behind_by new job v.runs_end is runs behind;
}

goes_on : (v new : StoreValue) (made : Job) → IsBehindRuns v.runs_end made.work → new ≡ with_job v made new → Named v new
goes_on v new made behind is =
    same_named v new (Some made) behind (ap (λ (s : StoreValue). s.transactions.usages) is) (ap (λ (s : StoreValue). s.log) is)
    (ap (λ (s : StoreValue). s.runs_end) is) (ap (λ (s : StoreValue). s.job) is)

fails : (v new : StoreValue) (made : Job) → IsBehindRuns v.runs_end made.work → new ≡ job_fails v made new → Named v new
fails v new made behind is =
    same_named v new (Some made) behind (ap (λ (s : StoreValue). s.transactions.usages) is) (ap (λ (s : StoreValue). s.log) is)
    (ap (λ (s : StoreValue). s.runs_end) is) (ap (λ (s : StoreValue). s.job) is)

moves : (what : JobDid) (made refused : Job) (v : StoreValue) (result : Result JobDid PumpFault) (new : StoreValue) → IsBehindRuns v.runs_end made.work
    → IsBehindRuns v.runs_end refused.work → JobMoves what made refused v result new → Named v new
moves what made refused v (Ok said) new one other is = goes_on v new made one is.1
moves what made refused v (Err why) new one other is = fails v new refused other is.1

-- ---- what is written before the slot

writes_run : (tells : Bool) (v new : StoreValue) (run : Run) (writer : InWriting) (stage : JobStage) (result : Result JobDid PumpFault)
    → IsBehindRuns v.runs_end (ArchiveWork run writer)
    → WritesRun tells run writer (record { work = ArchiveWork run writer; stage = stage }) v result new → Ends tells v new
writes_run tells v new run writer stage result behind w =
    let later : IsBehindRuns v.runs_end (ArchiveWork run (behind_piece writer)) = (behind.0, let at = behind.1 in omega arith) in
    let made : Job = record { work = ArchiveWork run (behind_piece writer); stage = stage } in
    let named = moves did.WroteRun made made v result new later later w.moves in record {
      leaves = record {
        left = λ told area k is.
            left_by_write Archive writer.at (piece_of writer) (disk_answer result) v.disk.areas new.disk.areas ((w.call).areas told) area k
            (λ same. let below : IsNamed v Archive k = subst (λ (a : Area). IsNamed v a k) same is in inl (let at = behind.1 in omega arith));
        named = named.named;
      };
      behind = named.behind;
    }

writes_anchors : (tells : Bool) (v new : StoreValue) (anchors : Anchors) (source : Sourced) (written number : ℕ) (stage : JobStage)
    (result : Result JobDid PumpFault) → IsOut v.transactions.usages number
    → WritesAnchors tells anchors source written number (record { work = Reclaim anchors source written; stage = stage }) v result new → Ends tells v new
writes_anchors tells v new anchors source written number stage result out w =
    let made : Job = record { work = Reclaim anchors w.behind (written + 1); stage = stage } in
    let named = moves did.WroteExtent made made v result new tt tt w.moves in record {
      leaves = record {
        left = λ told area k is.
            left_by_write Heap (extent_start number) w.image (disk_answer result) v.disk.areas new.disk.areas ((w.call).areas told) area k
            (λ same. heap_apart v k number w.image out w.whole (subst (λ (a : Area). IsNamed v a k) same is));
        named = named.named;
      };
      behind = named.behind;
    }

syncs : (tells : Bool) (area : Area) (what : JobDid) (v new : StoreValue) (job : Job) (result : Result JobDid PumpFault) → Goes tells v
    → IsBehindRuns v.runs_end job.work → SyncsStored tells area what job v result new → Ends tells v new
syncs tells area what v new job result goes behind s =
    let named = moves what (record job { stage = stages.Stored }) job v result new behind behind s.moves in record {
      leaves = record {
        left = λ told other k is. left_by_sync area (disk_answer result) v.disk.areas new.disk.areas ((s.call).areas told) (goes.sound told) other k;
        named = named.named;
      };
      behind = named.behind;
    }

run_or_sync : (tells : Bool) (left : List ℕ) (v new : StoreValue) (run : Run) (writer : InWriting) (stage : JobStage) (result : Result JobDid PumpFault)
    → Goes tells v → IsBehindRuns v.runs_end (ArchiveWork run writer)
    → WritesOrSyncs tells left run writer (record { work = ArchiveWork run writer; stage = stage }) v result new → Ends tells v new
run_or_sync tells [] v new run writer stage result goes behind is =
    syncs tells Archive did.RunSynced v new (record { work = ArchiveWork run writer; stage = stage }) result goes behind is
run_or_sync tells (b ∷ bs) v new run writer stage result goes behind is = writes_run tells v new run writer stage result behind is

out_at : (us : List Usage) (ns : List ℕ) (i n : ℕ) → AllByRecursion (IsOut us) ns → slice_get ns i ≡ Some n → IsOut us n
out_at us [] i n out found = absurd cc
out_at us (m ∷ ms) zero n out found = let same : m ≡ n = cc in subst (IsOut us) same out.0
out_at us (m ∷ ms) (suc i) n out found = out_at us ms i n out.1 found

anchors_or_sync : (tells : Bool) (o : Option ℕ) (v new : StoreValue) (anchors : Anchors) (source : Sourced) (written : ℕ) (stage : JobStage)
    (result : Result JobDid PumpFault) → slice_get v.transactions.reserved written ≡ o → Goes tells v
    → AnchorsOrSync tells o anchors source written (record { work = Reclaim anchors source written; stage = stage }) v result new → Ends tells v new
anchors_or_sync tells None v new anchors source written stage result found goes is =
    syncs tells Heap did.HeapSynced v new (record { work = Reclaim anchors source written; stage = stage }) result goes tt is
anchors_or_sync tells (Some number) v new anchors source written stage result found goes is =
    writes_anchors tells v new anchors source written number stage result
    (out_at v.transactions.usages v.transactions.reserved written number (goes.out).each found) is

-- ---- a growth

-- after a device call of it all that was named is, and the slots of the piece once its gate is open
has_grown : (grew : Grew) (growth : GrowthState) (v new : StoreValue) (what : JobDid) → growth.piece ≡ v.log.pieces → HasGrown grew growth v what new
    → Named v new
has_grown grew.WroteZeros growth v new what piece is = goes_on v new (growing (growth_after growth)) tt is.1
has_grown grew.ZerosSynced growth v new what piece is = goes_on v new (growing (growth_after growth)) tt is.1
has_grown grew.GateWritten growth v new what piece is = goes_on v new (growing (growth_after growth)) tt is.1
has_grown grew.Grown growth v new what piece is = record {
  named = λ area k named. inl
      (named_by v new (kept_same v.transactions.usages new.transactions.usages (ap (λ (s : StoreValue). s.transactions.usages) is.2)) (omega (
        arith,
        ap (λ (s : StoreValue). s.log.used) is.2,
      ))
      (omega (arith, ap (λ (s : StoreValue). s.log.pieces) is.2, piece)) (omega (arith, ap (λ (s : StoreValue). s.runs_end) is.2)) area k named);
  behind = behind_by new None v.runs_end (ap (λ (s : StoreValue). s.job) is.2) (ap (λ (s : StoreValue). s.runs_end) is.2) tt;
}

growth_named : (growth : GrowthState) (v new : StoreValue) (result : Result JobDid PumpFault) → growth.piece ≡ v.log.pieces
    → MatchResult result (λ what. HasGrown (grew_at growth.stage) growth v what new) (λ why. (why ≡ fault.Failed)
    × (new ≡ job_fails v (growing (growth_after growth)) new)) → Named v new
growth_named growth v new (Ok what) piece answer = has_grown (grew_at growth.stage) growth v new what piece answer
growth_named growth v new (Err why) piece answer = fails v new (growing (growth_after growth)) tt answer.1

grows : (tells : Bool) (growth : GrowthState) (v new : StoreValue) (result : Result JobDid PumpFault) → Goes tells v → GrowsBehind (Grow growth) v.log
    → Grows tells growth v result new → Ends tells v new
grows tells growth v new result goes behind g =
    let named = growth_named growth v new result behind.1 g.answer in record {
      leaves = record {
        left = λ told area k is.
            left_by_growth growth.stage growth.slots growth.piece (disk_answer result) v.disk.areas new.disk.areas ((g.call).areas told) (goes.sound told)
            (let few = goes.pieces in let slots = behind.0 in let piece = behind.1 in let room = behind.2 in omega (arith, few, slots, piece, room)) area k
            (λ same. let place : IsNamed v Status k = subst (λ (a : Area). IsNamed v a k) same is in (
              let low = place.0 in let slots = behind.0 in let used = goes.used in omega (arith, low, slots, used),
              elim place.1 [ inl gate ↦ inl (let piece = behind.1 in omega (arith, gate, piece)) | inr slot ↦ inr slot ],
            ));
        named = named.named;
      };
      behind = named.behind;
    }

stores : (tells : Bool) (work : JobWork) (stage : JobStage) (v new : StoreValue) (result : Result JobDid PumpFault) → Goes tells v → GrowsBehind work v.log
    → IsBehindRuns v.runs_end work → Stores tells work (record { work = work; stage = stage }) v result new → Ends tells v new
stores tells (ArchiveWork run writer) stage v new result goes place behind is = run_or_sync tells writer.left v new run writer stage result goes behind is
stores tells (Reclaim anchors source written) stage v new result goes place behind is =
    anchors_or_sync tells (slice_get v.transactions.reserved written) v new anchors source written stage result refl goes is
stores tells (Floor scope time floors) stage v new result goes place behind is = absurd is
stores tells (Grow growth) stage v new result goes place behind is = grows tells growth v new result goes place is

-- ---- the slot

-- the slot of a reclaim is open: what is not named still is given up
reclaimed : (t : TurnState) (anchors : Anchors) (source : Sourced) (written : ℕ) (stage : JobStage) (v new : StoreValue) (what : JobDid)
    → AreOut v.transactions.usages v.transactions.reserved → t.number ≡ v.log.used → v.job
    ≡ Some (record { work = Reclaim anchors source written; stage = stage })
    → IsJobTurned slots.GateWritten t (record { work = Reclaim anchors source written; stage = stage }) v what new → Named v new
reclaimed t anchors source written stage v new what out number there is = record {
  named = λ area k named. each area k named;
  behind = behind_by new None v.runs_end (ap (λ (s : StoreValue). s.job) is.2) (ap (λ (s : StoreValue). s.runs_end) is.2) tt;
}
  where
    used : new.log.used ≡ v.log.used + 1
    used = ap (λ (s : StoreValue). s.log.used) is.2 ∙ ap (λ (n : ℕ). n + 1) number

    of_heap : (k : ℕ) (place : IsInKept v k) (b : Bool) → nat_le (time_of v.transactions.times place.number) anchors.upto ≡ b → IsNamed new Heap k
        ⊎ IsGivenUpIn v new Heap k
    of_heap k place true early = inr (record {
      anchors = anchors;
      source = source;
      written = written;
      stage = stage;
      job = there;
      slot = used;
      mark = ap (λ (s : StoreValue). s.transactions.reclaimed) is.2;
      place = place;
      by = grind (arith, nat_tests);
    })
    of_heap k place false late = inl (record {
      number = place.number;
      kept = kept_same _ new.transactions.usages (ap (λ (s : StoreValue). s.transactions.usages) is.2) place.number
          (still-kept anchors.upto v.transactions.times v.transactions.usages v.transactions.reserved place.number out (grind (arith, nat_tests)) place.kept);
      low = place.low;
      high = place.high;
    })

    each : (area : Area) (k : ℕ) → IsNamed v area k → IsNamed new area k ⊎ IsGivenUpIn v new area k
    each Status k named = inl (slots_named v new k (omega (arith, used)) (omega (arith, ap (λ (s : StoreValue). s.log.pieces) is.2)) named)
    each Heap k named = of_heap k named (nat_le (time_of v.transactions.times named.number) anchors.upto) refl
    each Archive k named = inl (omega (arith, named, ap (λ (s : StoreValue). s.runs_end) is.2))

archived : (t : TurnState) (run : Run) (writer : InWriting) (stage : JobStage) (v new : StoreValue) (what : JobDid) → t.number ≡ v.log.used
    → IsBehindRuns v.runs_end (ArchiveWork run writer)
    → IsJobTurned slots.GateWritten t (record { work = ArchiveWork run writer; stage = stage }) v what new → Named v new
archived t run writer stage v new what number behind is = record {
  named = λ area k named. inl
      (named_by v new (kept_same v.transactions.usages new.transactions.usages (ap (λ (s : StoreValue). s.transactions.usages) is.2)) (omega (
        arith,
        ap (λ (s : StoreValue). s.log.used) is.2,
        number,
      )) (omega (arith, ap (λ (s : StoreValue). s.log.pieces) is.2))
      (let start = behind.0 in omega (arith, ap (λ (s : StoreValue). s.runs_end) is.2)) area k named);
  behind = behind_by new None (run.start + run.len) (ap (λ (s : StoreValue). s.job) is.2) (ap (λ (s : StoreValue). s.runs_end) is.2) tt;
}

floored : (t : TurnState) (scope : Option ℕ) (time : ℕ) (floors : FloorsValue) (stage : JobStage) (v new : StoreValue) (what : JobDid) → t.number ≡ v.log.used
    → IsJobTurned slots.GateWritten t (record { work = Floor scope time floors; stage = stage }) v what new → Named v new
floored t scope time floors stage v new what number is = record {
  named = λ area k named. inl
      (named_by v new (kept_same v.transactions.usages new.transactions.usages (ap (λ (s : StoreValue). s.transactions.usages) is.2)) (omega (
        arith,
        ap (λ (s : StoreValue). s.log.used) is.2,
        number,
      )) (omega (arith, ap (λ (s : StoreValue). s.log.pieces) is.2))
      (omega (arith, ap (λ (s : StoreValue). s.runs_end) is.2)) area k named);
  behind = behind_by new None v.runs_end (ap (λ (s : StoreValue). s.job) is.2) (ap (λ (s : StoreValue). s.runs_end) is.2) tt;
}

-- a step on the way of the slot
on_its_way : (v new : StoreValue) (job : Job) (t : TurnState) → IsBehindRuns v.runs_end job.work → new
    ≡ with_job v (record job { stage = stages.Turning t }) new → Named v new
on_its_way v new job t behind is = goes_on v new (record job { stage = stages.Turning t }) behind is

turned : (at : SlotStage) (t : TurnState) (work : JobWork) (stage : JobStage) (v new : StoreValue) (what : JobDid)
    → AreOut v.transactions.usages v.transactions.reserved → t.number ≡ v.log.used → v.job ≡ Some (record { work = work; stage = stage })
    → IsBehindRuns v.runs_end work
    → IsJobTurned at t (record { work = work; stage = stage }) v what new → Named v new
turned slots.Begun t work stage v new what out number there behind is =
    on_its_way v new (record { work = work; stage = stage }) (record t { stage = slots.BodyWritten }) behind is.1
turned slots.BodyWritten t work stage v new what out number there behind is =
    on_its_way v new (record { work = work; stage = stage }) (record t { stage = slots.BodySynced }) behind is.1
turned slots.BodySynced t work stage v new what out number there behind is =
    on_its_way v new (record { work = work; stage = stage }) (record t { stage = slots.GateWritten }) behind is.1
turned slots.GateWritten t (ArchiveWork run writer) stage v new what out number there behind is = archived t run writer stage v new what number behind is
turned slots.GateWritten t (Reclaim anchors source written) stage v new what out number there behind is =
    reclaimed t anchors source written stage v new what out number there is
turned slots.GateWritten t (Floor scope time floors) stage v new what out number there behind is = floored t scope time floors stage v new what number is
turned slots.GateWritten t (Grow growth) stage v new what out number there behind is = record {
  named = λ area k named. inl
      (named_by v new (kept_same v.transactions.usages new.transactions.usages (ap (λ (s : StoreValue). s.transactions.usages) is.2)) (omega (
        arith,
        ap (λ (s : StoreValue). s.log.used) is.2,
        number,
      )) (omega (arith, ap (λ (s : StoreValue). s.log.pieces) is.2))
      (omega (arith, ap (λ (s : StoreValue). s.runs_end) is.2)) area k named);
  behind = behind_by new None v.runs_end (ap (λ (s : StoreValue). s.job) is.2) (ap (λ (s : StoreValue). s.runs_end) is.2) tt;
}
turned slots.Opened t work stage v new what out number there behind is = absurd is

answered : (t : TurnState) (work : JobWork) (stage : JobStage) (v new : StoreValue) (result : Result JobDid PumpFault)
    → AreOut v.transactions.usages v.transactions.reserved → t.number ≡ v.log.used → v.job ≡ Some (record { work = work; stage = stage })
    → IsBehindRuns v.runs_end work
    → MatchResult result (λ what. IsJobTurned t.stage t (record { work = work; stage = stage }) v what new)
    (λ why. JobTurnFails (record { work = work; stage = stage }) v why new) → Named v new
answered t work stage v new (Ok what) out number there behind answer = turned t.stage t work stage v new what out number there behind answer
answered t work stage v new (Err why) out number there behind answer = fails v new (record { work = work; stage = stages.Stored }) behind answer.1

turns : (tells : Bool) (v new : StoreValue) (work : JobWork) (stage : JobStage) (t : TurnState) (result : Result JobDid PumpFault) → Goes tells v → t.number
    ≡ v.log.used → v.job ≡ Some (record { work = work; stage = stage }) → IsBehindRuns v.runs_end work
    → TurnsJob tells (record { work = work; stage = stage }) t v result new → Ends tells v new
turns tells v new work stage t result goes number there behind s =
    let named = answered t work stage v new result goes.out number there behind s.answer in record {
      leaves = record {
        left = λ told area k is.
            left_by_slot t.number t.body t.stage (disk_answer result) v.disk.areas new.disk.areas ((s.call).areas told) (goes.sound told) area k
            (λ same. let below : IsNamed v Status k = subst (λ (a : Area). IsNamed v a k) same is in let low = below.0 in omega (arith, low, number));
        named = named.named;
      };
      behind = named.behind;
    }

-- a slot that is begun is taken from the log, and a reclaim makes what memory is to be: nothing else is changed
record IsReady (v ready : StoreValue) : Type 0 where
  usages : ready.transactions.usages ≡ v.transactions.usages
  reserved : ready.transactions.reserved ≡ v.transactions.reserved
  times : ready.transactions.times ≡ v.transactions.times
  used : ready.log.used ≡ v.log.used
  slots : ready.log.slots ≡ v.log.slots
  pieces : ready.log.pieces ≡ v.log.pieces
  runs_end : ready.runs_end ≡ v.runs_end
  job : ready.job ≡ v.job
  disk : ready.disk ≡ v.disk

is_ready : (work : JobWork) (v : StoreValue) → IsReady v (slot_taken (made_ready work v))
is_ready (ArchiveWork run writer) v =
    record { usages = refl; reserved = refl; times = refl; used = refl; slots = refl; pieces = refl; runs_end = refl; job = refl; disk = refl }
is_ready (Reclaim anchors source written) v =
    record { usages = refl; reserved = refl; times = refl; used = refl; slots = refl; pieces = refl; runs_end = refl; job = refl; disk = refl }
is_ready (Floor scope time floors) v =
    record { usages = refl; reserved = refl; times = refl; used = refl; slots = refl; pieces = refl; runs_end = refl; job = refl; disk = refl }
is_ready (Grow growth) v =
    record { usages = refl; reserved = refl; times = refl; used = refl; slots = refl; pieces = refl; runs_end = refl; job = refl; disk = refl }

ready_goes : (tells : Bool) (v ready : StoreValue) → IsReady v ready → Goes tells v → Goes tells ready
ready_goes tells v ready is goes = record {
  out = rw (is.usages, is.reserved) goes.out;
  used = let few = goes.used in omega (arith, few, is.used, is.slots);
  pieces = let few = goes.pieces in omega (arith, few, is.pieces, is.slots);
  sound = λ told. subst (λ (d : DiskState). AreSound d.areas) (sym is.disk) (goes.sound told);
}

ready_named : (v ready : StoreValue) → IsReady v ready → (area : Area) (k : ℕ) → IsNamed v area k → IsNamed ready area k
ready_named v ready is area k named =
    named_by v ready (kept_same v.transactions.usages ready.transactions.usages is.usages) (omega (arith, is.used)) (omega (arith, is.pieces)) (omega (
      arith,
      is.runs_end,
    )) area k named

ready_given : (v ready new : StoreValue) → IsReady v ready → (area : Area) (k : ℕ) → IsGivenUpIn ready new area k → IsGivenUpIn v new area k
ready_given v ready new is Status k given = absurd given
ready_given v ready new is Archive k given = absurd given
ready_given v ready new is Heap k given = record {
  anchors = given.anchors;
  source = given.source;
  written = given.written;
  stage = given.stage;
  job = sym is.job ∙ given.job;
  slot = given.slot ∙ ap (λ (n : ℕ). n + 1) is.used;
  mark = given.mark;
  place = record {
    number = (given.place).number;
    kept = kept_same ready.transactions.usages v.transactions.usages (sym is.usages) (given.place).number (given.place).kept;
    low = (given.place).low;
    high = (given.place).high;
  };
  by = subst (λ (ts : List ℕ). time_of ts (given.place).number ≤ (given.anchors).upto) is.times given.by;
}

from_ready : (tells : Bool) (v ready new : StoreValue) → IsReady v ready → Ends tells ready new → Ends tells v new
from_ready tells v ready new is ends = record {
  leaves = record {
    left = λ told area k named. subst (λ (d : DiskState). IsLeft k (area_of d.areas area) (area_of new.disk.areas area)) is.disk
        ((ends.leaves).left told area k (ready_named v ready is area k named));
    named = λ area k named. either area k ((ends.leaves).named area k (ready_named v ready is area k named));
  };
  behind = ends.behind;
}
  where
    either : (area : Area) (k : ℕ) → IsNamed new area k ⊎ IsGivenUpIn ready new area k → IsNamed new area k ⊎ IsGivenUpIn v new area k
    either area k (inl still) = inl still
    either area k (inr given) = inr (ready_given v ready new is area k given)

begins : (tells b : Bool) (v new : StoreValue) (work : JobWork) (stage : JobStage) (result : Result JobDid PumpFault) → Goes tells v → WritesBehind v → v.job
    ≡ Some (record { work = work; stage = stage }) → IsBehindRuns v.runs_end work
    → MatchBool b ((result ≡ Err fault.Busy) × (new ≡ v)) (BeginsJobSlot tells (record { work = work; stage = stage }) v result new) → Ends tells v new
begins tells true v new work stage result goes all there behind is = ends_same tells v new is.1 all
begins tells false v new work stage result goes all there behind (inl short) = ends_same tells v new short.2 all
begins tells false v new work stage result goes all there behind (inr is) =
    let ready : StoreValue = slot_taken (made_ready work v) in
    let same : IsReady v ready = is_ready work v in
    from_ready tells v ready new same
    (turns tells ready new work stage (first_turn v (record { work = work; stage = stage })) result (ready_goes tells v ready same goes) (sym same.used)
    (same.job ∙ there) (subst (λ (n : ℕ). IsBehindRuns n work) (sym same.runs_end) behind) is)

-- ---- every step

takes : (tells : Bool) (stage : JobStage) (v new : StoreValue) (work : JobWork) (result : Result JobDid PumpFault) → v.job
    ≡ Some (record { work = work; stage = stage }) → v.transactions.failed ≡ false → IsTyped tells v → WritesBehind v → Goes tells v → GrowsBehind work v.log
    → IsBehindRuns v.runs_end work
    → TakesJobStep tells stage (record { work = work; stage = stage }) v result new → Ends tells v new
takes tells stages.Writing v new work result is works typed all goes place behind takes_it =
    stores tells work stages.Writing v new result goes place behind takes_it
takes tells stages.Stored v new work result is works typed all goes place behind takes_it =
    begins tells (is_some v.turn) v new work stages.Stored result goes all is behind takes_it
takes tells (stages.Turning t) v new work result is works typed all goes place behind takes_it =
    let turn_is : turn_of v.job ≡ Some t = ap turn_of is in
    let slot : (t.number ≡ v.log.used) × IsOnItsWay t.stage × (v.turn ≡ None) =
    subst (λ (o : Option TurnState). MatchOption o (Unit {0}) (λ x. (x.number ≡ v.log.used) × IsOnItsWay x.stage
    × (v.turn ≡ None))) turn_is ((typed.in_step).turns works).job in
    turns tells v new work (stages.Turning t) t result goes slot.0 is behind takes_it

-- the extents of a job are out
reserved_out : (v : TransactionsValue) → IsInOrder v → AreOut v.usages v.reserved
reserved_out v order = out-front v.usages v.reserved (flat_map numbers_of v.queue) (out-swapped v.usages (flat_map numbers_of v.queue) v.reserved order.out)

job_goes : (tells : Bool) (v : StoreValue) → IsTyped tells v → Goes tells v
job_goes tells v typed = record {
  out = reserved_out v.transactions typed.order;
  used = let room = (typed.order).room in let slots = (typed.in_step).slots in let used = (typed.in_step).used in omega (arith, room, slots, used);
  pieces = typed.pieces;
  sound = typed.sound;
}

of_job : (tells : Bool) (o : Option Job) (v new : StoreValue) (result : Result JobDid PumpFault) → v.job ≡ o → v.transactions.failed ≡ false → IsTyped tells v
    → WritesBehind v
    → MatchOption o ((result ≡ Ok did.Idle) × (new ≡ v)) (λ job. TakesJobStep tells job.stage job v result new) → Ends tells v new
of_job tells None v new result is works typed all takes_it = ends_same tells v new takes_it.1 all
of_job tells (Some job) v new result is works typed all takes_it =
    let behind : IsBehindRuns v.runs_end job.work = subst (λ (o : Option Job). MatchOption o (Unit {0}) (λ (j : Job). IsBehindRuns v.runs_end j.work)) is all in
    let place : GrowsBehind job.work v.log = subst (λ (o : Option Job). MatchOption o (Unit {0}) (λ (j : Job). GrowsBehind j.work v.log)) is typed.grows in
    takes tells job.stage v new job.work result is works typed all (job_goes tells v typed) place behind takes_it

by_failed : (tells b : Bool) (v new : StoreValue) (result : Result JobDid PumpFault) → v.transactions.failed ≡ b → IsTyped tells v → WritesBehind v
    → MatchBool b ((result ≡ Err fault.Failed)
    × (new ≡ v)) (MatchOption v.job ((result ≡ Ok did.Idle) × (new ≡ v)) (λ job. TakesJobStep tells job.stage job v result new)) → Ends tells v new
by_failed tells true v new result failed typed all is = ends_same tells v new is.1 all
by_failed tells false v new result works typed all is = of_job tells v.job v new result refl works typed all is

pub job_pumped : (tells : Bool) (old new : StoreValue) (answer : Result JobDid PumpFault) → PumpsJob tells old answer new → IsTyped tells old → WritesBehind old
    → LeavesNamed tells old new × WritesBehind new
job_pumped tells old new answer pumps typed all =
    let ends = by_failed tells old.transactions.failed old new answer refl typed all pumps in (ends.leaves, ends.behind)

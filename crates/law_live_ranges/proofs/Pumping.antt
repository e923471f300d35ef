-- The steps of a group.
use Rattle.std.proofs.Common.{◌≡◌, ℕ, zero, suc, ◌-◌, nat_lt, cond, slice_get, slice_set, map, Bool, true, false, is_some, IsTrue, List, [], ◌∷◌, ◌++◌, take}
use Rattle.std.proofs.Common.{Option, Some, None, Result, Ok, Err, MatchBool, MatchOption, MatchResult, refl, sym, ap, subst, ◌∙◌, arith, inl, inr}
use Rattle.std.specs.List.{AllByRecursion, flat_map}
use Rattle.disk.specs.Areas.{AreSound}
use Rattle.disk.specs.declared.area.Area.{Area}
use Rattle.disk.specs.declared.area.Area.TheVariants.{Status, Heap}
use Rattle.deltas.specs.Extents.{extent_start}
use Rattle.extents.specs.declared.usage.Usage.{Usage}
use Rattle.extents.specs.Usages.{IsOut}
use Rattle.status.specs.SlotCalls.{SlotStage}
use Rattle.status.specs.SlotCalls as slots
use Rattle.status.specs.TurnState.{TurnState, LogState}
use Rattle.group.specs.Queued.{QueuedValue, numbers_of}
use Rattle.group.specs.declared.queued.StoredExtent.{StoredExtent}
use Rattle.group.specs.declared.answers.Did.{Did}
use Rattle.group.specs.declared.answers.PumpFault.{PumpFault}
use Rattle.group.specs.declared.answers.PumpFault.TheVariants as fault
use Rattle.group.specs.Values.{TransactionsValue}
use Rattle.group.specs.Steps.{next_step, next_extent, grouped, fresh_at}
use Rattle.group.specs.declared.stage.NextStep.{NextStep}
use Rattle.group.specs.declared.stage.NextStep.TheVariants as step
use Rattle.store.specs.Values.{StoreValue, KeepsJob, IsOnItsWay, turn_of}
use Rattle.store.specs.Pumps.{Pumps, TakesStep, WritesExtent, SyncsHeap, MayBeginSlot, TurnsSlot, IsTurned, TurnFails, Steps, started, begun, disk_answer}
use Rattle.law_live_ranges.specs.Named.{IsNamed, WritesBehind, IsTyped}
use Rattle.law_live_ranges.proofs.Places.{left_by_write, left_by_sync, left_by_slot}
use Rattle.std.proofs.lemmas.List.Concat.{flat_map-cons}
use Rattle.chains.specs.KeyWrites.{forgotten}
use Rattle.law_live_ranges.proofs.Naming.{LeavesAll, all_front, kept_published, others_of, kept_same, heap_apart, out_next, out_first, named_by, carried}
use Rattle.law_live_ranges.proofs.Naming.{leaves_itself, behind_kept, grouped_usages, grouped_queue}

-- what a group's step goes by
record Goes (tells : Bool) (v : StoreValue) : Type 0 where
  out : AllByRecursion (IsOut v.transactions.usages) (flat_map numbers_of v.transactions.queue)
  turn : MatchOption v.turn (Unit {0}) (λ t. t.number ≡ v.log.used)
  sound : IsTrue tells → AreSound v.disk.areas

-- what it leaves
record Ends (tells : Bool) (v new : StoreValue) : Type 0 where
  leaves : LeavesAll tells v new
  job : KeepsJob v new

keeps_job : (v new : StoreValue) → new ≡ v → KeepsJob v new
keeps_job v new same =
    record {
      job = ap (λ (s : StoreValue). s.job) same;
      archived = ap (λ (s : StoreValue). s.archived) same;
      runs_end = ap (λ (s : StoreValue). s.runs_end) same;
      archive = ap (λ (s : StoreValue). s.archive) same;
    }

ends_same : (tells : Bool) (v new : StoreValue) → new ≡ v → Ends tells v new
ends_same tells v new same = record { leaves = leaves_itself tells v new same; job = keeps_job v new same }

-- ---- a step between the calls of a slot

usages_by : (what : Did) (after : TransactionsValue) (v : StoreValue) (result : Result Did PumpFault) (new : StoreValue) → Steps what after v result new
    → after.usages ≡ v.transactions.usages → new.transactions.usages ≡ v.transactions.usages
usages_by what after v (Ok said) new steps same = ap (λ (t : TransactionsValue). t.usages) (steps.answer).1 ∙ same
usages_by what after v (Err why) new steps same = ap (λ (t : TransactionsValue). t.usages) (steps.answer).1

steps_named : (what : Did) (after : TransactionsValue) (v : StoreValue) (result : Result Did PumpFault) (new : StoreValue) → Steps what after v result new
    → after.usages ≡ v.transactions.usages
    → (area : Area) (k : ℕ) → IsNamed v area k → IsNamed new area k
steps_named what after v result new steps same =
    named_by v new (kept_same v.transactions.usages new.transactions.usages (usages_by what after v result new steps same)) (omega (
      arith,
      ap (λ (l : LogState). l.used) steps.log,
    )) (omega (arith, ap (λ (l : LogState). l.pieces) steps.log)) (omega (arith, (steps.job).runs_end))

writes : (tells : Bool) (v new : StoreValue) (result : Result Did PumpFault) (stored : StoredExtent) → Goes tells v → next_extent v.transactions ≡ Some stored
    → WritesExtent tells stored v result new → Ends tells v new
writes tells v new result stored goes found w = record {
  leaves = record {
    left = λ told area k named.
        left_by_write Heap (extent_start stored.extent) stored.image (disk_answer result) v.disk.areas new.disk.areas ((w.call).areas told) area k
        (λ is. heap_apart v k stored.extent stored.image (out_next v.transactions.usages v.transactions.queue v.transactions.stage stored goes.out found)
        w.whole (subst (λ (a : Area). IsNamed v a k) is named));
    named = steps_named _ _ v result new w.steps refl;
  };
  job = (w.steps).job;
}

syncs : (tells : Bool) (v new : StoreValue) (result : Result Did PumpFault) → Goes tells v → SyncsHeap tells v result new → Ends tells v new
syncs tells v new result goes s = record {
  leaves = record {
    left = λ told area k named. left_by_sync Heap (disk_answer result) v.disk.areas new.disk.areas ((s.call).areas told) (goes.sound told) area k;
    named = steps_named _ _ v result new s.steps refl;
  };
  job = (s.steps).job;
}

-- ---- a call of the slot

turned_named : (stage : SlotStage) (t : TurnState) (v new : StoreValue) (what : Did)
    → AllByRecursion (IsOut v.transactions.usages) (flat_map numbers_of v.transactions.queue) → t.number ≡ v.log.used → KeepsJob v new
    → IsTurned stage t v what new → (area : Area) (k : ℕ) → IsNamed v area k → IsNamed new area k
turned_named slots.Begun t v new what out number job is =
    named_by v new (kept_same v.transactions.usages new.transactions.usages (ap (λ (x : TransactionsValue). x.usages) is.1)) (omega (
      arith,
      ap (λ (l : LogState). l.used) is.2,
    )) (omega (arith, ap (λ (l : LogState). l.pieces) is.2)) (omega (arith, job.runs_end))
turned_named slots.BodyWritten t v new what out number job is =
    named_by v new (kept_same v.transactions.usages new.transactions.usages (ap (λ (x : TransactionsValue). x.usages) is.1)) (omega (
      arith,
      ap (λ (l : LogState). l.used) is.2,
    )) (omega (arith, ap (λ (l : LogState). l.pieces) is.2)) (omega (arith, job.runs_end))
turned_named slots.BodySynced t v new what out number job is =
    named_by v new (kept_same v.transactions.usages new.transactions.usages (ap (λ (x : TransactionsValue). x.usages) is.1)) (omega (
      arith,
      ap (λ (l : LogState). l.used) is.2,
    )) (omega (arith, ap (λ (l : LogState). l.pieces) is.2)) (omega (arith, job.runs_end))
turned_named slots.GateWritten t v new what out number job is = named_by v new
    (λ n kept.
    let numbers : List ℕ = flat_map numbers_of (take v.transactions.group v.transactions.queue) in
    let others = others_of v.transactions.usages numbers n (out_first v.transactions.usages v.transactions.group v.transactions.queue out) kept in
    kept_same _ new.transactions.usages (ap (λ (x : TransactionsValue). x.usages) is.1) n (kept_published v.transactions.usages numbers n others kept))
    (omega (arith, ap (λ (l : LogState). l.used) is.2, number)) (omega (arith, ap (λ (l : LogState). l.pieces) is.2)) (omega (arith, job.runs_end))
turned_named slots.Opened t v new what out number job is = absurd is

answer_named : (t : TurnState) (v new : StoreValue) (result : Result Did PumpFault)
    → AllByRecursion (IsOut v.transactions.usages) (flat_map numbers_of v.transactions.queue) → t.number ≡ v.log.used → KeepsJob v new
    → MatchResult result (λ what. IsTurned t.stage t v what new) (λ why. TurnFails v why new) → (area : Area) (k : ℕ) → IsNamed v area k → IsNamed new area k
answer_named t v new (Ok what) out number job answer = turned_named t.stage t v new what out number job answer
answer_named t v new (Err why) out number job answer =
    named_by v new (kept_same v.transactions.usages new.transactions.usages (ap (λ (x : TransactionsValue). x.usages) answer.transactions)) (omega (
      arith,
      ap (λ (l : LogState). l.used) answer.log,
    )) (omega (arith, ap (λ (l : LogState). l.pieces) answer.log)) (omega (arith, job.runs_end))

turns : (tells : Bool) (v new : StoreValue) (t : TurnState) (result : Result Did PumpFault)
    → AllByRecursion (IsOut v.transactions.usages) (flat_map numbers_of v.transactions.queue) → (IsTrue tells → AreSound v.disk.areas)
    → t.number ≡ v.log.used → TurnsSlot tells t v result new → Ends tells v new
turns tells v new t result out sound number s = record {
  leaves = record {
    left = λ told area k named.
        left_by_slot t.number t.body t.stage (disk_answer result) v.disk.areas new.disk.areas ((s.call).areas told) (sound told) area k
        (λ is. let below : IsNamed v Status k = subst (λ (a : Area). IsNamed v a k) is named in let low = below.0 in omega (arith, low, number));
    named = answer_named t v new result out number s.job s.answer;
  };
  job = s.job;
}

-- ---- the next step

takes_extent : (tells : Bool) (v new : StoreValue) (result : Result Did PumpFault) (o : Option StoredExtent) → next_extent v.transactions ≡ o → Goes tells v
    → MatchOption o ⊥ (λ stored. WritesExtent tells stored v result new) → Ends tells v new
takes_extent tells v new result None found goes is = absurd is
takes_extent tells v new result (Some stored) found goes is = writes tells v new result stored goes found is

-- a commit whose versions are made anew has the extents that it had
set_numbers : (qs : List QueuedValue) (place : ℕ) (q n : QueuedValue) → slice_get qs place ≡ Some q → n.stored ≡ q.stored
    → flat_map numbers_of (slice_set qs place n) ≡ flat_map numbers_of qs
set_numbers [] place q n found same = refl
set_numbers (x ∷ xs) zero q n found same =
    let is : x ≡ q = cc in
    let numbers : numbers_of n ≡ numbers_of x =
    ap (λ (ss : List StoredExtent). map (λ (s : StoredExtent). s.extent) ss) (same ∙ ap (λ (z : QueuedValue). z.stored) (sym is)) in
    flat_map-cons numbers_of n xs ∙ ap (λ (ns : List ℕ). ns ++ flat_map numbers_of xs) numbers ∙ sym (flat_map-cons numbers_of x xs)
set_numbers (x ∷ xs) (suc k) q n found same =
    flat_map-cons numbers_of x (slice_set xs k n) ∙ ap (λ (ns : List ℕ). numbers_of x ++ ns) (set_numbers xs k q n found same)
    ∙ sym (flat_map-cons numbers_of x xs)

fresh_numbers : (mark place : ℕ) (queue : List QueuedValue) (o : Option QueuedValue) → slice_get queue place ≡ o
    → flat_map numbers_of (fresh_at mark place queue o) ≡ flat_map numbers_of queue
fresh_numbers mark place queue None found = refl
fresh_numbers mark place queue (Some q) found =
    let anew : QueuedValue = record q { after = forgotten mark q.after; reclaimed = mark } in
    elim (nat_lt q.reclaimed mark) as (λ (b : Bool). flat_map numbers_of (cond b (slice_set queue place anew) queue)
    ≡ flat_map numbers_of queue) [ true ↦ set_numbers queue place q anew found refl | false ↦ refl ]

begins : (tells : Bool) (v new : StoreValue) (result : Result Did PumpFault) (b : Bool) → Goes tells v
    → MatchBool b ((result ≡ Err fault.Busy) × (new ≡ v)) (MayBeginSlot tells v result new) → Ends tells v new
begins tells v new result true goes is = ends_same tells v new is.1
begins tells v new result false goes (inl short) = ends_same tells v new short.2
begins tells v new result false goes (inr is) =
    let ends =
    turns tells (begun v) new _ result
    (subst (λ (ns : List ℕ). AllByRecursion (IsOut v.transactions.usages) ns)
    (sym (fresh_numbers v.transactions.reclaimed (v.transactions.group - 1) v.transactions.queue (slice_get v.transactions.queue (v.transactions.group - 1))
    refl)) goes.out) goes.sound refl is.turns in record {
      leaves = carried tells v (begun v) new (named_by v (begun v) (λ n kept. kept) (omega arith) (omega arith) (omega arith)) refl ends.leaves;
      job = record { job = (ends.job).job; archived = (ends.job).archived; runs_end = (ends.job).runs_end; archive = (ends.job).archive };
    }

advances : (tells : Bool) (v new : StoreValue) (result : Result Did PumpFault) (o : Option TurnState) → v.turn ≡ o → Goes tells v
    → MatchOption o ⊥ (λ t. TurnsSlot tells t v result new) → Ends tells v new
advances tells v new result None found goes is = absurd is
advances tells v new result (Some t) found goes is =
    turns tells v new t result goes.out goes.sound
    (subst (λ (o : Option TurnState). MatchOption o (Unit {0}) (λ (x : TurnState). x.number ≡ v.log.used)) found goes.turn) is

takes : (tells : Bool) (next : NextStep) (v new : StoreValue) (result : Result Did PumpFault) → Goes tells v → TakesStep tells next v result new
    → Ends tells v new
takes tells step.Idle v new result goes is = ends_same tells v new is.1
takes tells step.WriteExtent v new result goes is = takes_extent tells v new result (next_extent v.transactions) refl goes is
takes tells step.SyncHeap v new result goes is = syncs tells v new result goes is
takes tells step.BeginSlot v new result goes is = begins tells v new result (is_some (turn_of v.job)) goes is
takes tells step.AdvanceSlot v new result goes is = advances tells v new result v.turn refl goes is

-- a group that begins changes nothing of that
goes_started : (tells : Bool) (v : StoreValue) → Goes tells v → Goes tells (started v)
goes_started tells v goes = record {
  out = subst (λ (us : List Usage). AllByRecursion (IsOut us) (flat_map numbers_of (grouped v.transactions).queue)) (sym (grouped_usages v.transactions))
      (subst (λ (q : List QueuedValue). AllByRecursion (IsOut v.transactions.usages) (flat_map numbers_of q)) (sym (grouped_queue v.transactions)) goes.out);
  turn = goes.turn;
  sound = goes.sound;
}

turn_number : (o : Option TurnState) (used : ℕ) → MatchOption o (Unit {0}) (λ t. (t.number ≡ used) × IsOnItsWay t.stage)
    → MatchOption o (Unit {0}) (λ t. t.number ≡ used)
turn_number None used is = tt
turn_number (Some t) used is = is.0

by_failed : (tells b : Bool) (v new : StoreValue) (result : Result Did PumpFault) → v.transactions.failed ≡ b → IsTyped tells v
    → MatchBool b ((result ≡ Err fault.Failed) × (new ≡ v)) (TakesStep tells (next_step v.transactions) (started v) result new) → Ends tells v new
by_failed tells true v new result failed typed is = ends_same tells v new is.1
by_failed tells false v new result works typed is =
    let goes : Goes tells v =
    record {
      out = all_front (IsOut v.transactions.usages) (flat_map numbers_of v.transactions.queue) v.transactions.reserved ((typed.order).out).each;
      turn = turn_number v.turn v.log.used (((typed.in_step).turns works).turn);
      sound = typed.sound;
    } in
    let ends = takes tells (next_step v.transactions) (started v) new result (goes_started tells v goes) is in record {
      leaves = carried tells v (started v) new
          (named_by v (started v) (kept_same v.transactions.usages (grouped v.transactions).usages (grouped_usages v.transactions)) (omega arith) (omega arith)
          (omega arith)) refl ends.leaves;
      job = record { job = (ends.job).job; archived = (ends.job).archived; runs_end = (ends.job).runs_end; archive = (ends.job).archive };
    }

pub pumped : (tells : Bool) (old new : StoreValue) (answer : Result Did PumpFault) → Pumps tells old answer new → IsTyped tells old → WritesBehind old
    → LeavesAll tells old new × WritesBehind new
pumped tells old new answer pumps typed behind =
    let ends = by_failed tells old.transactions.failed old new answer refl typed pumps in (ends.leaves, behind_kept old new ends.job behind)

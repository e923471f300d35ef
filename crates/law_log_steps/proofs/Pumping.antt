-- A step of a group is a step of the machine.
use Rattle.std.proofs.Common.{◌≡◌, ℕ, zero, suc, ◌==◌, ◌<◌, ◌≤◌, ◌&&◌, nat_lt, min, Bool, true}
use Rattle.std.proofs.Common.{false, cond, List, [], ◌∷◌, ◌++◌, length, take, drop, Option, None, Some}
use Rattle.std.proofs.Common.{Result, Ok, Err}
use Rattle.std.proofs.Common.{refl, arith, ap, sym, subst, ◌∙◌, append-nil, inl, inr}
use Rattle.std.specs.Prelude.{IsTrue, MatchBool, MatchResult}
use Rattle.std.proofs.lemmas.Bool.Decides.{nat_tests}
use Rattle.history.specs.Histories.{History}
use Rattle.history.specs.Machine.{Machine, Gate, Shut, Due, MayBeOpen, OfGroup, IsMachine}
use Rattle.history.specs.Steps.{Event, Step, Run, GroupBegan, Broke, gated, grouped, group_published}
use Rattle.history.specs.Steps as steps
use Rattle.history.proofs.Machines.{run-machine}
use Rattle.disk.specs.Areas.{AreSound}
use Rattle.law_image.specs.Values.{Value, IsValue}
use Rattle.group.specs.declared.answers.PumpFault.{PumpFault}
use Rattle.group.specs.declared.answers.PumpFault.TheVariants as pump
use Rattle.log_writer.specs.Turns.{Stage, Writing, Syncing, Opening, Settling, Done, stage_after, chain_turn}
use Rattle.log_writer.specs.Writer.{WriterState, IsOnItsWay}
use Rattle.log_writer.specs.Writer as writers
use Rattle.commits.specs.Values.{CommitsValue, WaitingValue, mark_after}
use Rattle.commits.specs.Steps.{group_last, members, published}
use Rattle.commits.specs.Steps as commit_steps
use Rattle.log_store.specs.Named.{NamedValue}
use Rattle.log_base.specs.Bases.{mark_at, mark_of}
use Rattle.log_recovery.specs.Live.{LiveChainValue}
use Rattle.log_recovery.specs.declared.live.LivePart.{LivePart}
use Rattle.log_recovery.specs.declared.live.LivePart.TheVariants.{Commits}
use Rattle.log_recovery.specs.declared.live.LivePart.TheVariants as parts
use Rattle.log_store.specs.Gates.{waits_to_open}
use Rattle.log_store.specs.Live.{is_base}
use Rattle.log_store.specs.Values.{LogStoreValue, ReclaimValue, IsBeside, IsStageBeside, IsInStep}
use Rattle.log_store.specs.declared.job.Job.{Job}
use Rattle.log_store.specs.declared.job.JobStage.{JobStage}
use Rattle.log_store.specs.declared.job.JobStage.TheVariants.{Ready, Entering}
use Rattle.log_store.specs.declared.job.JobStage.TheVariants as stages
use Rattle.log_store.proofs.InStep.{beside_group}
use Rattle.floors.specs.Floors.{FloorsValue}
use Rattle.log_store.specs.Values as stores
use Rattle.log_store.specs.Pumps.{Pumps, TakesStep, bars_at, bars_groups, BeginsOrWaits, Begins, BeginsGroup, AdvancesGroup, Advances, after_call, at_next}
use Rattle.log_store.specs.Pumps.{with_failure, did_of, group_size}
use Rattle.log_store.specs.Pumps.{group_content}
use Rattle.log_store.specs.declared.pump.Did.{Did}
use Rattle.log_store.specs.declared.pump.Did.TheVariants as did
use Rattle.law_commits.specs.Standing.{StandsInMemory}
use Rattle.law_commits.specs.Laws.{with_published}
use Rattle.law_commits.proofs.Publishing.{publishes, breaks}
use Rattle.law_commits.proofs.Beside.{begins}
use Rattle.law_commits.proofs.Waiting.{as-many}
use Rattle.law_log_store.specs.Standing.{StandsOnHeap, StopsOnHeap}
use Rattle.law_log_store.specs.Calls.{count_in, StepsTo}
use Rattle.law_log_store.proofs.Beginning.{grouped-is}
use Rattle.law_log_store.proofs.Pumping.{pump-steps, failed-rests}
use Rattle.law_log_store.proofs.Submitting.{group-within}
use Rattle.law_log_steps.specs.Store.{HaveMark, AreFresh, gate_at, gate_on, gate_by, gate_of, gate_behind, gate_left, raising_of, HasAllMade, JobReaches}
use Rattle.law_log_steps.specs.Store.{ReclaimReaches, HasMarks, EndsInHeap, IsStoreOf}
use Rattle.law_refinement.specs.Laws.{begins_in, breaks_in}
use Rattle.law_log_steps.specs.Laws.{group_ends, events_in, Runs}
use Rattle.law_log_steps.proofs.InStep.{pump-holds}

-- ---- marks

pub marks-after : (mark own : ℕ) (ws : List WaitingValue) → own ≡ mark → HaveMark mark ws → mark_after own ws ≡ mark
marks-after mark own [] same all = same
marks-after mark own (w ∷ ws) same all = marks-after mark w.reclaimed ws all.0 all.1

marks-front : (mark n : ℕ) (ws : List WaitingValue) → HaveMark mark ws → HaveMark mark (take n ws)
marks-front mark zero ws all = tt
marks-front mark (suc n) [] all = tt
marks-front mark (suc n) (w ∷ ws) all = (all.0, marks-front mark n ws all.1)

marks-rest : (mark n : ℕ) (ws : List WaitingValue) → HaveMark mark ws → HaveMark mark (drop n ws)
marks-rest mark zero ws all = all
marks-rest mark (suc n) [] all = tt
marks-rest mark (suc n) (w ∷ ws) all = marks-rest mark n ws all.1

-- ---- memory

-- nothing is published
none-published : (m : Machine Value) → m ≡ with_published 0 m
none-published m = ap (λ (h : History Value). record m { published = h }) (sym (append-nil m.published))

-- memory stands for a machine
pub record IsMemoryOf (v : CommitsValue) (m : Machine Value) : Type 0 where
  pub stands : StandsInMemory v m
  pub fresh : AreFresh v

abbrev MemoryBy : Result Did PumpFault → CommitsValue → Machine Value → Type 0
MemoryBy (Ok what) v m = IsMemoryOf v (with_published (count_in what) m)
MemoryBy (Err why) v m = (why ≡ pump.Failed) × IsMemoryOf v (steps.broken m)

-- a call of the group's chain
call-memory : (tells : Bool) (w : WriterState) (old new : LogStoreValue) (answer : Result Did PumpFault) (m : Machine Value) → IsOnItsWay w.stage
    → IsMemoryOf old.commits m → IsMachine IsValue m → old.commits.group ≤ length old.commits.queue → Advances tells w old answer new
    → MemoryBy answer new.commits m
call-memory tells w old new answer m on is machine within advances = by-answer answer advances.answer
  where
    kept : new.commits ≡ old.commits → IsMemoryOf new.commits (with_published 0 m)
    kept unchanged =
        subst (λ (v : CommitsValue). IsMemoryOf v (with_published 0 m)) (sym unchanged)
        (subst (λ (n : Machine Value). IsMemoryOf old.commits n) (none-published m) is)

    done : IsMemoryOf (published old.commits) (with_published old.commits.group m)
    done = record {
      stands = publishes old.commits m is.stands machine within
          (marks-after old.commits.reclaimed old.commits.reclaimed (members old.commits) refl
          (marks-front old.commits.reclaimed old.commits.group old.commits.queue is.fresh));
      fresh = marks-rest old.commits.reclaimed old.commits.group old.commits.queue is.fresh;
    }

    by-stage : (k : Stage) → IsOnItsWay k → new ≡ record (after_call old w k) { disk = new.disk }
        → IsMemoryOf new.commits (with_published (count_in (did_of (writers.did k) old.commits.group)) m)
    by-stage (Writing d []) call next = kept (ap (λ (v : LogStoreValue). v.commits) next)
    by-stage (Writing d (p ∷ rest)) call next = kept (ap (λ (v : LogStoreValue). v.commits) next)
    by-stage Syncing call next = kept (ap (λ (v : LogStoreValue). v.commits) next)
    by-stage Opening call next = kept (ap (λ (v : LogStoreValue). v.commits) next)
    by-stage Settling call next =
        subst (λ (v : CommitsValue). IsMemoryOf v (with_published old.commits.group m)) (sym (ap (λ (v : LogStoreValue). v.commits) next)) done
    by-stage Done call next = absurd call

    by-answer : (a : Result Did PumpFault)
        → MatchResult a (λ what. (what ≡ did_of (writers.did w.stage) old.commits.group) × (new ≡ record (after_call old w w.stage) { disk = new.disk }))
        (λ why. (why ≡ pump.Failed) × (new ≡ record (with_failure old) { disk = new.disk }))
        → MemoryBy a new.commits m
    by-answer (Ok what) next =
        subst (λ (d : Did). IsMemoryOf new.commits (with_published (count_in d) m)) (sym next.0) (by-stage w.stage on next.1)
    by-answer (Err why) next = (
      next.0,
      subst (λ (v : CommitsValue). IsMemoryOf v (steps.broken m)) (sym (ap (λ (v : LogStoreValue). v.commits) next.1))
          (record { stands = breaks old.commits m is.stands; fresh = is.fresh }),
    )

-- memory says nothing of the group that the machine has
gated-memory : (v : CommitsValue) (m : Machine Value) (group : ℕ) (gate : Gate) → StandsInMemory v m
    → StandsInMemory v (record m { group = group; gate = gate })
gated-memory v m group gate stands = record {
  names = stands.names;
  rising = stands.rising;
  versions = stands.versions;
  forgot = stands.forgot;
  recent = stands.recent;
  queue = stands.queue;
  snapshots = stands.snapshots;
  floors = stands.floors;
  failed = stands.failed;
}

-- ---- gates

-- where a group's chain is in the writing, and where no job bars groups, no entry is
shut-beside : (w : WriterState) (j : Option Job) → IsBeside (Some w) j → gate_by j ≡ Shut
shut-beside w None alone = refl
shut-beside w (Some job) alone = by-stage job.stage alone
  where
    by-stage : (k : JobStage) → IsStageBeside (Some w) k → gate_on job.work k ≡ Shut
    by-stage (stages.Writing writer) alone = refl
    by-stage (Ready waited) alone = refl
    by-stage (Entering e) alone = absurd (let no = alone.0 in cc)

shut-unbarred : (j : Option Job) → bars_groups j ≡ false → gate_by j ≡ Shut
shut-unbarred None unbarred = refl
shut-unbarred (Some job) unbarred = by-stage job.stage unbarred
  where
    by-stage : (k : JobStage) → bars_at k ≡ false → gate_on job.work k ≡ Shut
    by-stage (stages.Writing writer) unbarred = refl
    by-stage (Ready waited) unbarred = refl
    by-stage (Entering e) barred = absurd (let no : true ≡ false = barred in cc)

-- ---- events

begins-some : (m : Machine Value) → m.group ≡ 0 → 0 < length m.queue → begins_in m ≡ GroupBegan ∷ []
begins-some m none some =
    let first : (m.group == 0) ≡ true = grind (arith, nat_tests, none) in
    let second : nat_lt 0 (length m.queue) ≡ true = grind (arith, nat_tests, some) in
    λ i. cond (first i && second i) (GroupBegan ∷ []) []

begins-none : (m : Machine Value) → 0 < m.group → begins_in m ≡ []
begins-none m some =
    let first : (m.group == 0) ≡ false = grind (arith, nat_tests, some) in
    λ i. cond (first i && nat_lt 0 (length m.queue)) (GroupBegan ∷ []) []

begins-idle : (m : Machine Value) → m.group ≡ 0 → length m.queue ≡ 0 → begins_in m ≡ []
begins-idle m none empty =
    let first : (m.group == 0) ≡ true = grind (arith, nat_tests, none) in
    let second : nat_lt 0 (length m.queue) ≡ false = grind (arith, nat_tests, empty) in
    λ i. cond (first i && second i) (GroupBegan ∷ []) []

-- the machine has published so many and gone on
record Gone (m : Machine Value) (events : List (Event Value)) (count : ℕ) (new : LogStoreValue) : Type 0 where
  group : ℕ
  gate : Gate
  run : Run IsValue m events (record (with_published count m) { group = group; gate = gate })
  group_is : group ≡ new.commits.group
  gate_is : gate ≡ gate_of new.turn new.job

-- or it has failed
record Failing (m : Machine Value) (events : List (Event Value)) (new : LogStoreValue) : Type 0 where
  group : ℕ
  gate : Gate
  run : Run IsValue m events (record (steps.broken m) { group = group; gate = gate })
  group_is : group ≡ new.commits.group
  gate_is : gate ≡ gate_left new.turn new.job

abbrev GoesBy : Result Did PumpFault → Machine Value → LogStoreValue → Type 0
GoesBy (Ok what) m new = Gone m (group_ends what) (count_in what) new
GoesBy (Err why) m new = Failing m (breaks_in m.gate) new

-- a call of the group's chain
module _ (tells : Bool) (w : WriterState) (old new : LogStoreValue) (m : Machine Value) (on : IsOnItsWay w.stage) (works : m.failed ≡ false)
    (group_is : m.group ≡ old.commits.group) (some : 0 < old.commits.group) (gate_is : m.gate ≡ gate_at OfGroup w.stage)
    (alone : IsBeside (Some w) old.job) where
  some-here : 0 < m.group
  some-here = omega (arith, some, group_is)

  stays : (next : Gate) → (mid : Machine Value) → mid ≡ gated m next → record (with_published 0 m) { gate = next } ≡ mid
  stays next mid is = ap (λ (h : History Value). record m { published = h; gate = next }) (append-nil m.published) ∙ sym is

  call-goes : (what : Did) → Advances tells w old (Ok what) new → Gone m (group_ends what) (count_in what) new
  call-goes what advances =
      subst (λ (d : Did). Gone m (group_ends d) (count_in d) new) (sym advances.answer.0) (by-stage w.stage refl on advances.answer.1)
    where
      next-turn : (k : Stage) → w.stage ≡ k → new ≡ record (at_next old w) { disk = new.disk } → gate_at OfGroup (stage_after k)
          ≡ gate_of new.turn new.job
      next-turn k same next =
          ap (λ (j : Stage). gate_at OfGroup (stage_after j)) (sym same) ∙ ap (λ (v : LogStoreValue). gate_of v.turn v.job) (sym next)

      by-stage : (k : Stage) → w.stage ≡ k → IsOnItsWay k → new ≡ record (after_call old w k) { disk = new.disk }
          → Gone m (group_ends (did_of (writers.did k) old.commits.group)) (count_in (did_of (writers.did k) old.commits.group)) new
      by-stage (Writing d []) same call next = record {
        group = m.group;
        gate = m.gate;
        run = stays m.gate m refl;
        group_is = group_is ∙ ap (λ (v : LogStoreValue). v.commits.group) (sym next);
        gate_is = gate_is ∙ ap (gate_at OfGroup) same ∙ next-turn (Writing d []) same next;
      }
      by-stage (Writing d (p ∷ rest)) same call next = record {
        group = m.group;
        gate = m.gate;
        run = stays m.gate m refl;
        group_is = group_is ∙ ap (λ (v : LogStoreValue). v.commits.group) (sym next);
        gate_is = gate_is ∙ ap (gate_at OfGroup) same ∙ next-turn (Writing d (p ∷ rest)) same next;
      }
      by-stage Syncing same call next = record {
        group = m.group;
        gate = Due OfGroup;
        run = (gated m (Due OfGroup), (works, some-here, gate_is ∙ ap (gate_at OfGroup) same, refl), stays (Due OfGroup) (gated m (Due OfGroup)) refl);
        group_is = group_is ∙ ap (λ (v : LogStoreValue). v.commits.group) (sym next);
        gate_is = next-turn Syncing same next;
      }
      by-stage Opening same call next = record {
        group = m.group;
        gate = MayBeOpen OfGroup;
        run = (gated m (MayBeOpen OfGroup), (works, gate_is ∙ ap (gate_at OfGroup) same, refl), stays (MayBeOpen OfGroup) (gated m (MayBeOpen OfGroup)) refl);
        group_is = group_is ∙ ap (λ (v : LogStoreValue). v.commits.group) (sym next);
        gate_is = next-turn Opening same next;
      }
      by-stage Settling same call next = record {
        group = 0;
        gate = Shut;
        run = (
          group_published m,
          (works, some, sym group_is, gate_is ∙ ap (gate_at OfGroup) same, refl),
          ap (λ (n : ℕ). record m { published = m.published ++ take n m.queue; queue = drop n m.queue; group = 0; gate = Shut }) (sym group_is),
        );
        group_is = ap (λ (v : LogStoreValue). v.commits.group) (sym next);
        gate_is = sym (shut-beside w old.job alone) ∙ ap (λ (v : LogStoreValue). gate_of v.turn v.job) (sym next);
      }
      by-stage Done same call next = absurd call

  call-breaks : (why : PumpFault) → old.turn ≡ Some w → Advances tells w old (Err why) new → Failing m (breaks_in m.gate) new
  call-breaks why turn_is advances = by-stage w.stage refl
    where
      same-group : m.group ≡ new.commits.group
      same-group = group_is ∙ ap (λ (v : LogStoreValue). v.commits.group) (sym advances.answer.1)

      left-behind : (k : Stage) → w.stage ≡ k → gate_behind OfGroup k ≡ gate_left new.turn new.job
      left-behind k same =
          ap (gate_behind OfGroup) (sym same) ∙ ap (λ (t : Option WriterState). gate_left t old.job) (sym turn_is)
          ∙ ap (λ (v : LogStoreValue). gate_left v.turn v.job) (sym advances.answer.1)

      here : (k : Gate) → m.gate ≡ k → Failing m (breaks_in k) new → Failing m (breaks_in m.gate) new
      here k same fails = subst (λ (g : Gate). Failing m (breaks_in g) new) (sym same) fails

      only-breaks : m.gate ≡ gate_left new.turn new.job → Failing m (Broke ∷ []) new
      only-breaks left = record { group = m.group; gate = m.gate; run = (steps.broken m, (works, refl), refl); group_is = same-group; gate_is = left }

      by-stage : (k : Stage) → w.stage ≡ k → Failing m (breaks_in m.gate) new
      by-stage (Writing d rest) same =
          let shut : m.gate ≡ Shut = gate_is ∙ ap (gate_at OfGroup) same in here Shut shut (only-breaks (shut ∙ left-behind (Writing d rest) same))
      by-stage Syncing same = let shut : m.gate ≡ Shut = gate_is ∙ ap (gate_at OfGroup) same in here Shut shut (only-breaks (shut ∙ left-behind Syncing same))
      by-stage Opening same =
          let due : m.gate ≡ Due OfGroup = gate_is ∙ ap (gate_at OfGroup) same in
          here (Due OfGroup) due (record {
            group = m.group;
            gate = MayBeOpen OfGroup;
            run = (gated m (MayBeOpen OfGroup), (works, due, refl), (steps.broken (gated m (MayBeOpen OfGroup)), (works, refl), refl));
            group_is = same-group;
            gate_is = left-behind Opening same;
          })
      by-stage Settling same =
          let may : m.gate ≡ MayBeOpen OfGroup = gate_is ∙ ap (gate_at OfGroup) same in
          here (MayBeOpen OfGroup) may (only-breaks (may ∙ left-behind Settling same))
      by-stage Done same =
          let may : m.gate ≡ MayBeOpen OfGroup = gate_is ∙ ap (gate_at OfGroup) same in
          here (MayBeOpen OfGroup) may (only-breaks (may ∙ left-behind Done same))

  call-runs : (answer : Result Did PumpFault) → old.turn ≡ Some w → Advances tells w old answer new → GoesBy answer m new
  call-runs (Ok what) turn_is advances = call-goes what advances
  call-runs (Err why) turn_is advances = call-breaks why turn_is advances

-- ---- memory, disk and events

-- what memory has after a step, and how the machine went, by the answer
abbrev StepBy : Result Did PumpFault → LogStoreValue → LogStoreValue → Machine Value → Type 0
StepBy (Ok what) old new m = IsMemoryOf new.commits (with_published (count_in what) m) × Gone m (begins_in m ++ group_ends what) (count_in what) new
StepBy (Err pump.Busy) old new m = new ≡ old
StepBy (Err pump.NoMemory) old new m = new ≡ old
StepBy (Err pump.Failed) old new m = IsMemoryOf new.commits (steps.broken m) × Failing m (begins_in m ++ breaks_in m.gate) new

-- of a group that stands
as-standing : (answer : Result Did PumpFault) (old new : LogStoreValue) (m : Machine Value) → begins_in m ≡ [] → MemoryBy answer new.commits m
    → GoesBy answer m new → StepBy answer old new m
as-standing (Ok what) old new m none memory goes =
    (memory, subst (λ (es : List (Event Value)). Gone m (es ++ group_ends what) (count_in what) new) (sym none) goes)
as-standing (Err pump.Busy) old new m none memory goes = absurd (let no : pump.Busy ≡ pump.Failed = memory.0 in cc)
as-standing (Err pump.NoMemory) old new m none memory goes = absurd (let no : pump.NoMemory ≡ pump.Failed = memory.0 in cc)
as-standing (Err pump.Failed) old new m none memory goes =
    (memory.1, subst (λ (es : List (Event Value)). Failing m (es ++ breaks_in m.gate) new) (sym none) goes)

-- of one that begins
as-begun : (answer : Result Did PumpFault) (old new : LogStoreValue) (m : Machine Value) → begins_in m ≡ GroupBegan ∷ [] → Step IsValue m GroupBegan (grouped m)
    → MemoryBy answer new.commits m → GoesBy answer (grouped m) new → StepBy answer old new m
as-begun (Ok what) old new m began step memory goes = (
  memory,
  subst (λ (es : List (Event Value)). Gone m (es ++ group_ends what) (count_in what) new) (sym began) (record {
    group = goes.group;
    gate = goes.gate;
    run = (grouped m, step, goes.run);
    group_is = goes.group_is;
    gate_is = goes.gate_is;
  }),
)
as-begun (Err pump.Busy) old new m began step memory goes = absurd (let no : pump.Busy ≡ pump.Failed = memory.0 in cc)
as-begun (Err pump.NoMemory) old new m began step memory goes = absurd (let no : pump.NoMemory ≡ pump.Failed = memory.0 in cc)
as-begun (Err pump.Failed) old new m began step memory goes = (
  memory.1,
  subst (λ (es : List (Event Value)). Failing m (es ++ breaks_in m.gate) new) (sym began) (record {
    group = goes.group;
    gate = goes.gate;
    run = (grouped m, step, goes.run);
    group_is = goes.group_is;
    gate_is = goes.gate_is;
  }),
)

-- A group has begun: its chain is on its way.
record HasWriter (old begun : LogStoreValue) : Type 0 where
  writer : WriterState
  turn : begun.turn ≡ Some writer
  on : IsOnItsWay writer.stage
  fresh : gate_at OfGroup writer.stage ≡ Shut
  commits : begun.commits ≡ record old.commits { group = group_size old }

has-writer : (old begun : LogStoreValue) → old.commits.group ≡ 0 → 0 < length old.commits.queue → Begins old begun → HasWriter old begun
has-writer old begun none some b = record {
  writer = record {
    numbers = b.numbers;
    link = b.link;
    content = group_content old;
    stage = Writing [] (chain_turn b.numbers b.link (group_content old)).parts;
  };
  turn = ap (λ (v : LogStoreValue). v.turn) b.new_is;
  on = tt;
  fresh = refl;
  commits = ap (λ (v : LogStoreValue). v.commits) b.new_is ∙ grouped-is old.commits none some;
}

-- ---- what a step of a group leaves of a job

-- neither the job that runs, nor the reclaim, nor the floors and the marks
pub record LeavesJob (old new : LogStoreValue) : Type 0 where
  pub job : new.job ≡ old.job
  pub reclaim : new.reclaim ≡ old.reclaim
  pub base : mark_of new.live.chains ≡ mark_of old.live.chains
  pub floors : new.commits.floors ≡ old.commits.floors
  pub reclaimed : new.commits.reclaimed ≡ old.commits.reclaimed
  pub named : new.named ≡ old.named

same-leaves : (old new : LogStoreValue) → new ≡ old → LeavesJob old new
same-leaves old new is = record {
  job = ap (λ (v : LogStoreValue). v.job) is;
  reclaim = ap (λ (v : LogStoreValue). v.reclaim) is;
  base = ap (λ (v : LogStoreValue). mark_of v.live.chains) is;
  floors = ap (λ (v : LogStoreValue). v.commits.floors) is;
  reclaimed = ap (λ (v : LogStoreValue). v.commits.reclaimed) is;
  named = ap (λ (v : LogStoreValue). v.named) is;
}

leaves-on : (old mid new : LogStoreValue) → LeavesJob old mid → LeavesJob mid new → LeavesJob old new
leaves-on old mid new first next = record {
  job = next.job ∙ first.job;
  reclaim = next.reclaim ∙ first.reclaim;
  base = next.base ∙ first.base;
  floors = next.floors ∙ first.floors;
  reclaimed = next.reclaimed ∙ first.reclaimed;
  named = next.named ∙ first.named;
}

advance-leaves : (tells : Bool) (w : WriterState) (old new : LogStoreValue) (answer : Result Did PumpFault) → Advances tells w old answer new
    → LeavesJob old new
advance-leaves tells w old new answer advances = by-answer answer advances.answer
  where
    call-leaves : (k : Stage) → LeavesJob old (record (after_call old w k) { disk = new.disk })
    call-leaves (Writing done rest) = record { job = refl; reclaim = refl; base = refl; floors = refl; reclaimed = refl; named = refl }
    call-leaves Syncing = record { job = refl; reclaim = refl; base = refl; floors = refl; reclaimed = refl; named = refl }
    call-leaves Opening = record { job = refl; reclaim = refl; base = refl; floors = refl; reclaimed = refl; named = refl }
    call-leaves Settling = record { job = refl; reclaim = refl; base = refl; floors = refl; reclaimed = refl; named = refl }
    call-leaves Done = record { job = refl; reclaim = refl; base = refl; floors = refl; reclaimed = refl; named = refl }

    by-answer : (a : Result Did PumpFault)
        → MatchResult a (λ what. (what ≡ did_of (writers.did w.stage) old.commits.group) × (new ≡ record (after_call old w w.stage) { disk = new.disk }))
        (λ why. (why ≡ pump.Failed) × (new ≡ record (with_failure old) { disk = new.disk })) → LeavesJob old new
    by-answer (Ok what) is =
        let called : LogStoreValue = record (after_call old w w.stage) { disk = new.disk } in
        leaves-on old called new (call-leaves w.stage) (same-leaves called new is.1)
    by-answer (Err why) is =
        let failed : LogStoreValue = record (with_failure old) { disk = new.disk } in
        leaves-on old failed new (record { job = refl; reclaim = refl; base = refl; floors = refl; reclaimed = refl; named = refl })
        (same-leaves failed new is.1)

-- the mark of the log's base is the same behind one chain more
pub mark-more : (chains : List LiveChainValue) (c : LiveChainValue) → is_base c.part ≡ false → mark_of (chains ++ c ∷ []) ≡ mark_of chains
mark-more (d ∷ ds) c none = refl
mark-more [] c none = by-part c.part none
  where
    by-part : (part : LivePart) → is_base part ≡ false → mark_at part ≡ 0
    by-part (Commits time) none = refl
    by-part (parts.Archived archive) none = refl
    by-part (parts.Floor floor) none = refl
    by-part (parts.Base base) none = absurd (let no : true ≡ false = none in cc)

pub step-leaves : (tells : Bool) (old new : LogStoreValue) (answer : Result Did PumpFault) → TakesStep tells old old.turn answer new → LeavesJob old new
step-leaves tells old new answer takes = by-turn old.turn takes
  where
    same : new ≡ old → LeavesJob old new
    same is = same-leaves old new is

    grouped-floors : (v : CommitsValue) → (commit_steps.grouped 1024 v).floors ≡ v.floors
    grouped-floors v = by-test ((v.group == 0) && nat_lt 0 (length v.queue))
      where
        by-test : (b : Bool) → (cond b (record v { group = min 1024 (length v.queue) }) v).floors ≡ v.floors
        by-test true = refl
        by-test false = refl

    grouped-mark : (v : CommitsValue) → (commit_steps.grouped 1024 v).reclaimed ≡ v.reclaimed
    grouped-mark v = by-test ((v.group == 0) && nat_lt 0 (length v.queue))
      where
        by-test : (b : Bool) → (cond b (record v { group = min 1024 (length v.queue) }) v).reclaimed ≡ v.reclaimed
        by-test true = refl
        by-test false = refl

    by-group : (begun : LogStoreValue) (t : Option WriterState) → Begins old begun → AdvancesGroup tells begun t answer new → LeavesJob old new
    by-group begun None b advances = absurd advances
    by-group begun (Some w) b advances =
        leaves-on old begun new (record {
          job = ap (λ (v : LogStoreValue). v.job) b.new_is;
          reclaim = ap (λ (v : LogStoreValue). v.reclaim) b.new_is;
          base = ap (λ (v : LogStoreValue). mark_of v.live.chains) b.new_is
              ∙ mark-more old.live.chains (record { numbers = b.numbers; part = Commits (group_last (commit_steps.grouped 1024 old.commits)) }) refl;
          floors = ap (λ (v : LogStoreValue). v.commits.floors) b.new_is ∙ grouped-floors old.commits;
          reclaimed = ap (λ (v : LogStoreValue). v.commits.reclaimed) b.new_is ∙ grouped-mark old.commits;
          named = ap (λ (v : LogStoreValue). v.named) b.new_is;
        }) (advance-leaves tells w begun new answer advances)

    begins : BeginsGroup tells old answer new → LeavesJob old new
    begins (inl none) = same none.1
    begins (inr begun) = by-group begun.0 (begun.0).turn begun.1 begun.2

    by-job : (b : Bool) → MatchBool b ((answer ≡ Err pump.Busy) × (new ≡ old)) (BeginsGroup tells old answer new) → LeavesJob old new
    by-job true busy = same busy.1
    by-job false so = begins so

    by-queue : (b : Bool) → MatchBool b ((answer ≡ Ok did.Idle) × (new ≡ old)) (BeginsOrWaits tells old answer new) → LeavesJob old new
    by-queue true idle = same idle.1
    by-queue false so = by-job (bars_groups old.job) so

    by-gate : (w : WriterState) (b : Bool) → MatchBool b ((answer ≡ Err pump.Busy) × (new ≡ old)) (Advances tells w old answer new) → LeavesJob old new
    by-gate w true busy = same busy.1
    by-gate w false so = advance-leaves tells w old new answer so

    by-turn : (t : Option WriterState) → TakesStep tells old t answer new → LeavesJob old new
    by-turn None so = by-queue (length old.commits.queue == 0) so
    by-turn (Some w) so = by-gate w (waits_to_open old.reclaim w.stage) so

module _ (tells : Bool) (old new : LogStoreValue) (answer : Result Did PumpFault) (m : Machine Value) (step : IsInStep old)
    (sound : IsTrue tells → AreSound new.disk.areas) (is : IsStoreOf tells old m) where
  many : length old.commits.queue ≡ length m.queue
  many = as-many old.commits.reclaimed old.commits.versions old.commits.queue m.queue is.memory.queue

  -- a store that works
  module _ (works : old.commits.failed ≡ false) (takes : TakesStep tells old old.turn answer new) (pumps : Pumps tells old answer new) where
    works-here : m.failed ≡ false
    works-here = sym is.memory.failed ∙ works

    stands : IsTrue tells → StandsOnHeap old m.published m.queue m.floors
    stands told =
        subst (λ (b : Bool). MatchBool b (StopsOnHeap old m.published m.queue m.floors) (StandsOnHeap old m.published m.queue m.floors)) works (is.disk told)

    none-at-rest : old.turn ≡ None → m.group ≡ 0
    none-at-rest at_rest = is.writing.group ∙ subst (stores.HasTurn old.commits.group) at_rest step.turn

    begins-so : old.turn ≡ None → bars_groups old.job ≡ false → 0 < length old.commits.queue → BeginsGroup tells old answer new → StepBy answer old new m
    begins-so at_rest unbarred some (inl none) = subst (λ (a : Result Did PumpFault). StepBy a old new m) (sym none.0) none.1
    begins-so at_rest unbarred some (inr begun) =
        let has = has-writer old begun.0 (subst (stores.HasTurn old.commits.group) at_rest step.turn) some begun.1 in
        let advances : Advances tells has.writer begun.0 answer new =
        subst (λ (t : Option WriterState). AdvancesGroup tells begun.0 t answer new) has.turn begun.2 in
        let memory : IsMemoryOf begun.0.commits m = record {
          stands = subst (λ (v : CommitsValue). StandsInMemory v m) (sym (ap (λ (v : LogStoreValue). v.commits) (begun.1).new_is))
              (begins old.commits m 1024 is.memory);
          fresh = subst AreFresh (sym has.commits) is.fresh;
        } in
        let within : begun.0.commits.group ≤ length begun.0.commits.queue =
        subst (λ (v : CommitsValue). v.group ≤ length v.queue) (sym has.commits) (omega arith) in
        let none = none-at-rest at_rest in
        let waiting : 0 < length m.queue = omega (arith, some, many) in
        let group : (grouped m).group ≡ begun.0.commits.group =
        (λ i. min (is.writing.most i) (sym many i)) ∙ ap (λ (v : CommitsValue). v.group) (sym has.commits) in
        let more : 0 < begun.0.commits.group = subst (λ (v : CommitsValue). 0 < v.group) (sym has.commits) (omega (arith, some)) in
        let gate : (grouped m).gate ≡ gate_at OfGroup has.writer.stage =
        is.writing.gate works-here ∙ ap (λ (t : Option WriterState). gate_of t old.job) at_rest ∙ shut-unbarred old.job unbarred ∙ sym has.fresh in
        as-begun answer old new m (begins-some m none waiting)
        (works-here, none, (λ empty. let zero-long = ap (λ (h : History Value). length h) empty in absurd (omega (arith, waiting, zero-long))), refl)
        (call-memory tells has.writer begun.0 new answer m has.on memory is.machine within advances)
        (call-runs tells has.writer begun.0 new (grouped m) has.on works-here group more gate
        (subst (λ (v : LogStoreValue). IsBeside (Some has.writer) v.job) (sym (begun.1).new_is) (beside_group has.writer old.job unbarred)) answer has.turn
        advances)

    by-job : (b : Bool) → bars_groups old.job ≡ b → old.turn ≡ None → 0 < length old.commits.queue
        → MatchBool b ((answer ≡ Err pump.Busy) × (new ≡ old)) (BeginsGroup tells old answer new) → StepBy answer old new m
    by-job true barred at_rest some busy = subst (λ (a : Result Did PumpFault). StepBy a old new m) (sym busy.0) busy.1
    by-job false unbarred at_rest some begun = begins-so at_rest unbarred some begun

    by-queue : (b : Bool) → (length old.commits.queue == 0) ≡ b → old.turn ≡ None
        → MatchBool b ((answer ≡ Ok did.Idle) × (new ≡ old)) (BeginsOrWaits tells old answer new) → StepBy answer old new m
    by-queue true none at_rest idle =
        let empty : length m.queue ≡ 0 = sym many ∙ grind (arith, nat_tests) in
        subst (λ (a : Result Did PumpFault). StepBy a old new m) (sym idle.0) (
          subst (λ (v : LogStoreValue). IsMemoryOf v.commits (with_published 0 m)) (sym idle.1)
              (subst (λ (n : Machine Value). IsMemoryOf old.commits n) (none-published m) (record { stands = is.memory; fresh = is.fresh })),
          subst (λ (es : List (Event Value)). Gone m (es ++ []) 0 new) (sym (begins-idle m (none-at-rest at_rest) empty)) (record {
            group = m.group;
            gate = m.gate;
            run = sym (none-published m);
            group_is = is.writing.group ∙ ap (λ (v : LogStoreValue). v.commits.group) (sym idle.1);
            gate_is = is.writing.gate works-here ∙ ap (λ (v : LogStoreValue). gate_of v.turn v.job) (sym idle.1);
          }),
        )
    by-queue false some at_rest so = by-job (bars_groups old.job) refl at_rest (grind (arith, nat_tests)) so

    -- the gate may wait for a reclaim that turns
    by-gate : (w : WriterState) → old.turn ≡ Some w → (b : Bool)
        → MatchBool b ((answer ≡ Err pump.Busy) × (new ≡ old)) (Advances tells w old answer new) → StepBy answer old new m
    by-gate w standing true busy = subst (λ (a : Result Did PumpFault). StepBy a old new m) (sym busy.0) busy.1
    by-gate w standing false next =
        let has : stores.HasTurn old.commits.group (Some w) = subst (stores.HasTurn old.commits.group) standing step.turn in
        as-standing answer old new m (begins-none m (omega (arith, has.0, is.writing.group)))
        (call-memory tells w old new answer m has.1 (record { stands = is.memory; fresh = is.fresh }) is.machine (group-within old step) next)
        (call-runs tells w old new m has.1 works-here is.writing.group has.0
        (is.writing.gate works-here ∙ ap (λ (t : Option WriterState). gate_of t old.job) standing)
        (subst (λ (t : Option WriterState). IsBeside t old.job) standing step.beside) answer standing next)

    by-turn : (t : Option WriterState) → old.turn ≡ t → TakesStep tells old t answer new → StepBy answer old new m
    by-turn None at_rest next = by-queue (length old.commits.queue == 0) refl at_rest next
    by-turn (Some w) standing next = by-gate w standing (waits_to_open old.reclaim w.stage) next

    -- no job begins or ends
    same-job : new.job ≡ old.job
    same-job = (step-leaves tells old new answer takes).job

    made-on : HasAllMade new.commits.floors new.job
    made-on =
        subst (λ (f : FloorsValue). HasAllMade f new.job) (sym (step-leaves tells old new answer takes).floors)
        (subst (λ (j : Option Job). HasAllMade old.commits.floors j) (sym same-job) is.writing.made)

    marks-on : HasMarks new
    marks-on =
        let left = step-leaves tells old new answer takes in record {
          reclaimed = (
              let low = is.marks.reclaimed in
              let same = left.reclaimed in
              let upto = ap (λ (n : NamedValue). n.upto) left.named in
              omega (arith, low, same, upto)
              );
          base = (let low = is.marks.base in let same = left.reclaimed in let mark = left.base in omega (arith, low, same, mark));
          job = subst (λ (n : NamedValue). JobReaches n.upto new.job) (sym left.named)
              (subst (λ (j : Option Job). JobReaches old.named.upto j) (sym same-job) is.marks.job);
          reclaim = subst (λ (n : NamedValue). ReclaimReaches n.upto new.reclaim) (sym left.named)
              (subst (λ (r : Option ReclaimValue). ReclaimReaches old.named.upto r) (sym left.reclaim) is.marks.reclaim);
        }

    ends-on : EndsInHeap new
    ends-on = (pump-holds tells old new answer (step, is.ends) pumps).1

    by-answer : (a : Result Did PumpFault) → StepBy a old new m → (IsTrue tells → StepsTo a old new m.published m.queue m.floors)
        → Runs tells m (events_in m a) new
    by-answer (Ok what) by steps-to =
        let memory = by.0 in
        let gone = by.1 in
        let after : Machine Value = record (with_published (count_in what) m) { group = gone.group; gate = gone.gate } in
        let works-on : new.commits.failed ≡ false = memory.stands.failed ∙ works-here in
        record {
          after = after;
          run = gone.run;
          stands = record {
            memory = gated-memory new.commits (with_published (count_in what) m) gone.group gone.gate memory.stands;
            machine = run-machine IsValue m after (begins_in m ++ group_ends what) is.machine gone.run;
            writing = record {
              most = is.writing.most;
              group = gone.group_is;
              raising = is.writing.raising ∙ ap raising_of (sym same-job);
              made = made-on;
              gate = λ on. gone.gate_is;
              left = λ fails. absurd (let no : false ≡ true = sym works-here ∙ fails in cc);
            };
            fresh = memory.fresh;
            marks = marks-on;
            ends = ends-on;
            disk = λ told. subst (λ (b : Bool). MatchBool b (StopsOnHeap new (m.published ++ take (count_in what) m.queue) (drop
                (count_in what) m.queue) m.floors)
                (StandsOnHeap new (m.published ++ take (count_in what) m.queue) (drop (count_in what) m.queue) m.floors)) (sym works-on) (steps-to told);
          };
        }
    by-answer (Err pump.Busy) by steps-to =
        record { after = m; run = refl; stands = subst (λ (v : LogStoreValue). IsStoreOf tells v m) (sym by) is }
    by-answer (Err pump.NoMemory) by steps-to =
        record { after = m; run = refl; stands = subst (λ (v : LogStoreValue). IsStoreOf tells v m) (sym by) is }
    by-answer (Err pump.Failed) by steps-to =
        let memory = by.0 in
        let fails = by.1 in
        let after : Machine Value = record (steps.broken m) { group = fails.group; gate = fails.gate } in
        subst (λ (es : List (Event Value)). Runs tells m es new)
        (ap (λ (b : Bool). cond b [] (begins_in m ++ breaks_in m.gate)) (sym works-here)) (record {
          after = after;
          run = fails.run;
          stands = record {
            memory = gated-memory new.commits (steps.broken m) fails.group fails.gate memory.stands;
            machine = run-machine IsValue m after (begins_in m ++ breaks_in m.gate) is.machine fails.run;
            writing = record {
              most = is.writing.most;
              group = fails.group_is;
              raising = is.writing.raising ∙ ap raising_of (sym same-job);
              made = made-on;
              gate = λ on. absurd (let no : true ≡ false = on in cc);
              left = λ on. inl fails.gate_is;
            };
            fresh = memory.fresh;
            marks = marks-on;
            ends = ends-on;
            disk = λ told. subst (λ (b : Bool). MatchBool b (StopsOnHeap new m.published m.queue m.floors) (StandsOnHeap new m.published m.queue m.floors))
                (sym (steps-to told).failed) (steps-to told).stops;
          };
        })

    working : Runs tells m (events_in m answer) new
    working =
        by-answer answer (by-turn old.turn refl takes)
        (λ told. pump-steps tells old new answer m.published m.queue m.floors told works step (sound told) (stands told) pumps)

  -- one that has failed
  resting : old.commits.failed ≡ true → Pumps tells old answer new → Runs tells m (events_in m answer) new
  resting failed pumps =
      let rests = failed-rests tells old new answer failed pumps in
      let fails : m.failed ≡ true = sym is.memory.failed ∙ failed in
      subst (λ (a : Result Did PumpFault). Runs tells m (events_in m a) new) (sym rests.0)
      (subst (λ (es : List (Event Value)). Runs tells m es new) (ap (λ (b : Bool). cond b [] (begins_in m ++ breaks_in m.gate)) (sym fails))
      (record { after = m; run = refl; stands = subst (λ (v : LogStoreValue). IsStoreOf tells v m) (sym rests.1) is }))

  pub pump-stands : Pumps tells old answer new → Runs tells m (events_in m answer) new
  pump-stands pumps = by-failed old.commits.failed refl pumps
    where
      by-failed : (b : Bool) → old.commits.failed ≡ b → Pumps tells old answer new → Runs tells m (events_in m answer) new
      by-failed true failed is-so = resting failed is-so
      by-failed false works is-so =
          working works
          (subst (λ (b : Bool). MatchBool b ((answer ≡ Err pump.Failed) × (new ≡ old)) (TakesStep tells old old.turn answer new)) works is-so) is-so

-- Each step of a group or a job, and each call of memory, leaves the room for a base that there was.
use Rattle.std.proofs.Common.{◌≡◌, ℕ, ◌/◌, ◌≤◌, ◌==◌, Bool, true, false, List, [], ◌∷◌, ◌++◌, length, drop, Option, None, Some, Result, Ok, Err}
use Rattle.std.proofs.Common.{refl, arith, ap, sym, subst, ◌∙◌, inl, inr}
use Rattle.std.specs.Prelude.{MatchBool, MatchOption}
use Rattle.disk.specs.Calls.{DiskState}
use Rattle.group.specs.declared.answers.PumpFault.{PumpFault}
use Rattle.group.specs.declared.answers.PumpFault.TheVariants as pump
use Rattle.commits.specs.Steps.{group_last, grouped}
use Rattle.log_extents.specs.Chains.{count_of}
use Rattle.log_base.specs.Rolls.{InRoll}
use Rattle.log_recovery.specs.Live.{LiveChainValue, part_of}
use Rattle.log_recovery.specs.declared.live.LivePart.TheVariants.{Commits}
use Rattle.log_roots.specs.declared.roots.Roots.{Roots}
use Rattle.log_roots.specs.Turning.{RootTurnState}
use Rattle.log_roots.specs.Turning as turning
use Rattle.log_room.specs.Rooms.{RoomValue, TakesChain}
use Rattle.log_room.proofs.Taken.{used_len}
use Rattle.log_writer.specs.Turns.{Part, Stage, Writing, Syncing, Opening, Settling, Done, stage_after}
use Rattle.log_writer.specs.Whole.{WholeState}
use Rattle.log_writer.specs.Writer.{WriterState, with_stage}
use Rattle.archive.specs.Pieces.{InWriting}
use Rattle.log_store.specs.Gates.{waits_at, waits_to_open}
use Rattle.log_store.specs.Jobs.{AdvancesAt, AdvancesEntry, BeginsEntry, Enters, PumpsJob, StepsAt, StepsJob, StepsReady, at_stage, entry_of, is_entering}
use Rattle.log_store.specs.Jobs.{named_with, with_entry}
use Rattle.log_store.specs.Jobs as jobs
use Rattle.log_store.specs.Named.{NamedValue}
use Rattle.log_store.specs.Pumps.{Advances, AdvancesGroup, Begins, BeginsGroup, BeginsOrWaits, Pumps, TakesStep, after_call, bars_groups}
use Rattle.log_store.specs.Reclaiming.{AdvancesReclaim, StepsReclaim, at_turn, base_chain, behind_extents, behind_roll, behind_turn, room_with, with_base}
use Rattle.log_store.specs.Reclaiming as reclaiming
use Rattle.log_store.specs.Runs.{WritesRun, stage_behind, stage_with}
use Rattle.log_store.specs.Values.{LogStoreValue, ReclaimValue, IsInStep, IsReclaiming}
use Rattle.log_store.specs.declared.job.Job.{Job}
use Rattle.log_store.specs.declared.job.JobDid.{JobDid}
use Rattle.log_store.specs.declared.job.JobStage.{JobStage}
use Rattle.log_store.specs.declared.job.JobStage.TheVariants.{Ready, Entering}
use Rattle.log_store.specs.declared.job.JobStage.TheVariants as stages
use Rattle.log_store.specs.declared.job.JobWork.{JobWork}
use Rattle.log_store.specs.declared.job.JobWork.TheVariants.{Floor, Archive}
use Rattle.log_store.specs.declared.pump.Did.{Did}
use Rattle.log_store.specs.declared.pump.Did.TheVariants as did
use Rattle.log_store.specs.declared.reclaim.ReclaimStage.{ReclaimStage}
use Rattle.log_store.specs.declared.reclaim.ReclaimStage.TheVariants.{Rolling, Turning}
use Rattle.log_store.specs.declared.reclaim.ReclaimStage.TheVariants as reclaims
use Rattle.log_store.proofs.Lives.{room-stands}
use Rattle.law_log_steps.specs.Store.{HasMarks, JobReaches, Reaches}
use Rattle.law_log_room.specs.Bases.{LeavesBaseRoom, base_most, chains_then, chains_with, entry_chain, upto_then, upto_with}
use Rattle.law_log_room.proofs.Alike.{FrontIsIn, alike-group, alike-most, alike-one, entry-no-base, later-most, same-alike, then-group}

-- ---- what it rests on

-- so much is left now, and where these run behind them
abbrev pub IsNow : LogStoreValue → Type 0
IsNow v = count_of (base_most v.live.chains v.named.upto) ≤ length v.room.used / 16

abbrev pub IsLeft : LogStoreValue → Option ReclaimValue → Option Job → Type 0
IsLeft v reclaim job = count_of (base_most (chains_then reclaim job v.live.chains) (upto_then reclaim job v.named.upto)) ≤ length v.room.used / 16

pub left-as : (v : LogStoreValue) (reclaim : Option ReclaimValue) (job : Option Job) → v.reclaim ≡ reclaim → v.job ≡ job → LeavesBaseRoom v
    → IsLeft v reclaim job
left-as v reclaim job is-reclaim is-job left =
    subst (λ (j : Option Job). IsLeft v reclaim j) is-job (subst (λ (r : Option ReclaimValue). IsLeft v r v.job) is-reclaim left.1)

pub left-so : (v : LogStoreValue) (reclaim : Option ReclaimValue) (job : Option Job) → v.reclaim ≡ reclaim → v.job ≡ job → IsNow v → IsLeft v reclaim job
    → LeavesBaseRoom v
left-so v reclaim job is-reclaim is-job now left = (
  now,
  subst (λ (r : Option ReclaimValue). IsLeft v r v.job) (sym is-reclaim) (subst (λ (j : Option Job). IsLeft v reclaim j) (sym is-job) left),
)

-- the log, its heap, and the job that runs are as they were
pub record Keeps (old new : LogStoreValue) : Type 0 where
  pub reclaim : new.reclaim ≡ old.reclaim
  pub job : new.job ≡ old.job
  pub live : new.live ≡ old.live
  pub named : new.named ≡ old.named
  pub used : length new.room.used ≡ length old.room.used

pub keeps-left : (old new : LogStoreValue) → Keeps old new → LeavesBaseRoom old → LeavesBaseRoom new
keeps-left old new is left =
    let same : base_most (chains_then new.reclaim new.job new.live.chains) (upto_then new.reclaim new.job new.named.upto)
    ≡ base_most (chains_then old.reclaim old.job old.live.chains) (upto_then old.reclaim old.job old.named.upto) =
    λ i. base_most (chains_then (is.reclaim i) (is.job i) (is.live i).chains) (upto_then (is.reclaim i) (is.job i) (is.named i).upto) in
    let now : base_most new.live.chains new.named.upto ≡ base_most old.live.chains old.named.upto = λ i. base_most (is.live i).chains (is.named i).upto in
    let used = is.used in
    (omega (arith, left.0, now, used), omega (arith, left.1, same, used))

pub same-left : (old new : LogStoreValue) → new ≡ old → LeavesBaseRoom old → LeavesBaseRoom new
same-left old new is left = subst LeavesBaseRoom (sym is) left

-- a chain that begins takes none of the heap's extents away
pub taken-len : (old new : RoomValue) (count promised : ℕ) (numbers : List ℕ) (link : ℕ) → TakesChain old count promised numbers link new
    → length new.used ≡ length old.used
taken-len old new count promised numbers link takes =
    ap (λ (r : RoomValue). length r.used) takes.new_is ∙ used_len old.used (takes.others ++ link ∷ [])

-- ---- a group

after-keeps : (old : LogStoreValue) (w : WriterState) (stage : Stage) (disk : DiskState) → Keeps old (record (after_call old w stage) { disk = disk })
after-keeps old w (Writing done rest) disk = record { reclaim = refl; job = refl; live = refl; named = refl; used = refl }
after-keeps old w Syncing disk = record { reclaim = refl; job = refl; live = refl; named = refl; used = refl }
after-keeps old w Opening disk = record { reclaim = refl; job = refl; live = refl; named = refl; used = refl }
after-keeps old w Settling disk = record { reclaim = refl; job = refl; live = refl; named = refl; used = refl }
after-keeps old w Done disk = record { reclaim = refl; job = refl; live = refl; named = refl; used = refl }

advances-keep : (tells : Bool) (w : WriterState) (old new : LogStoreValue) (answer : Result Did PumpFault) → Advances tells w old answer new → Keeps old new
advances-keep tells w old new (Ok what) is = subst (Keeps old) (sym is.answer.1) (after-keeps old w w.stage new.disk)
advances-keep tells w old new (Err why) is =
    subst (Keeps old) (sym is.answer.1) (record { reclaim = refl; job = refl; live = refl; named = refl; used = refl })

group-keeps : (tells : Bool) (t : Option WriterState) (old new : LogStoreValue) (answer : Result Did PumpFault) → AdvancesGroup tells old t answer new
    → Keeps old new
group-keeps tells None old new answer is = absurd is
group-keeps tells (Some w) old new answer is = advances-keep tells w old new answer is

front-in : (job : Option Job) (cs : List LiveChainValue) (reserved most : ℕ) (r : Option ReclaimValue)
    → MatchOption r (reserved ≡ 0) (IsReclaiming job cs reserved most) → FrontIsIn cs r
front-in job cs reserved most None is = tt
front-in job cs reserved most (Some r) is = is.front

begun-left : (old begun : LogStoreValue) → IsInStep old → Begins old begun → LeavesBaseRoom old → LeavesBaseRoom begun
begun-left old begun step b left =
    let c : LiveChainValue = record { numbers = b.numbers; part = Commits (group_last (grouped 1024 old.commits)) } in
    let front = front-in old.job old.live.chains old.room.reserved (length old.room.used) old.reclaim step.reclaim in
    let same = alike-most (chains_then old.reclaim old.job (old.live.chains ++ c ∷ [])) (chains_then old.reclaim old.job old.live.chains)
    (upto_then old.reclaim old.job old.named.upto) (then-group old.reclaim old.job old.live.chains c _ refl front) in
    let used = taken-len old.room b.room _ _ b.numbers b.link b.takes in
    let here : count_of (base_most (chains_then old.reclaim old.job (old.live.chains ++ c ∷ [])) (upto_then old.reclaim old.job old.named.upto))
    ≤ length b.room.used / 16 = omega (arith, left.1, same, used) in
    let more = alike-most (old.live.chains ++ c ∷ []) old.live.chains old.named.upto (alike-group old.live.chains c _ refl) in
    let now : count_of (base_most (old.live.chains ++ c ∷ []) old.named.upto) ≤ length b.room.used / 16 = omega (arith, left.0, more, used) in
    subst LeavesBaseRoom (sym b.new_is) (now, here)

pub pump-left : (tells : Bool) (old new : LogStoreValue) (answer : Result Did PumpFault) → IsInStep old → Pumps tells old answer new → LeavesBaseRoom old
    → LeavesBaseRoom new
pump-left tells old new answer step pumps left = by-failed old.commits.failed pumps
  where
    begun : BeginsGroup tells old answer new → LeavesBaseRoom new
    begun (inl none) = same-left old new none.1 left
    begun (inr is) =
        keeps-left is.0 new (group-keeps tells is.0.turn is.0 new answer is.2) (begun-left old is.0 step is.1 left)

    by-bars : (b : Bool) → MatchBool b ((answer ≡ Err pump.Busy) × (new ≡ old)) (BeginsGroup tells old answer new) → LeavesBaseRoom new
    by-bars true waits = same-left old new waits.1 left
    by-bars false is = begun is

    by-queue : (b : Bool) → MatchBool b ((answer ≡ Ok did.Idle) × (new ≡ old)) (BeginsOrWaits tells old answer new) → LeavesBaseRoom new
    by-queue true idle = same-left old new idle.1 left
    by-queue false is = by-bars (bars_groups old.job) is

    by-gate : (w : WriterState) (b : Bool) → MatchBool b ((answer ≡ Err pump.Busy) × (new ≡ old)) (Advances tells w old answer new) → LeavesBaseRoom new
    by-gate w true waits = same-left old new waits.1 left
    by-gate w false is = keeps-left old new (advances-keep tells w old new answer is) left

    by-turn : (t : Option WriterState) → TakesStep tells old t answer new → LeavesBaseRoom new
    by-turn None is = by-queue (length old.commits.queue == 0) is
    by-turn (Some w) is = by-gate w (waits_to_open old.reclaim w.stage) is

    by-failed : (b : Bool) → MatchBool b ((answer ≡ Err pump.Failed) × (new ≡ old)) (TakesStep tells old old.turn answer new) → LeavesBaseRoom new
    by-failed true failed = same-left old new failed.1 left
    by-failed false is = by-turn old.turn is

-- ---- a job

module _ (old : LogStoreValue) (job : Job) (is-job : old.job ≡ Some job) (none : old.reclaim ≡ None) (left : LeavesBaseRoom old) where
  as-job : IsLeft old None (Some job)
  as-job = left-as old None (Some job) none is-job left

  -- it is further, and its entry is in the writing if it was
  stage-left : (stage : JobStage) → is_entering stage ≡ is_entering job.stage → (disk : DiskState)
      → LeavesBaseRoom (record (at_stage old job stage) { disk = disk })
  stage-left stage same disk =
      left-so (record (at_stage old job stage) { disk = disk }) None (Some (record job { stage = stage })) none refl left.0
      (subst (λ (b : Bool). count_of (base_most (chains_with b job.work old.live.chains) (upto_with job.work old.named.upto)) ≤ length old.room.used / 16)
      (sym same) as-job)

  upto-is : (work : JobWork) (named : NamedValue) → upto_with work named.upto ≡ (named_with work named).upto
  upto-is (Floor floor kept) named = refl
  upto-is (Archive archive archives) named = refl

  -- it is over
  ended-left : is_entering job.stage ≡ true → (disk : DiskState) → LeavesBaseRoom (record (with_entry old job) { disk = disk })
  ended-left entering disk =
      let here =
      subst (λ (upto : ℕ). count_of (base_most old.live.chains upto) ≤ length old.room.used / 16) (upto-is job.work old.named)
      (subst (λ (b : Bool). count_of (base_most (chains_with b job.work old.live.chains) (upto_with job.work old.named.upto)) ≤ length old.room.used / 16)
      entering as-job) in
      left-so (record (with_entry old job) { disk = disk }) None None none refl here here

  after-left : (w : WriterState) → is_entering job.stage ≡ true → (stage : Stage) (disk : DiskState)
      → LeavesBaseRoom (record (jobs.after_call old job w stage) { disk = disk })
  after-left w entering (Writing done rest) disk = stage-left (Entering (with_stage w (stage_after w.stage))) (sym entering) disk
  after-left w entering Syncing disk = stage-left (Entering (with_stage w (stage_after w.stage))) (sym entering) disk
  after-left w entering Opening disk = stage-left (Entering (with_stage w (stage_after w.stage))) (sym entering) disk
  after-left w entering Settling disk = ended-left entering disk
  after-left w entering Done disk = left

  pub entry-left : (tells : Bool) (w : WriterState) (new : LogStoreValue) (answer : Result JobDid PumpFault) → is_entering job.stage ≡ true
      → jobs.Advances tells job w old answer new → LeavesBaseRoom new
  entry-left tells w new (Ok what) entering is = same-left _ new is.answer.1 (after-left w entering w.stage new.disk)
  entry-left tells w new (Err why) entering is = same-left _ new is.answer.1 left

  written-entering : (writer : InWriting) (left-of : List ℕ) (made : Bool) → is_entering (stage_with left-of writer made) ≡ false
  written-entering writer [] true = refl
  written-entering writer [] false = refl
  written-entering writer (b ∷ bs) made = refl

  behind-entering : (stage : JobStage) (made : Bool) → is_entering (stage_behind stage made) ≡ is_entering stage
  behind-entering (stages.Writing writer) made = written-entering writer writer.left made
  behind-entering (Ready waited) made = refl
  behind-entering (Entering w) made = refl

  run-left : (tells : Bool) (new : LogStoreValue) (answer : Result JobDid PumpFault) → WritesRun tells job old answer new → LeavesBaseRoom new
  run-left tells new (Ok what) is =
      same-left _ new is.answer.1 (stage-left (stage_behind job.stage true) (behind-entering job.stage true) new.disk)
  run-left tells new (Err why) is =
      same-left _ new is.answer.1 (stage-left (stage_behind job.stage false) (behind-entering job.stage false) new.disk)

  -- its entry begins
  begun-entry : (begun : LogStoreValue) → old.named.upto ≤ upto_with job.work old.named.upto → is_entering job.stage ≡ false → BeginsEntry old job begun
      → LeavesBaseRoom begun
  begun-entry begun reach ahead b =
      let c : LiveChainValue = record { numbers = b.numbers; part = part_of (entry_of job.work) } in
      let same = alike-most (old.live.chains ++ c ∷ []) (old.live.chains ++ entry_chain job.work ∷ []) (upto_with job.work old.named.upto)
      (alike-one old.live.chains old.live.chains c (entry_chain job.work) (same-alike old.live.chains) refl (entry-no-base job.work)) in
      let used = taken-len old.room b.room 1 1 b.numbers b.link b.takes in
      let then : count_of (base_most (old.live.chains ++ entry_chain job.work ∷ []) (upto_with job.work old.named.upto)) ≤ length old.room.used / 16 =
      subst (λ (b : Bool). count_of (base_most (chains_with b job.work old.live.chains) (upto_with job.work old.named.upto)) ≤ length old.room.used / 16)
      ahead as-job in
      let here : count_of (base_most (old.live.chains ++ c ∷ []) (upto_with job.work old.named.upto)) ≤ length b.room.used / 16 =
      omega (arith, then, same, used) in
      let rises = later-most (old.live.chains ++ c ∷ []) old.named.upto (upto_with job.work old.named.upto) reach in
      let now : count_of (base_most (old.live.chains ++ c ∷ []) old.named.upto) ≤ length b.room.used / 16 = omega (arith, here, rises) in
      left-so begun None begun.job (ap (λ (v : LogStoreValue). v.reclaim) b.new_is ∙ none) refl
      (subst (λ (v : LogStoreValue). IsNow v) (sym b.new_is) now)
      (subst (λ (v : LogStoreValue). IsLeft v None v.job) (sym b.new_is) here)

entry-goes : (tells : Bool) (old new : LogStoreValue) (answer : Result JobDid PumpFault) (job : Option Job) → old.job ≡ job → old.reclaim ≡ None
    → LeavesBaseRoom old → AdvancesEntry tells job old answer new → LeavesBaseRoom new
entry-goes tells old new answer None is-job none left is = absurd is
entry-goes tells old new answer (Some job) is-job none left is = by-stage job.stage refl is
  where
    by-stage : (k : JobStage) → job.stage ≡ k → AdvancesAt tells job k old answer new → LeavesBaseRoom new
    by-stage (stages.Writing writer) at is = absurd is
    by-stage (Ready waited) at is = absurd is
    by-stage (Entering w) at is = entry-left old job is-job none left tells w new answer (ap is_entering at) is

-- an archive goes further than the mark
reaches : (upto : ℕ) (work : JobWork) → Reaches upto work → upto ≤ upto_with work upto
reaches upto (Floor floor kept) reach = omega arith
reaches upto (Archive archive archives) reach = reach

job-left : (tells : Bool) (old new : LogStoreValue) (answer : Result JobDid PumpFault) (job : Option Job) → old.job ≡ job → old.reclaim ≡ None
    → JobReaches old.named.upto job → LeavesBaseRoom old → StepsJob tells job old answer new → LeavesBaseRoom new
job-left tells old new answer None is-job none reach left is = same-left old new is.1 left
job-left tells old new answer (Some job) is-job none reach left is = by-stage job.stage refl is
  where
    enters : is_entering job.stage ≡ false → Enters tells job old answer new → LeavesBaseRoom new
    enters ahead (inl short) = same-left old new short.1 left
    enters ahead (inr b) =
        entry-goes tells b.0 new answer b.0.job refl (ap (λ (v : LogStoreValue). v.reclaim) b.1.new_is ∙ none)
        (begun-entry old job is-job none left b.0 (reaches old.named.upto job.work reach) ahead b.1) b.2

    by-turn : is_entering job.stage ≡ false → (t : Option WriterState) → StepsReady tells job t old answer new → LeavesBaseRoom new
    by-turn ahead None is = enters ahead is
    by-turn ahead (Some w) is = same-left _ new is.1 (stage-left old job is-job none left (Ready true) (sym ahead) old.disk)

    by-stage : (k : JobStage) → job.stage ≡ k → StepsAt tells job k old answer new → LeavesBaseRoom new
    by-stage (stages.Writing writer) at is = run-left old job is-job none left tells new answer is
    by-stage (Ready waited) at is = by-turn (ap is_entering at) old.turn is
    by-stage (Entering w) at is = entry-left old job is-job none left tells w new answer (ap is_entering at) is

-- ---- a reclaim

-- the base that it makes is the same
record SameMaking (r s : ReclaimValue) : Type 0 where
  front : s.front ≡ r.front
  base : base_chain s ≡ base_chain r
  named : s.named ≡ r.named

module _ (old : LogStoreValue) (r : ReclaimValue) (is-reclaim : old.reclaim ≡ Some r) (left : LeavesBaseRoom old) where
  as-reclaim : IsLeft old (Some r) old.job
  as-reclaim = left-as old (Some r) old.job is-reclaim refl left

  making-left : (s : ReclaimValue) (disk : DiskState) → SameMaking r s → LeavesBaseRoom (record old { reclaim = Some s; disk = disk })
  making-left s disk same =
      let most : base_most (base_chain s ∷ drop s.front old.live.chains) s.named.upto ≡ base_most (base_chain r ∷ drop r.front old.live.chains) r.named.upto =
      λ i. base_most (same.base i ∷ drop (same.front i) old.live.chains) (same.named i).upto in
      let now : count_of (base_most (base_chain r ∷ drop r.front old.live.chains) r.named.upto) ≤ length old.room.used / 16 = as-reclaim in
      let here : count_of (base_most (base_chain s ∷ drop s.front old.live.chains) s.named.upto) ≤ length old.room.used / 16 = omega (arith, now, most) in
      (left.0, here)

  roll-making : (roots : Roots) (s : ReclaimValue) (roll : Option InRoll) → SameMaking r s → SameMaking r (reclaiming.begins_roll roots s roll)
  roll-making roots s None same = record { front = same.front; base = same.base; named = same.named }
  roll-making roots s (Some roll) same = record { front = same.front; base = same.base; named = same.named }

  extents-making : (anchors base : WholeState) (ps qs : List Part) → SameMaking r (behind_extents old.roots r anchors base ps qs)
  extents-making anchors base (p ∷ ps) qs = record { front = refl; base = refl; named = refl }
  extents-making anchors base [] (q ∷ qs) = record { front = refl; base = refl; named = refl }
  extents-making anchors base [] [] = roll-making old.roots r r.roll (record { front = refl; base = refl; named = refl })

  pieces-making : (roll : InRoll) (bytes : List ℕ) → SameMaking r (behind_roll old.roots r roll bytes)
  pieces-making roll [] = record { front = refl; base = refl; named = refl }
  pieces-making roll (b ∷ bs) = record { front = refl; base = refl; named = refl }

  turn-left : (alone : old.job ≡ None) (t : RootTurnState) (stage : turning.Stage) (disk : DiskState)
      → LeavesBaseRoom (record (behind_turn old r t stage) { disk = disk })
  turn-left alone t turning.Writing disk = making-left (at_turn r t turning.Syncing) disk (record { front = refl; base = refl; named = refl })
  turn-left alone t turning.Syncing disk = making-left (at_turn r t turning.Turning) disk (record { front = refl; base = refl; named = refl })
  turn-left alone t turning.Turning disk = making-left (at_turn r t turning.Settling) disk (record { front = refl; base = refl; named = refl })
  turn-left alone t turning.Settling disk =
      let len = (room-stands r old.live old.room).len in
      let now : count_of (base_most (base_chain r ∷ drop r.front old.live.chains) r.named.upto) ≤ length old.room.used / 16 = as-reclaim in
      let here : count_of (base_most (base_chain r ∷ drop r.front old.live.chains) r.named.upto) ≤ length (room_with r old.live old.room).used / 16 =
      omega (arith, now, len) in
      left-so (record (with_base old r) { disk = disk }) None None refl alone here here
  turn-left alone t turning.Done disk = left

  stage-made : (alone : old.job ≡ None) (stage : ReclaimStage) (disk : DiskState) → LeavesBaseRoom (record (reclaiming.behind old r stage) { disk = disk })
  stage-made alone (reclaims.Writing anchors base) disk =
      making-left (behind_extents old.roots r anchors base anchors.left base.left) disk (extents-making anchors base anchors.left base.left)
  stage-made alone (Rolling roll) disk = making-left (behind_roll old.roots r roll roll.left) disk (pieces-making roll roll.left)
  stage-made alone (Turning t) disk = turn-left alone t t.stage disk

  advanced : (tells : Bool) (new : LogStoreValue) (answer : Result JobDid PumpFault) → old.job ≡ None → AdvancesReclaim tells r old answer new
      → LeavesBaseRoom new
  advanced tells new (Ok what) alone is = same-left _ new is.answer.1 (stage-made alone r.stage new.disk)
  advanced tells new (Err why) alone is = same-left _ new is.answer.1 left

  pub reclaim-left : (tells : Bool) (new : LogStoreValue) (answer : Result JobDid PumpFault) → old.job ≡ None → StepsReclaim tells r old answer new
      → LeavesBaseRoom new
  reclaim-left tells new answer alone is = by-wait (waits_at old.turn r.stage) is
    where
      by-wait : (b : Bool) → MatchBool b ((answer ≡ Err pump.Busy) × (new ≡ old)) (AdvancesReclaim tells r old answer new) → LeavesBaseRoom new
      by-wait true waits = same-left old new waits.1 left
      by-wait false is = advanced tells new answer alone is

pub job-pump-left : (tells : Bool) (old new : LogStoreValue) (answer : Result JobDid PumpFault) → IsInStep old → HasMarks old → PumpsJob tells old answer new
    → LeavesBaseRoom old → LeavesBaseRoom new
job-pump-left tells old new answer step marks pumps left = by-failed old.commits.failed pumps
  where
    by-reclaim : (o : Option ReclaimValue) → old.reclaim ≡ o
        → MatchOption o (old.room.reserved ≡ 0) (IsReclaiming old.job old.live.chains old.room.reserved (length old.room.used))
        → MatchOption o (StepsJob tells old.job old answer new) (λ r. StepsReclaim tells r old answer new) → LeavesBaseRoom new
    by-reclaim None none beside is = job-left tells old new answer old.job refl none marks.job left is
    by-reclaim (Some r) some beside is = reclaim-left old r some left tells new answer beside.alone is

    by-failed : (b : Bool) → MatchBool b ((answer ≡ Err pump.Failed) × (new ≡ old))
        (MatchOption old.reclaim (StepsJob tells old.job old answer new) (λ r. StepsReclaim tells r old answer new)) → LeavesBaseRoom new
    by-failed true failed = same-left old new failed.1 left
    by-failed false is = by-reclaim old.reclaim refl step.reclaim is

-- Jobs run to their end: what that leaves of the commits that wait, of the archive mark, and of the log.
use Rattle.std.proofs.Common.{◌≡◌, ℕ, Bool, true, false, List, [], ◌∷◌, length, drop, Option, None, Some, Result, Ok, Err}
use Rattle.std.proofs.Common.{refl, ap, sym, subst, ◌∙◌, inl, inr}
use Rattle.std.specs.Prelude.{MatchBool, MatchOption}
use Rattle.std.proofs.lemmas.List.Concat.{flat_map-cons}
use Rattle.disk.specs.Calls.{DiskState}
use Rattle.group.specs.declared.answers.PumpFault.{PumpFault}
use Rattle.group.specs.declared.answers.PumpFault.TheVariants as pump
use Rattle.commits.specs.Values.{CommitsValue, last}
use Rattle.log_base.specs.Rolls.{InRoll}
use Rattle.log_recovery.specs.Live.{LiveChainValue, counted_at, live_count}
use Rattle.log_roots.specs.declared.roots.Roots.{Roots}
use Rattle.log_roots.specs.Turning.{RootTurnState}
use Rattle.log_roots.specs.Turning as turning
use Rattle.log_writer.specs.Turns.{Part, Stage, Writing, Syncing, Opening, Settling, Done, stage_after}
use Rattle.log_writer.specs.Whole.{WholeState}
use Rattle.log_writer.specs.Writer.{WriterState, with_stage}
use Rattle.log_store.specs.Gates.{waits_at}
use Rattle.log_store.specs.Jobs.{AdvancesAt, AdvancesEntry, BeginsEntry, Enters, PumpsJob, StepsAt, StepsJob, StepsReady, at_stage, commits_with, named_with}
use Rattle.log_store.specs.Jobs.{with_entry, with_work}
use Rattle.log_store.specs.Jobs as jobs
use Rattle.log_store.specs.Pumps.{with_failure}
use Rattle.log_store.specs.Reclaiming.{AdvancesReclaim, StepsReclaim, at_turn, base_chain, behind_extents, behind_roll, behind_turn}
use Rattle.log_store.specs.Reclaiming as reclaiming
use Rattle.log_store.specs.Runs.{WritesRun, stage_behind}
use Rattle.log_store.specs.Values.{LogStoreValue, ReclaimValue}
use Rattle.log_store.specs.declared.job.Job.{Job}
use Rattle.log_store.specs.declared.job.JobDid.{JobDid}
use Rattle.log_store.specs.declared.job.JobStage.{JobStage}
use Rattle.log_store.specs.declared.job.JobStage.TheVariants.{Ready, Entering}
use Rattle.log_store.specs.declared.job.JobStage.TheVariants as stages
use Rattle.log_store.specs.declared.job.JobWork.{JobWork}
use Rattle.log_store.specs.declared.job.JobWork.TheVariants.{Floor, Archive}
use Rattle.log_store.specs.declared.reclaim.ReclaimStage.{ReclaimStage}
use Rattle.log_store.specs.declared.reclaim.ReclaimStage.TheVariants.{Rolling, Turning}
use Rattle.log_store.specs.declared.reclaim.ReclaimStage.TheVariants as reclaims
use Rattle.law_log_store.specs.Standing.{IsUpTo}
use Rattle.law_log_room.specs.Ends.{StepsTo}

-- ---- the commits that wait

-- they are those that did, and the last commit is the same
pub record SameCommits (old new : LogStoreValue) : Type 0 where
  pub queue : new.commits.queue ≡ old.commits.queue
  pub last : last new.commits ≡ last old.commits

same-commits : (old new : LogStoreValue) → new ≡ old → SameCommits old new
same-commits old new is = subst (SameCommits old) (sym is) (record { queue = refl; last = refl })

-- ---- a job that makes an archive up to a time

-- it makes one, or it has made it
abbrev pub IsAt : ℕ → Option Job → ℕ → Type 0
IsAt t None upto = upto ≡ t
IsAt t (Some job) upto = IsUpTo t job.work

-- what a step leads to
record JobGoes (old : LogStoreValue) (job : Job) (new : LogStoreValue) : Type 0 where
  commits : SameCommits old new
  reclaim : new.reclaim ≡ old.reclaim
  at : (t : ℕ) → IsUpTo t job.work → IsAt t new.job new.named.upto

goes-same : (old : LogStoreValue) (job : Job) (next new : LogStoreValue) → new ≡ next → JobGoes old job next → JobGoes old job new
goes-same old job next new is goes = subst (JobGoes old job) (sym is) goes

module _ (old : LogStoreValue) (job : Job) (is-job : old.job ≡ Some job) where
  stays : JobGoes old job old
  stays = record {
    commits = record { queue = refl; last = refl };
    reclaim = refl;
    at = λ t is. subst (λ (j : Option Job). IsAt t j old.named.upto) (sym is-job) is;
  }

  fails : (disk : DiskState) → JobGoes old job (record (with_failure old) { disk = disk })
  fails disk = record {
    commits = record { queue = refl; last = refl };
    reclaim = refl;
    at = λ t is. subst (λ (j : Option Job). IsAt t j old.named.upto) (sym is-job) is;
  }

  staged : (stage : JobStage) (disk : DiskState) → JobGoes old job (record (at_stage old job stage) { disk = disk })
  staged stage disk = record { commits = record { queue = refl; last = refl }; reclaim = refl; at = λ t is. is }

  ended : (work : JobWork) (disk : DiskState) → ((t : ℕ) → IsUpTo t job.work → IsUpTo t work)
      → JobGoes old job (record (record (with_work work old) { job = None }) { disk = disk })
  ended (Floor floor kept) disk same =
      record { commits = record { queue = refl; last = refl }; reclaim = refl; at = λ t is. absurd (same t is) }
  ended (Archive archive archives) disk same =
      record { commits = record { queue = refl; last = refl }; reclaim = refl; at = λ t is. same t is }

  after-goes : (w : WriterState) (stage : Stage) (disk : DiskState) → JobGoes old job (record (jobs.after_call old job w stage) { disk = disk })
  after-goes w (Writing done rest) disk = staged (Entering (with_stage w (stage_after w.stage))) disk
  after-goes w Syncing disk = staged (Entering (with_stage w (stage_after w.stage))) disk
  after-goes w Opening disk = staged (Entering (with_stage w (stage_after w.stage))) disk
  after-goes w Settling disk = ended job.work disk (λ t is. is)
  after-goes w Done disk = record { commits = record { queue = refl; last = refl }; reclaim = refl; at = (stays).at }

  entry-goes : (tells : Bool) (w : WriterState) (new : LogStoreValue) (answer : Result JobDid PumpFault) → jobs.Advances tells job w old answer new
      → JobGoes old job new
  entry-goes tells w new (Ok what) is = goes-same old job _ new is.answer.1 (after-goes w w.stage new.disk)
  entry-goes tells w new (Err why) is = goes-same old job _ new is.answer.1 (fails new.disk)

  run-goes : (tells : Bool) (new : LogStoreValue) (answer : Result JobDid PumpFault) → WritesRun tells job old answer new → JobGoes old job new
  run-goes tells new (Ok what) is = goes-same old job _ new is.answer.1 (staged (stage_behind job.stage true) new.disk)
  run-goes tells new (Err why) is =
      goes-same old job _ new is.answer.1 (record { commits = record { queue = refl; last = refl }; reclaim = refl; at = λ t is. is })

-- its entry is in the writing
entered-goes : (tells : Bool) (begun new : LogStoreValue) (answer : Result JobDid PumpFault) (j : Job) → begun.job ≡ Some j → (k : JobStage)
    → AdvancesAt tells j k begun answer new → JobGoes begun j new
entered-goes tells begun new answer j at (stages.Writing writer) is = absurd is
entered-goes tells begun new answer j at (Ready waited) is = absurd is
entered-goes tells begun new answer j at (Entering w) is = entry-goes begun j at tells w new answer is

-- it begins, and its first call is made
begun-goes : (old : LogStoreValue) (job : Job) (tells : Bool) (begun new : LogStoreValue) (answer : Result JobDid PumpFault) → BeginsEntry old job begun
    → (o : Option Job) → begun.job ≡ o → AdvancesEntry tells o begun answer new → JobGoes old job new
begun-goes old job tells begun new answer b None at is = absurd is
begun-goes old job tells begun new answer b (Some j) at is =
    let goes = entered-goes tells begun new answer j at j.stage is in
    record {
      commits = record {
        queue = goes.commits.queue ∙ ap (λ (v : LogStoreValue). v.commits.queue) b.new_is;
        last = goes.commits.last ∙ ap (λ (v : LogStoreValue). last v.commits) b.new_is;
      };
      reclaim = goes.reclaim ∙ ap (λ (v : LogStoreValue). v.reclaim) b.new_is;
      at = λ t up. goes.at t
          (subst (λ (o : Option Job). IsAt t o begun.named.upto) at
          (subst (λ (v : LogStoreValue). IsAt t v.job begun.named.upto) (sym b.new_is) up));
    }

job-goes : (tells : Bool) (old new : LogStoreValue) (answer : Result JobDid PumpFault) (job : Job) → old.job ≡ Some job
    → StepsAt tells job job.stage old answer new → JobGoes old job new
job-goes tells old new answer job is-job is = by-stage job.stage is
  where
    enters : Enters tells job old answer new → JobGoes old job new
    enters (inl short) = goes-same old job old new short.1 (stays old job is-job)
    enters (inr b) = begun-goes old job tells b.0 new answer b.1 b.0.job refl b.2

    by-turn : (t : Option WriterState) → StepsReady tells job t old answer new → JobGoes old job new
    by-turn None is = enters is
    by-turn (Some w) is = goes-same old job _ new is.1 (staged old job is-job (Ready true) old.disk)

    by-stage : (k : JobStage) → StepsAt tells job k old answer new → JobGoes old job new
    by-stage (stages.Writing writer) is = run-goes old job is-job tells new answer is
    by-stage (Ready waited) is = by-turn old.turn is
    by-stage (Entering w) is = entry-goes old job is-job tells w new answer is

-- Nothing waits while an archive up to the last commit is made, and no reclaim runs.
pub record Archiving (t : ℕ) (v : LogStoreValue) : Type 0 where
  pub queue : v.commits.queue ≡ []
  pub last : last v.commits ≡ t
  pub reclaim : v.reclaim ≡ None
  pub at : IsAt t v.job v.named.upto

archiving-step : (tells : Bool) (t : ℕ) (old new : LogStoreValue) (answer : Result JobDid PumpFault) → Archiving t old → PumpsJob tells old answer new
    → Archiving t new
archiving-step tells t old new answer is pumps = by-failed old.commits.failed pumps
  where
    same : new ≡ old → Archiving t new
    same e = subst (Archiving t) (sym e) is

    by-job : (o : Option Job) → old.job ≡ o → StepsJob tells o old answer new → Archiving t new
    by-job None e steps = same steps.1
    by-job (Some job) e steps =
        let goes = job-goes tells old new answer job e steps in
        record {
          queue = goes.commits.queue ∙ is.queue;
          last = goes.commits.last ∙ is.last;
          reclaim = goes.reclaim ∙ is.reclaim;
          at = goes.at t (subst (λ (j : Option Job). IsAt t j old.named.upto) e is.at);
        }

    by-reclaim : (o : Option ReclaimValue) → old.reclaim ≡ o
        → MatchOption o (StepsJob tells old.job old answer new) (λ r. StepsReclaim tells r old answer new) → Archiving t new
    by-reclaim None e steps = by-job old.job refl steps
    by-reclaim (Some r) e steps = absurd (let no : Some r ≡ None = sym e ∙ is.reclaim in cc)

    by-failed : (b : Bool) → MatchBool b ((answer ≡ Err pump.Failed) × (new ≡ old))
        (MatchOption old.reclaim (StepsJob tells old.job old answer new) (λ r. StepsReclaim tells r old answer new)) → Archiving t new
    by-failed true failed = same failed.1
    by-failed false steps = by-reclaim old.reclaim refl steps

pub archiving-steps : (tells : Bool) (t : ℕ) (old new : LogStoreValue) (between : List LogStoreValue) → Archiving t old → StepsTo tells old between new
    → Archiving t new
archiving-steps tells t old new [] is steps = subst (Archiving t) (sym steps) is
archiving-steps tells t old new (next ∷ rest) is steps =
    archiving-steps tells t next new rest (archiving-step tells t old next steps.1.answer is steps.1.is) steps.2

-- ---- a reclaim

-- its base takes the place of all chains of the log, or has taken it
abbrev pub IsEmptied : Option ReclaimValue → List LiveChainValue → Type 0
IsEmptied None chains = live_count chains ≡ 0
IsEmptied (Some r) chains = drop r.front chains ≡ []

-- the base counts for nothing of the log's half
pub base-alone : (r : ReclaimValue) → live_count (base_chain r ∷ []) ≡ 0
base-alone r =
    ap (λ (ns : List ℕ). length ns) (flat_map-cons (λ (c : LiveChainValue). counted_at c.part c.numbers) (base_chain r) [])

-- what a step leads to
record ReclaimGoes (old : LogStoreValue) (r : ReclaimValue) (new : LogStoreValue) : Type 0 where
  commits : SameCommits old new
  job : new.job ≡ old.job
  empty : drop r.front old.live.chains ≡ [] → IsEmptied new.reclaim new.live.chains

reclaims-same : (old : LogStoreValue) (r : ReclaimValue) (next new : LogStoreValue) → new ≡ next → ReclaimGoes old r next → ReclaimGoes old r new
reclaims-same old r next new is goes = subst (ReclaimGoes old r) (sym is) goes

module _ (old : LogStoreValue) (r : ReclaimValue) (is-reclaim : old.reclaim ≡ Some r) where
  remains : (disk : DiskState) (commits : CommitsValue) → commits.queue ≡ old.commits.queue → last commits ≡ last old.commits
      → ReclaimGoes old r (record old { commits = commits; disk = disk })
  remains disk commits queue same = record {
    commits = record { queue = queue; last = same };
    job = refl;
    empty = λ none. subst (λ (o : Option ReclaimValue). IsEmptied o old.live.chains) (sym is-reclaim) none;
  }

  waits-on : ReclaimGoes old r old
  waits-on = record {
    commits = record { queue = refl; last = refl };
    job = refl;
    empty = λ none. subst (λ (o : Option ReclaimValue). IsEmptied o old.live.chains) (sym is-reclaim) none;
  }

  making : (s : ReclaimValue) (disk : DiskState) → s.front ≡ r.front → ReclaimGoes old r (record old { reclaim = Some s; disk = disk })
  making s disk same = record {
    commits = record { queue = refl; last = refl };
    job = refl;
    empty = λ none. ap (λ (n : ℕ). drop n old.live.chains) same ∙ none;
  }

  roll-front : (roots : Roots) (s : ReclaimValue) (roll : Option InRoll) → (reclaiming.begins_roll roots s roll).front ≡ s.front
  roll-front roots s None = refl
  roll-front roots s (Some roll) = refl

  extents-front : (anchors base : WholeState) (ps qs : List Part) → (behind_extents old.roots r anchors base ps qs).front ≡ r.front
  extents-front anchors base (p ∷ ps) qs = refl
  extents-front anchors base [] (q ∷ qs) = refl
  extents-front anchors base [] [] = roll-front old.roots r r.roll

  pieces-front : (roll : InRoll) (bytes : List ℕ) → (behind_roll old.roots r roll bytes).front ≡ r.front
  pieces-front roll [] = refl
  pieces-front roll (b ∷ bs) = refl

  turn-goes : (t : RootTurnState) (stage : turning.Stage) (disk : DiskState) → ReclaimGoes old r (record (behind_turn old r t stage) { disk = disk })
  turn-goes t turning.Writing disk = making (at_turn r t turning.Syncing) disk refl
  turn-goes t turning.Syncing disk = making (at_turn r t turning.Turning) disk refl
  turn-goes t turning.Turning disk = making (at_turn r t turning.Settling) disk refl
  turn-goes t turning.Settling disk = record {
    commits = record { queue = refl; last = refl };
    job = refl;
    empty = λ none. ap (λ (cs : List LiveChainValue). live_count (base_chain r ∷ cs)) none ∙ base-alone r;
  }
  turn-goes t turning.Done disk = remains disk old.commits refl refl

  stage-goes : (stage : ReclaimStage) (disk : DiskState) → ReclaimGoes old r (record (reclaiming.behind old r stage) { disk = disk })
  stage-goes (reclaims.Writing anchors base) disk =
      making (behind_extents old.roots r anchors base anchors.left base.left) disk (extents-front anchors base anchors.left base.left)
  stage-goes (Rolling roll) disk = making (behind_roll old.roots r roll roll.left) disk (pieces-front roll roll.left)
  stage-goes (Turning t) disk = turn-goes t t.stage disk

  advance-goes : (tells : Bool) (new : LogStoreValue) (answer : Result JobDid PumpFault) → AdvancesReclaim tells r old answer new → ReclaimGoes old r new
  advance-goes tells new (Ok what) is = reclaims-same old r _ new is.answer.1 (stage-goes r.stage new.disk)
  advance-goes tells new (Err why) is = reclaims-same old r _ new is.answer.1 (remains new.disk (with_failure old).commits refl refl)

  reclaim-goes : (tells : Bool) (new : LogStoreValue) (answer : Result JobDid PumpFault) → StepsReclaim tells r old answer new → ReclaimGoes old r new
  reclaim-goes tells new answer is = by-wait (waits_at old.turn r.stage) is
    where
      by-wait : (b : Bool) → MatchBool b ((answer ≡ Err pump.Busy) × (new ≡ old)) (AdvancesReclaim tells r old answer new) → ReclaimGoes old r new
      by-wait true waits = reclaims-same old r old new waits.1 waits-on
      by-wait false is = advance-goes tells new answer is

-- Nothing waits while a reclaim is made, of the whole log or of some of it.
pub record Emptying (whole : Bool) (v : LogStoreValue) : Type 0 where
  pub queue : v.commits.queue ≡ []
  pub job : v.job ≡ None
  pub at : whole ≡ true → IsEmptied v.reclaim v.live.chains

emptying-step : (tells whole : Bool) (old new : LogStoreValue) (answer : Result JobDid PumpFault) → Emptying whole old → PumpsJob tells old answer new
    → Emptying whole new
emptying-step tells whole old new answer is pumps = by-failed old.commits.failed pumps
  where
    same : new ≡ old → Emptying whole new
    same e = subst (Emptying whole) (sym e) is

    by-reclaim : (o : Option ReclaimValue) → old.reclaim ≡ o
        → MatchOption o (StepsJob tells old.job old answer new) (λ r. StepsReclaim tells r old answer new) → Emptying whole new
    by-reclaim None e steps = same (subst (λ (j : Option Job). StepsJob tells j old answer new) is.job steps).1
    by-reclaim (Some r) e steps =
        let goes = reclaim-goes old r e tells new answer steps in
        record {
          queue = goes.commits.queue ∙ is.queue;
          job = goes.job ∙ is.job;
          at = λ all. goes.empty (subst (λ (o : Option ReclaimValue). IsEmptied o old.live.chains) e (is.at all));
        }

    by-failed : (b : Bool) → MatchBool b ((answer ≡ Err pump.Failed) × (new ≡ old))
        (MatchOption old.reclaim (StepsJob tells old.job old answer new) (λ r. StepsReclaim tells r old answer new)) → Emptying whole new
    by-failed true failed = same failed.1
    by-failed false steps = by-reclaim old.reclaim refl steps

pub emptying-steps : (tells whole : Bool) (old new : LogStoreValue) (between : List LogStoreValue) → Emptying whole old → StepsTo tells old between new
    → Emptying whole new
emptying-steps tells whole old new [] is steps = subst (Emptying whole) (sym steps) is
emptying-steps tells whole old new (next ∷ rest) is steps =
    emptying-steps tells whole next new rest (emptying-step tells whole old next steps.1.answer is steps.1.is) steps.2

-- A query leaves the store standing for what it stood for.
use Rattle.std.proofs.Common.{◌≡◌, ℕ, ◌==◌, Bool, true, false, IsTrue, [], Option, None, Some, Result, Err, MatchBool, refl, arith}
use Rattle.std.proofs.Common.{ap, sym, subst, ◌∙◌, inl, inr}
use Rattle.std.proofs.lemmas.List.{append-nil}
use Rattle.std.specs.declared.alloc.Global.{Global}
use Rattle.std.specs.declared.vec.Vec.{Vec}
use Rattle.disk.specs.Calls.{DiskState}
use Rattle.history.specs.Histories.{History}
use Rattle.history.specs.Machine.{Machine}
use Rattle.law_image.specs.Values.{Value}
use Rattle.archive.specs.Searches.{archive_of}
use Rattle.timequery.specs.Archives.{ArchiveValue, is_front}
use Rattle.timequery.specs.Asked.{Asks, Finds, OrStranger, is_own}
use Rattle.timequery.specs.Faults.{after_query}
use Rattle.timequery.specs.View.{ViewValue}
use Rattle.timequery.specs.declared.fault.QueryFault.{QueryFault}
use Rattle.timequery.specs.declared.fault.QueryFault.TheVariants as query
use Rattle.log_writer.specs.Writer.{WriterState}
use Rattle.log_store.specs.Values.{LogStoreValue}
use Rattle.log_store.specs.declared.job.Job.{Job}
use Rattle.log_store.specs.declared.job.JobStage.{JobStage}
use Rattle.log_store.specs.declared.job.JobStage.TheVariants.{Writing, Ready, Entering}
use Rattle.log_store.specs.declared.job.JobWork.{JobWork}
use Rattle.log_store.specs.Names.{AnswersTimes}
use Rattle.log_store.specs.Queries.{in_log_store}
use Rattle.law_refinement.proofs.Asking.{after-is, own-front}
use Rattle.law_refinement.proofs.RunsKept.{up_to-same}
use Rattle.law_refinement.proofs.RunsStep.{front-ends}
use Rattle.law_log_store.specs.Standing.{StandsOnHeap, StopsOnHeap, HasTurn, HasJob, HasStage}
use Rattle.law_log_steps.specs.Store.{IsLeft, IsStoreOf}
use Rattle.law_log_queries.specs.Archive.{NamesStand, RunsStand, Stands, GoesOn, end_of}
use Rattle.law_log_queries.proofs.Runs.{ends-all}
use Rattle.law_log_queries.proofs.Leaving.{leaves-same, leaves-goes}

module _ (v : LogStoreValue) (archive : ArchiveValue) (refused : ℕ) where
  -- the store after it
  abbrev asked : LogStoreValue
  asked = record v { archive = archive; disk = record v.disk { refused = refused } }

  asked-heap : (h queue : History Value) (floors : ℕ → ℕ) → StandsOnHeap v h queue floors → StandsOnHeap asked h queue floors
  asked-heap h queue floors s = record {
    l = s.l;
    reading = s.reading;
    made = s.made;
    is_log = s.is_log;
    stands = s.stands;
    archive = s.archive;
    status = s.status;
    sound = s.sound;
    commits = record {
      ordered = s.commits.ordered;
      values = s.commits.values;
      told = s.commits.told;
      contents = s.commits.contents;
      may = s.commits.may;
    };
    facts = s.facts;
    anchors = s.anchors;
    turn = by-turn v.turn s.turn;
    job = s.job;
    written = s.written;
    named = s.named;
    reach = s.reach;
    spare = s.spare;
    reclaim = s.reclaim;
  }
    where
      by-stage : (work : JobWork) (k : JobStage) → HasStage v s.l s.reading s.made work k → HasStage asked s.l s.reading s.made work k
      by-stage work (Writing writer) is = record { log = is.log; room = is.room; live = is.live }
      by-stage work (Ready waited) is = record { log = is.log; room = is.room; live = is.live }
      by-stage work (Entering w) is = record { content = is.content; joins = is.joins; shares = is.shares; at = is.at; room = is.room; live = is.live }

      by-job : (j : Option Job) → HasJob v s.l s.reading s.made j → HasJob asked s.l s.reading s.made j
      by-job None is = record { log = is.log; room = is.room; live = is.live }
      by-job (Some job) is = by-stage job.work job.stage is

      by-turn : (t : Option WriterState) → HasTurn v queue s.l s.reading s.made h t → HasTurn asked queue s.l s.reading s.made h t
      by-turn None is = by-job v.job is
      by-turn (Some w) is = record {
        group = is.group;
        told = is.told;
        is_group = is.is_group;
        content = is.content;
        joins = is.joins;
        shares = is.shares;
        at = is.at;
        room = is.room;
        live = is.live;
        alone = is.alone;
        beside = is.beside;
      }

  asked-disk : (b : Bool) (h queue : History Value) (floors : ℕ → ℕ) → MatchBool b (StopsOnHeap v h queue floors) (StandsOnHeap v h queue floors)
      → MatchBool b (StopsOnHeap asked h queue floors) (StandsOnHeap asked h queue floors)
  asked-disk true h queue floors stops = stops
  asked-disk false h queue floors s = asked-heap h queue floors s

  asked-left : (tells : Bool) (m : Machine Value) → IsLeft tells v m → IsLeft tells asked m
  asked-left tells m (inl gate) = inl gate
  asked-left tells m (inr calm) = inr (record { gate = calm.gate; stops = calm.stops })

  asked-store : (tells : Bool) (m : Machine Value) → IsStoreOf tells v m → IsStoreOf tells asked m
  asked-store tells m is = record {
    memory = is.memory;
    machine = is.machine;
    writing = record {
      most = is.writing.most;
      group = is.writing.group;
      raising = is.writing.raising;
      made = is.writing.made;
      gate = is.writing.gate;
      left = λ fails. asked-left tells m (is.writing.left fails);
    };
    fresh = is.fresh;
    marks = record { reclaimed = is.marks.reclaimed; base = is.marks.base; job = is.marks.job; reclaim = is.marks.reclaim };
    ends = is.ends;
    disk = λ told. asked-disk v.commits.failed m.published m.queue m.floors (is.disk told);
  }

  asked-names : (h : History Value) → NamesStand v h → NamesStand asked h
  asked-names h n = record {
    rolls = n.rolls;
    names = n.names;
    lie = record {
      rolls_are = (n.lie).rolls_are;
      each = (n.lie).each;
      held = (n.lie).held;
      stored = (n.lie).stored;
      are_names = (n.lie).are_names;
      by_mark = (n.lie).by_mark;
    };
    ends = n.ends;
    others = n.others;
    are = n.are;
    late = n.late;
    by_last = n.by_last;
  }

pub asks-stands : {T : Type 0} (tells : Bool) (v new : LogStoreValue) (m : Machine Value) (view : ViewValue) (answer : Result T QueryFault)
    → Stands tells v m → is_front view.runs v.archive.runs ≡ true → Asks in_log_store tells v view answer new
    → Stands tells new m × GoesOn tells v new
asks-stands tells v new m view answer stands front asks =
    let archive : ArchiveValue = record v.archive { kept = new.archive.kept } in
    let refused : ℕ = (after_query answer v.disk).refused in
    let is : new ≡ asked v archive refused =
    asks.new_is ∙ ap (λ (d : DiskState). record v { archive = archive; disk = d }) (after-is answer v.disk) in
    let end = end_of v.archive.runs in
    let runs : IsTrue tells → RunsStand (asked v archive refused) m.published m.floors = λ told.
    let r = stands.runs told in
    let keeps = asks.kept end (front-ends end view.runs v.archive.runs front (ends-all v.archive.runs)) in
    record {
      lists = r.lists;
      held = r.held;
      marks = r.marks;
      by_last = r.by_last;
      archived = r.archived;
      right = keeps.right told r.right;
      near = keeps.ends end (omega arith) r.near;
      ends = r.ends;
      named = r.named;
    } in
    let goes : GoesOn tells v (asked v archive refused) = record {
      mark = refl;
      more = [];
      runs = sym (append-nil v.archive.runs);
      bytes = λ told. up_to-same end (archive_of v.disk);
    } in (
      subst (λ (x : LogStoreValue). Stands tells x m) (sym is)
          (record {
            store = asked-store v archive refused tells m stands.store;
            place = stands.place;
            runs = runs;
            names = λ told. asked-names v archive refused m.published (stands.names told);
          }),
      subst (λ (x : LogStoreValue). GoesOn tells v x) (sym is) goes,
    )

-- a store that was asked, with a view of its own or a stranger's
pub query-stands : {T : Type 0} (tells : Bool) (v new : LogStoreValue) (m : Machine Value) (view : ViewValue) (from : ℕ) (Refuses : QueryFault
    → Type 0) (Recent : T → Type 0) (OfHistory : History Value → T → Type 0) (Exact : Result T QueryFault → Type 0) (answer : Result T QueryFault)
    → Stands tells v m
    → OrStranger (is_own v.commits.mark v.archive view) v (Finds in_log_store tells v view from Refuses Recent OfHistory Exact) answer new
    → Stands tells new m × GoesOn tells v new
query-stands tells v new m view from Refuses Recent OfHistory Exact answer stands says = by-own (is_own v.commits.mark v.archive view) refl says
  where
    by-own : (b : Bool) → is_own v.commits.mark v.archive view ≡ b
        → MatchBool b (Finds in_log_store tells v view from Refuses Recent OfHistory Exact answer new) ((answer ≡ Err query.Stranger) × (new ≡ v))
        → Stands tells new m × GoesOn tells v new
    by-own true is finds =
        asks-stands tells v new m view answer stands (own-front (view.mark == v.commits.mark) (is_front view.runs v.archive.runs) is) finds.asks
    by-own false is strange = (
      subst (λ (x : LogStoreValue). Stands tells x m) (sym strange.1) stands,
      subst (λ (x : LogStoreValue). GoesOn tells v x) (sym strange.1) (leaves-goes tells v v (leaves-same tells v)),
    )

-- a store whose names were asked
pub times-stand : (tells : Bool) (v new : LogStoreValue) (m : Machine Value) (label : ℕ) (answer : Result (Vec ℕ Global) QueryFault) → Stands tells v m
    → AnswersTimes tells v label answer new → Stands tells new m × GoesOn tells v new
times-stand tells v new m label answer stands says =
    let refused : ℕ = (after_query answer v.disk).refused in
    let is : new ≡ asked v v.archive refused = says.new_is ∙ ap (λ (d : DiskState). record v { disk = d }) (after-is answer v.disk) in
    let end = end_of v.archive.runs in
    let runs : IsTrue tells → RunsStand (asked v v.archive refused) m.published m.floors = λ told.
    let r = stands.runs told in
    record {
      lists = r.lists;
      held = r.held;
      marks = r.marks;
      by_last = r.by_last;
      archived = r.archived;
      right = r.right;
      near = r.near;
      ends = r.ends;
      named = r.named;
    } in
    let goes : GoesOn tells v (asked v v.archive refused) = record {
      mark = refl;
      more = [];
      runs = sym (append-nil v.archive.runs);
      bytes = λ told. up_to-same end (archive_of v.disk);
    } in (
      subst (λ (x : LogStoreValue). Stands tells x m) (sym is)
          (record {
            store = asked-store v v.archive refused tells m stands.store;
            place = stands.place;
            runs = runs;
            names = λ told. asked-names v v.archive refused m.published (stands.names told);
          }),
      subst (λ (x : LogStoreValue). GoesOn tells v x) (sym is) goes,
    )

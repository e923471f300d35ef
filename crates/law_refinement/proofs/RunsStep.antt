-- The runs of a store, and what its views need of them, are kept by each call.
use Rattle.std.proofs.Common.{◌≡◌, ℕ, zero, suc, ◌+◌, ◌≤◌, ◌==◌, ◌&&◌, Bool, true, false, IsTrue, List, [], ◌∷◌, ◌++◌, filter, Option, None, Some, MatchOption}
use Rattle.std.proofs.Common.{slice_get, refl, arith, ap, sym, subst, ◌∙◌}
use Rattle.std.specs.Prelude.{Contains}
use Rattle.std.proofs.lemmas.Bool.Decides.{nat_tests}
use Rattle.std.proofs.lemmas.List.{append-nil}
use Rattle.std.proofs.lemmas.List.Elements.{filter-append}
use Rattle.std.proofs.lemmas.Grind.{flat_map-append}
use Rattle.disk.specs.Parts.{HoldsPart}
use Rattle.history.specs.declared.key.Key.{Key}
use Rattle.history.specs.declared.time.Version.{Version}
use Rattle.history.specs.Versions.{ends_after, ends_by}
use Rattle.history.specs.Histories.{History, versions_of, HasRisingTimes}
use Rattle.history.specs.Machine.{Machine}
use Rattle.law_image.specs.Values.{Value}
use Rattle.law_image.specs.Facts.{run_versions}
use Rattle.law_image.specs.StandsFor.{IsArchived}
use Rattle.law_layout.proofs.Lists.{weaker}
use Rattle.wire.specs.declared.slot.Run.{Run}
use Rattle.archive.specs.declared.run.RunEntry.{RunEntry}
use Rattle.archive.specs.Answers.{versions_in}
use Rattle.archive.specs.Parts.{IsRight, EndBy}
use Rattle.archive.specs.Runs.{HoldsRun, HoldRuns, RunsEndBy, run_bytes, run_end}
use Rattle.archive.specs.Searches.{archive_of}
use Rattle.timequery.specs.View.{mark_of, mark_after}
use Rattle.floors.specs.Floors.{floor_at}
use Rattle.floors.proofs.Owns.{same-floors}
use Rattle.store.specs.Calls.{same_run, is_front}
use Rattle.store.specs.Values.{StoreValue}
use Rattle.store.specs.declared.job.Job.{Job}
use Rattle.store.specs.declared.job.JobWork.{JobWork}
use Rattle.store.specs.declared.job.JobWork.TheVariants.{Archive, Reclaim, Floor, Grow}
use Rattle.law_refinement.specs.Homes.{AreArchived, HasPlace, JobHasPlace, RunsStand, KeepsUpTo, GoesOn}
use Rattle.law_refinement.proofs.RunsKept.{runs-held, runs-more, ends-later, ends-more, right-kept, archived-later, IsLater, last-rises}
use Rattle.law_refinement.proofs.RunsAhead.{RunReady}

-- ---- where no run is added

-- what of a store the runs rest on is as it was
pub record KeepsArchive (old new : StoreValue) : Type 0 where
  pub runs : new.archive.runs ≡ old.archive.runs
  pub kept : new.archive.kept ≡ old.archive.kept
  pub archived : new.archived ≡ old.archived
  pub runs_end : new.runs_end ≡ old.runs_end
  pub mark : new.transactions.mark ≡ old.transactions.mark

pub runs-move : (old new : StoreValue) (m after : Machine Value) → HasRisingTimes 0 m.published → IsLater m after → KeepsArchive old new
    → new.transactions.reclaimed ≤ old.archived
    → KeepsUpTo old.runs_end (archive_of old.disk) (archive_of new.disk) → RunsStand old m → RunsStand new after
runs-move old new m after up later keeps marks bytes stand =
    let archived = keeps.archived in
    let end = keeps.runs_end in
    let runs = keeps.runs in
    let kept = keeps.kept in
    let past = last-rises m after later in
    let by_last = stand.by_last in
    record {
      lists = stand.lists;
      held = subst (λ (rs : List RunEntry). HoldRuns (archive_of new.disk) rs stand.lists) (sym runs)
          (runs-held old.runs_end (archive_of old.disk) (archive_of new.disk) old.archive.runs stand.lists bytes stand.ends stand.held);
      ends = λ n run at. subst (λ (e : ℕ). run_end run ≤ e) (sym end) (stand.ends n run (ap (λ (rs : List RunEntry). slice_get rs n) (sym runs) ∙ at));
      mark = ap mark_of runs ∙ stand.mark ∙ sym archived;
      marks = omega arith;
      by_last = omega arith;
      archived = subst (λ (a : ℕ). AreArchived after.published after.floors a stand.lists) (sym archived)
          (subst (λ (h : History Value). AreArchived h after.floors old.archived stand.lists) (sym later.published)
          (archived-later m.published later.more m.floors after.floors old.archived stand.lists up later.rising later.floors stand.by_last stand.archived));
      right = subst (λ (parts : List (ℕ × List ℕ)). IsRight parts (archive_of new.disk)) (sym kept)
          (right-kept old.runs_end (archive_of old.disk) (archive_of new.disk) old.archive.kept bytes stand.near stand.right);
      near = subst (λ (e : ℕ). EndBy e new.archive.kept) (sym end) (subst (λ (parts : List (ℕ × List ℕ)). EndBy old.runs_end parts) (sym kept) stand.near);
    }

pub goes-same : (tells : Bool) (old new : StoreValue) → KeepsArchive old new
    → (IsTrue tells → KeepsUpTo old.runs_end (archive_of old.disk) (archive_of new.disk)) → GoesOn tells old new
goes-same tells old new keeps bytes = record {
  mark = keeps.mark;
  more = [];
  runs = keeps.runs ∙ sym (append-nil old.archive.runs);
  end = λ told. let end = keeps.runs_end in omega arith;
  bytes = bytes;
}

-- the place of a run that is made
pub place-move : (work : JobWork) (old new : StoreValue) (m after : Machine Value) → ((relation : ℕ) → m.floors relation ≤ after.floors relation)
    → new.archive.runs ≡ old.archive.runs → new.archive.next ≡ old.archive.next → new.archived ≡ old.archived → HasPlace work old m → HasPlace work new after
place-move (Archive run writer) old new m after higher runs next archived has = (
  has.0,
  has.1,
  has.2 ∙ sym archived,
  (λ relation. let low = has.3 relation in let high = higher relation in omega arith),
  next ∙ has.4
      ∙ ap (λ (rs : List RunEntry). rs ++ has.0 ∷ []) (sym runs),
)
place-move (Reclaim anchors source written) old new m after higher runs next archived has = let low : anchors.upto ≤ old.archived = has in omega arith
place-move (Floor scope floor floors) old new m after higher runs next archived has = tt
place-move (Grow growth) old new m after higher runs next archived has = tt

pub job-place-move : (o : Option Job) (old new : StoreValue) (m after : Machine Value) → ((relation : ℕ) → m.floors relation ≤ after.floors relation)
    → new.archive.runs ≡ old.archive.runs → new.archive.next ≡ old.archive.next → new.archived ≡ old.archived
    → MatchOption o (Unit {0}) (λ job. HasPlace job.work old m) → MatchOption o (Unit {0}) (λ job. HasPlace job.work new after)
job-place-move None old new m after higher runs next archived has = tt
job-place-move (Some job) old new m after higher runs next archived has = place-move job.work old new m after higher runs next archived has

pub place-same : (old new : StoreValue) (m after : Machine Value) → ((relation : ℕ) → m.floors relation ≤ after.floors relation) → new.job ≡ old.job
    → new.archive.runs ≡ old.archive.runs → new.archive.next ≡ old.archive.next → new.archived ≡ old.archived → JobHasPlace old m → JobHasPlace new after
place-same old new m after higher job runs next archived has =
    subst (λ (o : Option Job). MatchOption o (Unit {0}) (λ j. HasPlace j.work new after)) (sym job)
    (job-place-move old.job old new m after higher runs next archived has)

-- ---- where the run that was made is one of the log's

pub mark-more : (mark : ℕ) (runs : List RunEntry) (run : RunEntry) → mark_after mark (runs ++ run ∷ []) ≡ run.slot.upto
mark-more mark [] run = refl
mark-more mark (r ∷ rs) run = mark-more r.slot.upto rs run

pub runs-done : (old new : StoreValue) (m after : Machine Value) (run : Run) (entry : RunEntry) → HasRisingTimes 0 m.published → IsLater m after
    → RunsStand old m → RunReady old m run
    → entry.slot ≡ run → entry.mark ≡ old.archived → ((relation : ℕ) → floor_at entry.floors relation ≤ m.floors relation)
    → new.archive.runs ≡ old.archive.runs ++ entry ∷ [] → new.archive.kept ≡ old.archive.kept → new.archived ≡ run.upto → new.runs_end ≡ run.start + run.len
    → new.transactions.reclaimed ≡ old.transactions.reclaimed
    → archive_of new.disk ≡ archive_of old.disk → RunsStand new after
runs-done old new m after run entry up later stand ready slot mark floor runs kept archived end reclaimed same =
    let past = last-rises m after later in
    let upto_is : entry.slot.upto ≡ run.upto = ap (λ (r : Run). r.upto) slot in
    let end_is : run_end entry ≡ run.start + run.len = ap (λ (r : Run). r.start + r.len) slot in
    let start = ready.start in
    let last_is = ready.by_last in
    let risen = ready.later in
    let marks = stand.marks in
    let ends : RunsEndBy new.runs_end old.archive.runs = ends-later old.runs_end new.runs_end old.archive.runs (omega arith) stand.ends in
    record {
      lists = stand.lists ++ ready.records ∷ [];
      held = subst (λ (rs : List RunEntry). HoldRuns (archive_of new.disk) rs (stand.lists ++ ready.records ∷ [])) (sym runs)
          (subst (λ (area : List ℕ). HoldRuns area (old.archive.runs ++ entry ∷ []) (stand.lists ++ ready.records ∷ [])) (sym same)
          (runs-more (archive_of old.disk) old.archive.runs stand.lists entry ready.records stand.held one));
      ends = subst (λ (rs : List RunEntry). RunsEndBy new.runs_end rs) (sym runs) (ends-more new.runs_end old.archive.runs entry ends (omega arith));
      mark = ap mark_of runs ∙ mark-more 0 old.archive.runs entry ∙ upto_is ∙ sym archived;
      marks = omega arith;
      by_last = omega arith;
      archived = subst (λ (a : ℕ). AreArchived after.published after.floors a (stand.lists ++ ready.records ∷ [])) (sym archived)
          (subst (λ (h : History Value). AreArchived h after.floors run.upto (stand.lists ++ ready.records ∷ [])) (sym later.published)
          (archived-later m.published later.more m.floors after.floors run.upto (stand.lists ++ ready.records
          ∷ []) up later.rising later.floors ready.by_last (λ key. both key)));
      right = subst (λ (area : List ℕ). IsRight new.archive.kept area) (sym same)
          (subst (λ (parts : List (ℕ × List ℕ)). IsRight parts (archive_of old.disk)) (sym kept) stand.right);
      near = record {
        each = λ from bytes there. let low = stand.near.each from bytes
            (subst (λ (parts : List (ℕ × List ℕ)). Contains parts (from, bytes)) kept there) in omega arith;
      };
    }
  where
    one : HoldsRun (archive_of old.disk) entry ready.records
    one = record {
      held = subst (λ (r : Run). HoldsPart r.start (run_bytes ready.records) (archive_of old.disk)) (sym slot) ready.held;
      length_is = ready.length_is ∙ ap (λ (r : Run). r.len) (sym slot);
      records_are = ready.many ∙ ap (λ (r : Run). r.records) (sym slot);
      each = ready.each;
      rules = record {
        each = weaker (IsArchived old.archived m.floors run.upto) (IsArchived entry.mark (floor_at entry.floors) entry.slot.upto) ready.records
            (λ r is.
            let low = floor r.key.relation in
            let after = is.after_floor in
            let marked = is.after_mark in
            let by = is.by_upto in
            let same : entry.slot.upto ≡ run.upto = ap (λ (x : Run). x.upto) slot in
            record { lasts = is.lasts; after_mark = omega arith; after_floor = omega arith; by_upto = omega arith }) ready.rules.each;
        in_order = ready.rules.in_order;
      };
    }

    both : (key : Key) → filter (ends_after (m.floors key.relation)) (versions_in key (stand.lists ++ ready.records ∷ []))
        ≡ filter (ends_after (m.floors key.relation)) (filter (ends_by run.upto) (versions_of m.published key))
    both key =
        let f = m.floors key.relation in
        ap (filter (ends_after f)) (flat_map-append (run_versions key) stand.lists (ready.records ∷ [])
        ∙ ap (λ (l : List (Version Value)). versions_in key stand.lists ++ l) (append-nil (run_versions key ready.records)))
        ∙ filter-append (ends_after f) (versions_in key stand.lists) (run_versions key ready.records)
        ∙ ap (λ (l : List (Version Value)). l ++ filter (ends_after f) (run_versions key ready.records)) (stand.archived key)
        ∙ ready.adds key

-- ---- fronts

equal : (n : ℕ) → (n == n) ≡ true
equal n = grind (arith, nat_tests)

same-self : (run : RunEntry) → same_run run run ≡ true
same-self run =
    rw (equal run.slot.upto) (rw (equal run.slot.start) (rw (equal run.slot.len) (rw (equal run.slot.records) (rw (equal run.mark) (same-floors run.floors)))))

pub front-self : (runs : List RunEntry) → is_front runs runs ≡ true
front-self [] = refl
front-self (r ∷ rs) = rw (same-self r) (front-self rs)

pub front-more : (runs others more : List RunEntry) → is_front runs others ≡ true → is_front runs (others ++ more) ≡ true
front-more [] others more is = refl
front-more (r ∷ rs) [] more is = absurd cc
front-more (r ∷ rs) (o ∷ os) more is =
    (elim (same_run r o) as (λ (b : Bool). (b && is_front rs os) ≡ true → (b && is_front rs (os ++ more)) ≡ true) [
      | true ↦ λ rest. front-more rs os more rest
      | false ↦ λ no. absurd cc
    ]) is

-- the runs at the front end where the others do
same-end : (a b : RunEntry) → same_run a b ≡ true → run_end a ≡ run_end b
same-end a b is = grind (arith, nat_tests)

pub front-ends : (end : ℕ) (runs others : List RunEntry) → is_front runs others ≡ true → RunsEndBy end others → RunsEndBy end runs
front-ends end [] others is ends = λ n run at. absurd cc
front-ends end (r ∷ rs) [] is ends = absurd cc
front-ends end (r ∷ rs) (o ∷ os) is ends =
    let both = parts (same_run r o) (is_front rs os) is in
    λ n. elim n as (λ n. (run : RunEntry) → slice_get (r ∷ rs) n ≡ Some run → run_end run ≤ end) [
      | zero ↦ λ run at.
          let first : r ≡ run = cc in
          let there : run_end o ≤ end = ends 0 o refl in
          let same = same-end r o both.0 in
          subst (λ (x : RunEntry). run_end x ≤ end) first (omega arith)
      | suc k ↦ λ run at. front-ends end rs os both.1 (λ i x there. ends (suc i) x there) k run at
    ]
  where
    parts : (a b : Bool) → (a && b) ≡ true → (a ≡ true) × (b ≡ true)
    parts true b both = (refl, both)
    parts false b both = absurd cc

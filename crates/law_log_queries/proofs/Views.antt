-- A view stands for the history of its moment, and is answered by it.
use Rattle.std.proofs.Common.{◌≡◌, ℕ, Bool, true, IsTrue, Option, Result, Vec, refl, ap, sym, subst, ◌∙◌}
use Rattle.std.specs.declared.alloc.Global.{Global}
use Rattle.history.specs.declared.key.Key.{Key}
use Rattle.history.specs.declared.time.Version.{Version}
use Rattle.history.specs.Histories.{History}
use Rattle.history.specs.Machine.{Machine}
use Rattle.history.specs.Answers as answers
use Rattle.law_image.specs.Values.{Value}
use Rattle.archive.specs.Searches.{archive_of}
use Rattle.timequery.specs.Archives.{is_front}
use Rattle.timequery.specs.Asked.{is_own}
use Rattle.timequery.specs.Homes.{ReadsHistory}
use Rattle.timequery.specs.View.{ViewValue}
use Rattle.timequery.specs.declared.fault.QueryFault.{QueryFault}
use Rattle.log_store.specs.Values.{LogStoreValue}
use Rattle.log_store.specs.Queries as stores
use Rattle.law_refinement.specs.Homes.{ViewStands, IsSure}
use Rattle.law_refinement.specs.Laws.{SaysAt, SaysScanAt, SaysBetween, SaysScanBetween}
use Rattle.law_refinement.proofs.Asked.{own-view, view-reads, at-asked, scan_at-asked, between-asked, scan_between-asked}
use Rattle.law_refinement.proofs.RunsKept.{runs-held}
use Rattle.law_refinement.proofs.RunsStep.{front-self, front-more, front-ends}
use Rattle.law_commits.proofs.Views.{view-stands}
use Rattle.law_log_queries.specs.Archive.{Stands, ViewReads, GoesOn, end_of}
use Rattle.law_log_queries.proofs.Runs.{ends-all}

-- ---- a view that is taken

pub view-of-history : (tells : Bool) (v : LogStoreValue) (view : ViewValue) (m : Machine Value) → Stands tells v m → stores.IsViewOf v view
    → ViewStands view m.published m.floors × ViewReads tells v view m.published m.floors
view-of-history tells v view m stands is = (
  view-stands v.commits m view stands.store.memory stands.store.machine (record {
    last = ap (λ (w : ViewValue). w.last) is;
    floors = ap (λ (w : ViewValue). w.floors) is;
    reclaimed = ap (λ (w : ViewValue). w.reclaimed) is;
    state = ap (λ (w : ViewValue). w.state) is;
  }),
  subst (λ (w : ViewValue). ViewReads tells v w m.published m.floors) (sym is) (record {
    mark = refl;
    front = front-self v.archive.runs;
    runs = λ told. let r = stands.runs told in record { lists = r.lists; held = r.held; marks = r.marks; archived = r.archived };
  }),
)

-- ---- it goes on

pub view-goes-on : (tells : Bool) (old new : LogStoreValue) (view : ViewValue) (h : History Value) (floors : ℕ → ℕ) → ViewReads tells old view h floors
    → GoesOn tells old new → ViewReads tells new view h floors
view-goes-on tells old new view h floors reads goes = record {
  mark = reads.mark ∙ sym goes.mark;
  front = ap (is_front view.runs) goes.runs ∙ front-more view.runs old.archive.runs goes.more reads.front;
  runs = λ told.
      let r = reads.runs told in
      let end = end_of old.archive.runs in
      record {
        lists = r.lists;
        held = runs-held end (archive_of old.disk) (archive_of new.disk) view.runs r.lists (goes.bytes told)
            (front-ends end view.runs old.archive.runs reads.front (ends-all old.archive.runs)) r.held;
        marks = r.marks;
        archived = r.archived;
      };
}

-- ---- it is answered

module _ (tells : Bool) (v new : LogStoreValue) (m : Machine Value) (view : ViewValue) (h : History Value) (floors : ℕ → ℕ) (stands : Stands tells v m)
    (of : ViewStands view h floors) (reads : ViewReads tells v view h floors) where
  own-is : is_own v.commits.mark v.archive view ≡ true
  own-is = own-view v.commits.mark v.archive view reads.mark reads.front

  reads-history : IsTrue tells → ReadsHistory tells v.archive.kept v.disk view h
  reads-history told =
      let r = reads.runs told in
      view-reads tells v.archive.kept v.disk view h floors r.lists of told (stands.runs told).right r.held r.marks r.archived

  pub at-answered : (key : Key) (time : ℕ) (answer : Result (Option Value) QueryFault) → stores.AnswersAtView tells v view key time answer new
      → SaysAt (IsSure tells view.reclaimed time) (answers.at_answer h floors key time) answer
  at-answered key time answer says =
      at-asked stores.in_log_store tells v.commits.mark v new view h floors of own-is reads-history key time answer says

  pub scan_at-answered : (relation time : ℕ) (answer : Result (Vec (ℕ × Value) Global) QueryFault) → stores.AnswersScanAt tells v view relation time answer new
      → SaysScanAt (IsSure tells view.reclaimed time) h floors relation time answer
  scan_at-answered relation time answer says =
      scan_at-asked stores.in_log_store tells v.commits.mark v new view h floors of own-is reads-history relation time answer says

  pub between-answered : (key : Key) (a b : ℕ) (answer : Result (Vec (Version Value) Global) QueryFault) → stores.AnswersRows tells v view key a b answer new
      → SaysBetween (IsSure tells view.reclaimed a) h floors key a b answer
  between-answered key a b answer says =
      between-asked stores.in_log_store tells v.commits.mark v new view h floors of own-is reads-history key a b answer says

  pub scan_between-answered : (relation a b : ℕ) (answer : Result (Vec (ℕ × Version Value) Global) QueryFault)
      → stores.AnswersScanRows tells v view relation a b answer new → SaysScanBetween (IsSure tells view.reclaimed a) h floors relation a b answer
  scan_between-answered relation a b answer says =
      scan_between-asked stores.in_log_store tells v.commits.mark v new view h floors of own-is reads-history relation a b answer says

-- A view of what is published, and what a query of it leaves.
use Rattle.std.proofs.Common.{◌≡◌, ℕ, ◌≤◌, Bool, true, IsTrue, [], Option, Result, Err, Vec, MatchBool, refl, arith, ap, sym, subst, ◌∙◌}
use Rattle.std.specs.declared.alloc.Global.{Global}
use Rattle.history.specs.declared.key.Key.{Key}
use Rattle.history.specs.declared.time.Version.{Version}
use Rattle.history.specs.Histories.{History}
use Rattle.history.specs.Machine.{Machine}
use Rattle.history.specs.Answers as answers
use Rattle.history.proofs.Histories.{may_follow-front}
use Rattle.law_image.specs.Values.{Value, IsValue}
use Rattle.archive.specs.Searches.{archive_of}
use Rattle.timequery.specs.Homes.{ReadsHistory}
use Rattle.timequery.specs.View.{ViewValue}
use Rattle.timequery.specs.declared.fault.QueryFault.{QueryFault}
use Rattle.timequery.specs.declared.fault.QueryFault.TheVariants as query
use Rattle.store.specs.Calls as stores
use Rattle.store.specs.Calls.{in_store, is_own, is_front}
use Rattle.store.specs.Values.{StoreValue}
use Rattle.law_refinement.specs.Homes.{AreArchived, ViewStands, ViewReads, GoesOn, IsSure}
use Rattle.law_refinement.specs.Laws.{SaysAt, SaysScanAt, SaysBetween, SaysScanBetween}
use Rattle.law_refinement.specs.Stands.{Stands}
use Rattle.law_refinement.proofs.Memory.{last-is}
use Rattle.law_refinement.proofs.Asked.{own-view, view-reads, at-asked, scan_at-asked, between-asked, scan_between-asked}
use Rattle.law_refinement.proofs.Asked.{at-asked_recently, scan_at-asked_recently, between-asked_recently, scan_between-asked_recently}
use Rattle.law_refinement.proofs.RunsKept.{runs-held, ends-later}
use Rattle.law_refinement.proofs.RunsStep.{front-self, front-more}

-- ---- a view that is taken

pub view-of-history : (tells : Bool) (v : StoreValue) (view : ViewValue) (m : Machine Value) → Stands tells v m → stores.IsViewOf v view
    → ViewStands view m.published m.floors × ViewReads tells v view m.published m.floors
view-of-history tells v view m stands is = subst (λ (w : ViewValue). ViewStands w m.published m.floors × ViewReads tells v w m.published m.floors) (sym is) (
  record {
    last_is = last-is v.transactions m stands.memory;
    floor_is = stands.memory.floors;
    history = may_follow-front IsValue [] m.published m.queue stands.machine.history;
    memory = stands.memory.versions;
  },
  record {
    mark = refl;
    front = front-self v.archive.runs;
    runs = λ told.
        let r = stands.runs told in
        let marks = r.marks in
        let mark = r.mark in
        record {
          lists = r.lists;
          held = r.held;
          ends = r.ends;
          marks = omega arith;
          archived = subst (λ (a : ℕ). AreArchived m.published m.floors a r.lists) (sym r.mark) r.archived;
        };
  },
)

-- ---- it goes on

pub view-goes-on : (tells : Bool) (old new : StoreValue) (view : ViewValue) (h : History Value) (floors : ℕ → ℕ) → ViewReads tells old view h floors
    → GoesOn tells old new → ViewReads tells new view h floors
view-goes-on tells old new view h floors reads goes = record {
  mark = reads.mark ∙ sym goes.mark;
  front = ap (is_front view.runs) goes.runs ∙ front-more view.runs old.archive.runs goes.more reads.front;
  runs = λ told.
      let r = reads.runs told in record {
        lists = r.lists;
        held = runs-held old.runs_end (archive_of old.disk) (archive_of new.disk) view.runs r.lists (goes.bytes told) r.ends r.held;
        ends = ends-later old.runs_end new.runs_end view.runs (goes.end told) r.ends;
        marks = r.marks;
        archived = r.archived;
      };
}

-- ---- it is answered

reads-history : (tells : Bool) (v : StoreValue) (m : Machine Value) (view : ViewValue) (h : History Value) (floors : ℕ → ℕ) → Stands tells v m
    → ViewStands view h floors → ViewReads tells v view h floors → IsTrue tells → ReadsHistory tells v.archive.kept v.disk view h
reads-history tells v m view h floors stands of reads told =
    let r = reads.runs told in
    view-reads tells v.archive.kept v.disk view h floors r.lists of told (stands.runs told).right r.held r.marks r.archived

own-is : (tells : Bool) (v : StoreValue) (view : ViewValue) (h : History Value) (floors : ℕ → ℕ) → ViewReads tells v view h floors → is_own v view ≡ true
own-is tells v view h floors reads = own-view v.transactions.mark v.archive view reads.mark reads.front

pub at-answered : (tells : Bool) (v new : StoreValue) (m : Machine Value) (view : ViewValue) (h : History Value) (floors : ℕ
    → ℕ) (key : Key) (time : ℕ) (answer : Result (Option Value) QueryFault)
    → Stands tells v m → ViewStands view h floors → ViewReads tells v view h floors → stores.AnswersAtView tells v view key time answer new
    → SaysAt (IsSure tells view.reclaimed time) (answers.at_answer h floors key time) answer
at-answered tells v new m view h floors key time answer stands of reads says =
    at-asked in_store tells v.transactions.mark v new view h floors of (own-is tells v view h floors reads)
    (reads-history tells v m view h floors stands of reads) key time answer says

pub scan_at-answered : (tells : Bool) (v new : StoreValue) (m : Machine Value) (view : ViewValue) (h : History Value) (floors : ℕ
    → ℕ) (relation time : ℕ) (answer : Result (Vec (ℕ × Value) Global) QueryFault)
    → Stands tells v m → ViewStands view h floors → ViewReads tells v view h floors → stores.AnswersScanAt tells v view relation time answer new
    → SaysScanAt (IsSure tells view.reclaimed time) h floors relation time answer
scan_at-answered tells v new m view h floors relation time answer stands of reads says =
    scan_at-asked in_store tells v.transactions.mark v new view h floors of (own-is tells v view h floors reads)
    (reads-history tells v m view h floors stands of reads) relation time answer says

pub between-answered : (tells : Bool) (v new : StoreValue) (m : Machine Value) (view : ViewValue) (h : History Value) (floors : ℕ
    → ℕ) (key : Key) (a b : ℕ) (answer : Result (Vec (Version Value) Global) QueryFault)
    → Stands tells v m → ViewStands view h floors → ViewReads tells v view h floors → stores.AnswersRows tells v view key a b answer new
    → SaysBetween (IsSure tells view.reclaimed a) h floors key a b answer
between-answered tells v new m view h floors key a b answer stands of reads says =
    between-asked in_store tells v.transactions.mark v new view h floors of (own-is tells v view h floors reads)
    (reads-history tells v m view h floors stands of reads) key a b answer says

pub scan_between-answered : (tells : Bool) (v new : StoreValue) (m : Machine Value) (view : ViewValue) (h : History Value) (floors : ℕ
    → ℕ) (relation a b : ℕ) (answer : Result (Vec (ℕ × Version Value) Global) QueryFault)
    → Stands tells v m → ViewStands view h floors → ViewReads tells v view h floors → stores.AnswersScanRows tells v view relation a b answer new
    → SaysScanBetween (IsSure tells view.reclaimed a) h floors relation a b answer
scan_between-answered tells v new m view h floors relation a b answer stands of reads says =
    scan_between-asked in_store tells v.transactions.mark v new view h floors of (own-is tells v view h floors reads)
    (reads-history tells v m view h floors stands of reads) relation a b answer says

-- ---- by any store that takes it for its own, from its reclaim mark on

pub at-recently : (tells : Bool) (v new : StoreValue) (view : ViewValue) (h : History Value) (floors : ℕ
    → ℕ) (key : Key) (time : ℕ) (answer : Result (Option Value) QueryFault) → ViewStands view h floors → stores.AnswersAtView tells v view key time answer new
    → MatchBool (is_own v view) (SaysAt (view.reclaimed ≤ time) (answers.at_answer h floors key time) answer) (answer ≡ Err query.Stranger)
at-recently tells v new view h floors key time answer of says =
    at-asked_recently in_store tells v.transactions.mark v new view h floors of key time answer says

pub scan_at-recently : (tells : Bool) (v new : StoreValue) (view : ViewValue) (h : History Value) (floors : ℕ
    → ℕ) (relation time : ℕ) (answer : Result (Vec (ℕ × Value) Global) QueryFault) → ViewStands view h floors
    → stores.AnswersScanAt tells v view relation time answer new
    → MatchBool (is_own v view) (SaysScanAt (view.reclaimed ≤ time) h floors relation time answer) (answer ≡ Err query.Stranger)
scan_at-recently tells v new view h floors relation time answer of says =
    scan_at-asked_recently in_store tells v.transactions.mark v new view h floors of relation time answer says

pub between-recently : (tells : Bool) (v new : StoreValue) (view : ViewValue) (h : History Value) (floors : ℕ
    → ℕ) (key : Key) (a b : ℕ) (answer : Result (Vec (Version Value) Global) QueryFault) → ViewStands view h floors
    → stores.AnswersRows tells v view key a b answer new
    → MatchBool (is_own v view) (SaysBetween (view.reclaimed ≤ a) h floors key a b answer) (answer ≡ Err query.Stranger)
between-recently tells v new view h floors key a b answer of says =
    between-asked_recently in_store tells v.transactions.mark v new view h floors of key a b answer says

pub scan_between-recently : (tells : Bool) (v new : StoreValue) (view : ViewValue) (h : History Value) (floors : ℕ
    → ℕ) (relation a b : ℕ) (answer : Result (Vec (ℕ × Version Value) Global) QueryFault) → ViewStands view h floors
    → stores.AnswersScanRows tells v view relation a b answer new
    → MatchBool (is_own v view) (SaysScanBetween (view.reclaimed ≤ a) h floors relation a b answer) (answer ≡ Err query.Stranger)
scan_between-recently tells v new view h floors relation a b answer of says =
    scan_between-asked_recently in_store tells v.transactions.mark v new view h floors of relation a b answer says

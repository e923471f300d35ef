-- Whatever has an archive and a disk and is asked by a view answers as the view's history says.
use Rattle.std.proofs.Common.{◌≡◌, ℕ, ◌≤◌, ◌==◌, ◌&&◌, Bool, true, false, IsTrue, List, filter, Option, Result, Err, Vec, MatchBool, arith, ap, sym, subst, ◌∙◌}
use Rattle.std.proofs.Common.{inl, inr, ⊎_elim}
use Rattle.std.specs.declared.alloc.Global.{Global}
use Rattle.std.proofs.lemmas.Bool.Decides.{nat_tests}
use Rattle.disk.specs.Calls.{DiskState}
use Rattle.history.specs.declared.key.Key.{Key}
use Rattle.history.specs.declared.time.Version.{Version}
use Rattle.history.specs.Histories.{History}
use Rattle.history.specs.Answers as answers
use Rattle.history.specs.Versions.{ends_after}
use Rattle.law_image.specs.Values.{Value}
use Rattle.law_image.specs.Reading.{ArchiveRecord}
use Rattle.archive.specs.Parts.{IsRight}
use Rattle.archive.specs.Runs.{HoldRuns}
use Rattle.archive.specs.Searches.{archive_of}
use Rattle.timequery.specs.Archives.{ArchiveValue, is_front}
use Rattle.timequery.specs.Asked.{Holding, is_own, AnswersAtView, AnswersScanAt, AnswersRows, AnswersScanRows}
use Rattle.timequery.specs.Asked.{FindsAt, FindsScanAt, FindsRows, FindsScanRows}
use Rattle.timequery.specs.Homes.{ReadsHistory}
use Rattle.timequery.specs.View.{ViewValue, mark_of}
use Rattle.timequery.specs.declared.fault.QueryFault.{QueryFault}
use Rattle.timequery.specs.declared.fault.QueryFault.TheVariants as query
use Rattle.floors.specs.Floors.{floor_at}
use Rattle.law_refinement.specs.Homes.{AreArchived, ViewStands, IsSure}
use Rattle.law_refinement.specs.Laws.{SaysAt, SaysScanAt, SaysBetween, SaysScanBetween}
use Rattle.law_refinement.proofs.Queries.{Knows, at-found, scan_at-found, between-found, scan_between-found}

-- ---- what a view needs of what it asks

-- the view carries its mark, and the view's runs are the first of its own
pub own-view : (mark : ℕ) (archive : ArchiveValue) (view : ViewValue) → view.mark ≡ mark → is_front view.runs archive.runs ≡ true
    → is_own mark archive view ≡ true
own-view mark archive view is front =
    let same : (view.mark == mark) ≡ true = grind (arith, nat_tests) in
    ap (λ (b : Bool). b && is_front view.runs archive.runs) same ∙ front

floor-moved : (a b : ℕ) (xs ys : List (Version Value)) → a ≡ b → filter (ends_after b) xs ≡ filter (ends_after b) ys → filter (ends_after a) xs
    ≡ filter (ends_after a) ys
floor-moved a b xs ys is same = subst (λ (f : ℕ). filter (ends_after f) xs ≡ filter (ends_after f) ys) (sym is) same

-- The archive's bytes hold the view's runs, these have what the history says, and what the reader keeps of the bytes is right.
pub view-reads : (tells : Bool) (kept : List (ℕ × List ℕ)) (disk : DiskState) (view : ViewValue) (h : History Value) (floors : ℕ
    → ℕ) (lists : List (List ArchiveRecord)) → ViewStands view h floors → IsTrue tells → IsRight kept (archive_of disk)
    → HoldRuns (archive_of disk) view.runs lists → view.reclaimed ≤ mark_of view.runs → AreArchived h floors (mark_of view.runs) lists
    → ReadsHistory tells kept disk view h
view-reads tells kept disk view h floors lists of told right held marks archived = record {
  told = told;
  right = right;
  lists = lists;
  held = held;
  history = of.history;
  view = record {
    newest_is = of.last_is;
    homes = record {
      marks = marks;
      in_heap = λ key. floor-moved (floor_at view.floors key.relation) (floors key.relation) _ _ (of.floor_is key.relation) (of.memory.at_home key);
      in_archive = λ key. floor-moved (floor_at view.floors key.relation) (floors key.relation) _ _ (of.floor_is key.relation) (archived key);
    };
  };
}

own-found : (P R : Type 0) (b : Bool) → b ≡ true → MatchBool b P R → P
own-found P R true mine says = says
own-found P R false mine says = absurd cc

-- ---- an own view, whose runs are there where the disk tells its bytes

module _ {W : Type 0} (held : Holding W) (tells : Bool) (mark : ℕ) (v new : W) (view : ViewValue) (h : History Value) (floors : ℕ
    → ℕ) (of : ViewStands view h floors) (own : is_own mark (held.archive v) view ≡ true)
    (reads : IsTrue tells → ReadsHistory tells (held.archive v).kept (held.disk v) view h) where
  knows-it : (from : ℕ) → Knows held tells v view h from (IsSure tells view.reclaimed from)
  knows-it from = λ sure. ⊎_elim (λ (told : IsTrue tells). inl (reads told)) (λ (recent : view.reclaimed ≤ from). inr recent) sure

  pub at-asked : (key : Key) (time : ℕ) (answer : Result (Option Value) QueryFault) → AnswersAtView held tells mark v view key time answer new
      → SaysAt (IsSure tells view.reclaimed time) (answers.at_answer h floors key time) answer
  at-asked key time answer says =
      at-found held (IsSure tells view.reclaimed time) tells v new view h floors key time answer of (knows-it time)
      (own-found _ _ (is_own mark (held.archive v) view) own says)

  pub scan_at-asked : (relation time : ℕ) (answer : Result (Vec (ℕ × Value) Global) QueryFault) → AnswersScanAt held tells mark v view relation time answer new
      → SaysScanAt (IsSure tells view.reclaimed time) h floors relation time answer
  scan_at-asked relation time answer says =
      scan_at-found held (IsSure tells view.reclaimed time) tells v new view h floors relation time answer of (knows-it time)
      (own-found _ _ (is_own mark (held.archive v) view) own says)

  pub between-asked : (key : Key) (a b : ℕ) (answer : Result (Vec (Version Value) Global) QueryFault) → AnswersRows held tells mark v view key a b answer new
      → SaysBetween (IsSure tells view.reclaimed a) h floors key a b answer
  between-asked key a b answer says =
      between-found held (IsSure tells view.reclaimed a) tells v new view h floors key a b answer of (knows-it a)
      (own-found _ _ (is_own mark (held.archive v) view) own says)

  pub scan_between-asked : (relation a b : ℕ) (answer : Result (Vec (ℕ × Version Value) Global) QueryFault)
      → AnswersScanRows held tells mark v view relation a b answer new → SaysScanBetween (IsSure tells view.reclaimed a) h floors relation a b answer
  scan_between-asked relation a b answer says =
      scan_between-found held (IsSure tells view.reclaimed a) tells v new view h floors relation a b answer of (knows-it a)
      (own-found _ _ (is_own mark (held.archive v) view) own says)

-- ---- any view, from its reclaim mark on

module _ {W : Type 0} (held : Holding W) (tells : Bool) (mark : ℕ) (v new : W) (view : ViewValue) (h : History Value) (floors : ℕ
    → ℕ) (of : ViewStands view h floors) where
  pub at-asked_recently : (key : Key) (time : ℕ) (answer : Result (Option Value) QueryFault) → AnswersAtView held tells mark v view key time answer new
      → MatchBool (is_own mark (held.archive v) view) (SaysAt (view.reclaimed ≤ time) (answers.at_answer h floors key time) answer)
      (answer ≡ Err query.Stranger)
  at-asked_recently key time answer says =
      by-strange (is_own mark (held.archive v) view) says
    where
      by-strange : (b : Bool) → MatchBool b (FindsAt held tells v view key time answer new) ((answer ≡ Err query.Stranger) × (new ≡ v))
          → MatchBool b (SaysAt (view.reclaimed ≤ time) (answers.at_answer h floors key time) answer) (answer ≡ Err query.Stranger)
      by-strange true finds = at-found held (view.reclaimed ≤ time) tells v new view h floors key time answer of (λ sure. inr sure) finds
      by-strange false strange = strange.0

  pub scan_at-asked_recently : (relation time : ℕ) (answer : Result (Vec (ℕ × Value) Global) QueryFault)
      → AnswersScanAt held tells mark v view relation time answer new
      → MatchBool (is_own mark (held.archive v) view) (SaysScanAt (view.reclaimed ≤ time) h floors relation time answer) (answer ≡ Err query.Stranger)
  scan_at-asked_recently relation time answer says =
      by-strange (is_own mark (held.archive v) view) says
    where
      by-strange : (b : Bool) → MatchBool b (FindsScanAt held tells v view relation time answer new) ((answer ≡ Err query.Stranger) × (new ≡ v))
          → MatchBool b (SaysScanAt (view.reclaimed ≤ time) h floors relation time answer) (answer ≡ Err query.Stranger)
      by-strange true finds = scan_at-found held (view.reclaimed ≤ time) tells v new view h floors relation time answer of (λ sure. inr sure) finds
      by-strange false strange = strange.0

  pub between-asked_recently : (key : Key) (a b : ℕ) (answer : Result (Vec (Version Value) Global) QueryFault)
      → AnswersRows held tells mark v view key a b answer new
      → MatchBool (is_own mark (held.archive v) view) (SaysBetween (view.reclaimed ≤ a) h floors key a b answer) (answer ≡ Err query.Stranger)
  between-asked_recently key a b answer says =
      by-strange (is_own mark (held.archive v) view) says
    where
      by-strange : (own : Bool) → MatchBool own (FindsRows held tells v view key a b answer new) ((answer ≡ Err query.Stranger) × (new ≡ v))
          → MatchBool own (SaysBetween (view.reclaimed ≤ a) h floors key a b answer) (answer ≡ Err query.Stranger)
      by-strange true finds = between-found held (view.reclaimed ≤ a) tells v new view h floors key a b answer of (λ sure. inr sure) finds
      by-strange false strange = strange.0

  pub scan_between-asked_recently : (relation a b : ℕ) (answer : Result (Vec (ℕ × Version Value) Global) QueryFault)
      → AnswersScanRows held tells mark v view relation a b answer new
      → MatchBool (is_own mark (held.archive v) view) (SaysScanBetween (view.reclaimed ≤ a) h floors relation a b answer) (answer ≡ Err query.Stranger)
  scan_between-asked_recently relation a b answer says =
      by-strange (is_own mark (held.archive v) view) says
    where
      by-strange : (own : Bool) → MatchBool own (FindsScanRows held tells v view relation a b answer new) ((answer ≡ Err query.Stranger) × (new ≡ v))
          → MatchBool own (SaysScanBetween (view.reclaimed ≤ a) h floors relation a b answer) (answer ≡ Err query.Stranger)
      by-strange true finds = scan_between-found held (view.reclaimed ≤ a) tells v new view h floors relation a b answer of (λ sure. inr sure) finds
      by-strange false strange = strange.0

-- Views and labels are answered after a stop as before it.
use Rattle.std.specs.Prelude.{ℕ, ◌≡◌, ◌≤◌, ◌++◌, Bool, IsTrue, List, Option, Result, Ok, MatchOption, MatchResult}
use Rattle.std.specs.declared.alloc.Global.{Global}
use Rattle.std.specs.declared.vec.Vec.{Vec}
use Rattle.disk.specs.Calls.{DiskState}
use Rattle.history.specs.declared.key.Key.{Key}
use Rattle.history.specs.declared.time.Version.{Version}
use Rattle.history.specs.Answers.{at_answer}
use Rattle.history.specs.Floors.{covers}
use Rattle.history.specs.Fronts.{OnFront}
use Rattle.history.specs.Histories.{History, last}
use Rattle.history.specs.Machine.{Machine}
use Rattle.history.specs.Time.{value_at}
use Rattle.law_image.specs.Values.{Value}
use Rattle.chains.specs.KeyWrites.{writes_of}
use Rattle.timequery.specs.View.{ViewValue, AnswersAt, RefusesRecent}
use Rattle.timequery.specs.declared.fault.QueryFault.{QueryFault}
use Rattle.log_store.specs.Values.{LogStoreValue, IsInStep}
use Rattle.log_store.specs.Names.{AnswersTimes}
use Rattle.log_store.specs.Queries.{IsViewOf, AnswersAtView, AnswersScanAt, AnswersRows, AnswersScanRows}
use Rattle.law_refinement.specs.Homes.{IsSure}
use Rattle.law_refinement.specs.Laws.{SaysAt, SaysScanAt, SaysBetween, SaysScanBetween}
use Rattle.law_refinement.specs.Views.{SaysRecent}
use Rattle.law_log_queries.specs.Archive.{Stands, GoesOn}
use Rattle.law_log_opened.specs.Laws.{OpensAgain}

-- ---- queries

-- what a view answers from memory alone, as its own clause says
abbrev pub AnswersRecent : ViewValue → Key → ℕ → Result (Option Value) QueryFault → Type 0
AnswersRecent view key time answer =
    MatchResult answer (λ found. (view.reclaimed ≤ time)
    × AnswersAt view key.relation time found (value_at (writes_of view.state key) time)) (RefusesRecent view key.relation time)

-- Every view that is taken of the store now is answered by this history, also when it is asked later, as long as the store goes on.
pub record AnswersBy (tells : Bool) (v : LogStoreValue) (h : History Value) (floors : ℕ → ℕ) : Type 0 where
  pub at : (view : ViewValue) (asked new : LogStoreValue) (later : Machine Value) (key : Key) (time : ℕ) (answer : Result (Option Value) QueryFault)
      → IsViewOf v view → Stands tells asked later → GoesOn tells v asked → AnswersAtView tells asked view key time answer new
      → SaysAt (IsSure tells view.reclaimed time) (at_answer h floors key time) answer
  pub scan_at : (view : ViewValue) (asked new : LogStoreValue) (later : Machine Value) (relation time : ℕ)
      (answer : Result (Vec (ℕ × Value) Global) QueryFault)
      → IsViewOf v view → Stands tells asked later → GoesOn tells v asked → AnswersScanAt tells asked view relation time answer new
      → SaysScanAt (IsSure tells view.reclaimed time) h floors relation time answer
  pub recent : (view : ViewValue) (key : Key) (time : ℕ) (answer : Result (Option Value) QueryFault) → IsViewOf v view → AnswersRecent view key time answer
      → SaysRecent view time (at_answer h floors key time) answer
  pub between : (view : ViewValue) (asked new : LogStoreValue) (later : Machine Value) (key : Key) (a b : ℕ)
      (answer : Result (Vec (Version Value) Global) QueryFault)
      → IsViewOf v view → Stands tells asked later → GoesOn tells v asked → AnswersRows tells asked view key a b answer new
      → SaysBetween (IsSure tells view.reclaimed a) h floors key a b answer
  pub scan_between : (view : ViewValue) (asked new : LogStoreValue) (later : Machine Value) (relation a b : ℕ)
      (answer : Result (Vec (ℕ × Version Value) Global) QueryFault)
      → IsViewOf v view → Stands tells asked later → GoesOn tells v asked → AnswersScanRows tells asked view relation a b answer new
      → SaysScanBetween (IsSure tells view.reclaimed a) h floors relation a b answer

-- a store that stands for a machine answers by what that has published
abbrev pub StandsAnswers : Type 0
StandsAnswers = (tells : Bool) (v : LogStoreValue) (m : Machine Value) → Stands tells v m → AnswersBy tells v m.published m.floors

-- once it is opened again, all its views are answered by one front of the commit order
abbrev pub KeptAnswers : Type 0
KeptAnswers = (tells : Bool) (v : LogStoreValue) (m : Machine Value) (disk : DiskState) (mark : ℕ) (again : LogStoreValue)
    → IsInStep v → Stands tells v m → IsTrue tells → OpensAgain tells v disk mark again → OnFront (AnswersBy tells again) m

-- the floor in the making, if it covers the relation, keeps the time
abbrev pub IsKeptThen : Machine Value → ℕ → ℕ → Type 0
IsKeptThen m relation time = MatchOption m.raising (Unit {0}) (λ r. IsTrue (covers r.scope relation) → r.floor ≤ time)

-- and up to the last time that was published they are answered as before, but for what a floor in the making does not keep
abbrev pub AnswersStay : Type 0
AnswersStay =
    (tells : Bool) (v : LogStoreValue) (m : Machine Value) (disk : DiskState) (mark : ℕ) (again asked new : LogStoreValue) (later : Machine Value)
    (view : ViewValue) (key : Key) (time : ℕ) (answer : Result (Option Value) QueryFault)
    → IsInStep v → Stands tells v m → IsTrue tells → OpensAgain tells v disk mark again → IsViewOf again view → Stands tells asked later
    → GoesOn tells again asked → AnswersAtView tells asked view key time answer new
    → time ≤ last m.published → IsKeptThen m key.relation time → SaysAt (IsSure tells view.reclaimed time) (at_answer m.published m.floors key time) answer

-- ---- labels

-- The times of a label that were told before the stop are told after it, with at most later ones behind them.
abbrev pub LabelsStay : Type 0
LabelsStay =
    (tells : Bool) (v asked : LogStoreValue) (m : Machine Value) (disk : DiskState) (mark : ℕ) (again new : LogStoreValue) (label : ℕ)
    (before after : Vec ℕ Global)
    → IsInStep v → Stands tells v m → IsTrue tells → OpensAgain tells v disk mark again → AnswersTimes tells v label (Ok before) asked
    → AnswersTimes tells again label (Ok after) new → (more : List ℕ) × (after.items ≡ before.items ++ more)

-- What queries read: the versions that are kept, the floors and the last time, as they were at one moment.
use Rattle.std.specs.Prelude.{ℕ, ◌≡◌, List, Option, Result}
use Rattle.history.specs.declared.key.Key.{Key}
use Rattle.history.specs.declared.time.Version.{Version}
use Rattle.history.specs.Versions.{standing_at, rows}
use Rattle.history.specs.Histories.{History, last}
use Rattle.history.specs.Queries.{IsScan, IsScanOfRows}
use Rattle.history.specs.Homes.{AreAtHome, kept_of}
use Rattle.history.specs.Answers.{QueryRefusal, time_refusal, interval_refusal, unless_refused, IsScanAnswer}

-- the last time, the floors, the marks, and the versions in both homes, as they were at one moment
pub record View (V : Type 0) : Type 0 where
  -- the time of the last commit
  pub newest : ℕ
  pub floors : ℕ → ℕ
  -- the archive mark and the reclaim mark
  pub archived : ℕ
  pub reclaimed : ℕ
  -- the versions of each key in the heap and in the archive
  pub heap : Key → List (Version V)
  pub archive : Key → List (Version V)

-- It stands for a history with its floors.
-- Then its answers are those of the history, from the reclaim mark on by the heap alone (the law view_answers).
pub record IsViewOf {V : Type 0} (view : View V) (h : History V) : Type 0 where
  pub newest_is : view.newest ≡ last h
  pub homes : AreAtHome h view.floors view.archived view.reclaimed view.heap view.archive

-- the versions of a key that the view keeps, from both homes and oldest first
abbrev pub kept_in : {V : Type 0} → View V → Key → List (Version V)
kept_in view key = kept_of (view.floors key.relation) view.archived (view.heap key) (view.archive key)

-- ---- what is found in it (the laws ViewAnswersAt and ViewAnswersBetween: as the history answers)

-- the value of a key at a time
abbrev pub at_view : {V : Type 0} → View V → Key → ℕ → Result (Option V) QueryRefusal
at_view view key time = unless_refused (time_refusal view.newest (view.floors key.relation) time) (standing_at (kept_in view key) time)

-- the rows of a key from a to b
abbrev pub between_view : {V : Type 0} → View V → Key → ℕ → ℕ → Result (List (Version V)) QueryRefusal
between_view view key a b = unless_refused (interval_refusal view.newest (view.floors key.relation) a b) (rows (kept_in view key) a b)

-- the same from the heap alone, at times from the reclaim mark on
abbrev pub recent_at : {V : Type 0} → View V → Key → ℕ → Result (Option V) QueryRefusal
recent_at view key time = unless_refused (time_refusal view.newest (view.floors key.relation) time) (standing_at (view.heap key) time)

-- the rows of a key from a to b, found in the heap alone
abbrev pub recent_between : {V : Type 0} → View V → Key → ℕ → ℕ → Result (List (Version V)) QueryRefusal
recent_between view key a b = unless_refused (interval_refusal view.newest (view.floors key.relation) a b) (rows (view.heap key) a b)

-- ---- scans (the laws ViewScansAt and ViewScansBetween)

-- the values of a relation at a time
abbrev pub IsScanAtView : {V : Type 0} → View V → ℕ → ℕ → Result (List (ℕ × V)) QueryRefusal → Type 0
IsScanAtView view relation time answer =
    IsScanAnswer (time_refusal view.newest (view.floors relation) time) (IsScan (λ key. standing_at (kept_in view key) time) relation) answer

-- the rows of a relation from a to b
abbrev pub IsScanBetweenView : {V : Type 0} → View V → ℕ → ℕ → ℕ → Result (List (ℕ × Version V)) QueryRefusal → Type 0
IsScanBetweenView view relation a b answer =
    IsScanAnswer (interval_refusal view.newest (view.floors relation) a b) (IsScanOfRows (λ key. rows (kept_in view key) a b) relation) answer

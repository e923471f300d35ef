-- The runs of a store's archive, what views need of them, and what stays of them while the store goes on.
use Rattle.std.specs.Prelude.{ℕ, ◌≡◌, ◌+◌, ◌≤◌, ◌⊎◌, ◌++◌, ◌∷◌, [], Bool, true, IsTrue, List, length, filter, MatchOption}
use Rattle.disk.specs.Parts.{HoldsPart}
use Rattle.history.specs.declared.key.Key.{Key}
use Rattle.history.specs.Versions.{ends_after, ends_by}
use Rattle.history.specs.Histories.{History, last, versions_of, IsHistory}
use Rattle.history.specs.Machine.{Machine}
use Rattle.law_image.specs.Values.{Value, IsValue}
use Rattle.law_image.specs.Reading.{ArchiveRecord}
use Rattle.floors.specs.Floors.{floor_at}
use Rattle.archive.specs.declared.run.RunEntry.{RunEntry}
use Rattle.archive.specs.Answers.{versions_in}
use Rattle.archive.specs.Parts.{IsRight, EndBy}
use Rattle.archive.specs.Runs.{HoldRuns, RunsEndBy}
use Rattle.archive.specs.Searches.{archive_of}
use Rattle.timequery.specs.View.{ViewValue, mark_of}
use Rattle.store.specs.Calls.{is_front}
use Rattle.store.specs.Values.{StoreValue}
use Rattle.store.specs.declared.job.JobWork.{JobWork}
use Rattle.store.specs.declared.job.JobWork.TheVariants.{Archive, Reclaim, Floor, Grow}
use Rattle.law_refinement.specs.Standing.{HasWrites}

-- ---- the store's runs

-- runs of these records have, of the versions that end after the floor, those that ended by a mark
abbrev pub AreArchived : History Value → (ℕ → ℕ) → ℕ → List (List ArchiveRecord) → Type 0
AreArchived h floors mark lists =
    (key : Key) → filter (ends_after (floors key.relation)) (versions_in key lists)
    ≡ filter (ends_after (floors key.relation)) (filter (ends_by mark) (versions_of h key))

-- The run that a job makes has its place behind the others. A reclaim goes no further than the archive does.
abbrev pub HasPlace : JobWork → StoreValue → Machine Value → Type 0
HasPlace (Archive run writer) v m =
    (entry : RunEntry) × (entry.slot ≡ run) × (entry.mark ≡ v.archived) × ((relation : ℕ) → floor_at entry.floors relation ≤ m.floors relation)
    × (v.archive.next ≡ v.archive.runs ++ entry ∷ [])
HasPlace (Reclaim anchors source written) v m = anchors.upto ≤ v.archived
HasPlace (Floor scope floor floors) v m = Unit {0}
HasPlace (Grow growth) v m = Unit {0}

-- so it is of the job that runs, if there is one
abbrev pub JobHasPlace : StoreValue → Machine Value → Type 0
JobHasPlace v m = MatchOption v.job (Unit {0}) (λ job. HasPlace job.work v m)

-- The archive's bytes hold the runs of the store, and those have what the published history says. What the reader keeps of them is right.
pub record RunsStand (v : StoreValue) (m : Machine Value) : Type 0 where
  pub lists : List (List ArchiveRecord)
  pub held : HoldRuns (archive_of v.disk) v.archive.runs lists
  pub ends : RunsEndBy v.runs_end v.archive.runs
  pub mark : mark_of v.archive.runs ≡ v.archived
  pub marks : v.transactions.reclaimed ≤ v.archived
  pub by_last : v.archived ≤ last m.published
  pub archived : AreArchived m.published m.floors v.archived lists
  pub right : IsRight v.archive.kept (archive_of v.disk)
  pub near : EndBy v.runs_end v.archive.kept

-- ---- views

-- What a view has of a history by itself: its memory has what the history says, from its reclaim mark on.
pub record ViewStands (view : ViewValue) (h : History Value) (floors : ℕ → ℕ) : Type 0 where
  pub last_is : view.last ≡ last h
  pub floor_is : (relation : ℕ) → floor_at view.floors relation ≡ floors relation
  pub history : IsHistory IsValue h
  pub memory : HasWrites floors view.reclaimed view.state h

-- the archive's bytes hold the view's runs, and those have what the history says
pub record RunsOfView (v : StoreValue) (view : ViewValue) (h : History Value) (floors : ℕ → ℕ) : Type 0 where
  pub lists : List (List ArchiveRecord)
  pub held : HoldRuns (archive_of v.disk) view.runs lists
  pub ends : RunsEndBy v.runs_end view.runs
  pub marks : view.reclaimed ≤ mark_of view.runs
  pub archived : AreArchived h floors (mark_of view.runs) lists

-- What a view needs of its store: that it is its own, and where the disk tells its bytes that they hold its runs.
pub record ViewReads (tells : Bool) (v : StoreValue) (view : ViewValue) (h : History Value) (floors : ℕ → ℕ) : Type 0 where
  pub mark : view.mark ≡ v.transactions.mark
  pub front : is_front view.runs v.archive.runs ≡ true
  pub runs : IsTrue tells → RunsOfView v view h floors

-- What is found from a time on is known: the disk tells its bytes, or memory has all that stands from then on.
abbrev pub IsSure : Bool → ℕ → ℕ → Type 0
IsSure tells reclaimed time = IsTrue tells ⊎ (reclaimed ≤ time)

-- ---- what stays

-- what stands in these bytes up to a place stands there still
abbrev pub KeepsUpTo : ℕ → List ℕ → List ℕ → Type 0
KeepsUpTo end old new = (at : ℕ) (part : List ℕ) → at + length part ≤ end → HoldsPart at part old → HoldsPart at part new

-- The store has gone on: its views are its own still, and no byte of its runs is written.
pub record GoesOn (tells : Bool) (old new : StoreValue) : Type 0 where
  pub mark : new.transactions.mark ≡ old.transactions.mark
  pub more : List RunEntry
  pub runs : new.archive.runs ≡ old.archive.runs ++ more
  pub end : IsTrue tells → old.runs_end ≤ new.runs_end
  pub bytes : IsTrue tells → KeepsUpTo old.runs_end (archive_of old.disk) (archive_of new.disk)

-- The archive of a store whose log lies in the heap, what its views need of it, and what stays of it while the store goes on.
use Rattle.std.specs.Prelude.{ℕ, ◌≡◌, ◌+◌, ◌<◌, ◌≤◌, max, Bool, true, IsTrue, List, [], ◌∷◌, ◌++◌, map, Option, None, Some}
use Rattle.std.specs.List.{AllByRecursion}
use Rattle.history.specs.Histories.{History, last}
use Rattle.history.specs.Machine.{Machine}
use Rattle.law_image.specs.Values.{Value}
use Rattle.law_image.specs.Reading.{ArchiveRecord, Head}
use Rattle.law_image.specs.StandsFor.{head_of}
use Rattle.archive.specs.declared.run.RunEntry.{RunEntry}
use Rattle.archive.specs.Parts.{IsRight, EndBy}
use Rattle.archive.specs.Runs.{HoldRuns, run_end}
use Rattle.archive.specs.Searches.{archive_of}
use Rattle.timequery.specs.Archives.{is_front}
use Rattle.timequery.specs.View.{ViewValue, mark_of}
use Rattle.floors.specs.Floors.{no_floors}
use Rattle.log_entries.specs.declared.entry.Archive.{Archive}
use Rattle.log_entries.specs.Ranges.{run_of}
use Rattle.log_base.specs.Rolls.{InRoll}
use Rattle.law_log_layout.specs.HeapLog.{PlacedRoll}
use Rattle.log_store.specs.Named.{NamedValue}
use Rattle.log_store.specs.Names.{NamesLie, names_mark}
use Rattle.log_store.specs.Values.{LogStoreValue, ReclaimValue}
use Rattle.log_store.specs.declared.job.Job.{Job}
use Rattle.log_store.specs.declared.job.JobWork.{JobWork}
use Rattle.log_store.specs.declared.job.JobWork.TheVariants.{Floor}
use Rattle.log_store.specs.declared.job.JobWork.TheVariants as works
use Rattle.log_store.specs.declared.reclaim.ReclaimStage.{ReclaimStage}
use Rattle.log_store.specs.declared.reclaim.ReclaimStage.TheVariants.{Writing, Rolling, Turning}
use Rattle.law_refinement.specs.Homes.{AreArchived, KeepsUpTo}
use Rattle.law_log_steps.specs.Store.{IsStoreOf}

-- no run reaches further
abbrev pub end_of : List RunEntry → ℕ
end_of [] = 0
end_of (run ∷ runs) = max (run_end run) (end_of runs)

-- The run that a job makes has its place behind all that the log has named, and takes the place of none.
pub record RunHasPlace (named : NamedValue) (runs next : List RunEntry) (a : Archive) : Type 0 where
  pub entry : RunEntry
  pub slot : entry.slot ≡ run_of a
  pub mark : entry.mark ≡ named.upto
  pub floors : entry.floors ≡ no_floors
  pub next_is : next ≡ runs ++ entry ∷ []
  pub alone : a.runs ≡ 0
  pub behind : named.end ≤ a.start

-- so it is of the job that runs, if there is one
abbrev pub HasPlace : NamedValue → List RunEntry → List RunEntry → JobWork → Type 0
HasPlace named runs next (Floor floor kept) = Unit {0}
HasPlace named runs next (works.Archive a archives) = RunHasPlace named runs next a

abbrev pub JobHasPlace : NamedValue → List RunEntry → List RunEntry → Option Job → Type 0
JobHasPlace named runs next None = Unit {0}
JobHasPlace named runs next (Some job) = HasPlace named runs next job.work

-- the roll of a reclaim that waits, and the one in the writing, go behind a place
abbrev pub WaitsBehind : ℕ → Option InRoll → Type 0
WaitsBehind end None = Unit {0}
WaitsBehind end (Some roll) = end ≤ roll.at

abbrev pub GoesBehind : ℕ → ReclaimStage → Type 0
GoesBehind end (Writing anchors base) = Unit {0}
GoesBehind end (Rolling roll) = end ≤ roll.at
GoesBehind end (Turning t) = Unit {0}

-- A reclaim runs beside no job. Its roll goes behind all that the log has named, and what the log then names ends no earlier.
pub record BaseHasPlace (job : Option Job) (end : ℕ) (r : ReclaimValue) : Type 0 where
  pub alone : job ≡ None
  pub waits : WaitsBehind end r.roll
  pub goes : GoesBehind end r.stage
  pub named : end ≤ r.named.end

abbrev pub ReclaimHasPlace : Option Job → ℕ → Option ReclaimValue → Type 0
ReclaimHasPlace job end None = Unit {0}
ReclaimHasPlace job end (Some r) = BaseHasPlace job end r

abbrev pub IsPlaced : LogStoreValue → Type 0
IsPlaced v = JobHasPlace v.named v.archive.runs v.archive.next v.job × ReclaimHasPlace v.job v.named.end v.reclaim

-- The archive's bytes hold the runs of the store, and those have what the history says. What the reader keeps of them is right.
pub record RunsStand (v : LogStoreValue) (h : History Value) (floors : ℕ → ℕ) : Type 0 where
  pub lists : List (List ArchiveRecord)
  pub held : HoldRuns (archive_of v.disk) v.archive.runs lists
  pub marks : v.commits.reclaimed ≤ mark_of v.archive.runs
  pub by_last : mark_of v.archive.runs ≤ last h
  pub archived : AreArchived h floors (mark_of v.archive.runs) lists
  pub right : IsRight v.archive.kept (archive_of v.disk)
  pub near : EndBy (end_of v.archive.runs) v.archive.kept
  -- they are what the log names
  pub ends : end_of v.archive.runs ≤ v.named.end
  pub named : mark_of v.archive.runs ≡ v.named.upto

-- The archive's bytes hold the rolls that the log names, and these have the names of the history's commits up to the reclaim mark.
pub record NamesStand (v : LogStoreValue) (h : History Value) : Type 0 where
  pub rolls : List PlacedRoll
  pub names : List Head
  pub lie : NamesLie v (archive_of v.disk) rolls names
  -- they lie before all that the log will yet name
  pub ends : AllByRecursion (λ (r : PlacedRoll). r.roll.start + r.roll.len ≤ v.named.end) rolls
  -- the other commits are later
  pub others : List Head
  pub are : map head_of h ≡ names ++ others
  pub late : AllByRecursion (λ (head : Head). names_mark v < head.time) others
  pub by_last : names_mark v ≤ last h

-- Memory, disk and archive stand for one state of the machine. Of the archive it is said where the disk tells its bytes.
pub record Stands (tells : Bool) (v : LogStoreValue) (m : Machine Value) : Type 0 where
  pub store : IsStoreOf tells v m
  pub place : IsPlaced v
  pub runs : IsTrue tells → RunsStand v m.published m.floors
  pub names : IsTrue tells → NamesStand v m.published

-- ---- views

-- the archive's bytes hold the view's runs, and those have what the history says
pub record RunsOfView (v : LogStoreValue) (view : ViewValue) (h : History Value) (floors : ℕ → ℕ) : Type 0 where
  pub lists : List (List ArchiveRecord)
  pub held : HoldRuns (archive_of v.disk) view.runs lists
  pub marks : view.reclaimed ≤ mark_of view.runs
  pub archived : AreArchived h floors (mark_of view.runs) lists

-- What a view needs of its store: that it is its own, and where the disk tells its bytes that they hold its runs.
pub record ViewReads (tells : Bool) (v : LogStoreValue) (view : ViewValue) (h : History Value) (floors : ℕ → ℕ) : Type 0 where
  pub mark : view.mark ≡ v.commits.mark
  pub front : is_front view.runs v.archive.runs ≡ true
  pub runs : IsTrue tells → RunsOfView v view h floors

-- The store has gone on: its views are its own still, and no byte of its runs is written.
pub record GoesOn (tells : Bool) (old new : LogStoreValue) : Type 0 where
  pub mark : new.commits.mark ≡ old.commits.mark
  pub more : List RunEntry
  pub runs : new.archive.runs ≡ old.archive.runs ++ more
  pub bytes : IsTrue tells → KeepsUpTo (end_of old.archive.runs) (archive_of old.disk) (archive_of new.disk)

-- What is known of a store's archive: enough for the views that were taken.
use Rattle.std.specs.Prelude.{ℕ, ◌≡◌, ◌≤◌, ◌++◌, Bool, true, IsTrue, List, []}
use Rattle.archive.specs.declared.run.RunEntry.{RunEntry}
use Rattle.archive.specs.Runs.{HoldRuns, RunsEndBy}
use Rattle.archive.specs.Searches.{archive_of}
use Rattle.law_image.specs.Reading.{ArchiveRecord}
use Rattle.law_image.specs.Values.{Value}
use Rattle.history.specs.Histories.{History}
use Rattle.timequery.specs.Archives.{is_front}
use Rattle.timequery.specs.View.{ViewValue, mark_of}
use Rattle.any_store.specs.declared.engine.Engine.TheVariants.{Slots, Log}
use Rattle.any_store.specs.Values.{StoreValue, disk_of}
use Rattle.any_store.specs.Values as stores
use Rattle.law_refinement.specs.Homes.{AreArchived, KeepsUpTo}
use Rattle.law_log_queries.specs.Archive.{end_of}

-- whether the disk tells its bytes, the runs, where the last of them ends, and the bytes
pub record ArchiveSeen : Type 0 where
  pub tells : Bool
  pub runs : List RunEntry
  pub end : ℕ
  pub bytes : List ℕ

-- of no store anything is known
abbrev pub no_archive : ArchiveSeen
no_archive = record { tells = true; runs = []; end = 0; bytes = [] }

-- where the last of a store's runs ends
abbrev pub runs_end_of : StoreValue → ℕ
runs_end_of (Slots s) = s.runs_end
runs_end_of (Log l) = end_of l.archive.runs

-- that of a store
abbrev pub archive_seen : Bool → StoreValue → ArchiveSeen
archive_seen tells v = record { tells = tells; runs = (stores.archive_of v).runs; end = runs_end_of v; bytes = archive_of (disk_of v) }

-- runs were added, and what stood of the others stands
pub record IsArchiveLater (old new : ArchiveSeen) : Type 0 where
  pub tells : IsTrue new.tells → IsTrue old.tells
  pub more : List RunEntry
  pub runs : new.runs ≡ old.runs ++ more
  pub end : IsTrue new.tells → old.end ≤ new.end
  pub bytes : IsTrue new.tells → KeepsUpTo old.end old.bytes new.bytes

-- the archive's bytes hold a view's runs, and those have what a history says
pub record HoldsView (a : ArchiveSeen) (view : ViewValue) (h : History Value) (floors : ℕ → ℕ) : Type 0 where
  pub lists : List (List ArchiveRecord)
  pub held : HoldRuns a.bytes view.runs lists
  pub ends : RunsEndBy a.end view.runs
  pub marks : view.reclaimed ≤ mark_of view.runs
  pub archived : AreArchived h floors (mark_of view.runs) lists

-- what a view reads there
pub record ReadsArchive (a : ArchiveSeen) (view : ViewValue) (h : History Value) (floors : ℕ → ℕ) : Type 0 where
  pub front : is_front view.runs a.runs ≡ true
  pub runs : IsTrue a.tells → HoldsView a view h floors

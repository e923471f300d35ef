-- What a view answers from memory and from the archive together.
use Rattle.std.specs.Prelude.{ℕ, ◌≡◌, ◌<◌, ◌≤◌, ◌+◌, ◌++◌, ◌∷◌, [], nat_lt, List, map, filter, Bool, IsTrue, Option, None, Some, Result, MatchResult}
use Rattle.std.specs.Prelude.{if◌then◌else◌}
use Rattle.std.specs.List.Sorted.{IsNonDecreasingBy}
use Rattle.disk.specs.Calls.{DiskState}
use Rattle.history.specs.declared.key.Key.{Key}
use Rattle.history.specs.declared.time.Version.{Version}
use Rattle.history.specs.Key.{key_of}
use Rattle.history.specs.Time.{value_at}
use Rattle.history.specs.Versions.{versions, rows, ends_after}
use Rattle.history.specs.Histories.{History, IsHistory}
use Rattle.history.specs.Views.{View, IsViewOf}
use Rattle.law_image.specs.Values.{Value, IsValue}
use Rattle.law_image.specs.Reading.{ArchiveRecord}
use Rattle.chains.specs.KeyWrites.{writes_of}
use Rattle.chains.specs.Rows.{rows_in, scanned_rows}
use Rattle.chains.specs.Scans.{scanned}
use Rattle.floors.specs.Floors.{floor_at}
use Rattle.archive.specs.declared.run.RunEntry.{RunEntry}
use Rattle.archive.specs.declared.fault.ArchiveFault.TheVariants as archive
use Rattle.archive.specs.Answers.{versions_in, rows_of}
use Rattle.archive.specs.Parts.{IsRight}
use Rattle.archive.specs.Runs.{HoldRuns}
use Rattle.archive.specs.Searches.{archive_of, IsFaultIn}
use Rattle.archive.specs.Traces.{IsFound, IsOfRuns, AreRowsOf, AreScanRowsOf}
use Rattle.timequery.specs.View.{ViewValue, mark_of, RefusesTime, RefusesBounds, IsInView}
use Rattle.timequery.specs.declared.fault.QueryFault.{QueryFault}
use Rattle.timequery.specs.declared.fault.QueryFault.TheVariants.{BeforeKept, NotYet, EmptyInterval, Device, NoMemory, Damaged, NeedsDisk, Stranger}

-- ---- both homes

-- what a view reads, where its runs are of these records
abbrev pub view_of : ViewValue → List (List ArchiveRecord) → View Value
view_of v lists = record {
  newest = v.last;
  floors = floor_at v.floors;
  archived = mark_of v.runs;
  reclaimed = v.reclaimed;
  heap = λ key. versions (writes_of v.state key);
  archive = λ key. versions_in key lists;
}

-- The disk tells its bytes, what the reader keeps is right, the archive holds the view's runs, and the view stands for this history.
pub record ReadsHistory (tells : Bool) (kept : List (ℕ × List ℕ)) (state : DiskState) (v : ViewValue) (h : History Value) : Type 0 where
  pub told : IsTrue tells
  pub right : IsRight kept (archive_of state)
  pub lists : List (List ArchiveRecord)
  pub held : HoldRuns (archive_of state) v.runs lists
  pub history : IsHistory IsValue h
  pub view : IsViewOf (view_of v lists) h

-- the rows from a to b of the versions that end after a mark
abbrev pub rows_after : ℕ → ℕ → ℕ → List (Version Value) → List (Version Value)
rows_after mark a b vs = rows (filter (ends_after mark) vs) a b

-- what memory adds to the rows of a key that the runs have
abbrev pub recent_rows : ViewValue → ℕ → ℕ → Key → List (Version Value)
recent_rows v a b key = rows_after (mark_of v.runs) a b (versions (writes_of v.state key))

-- ---- refusals

-- no run is damaged
abbrev pub IsUndamaged : QueryFault → Type 0
IsUndamaged (Damaged start) = ⊥
IsUndamaged fault = Unit {0}

-- an answer of this kind, or a refusal other than that of a damaged run
abbrev pub Answers : {T : Type 0} → Result T QueryFault → (T → Type 0) → Type 0
Answers result P = MatchResult result P IsUndamaged

-- this of the start, where the fault is that a run is damaged
abbrev pub IfDamaged : (ℕ → Type 0) → QueryFault → Type 0
IfDamaged P (Damaged start) = P start
IfDamaged P fault = Unit {0}

-- what a look into these runs is refused with: one is damaged only where it goes beyond the time
abbrev pub RefusesRuns : ℕ → List RunEntry → QueryFault → Type 0
RefusesRuns time runs Device = Unit {0}
RefusesRuns time runs NoMemory = Unit {0}
RefusesRuns time runs (Damaged start) = IsFaultIn time runs (archive.Damaged start)
RefusesRuns time runs (BeforeKept floor) = ⊥
RefusesRuns time runs (NotYet last) = ⊥
RefusesRuns time runs EmptyInterval = ⊥
RefusesRuns time runs NeedsDisk = ⊥
RefusesRuns time runs Stranger = ⊥

-- a time is refused with this fault: where it is kept by the disk alone, or by a run, below the reclaim mark, or for want of memory
abbrev pub RefusesAt : ViewValue → ℕ → ℕ → QueryFault → Type 0
RefusesAt v relation time Device = (floor_at v.floors relation ≤ time) × (time ≤ v.last) × (time < v.reclaimed)
RefusesAt v relation time (Damaged start) =
    (floor_at v.floors relation ≤ time) × (time ≤ v.last) × (time < v.reclaimed) × IsFaultIn time v.runs (archive.Damaged start)
RefusesAt v relation time NoMemory = (floor_at v.floors relation ≤ time) × (time ≤ v.last)
RefusesAt v relation time fault = RefusesTime v relation time fault

-- so is an interval
abbrev pub RefusesRows : ViewValue → ℕ → ℕ → ℕ → QueryFault → Type 0
RefusesRows v relation a b Device = IsInView v relation a b × (a < v.reclaimed)
RefusesRows v relation a b (Damaged start) = IsInView v relation a b × (a < v.reclaimed) × IsFaultIn a v.runs (archive.Damaged start)
RefusesRows v relation a b NoMemory = IsInView v relation a b
RefusesRows v relation a b fault = RefusesBounds v relation a b fault

-- ---- what is found, whatever the archive's bytes are

-- the value of a key: memory's, or that of the runs where memory has none and lacks versions
pub data IsValueFound (area : List ℕ) (v : ViewValue) (key : Key) (time : ℕ) (answer : Option Value) : Type 0 where
  InMemory : (value : Value) → value_at (writes_of v.state key) time ≡ Some value → answer ≡ Some value → IsValueFound area v key time answer
  Nowhere : v.reclaimed ≤ time → value_at (writes_of v.state key) time ≡ None → answer ≡ None → IsValueFound area v key time answer
  InRuns : time < v.reclaimed → value_at (writes_of v.state key) time ≡ None → IsFound area v.runs key time answer → IsValueFound area v key time answer

-- the rows of a key: memory's alone, or those of the runs and behind them what memory adds
pub data AreRowsFound (area : List ℕ) (v : ViewValue) (key : Key) (a b : ℕ) (answer : List (Version Value)) : Type 0 where
  RowsOfMemory : v.reclaimed ≤ a → answer ≡ rows_in v.state a b key → AreRowsFound area v key a b answer
  RowsOfBoth : a < v.reclaimed → (archived : List (Version Value)) → IsOfRuns (AreRowsOf area key a b) a v.runs archived
      → answer ≡ archived ++ recent_rows v a b key → AreRowsFound area v key a b answer

-- by record, and of each record the rows of the runs and behind them what memory adds
pub record AreOfBoth (area : List ℕ) (v : ViewValue) (relation a b : ℕ) (answer : List (ℕ × Version Value)) : Type 0 where
  pub archived : List (ℕ × Version Value)
  pub of_runs : IsOfRuns (AreScanRowsOf area relation a b) a v.runs archived
  pub in_order : IsNonDecreasingBy (λ row. row.0) answer
  pub each : (number : ℕ) → rows_of number answer ≡ rows_of number archived ++ recent_rows v a b (key_of relation number)

-- the rows of a relation
pub data AreScanRowsFound (area : List ℕ) (v : ViewValue) (relation a b : ℕ) (answer : List (ℕ × Version Value)) : Type 0 where
  ScanOfMemory : v.reclaimed ≤ a → answer ≡ scanned_rows relation a b v.state → AreScanRowsFound area v relation a b answer
  ScanOfBoth : a < v.reclaimed → AreOfBoth area v relation a b answer → AreScanRowsFound area v relation a b answer

-- rows with their records, as records with the values of the rows
abbrev pub values_of : List (ℕ × Version Value) → List (ℕ × Value)
values_of found = map (λ p. (p.0, p.1.value)) found

-- the values of a relation: memory's alone, or those of the rows of the one time
pub data AreValuesFound (area : List ℕ) (v : ViewValue) (relation time : ℕ) (answer : List (ℕ × Value)) : Type 0 where
  ValuesOfMemory : v.reclaimed ≤ time → answer ≡ scanned relation time v.state → AreValuesFound area v relation time answer
  ValuesOfBoth : time < v.reclaimed → (found : List (ℕ × Version Value)) → AreOfBoth area v relation time (time + 1) found → answer ≡ values_of found
      → AreValuesFound area v relation time answer

-- ---- rows put together

-- the parts from a to b of the rows whose versions end after a mark, each with its record
abbrev pub scanned_after : ℕ → ℕ → ℕ → List (ℕ × Version Value) → List (ℕ × Version Value)
scanned_after mark a b [] = []
scanned_after mark a b (p ∷ ps) = map (λ row. (p.0, row)) (rows_after mark a b (p.1 ∷ [])) ++ scanned_after mark a b ps

-- the rows at the front whose record is lesser, and what is behind them
abbrev pub lesser : ℕ → List (ℕ × Version Value) → List (ℕ × Version Value)
lesser number [] = []
lesser number (p ∷ ps) = if nat_lt p.0 number then p ∷ lesser number ps else []

-- the rows behind those at the front whose record is lesser
abbrev pub not_lesser : ℕ → List (ℕ × Version Value) → List (ℕ × Version Value)
not_lesser number [] = []
not_lesser number (p ∷ ps) = if nat_lt p.0 number then not_lesser number ps else p ∷ ps

-- by record, where the second rows come behind the first of the same record
abbrev pub merged : List (ℕ × Version Value) → List (ℕ × Version Value) → List (ℕ × Version Value)
merged [] qs = qs
merged (p ∷ ps) qs = lesser p.0 qs ++ p ∷ merged ps (not_lesser p.0 qs)

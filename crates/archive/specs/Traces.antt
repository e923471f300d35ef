-- What a query has read of a run, whatever its bytes are.
-- Lists of what was read have what was read last at their front.
use Rattle.std.specs.Prelude.{◌≡◌, ◌≢◌, ◌⊎◌, ℕ, ◌+◌, ◌<◌, ◌≤◌, IsTrue, if◌then◌else◌, List, [], ◌∷◌, ◌++◌, length, slice_get, Option, Some, None, max, min}
use Rattle.history.specs.declared.key.Key.{Key}
use Rattle.history.specs.declared.time.Version.{Version}
use Rattle.history.specs.Versions.{cut}
use Rattle.law_image.specs.Values.{Value}
use Rattle.archive.specs.declared.run.RunEntry.{RunEntry}
use Rattle.archive.specs.declared.head.Head.{Head}
use Rattle.archive.specs.declared.head.Placed.{Placed}
use Rattle.archive.specs.declared.wanted.Wanted.{Wanted}
use Rattle.archive.specs.Answers.{precedes, follows, of_key, of_relation, is_wanted, skip_to, alone, with_record}
use Rattle.archive.specs.Damages.{entry_at, head_standing, placed_at, IsHeadSound, IsHeadBroken, IsValueAt, IsValueBroken}

-- the head of the n-th record as it stands
abbrev pub nth_head : List ℕ → RunEntry → ℕ → Head
nth_head area run n = head_standing area run (entry_at area run n)

-- what was read last, if anything was
abbrev pub last_of : List ℕ → RunEntry → List ℕ → Option Placed
last_of area run [] = None
last_of area run (n ∷ read) = Some (placed_at area run n)

-- ---- the search by halves

-- the heads that were read say that the records before this one precede
abbrev pub low_of : List ℕ → RunEntry → Key → ℕ → List ℕ → ℕ
low_of area run key time [] = 0
low_of area run key time (n ∷ read) = if precedes key time (nth_head area run n) then n + 1 else low_of area run key time read

-- they say that from this one on none does
abbrev pub high_of : List ℕ → RunEntry → Key → ℕ → List ℕ → ℕ
high_of area run key time [] = run.slot.records
high_of area run key time (n ∷ read) = if precedes key time (nth_head area run n) then high_of area run key time read else n

-- each head was sound beside the one before, and that of a record of which it was not yet known whether it precedes
abbrev pub IsSearch : List ℕ → RunEntry → Key → ℕ → List ℕ → Type 0
IsSearch area run key time [] = Unit {0}
IsSearch area run key time (n ∷ read) =
    IsHeadSound area run (last_of area run read) n
    × (low_of area run key time read ≤ n)
    × (n < high_of area run key time read)
    × IsSearch area run key time read

-- a search that has ended: how many of the first records precede
pub record IsSearched (area : List ℕ) (run : RunEntry) (key : Key) (time : ℕ) (read : List ℕ) (number : ℕ) : Type 0 where
  pub search : IsSearch area run key time read
  pub low : number ≡ low_of area run key time read
  pub high : number ≡ high_of area run key time read

-- a search that met a head which breaks a rule
pub record IsSearchBroken (area : List ℕ) (run : RunEntry) (key : Key) (time : ℕ) : Type 0 where
  pub read : List ℕ
  pub search : IsSearch area run key time read
  pub number : ℕ
  pub low : low_of area run key time read ≤ number
  pub high : number < high_of area run key time read
  pub broken : IsHeadBroken area run (last_of area run read) number

-- ---- one version

-- what a look for the version that stands at a time found in one run
pub data IsFoundIn (area : List ℕ) (run : RunEntry) (key : Key) (time : ℕ) (answer : Option Value) : Type 0 where
  -- every record precedes
  Past : (read : List ℕ) → IsSearched area run key time read run.slot.records → answer ≡ None → IsFoundIn area run key time answer
  -- the first that doesn't is of another key, or begins later
  Other : (read : List ℕ) (n : ℕ) → IsSearched area run key time read n → IsHeadSound area run (last_of area run read) n
      → ((nth_head area run n).key ≢ key) ⊎ (time < (nth_head area run n).from) → answer ≡ None → IsFoundIn area run key time answer
  -- it stands at the time, with this value
  Stands : (read : List ℕ) (n : ℕ) (value : Value) → IsSearched area run key time read n → IsHeadSound area run (last_of area run read) n
      → (nth_head area run n).key ≡ key → (nth_head area run n).from ≤ time → time < (nth_head area run n).to
      → IsValueAt area run n value → answer ≡ Some value → IsFoundIn area run key time answer

-- what it met that breaks a rule
pub data IsFindBroken (area : List ℕ) (run : RunEntry) (key : Key) (time : ℕ) : Type 0 where
  InSearch : IsSearchBroken area run key time → IsFindBroken area run key time
  AtHead : (read : List ℕ) (n : ℕ) → IsSearched area run key time read n → n < run.slot.records
      → IsHeadBroken area run (last_of area run read) n → IsFindBroken area run key time
  AtValue : (read : List ℕ) (n : ℕ) → IsSearched area run key time read n → IsHeadSound area run (last_of area run read) n
      → (nth_head area run n).key ≡ key → (nth_head area run n).from ≤ time
      → IsValueBroken area run n → IsFindBroken area run key time

-- the runs before this one that go beyond the time have no version that stands at it
abbrev pub NoneBefore : List ℕ → List RunEntry → Key → ℕ → ℕ → Type 0
NoneBefore area runs key time number =
    (n : ℕ) (run : RunEntry) → n < number → slice_get runs n ≡ Some run → time < run.slot.upto → IsFoundIn area run key time None

-- what a look through all runs found: no version, or that of the first run that has one
pub data IsFound (area : List ℕ) (runs : List RunEntry) (key : Key) (time : ℕ) (answer : Option Value) : Type 0 where
  Nowhere : NoneBefore area runs key time (length runs) → answer ≡ None → IsFound area runs key time answer
  InRun : (number : ℕ) (run : RunEntry) (value : Value) → NoneBefore area runs key time number → slice_get runs number ≡ Some run → time < run.slot.upto
      → IsFoundIn area run key time (Some value) → answer ≡ Some value → IsFound area runs key time answer

-- the run that begins here was read, and what was read last of it breaks a rule
pub record IsFindDamaged (area : List ℕ) (runs : List RunEntry) (key : Key) (time start : ℕ) : Type 0 where
  pub number : ℕ
  pub run : RunEntry
  pub before : NoneBefore area runs key time number
  pub at : slice_get runs number ≡ Some run
  pub beyond : time < run.slot.upto
  pub here : start ≡ run.slot.start
  pub broken : IsFindBroken area run key time

-- ---- rows

-- the version of the n-th record, of this value
abbrev pub version_at : List ℕ → RunEntry → ℕ → Value → Version Value
version_at area run n value = record { from = (nth_head area run n).from; to = (nth_head area run n).to; value = value }

-- one key, and an interval that some time lies in: then each version that is wanted has a part in it
abbrev pub IsOneKey : Wanted → Type 0
IsOneKey w = (w.first ≡ w.last) × (w.a < w.b)

-- the version has a part in the interval
abbrev pub HasPart : Wanted → Head → Type 0
HasPart w head = max head.from w.a < min head.to w.b

-- the n-th record's row, of the value that stands there: none where the version has no part in the interval, and then its value isn't read
abbrev pub GivesRow : {R : Type 0} → (ℕ → Version Value → R) → List ℕ → Wanted → RunEntry → ℕ → List R → Type 0
GivesRow shown area w run n row =
    ((min (nth_head area run n).to w.b ≤ max (nth_head area run n).from w.a) × (row ≡ []))
    ⊎ (HasPart w (nth_head area run n)
    × ((value : Value) × IsValueAt area run n value × (row ≡ shown (nth_head area run n).key.record (cut w.a w.b (version_at area run n value)) ∷ [])))

-- Where a walk goes on behind the n-th record, and what it has read last by then: at the next one, or where a search that knows of the n-th finds the first
-- record that it need not skip.
pub data GoesOn (area : List ℕ) (w : Wanted) (run : RunEntry) (n next : ℕ) (last : Option Placed) : Type 0 where
  Beside : skip_to w (nth_head area run n) ≡ None → next ≡ n + 1 → last ≡ Some (placed_at area run n) → GoesOn area w run n next last
  Skips : (key : Key) (read : List ℕ) → skip_to w (nth_head area run n) ≡ Some key → IsSearched area run key w.a (read ++ n ∷ []) next
      → last ≡ last_of area run (read ++ n ∷ []) → GoesOn area w run n next last

-- a search that knows of the n-th record met a head which breaks a rule
pub record IsSearchBrokenFrom (area : List ℕ) (run : RunEntry) (key : Key) (time n : ℕ) : Type 0 where
  pub broken : IsSearchBroken area run key time
  pub read : List ℕ
  pub from : broken.read ≡ read ++ n ∷ []

-- so did the search for where a walk goes on behind the n-th record
pub record IsSkipBroken (area : List ℕ) (w : Wanted) (run : RunEntry) (n : ℕ) : Type 0 where
  pub key : Key
  pub skips : skip_to w (nth_head area run n) ≡ Some key
  pub broken : IsSearchBrokenFrom area run key w.a n

-- where a walk stands that has met these records, the last one in front, and what it has read last: at first behind the search that it begins with
abbrev pub StandsAt : {R : Type 0} → List ℕ → Wanted → RunEntry → List ℕ → ℕ → List (ℕ × List R) → ℕ → Option Placed → Type 0
StandsAt area w run read first [] n last = (n ≡ first) × (last ≡ last_of area run read)
StandsAt area w run read first (met ∷ before) n last = GoesOn area w run met.0 n last

-- each head was sound beside what was read before it and wanted, and the record gives this row
abbrev pub IsWalk : {R : Type 0} → (ℕ → Version Value → R) → List ℕ → Wanted → RunEntry → List ℕ → ℕ → List (ℕ × List R) → Type 0
IsWalk shown area w run read first [] = Unit {0}
IsWalk shown area w run read first (met ∷ before) =
    ((last : Option Placed) × StandsAt area w run read first before met.0 last × IsHeadSound area run last met.0)
    × IsTrue (is_wanted w (nth_head area run met.0))
    × GivesRow shown area w run met.0 met.1
    × IsWalk shown area w run read first before

-- the rows that these records gave, in the order of reading
abbrev pub given : {R : Type 0} → List (ℕ × List R) → List R
given [] = []
given (met ∷ before) = given before ++ met.1

-- what each gave, in the order of reading
abbrev pub joined : {R : Type 0} → List (List R) → List R
joined [] = []
joined (part ∷ parts) = joined parts ++ part

-- A walk over the records of one run that has come to the n-th, has read this last and has given these rows: a search for the first that doesn't precede, and
-- then record after record but for those that it skips.
pub record IsWalkedTo {R : Type 0} (shown : ℕ → Version Value
    → R) (area : List ℕ) (w : Wanted) (run : RunEntry) (n : ℕ) (last : Option Placed) (rows : List R) : Type 0 where
  pub read : List ℕ
  pub first : ℕ
  pub searched : IsSearched area run w.first w.a read first
  pub met : List (ℕ × List R)
  pub walk : IsWalk shown area w run read first met
  pub stands : StandsAt area w run read first met n last
  pub are : rows ≡ given met

-- the rows of one run: those of a walk to one record behind those that are wanted
pub record IsWalked {R : Type 0} (shown : ℕ → Version Value → R) (area : List ℕ) (w : Wanted) (run : RunEntry) (rows : List R) : Type 0 where
  pub number : ℕ
  pub last : Option Placed
  pub walked : IsWalkedTo shown area w run number last rows
  pub end : (run.slot.records ≡ number) ⊎ (IsHeadSound area run last number × IsTrue (follows w.last w.b (nth_head area run number)))

-- what was met that breaks a rule
pub data IsWalkBroken {R : Type 0} (shown : ℕ → Version Value → R) (area : List ℕ) (w : Wanted) (run : RunEntry) : Type 0 where
  OnTheWay : IsSearchBroken area run w.first w.a → IsWalkBroken shown area w run
  AtNext : (n : ℕ) (last : Option Placed) (rows : List R) → IsWalkedTo shown area w run n last rows → n < run.slot.records → IsHeadBroken area run last n
      → IsWalkBroken shown area w run
  AtItsValue : (n : ℕ) (last : Option Placed) (rows : List R) → IsWalkedTo shown area w run n last rows → IsHeadSound area run last n
      → IsTrue (is_wanted w (nth_head area run n)) → HasPart w (nth_head area run n) → IsValueBroken area run n → IsWalkBroken shown area w run
  BehindIt : (n : ℕ) (last : Option Placed) (rows row : List R) → IsWalkedTo shown area w run n last rows → IsHeadSound area run last n
      → IsTrue (is_wanted w (nth_head area run n)) → GivesRow shown area w run n row → IsSkipBroken area w run n → IsWalkBroken shown area w run

-- the rows of each of the first runs: none of one that ends by the time
abbrev pub AreWalked : {R : Type 0} → (RunEntry → List R → Type 0) → ℕ → List RunEntry → List (List R) → Type 0
AreWalked Gives time runs [] = Unit {0}
AreWalked Gives time runs (part ∷ parts) =
    ((run : RunEntry) × (slice_get runs (length parts) ≡ Some run)
    × (((run.slot.upto ≤ time) × (part ≡ [])) ⊎ ((time < run.slot.upto) × Gives run part)))
    × AreWalked Gives time runs parts

-- the rows of all runs together, in the order of the log
pub record IsOfRuns {R : Type 0} (Gives : RunEntry → List R → Type 0) (time : ℕ) (runs : List RunEntry) (rows : List R) : Type 0 where
  pub parts : List (List R)
  pub each : AreWalked Gives time runs parts
  pub all : length parts ≡ length runs
  pub are : rows ≡ joined parts

-- the run that begins here was read, and what was read last of it breaks a rule
pub record IsDamagedRun {R : Type 0} (Gives : RunEntry → List R → Type 0) (Breaks : RunEntry
    → Type 0) (time : ℕ) (runs : List RunEntry) (start : ℕ) : Type 0 where
  pub parts : List (List R)
  pub each : AreWalked Gives time runs parts
  pub run : RunEntry
  pub at : slice_get runs (length parts) ≡ Some run
  pub beyond : time < run.slot.upto
  pub here : start ≡ run.slot.start
  pub broken : Breaks run

-- ---- the rows of a key, and those of a relation

-- the rows of a key that one run gives
abbrev pub AreRowsOf : List ℕ → Key → ℕ → ℕ → RunEntry → List (Version Value) → Type 0
AreRowsOf area key a b = IsWalked alone area (of_key key a b)

-- what a walk for these rows met that breaks a rule
abbrev pub AreRowsBroken : List ℕ → Key → ℕ → ℕ → RunEntry → Type 0
AreRowsBroken area key a b = IsWalkBroken alone area (of_key key a b)

-- the rows of a relation that one run gives, each with its record
abbrev pub AreScanRowsOf : List ℕ → ℕ → ℕ → ℕ → RunEntry → List (ℕ × Version Value) → Type 0
AreScanRowsOf area relation a b = IsWalked with_record area (of_relation relation a b)

-- what a walk for these rows met that breaks a rule
abbrev pub AreScanRowsBroken : List ℕ → ℕ → ℕ → ℕ → RunEntry → Type 0
AreScanRowsBroken area relation a b = IsWalkBroken with_record area (of_relation relation a b)

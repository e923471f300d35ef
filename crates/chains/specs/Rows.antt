-- The rows of an interval: of one key's writes, and of a relation.
use Rattle.std.specs.Prelude.{ℕ, ◌≡◌, ◌<◌, ◌==◌, List, [], ◌∷◌, ◌++◌, map, if◌then◌else◌}
use Rattle.std.specs.Borrow.{Bor}
use Rattle.history.specs.declared.key.Key.{Key}
use Rattle.history.specs.declared.time.TimedWrite.{TimedWrite}
use Rattle.history.specs.declared.time.Version.{Version}
use Rattle.history.specs.Time.{IsRisingAfter}
use Rattle.history.specs.Versions.{version_of, versions, rows}
use Rattle.chains.specs.Writes.{Value}
use Rattle.chains.specs.KeyWrites.{KeyWrites, writes_of}

-- when the first of these writes was made, or else this time
abbrev pub first_time_or : {V : Type 0} → ℕ → List (TimedWrite V) → ℕ
first_time_or end [] = end
first_time_or end (w ∷ ws) = w.time

-- the versions of these writes where the last of them ends at this time
abbrev pub versions_upto : {V : Type 0} → ℕ → List (TimedWrite V) → List (Version V)
versions_upto end [] = []
versions_upto end (w ∷ ws) = version_of w.time (first_time_or end ws) w.write ++ versions_upto end ws

-- the rows of versions from a time on are those of a part of them, and behind those the rows from a later time on
pub record IsFront (time upto : ℕ) (all part : List (Version Value)) : Type 0 where
  pub later : time < upto
  pub rows_are : (b : ℕ) → rows all time b ≡ rows part time b ++ rows all upto b

-- writes of a chunk are those from which the rows of all from a time on go on
pub record IsNextChunk (time upto : ℕ) (all : List (Version Value)) (ws : List (TimedWrite Value)) (end : ℕ) : Type 0 where
  pub before : time < upto
  pub rising : IsRisingAfter 0 ws
  pub front : IsFront time end all (versions_upto end ws)

-- a version of a value in a loan, as the version of the value
abbrev pub version_of_loan : Version (Bor Value) → Version Value
version_of_loan v = record { from = v.from; to = v.to; value = v.value.now }

-- what these chains show of a relation, one after another
abbrev pub of_relation : {X : Type 0} → ℕ → (KeyWrites → List X) → List KeyWrites → List X
of_relation relation shown [] = []
of_relation relation shown (c ∷ cs) = (if c.key.relation == relation then shown c else []) ++ of_relation relation shown cs

-- a chain's record with each of its rows from a to b
abbrev pub shown_rows : ℕ → ℕ → KeyWrites → List (ℕ × Version Value)
shown_rows a b c = map (λ row. (c.key.record, row)) (rows (versions c.writes) a b)

-- the rows of a relation from a to b, by record and then by time
abbrev pub scanned_rows : ℕ → ℕ → ℕ → List KeyWrites → List (ℕ × Version Value)
scanned_rows relation a b m = of_relation relation (shown_rows a b) m

-- what a chain map says of the rows of one key
abbrev pub rows_in : List KeyWrites → ℕ → ℕ → Key → List (Version Value)
rows_in m a b key = rows (versions (writes_of m key)) a b

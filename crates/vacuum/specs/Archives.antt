-- The records of a run, as a walk over the versions in memory gives them.
use Rattle.std.specs.Prelude.{ℕ, max, List, [], ◌∷◌, ◌++◌, map, filter, length}
use Rattle.std.specs.List.{flat_map}
use Rattle.history.specs.Versions.{versions, ends_after, ends_by}
use Rattle.floors.specs.Floors.{floor_at}
use Rattle.chains.specs.declared.bound.Bound.{Bound}
use Rattle.chains.specs.Bounds.{is_in}
use Rattle.chains.specs.KeyWrites.{KeyWrites, IsOrdered, AreRising}
use Rattle.law_image.specs.Reading.{ArchiveRecord}
use Rattle.law_image.specs.PlansMade.{archive_record}
use Rattle.wire.specs.declared.slot.Run.{Run}
use Rattle.archive.specs.Runs.{run_bytes}
use Rattle.archive.specs.Pieces.{InWriting}
use Rattle.vacuum.specs.declared.archive_walk.Place.{Place}
use Rattle.vacuum.specs.declared.archive_walk.Since.{Since}

-- as versions stand in memory: the keys in order, and the writes of each rising
pub record AreInMemory (frozen : List KeyWrites) : Type 0 where
  pub ordered : IsOrdered frozen
  pub rising : AreRising frozen

-- the keys within a bound
abbrev pub keys_within : Bound → List KeyWrites → List KeyWrites
keys_within bound frozen = filter (λ (c : KeyWrites). is_in bound c.key) frozen

-- a record for each version of a key that ends after one time and by another, by rising time
abbrev pub key_records : ℕ → ℕ → KeyWrites → List ArchiveRecord
key_records after upto c = map (archive_record c.key) (filter (ends_by upto) (filter (ends_after after) (versions c.writes)))

-- what ended by this time is not in the run, of a relation: the later of the mark and its floor
abbrev pub since_of : Since → ℕ → ℕ
since_of since relation = max since.mark (floor_at since.floors relation)

-- those of all keys, in their order
abbrev pub records_of : Since → ℕ → List KeyWrites → List ArchiveRecord
records_of since upto frozen = flat_map (λ (c : KeyWrites). key_records (since_of since c.key.relation) upto c) frozen

-- what is left of those of a key, where those that end by a time of its own are passed
abbrev pub key_left : ℕ → Since → ℕ → KeyWrites → List ArchiveRecord
key_left passed since upto c = key_records (max passed (since_of since c.key.relation)) upto c

-- what is left of all, where of the first of these keys some are passed
abbrev pub records_left : ℕ → Since → ℕ → List KeyWrites → List ArchiveRecord
records_left passed since upto [] = []
records_left passed since upto (c ∷ cs) = key_left passed since upto c ++ records_of since upto cs

-- the same, where the keys within a bound are left
abbrev pub records_at : Since → ℕ → Place → List KeyWrites → List ArchiveRecord
records_at since upto place frozen = records_left place.passed since upto (keys_within place.bound frozen)

-- a walk over archive records: all of them, and those that are left
pub record Walked : Type 0 where
  pub all : List ArchiveRecord
  pub left : List ArchiveRecord

-- the run of these records, as its slot names it
abbrev pub run_of : ℕ → ℕ → List ArchiveRecord → Run
run_of upto start records = record { upto = upto; start = start; len = length (run_bytes records); «records» = length records }

-- the run of which nothing is written yet
abbrev pub unwritten : ℕ → List ArchiveRecord → InWriting
unwritten start records = record { at = start; left = run_bytes records; records = length records }

-- The entry of an archive or a floor behind the log, where it lies.
use Rattle.std.specs.Prelude.{ℕ, ◌≡◌, ◌<◌, ◌≤◌, ◌-◌, List, [], ◌∷◌, ◌++◌, length, map, flat_map, take, Some}
use Rattle.history.specs.Floors.{raised}
use Rattle.history.specs.Histories.{History, last}
use Rattle.law_image.specs.Values.{Value}
use Rattle.law_image.specs.Reading.{Reading}
use Rattle.law_image.specs.Log.{floor_of}
use Rattle.law_image.specs.StandsFor.{StandsFor, archived_upto}
use Rattle.law_image.specs.Plans.{with_floor}
use Rattle.law_image.specs.HeapPlans.{IsMergePlan, with_merged}
use Rattle.law_layout.specs.Runs.{StoredRun, IsStoredRun}
use Rattle.log_entries.specs.declared.entry.Archive.{Archive}
use Rattle.log_entries.specs.declared.entry.RelationFloor.{RelationFloor}
use Rattle.log_entries.specs.declared.entry.Entry.TheVariants.{Archived, Floor}
use Rattle.log_entries.specs.Ranges.{run_of}
use Rattle.law_log_layout.specs.HeapLog.{PlacedChain, HeapLog, spans_of, AreSpansApart, run_span, archives_in, AreSpansInRow, KeepsShares, IsLogOf, MayJoin}
use Rattle.law_log_layout.specs.HeapLog.{with_chain, with_runs}

-- a floor with its extent
abbrev pub placed_floor : List ℕ → ℕ → RelationFloor → PlacedChain
placed_floor numbers link f = record { numbers = numbers; link = link; entry = Floor f }

-- an archive's entry with its extent
abbrev pub placed_archive : List ℕ → ℕ → Archive → PlacedChain
placed_archive numbers link a = record { numbers = numbers; link = link; entry = Archived a }

-- a floor above that of its relation, and no later than the last commit, raises it alone
abbrev pub FloorIsLog : Type 0
FloorIsLog = (most root : ℕ) (l : HeapLog) (reading : Reading) (h : History Value) (floors : ℕ → ℕ) (numbers : List ℕ) (link : ℕ) (f : RelationFloor)
    → IsLogOf most root l reading → StandsFor reading h floors → MayJoin most l (placed_floor numbers link f)
    → floor_of reading.log f.relation < f.floor → f.floor ≤ last h
    → KeepsShares most (with_chain l (placed_floor numbers link f)) (with_floor reading (Some f.relation) f.floor)
    → IsLogOf most root (with_chain l (placed_floor numbers link f)) (with_floor reading (Some f.relation) f.floor)
    × StandsFor (with_floor reading (Some f.relation) f.floor) h (raised (Some f.relation) f.floor floors)

-- the runs that stand behind an archive's entry: its own in the place of the last ones
abbrev pub runs_with : HeapLog → Archive → StoredRun → List StoredRun
runs_with l a s = take (length l.runs - a.runs) l.runs ++ s ∷ []

-- an archive whose run has what it is to have, those of the runs that it takes the place of too, changes neither history nor floors
abbrev pub RunIsLog : Type 0
RunIsLog = (most root : ℕ) (l : HeapLog) (reading : Reading) (h : History Value) (floors : ℕ → ℕ) (numbers : List ℕ) (link : ℕ) (a : Archive) (s : StoredRun)
    → IsLogOf most root l reading → StandsFor reading h floors → MayJoin most l (placed_archive numbers link a)
    → a.runs ≤ length l.runs → s.entry ≡ run_of a → IsStoredRun s → AreSpansApart (spans_of (runs_with l a s) l.rolls)
    → AreSpansInRow 0 (map run_span (flat_map (λ (c : PlacedChain). archives_in c.entry) (l.chains ++ placed_archive numbers link a ∷ [])))
    → IsMergePlan reading (length l.runs - a.runs) a.upto s.records → archived_upto reading < a.upto → a.upto ≤ last h
    → KeepsShares most (with_runs l (placed_archive numbers link a) (runs_with l a s)) (with_merged reading (length l.runs - a.runs) a.upto s.records)
    → IsLogOf most root (with_runs l (placed_archive numbers link a) (runs_with l a s)) (with_merged reading (length l.runs - a.runs) a.upto s.records)
    × StandsFor (with_merged reading (length l.runs - a.runs) a.upto s.records) h floors

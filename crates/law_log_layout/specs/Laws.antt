-- Laws of the log that lies in the heap, as bytes.
use Rattle.std.specs.Prelude.{ℕ, ◌≡◌, ◌+◌, zero, suc, Bool, List, [], ◌++◌, length, map, flat_map, Result, Ok}
use Rattle.std.specs.List.{AllByRecursion}
use Rattle.byteorder.specs.Endian.{little_bytes}
use Rattle.history.specs.Histories.{History}
use Rattle.law_image.specs.Values.{Value}
use Rattle.law_image.specs.Reading.{Reading}
use Rattle.law_image.specs.StandsFor.{StandsFor}
use Rattle.law_image.specs.Plans.{IsGroupOf, with_group}
use Rattle.law_layout.specs.Runs.{StoredRun, run_bytes}
use Rattle.deltas.specs.Extents.{extent_start}
use Rattle.disk.specs.Parts.{KeepsPart}
use Rattle.log_entries.specs.declared.entry.Member.{Member}
use Rattle.law_log_layout.specs.HeapLog.{PlacedChain, PlacedRoll, HeapLog, heap_parts, name_bytes, HeapStandsFor, IsLogOf, member_told, with_chain, with_runs}
use Rattle.law_log_layout.specs.HeapLog.{turn_of}
use Rattle.law_log_layout.specs.HeapLog.{placed_group, MayJoin, KeepsShares}
use Rattle.disk.specs.Areas.{AreaState, Areas, Image, AreSound, LeavesImage, MayLeave}
use Rattle.disk.specs.declared.area.DeviceFault.{DeviceFault}
use Rattle.law_log_layout.specs.Roots.{NamesRoot, other, IsHeaderApart}
use Rattle.law_log_layout.specs.Roots as roots
use Rattle.law_log_layout.specs.Turns.{KeepsAll, KeepsClosed, IsFree, HoldsOld, HoldsNew, IsAt, MayBe}
use Rattle.law_log_layout.specs.Turns.{MayBecome}
use Rattle.log_writer.specs.Turns.{stage_after, Done, IsCallOf, Part, Stage, Turn, Writing}

-- What holds of a chain at a stage: what a stop may leave of the heap holds the old log, or from the gate's write on either, or at the end the new one.
pub record IsChainWay (live : List Part) (t : Turn) (stage : Stage) (areas : Areas) : Type 0 where
  pub before : (content : List ℕ) → MayLeave areas.heap content → MayBe stage (HoldsOld live t content) (HoldsNew live t content)
  pub within : (result : Result (Unit {0}) DeviceFault) (next : Areas) (image : Image) → IsCallOf t stage result areas next → LeavesImage next image
      → MayBecome stage (HoldsOld live t image.heap) (HoldsNew live t image.heap)
  pub leads : (next : Areas) → IsCallOf t stage (Ok tt) areas next → IsAt live t (stage_after stage) next.heap

-- so it is of every chain that is written to free parts of the heap, whatever parts the log has
abbrev pub ChainGoes : Type 0
ChainGoes =
    (live : List Part) (t : Turn) (stage : Stage) (areas : Areas) → IsFree live t → AreSound areas → IsAt live t stage areas.heap
    → IsChainWay live t stage areas

-- What holds of the way from one root to the other at a stage: what a stop may leave of the status area names the old root, or from the write of the turn gate
-- on either, or at the end the new one.
pub record IsRootWay (header : List Part) (turned : Bool) (old new : List ℕ) (stage : roots.Stage) (areas : Areas) : Type 0 where
  pub before : (content : List ℕ) → MayLeave areas.status content
      → roots.MayBe stage (NamesRoot header turned old content) (NamesRoot header (other turned) new content)
  pub within : (result : Result (Unit {0}) DeviceFault) (next : Areas) (image : Image) → roots.IsCallOf turned new stage result areas next
      → LeavesImage next image
      → roots.MayBecome stage (NamesRoot header turned old image.status) (NamesRoot header (other turned) new image.status)
  pub leads : (next : Areas) → roots.IsCallOf turned new stage (Ok tt) areas next → roots.IsAt header turned old new (roots.stage_after stage) next.status

-- so it is of every pair of roots, whichever of them counts
abbrev pub RootGoes : Type 0
RootGoes = (header : List Part) (turned : Bool) (old new : List ℕ) (stage : roots.Stage) (areas : Areas)
    → IsHeaderApart header → length old ≡ 4 → length new ≡ 4 → AreSound areas → roots.IsAt header turned old new stage areas.status
    → IsRootWay header turned old new stage areas

-- ---- a chain, told of histories

-- whatever a stop may leave of the archive holds the rolls and the runs
pub record KeepsArchive (l : HeapLog) (a : AreaState) : Type 0 where
  pub rolls : AllByRecursion (λ (r : PlacedRoll). KeepsPart r.roll.start (flat_map name_bytes r.names) a) l.rolls
  pub runs : AllByRecursion (λ (s : StoredRun). KeepsPart s.entry.start (run_bytes s.records) a) l.runs

-- whatever a stop may leave of the heap holds the log, which ends at a closed gate
pub record KeepsLog (l : HeapLog) (a : AreaState) : Type 0 where
  pub parts : KeepsAll (heap_parts l) a
  pub ends : KeepsClosed (extent_start l.next) a

-- What holds of a chain at a stage, told of histories: what a stop may leave stands for what the log tells, or from the gate's write on for that or for what it
-- tells with the whole chain, or at the end with it.
pub record IsEntryWay (most root : ℕ) (l after : HeapLog) (c : PlacedChain) (h next : History Value) (floors raised : ℕ → ℕ) (stage : Stage)
    (areas : Areas) : Type 0 where
  -- before the next call
  pub before : (image : Image) → LeavesImage areas image
      → MayBe stage (HeapStandsFor most root image.heap image.archive h floors) (HeapStandsFor most root image.heap image.archive next raised)
  -- within it and after it, also where it is refused
  pub within : (result : Result (Unit {0}) DeviceFault) (new : Areas) (image : Image) → IsCallOf (turn_of l.next c) stage result areas new
      → LeavesImage new image
      → MayBecome stage (HeapStandsFor most root image.heap image.archive h floors) (HeapStandsFor most root image.heap image.archive next raised)
  -- and where it leads
  pub leads : (new : Areas) → IsCallOf (turn_of l.next c) stage (Ok tt) areas new → IsAt (heap_parts l) (turn_of l.next c) (stage_after stage) new.heap
  -- once its gate is synced the log is at rest with it
  pub rests : stage ≡ Done → KeepsLog after areas.heap

-- The theorem of a chain's way to the disk, at every moment: for each chain behind which the log tells this, a floor's entry or an archive's too.
abbrev pub EntryGoes : Type 0
EntryGoes =
    (most root : ℕ) (l : HeapLog) (c : PlacedChain) (runs : List StoredRun) (reading new : Reading) (h next : History Value) (floors raised : ℕ → ℕ)
    (stage : Stage) (areas : Areas)
    → IsLogOf most root l reading → StandsFor reading h floors → MayJoin most l c → IsLogOf most root (with_runs l c runs) new → StandsFor new next raised
    → AreSound areas → KeepsArchive l areas.archive → KeepsArchive (with_runs l c runs) areas.archive → IsAt (heap_parts l) (turn_of l.next c) stage areas.heap
    → IsEntryWay most root l (with_runs l c runs) c h next floors raised stage areas

-- And of a group's: for each group of commits that may follow the history, in any free extents.
abbrev pub GroupGoes : Type 0
GroupGoes =
    (most root : ℕ) (l : HeapLog) (reading : Reading) (h next : History Value) (floors : ℕ
    → ℕ) (numbers : List ℕ) (link : ℕ) (members : List Member) (stage : Stage) (areas : Areas)
    → IsLogOf most root l reading → StandsFor reading h floors → IsGroupOf reading h next (map member_told members)
    → MayJoin most l (placed_group numbers link members)
    → KeepsShares most (with_chain l (placed_group numbers link members)) (with_group reading (map member_told members))
    → AreSound areas → KeepsArchive l areas.archive → IsAt (heap_parts l) (turn_of l.next (placed_group numbers link members)) stage areas.heap
    → (let c = placed_group numbers link members in IsEntryWay most root l (with_chain l c) c h (h ++ next) floors floors stage areas)

-- its gate is synced after one call an extent and four more
abbrev pub stage_after_all : Stage → ℕ → Stage
stage_after_all stage zero = stage
stage_after_all stage (suc n) = stage_after_all (stage_after stage) n

abbrev pub GroupEnds : Type 0
GroupEnds = (parts : List Part) → stage_after_all (Writing [] parts) (length parts + 4) ≡ Done

-- ---- a reclaim, told of histories

-- Status area, heap and archive stand for this history with these floors: the root that counts is that of a log that does.
pub record RootStandsFor (most : ℕ) (header : List Part) (image : Image) (h : History Value) (floors : ℕ → ℕ) : Type 0 where
  pub turned : Bool
  pub root : ℕ
  pub names : NamesRoot header turned (little_bytes 4 root) image.status
  pub stands : HeapStandsFor most root image.heap image.archive h floors

-- What holds of a reclaim at a stage of its root: what a stop may leave stands for the history at every moment.
pub record IsReclaimWay (most : ℕ) (header : List Part) (turned : Bool) (old new : ℕ) (h : History Value) (floors : ℕ → ℕ) (stage : roots.Stage)
    (areas : Areas) : Type 0 where
  pub before : (image : Image) → LeavesImage areas image → RootStandsFor most header image h floors
  pub within : (result : Result (Unit {0}) DeviceFault) (next : Areas) (image : Image) → roots.IsCallOf turned (little_bytes 4 new) stage result areas next
      → LeavesImage next image → RootStandsFor most header image h floors
  pub leads : (next : Areas) → roots.IsCallOf turned (little_bytes 4 new) stage (Ok tt) areas next
      → roots.IsAt header turned (little_bytes 4 old) (little_bytes 4 new) (roots.stage_after stage) next.status

-- The theorem of a reclaim, once its base and anchors are on the disk: for every two logs that tell of the same history, whichever root counts.
abbrev pub ReclaimGoes : Type 0
ReclaimGoes =
    (most : ℕ) (header : List Part) (turned : Bool) (old new : ℕ) (l based : HeapLog) (reading after : Reading) (h : History Value) (floors : ℕ → ℕ)
    (stage : roots.Stage) (areas : Areas)
    → IsHeaderApart header → AreSound areas
    → IsLogOf most old l reading → StandsFor reading h floors → KeepsLog l areas.heap → KeepsArchive l areas.archive
    → IsLogOf most new based after → StandsFor after h floors → KeepsLog based areas.heap → KeepsArchive based areas.archive
    → roots.IsAt header turned (little_bytes 4 old) (little_bytes 4 new) stage areas.status
    → IsReclaimWay most header turned old new h floors stage areas

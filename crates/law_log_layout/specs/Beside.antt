-- A chain on its way to the heap, and what else is done meanwhile: writes and syncs beside it leave it where it is, and it leaves what lies beside it.
use Rattle.std.specs.Prelude.{ℕ, ◌≡◌, Bool, List, [], ◌∷◌, ◌++◌, length, Result, Ok}
use Rattle.std.specs.List.{AllByRecursion}
use Rattle.disk.specs.Areas.{AreaState, Areas, Image, AreSound, LeavesImage, MayLeave}
use Rattle.disk.specs.Calls.{Writes, Syncs}
use Rattle.disk.specs.declared.area.Area.{Area}
use Rattle.disk.specs.declared.area.Area.TheVariants.{Status, Heap, Archive}
use Rattle.disk.specs.declared.area.DeviceFault.{DeviceFault}
use Rattle.law_image.specs.Reading.{Reading}
use Rattle.law_log_layout.specs.HeapLog.{PlacedChain, HeapLog, heap_parts, IsLogOf, MayJoin, with_chain, turn_of}
use Rattle.law_log_layout.specs.Reclaims.{NewBase, new_parts, AreFree}
use Rattle.law_log_layout.specs.Roots.{NamesRoot, other, IsHeaderApart}
use Rattle.law_log_layout.specs.Roots as roots
use Rattle.law_log_layout.specs.Turns.{HoldsAll, KeepsAll, gate_part, ArePartsApart, AreApartFrom, IsAt}
use Rattle.log_writer.specs.Turns.{Done, IsCallOf, Opening, Part, Settling, Stage, Syncing, Turn, Writing}

-- The part has no place in common with what is written of the chain, nor with either of its gates.
pub record LiesBesideTurn (t : Turn) (p : Part) : Type 0 where
  pub parts : AreApartFrom p t.parts
  pub gate : ArePartsApart (gate_part t.gate 0) p
  pub closes : ArePartsApart (gate_part t.closes 0) p

-- nor with these parts of the heap
pub record LiesBeside (log : List Part) (t : Turn) (p : Part) : Type 0 where
  pub live : AreApartFrom p log
  pub turn : LiesBesideTurn t p

-- all of these lie beside the chain
abbrev pub LieBesideTurn : Turn → List Part → Type 0
LieBesideTurn t parts = AllByRecursion (LiesBesideTurn t) parts

-- the stage is one of this chain: what is written of it and what is not are its parts
abbrev pub IsStageOf : Turn → Stage → Type 0
IsStageOf t (Writing done rest) = done ++ rest ≡ t.parts
IsStageOf t Syncing = Unit {0}
IsStageOf t Opening = Unit {0}
IsStageOf t Settling = Unit {0}
IsStageOf t Done = Unit {0}

-- the two other areas are as they were
abbrev pub AreOthersSame : Area → Areas → Areas → Type 0
AreOthersSame Status old new = (old.heap ≡ new.heap) × (old.archive ≡ new.archive)
AreOthersSame Heap old new = (old.status ≡ new.status) × (old.archive ≡ new.archive)
AreOthersSame Archive old new = (old.status ≡ new.status) × (old.heap ≡ new.heap)

-- What a call leaves of parts of the heap: what is read is read, and what outlasts a stop outlasts one.
pub record LeavesParts (parts : List Part) (old new : AreaState) : Type 0 where
  pub held : HoldsAll parts old.bytes → HoldsAll parts new.bytes
  pub kept : KeepsAll parts old → KeepsAll parts new

-- ---- a chain on its way is left where it is

-- by the write of a part beside it, made, refused, or made in part
abbrev pub WriteLeavesChain : Type 0
WriteLeavesChain = (live : List Part) (t : Turn) (stage : Stage) (p : Part) (result : Result (Unit {0}) DeviceFault) (areas next : Areas)
    → AreSound areas → LiesBeside live t p → IsAt live t stage areas.heap → Writes Heap p.place p.bytes result areas next → IsAt live t stage next.heap

-- by a sync, made or refused
abbrev pub SyncLeavesChain : Type 0
SyncLeavesChain = (live : List Part) (t : Turn) (stage : Stage) (result : Result (Unit {0}) DeviceFault) (areas next : Areas)
    → AreSound areas → IsAt live t stage areas.heap → Syncs Heap result areas next → IsAt live t stage next.heap

-- for other parts of the heap too, where whatever a stop may leave has them
abbrev pub ChainAmongOthers : Type 0
ChainAmongOthers = (live others : List Part) (t : Turn) (stage : Stage) (a : AreaState) → KeepsAll others a → IsAt live t stage a → IsAt others t stage a

-- and at each stage whatever a stop may leave has the parts that it is among, and the stage is one of its own
abbrev pub ChainIsAmong : Type 0
ChainIsAmong = (live : List Part) (t : Turn) (stage : Stage) (a : AreaState) → IsAt live t stage a → KeepsAll live a × IsStageOf t stage

-- a base and its anchors, whose extents are free of the log with a chain, lie beside that chain
abbrev pub BaseLiesBeside : Type 0
BaseLiesBeside = (most root : ℕ) (l : HeapLog) (reading : Reading) (c : PlacedChain) (n : NewBase) → IsLogOf most root l reading → MayJoin most l c
    → AreFree most (with_chain l c) n → AllByRecursion (LiesBeside (heap_parts l) (turn_of l.next c)) (new_parts n)

-- ---- parts of the heap are left as they were

-- by each call of a chain that they lie beside, made or refused
abbrev pub ChainLeavesParts : Type 0
ChainLeavesParts = (t : Turn) (stage : Stage) (parts : List Part) (result : Result (Unit {0}) DeviceFault) (areas next : Areas)
    → AreSound areas → IsStageOf t stage → LieBesideTurn t parts → IsCallOf t stage result areas next
    → LeavesParts parts areas.heap next.heap × AreOthersSame Heap areas next

-- by a write apart from them, made, refused, or made in part
abbrev pub WriteLeavesParts : Type 0
WriteLeavesParts = (p : Part) (parts : List Part) (result : Result (Unit {0}) DeviceFault) (areas next : Areas)
    → AreSound areas → AreApartFrom p parts → Writes Heap p.place p.bytes result areas next → LeavesParts parts areas.heap next.heap

-- and what it wrote is read with them
abbrev pub WriteAddsPart : Type 0
WriteAddsPart = (p : Part) (parts : List Part) (areas next : Areas)
    → AreApartFrom p parts → HoldsAll parts areas.heap.bytes → Writes Heap p.place p.bytes (Ok tt) areas next → HoldsAll (parts ++ p ∷ []) next.heap.bytes

-- by a sync, made or refused
abbrev pub SyncLeavesParts : Type 0
SyncLeavesParts = (parts : List Part) (result : Result (Unit {0}) DeviceFault) (areas next : Areas)
    → AreSound areas → Syncs Heap result areas next → LeavesParts parts areas.heap next.heap

-- behind which whatever a stop may leave has what was read
abbrev pub SyncKeepsParts : Type 0
SyncKeepsParts = (parts : List Part) (areas next : Areas) → HoldsAll parts areas.heap.bytes → Syncs Heap (Ok tt) areas next → KeepsAll parts next.heap

-- ---- the other areas are left as they were

abbrev pub WriteLeavesOthers : Type 0
WriteLeavesOthers = (area : Area) (at : ℕ) (bytes : List ℕ) (result : Result (Unit {0}) DeviceFault) (areas next : Areas)
    → Writes area at bytes result areas next → AreOthersSame area areas next

abbrev pub SyncLeavesOthers : Type 0
SyncLeavesOthers = (area : Area) (result : Result (Unit {0}) DeviceFault) (areas next : Areas) → Syncs area result areas next → AreOthersSame area areas next

-- ---- a root on its way

-- whatever a stop may leave of heap and archive meets the claim
abbrev pub LeavesOnly : (List ℕ → List ℕ → Type 0) → Areas → Type 0
LeavesOnly Claim areas = (heap archive : List ℕ) → MayLeave areas.heap heap → MayLeave areas.archive archive → Claim heap archive

-- the status area names this root, and heap and archive meet the claim
abbrev pub NamesRootOf : List Part → Bool → List ℕ → (List ℕ → List ℕ → Type 0) → Image → Type 0
NamesRootOf header turned root Claim image = NamesRoot header turned root image.status × Claim image.heap image.archive

-- What holds of the way from one root to the other at a stage, where heap and archive meet what each root claims of them: what a stop may leave names the old
-- root and meets its claim, or from the write of the turn gate on does so for either, and at the end for the new one.
pub record IsRootWayWith (Old New : List ℕ → List ℕ → Type 0) (header : List Part) (turned : Bool) (old new : List ℕ) (stage : roots.Stage) (areas : Areas)
    : Type 0 where
  pub before : (image : Image) → LeavesImage areas image
      → roots.MayBe stage (NamesRootOf header turned old Old image) (NamesRootOf header (other turned) new New image)
  pub within : (result : Result (Unit {0}) DeviceFault) (next : Areas) (image : Image) → roots.IsCallOf turned new stage result areas next
      → LeavesImage next image → roots.MayBecome stage (NamesRootOf header turned old Old image) (NamesRootOf header (other turned) new New image)
  pub leads : (next : Areas) → roots.IsCallOf turned new stage (Ok tt) areas next → roots.IsAt header turned old new (roots.stage_after stage) next.status

-- so it is where whatever a stop may leave of heap and archive meets both claims
abbrev pub RootBeside : (List ℕ → List ℕ → Type 0) → (List ℕ → List ℕ → Type 0) → Type 0
RootBeside Old New = (header : List Part) (turned : Bool) (old new : List ℕ) (stage : roots.Stage) (areas : Areas)
    → IsHeaderApart header → length old ≡ 4 → length new ≡ 4 → AreSound areas → LeavesOnly Old areas → LeavesOnly New areas
    → roots.IsAt header turned old new stage areas.status → IsRootWayWith Old New header turned old new stage areas

-- A base in the place of the log's front, where it lies.
use Rattle.std.specs.Prelude.{ℕ, ◌≡◌, List, [], ◌∷◌, ◌++◌, map, flat_map, Result, Ok}
use Rattle.std.specs.List.{AllByRecursion}
use Rattle.disk.specs.Areas.{AreaState, Areas, Image, AreSound, LeavesImage}
use Rattle.disk.specs.Calls.{Writes, Syncs}
use Rattle.disk.specs.declared.area.Area.TheVariants.{Heap}
use Rattle.disk.specs.declared.area.DeviceFault.{DeviceFault}
use Rattle.history.specs.Histories.{History}
use Rattle.law_image.specs.Values.{Value}
use Rattle.law_image.specs.Reading.{Head, Reading}
use Rattle.law_image.specs.StandsFor.{StandsFor}
use Rattle.law_image.specs.Plans.{IsReclaimPlan}
use Rattle.law_image.specs.HeapPlans.{with_base}
use Rattle.law_log.specs.Chains.{OfBase, told, TakesPlace}
use Rattle.log_extents.specs.Chains.{first_or, AreDistinct, IsNumberOf}
use Rattle.log_entries.specs.declared.entry.Base.{Base}
use Rattle.log_entries.specs.declared.entry.Entry.TheVariants as entries
use Rattle.log_entries.specs.Ranges.{run_of}
use Rattle.law_log_layout.specs.HeapLog.{PlacedChain, PlacedAnchors, PlacedRoll, HeapLog, live_numbers, IsPlaced, ArePlaced, AreChained, base_told}
use Rattle.law_log_layout.specs.HeapLog.{chains_told, runs_from, AreNamed, AreNamesOf, IsStoredRoll, spans_of, AreSpansApart, run_span, roll_span, archives_in}
use Rattle.law_log_layout.specs.HeapLog.{AreSpansInRow, KeepsShares, IsLogOf, HeapStandsFor}
use Rattle.law_log_layout.specs.HeapLog.{extents_of, anchor_extents}
use Rattle.law_log_layout.specs.Laws.{KeepsArchive, KeepsLog}
use Rattle.law_log_layout.specs.Turns.{HoldsAll, KeepsAll}
use Rattle.log_writer.specs.Turns.{extent_part, Part}

-- a base with its extents
abbrev pub placed_base : List ℕ → ℕ → Base → PlacedChain
placed_base numbers link b = record { numbers = numbers; link = link; entry = entries.Base b }

-- the log that a base begins, with the chains that stay behind it
abbrev pub based_log : HeapLog → PlacedChain → List PlacedChain → PlacedAnchors → List PlacedRoll → HeapLog
based_log l base back anchors rolls = record { chains = base ∷ back; next = l.next; anchors = anchors; rolls = rolls; runs = l.runs }

-- what a reclaim makes: the base with its extents and the head that it links to, its anchors, and the rolls that it names
pub record NewBase : Type 0 where
  pub numbers : List ℕ
  pub link : ℕ
  pub base : Base
  pub anchors : PlacedAnchors
  pub rolls : List PlacedRoll
  pub names : List Head

-- the log with it, in front of these chains
abbrev pub with_new_base : HeapLog → NewBase → List PlacedChain → HeapLog
with_new_base l n back = based_log l (placed_base n.numbers n.link n.base) back n.anchors n.rolls

-- The base may take the place of the front of the log, which has these names: its extents and those of the anchors are free, it links to the chains that stay,
-- and
-- it has the runs, the floors and the names of all that it takes the place of.
pub record MayTakePlace (most : ℕ) (l : HeapLog) (names : List Head) (front back : List PlacedChain) (n : NewBase) : Type 0 where
  pub split : l.chains ≡ front ++ back
  pub placed : IsPlaced most (placed_base n.numbers n.link n.base)
  pub chained : AreChained n.link back l.next
  pub apart : AreDistinct (l.next ∷ live_numbers (with_new_base l n back))
  pub anchors : ArePlaced most n.anchors
  pub anchors_named : AreNamed ((n.base).anchors ∷ []) n.anchors
  pub rolls_named : map (λ (r : PlacedRoll). r.roll) n.rolls ≡ (n.base).rolls
  pub runs_named : map run_of (n.base).archives ≡ runs_from [] front
  pub each_roll : AllByRecursion IsStoredRoll n.rolls
  pub archive_apart : AreSpansApart (spans_of l.runs n.rolls)
  pub archives_in_row : AreSpansInRow 0
      (map run_span (flat_map (λ (c : PlacedChain). archives_in c.entry) (placed_base n.numbers n.link n.base ∷ back)))
  pub rolls_in_row : AreSpansInRow 0 (map roll_span n.rolls)
  pub are_names : AreNamesOf n.rolls n.names
  pub place : TakesPlace (chains_told names front) (chains_told names back) (base_told n.names n.base)

-- what the log tells then
abbrev pub based_reading : Reading → List Head → NewBase → List PlacedChain → Reading
based_reading reading names n back = with_base reading (n.anchors).records (told (OfBase (base_told n.names n.base) ∷ chains_told names back))

-- It is a log that stands for the same history with the same floors.
abbrev pub BaseIsLog : Type 0
BaseIsLog = (most root : ℕ) (l : HeapLog) (reading : Reading) (h : History Value) (floors : ℕ → ℕ) (front back : List PlacedChain) (n : NewBase)
    (is : IsLogOf most root l reading)
    → StandsFor reading h floors → MayTakePlace most l is.names front back n → IsReclaimPlan reading (n.anchors).records
    → KeepsShares most (with_new_base l n back) (based_reading reading is.names n back)
    → IsLogOf most (first_or 0 n.numbers) (with_new_base l n back) (based_reading reading is.names n back)
    × StandsFor (based_reading reading is.names n back) h floors

-- ---- the writing of a base

-- what a reclaim writes of the heap: the extents of the anchors, and those of the base, whose gate is open
abbrev pub new_parts : NewBase → List Part
new_parts n = map extent_part (anchor_extents n.anchors ++ extents_of (placed_base n.numbers n.link n.base))

-- these extents are of the heap, and none of them is the log's or the one where it ends
pub record AreFree (most : ℕ) (l : HeapLog) (n : NewBase) : Type 0 where
  pub anchors : ArePlaced most n.anchors
  pub placed : IsPlaced most (placed_base n.numbers n.link n.base)
  pub next : IsNumberOf most l.next
  pub apart : AreDistinct (l.next ∷ live_numbers l ++ ((n.anchors).numbers ++ n.numbers))

-- these parts of it are written, and the log is as it was
pub record IsWritingBase (l : HeapLog) (done : List Part) (a : AreaState) : Type 0 where
  pub log : KeepsLog l a
  pub written : HoldsAll done a.bytes

-- all of it is on the disk
pub record IsBaseSynced (l : HeapLog) (n : NewBase) (a : AreaState) : Type 0 where
  pub log : KeepsLog l a
  pub written : KeepsAll (new_parts n) a

-- What holds while a base is written: what a stop may leave stands for the history at every moment, and each call leads on.
pub record IsBaseWay (most root : ℕ) (l : HeapLog) (n : NewBase) (h : History Value) (floors : ℕ → ℕ) (done rest : List Part) (areas : Areas) : Type 0 where
  pub before : (image : Image) → LeavesImage areas image → HeapStandsFor most root image.heap image.archive h floors
  -- the write of the next part
  pub within_write : (p : Part) (others : List Part) (result : Result (Unit {0}) DeviceFault) (next : Areas) (image : Image) → rest ≡ p ∷ others
      → Writes Heap p.place p.bytes result areas next → LeavesImage next image → HeapStandsFor most root image.heap image.archive h floors
  pub written : (p : Part) (others : List Part) (next : Areas) → rest ≡ p ∷ others → Writes Heap p.place p.bytes (Ok tt) areas next
      → IsWritingBase l (done ++ p ∷ []) next.heap
  -- and the sync behind the last one
  pub within_sync : (result : Result (Unit {0}) DeviceFault) (next : Areas) (image : Image) → Syncs Heap result areas next → LeavesImage next image
      → HeapStandsFor most root image.heap image.archive h floors
  pub synced : (next : Areas) → rest ≡ [] → Syncs Heap (Ok tt) areas next → IsBaseSynced l n next.heap

-- so it is of every base and its anchors that are written to free extents
abbrev pub BaseGoes : Type 0
BaseGoes = (most root : ℕ) (l : HeapLog) (n : NewBase) (reading : Reading) (h : History Value) (floors : ℕ → ℕ) (done rest : List Part) (areas : Areas)
    → IsLogOf most root l reading → StandsFor reading h floors → AreFree most l n → done ++ rest ≡ new_parts n
    → AreSound areas → KeepsArchive l areas.archive → IsWritingBase l done areas.heap
    → IsBaseWay most root l n h floors done rest areas

-- once all is on the disk, so is the log that the base begins
abbrev pub BaseRests : Type 0
BaseRests = (l : HeapLog) (n : NewBase) (front back : List PlacedChain) (a : AreaState)
    → l.chains ≡ front ++ back → IsBaseSynced l n a → KeepsLog (with_new_base l n back) a

-- Laws of images as bytes.
use Rattle.std.specs.Prelude.{◌≡◌, ℕ, ◌+◌, List, [], ◌∷◌, ◌++◌, length, Result, Ok}
use Rattle.disk.specs.Areas.{Areas, Image, AreSound, LeavesImage, settled_on}
use Rattle.disk.specs.declared.area.DeviceFault.{DeviceFault}
use Rattle.wire.specs.Spelling.{IsSpelled}
use Rattle.status.specs.Log.{IsLog}
use Rattle.history.specs.Histories.{History}
use Rattle.law_image.specs.Values.{Value}
use Rattle.law_image.specs.Reading.{Reading}
use Rattle.law_image.specs.StandsFor.{StandsFor}
use Rattle.law_layout.specs.Layouts.{Layout, IsLayoutOf, HoldsLayout, ImageStandsFor, extents_of}
use Rattle.law_layout.specs.Keeping.{RestsAs}
use Rattle.wire.specs.declared.slot.Slot.{Slot}
use Rattle.law_layout.specs.SlotTurns.{Adds, IsTurnAt, MayAt, MayWithin}
use Rattle.law_layout.specs.Turn.{Group, Stage, Storing, Turning, MayJoin, IsCallOf, stage_after, MayBe, MayBecome, laid_out}
use Rattle.law_layout.specs.Frames.{HasLayoutOf, HasGroupToo}
use Rattle.status.specs.declared.header.Header.{Header}
use Rattle.status.specs.SlotCalls.{SlotStage, Opened, IsSlotCall, slot_stage_after}

-- an image that has the layout of another has its readings, and stands for what that stands for
abbrev pub FrameReads : Type 0
FrameReads =
    (header : Header) (layout : Layout) (old new : Image) → HoldsLayout header old layout → HasLayoutOf header layout old new → HoldsLayout header new layout

-- an image with the group's slot and its extents stands for the history with the group's commits
abbrev pub SlotStands : Type 0
SlotStands = (header : Header) (layout : Layout) (reading : Reading) (h next : History Value) (floors : ℕ → ℕ) (group : Group) (old new : Image)
    → IsLayoutOf header layout reading → StandsFor reading h floors → HoldsLayout header old layout → MayJoin header layout reading h next group
    → HasGroupToo header layout group old new → ImageStandsFor header new (h ++ next) floors

-- areas at rest leave only images that stand for the history
abbrev pub RestStands : Type 0
RestStands = (header : Header) (layout : Layout) (reading : Reading) (h : History Value) (floors : ℕ → ℕ) (areas : Areas) (image : Image)
    → IsLayoutOf header layout reading → StandsFor reading h floors → RestsAs header layout areas → LeavesImage areas image
    → ImageStandsFor header image h floors

-- a header with closed gates stands for the empty history
abbrev pub EmptyStands : Type 0
EmptyStands = (header : Header) (image : Image) → IsLog header image.status [] → ImageStandsFor header image [] (λ relation. 0)

-- an image that was synced is at rest with its layout
abbrev pub SyncedRests : Type 0
SyncedRests = (header : Header) (layout : Layout) (image : Image) → HoldsLayout header image layout → RestsAs header layout (settled_on image)

-- What holds of the writing of a slot at a stage: what a stop may leave holds the old layout, or from the gate's write on either, or at the end the new one.
pub record IsSlotWay (header : Header) (old : Layout) (slot : Slot) (new : Layout) (body : List ℕ) (stage : SlotStage) (areas : Areas) : Type 0 where
  pub before : (image : Image) → LeavesImage areas image → MayAt stage (HoldsLayout header image old) (HoldsLayout header image new)
  pub within : (result : Result (Unit {0}) DeviceFault) (next : Areas) (image : Image) → IsSlotCall (length old.slots) body stage result areas next
      → LeavesImage next image
      → MayWithin stage (HoldsLayout header image old) (HoldsLayout header image new)
  pub leads : (next : Areas) → IsSlotCall (length old.slots) body stage (Ok tt) areas next → IsTurnAt header old slot new (slot_stage_after stage) next

-- so it is for a slot of any kind
abbrev pub SlotGoes : Type 0
SlotGoes = (header : Header) (old : Layout) (slot : Slot) (new : Layout) (body : List ℕ) (stage : SlotStage) (areas : Areas)
    → Adds header old slot new → length body ≡ 511 → IsSpelled header.profile (length old.slots) body slot → AreSound areas
    → IsTurnAt header old slot new stage areas → IsSlotWay header old slot new body stage areas

-- calls that were answered Ok, each by the areas after it, from these areas on
abbrev pub Goes : Layout → List ℕ → Stage → Areas → List Areas → Type 0
Goes layout body stage old [] = AreSound old
Goes layout body stage old (new ∷ more) = AreSound old × IsCallOf layout body stage (Ok tt) old new × Goes layout body (stage_after stage) new more

-- the stage of a group after these calls, each answered Ok
abbrev pub stage_after_all : Stage → List Areas → Stage
stage_after_all stage [] = stage
stage_after_all stage (new ∷ more) = stage_after_all (stage_after stage) more

-- the areas after the last of these calls, or before them if there are none
abbrev pub last_of : Areas → List Areas → Areas
last_of old [] = old
last_of old (new ∷ more) = last_of new more

-- What holds of a group at a stage: what a stop may leave stands for the history, or from the gate's write on for it with the whole group or without, or at the
-- end with it.
pub record IsGroupWay (header : Header) (layout : Layout) (h next : History Value) (floors : ℕ
    → ℕ) (group : Group) (body : List ℕ) (stage : Stage) (areas : Areas) : Type 0 where
  -- before the next call
  pub before : (image : Image) → LeavesImage areas image → MayBe stage (ImageStandsFor header image h floors) (ImageStandsFor header image (h ++ next) floors)
  -- within it and after it, also where it is refused
  pub within : (result : Result (Unit {0}) DeviceFault) (new : Areas) (image : Image) → IsCallOf layout body stage result areas new → LeavesImage new image
      → MayBecome stage (ImageStandsFor header image h floors) (ImageStandsFor header image (h ++ next) floors)
  -- once the slot is open, the areas are at rest with the group
  pub rests : stage ≡ Turning Opened → RestsAs header (laid_out layout group) areas

-- The theorem of a group's way to the disk, at every moment.
abbrev pub GroupGoes : Type 0
GroupGoes =
    (header : Header) (layout : Layout) (reading : Reading) (h next : History Value) (floors : ℕ
    → ℕ) (group : Group) (body : List ℕ) (start : Areas) (states : List Areas)
    → IsLayoutOf header layout reading → StandsFor reading h floors → RestsAs header layout start → MayJoin header layout reading h next group
    → length body ≡ 511 → IsSpelled header.profile (length layout.slots) body group.slot
    → Goes layout body (Storing [] (extents_of group.members)) start states
    → IsGroupWay header layout h next floors group body (stage_after_all (Storing [] (extents_of group.members)) states) (last_of start states)

-- its slot is open after one call an extent and five more
abbrev pub GroupEnds : Type 0
GroupEnds =
    (group : Group) (states : List Areas) → length states ≡ length (extents_of group.members) + 5
    → stage_after_all (Storing [] (extents_of group.members)) states ≡ Turning Opened

-- the same told of histories: for a slot of any kind that leads from one reading, history and floors to others
pub record IsTurnWay (header : Header) (old : Layout) (body : List ℕ) (stage : SlotStage) (areas : Areas) (h h' : History Value) (floors floors' : ℕ
    → ℕ) : Type 0 where
  pub before : (image : Image) → LeavesImage areas image → MayAt stage (ImageStandsFor header image h floors) (ImageStandsFor header image h' floors')
  pub within : (result : Result (Unit {0}) DeviceFault) (next : Areas) (image : Image) → IsSlotCall (length old.slots) body stage result areas next
      → LeavesImage next image
      → MayWithin stage (ImageStandsFor header image h floors) (ImageStandsFor header image h' floors')

-- so it is where the slot's layouts spell readings that stand for these histories and floors
abbrev pub TurnStands : Type 0
TurnStands =
    (header : Header) (old : Layout) (slot : Slot) (new : Layout) (reading reading' : Reading) (h h' : History Value) (floors floors' : ℕ
    → ℕ) (body : List ℕ) (stage : SlotStage) (areas : Areas)
    → Adds header old slot new → IsLayoutOf header old reading → StandsFor reading h floors → IsLayoutOf header new reading' → StandsFor reading' h' floors'
    → length body ≡ 511 → IsSpelled header.profile (length old.slots) body slot → AreSound areas → IsTurnAt header old slot new stage areas
    → IsTurnWay header old body stage areas h h' floors floors'

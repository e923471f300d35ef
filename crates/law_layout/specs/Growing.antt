-- A status area in which a piece of slots is being made, beside the calm one: what it would be without that.
use Rattle.std.specs.Prelude.{◌≡◌, ◌≢◌, ◌⊎◌, ℕ, ◌+◌, ◌*◌, ◌<◌, ◌≤◌, IsTrue, List, length, slice_index, Result, Ok, OnOk, nat_lt, if◌then◌else◌}
use Rattle.disk.specs.Areas.{AreaState, Areas, Image, MayLeave, IsUntouched, IsSound, AreSound, synced}
use Rattle.disk.specs.Parts.{IsSettled}
use Rattle.disk.specs.declared.area.DeviceFault.{DeviceFault}
use Rattle.wire.specs.declared.slot.Slot.{Slot}
use Rattle.law_image.specs.Reading.{Reading}
use Rattle.law_image.specs.Plans.{with_piece}
use Rattle.status.specs.declared.header.Header.{Header}
use Rattle.status.specs.declared.growth.GrowthStage.{GrowthStage}
use Rattle.status.specs.declared.growth.GrowthStage.TheVariants.{Zeroing, ZerosSynced, GateWritten}
use Rattle.status.specs.Header.{total}
use Rattle.status.specs.Log.{slot_start}
use Rattle.status.specs.Growth.{grown, IsGrowthCall, growth_stage_after, may_be_open}
use Rattle.status.specs.Pieces.{next_gate, MayGrow, IsBeside, HasZeros, piece_length}
use Rattle.status.specs.SlotCalls.{SlotStage, Begun, IsSlotCall}
use Rattle.law_layout.specs.Layouts.{Layout, IsLayoutOf, HoldsLayout}
use Rattle.law_layout.specs.Keeping.{StatusRests}
use Rattle.law_layout.specs.SlotTurns.{StatusAt}

-- In front of the end of the header's slots, but for the next piece's gate, the area reads as the calm one, and was written since its last sync only where that
-- was.
pub record IsBesideArea (header : Header) (calm a : AreaState) : Type 0 where
  pub gate_low : next_gate header < 512
  pub room : slot_start (total header) ≤ calm.firm
  pub firm : slot_start (total header) ≤ a.firm
  pub same : (k : ℕ) → k < slot_start (total header) → k ≢ next_gate header → slice_index a.bytes k ≡ slice_index calm.bytes k
  pub loose : (k : ℕ) → k < slot_start (total header) → k ≢ next_gate header → IsUntouched k (k + 1) calm.loose → IsUntouched k (k + 1) a.loose

-- so it is of the next piece's gate: it is not written
pub record GateStands (header : Header) (calm a : AreaState) : Type 0 where
  pub same : slice_index a.bytes (next_gate header) ≡ slice_index calm.bytes (next_gate header)
  pub loose : IsUntouched (next_gate header) (next_gate header + 1) calm.loose → IsUntouched (next_gate header) (next_gate header + 1) a.loose

-- the next piece's zeros are synced
pub record KeepsZeros (header : Header) (a : AreaState) : Type 0 where
  pub firm : slot_start (total header) + piece_length ≤ a.firm
  pub zeros : (k : ℕ) → slot_start (total header) ≤ k → k < slot_start (total header) + piece_length → slice_index a.bytes k ≡ 0
  pub untouched : (k : ℕ) → slot_start (total header) ≤ k → k < slot_start (total header) + piece_length → IsUntouched k (k + 1) a.loose

-- what is done of the piece at a stage
abbrev pub IsGrowthAt : Header → GrowthStage → AreaState → AreaState → Type 0
IsGrowthAt header (Zeroing parts) calm a = GateStands header calm a × (parts ≤ 16) × HasZeros header (8192 * parts) a.bytes
IsGrowthAt header ZerosSynced calm a = GateStands header calm a × KeepsZeros header a
IsGrowthAt header GateWritten calm a = (slice_index a.bytes (next_gate header) ≡ 0xC7) × KeepsZeros header a

-- the piece is at this stage, and nothing else distinguishes the area from the calm one
pub record IsGrowing (header : Header) (stage : GrowthStage) (calm a : AreaState) : Type 0 where
  pub beside : IsBesideArea header calm a
  pub at : IsGrowthAt header stage calm a

-- ---- what a stop leaves

-- A stop leaves the content beside one that it may leave of the calm area. The piece's gate is that of the calm one; or, where it may be, the zeros stand and
-- the gate may be open.
pub record LeftBeside (header : Header) (May : Type 0) (calm : AreaState) (content : List ℕ) : Type 0 where
  pub calm_content : List ℕ
  pub left : MayLeave calm calm_content
  pub beside : IsBeside header calm_content content
  pub gate : (slice_index content (next_gate header) ≡ slice_index calm_content (next_gate header)) ⊎ (May × HasZeros header piece_length content)

-- so it is at every stage
abbrev pub GrowthLeaves : Type 0
GrowthLeaves =
    (header : Header) (stage : GrowthStage) (calm a : AreaState) (content : List ℕ) → IsGrowing header stage calm a → IsSound calm → MayLeave a content
    → LeftBeside header (IsTrue (may_be_open stage)) calm content

-- ---- the calls of the piece

-- the calm area after a call of the piece that is made: a sync syncs it, and a write does not touch it
abbrev pub calm_after : GrowthStage → AreaState → AreaState
calm_after (Zeroing parts) calm = if nat_lt parts 16 then calm else synced calm
calm_after ZerosSynced calm = calm
calm_after GateWritten calm = synced calm

-- What holds of a call of the piece: what a stop leaves within it or after it, made or refused, is beside what it leaves of the calm area; and where it is made
-- the piece is at the next stage.
pub record IsGrowthWay (header : Header) (stage : GrowthStage) (calm : AreaState) (old : Areas) : Type 0 where
  pub within : (result : Result (Unit {0}) DeviceFault) (new : Areas) (content : List ℕ) → IsGrowthCall stage (total header) header.pieces result old new
      → MayLeave new.status content
      → LeftBeside header (IsTrue (may_be_open (growth_stage_after stage))) calm content
  pub leads : (new : Areas) → IsGrowthCall stage (total header) header.pieces (Ok tt) old new
      → IsGrowing header (growth_stage_after stage) (calm_after stage calm) new.status
  pub alone : (result : Result (Unit {0}) DeviceFault) (new : Areas) → IsGrowthCall stage (total header) header.pieces result old new → new
      ≡ record old { status = new.status }

-- so it is at every stage of a piece in the making
abbrev pub GrowthGoes : Type 0
GrowthGoes =
    (header : Header) (stage : GrowthStage) (calm : AreaState) (old : Areas) → IsGrowing header stage calm old.status → IsSound calm → AreSound old
    → IsGrowthWay header stage calm old

-- ---- the calls of a slot beside it

-- A call of a slot among the header's slots is the same call on the calm area. Made, the piece is where it was; refused, a stop leaves what is beside what it
-- leaves of the calm area.
pub record IsCalmCall (header : Header) (growth : GrowthStage) (calm : AreaState) (number : ℕ) (body : List ℕ) (stage : SlotStage)
    (result : Result (Unit {0}) DeviceFault) (old new : Areas) : Type 0 where
  pub next : AreaState
  pub call : IsSlotCall number body stage result (record old { status = calm }) (record old { status = next })
  pub sound : IsSound next
  pub alone : new ≡ record old { status = new.status }
  pub goes : OnOk result (IsGrowing header growth next new.status)
  pub leaves : (content : List ℕ) → MayLeave new.status content → LeftBeside header (IsTrue (may_be_open growth)) next content

-- so it is of every call of a slot while a piece is in the making
abbrev pub SlotIsCalm : Type 0
SlotIsCalm =
    (header : Header) (growth : GrowthStage) (calm : AreaState) (number : ℕ) (body : List ℕ) (stage : SlotStage) (result : Result (Unit {0}) DeviceFault)
    (old new : Areas)
    → IsGrowing header growth calm old.status → IsSound calm → AreSound old → AreSound new → number < total header → (stage ≡ Begun → length body ≡ 511)
    → IsSlotCall number body stage result old new → IsCalmCall header growth calm number body stage result old new

-- ---- layouts

-- with one piece more a layout lays out the reading with one piece more
abbrev pub PieceLaid : Type 0
PieceLaid = (header : Header) (layout : Layout) (reading : Reading) → IsLayoutOf header layout reading → IsLayoutOf (grown header) layout (with_piece reading)

-- An image beside one that holds a layout holds it too: with the piece's gate shut by the same header, and with it open by the header with one piece more.
abbrev pub ShutHolds : Type 0
ShutHolds =
    (header : Header) (layout : Layout) (image : Image) (calm : List ℕ) → MayGrow header → HoldsLayout header (record image { status = calm }) layout
    → IsBeside header calm image.status
    → slice_index image.status (next_gate header) ≢ 0xC7 → HoldsLayout header image layout

-- the piece's gate is open over zeros: the image holds the layout by the header with one piece more
abbrev pub OpenHolds : Type 0
OpenHolds =
    (header : Header) (layout : Layout) (image : Image) (calm : List ℕ) → MayGrow header → HoldsLayout header (record image { status = calm }) layout
    → IsBeside header calm image.status
    → HasZeros header piece_length image.status → slice_index image.status (next_gate header) ≡ 0xC7 → HoldsLayout (grown header) image layout

-- once the piece's gate is synced, what is said of the calm area is so of the area, by the header with one piece more
abbrev pub GrownRests : Type 0
GrownRests = (header : Header) (slots : List Slot) (calm a : AreaState) → MayGrow header → IsGrowing header GateWritten calm a → IsSound calm → IsSettled a
    → StatusRests header slots calm → StatusRests (grown header) slots a

-- so it is of a slot in the writing, at its stage
abbrev pub GrownTurns : Type 0
GrownTurns =
    (header : Header) (slots : List Slot) (slot : Slot) (stage : SlotStage) (calm a : AreaState) → MayGrow header → IsGrowing header GateWritten calm a
    → IsSound calm → IsSettled a
    → length slots < total header → StatusAt header slots slot stage calm → StatusAt (grown header) slots slot stage a

-- A group's way to the disk, one device call at a time.
use Rattle.std.specs.Prelude.{◌≡◌, ℕ, ◌<◌, List, [], ◌∷◌, ◌++◌, length, map, Result}
use Rattle.std.specs.List.{AllByRecursion}
use Rattle.disk.specs.Areas.{Areas}
use Rattle.disk.specs.Calls.{Writes, Syncs}
use Rattle.disk.specs.declared.area.Area.TheVariants.{Heap}
use Rattle.disk.specs.declared.area.DeviceFault.{DeviceFault}
use Rattle.wire.specs.declared.slot.Member.{Member as Entry}
use Rattle.wire.specs.declared.slot.Body.{Body}
use Rattle.wire.specs.declared.slot.Body.TheVariants.{Commit}
use Rattle.wire.specs.declared.slot.Slot.{Slot}
use Rattle.history.specs.Histories.{History}
use Rattle.law_image.specs.Values.{Value}
use Rattle.law_image.specs.Reading.{Member, Reading}
use Rattle.law_image.specs.Plans.{IsGroupOf}
use Rattle.law_layout.specs.Extents.{Extent, HoldsExtent, AreDistinct, extent_start, extent_bytes}
use Rattle.law_layout.specs.Layouts.{StoredMember, IsStoredMember, Layout, extents_of, live}
use Rattle.law_layout.specs.Keeping.{RestsAs}
use Rattle.law_layout.specs.SlotTurns.{IsTurnAt, MayAt, MayWithin}
use Rattle.status.specs.declared.header.Header.{Header}
use Rattle.status.specs.Header.{total}
use Rattle.status.specs.SlotCalls.{SlotStage, Begun, IsSlotCall, slot_stage_after}

-- the slot names these commits
abbrev pub Names : Body → List Entry → Type 0
Names body entries = body ≡ Commit (record { items = entries })

-- a group with its extents, and the slot that is to name it
pub record Group : Type 0 where
  pub members : List StoredMember
  pub slot : Slot

-- the commits of a group, as what a reading has of them
abbrev pub members_of : Group → List Member
members_of group = map (λ s. s.member) group.members

-- the layout with the group's slot
abbrev pub laid_out : Layout → Group → Layout
laid_out layout group = record layout { slots = layout.slots ++ group.slot ∷ []; members = layout.members ++ group.members }

-- The group may follow: what the store has to keep from the group's beginning to its slot.
pub record MayJoin (header : Header) (layout : Layout) (reading : Reading) (h next : History Value) (group : Group) : Type 0 where
  pub is_group : IsGroupOf reading h next (members_of group)
  pub room : length layout.slots < total header
  pub each : AllByRecursion IsStoredMember group.members
  pub named : Names group.slot.body (map (λ s. s.entry) group.members)
  -- its extents are in no live chain, and each is in it once
  pub free : AreDistinct (live layout ++ extents_of group.members)

-- where the group is: some extents are written and others not yet, or the heap is synced and the slot is in the writing
pub data Stage : Type 0 where
  Storing : List Extent → List Extent → Stage
  Turning : SlotStage → Stage

-- the device call of a stage, with its answer; the slot's body has these bytes
abbrev pub IsCallOf : Layout → List ℕ → Stage → Result (Unit {0}) DeviceFault → Areas → Areas → Type 0
IsCallOf layout body (Storing done (e ∷ rest)) result old new = Writes Heap (extent_start e.number) (extent_bytes e) result old new
IsCallOf layout body (Storing done []) result old new = Syncs Heap result old new
IsCallOf layout body (Turning stage) result old new = IsSlotCall (length layout.slots) body stage result old new

-- the stage after a call that was answered Ok
abbrev pub stage_after : Stage → Stage
stage_after (Storing done (e ∷ rest)) = Storing (done ++ e ∷ []) rest
stage_after (Storing done []) = Turning Begun
stage_after (Turning stage) = Turning (slot_stage_after stage)

-- the areas keep a layout, and these of the group's extents are written
pub record IsStoring (header : Header) (layout : Layout) (group : Group) (done rest : List Extent) (areas : Areas) : Type 0 where
  pub rests : RestsAs header layout areas
  pub parts_are : done ++ rest ≡ extents_of group.members
  pub written : AllByRecursion (HoldsExtent areas.heap.bytes) done

-- the areas with the group at a stage
abbrev pub IsAt : Header → Layout → Group → Stage → Areas → Type 0
IsAt header layout group (Storing done rest) areas = IsStoring header layout group done rest areas
IsAt header layout group (Turning stage) areas = IsTurnAt header layout group.slot (laid_out layout group) stage areas

-- of two claims, which holds of what a stop may leave at a stage, before its call
abbrev pub MayBe : Stage → Type 0 → Type 0 → Type 0
MayBe (Storing done rest) Old New = Old
MayBe (Turning stage) Old New = MayAt stage Old New

-- and which within its call and after it, made or refused
abbrev pub MayBecome : Stage → Type 0 → Type 0 → Type 0
MayBecome (Storing done rest) Old New = Old
MayBecome (Turning stage) Old New = MayWithin stage Old New

-- What a format stands for, whatever its layout.
use Rattle.std.specs.Prelude.{ℕ, ◌≡◌, ◌≤◌, Bool, IsTrue, []}
use Rattle.disk.specs.Areas.{Areas, Image, AreSound, LeavesImage, image_of}
use Rattle.disk.specs.Calls.{DiskState}
use Rattle.history.specs.Histories.{History}
use Rattle.law_image.specs.Values.{Value}
use Rattle.status.specs.declared.header.Header.{Header}
use Rattle.status.specs.Header.{new_header, total}
use Rattle.status.specs.Reading.{ReadsHeader}
use Rattle.recovery.specs.Format.{LeavesShut}
use Rattle.log_roots.specs.declared.roots.Roots.{Roots}
use Rattle.log_roots.specs.Roots.{root_of}
use Rattle.log_recovery.specs.Opening.{ReadsRoots}
use Rattle.log_store.specs.Formats.{new_roots, FormatStops}
use Rattle.any_store.specs.Formats.{HasStore, IsFormatted}
use Rattle.any_store.specs.Opens.{Opens}
use Rattle.any_store.specs.Values.{StoreValue}
use Rattle.any_store.specs.declared.engine.Engine.TheVariants as engine
use Rattle.any_store.specs.declared.formatting.Layout.{Layout}
use Rattle.any_store.specs.declared.formatting.Layout.TheVariants.{Slots, Log}
use Rattle.law_opening.specs.Laws.{HasNoPieceBehind}
use Rattle.law_log_opened.specs.Formats.{HadNoHeader}
use Rattle.law_any_store.specs.Standing.{Stands, AnyHeader, IsImageOf, opened_as}

-- the header of a new store
abbrev pub header_of : Layout → AnyHeader
header_of (Slots slots) = engine.Slots (new_header 3 slots)
header_of (Log extents) = engine.Log (new_roots extents)

-- a formatted disk holds an image of the empty history, and whatever a stop may leave of it is one
abbrev pub FormatStands : Type 0
FormatStands = (layout : Layout) (old new : Areas) → IsFormatted layout old new
    → IsImageOf (header_of layout) (image_of new) [] (λ relation. 0)
    × ((image : Image) → LeavesImage new image → IsImageOf (header_of layout) image [] (λ relation. 0))

-- a store that is opened on a formatted disk, or on what a stop left of it, stands for the empty history
abbrev pub FormatOpens : Type 0
FormatOpens = (tells : Bool) (layout : Layout) (old new : Areas) (disk : DiskState) (mark : ℕ) (v : StoreValue)
    → IsFormatted layout old new → LeavesImage new (image_of disk.areas) → AreSound disk.areas → Opens tells disk mark v → IsTrue tells
    → Stands tells v (opened_as (header_of layout) [] (λ relation. 0))

-- ---- a stop within a format

-- Where a format of slots left all of them closed, a header of no more slots that is read there stands for the empty history too; where its profile has
-- pieces, if it left no gate behind the open ones open.
abbrev pub SlotStopsStand : Type 0
SlotStopsStand =
    (slots : ℕ) (new : Areas) (image : Image) (header : Header) → LeavesShut slots new.status → LeavesImage new image → ReadsHeader image.status header
    → total header ≤ slots → HasNoPieceBehind header image.status → IsImageOf (engine.Slots header) image [] (λ relation. 0)

-- Where no header stood before a format of a log, one that is read of what a stop left, and whose log begins in the first extent, stands for the empty history.
abbrev pub LogStopsStand : Type 0
LogStopsStand =
    (old new : Areas) (image : Image) (roots : Roots) → FormatStops old new → HadNoHeader old → LeavesImage new image
    → ReadsRoots image.status roots → root_of roots ≡ 1 → IsImageOf (engine.Log roots) image [] (λ relation. 0)

-- ---- a store that stands there already

-- An image that stands for a history, in either layout, holds a store that a format of any layout sees: by its clause nothing then changes.
abbrev pub ImageIsSeen : Type 0
ImageIsSeen = (header : AnyHeader) (image : Image) (h : History Value) (floors : ℕ → ℕ) → IsImageOf header image h floors → HasStore image.status

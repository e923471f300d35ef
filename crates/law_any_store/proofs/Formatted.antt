-- A formatted disk stands for the empty history, in either layout.
use Rattle.std.proofs.Common.{ℕ, Bool, IsTrue, [], inl, inr}
use Rattle.disk.specs.Areas.{Areas, Image, AreSound, LeavesImage, image_of}
use Rattle.disk.specs.Calls.{DiskState}
use Rattle.history.specs.Histories.{History}
use Rattle.law_image.specs.Values.{Value}
use Rattle.any_store.specs.Formats.{HasStore, IsFormatted}
use Rattle.any_store.specs.Opens.{Opens}
use Rattle.any_store.specs.Values.{StoreValue}
use Rattle.any_store.specs.declared.engine.Engine.TheVariants as engine
use Rattle.any_store.specs.declared.formatting.Layout.{Layout}
use Rattle.any_store.specs.declared.formatting.Layout.TheVariants.{Slots, Log}
use Rattle.law_opening.proofs.Formatted as slot_formatted
use Rattle.law_log_opened.proofs.Formatted as log_formatted
use Rattle.law_any_store.specs.Formatted.{header_of}
use Rattle.law_any_store.specs.Standing.{Stands, AnyHeader, IsImageOf, opened_as}
use Rattle.law_any_store.proofs.Opened.{image-slots, image-log, open-stands}

pub formatted-leaves : (layout : Layout) (old new : Areas) (image : Image) → IsFormatted layout old new → LeavesImage new image
    → IsImageOf (header_of layout) image [] (λ relation. 0)
formatted-leaves (Slots slots) old new image is left = slot_formatted.formatted-leaves slots old new image is left
formatted-leaves (Log extents) old new image is left =
    log_formatted.formatted-leaves extents old new image (record { size = is.size; new_is = is.new_is }) left

pub formatted-stands : (layout : Layout) (old new : Areas) → IsFormatted layout old new → IsImageOf (header_of layout) (image_of new) [] (λ relation. 0)
formatted-stands (Slots slots) old new is = slot_formatted.formatted-stands slots old new is
formatted-stands (Log extents) old new is = log_formatted.formatted-stands extents old new (record { size = is.size; new_is = is.new_is })

pub formatted-opens : (tells : Bool) (layout : Layout) (old new : Areas) (disk : DiskState) (mark : ℕ) (v : StoreValue)
    → IsFormatted layout old new → LeavesImage new (image_of disk.areas) → AreSound disk.areas → Opens tells disk mark v → IsTrue tells
    → Stands tells v (opened_as (header_of layout) [] (λ relation. 0))
formatted-opens tells layout old new disk mark v is left sound opens told =
    open-stands tells disk mark v (header_of layout) [] (λ relation. 0) opens told sound (formatted-leaves layout old new (image_of disk.areas) is left)

-- ---- a store that stands there already

pub image-seen : (header : AnyHeader) (image : Image) (h : History Value) (floors : ℕ → ℕ) → IsImageOf header image h floors → HasStore image.status
image-seen (engine.Slots header) image h floors is = inl (record { header = header; reads = image-slots header image h floors is })
image-seen (engine.Log roots) image h floors is = inr (image-log roots image h floors is)

-- A formatted disk stands for the empty history.
use Rattle.std.proofs.Common.{◌≡◌, ◌⊎◌, ℕ, ◌+◌, ◌≤◌, ◌%◌, Bool, IsTrue, List, [], length, drop, replicate, Result, Ok, Err, refl, arith, ap, sym, subst, ◌∙◌}
use Rattle.std.proofs.Common.{inl, inr, ⊎_elim}
use Rattle.std.specs.Prelude.{◌↔◌, ◌<◌, OnOk}
use Rattle.std.proofs.lemmas.Bool.{cases_eq, cases_lt}
use Rattle.std.proofs.lemmas.List.{length-replicate, take_at}
use Rattle.disk.specs.Areas.{Areas, Image, AreSound, MayLeave, LeavesImage, image_of, overlaid}
use Rattle.disk.specs.Calls.{DiskState}
use Rattle.disk.proofs.Parts.{length-overlaid}
use Rattle.history.specs.Machine.{opened_by}
use Rattle.recovery.specs.declared.fault.FormatFault.{FormatFault}
use Rattle.recovery.specs.declared.fault.FormatFault.TheVariants as faults
use Rattle.wire.specs.Numbers.{u32_bytes}
use Rattle.deltas.specs.Extents.{extent_start}
use Rattle.log_roots.specs.declared.roots.Roots.{Roots}
use Rattle.log_roots.specs.Roots.{root_of, IsHeapSize, IsRoots, roots_bytes}
use Rattle.log_recovery.specs.Opening.{ReadsRoots}
use Rattle.log_recovery.specs.Image.{IsReadFrom}
use Rattle.law_log_layout.specs.Turns.{IsClosed}
use Rattle.log_store.specs.Values.{LogStoreValue}
use Rattle.log_store.specs.Formats as formats
use Rattle.log_store.specs.Formats.{new_roots}
use Rattle.log_store.specs.Opens.{Opens}
use Rattle.law_log_store.specs.Standing.{IsImageOf}
use Rattle.law_log_queries.specs.Archive.{Stands}
use Rattle.law_log_queries.proofs.Opening.{opened-stands}
use Rattle.law_log_opened.specs.Formats.{IsFormatted, HadNoHeader}
use Rattle.law_log_opened.proofs.Empty.{empty-image}

-- ---- what is written

roots-long : (gate : ℕ) (r : Roots) → length (roots_bytes gate r) ≡ 512
unfolding roots_bytes u32_bytes
roots-long gate r = omega (arith, length-replicate {A = ℕ} 484 0)

pub new-in_range : (extents : ℕ) → IsHeapSize extents → IsRoots (new_roots extents)
new-in_range extents size =
    record { size = size; root_low = omega arith; root_high = omega (arith, size.least); fits_0 = omega arith; fits_1 = omega arith }

-- the header of a new store is read where it was written
pub headed-reads : (extents : ℕ) (file : List ℕ) → IsHeapSize extents
    → ReadsRoots (overlaid file 0 (roots_bytes 0 (new_roots extents))) (new_roots extents)
headed-reads extents file size =
    let bytes : List ℕ = roots_bytes 0 (new_roots extents) in
    let len : length bytes ≡ 512 = roots-long 0 (new_roots extents) in
    record {
      long = omega (arith, length-overlaid file 0 bytes, len);
      has = record {
        gate = 0;
        gate_fits = omega arith;
        turned = refl;
        in_range = new-in_range extents size;
        bytes_are = take_at bytes (drop (0 + length bytes) file) 512 len;
      };
    }

-- and the gate of the first extent is closed where that was written as zeros
pub zeroed-closed : (file : List ℕ) → IsClosed (extent_start 1) (overlaid file 0 (replicate 8192 0))
zeroed-closed file = record {
  gate = 0;
  closed = λ no. absurd (omega (arith, no));
  held = record { inside = omega (arith, length-overlaid file 0 (replicate 8192 0), length-replicate {A = ℕ} 8192 0); is = refl };
}

-- ---- a format that is made

size-known : (extents : ℕ) → (¬ IsHeapSize extents → ⊥) → IsHeapSize extents
size-known extents known = by-least (cases_lt extents 64) (cases_lt 1048576 extents) (cases_eq (extents % 16) 0)
  where
    by-least : (extents < 64) ⊎ (64 ≤ extents) → (1048576 < extents) ⊎ (extents ≤ 1048576) → (extents % 16 ≡ 0) ⊎ (extents % 16 ≡ 0 → ⊥)
        → IsHeapSize extents
    by-least (inl few) most whole = absurd (known (λ is. omega (arith, few, is.least)))
    by-least (inr least) (inl many) whole = absurd (known (λ is. omega (arith, many, is.most)))
    by-least (inr least) (inr most) (inl whole) = record { least = least; most = most; whole = whole }
    by-least (inr least) (inr most) (inr other) = absurd (known (λ is. other is.whole))

pub format-makes : (extents : ℕ) (old new : Areas) (result : Result (Unit {0}) FormatFault) → ((result ≡ Err faults.BadSlots) ↔ ¬ IsHeapSize extents)
    → OnOk result (new ≡ formats.formatted extents old) → OnOk result (IsFormatted extents old new)
format-makes extents old new (Ok x) bad made =
    record { size = size-known extents (λ none. let no : Ok x ≡ Err faults.BadSlots = bad.1 none in cc); new_is = made }
format-makes extents old new (Err why) bad made = tt

-- an image with such areas
formatted-image : (extents : ℕ) (old : Areas) (image : Image) → IsHeapSize extents
    → image.status ≡ overlaid old.status.bytes 0 (roots_bytes 0 (new_roots extents)) → image.heap ≡ overlaid old.heap.bytes 0 (replicate 8192 0)
    → IsImageOf (new_roots extents) image [] (λ relation. 0)
formatted-image extents old image size status heap =
    empty-image (new_roots extents) image
    (subst (λ (bytes : List ℕ). ReadsRoots bytes (new_roots extents)) (sym status) (headed-reads extents old.status.bytes size))
    (subst (λ (bytes : List ℕ). IsClosed (extent_start 1) bytes) (sym heap) (zeroed-closed old.heap.bytes))

pub formatted-stands : (extents : ℕ) (old new : Areas) → IsFormatted extents old new → IsImageOf (new_roots extents) (image_of new) [] (λ relation. 0)
formatted-stands extents old new is =
    subst (λ (areas : Areas). IsImageOf (new_roots extents) (image_of areas) [] (λ relation. 0)) (sym is.new_is)
    (formatted-image extents old (image_of (formats.formatted extents old)) is.size refl refl)

pub formatted-leaves : (extents : ℕ) (old new : Areas) (image : Image) → IsFormatted extents old new → LeavesImage new image
    → IsImageOf (new_roots extents) image [] (λ relation. 0)
formatted-leaves extents old new image is left =
    let may : LeavesImage (formats.formatted extents old) image = subst (λ (areas : Areas). LeavesImage areas image) is.new_is left in
    formatted-image extents old image is.size (may.status.settled refl) (may.heap.settled refl)

pub formatted-opens : (tells : Bool) (extents : ℕ) (old new : Areas) (disk : DiskState) (mark : ℕ) (v : LogStoreValue)
    → IsFormatted extents old new → LeavesImage new (image_of disk.areas) → AreSound disk.areas → Opens tells disk mark v → IsTrue tells
    → Stands tells v (opened_by 1024 [] (λ relation. 0))
formatted-opens tells extents old new disk mark v is left sound opens told =
    opened-stands tells disk mark v (new_roots extents) [] (λ relation. 0) told sound (formatted-leaves extents old new (image_of disk.areas) is left) opens

-- ---- a stop within a format

pub format-stops : (old new : Areas) (image : Image) (roots : Roots) → formats.FormatStops old new → LeavesImage new image → ReadsRoots image.status roots
    → MayLeave old.status image.status ⊎ (root_of roots ≡ 1 → IsImageOf roots image [] (λ relation. 0))
format-stops old new image roots (inl same) left reads = inl (subst (λ (areas : Areas). MayLeave areas.status image.status) same left.status)
format-stops old new image roots (inr zeros) left reads = inr (λ first.
    let may : MayLeave (formats.zeroed old.heap) image.heap = subst (λ (areas : Areas). MayLeave areas.heap image.heap) zeros left.heap in
    let heap : image.heap ≡ overlaid old.heap.bytes 0 (replicate 8192 0) = may.settled refl in
    empty-image roots image reads
    (subst (λ (n : ℕ). IsClosed (extent_start n) image.heap) (sym first)
    (subst (λ (bytes : List ℕ). IsClosed (extent_start 1) bytes) (sym heap) (zeroed-closed old.heap.bytes))))

-- where none stood, none is read of what the status area was
none-read : (old : Areas) (content : List ℕ) (roots : Roots) → HadNoHeader old → MayLeave old.status content → ReadsRoots content roots → ⊥
none-read old content roots none left reads =
    let here = subst (λ (bytes : List ℕ). ReadsRoots bytes roots) (left.settled none.settled.loose) reads in
    none.free (record { long = here.long; header = inr (roots, here.has) })

pub stops-empty : (old new : Areas) (image : Image) (roots : Roots) → formats.FormatStops old new → HadNoHeader old → LeavesImage new image
    → ReadsRoots image.status roots → root_of roots ≡ 1 → IsImageOf roots image [] (λ relation. 0)
stops-empty old new image roots stops none left reads first =
    ⊎_elim (λ was. absurd (none-read old image.status roots none was reads)) (λ stands. stands first)
    (format-stops old new image roots stops left reads)

pub stop-opens : (tells : Bool) (old new : Areas) (disk : DiskState) (mark : ℕ) (v : LogStoreValue) → formats.FormatStops old new → HadNoHeader old
    → LeavesImage new (image_of disk.areas) → AreSound disk.areas → Opens tells disk mark v → IsTrue tells → root_of v.roots ≡ 1
    → Stands tells v (opened_by 1024 [] (λ relation. 0))
stop-opens tells old new disk mark v stops none left sound opens told first =
    let read : IsReadFrom (image_of disk.areas) opens.recovered = opens.read told in
    let roots : Roots = opens.recovered.roots in
    let same : v.roots ≡ roots = ap (λ (x : LogStoreValue). x.roots) opens.new_is in
    opened-stands tells disk mark v roots [] (λ relation. 0) told sound
    (stops-empty old new (image_of disk.areas) roots stops none left read.roots (sym (ap root_of same) ∙ first)) opens

-- A store that is opened stands for the history of its image, in either layout.
use Rattle.std.proofs.Common.{◌≡◌, ℕ, ◌≤◌, ◌^◌, Bool, false, true, IsTrue, List, [], length, take, drop, Option, None, Some, MatchBool}
use Rattle.std.proofs.Common.{refl, arith, ap, sym, subst, ◌∙◌}
use Rattle.disk.specs.Areas.{Image, AreSound, image_of}
use Rattle.disk.specs.Calls.{DiskState}
use Rattle.byteorder.specs.Endian.{little_number}
use Rattle.byteorder.specs.Numbers.{little_from-bytes}
use Rattle.wire.specs.Numbers.{u32_bytes}
use Rattle.history.specs.Histories.{History}
use Rattle.history.specs.Machine.{opened_by}
use Rattle.law_image.specs.Values.{Value}
use Rattle.status.specs.declared.header.Header.{Header}
use Rattle.status.specs.Reading as slot_headers
use Rattle.log_roots.specs.declared.roots.Roots.{Roots}
use Rattle.log_roots.specs.Roots.{HasRoots, root_of, roots_bytes}
use Rattle.log_writer.specs.Writer.{WriterState}
use Rattle.log_store.specs.Formats.{HasLogHeader}
use Rattle.log_store.specs.Opens as log_opens
use Rattle.log_store.specs.Values.{LogStoreValue, IsInStep}
use Rattle.log_store.specs.declared.job.Job.{Job}
use Rattle.log_store.proofs.Places.{has-place, image-counts}
use Rattle.any_store.specs.declared.engine.Engine.TheVariants.{Slots, Log}
use Rattle.any_store.specs.Values.{StoreValue}
use Rattle.any_store.specs.Opens.{Opens}
use Rattle.law_refinement.specs.OnDisk as slot_images
use Rattle.law_log_store.specs.Standing as log_images
use Rattle.law_log_store.specs.Standing.{StopsOnHeap, StandsOnHeap, HasTurn, HasJob}
use Rattle.law_log_store.proofs.Headers.{image-size}
use Rattle.law_log_store.proofs.Opening.{read as log-read}
use Rattle.law_log_queries.specs.Archive as logs
use Rattle.law_log_queries.proofs.Opening.{opened-stands}
use Rattle.law_log_opened.proofs.Reopened.{open-size}
use Rattle.law_opening.proofs.Opened as slot_opened
use Rattle.law_any_store.specs.Standing.{Stands, AnyHeader, IsImageOf, opened_as, opened_in}
use Rattle.law_any_store.specs.Opened.{IsOfHeader, RecoversHeader}

-- ---- headers

-- the header of a log in the heap says its profile
profile-4 : (bytes : List ℕ) (r : Roots) → HasRoots bytes r → little_number 4 (drop 8 bytes) ≡ 4
unfolding roots_bytes u32_bytes
profile-4 bytes r has = ap (λ (l : List ℕ). little_number 4 (drop 8 l)) has.bytes_are ∙ little_from-bytes 4 0 4 (drop 12 (roots_bytes has.gate r)) ∙ omega arith

-- a header of slots is of another profile
pub slots-no_log : (status : List ℕ) (header : Header) → slot_headers.ReadsHeader status header → HasLogHeader status → ⊥
slots-no_log status header reads log =
    let front = reads.stands.front in
    let of_slots = front.says.profile in
    let highest = front.numbers.highest in
    let of_log = profile-4 (take 512 status) (log.header).0 (log.header).1 in
    omega (arith, of_slots, highest, of_log)

pub image-slots : (header : Header) (image : Image) (h : History Value) (floors : ℕ → ℕ) → slot_images.IsImageOf header image h floors
    → slot_headers.ReadsHeader image.status header
image-slots header image h floors is = record { stands = is.held.log.header_is; built = is.profile_built }

pub image-log : (roots : Roots) (image : Image) (h : History Value) (floors : ℕ → ℕ) → log_images.IsImageOf roots image h floors → HasLogHeader image.status
image-log roots image h floors is = record { long = is.status.long; header = (is.read, is.status.has) }

-- ---- a store whose log lies in the heap

module _ (tells : Bool) (old : DiskState) (mark : ℕ) (l : LogStoreValue) (roots : Roots) (h : History Value) (floors : ℕ → ℕ)
    (opens : log_opens.Opens tells old mark l) (told : IsTrue tells) (sound : AreSound old.areas)
    (image : log_images.IsImageOf roots (image_of old.areas) h floors) where
  log-stands : logs.Stands tells l (opened_by 1024 h floors)
  log-stands = opened-stands tells old mark l roots h floors told sound image opens

  -- its heap is at rest, and has the extents of its header
  log-many : length l.room.used ≡ l.roots.extents
  log-many =
      at-rest
      (by-failed l.commits.failed (ap (λ (x : LogStoreValue). x.commits.failed) opens.new_is) ((log-stands.store).disk told))
    where
      by-failed : (b : Bool) → b ≡ false → MatchBool b (StopsOnHeap l h [] floors) (StandsOnHeap l h [] floors) → StandsOnHeap l h [] floors
      by-failed true works on = absurd cc
      by-failed false works on = on

      by-job : (j : Option Job) → j ≡ None → (heap : StandsOnHeap l h [] floors) → HasJob l heap.l heap.reading heap.made j
          → length l.room.used ≡ l.roots.extents
      by-job None none heap rests = rests.room.many
      by-job (Some job) none heap way = absurd cc

      by-turn : (t : Option WriterState) → t ≡ None → (heap : StandsOnHeap l h [] floors) → HasTurn l [] heap.l heap.reading heap.made h t
          → length l.room.used ≡ l.roots.extents
      by-turn None none heap rests = by-job l.job (ap (λ (x : LogStoreValue). x.job) opens.new_is) heap rests
      by-turn (Some w) none heap way = absurd cc

      at-rest : StandsOnHeap l h [] floors → length l.room.used ≡ l.roots.extents
      at-rest heap = by-turn l.turn (ap (λ (x : LogStoreValue). x.turn) opens.new_is) heap heap.turn

  log-few : length l.room.used ≤ 2 ^ 20
  log-few =
      let same = open-size tells old mark l roots h floors opens told image in
      let size = image-size roots (image_of old.areas) h floors image in
      let many = log-many in
      omega (arith, same, size.most, many)

  log-in-step : IsInStep l
  log-in-step =
      subst IsInStep (sym opens.new_is) (record {
        contents = refl;
        bytes = tt;
        promised = refl;
        few = omega arith;
        many = subst (λ (x : LogStoreValue). length x.room.used ≤ 2 ^ 20) opens.new_is log-few;
        counted = image-counts (image_of old.areas) opens.recovered (opens.read told);
        turn = refl;
        beside = tt;
        place = tt;
        live = (has-place roots.extents (root_of image.read) (image_of old.areas).heap opens.recovered.heap
            (image-size roots (image_of old.areas) h floors image) (log-read tells old mark l roots h floors told sound image opens)).live;
        reclaim = refl;
      })

-- ---- in either

pub open-stands : (tells : Bool) (old : DiskState) (mark : ℕ) (v : StoreValue) (header : AnyHeader) (h : History Value) (floors : ℕ → ℕ)
    → Opens tells old mark v → IsTrue tells → AreSound old.areas → IsImageOf header (image_of old.areas) h floors
    → Stands tells v (opened_as header h floors)
open-stands tells old mark (Slots s) (Slots header) h floors opens told sound image =
    slot_opened.open-stands tells old mark s header h floors opens.engine told sound image
open-stands tells old mark (Slots s) (Log roots) h floors opens told sound image =
    absurd (opens.layout told (image-log roots (image_of old.areas) h floors image))
open-stands tells old mark (Log l) (Slots header) h floors opens told sound image =
    absurd (slots-no_log (image_of old.areas).status header (image-slots header (image_of old.areas) h floors image) (opens.layout told))
open-stands tells old mark (Log l) (Log roots) h floors opens told sound image = (
  log-in-step tells old mark l roots h floors opens.engine told sound image,
  log-stands tells old mark l roots h floors opens.engine told sound image,
)

-- a store that is opened on such an image has its header
pub open-header : (tells : Bool) (old : DiskState) (mark : ℕ) (v : StoreValue) (header : AnyHeader) (h : History Value) (floors : ℕ → ℕ)
    → Opens tells old mark v → IsTrue tells → IsImageOf header (image_of old.areas) h floors → IsOfHeader v header
open-header tells old mark (Slots s) (Slots header) h floors opens told image = slot_opened.open-header tells old mark s header h floors opens.engine told image
open-header tells old mark (Slots s) (Log roots) h floors opens told image = opens.layout told (image-log roots (image_of old.areas) h floors image)
open-header tells old mark (Log l) (Slots header) h floors opens told image =
    slots-no_log (image_of old.areas).status header (image-slots header (image_of old.areas) h floors image) (opens.layout told)
open-header tells old mark (Log l) (Log roots) h floors opens told image = open-size tells old mark l roots h floors opens.engine told image

-- so it is opened as its own layout says
header-opened : (v : StoreValue) (header : AnyHeader) (h : History Value) (floors : ℕ → ℕ) → IsOfHeader v header
    → opened_as header h floors ≡ opened_in v h floors
header-opened (Slots s) (Slots header) h floors of = refl
header-opened (Slots s) (Log roots) h floors of = absurd of
header-opened (Log l) (Slots header) h floors of = absurd of
header-opened (Log l) (Log roots) h floors of = refl

pub open-stands_in : (tells : Bool) (old : DiskState) (mark : ℕ) (v : StoreValue) (header : AnyHeader) (h : History Value) (floors : ℕ → ℕ)
    → Opens tells old mark v → IsTrue tells → AreSound old.areas → IsImageOf header (image_of old.areas) h floors
    → Stands tells v (opened_in v h floors)
open-stands_in tells old mark v header h floors opens told sound image =
    subst (Stands tells v) (header-opened v header h floors (open-header tells old mark v header h floors opens told image))
    (open-stands tells old mark v header h floors opens told sound image)

pub image-header : (tells : Bool) (header : AnyHeader) (image : Image) (h : History Value) (floors : ℕ → ℕ) → IsTrue tells → IsImageOf header image h floors
    → RecoversHeader tells image header
image-header tells (Slots header) image h floors told is = record {
  reads = image-slots header image h floors is;
  recovered =
      λ disk mark again same opens. open-header tells disk mark again (Slots header) h floors opens told
      (subst (λ (i : Image). slot_images.IsImageOf header i h floors) (sym same) is);
}
image-header tells (Log roots) image h floors told is = record {
  reads = (is.read, is.status, is.size);
  recovered =
      λ disk mark again same opens. open-header tells disk mark again (Log roots) h floors opens told
      (subst (λ (i : Image). log_images.IsImageOf roots i h floors) (sym same) is);
}

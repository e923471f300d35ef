-- What a write of one extent keeps of the others.
use Rattle.std.proofs.Common.{◌≡◌, ◌≢◌, ℕ, List, [], ◌∷◌, ◌++◌, length, refl, arith, length-append}
use Rattle.std.proofs.lemmas.List.{length-replicate}
use Rattle.std.specs.List.{AllByRecursion}
use Rattle.wire.specs.Spelling.{u32_bytes}
use Rattle.disk.specs.Areas.{AreaState, IsSound, loosened, written, synced, overlaid}
use Rattle.disk.proofs.Stops.{MayLeave-torn, IsTorn-overlaid}
use Rattle.disk.specs.Parts.{AreApart, IsLoosened}
use Rattle.disk.proofs.Parts.{kept_by_write, kept_by_sync, synced_part, written_part, part_beside}
use Rattle.history.proofs.Filters.{AllByRecursion-append}
use Rattle.law_layout.specs.Extents.{Extent, IsExtent, extent_start, extent_bytes, HoldsExtent, KeepsExtent}
use Rattle.law_layout.specs.Keeping.{KeepsExtents}
use Rattle.law_layout.proofs.Lists.{three, weaker, numbers_apart}

u32-length : (n : ℕ) → length (u32_bytes n) ≡ 4
unfolding u32_bytes
u32-length n = refl

-- an extent has 8,192 bytes
pub extent-length : (e : Extent) → IsExtent e → length (extent_bytes e) ≡ 8192
unfolding extent_bytes
extent-length e is =
    let fits = is.fits in
    simp (length-append, length-replicate, u32-length) (omega arith)

extents_apart : (f e : Extent) → IsExtent f → IsExtent e → f.number ≢ e.number
    → AreApart (extent_start f.number) (length (extent_bytes f)) (extent_start e.number) (length (extent_bytes e))
extents_apart f e is_f is_e other = rw (extent-length f is_f, extent-length e is_e) (numbers_apart f.number e.number is_f.low is_e.low other)

-- a write, in full or in part, loosens what it writes
pub loosened_is : (at n : ℕ) (a : AreaState) → IsLoosened at n a (loosened at n a.bytes a)
loosened_is at n a = record { firm = refl; left = λ content left. left }

pub written_is : (at : ℕ) (bytes : List ℕ) (a : AreaState) → IsSound a → IsLoosened at (length bytes) a (written at bytes a)
written_is at bytes a sound =
    record {
      firm = refl;
      left = λ content left. MayLeave-torn a at (length bytes) (overlaid a.bytes at bytes) content sound (IsTorn-overlaid a.bytes at bytes) left;
    }

module _ (e : Extent) (is : IsExtent e) (others : List Extent) (are : AllByRecursion IsExtent others) (apart : AllByRecursion (λ f. f.number ≢ e.number) others)
  where
    -- the write of an extent keeps the others
    pub others_kept : (old new : AreaState) → IsSound old → IsLoosened (extent_start e.number) (length (extent_bytes e)) old new → KeepsExtents others old
        → KeepsExtents others new
    others_kept old new sound loose keeps =
        three IsExtent (λ f. f.number ≢ e.number) (KeepsExtent old) (KeepsExtent new) others
        (λ f is_f other kept. kept_by_write (extent_start e.number) (length (extent_bytes e)) (extent_start f.number) (extent_bytes f) old new sound kept
        (extents_apart f e is_f is other) loose)
        are apart keeps

    -- and they are read as before, beside it
    pub one_more_held : (file : List ℕ) → AllByRecursion (HoldsExtent file) others
        → AllByRecursion (HoldsExtent (overlaid file (extent_start e.number) (extent_bytes e))) (others ++ e ∷ [])
    one_more_held file held =
        let new : List ℕ = overlaid file (extent_start e.number) (extent_bytes e) in
        AllByRecursion-append (HoldsExtent new) others (e ∷ [])
        (three IsExtent (λ f. f.number ≢ e.number) (HoldsExtent file) (HoldsExtent new) others
        (λ f is_f other was. part_beside (extent_start e.number) (extent_start f.number) (extent_bytes e) (extent_bytes f) file
        (extents_apart f e is_f is other)
        was)
        are apart held)
        (written_part (extent_start e.number) (extent_bytes e) file, tt)

-- a sync keeps what is kept, and what is read
pub extents_kept_by_sync : (es : List Extent) (a : AreaState) → IsSound a → KeepsExtents es a → KeepsExtents es (synced a)
extents_kept_by_sync es a sound keeps =
    weaker (KeepsExtent a) (KeepsExtent (synced a)) es (λ e kept. kept_by_sync (extent_start e.number) (extent_bytes e) a sound kept) keeps

pub extents_synced : (es : List Extent) (a : AreaState) → AllByRecursion (HoldsExtent a.bytes) es → KeepsExtents es (synced a)
extents_synced es a held = weaker (HoldsExtent a.bytes) (KeepsExtent (synced a)) es (λ e was. synced_part (extent_start e.number) (extent_bytes e) a was) held

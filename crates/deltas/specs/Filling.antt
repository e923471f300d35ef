-- Extents filled one after the other, each with as many of the records that are left as it holds.
use Rattle.std.specs.Prelude.{◌≡◌, ◌≢◌, ℕ, ◌≤◌, nat_le, if◌then◌else◌, Option, None, Some, List, [], ◌∷◌, ◌++◌, length, map}
use Rattle.std.specs.List.{flat_map}
use Rattle.deltas.specs.declared.«record».Record.{Record}
use Rattle.deltas.specs.declared.filled_extent.FilledExtent.{FilledExtent}
use Rattle.deltas.specs.declared.filled_extent.ExtentCount.{ExtentCount}
use Rattle.deltas.specs.Records.{spelling}
use Rattle.deltas.specs.Packing.{bodies}
use Rattle.deltas.specs.Extents.{extent_bytes}
use Rattle.deltas.specs.Chains.{first_number}

-- the first record, if its bytes fit there
abbrev pub first_within : ℕ → List Record → Option Record
first_within room [] = None
first_within room (r ∷ records) = if nat_le (length (spelling r)) room then Some r else None

-- the first body of the records that were left before; the extents of those that are left after it are the others
pub record IsFirstBody (before : List Record) (body : List ℕ) (filled : FilledExtent) (after : List Record) : Type 0 where
  pub taken : List Record
  pub all : before ≡ taken ++ after
  pub body_is : body ≡ flat_map spelling taken
  pub packed : before ≢ [] → bodies (map spelling before) ≡ body ∷ bodies (map spelling after)
  pub records : filled.records ≡ length taken
  pub used : filled.used ≡ length body
  pub fits : length body ≤ 8176

-- all bytes of the extent are those of this body
pub record IsFilled (number next : ℕ) (before : List Record) (image : List ℕ) (filled : FilledExtent) (after : List Record) : Type 0 where
  pub body : List ℕ
  pub first : IsFirstBody before body filled after
  pub image_is : image ≡ extent_bytes (record { number = number; next = next; body = body })

-- These images, in the extents of these numbers, were filled one after the other, until no record was left.
-- They are the extents of the packed list (the law filled_is_packed).
abbrev pub AreFilled : List ℕ → List Record → List (List ℕ) → Type 0
AreFilled [] records [] = records ≡ []
AreFilled [] records (image ∷ images) = ⊥
AreFilled (n ∷ ns) records [] = ⊥
AreFilled (n ∷ ns) records (image ∷ images) =
    (filled : FilledExtent) × (after : List Record) × (records ≢ []) × IsFilled n (first_number ns) records image filled after × AreFilled ns after images

-- how many extents and records
pub record IsCountOf (left : List Record) (count : ExtentCount) : Type 0 where
  pub extents : count.extents ≡ length (bodies (map spelling left))
  pub records : count.records ≡ length left

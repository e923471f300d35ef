-- A commit that waits.
use Rattle.std.specs.Prelude.{ℕ, List, [], ◌∷◌, map}
use Rattle.wire.specs.declared.slot.Member.{Member}
use Rattle.chains.specs.KeyWrites.{KeyWrites}
use Rattle.group.specs.declared.queued.StoredExtent.{StoredExtent}

-- a commit that waits, with all that its publishing needs
pub record QueuedValue : Type 0 where
  -- what its slot is to say of it
  pub entry : Member
  -- the versions after it
  pub after : List KeyWrites
  -- the mark up to which these versions have forgotten what ended
  pub reclaimed : ℕ
  -- its extents with their bytes, in the order of its chain
  pub stored : List StoredExtent

-- the numbers of its extents
abbrev pub numbers_of : QueuedValue → List ℕ
numbers_of q = map (λ s. s.extent) q.stored

-- these extents with these bytes
abbrev pub stored_as : List ℕ → List (List ℕ) → List StoredExtent
stored_as [] images = []
stored_as (n ∷ ns) [] = []
stored_as (n ∷ ns) (image ∷ images) = record { extent = n; image = image } ∷ stored_as ns images

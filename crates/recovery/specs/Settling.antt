-- What opening does to a disk before it reads: it syncs each area.
use Rattle.std.specs.Prelude.{◌≡◌, ℕ, ◌+◌, ◌≤◌, Bool, IsTrue, List, [], ◌∷◌, Result}
use Rattle.std.specs.List.{AllByRecursion}
use Rattle.disk.specs.Areas.{LeavesNoMore}
use Rattle.disk.specs.Calls.{DiskState, Counts, Syncs, top}
use Rattle.disk.specs.declared.area.Area.{Area}
use Rattle.disk.specs.declared.area.Area.TheVariants.{Status, Heap, Archive}
use Rattle.disk.specs.declared.area.DeviceFault.{DeviceFault}

-- one sync of an area, made or refused
pub record IsSync (tells : Bool) (area : Area) (old new : DiskState) : Type 0 where
  pub answer : Result (Unit {0}) DeviceFault
  pub counts : Counts answer old new
  pub areas : IsTrue tells → Syncs area answer old.areas new.areas

-- from one moment to the next an area is synced, of these areas the first ones in their order
abbrev pub AreSyncs : Bool → List Area → DiskState → List DiskState → Type 0
AreSyncs tells areas old [] = Unit {0}
AreSyncs tells [] old (m ∷ moments) = ⊥
AreSyncs tells (area ∷ areas) old (m ∷ moments) = IsSync tells area old m × AreSyncs tells areas m moments

-- the last of these moments, or the one before them
abbrev pub last_moment : DiskState → List DiskState → DiskState
last_moment old [] = old
last_moment old (m ∷ moments) = last_moment m moments

-- The disk's states behind each write or sync of an opening: it syncs the three areas in turn, and writes nothing. What a stop leaves at any of these moments
-- it might have left before the first of them.
pub record Settles (tells : Bool) (old new : DiskState) : Type 0 where
  pub moments : List DiskState
  pub syncs : AreSyncs tells (Status ∷ Heap ∷ Archive ∷ []) old moments
  -- from then on it only reads
  pub reads : new ≡ record (last_moment old moments) { refused = new.refused }
  pub left : IsTrue tells → AllByRecursion (λ m. LeavesNoMore old.areas m.areas) moments

-- So many writes and syncs more were counted. No disk counts beyond the top.
abbrev pub CountsMore : ℕ → DiskState → DiskState → Type 0
CountsMore n old new = old.made ≤ top → new.made ≡ old.made + n

-- at most so many
abbrev pub CountsAtMost : ℕ → DiskState → DiskState → Type 0
CountsAtMost n old new = new.made ≤ old.made + n

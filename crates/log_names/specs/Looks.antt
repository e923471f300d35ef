-- A look into a part of the archive.
use Rattle.std.specs.Prelude.{◌≡◌, ◌⊎◌, ℕ, ◌+◌, ◌<◌, ◌≤◌, IsTrue, Bool, List, [], ◌∷◌, length, Result, IfErr, MatchResult}
use Rattle.disk.specs.Calls.{DiskState}
use Rattle.archive.specs.declared.fault.ArchiveFault.{ArchiveFault}
use Rattle.archive.specs.declared.fault.ArchiveFault.TheVariants.{Device, NoMemory, Damaged}
use Rattle.archive.specs.Parts.{IsRight, Keeps}
use Rattle.archive.specs.Searches.{archive_of, after_query}
use Rattle.archive.specs.Damages.{IfDamaged}

-- a refusal, or that what begins here is damaged
abbrev pub IsFaultAt : ℕ → ArchiveFault → Type 0
IsFaultAt start Device = Unit {0}
IsFaultAt start NoMemory = Unit {0}
IsFaultAt start (Damaged damaged) = damaged ≡ start

-- A look into what lies from this place on, as long as this: it writes and syncs nothing, what is kept afterwards is right if what was kept before is, and it
-- reaches no further; a fault is a refusal, or that what begins there is damaged.
pub record LooksAt {T : Type 0} (start len : ℕ) (tells : Bool) (old new : DiskState) (before after : List (ℕ
    × List ℕ)) (result : Result T ArchiveFault) : Type 0 where
  pub disk : new ≡ after_query result old
  pub kept : Keeps (start + len) tells (archive_of old) before after
  pub damaged : IfErr result (IsFaultAt start)

-- The answer follows from the archive's bytes, where the disk tells them and what is kept is right: this of the answer, or that of the start of what is
-- damaged.
abbrev pub Follows : {T : Type 0} → Bool → DiskState → List (ℕ × List ℕ) → Result T ArchiveFault → (List ℕ → T → Type 0) → (List ℕ → ℕ → Type 0) → Type 0
Follows tells state kept result Is Breaks =
    IsTrue tells → IsRight kept (archive_of state) → MatchResult result (Is (archive_of state)) (IfDamaged (Breaks (archive_of state)))

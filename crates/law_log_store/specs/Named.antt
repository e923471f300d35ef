-- What the log names in the archive, as memory has it.
use Rattle.std.specs.Prelude.{ℕ, ◌≡◌, ◌+◌, ◌≤◌, map, flat_map}
use Rattle.std.specs.List.{AllByRecursion}
use Rattle.wire.specs.declared.slot.Run.{Run}
use Rattle.law_image.specs.Reading.{Reading}
use Rattle.law_image.specs.StandsFor.{archived_upto}
use Rattle.log_recovery.specs.Read.{all_archives}
use Rattle.log_store.specs.Named.{NamedValue}
use Rattle.law_log_layout.specs.HeapLog.{PlacedChain, PlacedRoll, HeapLog, archives_in}

-- This place of the archive is behind all that the log names there, also behind a run that another took the place of.
pub record IsBehind (place : ℕ) (l : HeapLog) : Type 0 where
  pub runs : AllByRecursion (λ (run : Run). run.start + run.len ≤ place) (flat_map (λ (c : PlacedChain). archives_in c.entry) l.chains)
  pub rolls : AllByRecursion (λ (r : PlacedRoll). r.roll.start + r.roll.len ≤ place) l.rolls

-- Memory has what the log names in the archive.
pub record IsNamedBy (named : NamedValue) (l : HeapLog) (reading : Reading) : Type 0 where
  pub archives : named.archives ≡ all_archives l.chains
  pub rolls : named.rolls ≡ map (λ (r : PlacedRoll). r.roll) l.rolls
  pub upto : named.upto ≡ archived_upto reading
  pub end : IsBehind named.end l

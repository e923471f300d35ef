-- The chains of a log as memory keeps them: their extents, and what they say but for the records of commits.
use Rattle.std.specs.Prelude.{ℕ, List, [], length, flat_map}
use Rattle.law_image.specs.Log.{last_time_after}
use Rattle.law_log.specs.Chains.{commits_in}
use Rattle.log_entries.specs.declared.entry.Entry.{Entry}
use Rattle.log_entries.specs.declared.entry.Entry.TheVariants.{Group}
use Rattle.log_entries.specs.declared.entry.Entry.TheVariants as entries
use Rattle.law_log_layout.specs.HeapLog.{PlacedChain, chain_told}
use Rattle.log_recovery.specs.declared.live.LivePart.{LivePart}
use Rattle.log_recovery.specs.declared.live.LivePart.TheVariants.{Commits, Archived, Floor, Base}

-- a chain: its extents, and what it says
pub record LiveChainValue : Type 0 where
  pub numbers : List ℕ
  pub part : LivePart

-- the time of the last commit that a chain has, 0 for none
abbrev pub last_in : Entry → ℕ
last_in entry = last_time_after 0 (commits_in (chain_told [] entry))

-- what is kept of what a chain says
abbrev pub part_of : Entry → LivePart
part_of (Group members) = Commits (last_in (Group members))
part_of (entries.Archived archive) = Archived archive
part_of (entries.Floor floor) = Floor floor
part_of (entries.Base base) = Base base

-- a chain of the log, as memory keeps it
abbrev pub live_of : PlacedChain → LiveChainValue
live_of c = record { numbers = c.numbers; part = part_of c.entry }

-- the extents of a chain that count as the log's: all but those of a base
abbrev pub counted_at : LivePart → List ℕ → List ℕ
counted_at (Commits time) numbers = numbers
counted_at (Archived archive) numbers = numbers
counted_at (Floor floor) numbers = numbers
counted_at (Base base) numbers = []

-- how many extents of these chains do
abbrev pub live_count : List LiveChainValue → ℕ
live_count chains = length (flat_map (λ (c : LiveChainValue). counted_at c.part c.numbers) chains)

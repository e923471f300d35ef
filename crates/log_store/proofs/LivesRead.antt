-- The chains that opening reads, as memory keeps them.
use Rattle.std.proofs.Common.{◌≡◌, ℕ, ◌≤◌, ◌^◌, false, List, [], ◌∷◌, drop, map, refl, arith}
use Rattle.std.specs.List.{AllByRecursion}
use Rattle.law_image.specs.Reading as slots
use Rattle.law_log.specs.Chains.{MayAllFollow}
use Rattle.law_log.specs.Chains as logs
use Rattle.log_extents.specs.Chains.{IsNumberOf}
use Rattle.log_entries.specs.declared.entry.Entry.{Entry}
use Rattle.log_entries.specs.declared.entry.Entry.TheVariants.{Group, Archived, Floor}
use Rattle.log_entries.specs.declared.entry.Entry.TheVariants as entries
use Rattle.law_log_layout.specs.HeapLog.{PlacedChain, IsPlaced, chain_told, chains_told}
use Rattle.log_recovery.specs.Live.{part_of, live_of}
use Rattle.log_store.specs.Live.{is_base, IsNoBase, AreNumbers, HasNumbers}
use Rattle.log_store.proofs.Rooms.{none-after}

-- extents of a heap are extents of any
pub wider : (most : ℕ) (ns : List ℕ) → most ≤ 2 ^ 20 → AllByRecursion (IsNumberOf most) ns → AreNumbers ns
wider most [] few all = tt
wider most (n ∷ ns) few all = ((all.0.0, let high = all.0.1 in omega (arith, high, few)), wider most ns few all.1)

pub placed-numbers : (most : ℕ) (chains : List PlacedChain) → most ≤ 2 ^ 20 → AllByRecursion (IsPlaced most) chains
    → AllByRecursion HasNumbers (map live_of chains)
placed-numbers most [] few placed = tt
placed-numbers most (c ∷ cs) few placed = (wider most c.numbers few (placed.0).in_range, placed-numbers most cs few placed.1)

-- no chain but the first is a base
one-no-base : (names : List slots.Head) (e : Entry) → logs.IsNoBase (chain_told names e) → is_base (part_of e) ≡ false
one-no-base names (Group members) is = refl
one-no-base names (Archived archive) is = refl
one-no-base names (Floor floor) is = refl
one-no-base names (entries.Base base) is = absurd is

no-bases : (names : List slots.Head) (chains : List PlacedChain) → AllByRecursion logs.IsNoBase (chains_told names chains)
    → AllByRecursion IsNoBase (map live_of chains)
no-bases names [] none = tt
no-bases names (c ∷ cs) none = (one-no-base names c.entry none.0, no-bases names cs none.1)

pub none-behind-first : (names : List slots.Head) (chains : List PlacedChain)
    → MayAllFollow (logs.reclaimed_by (chains_told names chains)) 0 [] (chains_told names chains) → AllByRecursion IsNoBase (drop 1 (map live_of chains))
none-behind-first names [] may = tt
none-behind-first names (c ∷ cs) may = no-bases names cs (none-after (chain_told names c.entry) (chains_told names cs) may)

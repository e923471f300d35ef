-- The members of a log, chain by chain.
use Rattle.std.proofs.Common.{◌≡◌, ℕ, nat_lt, List, [], ◌∷◌, ◌++◌, Option, refl, ap, ◌∙◌}
use Rattle.std.specs.Prelude.{filter, flat_map}
use Rattle.history.specs.declared.key.Key.{Key}
use Rattle.history.specs.Versions.{versions}
use Rattle.history.specs.Histories.{writes_of}
use Rattle.law_image.specs.Values.{Value}
use Rattle.law_image.specs.Reading.{Head, Member, Reading}
use Rattle.law_image.specs.Facts.{AreStored, commits_from, heap_versions, latest, old_writes}
use Rattle.law_log.specs.Chains.{LogChain, members_in, members_of}
use Rattle.law_log_sizes.proofs.Chains.{by-chain}
use Rattle.log_entries.specs.declared.entry.Entry.{Entry}
use Rattle.log_entries.specs.declared.entry.Entry.TheVariants.{Group, Archived, Floor}
use Rattle.log_entries.specs.declared.entry.Entry.TheVariants as entries
use Rattle.law_log_layout.specs.HeapLog.{PlacedChain, chain_told, chains_told}
use Rattle.log_recovery.specs.Rules.{mark_of}
use Rattle.log_recovery.specs.Members.{later_than, members_later, members_of_all, values_behind, AreAllStored}
use Rattle.log_recovery.proofs.Facts.{stored_front, stored_back}
use Rattle.law_log_opening.proofs.Named.{mark-same}

members-same : (names : List Head) (e : Entry) → members_in (chain_told names e) ≡ members_in (chain_told [] e)
members-same names (Group members) = refl
members-same names (Archived archive) = refl
members-same names (Floor floor) = refl
members-same names (entries.Base base) = refl

by-placed : (mark : ℕ) (names : List Head) (chains : List PlacedChain)
    → flat_map (λ (c : LogChain). filter (λ (m : Member). nat_lt mark m.head.time) (members_in c)) (chains_told names chains) ≡ members_of_all mark chains
by-placed mark names [] = refl
by-placed mark names (c ∷ chains) =
    let first : later_than mark (members_in (chain_told names c.entry)) ≡ members_later mark c = ap (later_than mark) (members-same names c.entry) in
    let rest = by-placed mark names chains in
    λ i. first i ++ rest i

-- whatever names the rolls have
pub members-are : (names : List Head) (chains : List PlacedChain) → members_of (chains_told names chains) ≡ members_of_all (mark_of chains) chains
members-are names chains =
    ap (λ (mark : ℕ). filter (λ (m : Member). nat_lt mark m.head.time) (flat_map members_in (chains_told names chains))) (mark-same names chains)
    ∙ by-chain (mark_of chains) (chains_told names chains)
    ∙ by-placed (mark_of chains) names chains

pub stored-by_chain : (mark : ℕ) (before : Key → Option Value) (chains : List PlacedChain) → AreStored before (members_of_all mark chains)
    → AreAllStored mark before chains
stored-by_chain mark before [] stored = tt
stored-by_chain mark before (c ∷ chains) stored =
    let mine = members_later mark c in
    let rest = members_of_all mark chains in (
      stored_front before mine rest stored,
      stored-by_chain mark (values_behind before mine) chains (stored_back before mine rest stored),
    )

-- of the same anchors and members the heap has the same versions
pub versions-same : (r s : Reading) → r.anchors ≡ s.anchors → r.members ≡ s.members → (key : Key) → heap_versions r key ≡ heap_versions s key
versions-same r s anchors members key =
    λ i. versions (old_writes (anchors i) key ++ writes_of (commits_from (λ (k : Key). latest (old_writes (anchors i) k)) (members i)) key)

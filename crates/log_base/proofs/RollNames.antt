-- The names of a new roll are in their ranges, and their bytes are those of a roll.
use Rattle.std.proofs.Common.{◌≡◌, ℕ, ◌+◌, ◌*◌, ◌<◌, ◌≤◌, ◌^◌, nat_lt, List, [], ◌∷◌, ◌++◌, length, map, refl, ap, sym, subst, ◌∙◌, arith}
use Rattle.std.specs.Prelude.{filter, flat_map, slice_index_or}
use Rattle.std.specs.List.{AllByRecursion}
use Rattle.std.proofs.lemmas.List.Elements.{filter-append, All-contains, All-contains_itself, All-from_recursion, recursion_from_All}
use Rattle.history.proofs.Filters.{AllByRecursion-filter, AllByRecursion-append}
use Rattle.wire.specs.Numbers.{u64_bytes}
use Rattle.law_image.specs.Reading.{Head}
use Rattle.law_image.specs.Log.{heads_of}
use Rattle.law_log.specs.Chains.{told, reclaimed_by, commits_in, later_heads, heads_in, KeepsChainRules}
use Rattle.group.specs.declared.commit_order.CommitHead.{CommitHead}
use Rattle.log_entries.specs.declared.entry.Member.{Member}
use Rattle.log_entries.specs.declared.entry.Entry.{Entry}
use Rattle.log_entries.specs.declared.entry.Entry.TheVariants.{Group, Archived, Floor}
use Rattle.log_entries.specs.declared.entry.Entry.TheVariants as entries
use Rattle.log_entries.specs.Ranges.{IsMember, IsRoll, IsEntry}
use Rattle.law_log_layout.specs.HeapLog.{PlacedChain, name_bytes, IsName, IsPlaced, IsStoredRoll, member_told, chain_told, chains_told}
use Rattle.log_base.specs.Names.{name_of, named_between, AreNamesBetween}
use Rattle.log_base.specs.Laws.{is_named_between, new_roll}
use Rattle.log_base.proofs.NamesTold.{rolled, rolled-early, heads-told, none-between}

-- ---- names in their ranges

members-named : (members : List Member) → AllByRecursion IsMember members → AllByRecursion IsName (heads_in (map member_told members))
members-named [] are = tt
members-named (m ∷ members) are = ((are.0.label, are.0.time_low, are.0.time_high), members-named members are.1)

entry-named : (most : ℕ) (names : List Head) (e : Entry) → IsEntry most e → AllByRecursion IsName (commits_in (chain_told names e))
entry-named most names (Group members) is = members-named members is.each
entry-named most names (Archived archive) is = tt
entry-named most names (Floor floor) is = tt
entry-named most names (entries.Base base) is = tt

chains-named : (most : ℕ) (names : List Head) (chains : List PlacedChain) → AllByRecursion (IsPlaced most) chains
    → AllByRecursion IsName (flat_map commits_in (chains_told names chains))
chains-named most names [] placed = tt
chains-named most names (c ∷ chains) placed =
    AllByRecursion-append IsName (commits_in (chain_told names c.entry)) (flat_map commits_in (chains_told names chains))
    (entry-named most names c.entry (placed.0).entry) (chains-named most names chains placed.1)

between-append : (mark upto : ℕ) (xs ys : List Head) → AllByRecursion (λ (head : Head). head.time ≤ mark) xs
    → filter (is_named_between mark upto) (xs ++ ys) ≡ filter (is_named_between mark upto) ys
between-append mark upto xs ys all =
    let between = is_named_between mark upto in
    filter-append between xs ys ∙ ap (λ (l : List Head). l ++ filter between ys) (none-between mark upto xs all)

told-named : (most upto : ℕ) (names : List Head) (chains : List PlacedChain) → KeepsChainRules (chains_told names chains)
    → AllByRecursion (IsPlaced most) chains
    → AllByRecursion IsName (filter (is_named_between (reclaimed_by (chains_told names chains)) upto) (heads_of (told (chains_told names chains))))
told-named most upto names chains rules placed =
    let all = chains_told names chains in
    let mark = reclaimed_by all in
    let between = is_named_between mark upto in
    let late = later_heads mark (flat_map commits_in all) in
    let are : AllByRecursion IsName late =
    AllByRecursion-filter IsName (λ (head : Head). nat_lt mark head.time) (flat_map commits_in all) (chains-named most names chains placed) in
    let same : filter between (heads_of (told all)) ≡ filter between late =
    ap (filter between) (heads-told all rules.each) ∙ between-append mark upto (rolled all) late (rolled-early all rules.each) in
    subst (AllByRecursion IsName) (sym same) (AllByRecursion-filter IsName between late are)

-- ---- the roll

pub names-long : (names : List Head) → length (flat_map name_bytes names) ≡ 16 * length names
unfolding u64_bytes
names-long [] = refl
names-long (name ∷ names) = omega (arith, names-long names)

pub roll-stored : (most upto start : ℕ) (names new : List Head) (chains : List PlacedChain) (heads : List CommitHead) (bytes : List ℕ)
    → KeepsChainRules (chains_told names chains) → AllByRecursion (IsPlaced most) chains
    → map name_of (named_between (reclaimed_by (chains_told names chains)) upto heads)
    ≡ filter (is_named_between (reclaimed_by (chains_told names chains)) upto) (heads_of (told (chains_told names chains)))
    → AreNamesBetween (reclaimed_by (chains_told names chains)) upto heads new → bytes ≡ flat_map name_bytes new
    → IsStoredRoll (new_roll start bytes new)
roll-stored most upto start names new chains heads bytes rules placed in_memory added bytes_are =
    let mark = reclaimed_by (chains_told names chains) in
    let named : AllByRecursion IsName (map name_of (named_between mark upto heads)) =
    subst (AllByRecursion IsName) (sym in_memory) (told-named most upto names chains rules placed) in
    let each = All-from_recursion IsName (map name_of (named_between mark upto heads)) named in
    let long : length bytes ≡ 16 * length new = ap (λ (l : List ℕ). length l) bytes_are ∙ names-long new in
    record {
      length_is = sym long;
      in_order = added.in_order;
      each = recursion_from_All IsName new (λ k d low.
          All-contains IsName (map name_of (named_between mark upto heads)) (slice_index_or new k d) each
          ((added.same (slice_index_or new k d)).0 (All-contains_itself new k d low)));
    }

pub roll-whole : (start : ℕ) (new : List Head) (bytes : List ℕ) → bytes ≡ flat_map name_bytes new → 0 < length bytes → start + length bytes < 2 ^ 63
    → IsRoll (record { start = start; len = length bytes })
roll-whole start new bytes bytes_are some fits =
    let long : length bytes ≡ 16 * length new = ap (λ (l : List ℕ). length l) bytes_are ∙ names-long new in
    record { whole = omega (arith, long); some = omega (arith, long, some); end = fits }

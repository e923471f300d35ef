-- What chains tell that follow each other keeps its order.
use Rattle.std.proofs.Common.{◌≡◌, ℕ, ◌<◌, ◌^◌, nat_lt, Bool, List, [], ◌∷◌, ◌++◌, map, refl, ap, sym, subst, ◌∙◌, arith}
use Rattle.std.specs.Prelude.{filter, flat_map}
use Rattle.std.specs.List.{AllByRecursion}
use Rattle.std.specs.List.Sorted.{IsStrictlySortedBy}
use Rattle.std.proofs.lemmas.List.{map-append}
use Rattle.std.proofs.lemmas.List.Elements.{filter-append}
use Rattle.history.specs.Key.{key_cmp}
use Rattle.history.proofs.Filters.{AllByRecursion-append, AllByRecursion-filter}
use Rattle.law_image.specs.Reading.{Head, Slot, OldRecord, ArchiveRecord}
use Rattle.law_image.specs.Reading as readings
use Rattle.law_image.specs.Log.{last_time_after, reclaim_mark, AreRisingAfter}
use Rattle.law_image.specs.StandsFor.{IsAnchorUpto}
use Rattle.deltas.specs.declared.«record».Record.{Record}
use Rattle.deltas.specs.Records.{heap_record}
use Rattle.log_entries.specs.declared.entry.Member.{Member}
use Rattle.log_entries.specs.declared.entry.Entry.{Entry}
use Rattle.log_entries.specs.declared.entry.Entry.TheVariants.{Group, Archived, Floor}
use Rattle.log_entries.specs.declared.entry.Entry.TheVariants as entries
use Rattle.log_entries.specs.Ranges.{IsMember, IsEntry}
use Rattle.law_log.specs.Chains.{LogChain, OfBase, OfGroup, OfRun, OfFloor, MayAllFollow, heads_in, members_in, reading_of, reclaimed_by, told, told_behind}
use Rattle.law_log.proofs.Telling.{tells-all}
use Rattle.law_log_layout.specs.HeapLog.{IsPlaced, PlacedChain, chain_told, chains_told, member_told}
use Rattle.law_log_sizes.specs.Sizes.{HasRisingKeys, IsOrdered}
use Rattle.law_log_sizes.proofs.Orders.{rising-append}
use Rattle.law_log_sizes.proofs.Bases.{later-times}

-- ---- times

-- the commits of the chains rise
members-rise : (mark last : ℕ) (before : List Slot) (chains : List LogChain) → MayAllFollow mark last before chains
    → AreRisingAfter last (heads_in (flat_map members_in chains))
members-rise mark last before [] may = tt
members-rise mark last before (OfBase b ∷ chains) may = members-rise mark last (told_behind mark before (OfBase b)) chains may.1
members-rise mark last before (OfGroup members ∷ chains) may =
    let end = last_time_after last (heads_in members) in
    let rest = members-rise mark end (told_behind mark before (OfGroup members)) chains may.1 in
    subst (AreRisingAfter last) (sym (map-append (λ (m : readings.Member). m.head) members (flat_map members_in chains)))
    (rising-append last (heads_in members) (heads_in (flat_map members_in chains)) may.0.2 rest)
members-rise mark last before (OfRun upto runs ∷ chains) may = members-rise mark last (told_behind mark before (OfRun upto runs)) chains may.1
members-rise mark last before (OfFloor f ∷ chains) may = members-rise mark last (told_behind mark before (OfFloor f)) chains may.1

mark-range : (chains : List LogChain) → MayAllFollow (reclaimed_by chains) 0 [] chains → reclaimed_by chains < 2 ^ 63
mark-range [] may = omega arith
mark-range (OfBase b ∷ chains) may = may.0.3.most
mark-range (OfGroup members ∷ chains) may = omega arith
mark-range (OfRun upto runs ∷ chains) may = omega arith
mark-range (OfFloor f ∷ chains) may = omega arith

-- ---- keys

told-keys : (records : List Record) → map (λ (r : readings.HeapRecord). r.key) (map heap_record records) ≡ map (λ (r : Record). r.key) records
told-keys [] = refl
told-keys (r ∷ records) = ap (λ l. r.key ∷ l) (told-keys records)

each-rises : (members : List Member) → AllByRecursion IsMember members → AllByRecursion HasRisingKeys (map member_told members)
each-rises [] each = tt
each-rises (m ∷ members) each =
    (subst (IsStrictlySortedBy key_cmp) (sym (told-keys m.records)) each.0.are_records.rising, each-rises members each.1)

entry-rises : (most : ℕ) (names : List Head) (e : Entry) → IsEntry most e → AllByRecursion HasRisingKeys (members_in (chain_told names e))
entry-rises most names (Group members) is = each-rises members is.each
entry-rises most names (Archived archive) is = tt
entry-rises most names (Floor floor) is = tt
entry-rises most names (entries.Base base) is = tt

all-rise : (most : ℕ) (names : List Head) (chains : List PlacedChain) → AllByRecursion (IsPlaced most) chains
    → AllByRecursion HasRisingKeys (flat_map members_in (chains_told names chains))
all-rise most names [] placed = tt
all-rise most names (c ∷ chains) placed =
    AllByRecursion-append HasRisingKeys (members_in (chain_told names c.entry)) (flat_map members_in (chains_told names chains))
    (entry-rises most names c.entry placed.0.entry) (all-rise most names chains placed.1)

-- ---- the reading

pub chains-ordered : (most : ℕ) (names : List Head) (chains : List PlacedChain) (olds : List OldRecord) (runs : List (List ArchiveRecord))
    → AllByRecursion (IsPlaced most) chains
    → MayAllFollow (reclaimed_by (chains_told names chains)) 0 [] (chains_told names chains)
    → IsStrictlySortedBy key_cmp (map (λ (old : OldRecord). old.key) olds)
    → AllByRecursion (IsAnchorUpto (reclaimed_by (chains_told names chains))) olds
    → (reclaim_mark (told (chains_told names chains)) ≡ reclaimed_by (chains_told names chains))
    × IsOrdered (reclaimed_by (chains_told names chains)) (reading_of most (chains_told names chains) olds runs)
chains-ordered most names chains olds runs placed may rising times =
    let cs = chains_told names chains in
    let mark = reclaimed_by cs in
    let all = flat_map members_in cs in (
      (tells-all cs may).reclaimed,
      record {
        range = mark-range cs may;
        anchors = rising;
        anchor_times = times;
        times = later-times 0 mark all (omega arith) (members-rise mark 0 [] cs may);
        keys = AllByRecursion-filter HasRisingKeys (λ (m : readings.Member). nat_lt mark m.head.time) all (all-rise most names chains placed);
      },
    )

pub by-chain : (mark : ℕ) (chains : List LogChain) → filter (λ (m : readings.Member). nat_lt mark m.head.time) (flat_map members_in chains)
    ≡ flat_map (λ (c : LogChain). filter (λ (m : readings.Member). nat_lt mark m.head.time) (members_in c)) chains
by-chain mark [] = refl
by-chain mark (c ∷ chains) =
    let later : readings.Member → Bool = λ m. nat_lt mark m.head.time in
    filter-append later (members_in c) (flat_map members_in chains) ∙ ap (λ l. filter later (members_in c) ++ l) (by-chain mark chains)

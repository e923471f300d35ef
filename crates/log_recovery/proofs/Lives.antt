-- The chains of a log as memory keeps them count as those of the log do.
use Rattle.std.proofs.Common.{◌≡◌, ℕ, ◌+◌, List, [], ◌∷◌, ◌++◌, length, map, refl, ap, ◌∙◌, length-append}
use Rattle.std.specs.Prelude.{flat_map}
use Rattle.std.proofs.lemmas.List.{append-nil}
use Rattle.std.proofs.lemmas.Grind.{flat_map-append}
use Rattle.law_log_layout.specs.HeapLog.{PlacedChain, counted_of}
use Rattle.log_entries.specs.declared.entry.Entry.{Entry}
use Rattle.log_entries.specs.declared.entry.Entry.TheVariants.{Group, Archived, Floor}
use Rattle.log_entries.specs.declared.entry.Entry.TheVariants as entries
use Rattle.log_recovery.specs.Ends.{counted_in}
use Rattle.log_recovery.specs.Live.{LiveChainValue, part_of, live_of, counted_at, live_count}

-- one chain does
pub part-counts : (e : Entry) (numbers : List ℕ) → counted_at (part_of e) numbers ≡ counted_of numbers e
part-counts (Group members) numbers = refl
part-counts (Archived archive) numbers = refl
part-counts (Floor floor) numbers = refl
part-counts (entries.Base base) numbers = refl

numbers-count : (chains : List PlacedChain) → flat_map (λ (c : LiveChainValue). counted_at c.part c.numbers) (map live_of chains) ≡ counted_in chains
numbers-count [] = refl
numbers-count (c ∷ chains) = λ i. part-counts c.entry c.numbers i ++ numbers-count chains i

-- and so do all
pub lives-count : (chains : List PlacedChain) → live_count (map live_of chains) ≡ length (counted_in chains)
lives-count chains = ap (λ (ns : List ℕ). length ns) (numbers-count chains)

-- with one chain more
pub lives-more : (chains : List LiveChainValue) (c : LiveChainValue)
    → live_count (chains ++ c ∷ []) ≡ live_count chains + length (counted_at c.part c.numbers)
lives-more chains c =
    let f : LiveChainValue → List ℕ = λ d. counted_at d.part d.numbers in
    ap (λ (ns : List ℕ). length ns) (flat_map-append f chains (c ∷ []) ∙ ap (λ (ns : List ℕ). flat_map f chains ++ ns) (append-nil (f c)))
    ∙ length-append (flat_map f chains) (f c)

-- How many extents the chains of a log have, those of the base aside.
use Rattle.std.proofs.Common.{◌≡◌, ℕ, ◌+◌, ◌/◌, ◌<◌, ◌≤◌, ◌-◌, List, [], ◌∷◌, ◌++◌, length, map}
use Rattle.std.proofs.Common.{Option, refl, arith, ap, sym, subst, ◌∙◌, length-append}
use Rattle.std.specs.Prelude.{flat_map}
use Rattle.std.specs.List.{AllByRecursion}
use Rattle.std.proofs.lemmas.List.Concat.{flat_map-cons}
use Rattle.history.specs.declared.key.Key.{Key}
use Rattle.history.specs.Queries.{values_after}
use Rattle.history.proofs.Filters.{AllByRecursion-append}
use Rattle.law_image.specs.Values.{Value}
use Rattle.law_image.specs.Reading.{Member, Slot, Archived}
use Rattle.law_image.specs.Reading as slots
use Rattle.law_image.specs.HeapPlans.{marks_of, first_runs}
use Rattle.law_image.specs.Facts.{commit_read}
use Rattle.law_image.specs.Log.{last_time_after}
use Rattle.law_log.specs.Chains.{LogChain, OfBase, OfGroup, OfRun, OfFloor, IsNoBase, MayFollow, MayAllFollow, told_behind, base_slots, commits_in}
use Rattle.law_log.specs.Chains as logs
use Rattle.log_extents.specs.Chains.{count_of, IsNumberOf}
use Rattle.log_entries.specs.declared.entry.Entry.{Entry}
use Rattle.log_entries.specs.declared.entry.Entry.TheVariants.{Group, Archived as ArchivedEntry, Floor}
use Rattle.log_entries.specs.declared.entry.Entry.TheVariants as entries
use Rattle.log_entries.specs.Spelling.{entry_bytes}
use Rattle.law_log_layout.specs.HeapLog.{PlacedChain, IsPlaced, chain_told, chains_told, counted_of, IsBaseSmall}
use Rattle.law_log_sizes.specs.Sizes.{len_after, len_from, lens_behind}

-- ---- a log has one base at the most, its first chain

some-more : {X : Type 0} (xs ys : List X) → 0 < length xs → 0 < length (xs ++ ys)
some-more xs ys some = let long = length-append xs ys in omega (arith, long, some)

some-last : {X : Type 0} (xs : List X) (y : X) → 0 < length (xs ++ y ∷ [])
some-last xs y = let long = length-append xs (y ∷ []) in omega (arith, long)

told-some : (mark : ℕ) (before : List Slot) (chain : LogChain) → 0 < length before → 0 < length (told_behind mark before chain)
told-some mark before (OfBase b) some = some-more before (base_slots b) some
told-some mark before (OfGroup members) some = some-more before (logs.commits_slot (logs.later_heads mark (logs.heads_in members))) some
told-some mark before (OfRun upto runs) some = some-last (first_runs (length (marks_of before) - runs) before) (Archived upto)
told-some mark before (OfFloor f) some = some-last before (logs.floor_slot f)

-- behind something that is told there is none
none-behind : (mark last : ℕ) (before : List Slot) (chains : List LogChain) → 0 < length before → MayAllFollow mark last before chains
    → AllByRecursion IsNoBase chains
none-behind mark last before [] some may = tt
none-behind mark last before (c ∷ cs) some may =
    (one c may.0, none-behind mark (last_time_after last (commits_in c)) (told_behind mark before c) cs (told-some mark before c some) may.1)
  where
    one : (chain : LogChain) → MayFollow mark last before chain → IsNoBase chain
    one (OfBase b) is = let none : length before ≡ 0 = ap (λ (l : List Slot). length l) is.0 in absurd (omega (arith, none, some))
    one (OfGroup members) is = tt
    one (OfRun upto runs) is = tt
    one (OfFloor f) is = tt

-- nor is there one where nothing is reclaimed
none-unmarked : (mark last : ℕ) (before : List Slot) (chains : List LogChain) → mark ≡ 0 → MayAllFollow mark last before chains
    → AllByRecursion IsNoBase chains
none-unmarked mark last before [] zero-mark may = tt
none-unmarked mark last before (c ∷ cs) zero-mark may =
    (one c may.0, none-unmarked mark (last_time_after last (commits_in c)) (told_behind mark before c) cs zero-mark may.1)
  where
    one : (chain : LogChain) → MayFollow mark last before chain → IsNoBase chain
    one (OfBase b) is =
        let same : mark ≡ b.upto = is.2 in
        let base : logs.IsBase b = is.3 in
        let some = base.some in
        absurd (omega (arith, zero-mark, same, some))
    one (OfGroup members) is = tt
    one (OfRun upto runs) is = tt
    one (OfFloor f) is = tt

base-some : (b : logs.Base) → 0 < length ([] ++ base_slots b)
base-some b = let long = length-append (logs.commits_slot b.names) (slots.Reclaimed b.upto ∷ (map Archived b.marks ++ map logs.floor_slot b.floors)) in
    omega (arith, long)

-- so behind the first chain there is none
pub none-after : (c : LogChain) (cs : List LogChain) → MayAllFollow (logs.reclaimed_by (c ∷ cs)) 0 [] (c ∷ cs) → AllByRecursion IsNoBase cs
none-after (OfBase b) cs may =
    none-behind b.upto 0 (told_behind b.upto [] (OfBase b)) cs (base-some b) may.1
none-after (OfGroup members) cs may =
    none-unmarked 0 (last_time_after 0 (commits_in (OfGroup members))) (told_behind 0 [] (OfGroup members)) cs refl may.1
none-after (OfRun upto runs) cs may = none-unmarked 0 0 (told_behind 0 [] (OfRun upto runs)) cs refl may.1
none-after (OfFloor f) cs may = none-unmarked 0 0 (told_behind 0 [] (OfFloor f)) cs refl may.1

-- ---- how many extents it has

abbrev pub numbers : List PlacedChain → List ℕ
numbers chains = flat_map (λ (c : PlacedChain). c.numbers) chains

abbrev pub counted_numbers : List PlacedChain → List ℕ
counted_numbers chains = flat_map (λ (c : PlacedChain). counted_of c.numbers c.entry) chains

-- all but the base's count
no-base-counts : (names : List slots.Head) (chains : List PlacedChain) → AllByRecursion IsNoBase (chains_told names chains)
    → counted_numbers chains ≡ numbers chains
no-base-counts names [] none = refl
no-base-counts names (c ∷ cs) none =
    flat_map-cons (λ (d : PlacedChain). counted_of d.numbers d.entry) c cs
    ∙ (λ i. one c.entry none.0 i ++ no-base-counts names cs none.1 i)
    ∙ sym (flat_map-cons (λ (d : PlacedChain). d.numbers) c cs)
  where
    one : (e : Entry) → IsNoBase (chain_told names e) → counted_of c.numbers e ≡ c.numbers
    one (Group members) is = refl
    one (ArchivedEntry a) is = refl
    one (Floor f) is = refl
    one (entries.Base b) is = absurd is

first-counts : (most : ℕ) (c : PlacedChain) → IsPlaced most c → IsBaseSmall most c.entry → length c.numbers ≤ length (counted_of c.numbers c.entry) + most / 16
first-counts most c placed small = one c.entry placed.count small
  where
    one : (e : Entry) → length c.numbers ≡ count_of (length (entry_bytes e)) → IsBaseSmall most e
        → length c.numbers ≤ length (counted_of c.numbers e) + most / 16
    one (Group members) count small = omega arith
    one (ArchivedEntry a) count small = omega arith
    one (Floor f) count small = omega arith
    one (entries.Base b) count small = omega (arith, count, small)

pub numbers-count : (most : ℕ) (names : List slots.Head) (chains : List PlacedChain) → AllByRecursion (IsPlaced most) chains
    → AllByRecursion (λ (c : PlacedChain). IsBaseSmall most c.entry) chains
    → MayAllFollow (logs.reclaimed_by (chains_told names chains)) 0 [] (chains_told names chains)
    → length (numbers chains) ≤ length (counted_numbers chains) + most / 16
numbers-count most names [] placed small may = omega arith
numbers-count most names (c ∷ cs) placed small may =
    let none = none-after (chain_told names c.entry) (chains_told names cs) may in
    let same : length (counted_numbers cs) ≡ length (numbers cs) = ap (λ (ns : List ℕ). length ns) (no-base-counts names cs none) in
    let first = first-counts most c placed.0 small.0 in
    let all : length (numbers (c ∷ cs)) ≡ length c.numbers + length (numbers cs) =
    ap (λ (ns : List ℕ). length ns) (flat_map-cons (λ (d : PlacedChain). d.numbers) c cs) ∙ length-append c.numbers (numbers cs) in
    let some : length (counted_numbers (c ∷ cs)) ≡ length (counted_of c.numbers c.entry) + length (counted_numbers cs) =
    ap (λ (ns : List ℕ). length ns) (flat_map-cons (λ (d : PlacedChain). counted_of d.numbers d.entry) c cs)
    ∙ length-append (counted_of c.numbers c.entry) (counted_numbers cs) in
    omega (arith, same, first, all, some)

pub numbers-in_range : (most : ℕ) (chains : List PlacedChain) → AllByRecursion (IsPlaced most) chains → AllByRecursion (IsNumberOf most) (numbers chains)
numbers-in_range most [] placed = tt
numbers-in_range most (c ∷ cs) placed =
    subst (AllByRecursion (IsNumberOf most)) (sym (flat_map-cons (λ (d : PlacedChain). d.numbers) c cs))
    (AllByRecursion-append (IsNumberOf most) c.numbers (numbers cs) (placed.0).in_range (numbers-in_range most cs placed.1))

-- the last of the numbers keeps what all of them do
pub last-keeps : (P : ℕ → Type 0) (len : ℕ) (f : Key → Option Value) (ms : List Member) → AllByRecursion P (len ∷ lens_behind len f ms) → P (len_from len f ms)
last-keeps P len f [] all = all.0
last-keeps P len f (m ∷ ms) all = last-keeps P (len_after len f m) (values_after f (commit_read f m)) ms all.1

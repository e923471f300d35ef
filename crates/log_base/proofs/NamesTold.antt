-- The names of the commits that a log tells.
use Rattle.std.proofs.Common.{◌≡◌, ℕ, zero, suc, ◌-◌, ◌<◌, ◌≤◌, nat_lt, nat_le, Bool, true, false, cond, List, [], ◌∷◌, ◌++◌, length, map, refl, ap, sym}
use Rattle.std.proofs.Common.{subst, ◌∙◌}
use Rattle.std.proofs.Common.{arith, inl, inr, append_assoc, length-append}
use Rattle.std.specs.Prelude.{◌&&◌, ◌⊎◌, filter, flat_map, Contains, ◌↔◌}
use Rattle.std.specs.List.{AllByRecursion}
use Rattle.std.proofs.Math.Nat.{le-max_left}
use Rattle.std.proofs.lemmas.Bool.Decides.{nat_tests}
use Rattle.std.proofs.lemmas.Grind.{flat_map-append}
use Rattle.std.proofs.lemmas.List.{append-nil}
use Rattle.std.proofs.lemmas.List.Elements.{filter-append, Contains-append_left, Contains-append_right, Contains-append_cases}
use Rattle.history.proofs.Filters.{filter-filter, filter-both, filter-map}
use Rattle.history.proofs.Orders.{not_lt, is_le, not_le}
use Rattle.law_image.specs.Reading.{Head, Slot}
use Rattle.law_image.specs.Reading as slots
use Rattle.law_image.specs.Log.{heads_of, last_time_after, last_time, told_time, reclaim_mark, AreRisingAfter, AllCome, MayComeInHeap}
use Rattle.law_image.specs.HeapPlans.{marks_of, first_runs}
use Rattle.law_image.proofs.Logs.{heads_of-append, last_time_after-append, same_last}
use Rattle.law_log.specs.Chains.{LogChain, OfBase, OfGroup, OfRun, OfFloor, commits_slot, later_heads, floor_slot, base_slots, heads_in, told_behind, told_from}
use Rattle.law_log.specs.Chains.{told, reclaimed_by, commits_in, MayFollow, MayAllFollow, KeepsChainRules, IsNoBase}
use Rattle.law_log.specs.Chains as logs
use Rattle.law_log.proofs.Telling.{commits-heads, last-rises, tells-base, tells-none, tells-all}
use Rattle.law_log.proofs.Based.{rising-lower}
use Rattle.group.specs.declared.commit_order.CommitHead.{CommitHead}
use Rattle.log_entries.specs.declared.entry.Entry.{Entry}
use Rattle.log_entries.specs.declared.entry.Entry.TheVariants.{Group, Archived, Floor}
use Rattle.log_entries.specs.declared.entry.Entry.TheVariants as entries
use Rattle.law_log_layout.specs.HeapLog.{PlacedChain, PlacedRoll, chain_told, chains_told, rolls_in, AreNamesOf}
use Rattle.log_base.specs.Names.{name_of, is_between, named_between, AreNamesBetween}
use Rattle.log_base.specs.Laws.{is_named_between}
use Rattle.log_base.proofs.Fronts.{none-behind, others-none}
use Rattle.log_base.proofs.RunsLeft.{no-rolls}

-- ---- the commits of the chains

first-heads : (kept : ℕ) (log : List Slot) → heads_of (first_runs kept log) ≡ heads_of log
first-heads zero [] = refl
first-heads (suc kept) [] = refl
first-heads zero (slots.Commits heads ∷ rest) = ap (λ l. heads ++ l) (first-heads zero rest)
first-heads (suc kept) (slots.Commits heads ∷ rest) = ap (λ l. heads ++ l) (first-heads (suc kept) rest)
first-heads zero (slots.Archived upto ∷ rest) = first-heads zero rest
first-heads (suc kept) (slots.Archived upto ∷ rest) = first-heads kept rest
first-heads zero (slots.Reclaimed upto ∷ rest) = first-heads zero rest
first-heads (suc kept) (slots.Reclaimed upto ∷ rest) = first-heads (suc kept) rest
first-heads zero (slots.Floor scope floor ∷ rest) = first-heads zero rest
first-heads (suc kept) (slots.Floor scope floor ∷ rest) = first-heads (suc kept) rest

heads-one : (mark : ℕ) (before : List Slot) (chain : LogChain) → IsNoBase chain
    → heads_of (told_behind mark before chain) ≡ heads_of before ++ later_heads mark (commits_in chain)
heads-one mark before (OfBase b) none = absurd none
heads-one mark before (OfGroup members) none =
    let heads = later_heads mark (heads_in members) in
    heads_of-append before (commits_slot heads) ∙ ap (λ l. heads_of before ++ l) (commits-heads heads)
heads-one mark before (OfRun upto runs) none =
    let kept = length (marks_of before) - runs in
    heads_of-append (first_runs kept before) (slots.Archived upto ∷ []) ∙ ap (λ l. l ++ []) (first-heads kept before)
heads-one mark before (OfFloor f) none = heads_of-append before (floor_slot f ∷ [])

heads-from : (mark : ℕ) (before : List Slot) (chains : List LogChain) → AllByRecursion IsNoBase chains
    → heads_of (told_from mark before chains) ≡ heads_of before ++ later_heads mark (flat_map commits_in chains)
heads-from mark before [] none = sym (append-nil (heads_of before))
heads-from mark before (chain ∷ chains) none =
    let own = later_heads mark (commits_in chain) in
    let rest = later_heads mark (flat_map commits_in chains) in
    heads-from mark (told_behind mark before chain) chains none.1
    ∙ ap (λ l. l ++ rest) (heads-one mark before chain none.0)
    ∙ append_assoc (heads_of before) own rest
    ∙ ap (λ l. heads_of before ++ l) (sym (filter-append (λ (head : Head). nat_lt mark head.time) (commits_in chain) (flat_map commits_in chains)))

base-heads : (b : logs.Base) → heads_of (base_slots b) ≡ b.names
base-heads b =
    heads_of-append (commits_slot b.names) (slots.Reclaimed b.upto ∷ (map slots.Archived b.marks ++ map floor_slot b.floors))
    ∙ ap (λ l. l ++ heads_of (map slots.Archived b.marks ++ map floor_slot b.floors)) (commits-heads b.names)
    ∙ ap (λ l. b.names ++ l) (no-heads b.marks b.floors) ∙ append-nil b.names
  where
    floors-no : (floors : List logs.RelationFloor) → heads_of (map floor_slot floors) ≡ []
    floors-no [] = refl
    floors-no (f ∷ floors) = floors-no floors

    no-heads : (marks : List ℕ) (floors : List logs.RelationFloor) → heads_of (map slots.Archived marks ++ map floor_slot floors) ≡ []
    no-heads [] floors = floors-no floors
    no-heads (m ∷ marks) floors = no-heads marks floors

-- the commits that the base's rolls name, none where there is no base
abbrev pub rolled : List LogChain → List Head
rolled [] = []
rolled (OfBase b ∷ chains) = b.names
rolled (OfGroup members ∷ chains) = []
rolled (OfRun upto runs ∷ chains) = []
rolled (OfFloor f ∷ chains) = []

-- a log tells these, and then the commits of its chains that are later than its mark
pub heads-told : (chains : List LogChain) → MayAllFollow (reclaimed_by chains) 0 [] chains
    → heads_of (told chains) ≡ rolled chains ++ later_heads (reclaimed_by chains) (flat_map commits_in chains)
heads-told [] may = refl
heads-told (OfBase b ∷ chains) may =
    let none = none-behind b.upto 0 (base_slots b) chains (tells-base b may.0.3) may.1 in
    heads-from b.upto (base_slots b) chains none ∙ ap (λ l. l ++ later_heads b.upto (flat_map commits_in chains)) (base-heads b)
heads-told (OfGroup members ∷ chains) may = heads-from 0 [] (OfGroup members ∷ chains) (none-behind 0 0 [] (OfGroup members ∷ chains) tells-none may)
heads-told (OfRun upto runs ∷ chains) may = heads-from 0 [] (OfRun upto runs ∷ chains) (none-behind 0 0 [] (OfRun upto runs ∷ chains) tells-none may)
heads-told (OfFloor f ∷ chains) may = heads-from 0 [] (OfFloor f ∷ chains) (none-behind 0 0 [] (OfFloor f ∷ chains) tells-none may)

-- ---- they rise

rising-append : (t : ℕ) (xs ys : List Head) → AreRisingAfter t xs → AreRisingAfter (last_time_after t xs) ys → AreRisingAfter t (xs ++ ys)
rising-append t [] ys a b = b
rising-append t (x ∷ xs) ys a b = (a.0, a.1, rising-append x.time xs ys a.2 b)

pub heads-rise : (before log : List Slot) → AllCome MayComeInHeap before log → AreRisingAfter (last_time before) (heads_of log)
heads-rise before [] may = tt
heads-rise before (slots.Commits heads ∷ log) may =
    let at : last_time (before ++ slots.Commits heads ∷ []) ≡ last_time_after (last_time before) heads =
    ap (last_time_after 0) (heads_of-append before (slots.Commits heads ∷ []) ∙ ap (λ l. heads_of before ++ l) (append-nil heads))
    ∙ last_time_after-append 0 (heads_of before) heads in
    rising-append (last_time before) heads (heads_of log)
    (rising-lower (last_time before) (told_time before) heads (le-max_left (last_time before) (reclaim_mark before)) may.0.1)
    (subst (λ (t : ℕ). AreRisingAfter t (heads_of log)) at (heads-rise (before ++ slots.Commits heads ∷ []) log may.1))
heads-rise before (slots.Archived upto ∷ log) may =
    subst (λ (t : ℕ). AreRisingAfter t (heads_of log)) (same_last before (slots.Archived upto) refl) (heads-rise (before ++ slots.Archived upto
    ∷ []) log may.1)
heads-rise before (slots.Reclaimed upto ∷ log) may =
    subst (λ (t : ℕ). AreRisingAfter t (heads_of log)) (same_last before (slots.Reclaimed upto) refl) (heads-rise (before ++ slots.Reclaimed upto
    ∷ []) log may.1)
heads-rise before (slots.Floor scope floor ∷ log) may =
    subst (λ (t : ℕ). AreRisingAfter t (heads_of log)) (same_last before (slots.Floor scope floor) refl) (heads-rise (before ++ slots.Floor scope floor
    ∷ []) log may.1)

pub rising-filtered : (p : Head → Bool) (t : ℕ) (heads : List Head) → AreRisingAfter t heads → AreRisingAfter t (filter p heads)
rising-filtered p t [] up = tt
rising-filtered p t (head ∷ heads) up =
    let rest = rising-filtered p head.time heads up.2 in
    elim (p head) as (λ b. AreRisingAfter t (cond b (head ∷ filter p heads) (filter p heads))) [
      | true ↦ (up.0, up.1, rest)
      | false ↦ rising-lower t head.time (filter p heads) (omega (arith, up.0)) rest
    ]

pub last-filtered : (mark t : ℕ) (heads : List Head) → t ≤ mark → last_time_after t (filter (λ (head : Head). nat_le head.time mark) heads) ≤ mark
last-filtered mark t [] le = le
last-filtered mark t (head ∷ heads) le =
    let rest = last-filtered mark t heads le in
    (elim (nat_le head.time mark) as (λ b. nat_le head.time mark ≡ b → last_time_after t
    (cond b (head ∷ filter (λ (head : Head). nat_le head.time mark) heads) (filter (λ (head : Head). nat_le head.time mark) heads)) ≤ mark) [
      | true ↦ λ e. last-filtered mark head.time heads (grind (arith, nat_tests, e))
      | false ↦ λ e. rest
    ]) refl

-- ---- those up to a mark

abbrev early : ℕ → List Head → List Head
early upto heads = filter (λ (head : Head). nat_le head.time upto) heads

abbrev AreUpTo : ℕ → List Head → Type 0
AreUpTo mark heads = AllByRecursion (λ (head : Head). head.time ≤ mark) heads

up-rising : (mark t : ℕ) (heads : List Head) → AreRisingAfter t heads → last_time_after t heads ≤ mark → AreUpTo mark heads
up-rising mark t [] up le = tt
up-rising mark t (head ∷ heads) up le = (omega (arith, last-rises head.time heads up.2, le), up-rising mark head.time heads up.2 le)

pub rolled-early : (chains : List LogChain) → MayAllFollow (reclaimed_by chains) 0 [] chains → AreUpTo (reclaimed_by chains) (rolled chains)
rolled-early [] may = tt
rolled-early (OfBase b ∷ chains) may = up-rising b.upto 0 b.names may.0.3.rising may.0.3.named
rolled-early (OfGroup members ∷ chains) may = tt
rolled-early (OfRun upto runs ∷ chains) may = tt
rolled-early (OfFloor f ∷ chains) may = tt

all-early : (mark upto : ℕ) (heads : List Head) → mark ≤ upto → AreUpTo mark heads → early upto heads ≡ heads
all-early mark upto [] le all = refl
all-early mark upto (head ∷ heads) le all =
    let test : nat_le head.time upto ≡ true = is_le (omega (arith, le, all.0)) in
    rw test (ap (λ l. head ∷ l) (all-early mark upto heads le all.1))

pub none-between : (mark upto : ℕ) (heads : List Head) → AreUpTo mark heads → filter (is_named_between mark upto) heads ≡ []
none-between mark upto [] all = refl
none-between mark upto (head ∷ heads) all =
    let test : nat_lt mark head.time ≡ false = not_lt all.0 in
    rw test (none-between mark upto heads all.1)

both-tests : (mark upto t : ℕ) → (nat_lt mark t && nat_le t upto) ≡ (nat_le t upto && nat_lt mark t)
both-tests mark upto t = grind (arith, nat_tests)

first-test : (a b : Bool) → (a && b) ≡ true → a ≡ true
first-test true b e = refl
first-test false b e = e

pub early-told : (chains : List LogChain) (upto : ℕ) → MayAllFollow (reclaimed_by chains) 0 [] chains → reclaimed_by chains ≤ upto
    → early upto (heads_of (told chains)) ≡ rolled chains ++ filter (is_named_between (reclaimed_by chains) upto) (heads_of (told chains))
early-told chains upto may le =
    let mark = reclaimed_by chains in
    let all = flat_map commits_in chains in
    let late = later_heads mark all in
    let between = is_named_between mark upto in
    let split = heads-told chains may in
    let few = rolled-early chains may in
    let rest : early upto late ≡ filter between late =
    sym (filter-both between (λ (head : Head). nat_le head.time upto) (λ (head : Head). nat_lt mark head.time) all (λ head. both-tests mark upto head.time))
    ∙ sym (filter-filter between (λ (head : Head). nat_lt mark head.time) all
    (λ head e. first-test (nat_lt mark head.time) (nat_le head.time upto) e)) in
    ap (early upto) split
    ∙ filter-append (λ (head : Head). nat_le head.time upto) (rolled chains) late
    ∙ ap (λ l. l ++ early upto late) (all-early mark upto (rolled chains) le few)
    ∙ ap (λ l. rolled chains ++ l) (
    rest
    ∙ ap (λ l. l ++ filter between late) (sym (none-between mark upto (rolled chains) few))
    ∙ sym (filter-append between (rolled chains) late)
    ∙ ap (filter between) (sym split))

-- ---- the names of the rolls with those of one more

no-names : (names : List Head) (rolls : List PlacedRoll) → map (λ (r : PlacedRoll). r.roll) rolls ≡ [] → AreNamesOf rolls names → names ≡ []
no-names [] rolls none are = refl
no-names (head ∷ names) [] none are = absurd (let many = are.many in omega (arith, many))
no-names (head ∷ names) (r ∷ rolls) none are = absurd cc

pub names-more : (rolls more : List PlacedRoll) (names between new : List Head) (mark upto : ℕ) (heads : List CommitHead) → AreNamesOf rolls names
    → AreNamesBetween mark upto heads new → map name_of (named_between mark upto heads) ≡ between → flat_map (λ (r : PlacedRoll). r.names) more ≡ new
    → AreRisingAfter 0 (names ++ between) → AreNamesOf (rolls ++ more) (names ++ between)
names-more rolls more names between new mark upto heads are added is in_rolls up =
    let names_in = λ (rs : List PlacedRoll). flat_map (λ (r : PlacedRoll). r.names) rs in
    let old = names_in rolls in
    let all : names_in (rolls ++ more) ≡ old ++ new = flat_map-append (λ (r : PlacedRoll). r.names) rolls more ∙ ap (λ l. old ++ l) in_rolls in
    record {
      rising = up;
      same = λ head. subst (λ (l : List Head). Contains (names ++ between) head ↔ Contains l head) (sym all) (
        λ has. to-rolls head (Contains-append_cases names between head has),
        λ has. to-names head (Contains-append_cases old new head has),
      );
      many = omega (
        arith,
        length-append names between,
        length-append old new,
        ap (λ (l : List Head). length l) all,
        are.many,
        added.many,
        ap (λ (l : List Head). length l) is,
        length-names (named_between mark upto heads),
      );
    }
  where
    length-names : (hs : List CommitHead) → length (map name_of hs) ≡ length hs
    length-names [] = refl
    length-names (h ∷ hs) = ap (λ (n : ℕ). suc n) (length-names hs)

    to-rolls : (head : Head) → Contains names head ⊎ Contains between head → Contains (flat_map (λ (r : PlacedRoll). r.names) rolls ++ new) head
    to-rolls head (inl has) = Contains-append_left (flat_map (λ (r : PlacedRoll). r.names) rolls) new head ((are.same head).0 has)
    to-rolls head (inr has) =
        Contains-append_right (flat_map (λ (r : PlacedRoll). r.names) rolls) new head
        ((added.same head).1 (subst (λ (l : List Head). Contains l head) (sym is) has))

    to-names : (head : Head) → Contains (flat_map (λ (r : PlacedRoll). r.names) rolls) head ⊎ Contains new head → Contains (names ++ between) head
    to-names head (inl has) = Contains-append_left names between head ((are.same head).1 has)
    to-names head (inr has) = Contains-append_right names between head (subst (λ (l : List Head). Contains l head) is ((added.same head).0 has))

-- the names are those of the base, where rolls have them
pub names-rolled : (names : List Head) (rolls : List PlacedRoll) (chains : List PlacedChain)
    → map (λ (r : PlacedRoll). r.roll) rolls ≡ flat_map (λ (c : PlacedChain). rolls_in c.entry) chains → AreNamesOf rolls names
    → MayAllFollow (reclaimed_by (chains_told names chains)) 0 [] (chains_told names chains) → rolled (chains_told names chains) ≡ names
names-rolled names rolls [] named are may = sym (no-names names rolls named are)
names-rolled names rolls (c ∷ chains) named are may = by c.entry named may
  where
    none : AllByRecursion IsNoBase (chains_told names chains)
    none = others-none chains names c may

    by : (e : Entry) → map (λ (r : PlacedRoll). r.roll) rolls ≡ rolls_in e ++ flat_map (λ (c : PlacedChain). rolls_in c.entry) chains
        → MayAllFollow (reclaimed_by (chain_told names e ∷ chains_told names chains)) 0 [] (chain_told names e ∷ chains_told names chains)
        → rolled (chain_told names e ∷ chains_told names chains) ≡ names
    by (Group members) named may = sym (no-names names rolls (named ∙ no-rolls names chains none) are)
    by (Archived archive) named may = sym (no-names names rolls (named ∙ no-rolls names chains none) are)
    by (Floor floor) named may = sym (no-names names rolls (named ∙ no-rolls names chains none) are)
    by (entries.Base base) named may = refl

pub names-go_on : (names new : List Head) (chains : List PlacedChain) (rolls more : List PlacedRoll) (upto : ℕ) (heads : List CommitHead)
    → KeepsChainRules (chains_told names chains) → map (λ (r : PlacedRoll). r.roll) rolls ≡ flat_map (λ (c : PlacedChain). rolls_in c.entry) chains
    → AreNamesOf rolls names → reclaimed_by (chains_told names chains) ≤ upto
    → map name_of (named_between (reclaimed_by (chains_told names chains)) upto heads)
    ≡ filter (is_named_between (reclaimed_by (chains_told names chains)) upto) (heads_of (told (chains_told names chains)))
    → AreNamesBetween (reclaimed_by (chains_told names chains)) upto heads new → flat_map (λ (r : PlacedRoll). r.names) more ≡ new
    → AreNamesOf (rolls ++ more) (early upto (heads_of (told (chains_told names chains))))
names-go_on names new chains rolls more upto heads rules named are le in_memory added in_rolls =
    let all = chains_told names chains in
    let mark = reclaimed_by all in
    let told_heads = heads_of (told all) in
    let between = filter (is_named_between mark upto) told_heads in
    let parts : early upto told_heads ≡ names ++ between =
    early-told all upto rules.each le ∙ ap (λ (l : List Head). l ++ between) (names-rolled names rolls chains named are rules.each) in
    let up : AreRisingAfter 0 (early upto told_heads) =
    rising-filtered (λ (head : Head). nat_le head.time upto) 0 told_heads (heads-rise [] (told all) (tells-all all rules.each).each) in
    subst (AreNamesOf (rolls ++ more)) (sym parts)
    (names-more rolls more names between new mark upto heads are added in_memory in_rolls (subst (AreRisingAfter 0) parts up))

-- ---- the names in memory

no-and : (b : Bool) → (b && false) ≡ false
no-and true = refl
no-and false = refl

-- heads of which the first ones are no later than the mark, and the others the commits that the log tells, and more that are later than the end
pub between-told : (mark upto : ℕ) (kept late : List CommitHead) (before told waiting : List Head)
    → AllByRecursion (λ (h : CommitHead). h.time ≤ mark) kept → AreUpTo mark before → before ++ map name_of late ≡ told ++ waiting
    → AllByRecursion (λ (head : Head). upto < head.time) waiting
    → map name_of (named_between mark upto (kept ++ late)) ≡ filter (is_named_between mark upto) told
between-told mark upto kept late before told waiting kept_early early are after =
    let between = is_named_between mark upto in
    sym (filter-map (is_between mark upto) between name_of (kept ++ late) (λ h. refl))
    ∙ ap (filter between) (names-append kept late)
    ∙ filter-append between (map name_of kept) (map name_of late)
    ∙ ap (λ l. l ++ filter between (map name_of late)) (none-between mark upto (map name_of kept) (kept-early kept kept_early))
    ∙ ap (λ l. l ++ filter between (map name_of late)) (sym (none-between mark upto before early))
    ∙ sym (filter-append between before (map name_of late))
    ∙ ap (filter between) are
    ∙ filter-append between told waiting
    ∙ ap (λ l. filter between told ++ l) (none-later waiting after)
    ∙ append-nil (filter between told)
  where
    names-append : (xs ys : List CommitHead) → map name_of (xs ++ ys) ≡ map name_of xs ++ map name_of ys
    names-append [] ys = refl
    names-append (x ∷ xs) ys = ap (λ l. name_of x ∷ l) (names-append xs ys)

    kept-early : (hs : List CommitHead) → AllByRecursion (λ (h : CommitHead). h.time ≤ mark) hs → AreUpTo mark (map name_of hs)
    kept-early [] all = tt
    kept-early (h ∷ hs) all = (all.0, kept-early hs all.1)

    none-later : (hs : List Head) → AllByRecursion (λ (head : Head). upto < head.time) hs → filter (is_named_between mark upto) hs ≡ []
    none-later [] all = refl
    none-later (head ∷ hs) all =
        let no : nat_le head.time upto ≡ false = not_le all.0 in
        let test : (nat_lt mark head.time && nat_le head.time upto) ≡ false = ap (λ b. nat_lt mark head.time && b) no ∙ no-and (nat_lt mark head.time) in
        rw test (none-later hs all.1)

-- The base that is computed is one that a chain of the log may hold.
use Rattle.std.proofs.Common.{ℕ, zero, suc, ◌-◌, ◌<◌, ◌^◌, List, [], ◌∷◌, length, map, take, Option, None, Some, refl, subst, sym, arith}
use Rattle.std.specs.Prelude.{option_to_list, IfSome}
use Rattle.std.specs.List.{AllByRecursion}
use Rattle.std.proofs.lemmas.List.{take-map}
use Rattle.history.proofs.Filters.{AllByRecursion-append}
use Rattle.floors.specs.declared.floors.OwnFloor.{OwnFloor}
use Rattle.floors.specs.Floors.{with_own}
use Rattle.floors.specs.Floors as own_floors
use Rattle.law_layout.proofs.Lists.{weaker, both}
use Rattle.log_entries.specs.declared.entry.AnchorName.{AnchorName}
use Rattle.log_entries.specs.declared.entry.Archive.{Archive}
use Rattle.log_entries.specs.declared.entry.RelationFloor.{RelationFloor}
use Rattle.log_entries.specs.declared.entry.Roll.{Roll}
use Rattle.log_entries.specs.declared.entry.Entry.{Entry}
use Rattle.log_entries.specs.declared.entry.Entry.TheVariants.{Group, Archived, Floor}
use Rattle.log_entries.specs.declared.entry.Entry.TheVariants as entries
use Rattle.log_entries.specs.Ranges.{IsArchive, IsFloor, IsRoll, HasNoRuns, AreRising, IsBase, IsEntry}
use Rattle.law_log_layout.specs.HeapLog.{PlacedChain, IsPlaced}
use Rattle.log_recovery.specs.Live.{LiveChainValue, part_of, live_of}
use Rattle.log_base.specs.Bases.{in_base, runs_behind, runs_from, raised_by, own_behind, own_from, relation_floor, rolls_at, rolls_of, base_on}
use Rattle.log_base.specs.Laws.{MayBeAnchors}
use Rattle.log_base.proofs.FloorsLeft.{own-all, floors-rise}

pub all-taken : {X : Type 0} (P : X → Type 0) (n : ℕ) (xs : List X) → AllByRecursion P xs → AllByRecursion P (take n xs)
all-taken P zero xs all = tt
all-taken P (suc n) [] all = tt
all-taken P (suc n) (x ∷ xs) all = (all.0, all-taken P n xs all.1)

-- ---- its runs

-- a run as a base names it
record IsOfBase (a : Archive) : Type 0 where
  pub archive : IsArchive a
  pub no_runs : HasNoRuns a

of-archive : (a : Archive) → IsArchive a → IsOfBase (in_base a)
of-archive a is = record { archive = record { run = is.run; runs = omega arith }; no_runs = refl }

runs-one : (most : ℕ) (before : List Archive) (e : Entry) → IsEntry most e → AllByRecursion IsOfBase before
    → AllByRecursion IsOfBase (runs_behind before (part_of e))
runs-one most before (Group members) is all = all
runs-one most before (Archived archive) is all =
    let kept = take (length before - archive.runs) before in
    AllByRecursion-append IsOfBase kept (in_base archive ∷ []) (all-taken IsOfBase (length before - archive.runs) before all) (of-archive archive is, tt)
runs-one most before (Floor floor) is all = all
runs-one most before (entries.Base base) is all =
    let parts = is.parts in
    let whole = is.whole in
    AllByRecursion-append IsOfBase before base.archives all
    (both IsArchive HasNoRuns IsOfBase base.archives (λ a archive none. record { archive = archive; no_runs = none }) parts.archives whole.runs)

runs-all : (most : ℕ) (before : List Archive) (chains : List PlacedChain) → AllByRecursion (IsPlaced most) chains → AllByRecursion IsOfBase before
    → AllByRecursion IsOfBase (runs_from before (map live_of chains))
runs-all most before [] placed all = all
runs-all most before (c ∷ chains) placed all =
    runs-all most (runs_behind before (part_of c.entry)) chains placed.1 (runs-one most before c.entry (placed.0).entry all)

-- ---- its floors

abbrev IsOwn : OwnFloor → Type 0
IsOwn o = IsFloor (relation_floor o)

raised-one : (own : List OwnFloor) (more : List RelationFloor) → AllByRecursion IsFloor more → AllByRecursion IsOwn own
    → AllByRecursion IsOwn (raised_by own more)
raised-one own [] are all = all
raised-one own (f ∷ more) are all = raised-one (with_own own f.relation f.floor) more are.1 (own-all IsOwn own f.relation f.floor are.0 all)

floors-one : (most : ℕ) (own : List OwnFloor) (e : Entry) → IsEntry most e → AllByRecursion IsOwn own → AllByRecursion IsOwn (own_behind own (part_of e))
floors-one most own (Group members) is all = all
floors-one most own (Archived archive) is all = all
floors-one most own (Floor floor) is all = own-all IsOwn own floor.relation floor.floor is all
floors-one most own (entries.Base base) is all = let parts = is.parts in raised-one own base.floors parts.floors all

floors-all : (most : ℕ) (own : List OwnFloor) (chains : List PlacedChain) → AllByRecursion (IsPlaced most) chains → AllByRecursion IsOwn own
    → AllByRecursion IsOwn (own_from own (map live_of chains))
floors-all most own [] placed all = all
floors-all most own (c ∷ chains) placed all =
    floors-all most (own_behind own (part_of c.entry)) chains placed.1 (floors-one most own c.entry (placed.0).entry all)

are-floors : (own : List OwnFloor) → AllByRecursion IsOwn own → AllByRecursion IsFloor (map relation_floor own)
are-floors [] all = tt
are-floors (o ∷ own) all = (all.0, are-floors own all.1)

above : (low : ℕ) (own : List OwnFloor) → AllByRecursion (λ (p : OwnFloor). low < p.relation) own
    → AllByRecursion (λ (g : RelationFloor). low < g.relation) (map relation_floor own)
above low [] all = tt
above low (o ∷ own) all = (all.0, above low own all.1)

rise : (own : List OwnFloor) → own_floors.AreRising own → AreRising (map relation_floor own)
rise [] up = tt
rise (o ∷ own) up = (above o.relation own up.0, rise own up.1)

-- ---- its rolls

rolls-one : (most : ℕ) (e : Entry) → IsEntry most e → AllByRecursion IsRoll (rolls_at (part_of e))
rolls-one most (Group members) is = tt
rolls-one most (Archived archive) is = tt
rolls-one most (Floor floor) is = tt
rolls-one most (entries.Base base) is = let parts = is.parts in parts.rolls

rolls-all : (most : ℕ) (chains : List PlacedChain) → AllByRecursion (IsPlaced most) chains → AllByRecursion IsRoll (rolls_of (map live_of chains))
rolls-all most [] placed = tt
rolls-all most (c ∷ chains) placed = rolls-one most c.entry (placed.0).entry

one-more : (roll : Option Roll) → IfSome roll IsRoll → AllByRecursion IsRoll (option_to_list roll)
one-more None is = tt
one-more (Some roll) is = (is, tt)

-- ---- all of it

pub is-base : (most upto : ℕ) (front : List PlacedChain) (anchors : AnchorName) (roll : Option Roll) → AllByRecursion (IsPlaced most) front → 0 < upto
    → upto < 2 ^ 63 → MayBeAnchors most anchors → IfSome roll IsRoll → IsBase most (base_on (map live_of front) upto anchors roll)
is-base most upto front anchors roll placed some few names one =
    let runs = runs-all most [] front placed tt in
    let own = own_from [] (map live_of front) in
    record {
      parts = record {
        upto = omega (arith, few);
        first = names.first;
        extents = names.extents;
        records = names.records;
        rolls = AllByRecursion-append IsRoll (rolls_of (map live_of front)) (option_to_list roll) (rolls-all most front placed) (one-more roll one);
        archives = weaker IsOfBase IsArchive (runs_from [] (map live_of front)) (λ a is. is.archive) runs;
        floors = are-floors own (floors-all most [] front placed tt);
      };
      whole = record {
        upto_low = some;
        upto_high = few;
        anchors = names.place;
        runs = weaker IsOfBase HasNoRuns (runs_from [] (map live_of front)) (λ a is. is.no_runs) runs;
        rising = rise own (floors-rise [] front tt);
      };
    }

-- so it is with the chains as memory keeps them
pub is-live_base : (most upto n : ℕ) (chains : List PlacedChain) (anchors : AnchorName) (roll : Option Roll) → AllByRecursion (IsPlaced most) chains
    → 0 < upto → upto < 2 ^ 63 → MayBeAnchors most anchors → IfSome roll IsRoll → IsBase most (base_on (take n (map live_of chains)) upto anchors roll)
is-live_base most upto n chains anchors roll placed some few names one =
    subst (λ (cs : List LiveChainValue). IsBase most (base_on cs upto anchors roll)) (sym (take-map live_of n chains))
    (is-base most upto (take n chains) anchors roll (all-taken (IsPlaced most) n chains placed) some few names one)

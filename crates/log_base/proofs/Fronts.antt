-- The front of a log, and the chains that stay.
use Rattle.std.proofs.Common.{◌≡◌, ℕ, ◌<◌, ◌≤◌, max, zero, suc, true, false, cond, List, [], ◌∷◌, length, map, take, drop, refl, ap, sym, subst, ◌∙◌}
use Rattle.std.proofs.Common.{arith}
use Rattle.std.specs.List.{AllByRecursion}
use Rattle.std.proofs.Math.Nat.{le-max_left}
use Rattle.std.proofs.lemmas.Bool.Decides.{nat_tests}
use Rattle.std.proofs.lemmas.List.{drop-map}
use Rattle.law_image.specs.Reading.{Head, Slot}
use Rattle.law_image.specs.Log.{last_time_after, told_time, AreRisingAfter}
use Rattle.law_image.proofs.GroupStep.{length-map}
use Rattle.law_log.specs.Chains.{LogChain, OfBase, OfGroup, OfRun, OfFloor, heads_in, told_behind, reclaimed_by, commits_in, MayFollow, MayAllFollow, IsUpTo}
use Rattle.law_log.specs.Chains.{BeginsLater, IsNoBase}
use Rattle.law_log.proofs.Telling.{TellsSo, tells-behind, tells-base, tells-none, last-rises}
use Rattle.log_entries.specs.declared.entry.Entry.{Entry}
use Rattle.log_entries.specs.declared.entry.Entry.TheVariants.{Group, Archived, Floor}
use Rattle.log_entries.specs.declared.entry.Entry.TheVariants as entries
use Rattle.law_log_layout.specs.HeapLog.{PlacedChain, member_told, chain_told, chains_told}
use Rattle.log_recovery.specs.Live.{part_of, live_of}
use Rattle.log_base.specs.Bases.{is_later, front_len}

-- ---- the front has no commit later than the mark

last-any : (s t : ℕ) (heads : List Head) → 0 < length heads → last_time_after s heads ≡ last_time_after t heads
last-any s t [] some = absurd (omega (arith, some))
last-any s t (head ∷ heads) some = refl

all-early : (mark t : ℕ) (heads : List Head) → AreRisingAfter t heads → last_time_after t heads ≤ mark
    → AllByRecursion (λ (head : Head). head.time ≤ mark) heads
all-early mark t [] up le = tt
all-early mark t (head ∷ heads) up le = (omega (arith, last-rises head.time heads up.2, le), all-early mark head.time heads up.2 le)

early-chain : (mark old last : ℕ) (before : List Slot) (names : List Head) (e : Entry) → is_later mark (part_of e) ≡ false
    → MayFollow old last before (chain_told names e) → IsUpTo mark (chain_told names e)
early-chain mark old last before names (Group members) early may =
    let heads = heads_in (map member_told members) in
    let some : 0 < length heads = omega (arith, may.0, length-map (λ m. m.head) (map member_told members)) in
    let same = last-any 0 last heads some in
    let le : last_time_after 0 heads ≤ mark = let e = early in grind (arith, nat_tests, e) in
    all-early mark last heads may.2 (omega (arith, le, same))
early-chain mark old last before names (Archived archive) early may = tt
early-chain mark old last before names (Floor floor) early may = tt
early-chain mark old last before names (entries.Base base) early may = tt

pub front-early : (mark old last : ℕ) (before : List Slot) (names : List Head) (chains : List PlacedChain)
    → MayAllFollow old last before (chains_told names chains)
    → AllByRecursion (IsUpTo mark) (chains_told names (take (front_len mark (map live_of chains)) chains))
front-early mark old last before names [] may = tt
front-early mark old last before names (c ∷ chains) may =
    let told = chain_told names c.entry in
    let n = front_len mark (map live_of chains) in
    let rest = front-early mark old (last_time_after last (commits_in told)) (told_behind old before told) names chains may.1 in
    (elim (is_later mark (part_of c.entry)) as (λ b. is_later mark (part_of c.entry) ≡ b
    → AllByRecursion (IsUpTo mark) (chains_told names (take (cond b zero (suc n)) (c ∷ chains)))) [
      | true ↦ λ e. tt
      | false ↦ λ e. (early-chain mark old last before names c.entry e may.0, rest)
    ]) refl

-- ---- and the rest begins with one that has

late-chain : (mark : ℕ) (names : List Head) (e : Entry) → is_later mark (part_of e) ≡ true → mark < last_time_after 0 (commits_in (chain_told names e))
late-chain mark names (Group members) late = let e = late in grind (arith, nat_tests, e)
late-chain mark names (Archived archive) late = absurd cc
late-chain mark names (Floor floor) late = absurd cc
late-chain mark names (entries.Base base) late = absurd cc

pub rest-late : (mark : ℕ) (names : List Head) (chains : List PlacedChain)
    → BeginsLater mark (chains_told names (drop (front_len mark (map live_of chains)) chains))
rest-late mark names [] = tt
rest-late mark names (c ∷ chains) =
    let n = front_len mark (map live_of chains) in
    let rest = rest-late mark names chains in
    (elim (is_later mark (part_of c.entry)) as (λ b. is_later mark (part_of c.entry) ≡ b
    → BeginsLater mark (chains_told names (drop (cond b zero (suc n)) (c ∷ chains)))) [
      | true ↦ λ e. late-chain mark names c.entry e
      | false ↦ λ e. rest
    ]) refl

-- ---- no base stands there

-- no base comes behind what tells something
not-base : (mark last : ℕ) (before : List Slot) (chain : LogChain) → TellsSo mark last before → MayFollow mark last before chain → IsNoBase chain
not-base mark last before (OfBase b) so may =
    let none : max mark last ≡ 0 = sym so.telling ∙ ap told_time may.0 in
    let low = le-max_left mark last in
    let some = may.3.some in
    absurd (omega (arith, none, low, some, may.2))
not-base mark last before (OfGroup members) so may = tt
not-base mark last before (OfRun upto runs) so may = tt
not-base mark last before (OfFloor f) so may = tt

pub none-behind : (mark last : ℕ) (before : List Slot) (chains : List LogChain) → TellsSo mark last before → MayAllFollow mark last before chains
    → AllByRecursion IsNoBase chains
none-behind mark last before [] so may = tt
none-behind mark last before (chain ∷ chains) so may = (
  not-base mark last before chain so may.0,
  none-behind mark (last_time_after last (commits_in chain)) (told_behind mark before chain) chains (tells-behind mark last before chain so may.0) may.1,
)

all-dropped : (n : ℕ) (chains : List LogChain) → AllByRecursion IsNoBase chains → AllByRecursion IsNoBase (drop n chains)
all-dropped zero chains all = all
all-dropped (suc n) [] all = tt
all-dropped (suc n) (chain ∷ chains) all = all-dropped n chains all.1

-- where the first chain is no base, none is; else none of the others is
pub others-none : (chains : List PlacedChain) (names : List Head) (c : PlacedChain)
    → MayAllFollow (reclaimed_by (chains_told names (c ∷ chains))) 0 [] (chains_told names (c ∷ chains)) → AllByRecursion IsNoBase (chains_told names chains)
others-none chains names c may = by (chain_told names c.entry) may
  where
    by : (first : LogChain) → MayAllFollow (reclaimed_by (first ∷ chains_told names chains)) 0 [] (first ∷ chains_told names chains)
        → AllByRecursion IsNoBase (chains_told names chains)
    by (OfBase b) may = none-behind b.upto 0 (told_behind b.upto [] (OfBase b)) (chains_told names chains) (tells-base b may.0.3) may.1
    by (OfGroup members) may = (none-behind 0 0 [] (OfGroup members ∷ chains_told names chains) tells-none may).1
    by (OfRun upto runs) may = (none-behind 0 0 [] (OfRun upto runs ∷ chains_told names chains) tells-none may).1
    by (OfFloor f) may = (none-behind 0 0 [] (OfFloor f ∷ chains_told names chains) tells-none may).1

late-no_base : (mark : ℕ) (names : List Head) (e : Entry) → is_later mark (part_of e) ≡ true → IsNoBase (chain_told names e)
late-no_base mark names (Group members) late = tt
late-no_base mark names (Archived archive) late = tt
late-no_base mark names (Floor floor) late = tt
late-no_base mark names (entries.Base base) late = absurd cc

pub rest-no_base : (mark : ℕ) (names : List Head) (chains : List PlacedChain)
    → MayAllFollow (reclaimed_by (chains_told names chains)) 0 [] (chains_told names chains)
    → AllByRecursion IsNoBase (chains_told names (drop (front_len mark (map live_of chains)) chains))
rest-no_base mark names [] may = tt
rest-no_base mark names (c ∷ chains) may =
    let n = front_len mark (map live_of chains) in
    let others = others-none chains names c may in
    (elim (is_later mark (part_of c.entry)) as (λ b. is_later mark (part_of c.entry) ≡ b
    → AllByRecursion IsNoBase (chains_told names (drop (cond b zero (suc n)) (c ∷ chains)))) [
      | true ↦ λ e. (late-no_base mark names c.entry e, others)
      | false ↦ λ e. subst (AllByRecursion IsNoBase) (drop-map (λ (d : PlacedChain). chain_told names d.entry) n chains)
          (all-dropped n (chains_told names chains) others)
    ]) refl

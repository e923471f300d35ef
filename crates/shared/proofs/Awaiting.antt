-- A commit that waits has a ticket that is not redeemed yet.
use Rattle.std.proofs.Common.{◌≡◌, ℕ, zero, suc, ◌<◌, ◌==◌, ◌+◌, nat_lt, Bool, true, false, cond, List, [], ◌∷◌, map, drop, refl, ap, ◌∙◌, subst, ⊎_elim, arith}
use Rattle.std.specs.Prelude.{Contains}
use Rattle.std.proofs.lemmas.Bool.Decides.{nat_tests}
use Rattle.atomic_table.specs.Seated.{TableId}
use Rattle.history.specs.Histories.{Commit, History, HasRisingTimes, last}
use Rattle.history.specs.Machine.{Machine}
use Rattle.history.proofs.Members.{Contains-cons_cases, Contains-nil}
use Rattle.law_image.specs.Values.{Value}
use Rattle.group.specs.CommitOrder.{is_awaited, IsRisingAfter}
use Rattle.group.specs.declared.commit_order.CommitHead.{CommitHead}
use Rattle.any_store.specs.Values.{StoreValue, commits_of}
use Rattle.law_commits.proofs.Answering as answering
use Rattle.law_refinement.specs.Standing.{Name, name_of, name_at}
use Rattle.shared.specs.Counts.{told_after}
use Rattle.shared.specs.Kinds.{Kind}
use Rattle.shared.specs.Seen.{SightValue}
use Rattle.shared.specs.Shared.{IsShared, HasCommitAt}
use Rattle.shared.proofs.Engines.{in-memory, is-machine, waiting-named, queue-rises}

pub later-time : (t : ℕ) (h : History Value) (c : Commit Value) → HasRisingTimes t h → Contains h c → t < c.time
later-time t [] c rising has = absurd (Contains-nil c has)
later-time t (x ∷ xs) c rising has = ⊎_elim
    (λ (is : x ≡ c). subst (λ (y : Commit Value). t < y.time) is rising.0)
    (λ (more : Contains xs c). let later = later-time x.time xs c rising.2 more in let first = rising.0 in omega (arith, later, first))
    (Contains-cons_cases x xs c has)

-- what a head adds to those that are told later than a time
abbrev late : ℕ → CommitHead → ℕ
late t x = cond (nat_lt t x.time) (cond x.awaited 0 1) 0

abbrev told_of : Bool → ℕ
told_of b = cond b 0 1

-- a head that adds nothing is awaited
not-told : (b : Bool) → told_of b ≡ 0 → b ≡ true
not-told true none = refl
not-told false none = absurd cc

-- by whether the first has the time
awaited-by : (t : ℕ) (x : CommitHead) (xs : List CommitHead) (d : Commit Value) (ds : History Value) (c : Commit Value) → x.time ≡ d.time → t < c.time
    → late t x ≡ 0 → Contains (d ∷ ds) c → (Contains ds c → is_awaited c.time xs ≡ true)
    → (b : Bool) → (x.time == c.time) ≡ b → cond b x.awaited (is_awaited c.time xs) ≡ true
awaited-by t x xs d ds c named after none has rest true is =
    let same : x.time ≡ c.time = grind (arith, nat_tests) in
    let high : nat_lt t x.time ≡ true = grind (arith, nat_tests) in
    let one : told_of x.awaited ≡ 0 = subst (λ (b : Bool). Path ℕ (cond b (cond x.awaited 0 1) 0) 0) high none in
    not-told x.awaited one
awaited-by t x xs d ds c named after none has rest false is = ⊎_elim
    (λ (it : d ≡ c).
    let at : d.time ≡ c.time = ap (λ (y : Commit Value). y.time) it in
    let same : x.time ≡ c.time = named ∙ at in
    absurd (grind (arith, nat_tests)))
    rest
    (Contains-cons_cases d ds c has)

-- none later than a time is told, and this one is later
awaited-later : (t : ℕ) (heads : List CommitHead) (h : History Value) (c : Commit Value) → map name_at heads ≡ map name_of h → Contains h c → t < c.time
    → told_after t heads ≡ 0 → is_awaited c.time heads ≡ true
awaited-later t [] [] c names has after none = absurd (Contains-nil c has)
awaited-later t [] (d ∷ ds) c names has after none = absurd cc
awaited-later t (x ∷ xs) [] c names has after none = absurd cc
awaited-later t (x ∷ xs) (d ∷ ds) c names has after none =
    let first : name_at x ≡ name_of d = cc in
    let behind : map name_at xs ≡ map name_of ds = cc in
    let all : late t x + told_after t xs ≡ 0 = none in
    let one : late t x ≡ 0 = omega (arith, all) in
    let others : told_after t xs ≡ 0 = omega (arith, all) in
    awaited-by t x xs d ds c (ap (λ (n : Name). n.time) first) after one has (λ more. awaited-later t xs ds c behind more after others) (x.time == c.time) refl

-- none behind others is told later
none-behind : (t n : ℕ) (heads : List CommitHead) → told_after t heads ≡ 0 → told_after t (drop n heads) ≡ 0
none-behind t zero heads none = none
none-behind t (suc n) [] none = none
none-behind t (suc n) (x ∷ xs) none = let all : late t x + told_after t xs ≡ 0 = none in none-behind t n xs (omega (arith, all))

-- one that is awaited behind others is awaited among all
awaited-behind : (t time n : ℕ) (heads : List CommitHead) → IsRisingAfter t heads → is_awaited time (drop n heads) ≡ true → is_awaited time heads ≡ true
awaited-behind t time zero heads rising waits = waits
awaited-behind t time (suc n) [] rising waits = waits
awaited-behind t time (suc n) (x ∷ xs) rising waits =
    let rest = awaited-behind x.time time n xs rising.2 waits in
    let after = answering.awaited-later x.time time xs rising.2 rest in
    let other : (x.time == time) ≡ false = grind (arith, nat_tests) in
    rw other rest

pub queue-awaited : (tells : Bool) (start : Machine Value) (kind : Kind) (brand : ℕ) (table : TableId) (v : StoreValue) (shares : ℕ) (at : TableId)
    (pass : SightValue) (h : IsShared tells start kind brand table v shares at pass) (time : ℕ) → HasCommitAt h.state.queue time
    → is_awaited time (commits_of v).heads ≡ true
queue-awaited tells start kind brand table v shares at pass h time found =
    let m = h.state in
    let c = commits_of v in
    let memory = in-memory tells v m h.stands in
    let rising = queue-rises m (is-machine tells v m h.stands) in
    let after : last m.published < found.0.time = later-time (last m.published) m.queue found.0 rising found.1 in
    let waits =
    awaited-later (last m.published) (drop c.published c.heads) m.queue found.0 (waiting-named c m memory) found.1 after
    (none-behind (last m.published) c.published c.heads h.none_waits) in
    subst (λ (t : ℕ). is_awaited t c.heads ≡ true) found.2 (awaited-behind 0 found.0.time c.published c.heads memory.rising waits)

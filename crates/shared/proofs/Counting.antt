-- How many commits are told of, as the heads change.
use Rattle.std.proofs.Common.{◌≡◌, ℕ, zero, suc, ◌+◌, ◌<◌, ◌≤◌, ◌==◌, nat_lt, Bool, true, false, cond, List, [], ◌∷◌, ◌++◌, length, take, drop, map, refl}
use Rattle.std.proofs.Common.{ap, ◌∙◌}
use Rattle.std.proofs.Common.{arith}
use Rattle.std.proofs.lemmas.Bool.Decides.{nat_tests}
use Rattle.history.specs.Histories.{History, HasRisingTimes}
use Rattle.law_image.specs.Values.{Value}
use Rattle.group.specs.declared.commit_order.CommitHead.{CommitHead}
use Rattle.group.specs.CommitOrder.{is_awaited, redeemed, last_time_after, IsRisingAfter}
use Rattle.law_refinement.specs.Standing.{Name, name_of, name_at}
use Rattle.shared.specs.Counts.{told_count, told_after, awaited_upto}

-- ---- a commit is queued

abbrev awaited_head : ℕ → ℕ → CommitHead
awaited_head time label = record { time = time; label = label; awaited = true }

pub told-push : (heads : List CommitHead) (time label : ℕ) → told_count (heads ++ awaited_head time label ∷ []) ≡ told_count heads
told-push [] time label = refl
told-push (x ∷ xs) time label = ap (λ (n : ℕ). cond x.awaited 0 1 + n) (told-push xs time label)

pub after-push : (t : ℕ) (heads : List CommitHead) (time label : ℕ) → told_after t (heads ++ awaited_head time label ∷ []) ≡ told_after t heads
after-push t [] time label = by-test (nat_lt t time)
  where
    by-test : (b : Bool) → cond b 0 0 + 0 ≡ 0
    by-test true = refl
    by-test false = refl
after-push t (x ∷ xs) time label = ap (λ (n : ℕ). cond (nat_lt t x.time) (cond x.awaited 0 1) 0 + n) (after-push t xs time label)

-- ---- Done is answered

-- what a head adds, by whether it is awaited
abbrev told_of : Bool → ℕ
told_of b = cond b 0 1

told-by : (x : CommitHead) (xs : List CommitHead) (time : ℕ) → (is_awaited time xs ≡ true → told_count (redeemed time xs) ≡ told_count xs + 1) → (b : Bool)
    → cond b x.awaited (is_awaited time xs) ≡ true
    → told_count (cond b (record x { awaited = false } ∷ xs) (x ∷ redeemed time xs)) ≡ cond x.awaited 0 1 + told_count xs + 1
told-by x xs time rest true on =
    let none : told_of x.awaited ≡ 0 = ap told_of on in
    let goal : Path ℕ (1 + told_count xs) (cond x.awaited 0 1 + told_count xs + 1) = omega (arith, none) in goal
told-by x xs time rest false later =
    let more = rest later in
    let goal : cond x.awaited 0 1 + told_count (redeemed time xs) ≡ cond x.awaited 0 1 + told_count xs + 1 = omega (arith, more) in goal

pub told-redeemed : (time : ℕ) (heads : List CommitHead) → is_awaited time heads ≡ true → told_count (redeemed time heads) ≡ told_count heads + 1
told-redeemed time [] waits = absurd cc
told-redeemed time (x ∷ xs) waits = told-by x xs time (told-redeemed time xs) (x.time == time) waits

-- and there are as many
length-by : (x : CommitHead) (xs : List CommitHead) (time : ℕ) → length (redeemed time xs) ≡ length xs → (b : Bool)
    → length (cond b (record x { awaited = false } ∷ xs) (x ∷ redeemed time xs)) ≡ length (x ∷ xs)
length-by x xs time rest true = refl
length-by x xs time rest false = ap suc rest

pub length-redeemed : (time : ℕ) (heads : List CommitHead) → length (redeemed time heads) ≡ length heads
length-redeemed time [] = refl
length-redeemed time (x ∷ xs) = length-by x xs time (length-redeemed time xs) (x.time == time)

-- what a head adds to those that are told later than a time
abbrev late : ℕ → CommitHead → ℕ
late t x = cond (nat_lt t x.time) (cond x.awaited 0 1) 0

late-none : (t : ℕ) (x : CommitHead) → x.time ≤ t → late t x ≡ 0
late-none t x le = let low : nat_lt t x.time ≡ false = grind (arith, nat_tests) in ap (λ (b : Bool). cond b (cond x.awaited 0 1) 0) low

after-by : (t time : ℕ) (x : CommitHead) (xs : List CommitHead) → time ≤ t → told_after t (redeemed time xs) ≡ told_after t xs → (b : Bool) → (x.time == time)
    ≡ b → told_after t (cond b (record x { awaited = false } ∷ xs) (x ∷ redeemed time xs)) ≡ late t x + told_after t xs
after-by t time x xs early rest true is =
    let same : x.time ≡ time = grind (arith, nat_tests) in
    let le : x.time ≤ t = omega (arith, same, early) in
    let first = late-none t x le in
    let spent = late-none t (record x { awaited = false }) le in
    let goal : late t (record x { awaited = false }) + told_after t xs ≡ late t x + told_after t xs = omega (arith, first, spent) in goal
after-by t time x xs early rest false is = ap (λ (n : ℕ). late t x + n) rest

pub after-redeemed : (t time : ℕ) (heads : List CommitHead) → time ≤ t → told_after t (redeemed time heads) ≡ told_after t heads
after-redeemed t time [] early = refl
after-redeemed t time (x ∷ xs) early = after-by t time x xs early (after-redeemed t time xs early) (x.time == time) refl

-- ---- more is published

later-by : (s t : ℕ) (x : CommitHead) (rest : ℕ) → s ≤ t → rest ≡ 0 → (a : Bool) → nat_lt s x.time ≡ a → (b : Bool) → nat_lt t x.time ≡ b
    → Path ℕ (cond a (told_of x.awaited) 0) 0 → Path ℕ (cond b (told_of x.awaited) 0 + rest) 0
later-by s t x rest le none true low true high first = omega (arith, none, first)
later-by s t x rest le none false low true high first =
    let early : x.time ≤ s = grind (arith, nat_tests) in
    let later : t < x.time = grind (arith, nat_tests) in
    absurd (omega (arith, early, later, le))
later-by s t x rest le none a low false high first = let goal : Path ℕ (0 + rest) 0 = omega (arith, none) in goal

pub after-later : (s t : ℕ) (heads : List CommitHead) → s ≤ t → told_after s heads ≡ 0 → told_after t heads ≡ 0
after-later s t [] le none = refl
after-later s t (x ∷ xs) le none =
    let all : late s x + told_after s xs ≡ 0 = none in
    let first : late s x ≡ 0 = omega (arith, all) in
    let rest : told_after s xs ≡ 0 = omega (arith, all) in
    later-by s t x (told_after t xs) le (after-later s t xs le rest) (nat_lt s x.time) refl (nat_lt t x.time) refl first

-- ---- all together

pub rising-last : (t : ℕ) (heads : List CommitHead) → IsRisingAfter t heads → t ≤ last_time_after t heads
rising-last t [] rising = let goal : t ≤ t = omega arith in goal
rising-last t (x ∷ xs) rising =
    let more = rising-last x.time xs rising.2 in
    let first = rising.0 in
    let goal : t ≤ last_time_after x.time xs = omega (arith, first, more) in goal

pub none-after : (t : ℕ) (heads : List CommitHead) → IsRisingAfter t heads → told_after (last_time_after t heads) heads ≡ 0
none-after t [] rising = refl
none-after t (x ∷ xs) rising =
    let first = late-none (last_time_after x.time xs) x (rising-last x.time xs rising.2) in
    let rest = none-after x.time xs rising.2 in
    let goal : late (last_time_after x.time xs) x + told_after (last_time_after x.time xs) xs ≡ 0 = omega (arith, first, rest) in goal

pub rising-take : (t n : ℕ) (heads : List CommitHead) → IsRisingAfter t heads → IsRisingAfter t (take n heads)
rising-take t zero heads rising = tt
rising-take t (suc n) [] rising = tt
rising-take t (suc n) (x ∷ xs) rising = (rising.0, rising.1, rising-take x.time n xs rising.2)

-- what a head adds to those that are awaited up to a time
abbrev due : ℕ → CommitHead → ℕ
due t x = cond (nat_lt t x.time) 0 (cond x.awaited 1 0)

due-late : (t : ℕ) (x : CommitHead) → t < x.time → (late t x ≡ cond x.awaited 0 1) × (due t x ≡ 0)
due-late t x lt = let high : nat_lt t x.time ≡ true =
    grind (arith, nat_tests) in (ap (λ (b : Bool). cond b (cond x.awaited 0 1) 0) high, ap (λ (b : Bool). cond b 0 (cond x.awaited 1 0)) high)

one-of : (b : Bool) → cond b 0 1 + cond b 1 0 ≡ 1
one-of true = refl
one-of false = refl

due-early : (t : ℕ) (x : CommitHead) → x.time ≤ t → cond x.awaited 0 1 + due t x ≡ 1
due-early t x le =
    let low : nat_lt t x.time ≡ false = grind (arith, nat_tests) in
    ap (λ (b : Bool). cond x.awaited 0 1 + cond b 0 (cond x.awaited 1 0)) low ∙ one-of x.awaited

-- of heads with the names of later commits none is told where none is told later, and none awaited up to then
none-early : (t s : ℕ) (heads : List CommitHead) (h : History Value) → map name_at heads ≡ map name_of h → t ≤ s → HasRisingTimes s h
    → told_after t heads ≡ 0 → (told_count heads ≡ 0) × (awaited_upto t heads ≡ 0)
none-early t s [] h named le rising none = (refl, refl)
none-early t s (x ∷ xs) [] named le rising none = absurd cc
none-early t s (x ∷ xs) (c ∷ cs) named le rising none =
    let first_name : name_at x ≡ name_of c = cc in
    let behind : map name_at xs ≡ map name_of cs = cc in
    let time : x.time ≡ c.time = ap (λ (n : Name). n.time) first_name in
    let above = rising.0 in
    let high : t < x.time = omega (arith, le, above, time) in
    let of = due-late t x high in
    let told_x = of.0 in
    let due_x = of.1 in
    let all : late t x + told_after t xs ≡ 0 = none in
    let rest_none : told_after t xs ≡ 0 = omega (arith, all) in
    let rest = none-early t c.time xs cs behind (omega (arith, le, above)) rising.2 rest_none in
    let told = rest.0 in
    let waits = rest.1 in
    let first : cond x.awaited 0 1 + told_count xs ≡ 0 = omega (arith, all, told_x, told) in
    let second : due t x + awaited_upto t xs ≡ 0 = omega (arith, due_x, waits) in
    (first, second)

-- the published heads are those that are told and those that are awaited, where those behind them have the names of commits that wait
pub published-count : (t s p : ℕ) (heads : List CommitHead) (queue : History Value) → IsRisingAfter s heads → p ≤ length heads
    → last_time_after s (take p heads) ≤ t → map name_at (drop p heads) ≡ map name_of queue → HasRisingTimes t queue → told_after t heads ≡ 0
    → p ≡ told_count heads + awaited_upto t heads
published-count t s zero heads queue rising few upto named later none =
    let nothing = none-early t t heads queue named (omega arith) later none in
    let told = nothing.0 in
    let waits = nothing.1 in
    let goal : Path ℕ 0 (told_count heads + awaited_upto t heads) = omega (arith, told, waits) in
    goal
published-count t s (suc p) [] queue rising few upto named later none = absurd (omega (arith, few))
published-count t s (suc p) (x ∷ xs) queue rising few upto named later none =
    let least = rising-last x.time (take p xs) (rising-take x.time p xs rising.2) in
    let early : x.time ≤ t = omega (arith, least, upto) in
    let all : late t x + told_after t xs ≡ 0 = none in
    let rest_none : told_after t xs ≡ 0 = omega (arith, all) in
    let shorter : suc p ≤ suc (length xs) = few in
    let rest = published-count t x.time p xs queue rising.2 (omega (arith, shorter)) upto named later rest_none in
    let one = due-early t x early in
    let goal : suc p ≡ cond x.awaited 0 1 + told_count xs + (due t x + awaited_upto t xs) = omega (arith, one, rest) in
    goal

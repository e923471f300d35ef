-- A base in the place of the front of a log tells the same, but for the reclaim mark.
use Rattle.std.proofs.Common.{◌≡◌, ℕ, ◌+◌, ◌-◌, ◌<◌, ◌≤◌, ◌^◌, max, nat_lt, nat_le, Bool, true, false, cond, zero, suc, List, [], ◌∷◌, ◌++◌, map, length, take}
use Rattle.std.proofs.Common.{Option, refl, ap, sym, subst, ◌∙◌, arith, append_assoc, ⊎_elim}
use Rattle.std.specs.Prelude.{filter}
use Rattle.std.specs.List.{AllByRecursion}
use Rattle.std.proofs.Math.Nat.{le-max_left, le-max_right, max-le}
use Rattle.std.proofs.lemmas.Bool.{cases_lt}
use Rattle.std.proofs.lemmas.List.{append-nil}
use Rattle.std.proofs.lemmas.List.Elements.{filter-append}
use Rattle.history.proofs.Orders.{is_lt, not_lt, is_le, not_le}
use Rattle.history.proofs.Filters.{filter-filter}
use Rattle.law_image.specs.Reading.{Head, Slot, Commits, Archived, Reclaimed, Member}
use Rattle.law_image.specs.Reading as slots
use Rattle.history.specs.Floors.{raised}
use Rattle.std.proofs.lemmas.Bool.Decides.{nat_tests}
use Rattle.law_image.specs.Log.{heads_of, last_time_after, last_time, told_time, archive_mark, reclaim_mark_after, reclaim_mark, floors_after, floor_of}
use Rattle.law_image.specs.Log.{AreRisingAfter, AllCome, MayComeInHeap}
use Rattle.law_image.specs.HeapPlans.{marks_of, first_runs, IsBased}
use Rattle.law_image.proofs.GroupStep.{length-map}
use Rattle.law_image.proofs.Logs.{heads_of-append, last_time_after-append, same_last, marked-heap, archive_mark-append, reclaim_mark-append, floors-append}
use Rattle.law_image.proofs.HeapRuns.{marks-append, first-marks, last_mark, last_mark-is, floors-alike}
use Rattle.law_log.specs.Chains.{RelationFloor, Base, LogChain, OfBase, OfGroup, OfRun, OfFloor, commits_slot, later_heads, floor_slot, base_slots, heads_in}
use Rattle.law_log.specs.Chains.{told_behind, told_from, told, reclaimed_by, commits_in, last_commit, IsBase, MayFollow, MayAllFollow, KeepsChainRules, IsUpTo}
use Rattle.law_log.specs.Chains.{IsLater, BeginsLater, IsNoBase, TakesPlace}
use Rattle.law_log.proofs.Telling.{TellsSo, tells-all, tells-from, tells-base, told-keeps, commits-heads, last-rises}

-- ---- what the first runs alone tell

first-heads : (kept : ℕ) (log : List Slot) → heads_of (first_runs kept log) ≡ heads_of log
first-heads zero [] = refl
first-heads (suc kept) [] = refl
first-heads zero (Commits heads ∷ slots) = ap (λ l. heads ++ l) (first-heads zero slots)
first-heads (suc kept) (Commits heads ∷ slots) = ap (λ l. heads ++ l) (first-heads (suc kept) slots)
first-heads zero (Archived upto ∷ slots) = first-heads zero slots
first-heads (suc kept) (Archived upto ∷ slots) = first-heads kept slots
first-heads zero (Reclaimed upto ∷ slots) = first-heads zero slots
first-heads (suc kept) (Reclaimed upto ∷ slots) = first-heads (suc kept) slots
first-heads zero (slots.Floor scope floor ∷ rest) = first-heads zero rest
first-heads (suc kept) (slots.Floor scope floor ∷ rest) = first-heads (suc kept) rest

first-floors : (f : ℕ → ℕ) (kept : ℕ) (log : List Slot) → floors_after f (first_runs kept log) ≡ floors_after f log
first-floors f zero [] = refl
first-floors f (suc kept) [] = refl
first-floors f zero (Commits heads ∷ slots) = first-floors f zero slots
first-floors f (suc kept) (Commits heads ∷ slots) = first-floors f (suc kept) slots
first-floors f zero (Archived upto ∷ slots) = first-floors f zero slots
first-floors f (suc kept) (Archived upto ∷ slots) = first-floors f kept slots
first-floors f zero (Reclaimed upto ∷ slots) = first-floors f zero slots
first-floors f (suc kept) (Reclaimed upto ∷ slots) = first-floors f (suc kept) slots
first-floors f zero (slots.Floor scope floor ∷ rest) = first-floors (raised scope floor f) zero rest
first-floors f (suc kept) (slots.Floor scope floor ∷ rest) = first-floors (raised scope floor f) (suc kept) rest

first-reclaimed : (kept : ℕ) (log : List Slot) → (t : ℕ) → reclaim_mark_after t (first_runs kept log) ≡ reclaim_mark_after t log
first-reclaimed zero [] t = refl
first-reclaimed (suc kept) [] t = refl
first-reclaimed zero (Commits heads ∷ slots) t = first-reclaimed zero slots t
first-reclaimed (suc kept) (Commits heads ∷ slots) t = first-reclaimed (suc kept) slots t
first-reclaimed zero (Archived upto ∷ slots) t = first-reclaimed zero slots t
first-reclaimed (suc kept) (Archived upto ∷ slots) t = first-reclaimed kept slots t
first-reclaimed zero (Reclaimed upto ∷ slots) t = first-reclaimed zero slots upto
first-reclaimed (suc kept) (Reclaimed upto ∷ slots) t = first-reclaimed (suc kept) slots upto
first-reclaimed zero (slots.Floor scope floor ∷ rest) t = first-reclaimed zero rest t
first-reclaimed (suc kept) (slots.Floor scope floor ∷ rest) t = first-reclaimed (suc kept) rest t

-- ---- one chain more

-- This is told with the base, where that is told without it: the runs and floors are the same, and the commits are those that the base names, and those later
-- than its mark.
pub record TellBased (mark : ℕ) (names : List Head) (before after : List Slot) : Type 0 where
  pub marks : marks_of after ≡ marks_of before
  pub floors : (relation : ℕ) → floor_of after relation ≡ floor_of before relation
  pub reclaimed : reclaim_mark after ≡ mark
  pub heads : heads_of after ≡ names ++ later_heads mark (heads_of before)

later-later : (old mark : ℕ) (heads : List Head) → old ≤ mark → later_heads mark (later_heads old heads) ≡ later_heads mark heads
later-later old mark heads le =
    filter-filter (λ (head : Head). nat_lt mark head.time) (λ (head : Head). nat_lt old head.time) heads
    (λ head e. is_lt (omega (arith, le, of_lt mark head.time e)))
  where
    of_lt : (a b : ℕ) → nat_lt a b ≡ true → a < b
    of_lt a b e = grind (arith, nat_tests)

-- the commits of a slot, where there are any
heads-behind : (before : List Slot) (heads : List Head) → heads_of (before ++ commits_slot heads) ≡ heads_of before ++ heads
heads-behind before heads = heads_of-append before (commits_slot heads) ∙ ap (λ l. heads_of before ++ l) (commits-heads heads)

commits-no_marks : (heads : List Head) → marks_of (commits_slot heads) ≡ []
commits-no_marks [] = refl
commits-no_marks (head ∷ heads) = refl

commits-floors : (f : ℕ → ℕ) (heads : List Head) → floors_after f (commits_slot heads) ≡ f
commits-floors f [] = refl
commits-floors f (head ∷ heads) = refl

commits-reclaimed : (t : ℕ) (heads : List Head) → reclaim_mark_after t (commits_slot heads) ≡ t
commits-reclaimed t [] = refl
commits-reclaimed t (head ∷ heads) = refl

marks-behind : (log : List Slot) (heads : List Head) → marks_of (log ++ commits_slot heads) ≡ marks_of log
marks-behind log heads = marks-append log (commits_slot heads) ∙ ap (λ l. marks_of log ++ l) (commits-no_marks heads) ∙ append-nil (marks_of log)

floors-behind : (log : List Slot) (heads : List Head) (relation : ℕ) → floor_of (log ++ commits_slot heads) relation ≡ floor_of log relation
floors-behind log heads relation = ap (λ (f : ℕ → ℕ). f relation) (floors-append (λ q. 0) log (commits_slot heads) ∙ commits-floors (floor_of log) heads)

reclaimed-behind : (log : List Slot) (heads : List Head) → reclaim_mark (log ++ commits_slot heads) ≡ reclaim_mark log
reclaimed-behind log heads = reclaim_mark-append 0 log (commits_slot heads) ∙ commits-reclaimed (reclaim_mark log) heads

pub based-behind : (old mark : ℕ) (names : List Head) (before after : List Slot) (chain : LogChain) → old ≤ mark → IsNoBase chain
    → TellBased mark names before after → TellBased mark names (told_behind old before chain) (told_behind mark after chain)
based-behind old mark names before after (OfBase b) le none so = absurd none
based-behind old mark names before after (OfGroup members) le none so =
    let hs = heads_in members in
    record {
      marks = marks-behind after (later_heads mark hs) ∙ so.marks ∙ sym (marks-behind before (later_heads old hs));
      floors = λ relation. floors-behind after (later_heads mark hs) relation ∙ so.floors relation ∙ sym (floors-behind before (later_heads old hs) relation);
      reclaimed = reclaimed-behind after (later_heads mark hs) ∙ so.reclaimed;
      heads =
          heads-behind after (later_heads mark hs)
          ∙ ap (λ l. l ++ later_heads mark hs) so.heads
          ∙ append_assoc names (later_heads mark (heads_of before)) (later_heads mark hs)
          ∙ ap (λ l. names ++ (later_heads mark (heads_of before) ++ l)) (sym (later-later old mark hs le))
          ∙ ap (λ l. names ++ l) (sym (filter-append (λ (head : Head). nat_lt mark head.time) (heads_of before) (later_heads old hs)))
          ∙ ap (λ l. names ++ later_heads mark l) (sym (heads-behind before (later_heads old hs)));
    }
based-behind old mark names before after (OfRun upto runs) le none so =
    let kept = length (marks_of before) - runs in
    let kept' = length (marks_of after) - runs in
    let same : kept' ≡ kept = ap (λ (l : List ℕ). length l - runs) so.marks in
    record {
      marks =
          marks-append (first_runs kept' after) (Archived upto ∷ [])
          ∙ ap (λ l. l ++ upto ∷ []) (first-marks kept' after ∙ ap (λ (n : ℕ). take n (marks_of after)) same ∙ ap (take kept) so.marks
          ∙ sym (first-marks kept before))
          ∙ sym (marks-append (first_runs kept before) (Archived upto ∷ []));
      floors = λ relation.
          ap (λ (f : ℕ → ℕ). f relation) (floors-append (λ q. 0) (first_runs kept' after) (Archived upto ∷ []) ∙ first-floors (λ q. 0) kept' after)
          ∙ so.floors relation
          ∙ sym (ap (λ (f : ℕ → ℕ). f relation) (floors-append (λ q. 0) (first_runs kept before) (Archived upto ∷ []) ∙ first-floors (λ q. 0) kept before));
      reclaimed = reclaim_mark-append 0 (first_runs kept' after) (Archived upto ∷ []) ∙ first-reclaimed kept' after 0 ∙ so.reclaimed;
      heads =
          heads_of-append (first_runs kept' after) (Archived upto ∷ []) ∙ append-nil (heads_of (first_runs kept' after)) ∙ first-heads kept' after ∙ so.heads
          ∙ ap (λ l. names ++ later_heads mark l) (sym (heads_of-append (first_runs kept before) (Archived upto ∷ [])
          ∙ append-nil (heads_of (first_runs kept before)) ∙ first-heads kept before));
    }
based-behind old mark names before after (OfFloor f) le none so = record {
  marks = marks-append after (floor_slot f ∷ []) ∙ ap (λ l. l ++ []) so.marks ∙ sym (marks-append before (floor_slot f ∷ []));
  floors = λ relation.
      ap (λ (g : ℕ → ℕ). g relation) (floors-append (λ q. 0) after (floor_slot f ∷ []))
      ∙ floors-alike (floor_of after) (floor_of before) (floor_slot f) relation (so.floors relation)
      ∙ sym (ap (λ (g : ℕ → ℕ). g relation) (floors-append (λ q. 0) before (floor_slot f ∷ [])));
  reclaimed = reclaim_mark-append 0 after (floor_slot f ∷ []) ∙ so.reclaimed;
  heads =
      heads_of-append after (floor_slot f ∷ []) ∙ append-nil (heads_of after) ∙ so.heads
      ∙ ap (λ l. names ++ later_heads mark l) (sym (heads_of-append before (floor_slot f ∷ []) ∙ append-nil (heads_of before)));
}

pub based-from : (old mark : ℕ) (names : List Head) (before after : List Slot) (chains : List LogChain) → old ≤ mark → AllByRecursion IsNoBase chains
    → TellBased mark names before after → TellBased mark names (told_from old before chains) (told_from mark after chains)
based-from old mark names before after [] le none so = so
based-from old mark names before after (chain ∷ chains) le none so =
    based-from old mark names (told_behind old before chain) (told_behind mark after chain) chains le none.1
    (based-behind old mark names before after chain le none.0 so)

-- ---- a log in two parts

pub told-split : (mark : ℕ) (before : List Slot) (front back : List LogChain) → told_from mark before (front ++ back)
    ≡ told_from mark (told_from mark before front) back
told-split mark before [] back = refl
told-split mark before (chain ∷ chains) back = told-split mark (told_behind mark before chain) chains back

may-split : (mark last : ℕ) (before : List Slot) (front back : List LogChain) → MayAllFollow mark last before (front ++ back)
    → MayAllFollow mark last before front × MayAllFollow mark (last_commit last front) (told_from mark before front) back
may-split mark last before [] back may = (tt, may)
may-split mark last before (chain ∷ chains) back may =
    let rest = may-split mark (last_time_after last (commits_in chain)) (told_behind mark before chain) chains back may.1 in
    ((may.0, rest.0), rest.1)

-- ---- its rules behind the base

max-more : (a b c d : ℕ) → a ≤ c → b ≤ d → max a b ≤ max c d
max-more a b c d left right = grind (arith, nat_tests)

last-same : (s t : ℕ) (heads : List Head) → 0 < length heads → last_time_after s heads ≡ last_time_after t heads
last-same s t [] some = absurd (omega (arith, some))
last-same s t (head ∷ heads) some = refl

pub last-above : (last : ℕ) (heads : List Head) → 0 < length heads → AreRisingAfter last heads → last < last_time_after last heads
last-above last [] some up = absurd (omega (arith, some))
last-above last (head ∷ heads) some up = omega (arith, up.0, last-rises head.time heads up.2)

pub rising-lower : (s t : ℕ) (heads : List Head) → s ≤ t → AreRisingAfter t heads → AreRisingAfter s heads
rising-lower s t [] le up = tt
rising-lower s t (head ∷ heads) le up = (omega (arith, le, up.0), up.1, up.2)

same-mark : (before after : List Slot) → marks_of after ≡ marks_of before → archive_mark after ≡ archive_mark before
same-mark before after same = last_mark-is 0 after ∙ ap (last_mark 0) same ∙ sym (last_mark-is 0 before)

one-later : (old mark last : ℕ) (names : List Head) (before after : List Slot) (chain : LogChain) → old ≤ mark → mark ≤ last → IsNoBase chain
    → TellBased mark names before after → MayFollow old last before chain → MayFollow mark last after chain
one-later old mark last names before after (OfBase b) le late none so may = absurd none
one-later old mark last names before after (OfGroup members) le late none so may =
    (may.0, may.1, may.2, omega (arith, late, last-above last (heads_in members) (omega (arith, may.0, length-map (λ (m : Member). m.head) members)) may.2))
one-later old mark last names before after (OfRun upto runs) le late none so may =
    let same = same-mark before after so.marks in
    let up = max-more old last mark last le (omega arith) in
    let many = ap (λ (l : List ℕ). length l) so.marks in
    (omega (arith, same, may.0), omega (arith, may.1, up), omega (arith, many, may.2))
one-later old mark last names before after (OfFloor f) le late none so may =
    let same = so.floors f.relation in
    let up = max-more old last mark last le (omega arith) in
    (omega (arith, same, may.0), omega (arith, may.1, up))

later-stays : (old mark last : ℕ) (names : List Head) (before : List Slot) (chain : LogChain) → mark ≤ last → MayFollow old last before chain
    → mark ≤ last_time_after last (commits_in chain)
later-stays old mark last names before (OfBase b) late may = late
later-stays old mark last names before (OfGroup members) late may = omega (arith, late, last-rises last (heads_in members) may.2)
later-stays old mark last names before (OfRun upto runs) late may = late
later-stays old mark last names before (OfFloor f) late may = late

all-later : (old mark last : ℕ) (names : List Head) (before after : List Slot) (chains : List LogChain) → old ≤ mark → mark ≤ last
    → AllByRecursion IsNoBase chains
    → TellBased mark names before after → MayAllFollow old last before chains → MayAllFollow mark last after chains
all-later old mark last names before after [] le late none so may = tt
all-later old mark last names before after (chain ∷ chains) le late none so may = (
  one-later old mark last names before after chain le late none.0 so may.0,
  all-later old mark (last_time_after last (commits_in chain)) names (told_behind old before chain) (told_behind mark after chain) chains le
      (later-stays old mark last names before chain late may.0) none.1
      (based-behind old mark names before after chain le none.0 so) may.1,
)

-- the rest of the log, whose first chain has a commit later than the mark, may follow the base
pub rest-follows : (old mark last : ℕ) (names : List Head) (before after : List Slot) (back : List LogChain) → old ≤ mark → BeginsLater mark back
    → AllByRecursion IsNoBase back
    → TellBased mark names before after → MayAllFollow old last before back → MayAllFollow mark 0 after back
rest-follows old mark last names before after [] le begins none so may = tt
rest-follows old mark last names before after (OfBase b ∷ chains) le begins none so may = absurd none.0
rest-follows old mark last names before after (OfGroup members ∷ chains) le begins none so may =
    let some : 0 < length (heads_in members) = omega (arith, may.0.0, length-map (λ (m : Member). m.head) members) in
    let same : last_time_after 0 (heads_in members) ≡ last_time_after last (heads_in members) = last-same 0 last (heads_in members) some in (
      (may.0.0, may.0.1, rising-lower 0 last (heads_in members) (omega arith) may.0.2, begins),
      subst (λ (t : ℕ). MayAllFollow mark t (told_behind mark after (OfGroup members)) chains) (sym same)
          (all-later old mark (last_time_after last (heads_in members)) names (told_behind old before (OfGroup members))
          (told_behind mark after (OfGroup members))
          chains le (omega (arith, begins, same)) none.1
          (based-behind old mark names before after (OfGroup members) le tt so) may.1),
    )
rest-follows old mark last names before after (OfRun upto runs ∷ chains) le begins none so may = absurd (omega (arith, begins))
rest-follows old mark last names before after (OfFloor f ∷ chains) le begins none so may = absurd (omega (arith, begins))

-- ---- the front has no commit later than the mark

abbrev AreUpTo : ℕ → List Head → Type 0
AreUpTo mark heads = AllByRecursion (λ (head : Head). head.time ≤ mark) heads

up-append : (mark : ℕ) (xs ys : List Head) → AreUpTo mark xs → AreUpTo mark ys → AreUpTo mark (xs ++ ys)
up-append mark [] ys a b = b
up-append mark (x ∷ xs) ys a b = (a.0, up-append mark xs ys a.1 b)

up-later : (mark old : ℕ) (heads : List Head) → AreUpTo mark heads → AreUpTo mark (later_heads old heads)
up-later mark old [] all = tt
up-later mark old (head ∷ heads) all =
    let rest = up-later mark old heads all.1 in
    elim (nat_lt old head.time) as (λ b. AreUpTo mark (cond b (head ∷ later_heads old heads) (later_heads old heads))) [ true ↦ (all.0, rest) | false ↦ rest ]

up-rising : (mark t : ℕ) (heads : List Head) → AreRisingAfter t heads → last_time_after t heads ≤ mark → AreUpTo mark heads
up-rising mark t [] up le = tt
up-rising mark t (head ∷ heads) up le = (omega (arith, last-rises head.time heads up.2, le), up-rising mark head.time heads up.2 le)

base-heads : (b : Base) → heads_of (base_slots b) ≡ b.names
base-heads b =
    heads_of-append (commits_slot b.names) (Reclaimed b.upto ∷ (map Archived b.marks ++ map floor_slot b.floors))
    ∙ ap (λ l. l ++ heads_of (map Archived b.marks ++ map floor_slot b.floors)) (commits-heads b.names)
    ∙ ap (λ l. b.names ++ l) (no-heads b.marks b.floors) ∙ append-nil b.names
  where
    floors-no : (floors : List RelationFloor) → heads_of (map floor_slot floors) ≡ []
    floors-no [] = refl
    floors-no (f ∷ floors) = floors-no floors

    no-heads : (marks : List ℕ) (floors : List RelationFloor) → heads_of (map Archived marks ++ map floor_slot floors) ≡ []
    no-heads [] floors = floors-no floors
    no-heads (m ∷ marks) floors = no-heads marks floors

base-marks : (b : Base) → marks_of (base_slots b) ≡ b.marks
base-marks b =
    marks-append (commits_slot b.names) (Reclaimed b.upto ∷ (map Archived b.marks ++ map floor_slot b.floors))
    ∙ ap (λ l. l ++ marks_of (map Archived b.marks ++ map floor_slot b.floors)) (commits-no_marks b.names)
    ∙ own b.marks b.floors
  where
    floors-no : (floors : List RelationFloor) → marks_of (map floor_slot floors) ≡ []
    floors-no [] = refl
    floors-no (f ∷ floors) = floors-no floors

    own : (marks : List ℕ) (floors : List RelationFloor) → marks_of (map Archived marks ++ map floor_slot floors) ≡ marks
    own [] floors = floors-no floors
    own (m ∷ marks) floors = ap (λ l. m ∷ l) (own marks floors)

front-behind : (old mark last : ℕ) (before : List Slot) (chain : LogChain) → old ≤ mark → AreUpTo mark (heads_of before) → IsUpTo mark chain
    → MayFollow old last before chain → AreUpTo mark (heads_of (told_behind old before chain))
front-behind old mark last before (OfBase b) le all up may =
    subst (AreUpTo mark) (sym (heads_of-append before (base_slots b) ∙ ap (λ l. heads_of before ++ l) (base-heads b)))
    (up-append mark (heads_of before) b.names all (let named = may.3.named in up-rising mark 0 b.names may.3.rising (omega (arith, named, le, may.2))))
front-behind old mark last before (OfGroup members) le all up may =
    subst (AreUpTo mark) (sym (heads-behind before (later_heads old (heads_in members))))
    (up-append mark (heads_of before) (later_heads old (heads_in members)) all (up-later mark old (heads_in members) up))
front-behind old mark last before (OfRun upto runs) le all up may =
    let kept = length (marks_of before) - runs in
    subst (AreUpTo mark) (sym (heads_of-append (first_runs kept before) (Archived upto ∷ []) ∙ append-nil (heads_of (first_runs kept before))
    ∙ first-heads kept before)) all
front-behind old mark last before (OfFloor f) le all up may =
    subst (AreUpTo mark) (sym (heads_of-append before (floor_slot f ∷ []) ∙ append-nil (heads_of before))) all

front-from : (old mark last : ℕ) (before : List Slot) (chains : List LogChain) → old ≤ mark → AreUpTo mark (heads_of before)
    → AllByRecursion (IsUpTo mark) chains → MayAllFollow old last before chains → AreUpTo mark (heads_of (told_from old before chains))
front-from old mark last before [] le all up may = all
front-from old mark last before (chain ∷ chains) le all up may =
    front-from old mark (last_time_after last (commits_in chain)) (told_behind old before chain) chains le
    (front-behind old mark last before chain le all up.0 may.0) up.1 may.1

none-later : (mark : ℕ) (heads : List Head) → AreUpTo mark heads → later_heads mark heads ≡ []
none-later mark [] all = refl
none-later mark (head ∷ heads) all = let test : nat_lt mark head.time ≡ false = not_lt all.0 in rw test (none-later mark heads all.1)

-- ---- commits up to a mark, and those after it

rising-append : (t : ℕ) (xs ys : List Head) → AreRisingAfter t xs → AreRisingAfter (last_time_after t xs) ys → AreRisingAfter t (xs ++ ys)
rising-append t [] ys a b = b
rising-append t (x ∷ xs) ys a b = (a.0, a.1, rising-append x.time xs ys a.2 b)

heads-rise : (before log : List Slot) → AllCome MayComeInHeap before log → AreRisingAfter (last_time before) (heads_of log)
heads-rise before [] may = tt
heads-rise before (Commits heads ∷ log) may =
    let at : last_time (before ++ Commits heads ∷ []) ≡ last_time_after (last_time before) heads =
    ap (last_time_after 0) (heads_of-append before (Commits heads ∷ []) ∙ ap (λ l. heads_of before ++ l) (append-nil heads))
    ∙ last_time_after-append 0 (heads_of before) heads in
    rising-append (last_time before) heads (heads_of log)
    (rising-lower (last_time before) (told_time before) heads (le-max_left (last_time before) (reclaim_mark before)) may.0.1)
    (subst (λ (t : ℕ). AreRisingAfter t (heads_of log)) at (heads-rise (before ++ Commits heads ∷ []) log may.1))
heads-rise before (Archived upto ∷ log) may =
    subst (λ (t : ℕ). AreRisingAfter t (heads_of log)) (same_last before (Archived upto) refl) (heads-rise (before ++ Archived upto ∷ []) log may.1)
heads-rise before (Reclaimed upto ∷ log) may =
    subst (λ (t : ℕ). AreRisingAfter t (heads_of log)) (same_last before (Reclaimed upto) refl) (heads-rise (before ++ Reclaimed upto ∷ []) log may.1)
heads-rise before (slots.Floor scope floor ∷ log) may =
    subst (λ (t : ℕ). AreRisingAfter t (heads_of log)) (same_last before (slots.Floor scope floor) refl) (heads-rise (before ++ slots.Floor scope floor
    ∷ []) log may.1)

all-above : (mark t : ℕ) (heads : List Head) → mark ≤ t → AreRisingAfter t heads → (filter (λ (head : Head). nat_le head.time mark) heads ≡ [])
    × (later_heads mark heads ≡ heads)
all-above mark t [] le up = (refl, refl)
all-above mark t (head ∷ heads) le up =
    let rest = all-above mark head.time heads (omega (arith, le, up.0)) up.2 in
    let low : nat_le head.time mark ≡ false = not_le (omega (arith, le, up.0)) in
    let high : nat_lt mark head.time ≡ true = is_lt (omega (arith, le, up.0)) in
    (rw low rest.0, rw high (ap (λ l. head ∷ l) rest.1))

pub parted : (mark t : ℕ) (heads : List Head) → AreRisingAfter t heads → filter (λ (head : Head). nat_le head.time mark) heads ++ later_heads mark heads ≡ heads
parted mark t [] up = refl
parted mark t (head ∷ heads) up =
    ⊎_elim
    (λ (late : mark < head.time).
    let rest = all-above mark head.time heads (omega (arith, late)) up.2 in
    let low : nat_le head.time mark ≡ false = not_le late in
    let high : nat_lt mark head.time ≡ true = is_lt late in
    rw (low, high) (ap (λ l. l ++ head ∷ later_heads mark heads) rest.0 ∙ ap (λ l. head ∷ l) rest.1))
    (λ (early : head.time ≤ mark).
    let low : nat_le head.time mark ≡ true = is_le early in
    let high : nat_lt mark head.time ≡ false = not_lt early in
    rw (low, high) (ap (λ l. head ∷ l) (parted mark head.time heads up.2)))
    (cases_lt mark head.time)

-- ---- the base in its place

pub base-placed : (front back : List LogChain) (b : Base) → KeepsChainRules (front ++ back) → reclaimed_by (front ++ back) ≤ last_time (told (front ++ back))
    → TakesPlace front back b
    → KeepsChainRules (OfBase b ∷ back) × IsBased b.upto (told (front ++ back)) (told (OfBase b ∷ back))
base-placed front back b rules le place =
    let old = reclaimed_by (front ++ back) in
    let before = told_from old [] front in
    let all = told (front ++ back) in
    let after = told (OfBase b ∷ back) in
    let under : old ≤ b.upto = omega (arith, rules.archived, place.upto) in
    let split = may-split old 0 [] front back rules.each in
    let keeps = told-keeps (front ++ back) rules le in
    let ups : AreUpTo b.upto (heads_of before) = front-from old b.upto 0 [] front under tt place.front_ends split.0 in
    let first : TellBased b.upto b.names before (base_slots b) = record {
      marks = base-marks b ∙ place.marks;
      floors = place.floors;
      reclaimed = (tells-base b place.in_range).reclaimed;
      heads = base-heads b ∙ sym (append-nil b.names) ∙ ap (λ l. b.names ++ l) (sym (none-later b.upto (heads_of before) ups));
    } in
    let whole : TellBased b.upto b.names all after =
    subst (λ (l : List Slot). TellBased b.upto b.names l after) (sym (told-split old [] front back))
    (based-from old b.upto b.names before (base_slots b) back under place.no_base first) in
    let heads : heads_of after ≡ heads_of all =
    whole.heads ∙ ap (λ l. l ++ later_heads b.upto (heads_of all)) place.names ∙ parted b.upto 0 (heads_of all) (heads-rise [] all keeps.each) in
    let mark : archive_mark after ≡ archive_mark all = same-mark all after whole.marks in
    let follows : MayAllFollow b.upto 0 (base_slots b) back =
    rest-follows old b.upto (last_commit 0 front) b.names before (base_slots b) back under place.back_begins place.no_base first split.1 in
    let new-rules : KeepsChainRules (OfBase b ∷ back) =
    record { each = ((refl, refl, refl, place.in_range), follows); archived = omega (arith, mark, place.upto) } in
    let ranges = marked-heap all keeps in
    let last : last_time after ≡ last_time all = ap (last_time_after 0) heads in (
      new-rules,
      record {
        heads = heads;
        marks = whole.marks;
        reclaimed = whole.reclaimed;
        floors = whole.floors;
        rules = told-keeps (OfBase b ∷ back) new-rules (omega (arith, last, place.upto, ranges.archived));
      },
    )

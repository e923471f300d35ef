-- What a log tells keeps the rules of a log.
use Rattle.std.proofs.Common.{◌≡◌, ℕ, ◌+◌, ◌-◌, ◌<◌, ◌≤◌, ◌^◌, ◌==◌, max, nat_lt, nat_le, Bool, true, false, cond, List, [], ◌∷◌, ◌++◌, map, length, Option}
use Rattle.std.proofs.Common.{Some, refl, ap, sym, subst, ◌∙◌, arith, append_assoc, ⊎_elim}
use Rattle.std.specs.Prelude.{filter, IsTrue, IsSome}
use Rattle.std.proofs.Math.Nat.{le-max_left, le-max_right, max_comm}
use Rattle.std.proofs.lemmas.Bool.{cases_lt}
use Rattle.std.proofs.lemmas.Bool.Decides.{nat_tests}
use Rattle.std.proofs.lemmas.List.{append-nil, map-append}
use Rattle.history.specs.Floors.{covers, raised}
use Rattle.history.proofs.Orders.{is_lt, not_lt}
use Rattle.law_image.specs.Reading.{Head, Slot, Commits, Archived, Reclaimed, Member}
use Rattle.law_image.specs.Reading as slots
use Rattle.law_image.specs.Log.{heads_of, last_time_after, last_time, told_time, archive_mark_after, archive_mark, reclaim_mark, floors_after, floor_of}
use Rattle.law_image.specs.Log.{AreRisingAfter, AllCome, MayComeInHeap, KeepsHeapRules}
use Rattle.law_image.specs.HeapPlans.{marks_of, first_runs}
use Rattle.law_image.proofs.Logs.{heads_of-append, last_time_after-append, archive_mark-append, reclaim_mark-append, floors-append, all-more, same_last}
use Rattle.law_image.proofs.Logs.{told-is_last}
use Rattle.law_image.proofs.GroupStep.{length-map}
use Rattle.law_image.proofs.HeapRuns.{first-rules, TellAlike, alike-told}
use Rattle.law_log.specs.Chains.{RelationFloor, Base, LogChain, OfBase, OfGroup, OfRun, OfFloor, commits_slot, later_heads, floor_slot, base_slots, heads_in}
use Rattle.law_log.specs.Chains.{told_behind, told_from, told, reclaimed_by, commits_in, last_commit, AreMarksTo, AreFloorsTo, IsBase, MayFollow, MayAllFollow}
use Rattle.law_log.specs.Chains.{KeepsChainRules}

pub all-append : (May : List Slot → Slot → Type 0) (before log more : List Slot) → AllCome May before log → AllCome May (before ++ log) more
    → AllCome May before (log ++ more)
all-append May before [] more may next = subst (λ b. AllCome May b more) (append-nil before) next
all-append May before (s ∷ slots) more may next =
    (may.0, all-append May (before ++ s ∷ []) slots more may.1 (subst (λ b. AllCome May b more) (sym (append_assoc before (s ∷ []) slots)) next))

-- ---- commits later than a mark

abbrev later : ℕ → Head → Bool
later mark head = nat_lt mark head.time

pub later-rising : (mark last : ℕ) (heads : List Head) → AreRisingAfter last heads → AreRisingAfter (max mark last) (later_heads mark heads)
later-rising mark last [] up = tt
later-rising mark last (head ∷ heads) up =
    let rest = later-rising mark head.time heads up.2 in
    ⊎_elim
    (λ (late : mark < head.time).
    let test : nat_lt mark head.time ≡ true = is_lt late in
    let above : max mark last < head.time = grind (arith, nat_tests, late, up.0) in
    let same : max mark head.time ≡ head.time = grind (arith, nat_tests, late) in
    rw test (above, up.1, subst (λ (t : ℕ). AreRisingAfter t (later_heads mark heads)) same rest))
    (λ (early : head.time ≤ mark).
    let test : nat_lt mark head.time ≡ false = not_lt early in
    let same : max mark head.time ≡ max mark last = let up0 = up.0 in grind (arith, nat_tests, early, up0) in
    rw test (subst (λ (t : ℕ). AreRisingAfter t (later_heads mark heads)) same rest))
    (cases_lt mark head.time)

-- where the last commit is later than the mark, some are, and the last of them is that one
pub later-last : (mark last : ℕ) (heads : List Head) → AreRisingAfter last heads → last ≤ mark → mark < last_time_after last heads
    → (0 < length (later_heads mark heads)) × ((before : ℕ) → last_time_after before (later_heads mark heads) ≡ last_time_after last heads)
later-last mark last [] up le lt = absurd (omega (arith, le, lt))
later-last mark last (head ∷ heads) up le lt =
    ⊎_elim
    (λ (late : mark < head.time).
    let test : nat_lt mark head.time ≡ true = is_lt late in
    rw test (omega arith, λ before. all-later mark head.time heads up.2 (omega (arith, late))))
    (λ (early : head.time ≤ mark).
    let test : nat_lt mark head.time ≡ false = not_lt early in
    rw test (later-last mark head.time heads up.2 early lt))
    (cases_lt mark head.time)
  where
    all-later : (mark t : ℕ) (heads : List Head) → AreRisingAfter t heads → mark ≤ t → last_time_after t (later_heads mark heads) ≡ last_time_after t heads
    all-later mark t [] up le = refl
    all-later mark t (head ∷ heads) up le =
        let test : nat_lt mark head.time ≡ true = is_lt (omega (arith, le, up.0)) in
        rw test (all-later mark head.time heads up.2 (omega (arith, le, up.0)))

-- the last commit is no earlier than what it was before
pub last-rises : (last : ℕ) (heads : List Head) → AreRisingAfter last heads → last ≤ last_time_after last heads
last-rises last [] up = omega arith
last-rises last (head ∷ heads) up = omega (arith, up.0, last-rises head.time heads up.2)

-- where the mark is before the last commit but not after what it was: the case that the group begins later too
pub later-any : (mark last : ℕ) (heads : List Head) → AreRisingAfter last heads → 0 < length heads → mark < last_time_after last heads
    → (0 < length (later_heads mark heads)) × ((before : ℕ) → last_time_after before (later_heads mark heads) ≡ last_time_after last heads)
later-any mark last [] up some lt = absurd (omega (arith, some))
later-any mark last (head ∷ heads) up some lt = later-last mark 0 (head ∷ heads) (omega (arith, up.0), up.1, up.2) (omega arith) lt

-- ---- a chain more

-- What is told so far keeps the rules; the mark is this one, and the last commit had this time.
pub record TellsSo (mark last : ℕ) (before : List Slot) : Type 0 where
  pub each : AllCome MayComeInHeap [] before
  pub reclaimed : reclaim_mark before ≡ mark
  pub telling : told_time before ≡ max mark last

pub commits-heads : (heads : List Head) → heads_of (commits_slot heads) ≡ heads
commits-heads [] = refl
commits-heads (head ∷ heads) = append-nil (head ∷ heads)

pub commits-marks : (heads : List Head) (t : ℕ) → archive_mark_after t (commits_slot heads) ≡ t
commits-marks [] t = refl
commits-marks (head ∷ heads) t = refl

pub tells-group : (mark last : ℕ) (before : List Slot) (members : List Member) → TellsSo mark last before → MayFollow mark last before (OfGroup members)
    → TellsSo mark (last_time_after last (heads_in members)) (told_behind mark before (OfGroup members))
tells-group mark last before members so may = by (later_heads mark (heads_in members)) refl
  where
    some : 0 < length (heads_in members)
    some = omega (arith, may.0, length-map (λ (m : Member). m.head) members)

    found : (0 < length (later_heads mark (heads_in members)))
        × ((before : ℕ) → last_time_after before (later_heads mark (heads_in members)) ≡ last_time_after last (heads_in members))
    found = later-any mark last (heads_in members) may.2 some may.3

    by : (heads : List Head) → later_heads mark (heads_in members) ≡ heads
        → TellsSo mark (last_time_after last (heads_in members)) (before ++ commits_slot heads)
    by [] is = absurd (omega (arith, (found).0, ap (λ (l : List Head). length l) is))
    by (h ∷ hs) is =
        let at : last_time (before ++ Commits (h ∷ hs) ∷ []) ≡ last_time_after last (heads_in members) =
        ap (last_time_after 0) (heads_of-append before (Commits (h ∷ hs) ∷ []) ∙ ap (λ l. heads_of before ++ l) (append-nil (h ∷ hs)))
        ∙ last_time_after-append 0 (heads_of before) (h ∷ hs)
        ∙ ap (last_time_after (last_time before)) (sym is) ∙ (found).1 (last_time before) in
        let r : reclaim_mark (before ++ Commits (h ∷ hs) ∷ []) ≡ mark = reclaim_mark-append 0 before (Commits (h ∷ hs) ∷ []) ∙ so.reclaimed in
        record {
          each = all-more MayComeInHeap [] before (Commits (h ∷ hs)) so.each (
            omega arith,
            subst (λ (t : ℕ). AreRisingAfter t (h
                ∷ hs)) (sym so.telling) (subst (AreRisingAfter (max mark last)) is (later-rising mark last (heads_in members) may.2)),
          );
          reclaimed = r;
          telling =
              ap (λ (t : ℕ). max t (reclaim_mark (before ++ Commits (h ∷ hs) ∷ []))) at ∙ ap (max (last_time_after last (heads_in members))) r
              ∙ max_comm (last_time_after last (heads_in members)) mark;
        }

-- a slot that names no commit and no reclaim mark tells of the same time
pub tells-more : (mark last : ℕ) (before : List Slot) (slot : Slot) → TellsSo mark last before → heads_of (slot ∷ []) ≡ [] → reclaim_mark (before ++ slot ∷ [])
    ≡ reclaim_mark before → MayComeInHeap before slot → TellsSo mark last (before ++ slot ∷ [])
tells-more mark last before slot so none same may = record {
  each = all-more MayComeInHeap [] before slot so.each may;
  reclaimed = same ∙ so.reclaimed;
  telling = ap (λ (t : ℕ). max t (reclaim_mark (before ++ slot ∷ []))) (same_last before slot none) ∙ ap (max (last_time before)) same ∙ so.telling;
}

-- the first runs alone tell of the same time
pub tells-first : (mark last kept : ℕ) (before : List Slot) → TellsSo mark last before → TellsSo mark last (first_runs kept before)
tells-first mark last kept before so =
    let first = first-rules kept before so.each in
    record { each = first.0; reclaimed = first.1.reclaimed ∙ so.reclaimed; telling = alike-told before (first_runs kept before) first.1 ∙ so.telling }

pub tells-run : (mark last : ℕ) (before : List Slot) (upto runs : ℕ) → TellsSo mark last before → MayFollow mark last before (OfRun upto runs)
    → TellsSo mark last (told_behind mark before (OfRun upto runs))
tells-run mark last before upto runs so may =
    let kept = length (marks_of before) - runs in
    let first = first-rules kept before so.each in
    let lower = first.1.lower in
    let less = tells-first mark last kept before so in
    tells-more mark last (first_runs kept before) (Archived upto) less refl (reclaim_mark-append 0 (first_runs kept before) (Archived upto ∷ []))
    (omega (arith, lower, may.0), omega (arith, may.1, less.telling))

covered-is : (only relation : ℕ) → IsTrue (covers (Some only) relation) → relation ≡ only
covered-is only relation is = grind (arith, nat_tests, is)

pub tells-floor : (mark last : ℕ) (before : List Slot) (f : RelationFloor) → TellsSo mark last before → floor_of before f.relation < f.floor
    → f.floor ≤ max mark last → TellsSo mark last (before ++ floor_slot f ∷ [])
tells-floor mark last before f so above le =
    tells-more mark last before (floor_slot f) so refl (reclaim_mark-append 0 before (floor_slot f ∷ [])) (
      refl,
      omega (arith, le, so.telling),
      λ relation covered. let is =
          ap (floor_of before) (covered-is f.relation relation covered) in omega (arith, is, above),
    )

-- ---- the base

-- runs with rising marks come behind what tells as late as the last of them
tells-marks : (mark last end from : ℕ) (before : List Slot) (marks : List ℕ) → TellsSo mark last before → archive_mark before ≡ from → AreMarksTo end from marks
    → end ≤ max mark last → TellsSo mark last (before ++ map Archived marks)
tells-marks mark last end from before [] so at rising le = subst (TellsSo mark last) (sym (append-nil before)) so
tells-marks mark last end from before (upto ∷ marks) so at rising le =
    subst (TellsSo mark last) (append_assoc before (Archived upto ∷ []) (map Archived marks))
    (tells-marks mark last end upto (before ++ Archived upto ∷ []) marks
    (tells-more mark last before (Archived upto) so refl (reclaim_mark-append 0 before (Archived upto ∷ [])) (
      omega (arith, at, rising.0),
      omega (arith, rising.1, le, so.telling),
    ))
    (archive_mark-append 0 before (Archived upto ∷ [])) rising.2 le)

none-raised : (only floor relation : ℕ) (floors : ℕ → ℕ) → only < relation → raised (Some only) floor floors relation ≡ floors relation
none-raised only floor relation floors lt = let test : (only == relation) ≡ false = grind (arith, nat_tests, lt) in rw test refl

tells-floors : (mark last end from : ℕ) (before : List Slot) (floors : List RelationFloor) → TellsSo mark last before
    → ((relation : ℕ) → from ≤ relation → floor_of before relation ≡ 0) → AreFloorsTo end from floors → end ≤ max mark last
    → TellsSo mark last (before ++ map floor_slot floors)
tells-floors mark last end from before [] so none rising le = subst (TellsSo mark last) (sym (append-nil before)) so
tells-floors mark last end from before (f ∷ floors) so none rising le =
    subst (TellsSo mark last) (append_assoc before (floor_slot f ∷ []) (map floor_slot floors))
    (tells-floors mark last end (f.relation + 1) (before ++ floor_slot f ∷ []) floors
    (tells-floor mark last before f so (let zero = none f.relation rising.0 in omega (arith, zero, rising.1)) (omega (arith, rising.2, le)))
    (λ relation from. ap (λ (g : ℕ → ℕ). g relation) (floors-append (λ q. 0) before (floor_slot f ∷ []))
    ∙ none-raised f.relation f.floor relation (floor_of before) (omega (arith, from)) ∙ none relation (omega (arith, rising.0, from)))
    rising.3 le)

-- the commits that the rolls name, and the mark
tells-mark : (b : Base) → IsBase b → TellsSo b.upto 0 (commits_slot b.names ++ Reclaimed b.upto ∷ [])
tells-mark b is = by b.names refl
  where
    told-zero : (n : ℕ) → max 0 n ≡ max n 0
    told-zero n = max_comm 0 n

    told-mark : (a n : ℕ) → a ≤ n → max a n ≡ max n 0
    told-mark a n le = grind (arith, nat_tests)

    by : (names : List Head) → b.names ≡ names → TellsSo b.upto 0 (commits_slot names ++ Reclaimed b.upto ∷ [])
    by [] none = record { each = ((is.some, is.most, omega arith, refl), tt); reclaimed = refl; telling = told-zero b.upto }
    by (h ∷ hs) same =
        let named : last_time_after 0 (h ∷ hs) ≤ b.upto = subst (λ (l : List Head). last_time_after 0 l ≤ b.upto) same is.named in
        let rising : AreRisingAfter 0 (h ∷ hs) = subst (AreRisingAfter 0) same is.rising in
        let last : last_time_after 0 ((h ∷ hs) ++ []) ≡ last_time_after 0 (h ∷ hs) = ap (last_time_after 0) (append-nil (h ∷ hs)) in
        record {
          each = ((omega arith, rising), ((is.some, is.most, omega (arith, last, named), refl), tt));
          reclaimed = refl;
          telling = told-mark (last_time_after 0 ((h ∷ hs) ++ [])) b.upto (omega (arith, last, named));
        }

pub tells-base : (b : Base) → IsBase b → TellsSo b.upto 0 (base_slots b)
tells-base b is =
    let first = commits_slot b.names ++ Reclaimed b.upto ∷ [] in
    let up : b.upto ≤ max b.upto 0 = le-max_left b.upto 0 in
    let marked : archive_mark first ≡ 0 = archive_mark-append 0 (commits_slot b.names) (Reclaimed b.upto ∷ []) ∙ commits-marks b.names 0 in
    let runs : TellsSo b.upto 0 (first ++ map Archived b.marks) = tells-marks b.upto 0 b.upto 0 first b.marks (tells-mark b is) marked is.marks up in
    let none : (relation : ℕ) → 0 ≤ relation → floor_of (first ++ map Archived b.marks) relation ≡ 0 =
    λ relation le. ap (λ (f : ℕ → ℕ). f relation) (floors-append (λ q. 0) first (map Archived b.marks))
    ∙ marks-floors (floors_after (λ q. 0) first) b.marks relation ∙ first-floors b.names b.upto relation in
    subst (TellsSo b.upto 0) (append_assoc first (map Archived b.marks) (map floor_slot b.floors)
    ∙ append_assoc (commits_slot b.names) (Reclaimed b.upto ∷ []) (map Archived b.marks ++ map floor_slot b.floors))
    (tells-floors b.upto 0 b.upto 0 (first ++ map Archived b.marks) b.floors runs none is.floors up)
  where
    marks-floors : (f : ℕ → ℕ) (marks : List ℕ) (relation : ℕ) → floors_after f (map Archived marks) relation ≡ f relation
    marks-floors f [] relation = refl
    marks-floors f (m ∷ ms) relation = marks-floors f ms relation

    first-floors : (names : List Head) (upto relation : ℕ) → floor_of (commits_slot names ++ Reclaimed upto ∷ []) relation ≡ 0
    first-floors [] upto relation = refl
    first-floors (h ∷ hs) upto relation = refl

-- ---- the whole log

pub tells-behind : (mark last : ℕ) (before : List Slot) (chain : LogChain) → TellsSo mark last before → MayFollow mark last before chain
    → TellsSo mark (last_time_after last (commits_in chain)) (told_behind mark before chain)
tells-behind mark last before (OfBase b) so may =
    let none : max mark last ≡ 0 = sym so.telling ∙ ap told_time may.0 in
    let low = le-max_left mark last in
    let some = may.3.some in
    absurd (omega (arith, none, low, some, may.2))
tells-behind mark last before (OfGroup members) so may = tells-group mark last before members so may
tells-behind mark last before (OfRun upto runs) so may = tells-run mark last before upto runs so may
tells-behind mark last before (OfFloor f) so may = tells-floor mark last before f so may.0 may.1

pub tells-from : (mark last : ℕ) (before : List Slot) (chains : List LogChain) → TellsSo mark last before → MayAllFollow mark last before chains
    → TellsSo mark (last_commit last chains) (told_from mark before chains)
tells-from mark last before [] so may = so
tells-from mark last before (chain ∷ chains) so may =
    tells-from mark (last_time_after last (commits_in chain)) (told_behind mark before chain) chains (tells-behind mark last before chain so may.0) may.1

pub tells-none : TellsSo 0 0 []
tells-none = record { each = tt; reclaimed = refl; telling = refl }

-- what a log tells, from its first chain on
pub tells-all : (chains : List LogChain) → MayAllFollow (reclaimed_by chains) 0 [] chains → TellsSo (reclaimed_by chains) (last_commit 0 chains) (told chains)
tells-all [] may = tells-none
tells-all (OfBase b ∷ chains) may = tells-from b.upto 0 (base_slots b) chains (tells-base b may.0.3) may.1
tells-all (OfGroup members ∷ chains) may = tells-from 0 0 [] (OfGroup members ∷ chains) tells-none may
tells-all (OfRun upto runs ∷ chains) may = tells-from 0 0 [] (OfRun upto runs ∷ chains) tells-none may
tells-all (OfFloor f ∷ chains) may = tells-from 0 0 [] (OfFloor f ∷ chains) tells-none may

pub told-keeps : (chains : List LogChain) → KeepsChainRules chains → reclaimed_by chains ≤ last_time (told chains) → KeepsHeapRules (told chains)
told-keeps chains rules le =
    let so = tells-all chains rules.each in
    record { each = so.each; archived = omega (arith, so.reclaimed, rules.archived); published = omega (arith, so.reclaimed, le) }

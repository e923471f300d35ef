-- A log with one more slot.
use Rattle.std.proofs.Common.{◌≡◌, ℕ, ◌<◌, ◌≤◌, ◌^◌, max, true, false, cond, List, [], ◌∷◌, ◌++◌, length, Option, refl, ap, sym, subst, ◌∙◌, arith}
use Rattle.std.proofs.Common.{append_assoc}
use Rattle.std.proofs.Math.Nat.{le-max_left}
use Rattle.std.proofs.lemmas.Bool.Decides.{nat_tests}
use Rattle.std.proofs.lemmas.List.{append-nil}
use Rattle.law_image.specs.Reading.{Head, Slot, Commits, Archived, Reclaimed, Floor, ArchiveRecord}
use Rattle.history.specs.Floors.{covers, raised}
use Rattle.law_image.specs.Log.{heads_of, last_time_after, last_time, archive_mark_after, archive_mark, reclaim_mark_after, reclaim_mark, floors_after}
use Rattle.law_image.specs.Log.{floor_of, AreRisingAfter, MayCome, MayAllCome, AllCome, MayComeInHeap, KeepsHeapRules, told_time}
use Rattle.law_image.specs.StandsFor.{AreRunsOf, AreRunsBy}

pub heads_of-append : (log later : List Slot) → heads_of (log ++ later) ≡ heads_of log ++ heads_of later
heads_of-append [] later = refl
heads_of-append (Commits heads ∷ slots) later = ap (λ l. heads ++ l) (heads_of-append slots later) ∙ sym (append_assoc heads (heads_of slots) (heads_of later))
heads_of-append (Archived upto ∷ slots) later = heads_of-append slots later
heads_of-append (Reclaimed upto ∷ slots) later = heads_of-append slots later
heads_of-append (Floor scope floor ∷ slots) later = heads_of-append slots later

pub last_time_after-append : (t : ℕ) (heads later : List Head) → last_time_after t (heads ++ later) ≡ last_time_after (last_time_after t heads) later
last_time_after-append t [] later = refl
last_time_after-append t (head ∷ heads) later = last_time_after-append head.time heads later

pub archive_mark-append : (t : ℕ) (log later : List Slot) → archive_mark_after t (log ++ later) ≡ archive_mark_after (archive_mark_after t log) later
archive_mark-append t [] later = refl
archive_mark-append t (Commits heads ∷ slots) later = archive_mark-append t slots later
archive_mark-append t (Archived upto ∷ slots) later = archive_mark-append upto slots later
archive_mark-append t (Reclaimed upto ∷ slots) later = archive_mark-append t slots later
archive_mark-append t (Floor scope floor ∷ slots) later = archive_mark-append t slots later

pub reclaim_mark-append : (t : ℕ) (log later : List Slot) → reclaim_mark_after t (log ++ later) ≡ reclaim_mark_after (reclaim_mark_after t log) later
reclaim_mark-append t [] later = refl
reclaim_mark-append t (Commits heads ∷ slots) later = reclaim_mark-append t slots later
reclaim_mark-append t (Archived upto ∷ slots) later = reclaim_mark-append t slots later
reclaim_mark-append t (Reclaimed upto ∷ slots) later = reclaim_mark-append upto slots later
reclaim_mark-append t (Floor scope floor ∷ slots) later = reclaim_mark-append t slots later

pub floors-append : (f : ℕ → ℕ) (log later : List Slot) → floors_after f (log ++ later) ≡ floors_after (floors_after f log) later
floors-append f [] later = refl
floors-append f (Commits heads ∷ slots) later = floors-append f slots later
floors-append f (Archived upto ∷ slots) later = floors-append f slots later
floors-append f (Reclaimed upto ∷ slots) later = floors-append f slots later
floors-append f (Floor scope floor ∷ slots) later = floors-append (raised scope floor f) slots later

pub all-more : (May : List Slot → Slot → Type 0) (before log : List Slot) (slot : Slot) → AllCome May before log → May (before ++ log) slot
    → AllCome May before (log ++ slot ∷ [])
all-more May before [] slot may next = (subst (λ b. May b slot) (append-nil before) next, tt)
all-more May before (s ∷ slots) slot may next =
    (may.0, all-more May (before ++ s ∷ []) slots slot may.1 (subst (λ b. May b slot) (sym (append_assoc before (s ∷ []) slots)) next))

pub log-more : (profile : ℕ) (before log : List Slot) (slot : Slot) → MayAllCome profile before log → MayCome profile (before ++ log) slot
    → MayAllCome profile before (log ++ slot ∷ [])
log-more profile before log slot may next = all-more (MayCome profile) before log slot may next

-- the runs when a slot and what it brings come
pub runs-more : (floors : List Slot → ℕ → ℕ) (before log later : List Slot) (runs more : List (List ArchiveRecord))
    → AreRunsBy floors before log runs → AreRunsBy floors (before ++ log) later more → AreRunsBy floors before (log ++ later) (runs ++ more)
runs-more floors before [] later [] more have next = subst (λ b. AreRunsBy floors b later more) (append-nil before) next
runs-more floors before [] later (run ∷ runs) more have next = absurd have
runs-more floors before (Commits heads ∷ slots) later runs more have next =
    runs-more floors (before ++ Commits heads
    ∷ []) slots later runs more have (subst (λ b. AreRunsBy floors b later more) (sym (append_assoc before (Commits heads ∷ []) slots)) next)
runs-more floors before (Archived upto ∷ slots) later [] more have next = absurd have
runs-more floors before (Archived upto ∷ slots) later (run ∷ runs) more have next = (
  have.0,
  runs-more floors (before ++ Archived upto
      ∷ []) slots later runs more have.1 (subst (λ b. AreRunsBy floors b later more) (sym (append_assoc before (Archived upto ∷ []) slots)) next),
)
runs-more floors before (Reclaimed upto ∷ slots) later runs more have next =
    runs-more floors (before ++ Reclaimed upto
    ∷ []) slots later runs more have (subst (λ b. AreRunsBy floors b later more) (sym (append_assoc before (Reclaimed upto ∷ []) slots)) next)
runs-more floors before (Floor scope floor ∷ slots) later runs more have next =
    runs-more floors (before ++ Floor scope floor
    ∷ []) slots later runs more have (subst (λ b. AreRunsBy floors b later more) (sym (append_assoc before (Floor scope floor ∷ []) slots)) next)

-- the marks and floors of a log are in order
pub record AreMarked (log : List Slot) : Type 0 where
  pub reclaimed : reclaim_mark log ≤ archive_mark log
  pub archived : archive_mark log ≤ last_time log
  pub floors : (relation : ℕ) → floor_of log relation ≤ last_time log
  pub last : last_time log < 2 ^ 63

last_later : (t : ℕ) (heads : List Head) → AreRisingAfter t heads → t < 2 ^ 63 → (t ≤ last_time_after t heads) × (last_time_after t heads < 2 ^ 63)
last_later t [] up lt = (omega arith, lt)
last_later t (head ∷ heads) up lt = let rest = last_later head.time heads up.2 up.1 in (omega (arith, rest.0, up.0), rest.1)

-- the last time of a log with a slot that names no commit
pub same_last : (log : List Slot) (slot : Slot) → heads_of (slot ∷ []) ≡ [] → last_time (log ++ slot ∷ []) ≡ last_time log
same_last log slot none = ap (last_time_after 0) (heads_of-append log (slot ∷ []) ∙ ap (λ l. heads_of log ++ l) none ∙ append-nil (heads_of log))

raised-below : (scope : Option ℕ) (floor last : ℕ) (floors : ℕ → ℕ) (relation : ℕ) → floor ≤ last → floors relation ≤ last
    → raised scope floor floors relation ≤ last
raised-below scope floor last floors relation a b = elim (covers scope relation) as (λ c. cond c floor (floors relation) ≤ last) [ true ↦ a | false ↦ b ]

pub marked-more : (profile : ℕ) (log : List Slot) (slot : Slot) → AreMarked log → MayCome profile log slot → AreMarked (log ++ slot ∷ [])
marked-more profile log (Commits heads) marked may =
    let at : last_time (log ++ Commits heads ∷ []) ≡ last_time_after (last_time log) heads =
    ap (last_time_after 0) (heads_of-append log (Commits heads ∷ []) ∙ ap (λ l. heads_of log ++ l) (append-nil heads))
    ∙ last_time_after-append 0 (heads_of log) heads in
    let later = last_later (last_time log) heads may.2 marked.last in
    let a = archive_mark-append 0 log (Commits heads ∷ []) in
    let r = reclaim_mark-append 0 log (Commits heads ∷ []) in
    record {
      reclaimed = omega (arith, a, r, marked.reclaimed);
      archived = omega (arith, a, at, later.0, marked.archived);
      floors = λ relation. omega (arith, ap (λ (f : ℕ → ℕ). f relation) (floors-append (λ q. 0) log (Commits heads ∷ [])), marked.floors relation, at, later.0);
      last = omega (arith, at, later.1);
    }
marked-more profile log (Archived upto) marked may =
    let at = same_last log (Archived upto) refl in
    let a = archive_mark-append 0 log (Archived upto ∷ []) in
    let r = reclaim_mark-append 0 log (Archived upto ∷ []) in
    record {
      reclaimed = omega (arith, a, r, marked.reclaimed, may.0);
      archived = omega (arith, a, at, may.1);
      floors = λ relation. omega (arith, ap (λ (f : ℕ → ℕ). f relation) (floors-append (λ q. 0) log (Archived upto ∷ [])), marked.floors relation, at);
      last = omega (arith, at, marked.last);
    }
marked-more profile log (Reclaimed upto) marked may =
    let at = same_last log (Reclaimed upto) refl in
    let a = archive_mark-append 0 log (Reclaimed upto ∷ []) in
    let r = reclaim_mark-append 0 log (Reclaimed upto ∷ []) in
    record {
      reclaimed = omega (arith, a, r, may.0);
      archived = omega (arith, a, at, marked.archived);
      floors = λ relation. omega (arith, ap (λ (f : ℕ → ℕ). f relation) (floors-append (λ q. 0) log (Reclaimed upto ∷ [])), marked.floors relation, at);
      last = omega (arith, at, marked.last);
    }
marked-more profile log (Floor scope floor) marked may =
    let at = same_last log (Floor scope floor) refl in
    let a = archive_mark-append 0 log (Floor scope floor ∷ []) in
    let r = reclaim_mark-append 0 log (Floor scope floor ∷ []) in
    record {
      reclaimed = omega (arith, a, r, marked.reclaimed);
      archived = omega (arith, a, at, marked.archived);
      floors = λ relation. omega (
        arith,
        ap (λ (f : ℕ → ℕ). f relation) (floors-append (λ q. 0) log (Floor scope floor ∷ [])),
        raised-below scope floor (last_time log) (floor_of log) relation may.1 (marked.floors relation),
        at,
      );
      last = omega (arith, at, marked.last);
    }

-- the marks of a log that keeps its rules are in order
pub marked-all : (profile : ℕ) (before log : List Slot) → AreMarked before → MayAllCome profile before log → AreMarked (before ++ log)
marked-all profile before [] marked may = subst AreMarked (sym (append-nil before)) marked
marked-all profile before (slot ∷ slots) marked may =
    subst AreMarked (append_assoc before (slot ∷ []) slots) (marked-all profile (before ++ slot
    ∷ []) slots (marked-more profile before slot marked may.0) may.1)

pub marked-none : AreMarked []
marked-none = record { reclaimed = omega arith; archived = omega arith; floors = λ relation. omega arith; last = omega arith }

-- ---- a log in the heap

-- its marks and floors are no later than what it tells of
pub record AreTold (log : List Slot) : Type 0 where
  pub archived : archive_mark log ≤ told_time log
  pub floors : (relation : ℕ) → floor_of log relation ≤ told_time log
  pub last : last_time log < 2 ^ 63
  pub reclaimed : reclaim_mark log < 2 ^ 63

told-up : (a b c d : ℕ) → a ≤ c → b ≤ d → max a b ≤ max c d
told-up a b c d left right = grind (arith, nat_tests)

-- behind some commits the last time is theirs, whatever it was before
last_of-some : (s t : ℕ) (heads : List Head) → 0 < length heads → last_time_after s heads ≡ last_time_after t heads
last_of-some s t [] some = absurd (omega (arith, some))
last_of-some s t (head ∷ heads) some = refl

-- and it is later than what was told before
pub last_of-later : (s t : ℕ) (heads : List Head) → s ≤ t → t < 2 ^ 63 → 0 < length heads → AreRisingAfter t heads → (t ≤ last_time_after s heads)
    × (last_time_after s heads < 2 ^ 63)
last_of-later s t heads le lt some up = let later = last_later t heads up lt in let same =
    last_of-some s t heads some in (omega (arith, same, later.0), omega (arith, same, later.1))

told-below : (a b n : ℕ) → a < n → b < n → max a b < n
told-below a b n left right = grind (arith, nat_tests)

-- where no commit comes, and the reclaim mark does not fall, the same is told and more
told-same : (log : List Slot) (slot : Slot) → heads_of (slot ∷ []) ≡ [] → reclaim_mark log ≤ reclaim_mark (log ++ slot ∷ [])
    → told_time log ≤ told_time (log ++ slot ∷ [])
told-same log slot none le =
    told-up (last_time log) (reclaim_mark log) (last_time (log ++ slot ∷ [])) (reclaim_mark (log ++ slot
    ∷ [])) (let same = same_last log slot none in omega (arith, same)) le

pub told-more : (log : List Slot) (slot : Slot) → AreTold log → MayComeInHeap log slot → AreTold (log ++ slot ∷ [])
told-more log (Commits heads) told may =
    let at : last_time (log ++ Commits heads ∷ []) ≡ last_time_after (last_time log) heads =
    ap (last_time_after 0) (heads_of-append log (Commits heads ∷ []) ∙ ap (λ l. heads_of log ++ l) (append-nil heads))
    ∙ last_time_after-append 0 (heads_of log) heads in
    let a = archive_mark-append 0 log (Commits heads ∷ []) in
    let r = reclaim_mark-append 0 log (Commits heads ∷ []) in
    let left : last_time log ≤ told_time log = le-max_left (last_time log) (reclaim_mark log) in
    let later =
    last_of-later (last_time log) (told_time log) heads left (told-below (last_time log) (reclaim_mark log) (2 ^ 63) told.last told.reclaimed) may.0 may.1
    in
    let up : told_time log ≤ told_time (log ++ Commits heads ∷ []) =
    told-up (last_time log) (reclaim_mark log) (last_time (log ++ Commits heads ∷ [])) (reclaim_mark (log ++ Commits heads ∷ [])) (omega (
      arith,
      at,
      left,
      later.0,
    )) (omega (arith, r)) in
    record {
      archived = omega (arith, a, told.archived, up);
      floors = λ relation. omega (arith, ap (λ (f : ℕ → ℕ). f relation) (floors-append (λ q. 0) log (Commits heads ∷ [])), told.floors relation, up);
      last = omega (arith, at, later.1);
      reclaimed = omega (arith, r, told.reclaimed);
    }
told-more log (Archived upto) told may =
    let at = same_last log (Archived upto) refl in
    let a = archive_mark-append 0 log (Archived upto ∷ []) in
    let r = reclaim_mark-append 0 log (Archived upto ∷ []) in
    let up = told-same log (Archived upto) refl (omega (arith, r)) in
    record {
      archived = omega (arith, a, may.1, up);
      floors = λ relation. omega (arith, ap (λ (f : ℕ → ℕ). f relation) (floors-append (λ q. 0) log (Archived upto ∷ [])), told.floors relation, up);
      last = omega (arith, at, told.last);
      reclaimed = omega (arith, r, told.reclaimed);
    }
told-more log (Reclaimed upto) told may =
    let at = same_last log (Reclaimed upto) refl in
    let a = archive_mark-append 0 log (Reclaimed upto ∷ []) in
    let r = reclaim_mark-append 0 log (Reclaimed upto ∷ []) in
    let up = told-same log (Reclaimed upto) refl (omega (arith, r, may.3)) in
    record {
      archived = omega (arith, a, told.archived, up);
      floors = λ relation. omega (arith, ap (λ (f : ℕ → ℕ). f relation) (floors-append (λ q. 0) log (Reclaimed upto ∷ [])), told.floors relation, up);
      last = omega (arith, at, told.last);
      reclaimed = omega (arith, r, may.1);
    }
told-more log (Floor scope floor) told may =
    let at = same_last log (Floor scope floor) refl in
    let a = archive_mark-append 0 log (Floor scope floor ∷ []) in
    let r = reclaim_mark-append 0 log (Floor scope floor ∷ []) in
    let up = told-same log (Floor scope floor) refl (omega (arith, r)) in
    record {
      archived = omega (arith, a, told.archived, up);
      floors = λ relation. omega (
        arith,
        ap (λ (f : ℕ → ℕ). f relation) (floors-append (λ q. 0) log (Floor scope floor ∷ [])),
        raised-below scope floor (told_time log) (floor_of log) relation may.1 (told.floors relation),
        up,
      );
      last = omega (arith, at, told.last);
      reclaimed = omega (arith, r, told.reclaimed);
    }

pub told-all : (before log : List Slot) → AreTold before → AllCome MayComeInHeap before log → AreTold (before ++ log)
told-all before [] told may = subst AreTold (sym (append-nil before)) told
told-all before (slot ∷ slots) told may =
    subst AreTold (append_assoc before (slot ∷ []) slots) (told-all (before ++ slot ∷ []) slots (told-more before slot told may.0) may.1)

told-none : AreTold []
told-none = record { archived = omega arith; floors = λ relation. omega arith; last = omega arith; reclaimed = omega arith }

pub told-is_last : (a b : ℕ) → b ≤ a → max a b ≡ a
told-is_last a b le = grind (arith, nat_tests)

-- at the end of such a log its marks are in order
pub marked-heap : (log : List Slot) → KeepsHeapRules log → AreMarked log
marked-heap log rules =
    let told = told-all [] log told-none rules.each in
    let same : told_time log ≡ last_time log = told-is_last (last_time log) (reclaim_mark log) rules.published in
    record {
      reclaimed = rules.archived;
      archived = omega (arith, told.archived, same);
      floors = λ relation. omega (arith, told.floors relation, same);
      last = told.last;
    }

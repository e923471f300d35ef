-- The runs of a log in the heap hang on the marks alone; and what stays of them where an archive takes the place of some.
use Rattle.std.proofs.Common.{◌≡◌, ℕ, ◌<◌, ◌≤◌, ◌+◌, cond, zero, suc, List, [], ◌∷◌, ◌++◌, length, take, drop, Option, refl, ap, sym, subst, ◌∙◌, arith}
use Rattle.std.proofs.Common.{append_assoc}
use Rattle.std.specs.Prelude.{IsTrue}
use Rattle.std.proofs.lemmas.List.{append-nil}
use Rattle.history.specs.Floors.{covers}
use Rattle.law_image.specs.Reading.{Head, Slot, Commits, Archived, Reclaimed, Floor, ArchiveRecord}
use Rattle.law_image.specs.Log.{heads_of, last_time_after, last_time, told_time, archive_mark_after, archive_mark, reclaim_mark_after, reclaim_mark}
use Rattle.law_image.specs.Log.{floors_after, floor_of, AllCome, MayComeInHeap, AreRisingAfter}
use Rattle.law_image.specs.StandsFor.{IsRun, AreRunsBy, no_floors}
use Rattle.law_image.specs.HeapPlans.{marks_of, first_runs}
use Rattle.law_image.proofs.Logs.{heads_of-append, archive_mark-append, reclaim_mark-append, floors-append}

-- a run for each mark, from the one before it
abbrev pub AreStacked : ℕ → List ℕ → List (List ArchiveRecord) → Type 0
AreStacked mark [] [] = Unit {0}
AreStacked mark [] (run ∷ runs) = ⊥
AreStacked mark (upto ∷ marks) [] = ⊥
AreStacked mark (upto ∷ marks) (run ∷ runs) = IsRun mark (no_floors []) upto run × AreStacked upto marks runs

pub stack-of : (before log : List Slot) (runs : List (List ArchiveRecord)) → AreRunsBy no_floors before log runs
    → AreStacked (archive_mark before) (marks_of log) runs
stack-of before [] [] are = tt
stack-of before [] (run ∷ runs) are = absurd are
stack-of before (Commits heads ∷ slots) runs are =
    subst (λ n. AreStacked n (marks_of slots) runs) (archive_mark-append 0 before (Commits heads ∷ [])) (stack-of (before ++ Commits heads ∷ []) slots runs are)
stack-of before (Archived upto ∷ slots) [] are = absurd are
stack-of before (Archived upto ∷ slots) (run ∷ runs) are = (
  are.0,
  subst (λ n. AreStacked n (marks_of slots) runs) (archive_mark-append 0 before (Archived upto ∷ [])) (stack-of (before ++ Archived upto
      ∷ []) slots runs are.1),
)
stack-of before (Reclaimed upto ∷ slots) runs are =
    subst (λ n. AreStacked n (marks_of slots) runs) (archive_mark-append 0 before (Reclaimed upto ∷ [])) (stack-of (before ++ Reclaimed upto
    ∷ []) slots runs are)
stack-of before (Floor scope floor ∷ slots) runs are =
    subst (λ n. AreStacked n (marks_of slots) runs) (archive_mark-append 0 before (Floor scope floor ∷ [])) (stack-of (before ++ Floor scope floor
    ∷ []) slots runs are)

pub of-stack : (before log : List Slot) (runs : List (List ArchiveRecord)) → AreStacked (archive_mark before) (marks_of log) runs
    → AreRunsBy no_floors before log runs
of-stack before [] [] are = tt
of-stack before [] (run ∷ runs) are = absurd are
of-stack before (Commits heads ∷ slots) runs are =
    of-stack (before ++ Commits heads
    ∷ []) slots runs (subst (λ n. AreStacked n (marks_of slots) runs) (sym (archive_mark-append 0 before (Commits heads ∷ []))) are)
of-stack before (Archived upto ∷ slots) [] are = absurd are
of-stack before (Archived upto ∷ slots) (run ∷ runs) are = (
  are.0,
  of-stack (before ++ Archived upto
      ∷ []) slots runs (subst (λ n. AreStacked n (marks_of slots) runs) (sym (archive_mark-append 0 before (Archived upto ∷ []))) are.1),
)
of-stack before (Reclaimed upto ∷ slots) runs are =
    of-stack (before ++ Reclaimed upto
    ∷ []) slots runs (subst (λ n. AreStacked n (marks_of slots) runs) (sym (archive_mark-append 0 before (Reclaimed upto ∷ []))) are)
of-stack before (Floor scope floor ∷ slots) runs are =
    of-stack (before ++ Floor scope floor
    ∷ []) slots runs (subst (λ n. AreStacked n (marks_of slots) runs) (sym (archive_mark-append 0 before (Floor scope floor ∷ []))) are)

pub marks-append : (log later : List Slot) → marks_of (log ++ later) ≡ marks_of log ++ marks_of later
marks-append [] later = refl
marks-append (Commits heads ∷ slots) later = marks-append slots later
marks-append (Archived upto ∷ slots) later = ap (λ l. upto ∷ l) (marks-append slots later)
marks-append (Reclaimed upto ∷ slots) later = marks-append slots later
marks-append (Floor scope floor ∷ slots) later = marks-append slots later

-- the last of some marks, or what it was before
abbrev pub last_mark : ℕ → List ℕ → ℕ
last_mark before [] = before
last_mark before (mark ∷ marks) = last_mark mark marks

pub last_mark-is : (before : ℕ) (log : List Slot) → archive_mark_after before log ≡ last_mark before (marks_of log)
last_mark-is before [] = refl
last_mark-is before (Commits heads ∷ slots) = last_mark-is before slots
last_mark-is before (Archived upto ∷ slots) = last_mark-is upto slots
last_mark-is before (Reclaimed upto ∷ slots) = last_mark-is before slots
last_mark-is before (Floor scope floor ∷ slots) = last_mark-is before slots

pub stack-take : (kept mark : ℕ) (marks : List ℕ) (runs : List (List ArchiveRecord)) → AreStacked mark marks runs
    → AreStacked mark (take kept marks) (take kept runs)
stack-take zero mark marks runs are = tt
stack-take (suc kept) mark [] [] are = tt
stack-take (suc kept) mark [] (run ∷ runs) are = absurd are
stack-take (suc kept) mark (upto ∷ marks) [] are = absurd are
stack-take (suc kept) mark (upto ∷ marks) (run ∷ runs) are = (are.0, stack-take kept upto marks runs are.1)

pub stack-more : (mark upto : ℕ) (marks : List ℕ) (runs : List (List ArchiveRecord)) (run : List ArchiveRecord)
    → AreStacked mark marks runs → IsRun (last_mark mark marks) (no_floors []) upto run → AreStacked mark (marks ++ upto ∷ []) (runs ++ run ∷ [])
stack-more mark upto [] [] run are is = (is, tt)
stack-more mark upto [] (r ∷ runs) run are is = absurd are
stack-more mark upto (m ∷ marks) [] run are is = absurd are
stack-more mark upto (m ∷ marks) (r ∷ runs) run are is = (are.0, stack-more m upto marks runs run are.1 is)

-- ---- the first runs alone

pub first-marks : (kept : ℕ) (log : List Slot) → marks_of (first_runs kept log) ≡ take kept (marks_of log)
first-marks zero [] = refl
first-marks (suc kept) [] = refl
first-marks zero (Commits heads ∷ slots) = first-marks zero slots
first-marks (suc kept) (Commits heads ∷ slots) = first-marks (suc kept) slots
first-marks zero (Archived upto ∷ slots) = first-marks zero slots
first-marks (suc kept) (Archived upto ∷ slots) = ap (λ l. upto ∷ l) (first-marks kept slots)
first-marks zero (Reclaimed upto ∷ slots) = first-marks zero slots
first-marks (suc kept) (Reclaimed upto ∷ slots) = first-marks (suc kept) slots
first-marks zero (Floor scope floor ∷ slots) = first-marks zero slots
first-marks (suc kept) (Floor scope floor ∷ slots) = first-marks (suc kept) slots

-- they tell of the same commits, reclaim mark and floors
pub record TellAlike (log less : List Slot) : Type 0 where
  pub heads : heads_of less ≡ heads_of log
  pub reclaimed : reclaim_mark less ≡ reclaim_mark log
  pub floors : (relation : ℕ) → floor_of less relation ≡ floor_of log relation
  pub lower : archive_mark less ≤ archive_mark log

pub alike-told : (log less : List Slot) → TellAlike log less → told_time less ≡ told_time log
alike-told log less alike = let l : last_time less ≡ last_time log = ap (last_time_after 0) alike.heads in rw (l, alike.reclaimed) refl

alike-none : TellAlike [] []
alike-none = record { heads = refl; reclaimed = refl; floors = λ relation. refl; lower = omega arith }

subst2-nil : (before less : List Slot) → TellAlike before less → TellAlike (before ++ []) (less ++ [])
subst2-nil before less alike =
    subst (λ (l : List Slot). TellAlike l (less ++ [])) (sym (append-nil before)) (subst (λ (l : List Slot). TellAlike before l) (sym (append-nil less)) alike)

-- a slot that stays in both
kept-one : (before less : List Slot) (slot : Slot) (slots first : List Slot) → MayComeInHeap less slot
    → AllCome MayComeInHeap (less ++ slot ∷ []) first × TellAlike ((before ++ slot ∷ []) ++ slots) ((less ++ slot ∷ []) ++ first)
    → AllCome MayComeInHeap less (slot ∷ first) × TellAlike (before ++ slot ∷ slots) (less ++ slot ∷ first)
kept-one before less slot slots first may rest = (
  (may, rest.0),
  subst (λ (l : List Slot). TellAlike l (less ++ slot ∷ first)) (append_assoc before (slot ∷ []) slots)
      (subst (λ (l : List Slot). TellAlike ((before ++ slot ∷ []) ++ slots) l) (append_assoc less (slot ∷ []) first) rest.1),
)

pub floors-alike : (f g : ℕ → ℕ) (slot : Slot) (relation : ℕ) → f relation ≡ g relation → floors_after f (slot ∷ []) relation
    ≡ floors_after g (slot ∷ []) relation
floors-alike f g (Commits heads) relation same = same
floors-alike f g (Archived upto) relation same = same
floors-alike f g (Reclaimed upto) relation same = same
floors-alike f g (Floor scope floor) relation same = ap (λ (n : ℕ). cond (covers scope relation) floor n) same

pub alike-more : (log less : List Slot) (slot : Slot) → TellAlike log less
    → (archive_mark_after (archive_mark less) (slot ∷ []) ≤ archive_mark_after (archive_mark log) (slot ∷ []))
    → TellAlike (log ++ slot ∷ []) (less ++ slot ∷ [])
alike-more log less slot alike le = record {
  heads = heads_of-append less (slot ∷ []) ∙ ap (λ l. l ++ heads_of (slot ∷ [])) alike.heads ∙ sym (heads_of-append log (slot ∷ []));
  reclaimed =
      reclaim_mark-append 0 less (slot ∷ []) ∙ ap (λ (n : ℕ). reclaim_mark_after n (slot ∷ [])) alike.reclaimed ∙ sym (reclaim_mark-append 0 log (slot ∷ []));
  floors = λ relation.
      ap (λ (f : ℕ → ℕ). f relation) (floors-append (λ q. 0) less (slot ∷ []))
      ∙ floors-alike (floor_of less) (floor_of log) slot relation (alike.floors relation)
      ∙ sym (ap (λ (f : ℕ → ℕ). f relation) (floors-append (λ q. 0) log (slot ∷ [])));
  lower = let a = archive_mark-append 0 less (slot ∷ []) in let b = archive_mark-append 0 log (slot ∷ []) in omega (arith, a, b, le);
}

-- a run of the log that is left out
pub alike-dropped : (log less : List Slot) (upto : ℕ) → TellAlike log less → archive_mark log ≤ upto → TellAlike (log ++ Archived upto ∷ []) less
alike-dropped log less upto alike le = record {
  heads = alike.heads ∙ sym (append-nil (heads_of log)) ∙ sym (heads_of-append log (Archived upto ∷ []));
  reclaimed = alike.reclaimed ∙ sym (reclaim_mark-append 0 log (Archived upto ∷ []));
  floors = λ relation. alike.floors relation ∙ sym (ap (λ (f : ℕ → ℕ). f relation) (floors-append (λ q. 0) log (Archived upto ∷ [])));
  lower = let b = archive_mark-append 0 log (Archived upto ∷ []) in omega (arith, b, alike.lower, le);
}

-- what may come behind a log may come behind one that tells alike
pub alike-may : (log less : List Slot) (slot : Slot) → TellAlike log less → MayComeInHeap log slot → MayComeInHeap less slot
alike-may log less (Commits heads) alike may = (may.0, subst (λ (t : ℕ). AreRisingAfter t heads) (sym (alike-told log less alike)) may.1)
alike-may log less (Archived upto) alike may = (omega (arith, alike.lower, may.0), omega (arith, alike-told log less alike, may.1))
alike-may log less (Reclaimed upto) alike may =
    let l : last_time less ≡ last_time log = ap (last_time_after 0) alike.heads in
    (may.0, may.1, omega (arith, l, may.2), omega (arith, alike.reclaimed, may.3))
alike-may log less (Floor scope floor) alike may = (
  may.0,
  omega (arith, alike-told log less alike, may.1),
  λ relation covered. let f = alike.floors relation in let up =
      may.2 relation covered in omega (arith, f, up),
)

-- the first runs of a log keep its rules
first-may : (kept : ℕ) (before less log : List Slot) → TellAlike before less → AllCome MayComeInHeap before log
    → AllCome MayComeInHeap less (first_runs kept log) × TellAlike (before ++ log) (less ++ first_runs kept log)
first-may zero before less [] alike may = (tt, subst2-nil before less alike)
first-may (suc kept) before less [] alike may = (tt, subst2-nil before less alike)
first-may zero before less (Commits heads ∷ slots) alike may =
    kept-one before less (Commits heads) slots (first_runs zero slots) (alike-may before less (Commits heads) alike may.0) (first-may zero (before
    ++ Commits heads ∷ []) (less ++ Commits heads ∷ []) slots (alike-more before less (Commits heads) alike alike.lower) may.1)
first-may (suc kept) before less (Commits heads ∷ slots) alike may =
    kept-one before less (Commits heads) slots (first_runs (suc kept) slots) (alike-may before less (Commits heads) alike may.0) (first-may (suc kept) (before
    ++ Commits heads ∷ []) (less ++ Commits heads ∷ []) slots (alike-more before less (Commits heads) alike alike.lower) may.1)
first-may zero before less (Archived upto ∷ slots) alike may =
    let rest = first-may zero (before ++ Archived upto ∷ []) less slots (alike-dropped before less upto alike (omega (arith, may.0.0))) may.1 in
    (rest.0, subst (λ (l : List Slot). TellAlike l (less ++ first_runs zero slots)) (append_assoc before (Archived upto ∷ []) slots) rest.1)
first-may (suc kept) before less (Archived upto ∷ slots) alike may =
    kept-one before less (Archived upto) slots (first_runs kept slots) (alike-may before less (Archived upto) alike may.0) (first-may kept (before
    ++ Archived upto ∷ []) (less ++ Archived upto ∷ []) slots (alike-more before less (Archived upto) alike (omega arith)) may.1)
first-may zero before less (Reclaimed upto ∷ slots) alike may =
    kept-one before less (Reclaimed upto) slots (first_runs zero slots) (alike-may before less (Reclaimed upto) alike may.0) (first-may zero (before
    ++ Reclaimed upto ∷ []) (less ++ Reclaimed upto ∷ []) slots (alike-more before less (Reclaimed upto) alike alike.lower) may.1)
first-may (suc kept) before less (Reclaimed upto ∷ slots) alike may =
    kept-one before less (Reclaimed upto) slots (first_runs (suc kept) slots) (alike-may before less (Reclaimed upto) alike may.0) (first-may (suc kept) (before
    ++ Reclaimed upto ∷ []) (less ++ Reclaimed upto ∷ []) slots (alike-more before less (Reclaimed upto) alike alike.lower) may.1)
first-may zero before less (Floor scope floor ∷ slots) alike may =
    kept-one before less (Floor scope floor) slots (first_runs zero slots) (alike-may before less (Floor scope floor) alike may.0) (first-may zero (before
    ++ Floor scope floor ∷ []) (less ++ Floor scope floor ∷ []) slots (alike-more before less (Floor scope floor) alike alike.lower) may.1)
first-may (suc kept) before less (Floor scope floor ∷ slots) alike may =
    kept-one before less (Floor scope floor) slots (first_runs (suc kept) slots) (alike-may before less (Floor scope floor) alike may.0)
    (first-may (suc kept) (before ++ Floor scope floor ∷ []) (less ++ Floor scope floor
    ∷ []) slots (alike-more before less (Floor scope floor) alike alike.lower) may.1)

pub first-rules : (kept : ℕ) (log : List Slot) → AllCome MayComeInHeap [] log → AllCome MayComeInHeap [] (first_runs kept log)
    × TellAlike log (first_runs kept log)
first-rules kept log may = first-may kept [] [] log alike-none may

-- The runs of a log, each with what stood before its slot.
use Rattle.std.proofs.Common.{◌≡◌, ℕ, ◌-◌, ◌≤◌, List, [], ◌∷◌, ◌++◌, length, get_or, take, drop, map, Option, refl, sym, ap, subst, ◌∙◌, arith, append_assoc}
use Rattle.std.proofs.Props.{props}
use Rattle.std.specs.List.{AllByRecursion}
use Rattle.std.proofs.lemmas.List.{map-append, take_rest}
use Rattle.wire.specs.Spelling.{IsRun}
use Rattle.wire.specs.declared.slot.Run.{Run}
use Rattle.floors.specs.Floors.{FloorsValue, no_floors, raised_in}
use Rattle.wire.specs.declared.slot.Body.{Body}
use Rattle.wire.specs.declared.slot.Body.TheVariants.{Commit, Archived, Reclaimed, Floor}
use Rattle.wire.specs.declared.slot.Slot.{Slot}
use Rattle.archive.specs.declared.run.RunEntry.{RunEntry}
use Rattle.status.specs.Rules.{slot_of, log_of, runs_in, runs_of}
use Rattle.law_layout.proofs.Lists.{all_of_front, all_of_back}
use Rattle.recovery.specs.RunEntries.{runs_named, marks_before, floors_before, AreEntriesOf, AreMarkedFrom}

-- ---- each goes on from the mark of the one before it

abbrev GoOn : List Slot → Type 0
GoOn slots =
    (mark : ℕ) (entries : List RunEntry) → runs_named entries ≡ runs_of slots → map (λ e. e.mark) entries ≡ marks_before mark (log_of slots)
    → AreMarkedFrom mark entries

one_goes : (slots : List Slot) → GoOn slots → (body : Body) (mark : ℕ) (entries : List RunEntry) → runs_named entries ≡ runs_in body ++ runs_of slots
    → map (λ e. e.mark) entries ≡ marks_before mark (slot_of body ∷ log_of slots)
    → AreMarkedFrom mark entries
one_goes slots rest (Commit members) mark entries runs marks = rest mark entries runs marks
one_goes slots rest (Reclaimed anchors) mark entries runs marks = rest mark entries runs marks
one_goes slots rest (Floor relation floor) mark entries runs marks = rest mark entries runs marks
one_goes slots rest (Archived run) mark [] runs marks = tt
one_goes slots rest (Archived run) mark (e ∷ es) runs marks =
    let upto : run.upto ≡ e.slot.upto = cc in
    let others : runs_named es ≡ runs_of slots = cc in
    let later : map (λ (x : RunEntry). x.mark) es ≡ marks_before run.upto (log_of slots) = cc in
    let first : e.mark ≡ mark = cc in (
      first,
      subst (λ (m : ℕ). AreMarkedFrom m es) upto (rest run.upto es others later),
    )

pub go_on : (slots : List Slot) → GoOn slots
go_on [] mark [] runs marks = tt
go_on [] mark (e ∷ es) runs marks = absurd cc
go_on (s ∷ slots) mark entries runs marks = one_goes slots (go_on slots) s.body mark entries runs marks

-- ---- they are told by their runs, marks and floors

in_range_once : (run : Run) → IsProp (IsRun run)
in_range_once run = Prim.hlevel props

of_run : (run : Run) (mark : ℕ) (floors : FloorsValue) → IsRun run → RunEntry
of_run run mark floors in_range = record { slot = run; mark = mark; floors = floors; in_range = in_range }

of_one_run : (run other : Run) (mark : ℕ) (floors : FloorsValue) (p : IsRun run) (q : IsRun other) → run ≡ other → of_run run mark floors p
    ≡ of_run other mark floors q
of_one_run run other mark floors p q same =
    subst (λ (r : Run). (q : IsRun r) → of_run run mark floors p ≡ of_run r mark floors q) same (λ q. ap (of_run run mark floors) (in_range_once run p q)) q

same_entry : (a b : RunEntry) → a.slot ≡ b.slot → a.mark ≡ b.mark → a.floors ≡ b.floors → a ≡ b
unfolding of_run
same_entry a b slot mark floors =
    of_one_run a.slot b.slot a.mark a.floors a.in_range b.in_range slot
    ∙ ap (λ (n : ℕ). of_run b.slot n a.floors b.in_range) mark
    ∙ ap (λ (f : FloorsValue). of_run b.slot b.mark f b.in_range) floors

pub same_entries : (xs ys : List RunEntry) → runs_named xs ≡ runs_named ys → map (λ e. e.mark) xs ≡ map (λ e. e.mark) ys → map (λ e. e.floors) xs
    ≡ map (λ e. e.floors) ys → xs ≡ ys
same_entries [] [] runs marks floors = refl
same_entries [] (y ∷ ys) runs marks floors = absurd cc
same_entries (x ∷ xs) [] runs marks floors = absurd cc
same_entries (x ∷ xs) (y ∷ ys) runs marks floors =
    let run : x.slot ≡ y.slot = cc in
    let mark : x.mark ≡ y.mark = cc in
    let own : x.floors ≡ y.floors = cc in
    let first : x ≡ y = same_entry x y run mark own in
    let runs_behind : runs_named xs ≡ runs_named ys = cc in
    let marks_behind : map (λ (e : RunEntry). e.mark) xs ≡ map (λ (e : RunEntry). e.mark) ys = cc in
    let floors_behind : map (λ (e : RunEntry). e.floors) xs ≡ map (λ (e : RunEntry). e.floors) ys = cc in
    let rest : xs ≡ ys = same_entries xs ys runs_behind marks_behind floors_behind in
    λ i. first i ∷ rest i

-- the slots of a log have one list of runs
pub one_list : (slots : List Slot) (xs ys : List RunEntry) → AreEntriesOf slots xs → AreEntriesOf slots ys → xs ≡ ys
one_list slots xs ys a b = same_entries xs ys (a.runs_are ∙ sym b.runs_are) (a.marks_are ∙ sym b.marks_are) (a.floors_are ∙ sym b.floors_are)

-- ---- reading the slots, one after another

-- What was read so far, and what the rest of the slots say behind it, is what all say.
pub record IsReadBefore (slots rest : List Slot) (entries : List RunEntry) (archived : ℕ) (floors : FloorsValue) : Type 0 where
  pub in_range : AllByRecursion IsRun (runs_of rest)
  pub runs_are : runs_named entries ++ runs_of rest ≡ runs_of slots
  pub marks_are : map (λ e. e.mark) entries ++ marks_before archived (log_of rest) ≡ marks_before 0 (log_of slots)
  pub floors_are : map (λ e. e.floors) entries ++ floors_before floors (log_of rest) ≡ floors_before no_floors (log_of slots)

-- one run more
one_more : {X : Type 0} (f : RunEntry → X) (entries : List RunEntry) (e : RunEntry) (x : X) (rest : List X) → f e ≡ x → map f (entries ++ e ∷ []) ++ rest
    ≡ map f entries ++ x ∷ rest
one_more f entries e x rest is =
    ap (λ l. l ++ rest) (map-append f entries (e ∷ [])) ∙ append_assoc (map f entries) (f e ∷ []) rest ∙ ap (λ y. map f entries ++ y ∷ rest) is

-- a slot of this body is read, and the runs, the mark and the floors become these
Reads : List Slot → List RunEntry → ℕ → FloorsValue → Body → List RunEntry → ℕ → FloorsValue → Type 0
Reads slots entries archived floors body more upto raised =
    (number : ℕ) (after : List Slot) → IsReadBefore slots (record { number = number; body = body } ∷ after) entries archived floors
    → IsReadBefore slots after more upto raised

-- neither a commit nor a reclaim changes them
abbrev pub HasNoMark : Body → Type 0
HasNoMark (Commit members) = Unit {0}
HasNoMark (Archived run) = ⊥
HasNoMark (Reclaimed anchors) = Unit {0}
HasNoMark (Floor scope new) = ⊥

module _ (slots : List Slot) (entries : List RunEntry) (archived : ℕ) (floors : FloorsValue) where
  other_read : (body : Body) → HasNoMark body → Reads slots entries archived floors body entries archived floors
  unfolding Reads
  other_read (Commit members) none number after before = record {
    in_range = before.in_range;
    runs_are = before.runs_are;
    marks_are = before.marks_are;
    floors_are = before.floors_are;
  }
  other_read (Archived run) none number after before = absurd none
  other_read (Reclaimed anchors) none number after before = record {
    in_range = before.in_range;
    runs_are = before.runs_are;
    marks_are = before.marks_are;
    floors_are = before.floors_are;
  }
  other_read (Floor scope new) none number after before = absurd none

  one_run_read : (run : Run) (e : RunEntry) → e.slot ≡ run → e.mark ≡ archived → e.floors ≡ floors
      → Reads slots entries archived floors (Archived run) (entries ++ e ∷ []) run.upto floors
  unfolding Reads
  one_run_read run e slot mark own number after before = record {
    in_range = before.in_range.1;
    runs_are = one_more (λ (x : RunEntry). x.slot) entries e run (runs_of after) slot ∙ before.runs_are;
    marks_are = one_more (λ (x : RunEntry). x.mark) entries e archived (marks_before run.upto (log_of after)) mark ∙ before.marks_are;
    floors_are = one_more (λ (x : RunEntry). x.floors) entries e floors (floors_before floors (log_of after)) own ∙ before.floors_are;
  }

  one_floor_read : (scope : Option ℕ) (new : ℕ) → Reads slots entries archived floors (Floor scope new) entries archived (raised_in scope new floors)
  unfolding Reads
  one_floor_read scope new number after before = record {
    in_range = before.in_range;
    runs_are = before.runs_are;
    marks_are = before.marks_are;
    floors_are = before.floors_are;
  }

-- so it is of the first of some slots
first_read : (slots : List Slot) (entries : List RunEntry) (archived : ℕ) (floors : FloorsValue) (body : Body) (more : List RunEntry) (upto : ℕ)
    (raised : FloorsValue) (rest : List Slot) (d s : Slot) → Reads slots entries archived floors body more upto raised
    → 1 ≤ length rest → s ≡ get_or rest 0 d → s.body ≡ body → IsReadBefore slots rest entries archived floors
    → IsReadBefore slots (take (length rest - 1) (drop 1 rest)) more upto raised
unfolding Reads
first_read slots entries archived floors body more upto raised [] d s reads some is body_is before = absurd (omega arith)
first_read slots entries archived floors body more upto raised (x ∷ after) d s reads some is body_is before =
    let x_body : x.body ≡ body = ap (λ (y : Slot). y.body) (sym is) ∙ body_is in
    subst (λ (l : List Slot). IsReadBefore slots l more upto raised) (sym (take_rest (x ∷ after) 1))
    (reads x.number after (subst (λ (b : Body). IsReadBefore slots (record { number = x.number; body = b } ∷ after) entries archived floors) x_body before))

pub mark_stays : (slots rest : List Slot) (d s : Slot) (entries : List RunEntry) (archived : ℕ) (floors : FloorsValue) (body : Body) → HasNoMark body
    → 1 ≤ length rest → s ≡ get_or rest 0 d → s.body ≡ body
    → IsReadBefore slots rest entries archived floors → IsReadBefore slots (take (length rest - 1) (drop 1 rest)) entries archived floors
mark_stays slots rest d s entries archived floors body none some is body_is before =
    first_read slots entries archived floors body entries archived floors rest d s (other_read slots entries archived floors body none) some is body_is before

pub run_read : (slots rest : List Slot) (d s : Slot) (entries : List RunEntry) (archived : ℕ) (floors : FloorsValue) (run : Run) (e : RunEntry)
    (more : List RunEntry) → 1 ≤ length rest → s ≡ get_or rest 0 d → s.body ≡ Archived run → e.slot ≡ run → e.mark ≡ archived → e.floors ≡ floors → more
    ≡ entries ++ e ∷ []
    → IsReadBefore slots rest entries archived floors → IsReadBefore slots (take (length rest - 1) (drop 1 rest)) more run.upto floors
run_read slots rest d s entries archived floors run e more some is body slot mark own more_is before =
    subst (λ (l : List RunEntry). IsReadBefore slots (take (length rest - 1) (drop 1 rest)) l run.upto floors) (sym more_is)
    (first_read slots entries archived floors (Archived run) (entries ++ e
    ∷ []) run.upto floors rest d s (one_run_read slots entries archived floors run e slot mark own) some is body before)

pub floor_read : (slots rest : List Slot) (d s : Slot) (entries : List RunEntry) (archived : ℕ) (floors : FloorsValue) (scope : Option ℕ) (new : ℕ)
    (raised : FloorsValue) → 1 ≤ length rest → s ≡ get_or rest 0 d → s.body ≡ Floor scope new → raised ≡ raised_in scope new floors
    → IsReadBefore slots rest entries archived floors → IsReadBefore slots (take (length rest - 1) (drop 1 rest)) entries archived raised
floor_read slots rest d s entries archived floors scope new raised some is body raised_is before =
    subst (λ (f : FloorsValue). IsReadBefore slots (take (length rest - 1) (drop 1 rest)) entries archived f) (sym raised_is)
    (first_read slots entries archived floors (Floor scope new) entries archived (raised_in scope new floors) rest d s
    (one_floor_read slots entries archived floors scope new) some is body before)

-- ---- each log has such a list

Made : ℕ → FloorsValue → List Slot → Type 0
Made mark floors slots =
    (entries : List RunEntry) × (runs_named entries ≡ runs_of slots) × (map (λ e. e.mark) entries ≡ marks_before mark (log_of slots))
    × (map (λ e. e.floors) entries ≡ floors_before floors (log_of slots))

one_made : (slots : List Slot) → ((mark : ℕ) (floors : FloorsValue) → Made mark floors slots) → (number : ℕ) (body : Body) (mark : ℕ) (floors : FloorsValue)
    → AllByRecursion IsRun (runs_in body) → Made mark floors (record { number = number; body = body } ∷ slots)
unfolding Made of_run
one_made slots rest number (Commit members) mark floors in_range = rest mark floors
one_made slots rest number (Archived run) mark floors in_range =
    let more = rest run.upto floors in (
      of_run run mark floors in_range.0 ∷ more.0,
      ap (λ (l : List Run). run ∷ l) more.1,
      ap (λ (l : List ℕ). mark ∷ l) more.2,
      ap (λ (l : List FloorsValue). floors ∷ l) more.3,
    )
one_made slots rest number (Reclaimed anchors) mark floors in_range = rest mark floors
one_made slots rest number (Floor scope new) mark floors in_range = rest mark (raised_in scope new floors)

all_made : (slots : List Slot) (mark : ℕ) (floors : FloorsValue) → AllByRecursion IsRun (runs_of slots) → Made mark floors slots
unfolding Made
all_made [] mark floors in_range = ([], refl, refl, refl)
all_made (s ∷ slots) mark floors in_range =
    one_made slots (λ upto raised. all_made slots upto raised (all_of_back IsRun (runs_in s.body) (runs_of slots) in_range)) s.number s.body mark floors
    (all_of_front IsRun (runs_in s.body) (runs_of slots) in_range)

pub entries_made : (slots : List Slot) → AllByRecursion IsRun (runs_of slots) → (entries : List RunEntry) × AreEntriesOf slots entries
unfolding Made
entries_made slots in_range = let made = all_made slots 0 no_floors in_range in (made.0, record { runs_are = made.1; marks_are = made.2; floors_are = made.3 })

-- The rules of the log between its chains.
use Rattle.std.proofs.Common.{◌≡◌, ℕ, zero, suc, ◌+◌, ◌-◌, ◌<◌, ◌≤◌, max, false, List, [], ◌∷◌, ◌++◌, length, map, take, drop, get_or}
use Rattle.std.proofs.Common.{Some, refl, sym, ap, subst, ◌∙◌, arith, append_assoc, length-append}
use Rattle.std.specs.List.{AllByRecursion}
use Rattle.std.proofs.lemmas.List.{append-nil, length-map, map-append, take_more, take-append-drop}
use Rattle.std.proofs.lemmas.Grind.{flat_map-append}
use Rattle.history.specs.Floors.{raised}
use Rattle.wire.specs.declared.slot.Run.{Run}
use Rattle.floors.specs.Floors.{FloorsValue, floor_at, raised_in}
use Rattle.floors.proofs.Owns.{raised-is}
use Rattle.law_image.specs.Reading.{Head, Slot, Commits, Archived, Reclaimed, Floor}
use Rattle.law_image.specs.Log.{last_time_after, archive_mark, floors_after, floor_of, AreRisingAfter}
use Rattle.law_image.specs.HeapPlans.{marks_of, first_runs}
use Rattle.law_image.proofs.Logs.{archive_mark-append, floors-append}
use Rattle.law_image.proofs.HeapRuns.{marks-append, last_mark, last_mark-is, first-marks}
use Rattle.law_log.specs.Chains.{commits_slot, later_heads, floor_slot, base_slots, AreMarksTo, AreFloorsTo}
use Rattle.law_log.specs.Chains as logs
use Rattle.law_log.proofs.Telling.{commits-marks}
use Rattle.log_extents.specs.Chains.{first_or}
use Rattle.log_entries.specs.declared.entry.Member.{Member}
use Rattle.log_entries.specs.declared.entry.Archive.{Archive}
use Rattle.log_entries.specs.declared.entry.RelationFloor.{RelationFloor}
use Rattle.log_entries.specs.declared.entry.Base.{Base}
use Rattle.log_entries.specs.declared.entry.Entry.TheVariants as entries
use Rattle.log_entries.specs.Ranges.{AreMembers, IsFloor, AreRising, IsBase, run_of}
use Rattle.law_log_layout.specs.HeapLog.{PlacedChain, member_told, floor_told, base_told, runs_behind, runs_from, rolls_in, AreSpansInRow}
use Rattle.log_recovery.specs.Rules.{LogState, MayComeBehind, MayAllComeBehind, FailsRule, roll_part, row_end, no_log, state_behind, state_from}
use Rattle.log_recovery.specs.Ends.{rolls_named}
use Rattle.log_recovery.specs.Following.{uptos_of, Says, IsFollowed, HasParts, group_heads, IsNextRun, IsNextFloor, uptos_in, spans_in, AreUpTo}
use Rattle.log_recovery.specs.Following.{IsNextBase, last_upto, AreEnds, IsEndOf}
use Rattle.log_recovery.specs.declared.rules.LogEnd.{LogEnd}
use Rattle.log_recovery.specs.declared.rules.BaseEnds.{BaseEnds}

-- ---- what is told behind other slots

some_behind : (before : List Slot) (slot : Slot) (after : List Slot) → before ++ slot ∷ after ≡ [] → ⊥
some_behind before slot after is =
    let none : length (before ++ slot ∷ after) ≡ 0 = ap (λ (slots : List Slot). length slots) is in
    let len = length-append before (slot ∷ after) in
    omega (arith, none, len)

-- commits change no mark and no floor
commits-no_marks : (heads : List Head) → marks_of (commits_slot heads) ≡ []
commits-no_marks [] = refl
commits-no_marks (head ∷ heads) = refl

commits-floors : (f : ℕ → ℕ) (heads : List Head) → floors_after f (commits_slot heads) ≡ f
commits-floors f [] = refl
commits-floors f (head ∷ heads) = refl

-- runs that are left out change no floor
first-floors : (f : ℕ → ℕ) (kept : ℕ) (log : List Slot) → floors_after f (first_runs kept log) ≡ floors_after f log
first-floors f zero [] = refl
first-floors f (suc kept) [] = refl
first-floors f zero (Commits heads ∷ slots) = first-floors f zero slots
first-floors f (suc kept) (Commits heads ∷ slots) = first-floors f (suc kept) slots
first-floors f zero (Archived upto ∷ slots) = first-floors f zero slots
first-floors f (suc kept) (Archived upto ∷ slots) = first-floors f kept slots
first-floors f zero (Reclaimed upto ∷ slots) = first-floors f zero slots
first-floors f (suc kept) (Reclaimed upto ∷ slots) = first-floors f (suc kept) slots
first-floors f zero (Floor scope floor ∷ slots) = first-floors (raised scope floor f) zero slots
first-floors f (suc kept) (Floor scope floor ∷ slots) = first-floors (raised scope floor f) (suc kept) slots

floors-behind : (before later : List Slot) (relation : ℕ) → floor_of (before ++ later) relation ≡ floors_after (floor_of before) later relation
floors-behind before later relation = ap (λ (f : ℕ → ℕ). f relation) (floors-append (λ q. 0) before later)

-- ---- floors

raised_alike : (floors : FloorsValue) (only floor : ℕ) → floor_at (raised_in (Some only) floor floors) ≡ raised (Some only) floor (floor_at floors)
raised_alike floors only floor = λ i relation. raised-is floors (Some only) floor relation i

-- floors that are the same one by one are the same where more are raised
floors_alike : (f g : ℕ → ℕ) (slots : List Slot) (relation : ℕ) → ((r : ℕ) → f r ≡ g r) → floors_after f slots relation ≡ floors_after g slots relation
floors_alike f g slots relation same = let all : f ≡ g = λ i r. same r i in ap (λ (h : ℕ → ℕ). floors_after h slots relation) all

-- one more is raised
pub next_raised : (floors before after : FloorsValue) (more : List RelationFloor) (i : ℕ) (f d : RelationFloor) → i < length more → f ≡ get_or more i d
    → after ≡ raised_in (Some f.relation) f.floor before
    → ((relation : ℕ) → floor_at before relation ≡ floors_after (floor_at floors) (map floor_slot (map floor_told (take i more))) relation)
    → (relation : ℕ) → floor_at after relation ≡ floors_after (floor_at floors) (map floor_slot (map floor_told (take (i + 1) more))) relation
next_raised floors before after more i f d lt is after_is same relation =
    let slots = map floor_slot (map floor_told (take i more)) in
    let taken : take (i + 1) more ≡ take i more ++ f ∷ [] = take_more more i d lt ∙ ap (λ g. take i more ++ g ∷ []) (sym is) in
    let told : map floor_slot (map floor_told (take (i + 1) more)) ≡ slots ++ floor_slot (floor_told f) ∷ [] =
    ap (λ l. map floor_slot (map floor_told l)) taken ∙ ap (map floor_slot) (map-append floor_told (take i more) (f ∷ []))
    ∙ map-append floor_slot (map floor_told (take i more)) (floor_told f ∷ []) in
    ap (λ (v : FloorsValue). floor_at v relation) after_is
    ∙ ap (λ (g : ℕ → ℕ). g relation) (raised_alike before f.relation f.floor)
    ∙ floors_alike (floor_at before) (floors_after (floor_at floors) slots) (floor_slot (floor_told f) ∷ []) relation same
    ∙ sym (ap (λ (g : ℕ → ℕ). g relation) (floors-append (floor_at floors) slots (floor_slot (floor_told f) ∷ [])))
    ∙ sym (ap (λ (l : List Slot). floors_after (floor_at floors) l relation) told)

-- ---- a group

pub group_follows : (old : LogEnd) (time mark : ℕ) (s : LogState) (members : List Member) → AreMembers members → old.mark < time
    → AreRisingAfter old.last (group_heads members) × (time ≡ last_time_after old.last (group_heads members)) → Says old mark s
    → IsFollowed old (record old { empty = false; last = time }) mark s (entries.Group members)
group_follows old time mark s members are later rising says =
    let heads = group_heads members in
    let told = commits_slot (later_heads mark heads) in
    let up : AreRisingAfter s.last heads = subst (λ (t : ℕ). AreRisingAfter t heads) says.last_is rising.0 in
    let time_is : time ≡ last_time_after s.last heads = rising.1 ∙ ap (λ (t : ℕ). last_time_after t heads) says.last_is in
    let mark_is = says.mark_is in
    let later' : mark < last_time_after s.last heads = omega (arith, later, time_is, mark_is) in
    let count : length (map member_told members) ≡ length members = length-map members member_told in
    let some = are.some in
    let few = are.few in
    record {
      may = record { rule = (omega (arith, count, some), omega (arith, count, few), up, later'); runs = tt; rolls = tt };
      says = record {
        empty = (λ no. absurd cc, λ both. let none = both.1 in absurd (omega (arith, later', none)));
        mark_is = says.mark_is;
        last_is = time_is;
        archived_is = says.archived_is ∙ sym (archive_mark-append 0 s.told told ∙ commits-marks (later_heads mark heads) (archive_mark s.told));
        floors_are = λ relation.
            says.floors_are relation
            ∙ sym (floors-behind s.told told relation ∙ ap (λ (f : ℕ → ℕ). f relation) (commits-floors (floor_of s.told) (later_heads mark heads)));
        marks_are =
            says.marks_are
            ∙ sym (marks-append s.told told ∙ ap (λ l. marks_of s.told ++ l) (commits-no_marks (later_heads mark heads)) ∙ append-nil (marks_of s.told));
        runs_end_is = says.runs_end_is;
        rolls_end_is = says.rolls_end_is;
      };
    }

-- ---- a run

uptos_taken : (kept : ℕ) (runs : List Run) → uptos_of (take kept runs) ≡ take kept (uptos_of runs)
uptos_taken zero runs = refl
uptos_taken (suc kept) [] = refl
uptos_taken (suc kept) (run ∷ runs) = ap (λ l. run.upto ∷ l) (uptos_taken kept runs)

pub run_follows : (old new : LogEnd) (mark : ℕ) (s : LogState) (a : Archive) → IsNextRun old a
    → new ≡ record old { empty = false; archived = a.upto; runs = new.runs; runs_end = a.start + a.len }
    → new.runs.items ≡ take (length old.runs.items - a.runs) old.runs.items ++ run_of a ∷ [] → Says old mark s → IsFollowed old new mark s (entries.Archived a)
run_follows old new mark s a next new_is runs_are says =
    let marks : length old.runs.items ≡ length (marks_of s.told) =
    sym (length-map old.runs.items (λ (run : Run). run.upto)) ∙ ap (λ (l : List ℕ). length l) says.marks_are in
    let kept = length (marks_of s.told) - a.runs in
    let less = first_runs kept s.told in
    let same : length old.runs.items - a.runs ≡ kept = ap (λ (n : ℕ). n - a.runs) marks in
    let mark_is = says.mark_is in
    let last_is = says.last_is in
    let archived_is = says.archived_is in
    let ends = says.runs_end_is in
    let later = next.later in
    let told = next.told in
    let few = next.few in
    let behind = next.behind in
    let told' : a.upto ≤ max mark s.last = subst (λ (m : ℕ). a.upto ≤ max m s.last) mark_is (subst (λ (t : ℕ). a.upto ≤ max old.mark t) last_is told) in
    record {
      may = record { rule = (omega (arith, later, archived_is), told', omega (arith, few, marks)); runs = (omega (arith, behind, ends), tt); rolls = tt };
      says = record {
        empty = (
          λ yes. let no : new.empty ≡ false = ap (λ (e : LogEnd). e.empty) new_is in absurd cc,
          λ both. absurd (some_behind less (Archived a.upto) [] both.0),
        );
        mark_is = ap (λ (e : LogEnd). e.mark) new_is ∙ says.mark_is;
        last_is = ap (λ (e : LogEnd). e.last) new_is ∙ says.last_is;
        archived_is = ap (λ (e : LogEnd). e.archived) new_is ∙ sym (archive_mark-append 0 less (Archived a.upto ∷ []));
        floors_are = λ relation.
            ap (λ (e : LogEnd). floor_at e.floors relation) new_is
            ∙ says.floors_are relation
            ∙ sym (floors-behind less (Archived a.upto ∷ []) relation ∙ ap (λ (f : ℕ → ℕ). f relation) (first-floors (λ q. 0) kept s.told));
        marks_are =
            ap uptos_of runs_are
            ∙ map-append (λ (run : Run). run.upto) (take (length old.runs.items - a.runs) old.runs.items) (run_of a ∷ [])
            ∙ ap (λ l. l ++ a.upto ∷ [])
            (ap (λ (n : ℕ). uptos_of (take n old.runs.items)) same ∙ uptos_taken kept old.runs.items ∙ ap (take kept) says.marks_are
            ∙ sym (first-marks kept s.told))
            ∙ sym (marks-append less (Archived a.upto ∷ []));
        runs_end_is = ap (λ (e : LogEnd). e.runs_end) new_is;
        rolls_end_is = ap (λ (e : LogEnd). e.rolls_end) new_is ∙ says.rolls_end_is;
      };
    }

-- ---- a floor

pub floor_follows : (old : LogEnd) (floors : FloorsValue) (mark : ℕ) (s : LogState) (f : RelationFloor) → IsNextFloor old f
    → floors ≡ raised_in (Some f.relation) f.floor old.floors → Says old mark s
    → IsFollowed old (record old { empty = false; floors = floors }) mark s (entries.Floor f)
floor_follows old floors mark s f next floors_are says =
    let mark_is = says.mark_is in
    let last_is = says.last_is in
    let at = says.floors_are f.relation in
    let later = next.later in
    let told' : f.floor ≤ max mark s.last =
    subst (λ (m : ℕ). f.floor ≤ max m s.last) mark_is (subst (λ (t : ℕ). f.floor ≤ max old.mark t) last_is next.told) in
    let slot = floor_slot (floor_told f) in
    record {
      may = record { rule = (omega (arith, later, at), told'); runs = tt; rolls = tt };
      says = record {
        empty = (λ no. absurd cc, λ both. absurd (some_behind s.told slot [] both.0));
        mark_is = says.mark_is;
        last_is = says.last_is;
        archived_is = says.archived_is ∙ sym (archive_mark-append 0 s.told (slot ∷ []));
        floors_are = λ relation.
            ap (λ (v : FloorsValue). floor_at v relation) floors_are
            ∙ ap (λ (g : ℕ → ℕ). g relation) (raised_alike old.floors f.relation f.floor)
            ∙ floors_alike (floor_at old.floors) (floor_of s.told) (slot ∷ []) relation says.floors_are
            ∙ sym (floors-behind s.told (slot ∷ []) relation);
        marks_are = says.marks_are ∙ sym (marks-append s.told (slot ∷ []) ∙ append-nil (marks_of s.told));
        runs_end_is = says.runs_end_is;
        rolls_end_is = says.rolls_end_is;
      };
    }

-- ---- a base

-- no floor is later than the end, as told
told_upto : (end from : ℕ) (floors : List RelationFloor) → AreFloorsTo end from (map floor_told floors) → AreUpTo end floors
told_upto end from [] are = tt
told_upto end from (f ∷ floors) are = (are.2, told_upto end (f.relation + 1) floors are.3)

behind_next : (relation : ℕ) (floors : List RelationFloor) → AllByRecursion (λ (g : RelationFloor). relation < g.relation) floors
    → AllByRecursion (λ (g : RelationFloor). relation + 1 ≤ g.relation) floors
behind_next relation [] are = tt
behind_next relation (g ∷ floors) are = let lt = are.0 in (omega (arith, lt), behind_next relation floors are.1)

told_floors : (end from : ℕ) (floors : List RelationFloor) → AllByRecursion (λ (g : RelationFloor). from ≤ g.relation) floors → AreRising floors
    → AllByRecursion IsFloor floors → AreUpTo end floors → AreFloorsTo end from (map floor_told floors)
told_floors end from [] least rising each upto = tt
told_floors end from (f ∷ floors) least rising each upto =
    (least.0, each.0.low, upto.0, told_floors end (f.relation + 1) floors (behind_next f.relation floors rising.0) rising.1 each.1 upto.1)

any_least : (floors : List RelationFloor) → AllByRecursion (λ (g : RelationFloor). 0 ≤ g.relation) floors
any_least [] = tt
any_least (g ∷ floors) = (omega arith, any_least floors)

pub base_stops : (old : LogEnd) (mark : ℕ) (s : LogState) (b : Base) → (IsNextBase old b → ⊥) → Says old mark s → MayComeBehind mark s (entries.Base b) → ⊥
base_stops old mark s b not says may = not (record {
  empty = says.empty.1 (may.rule.0, may.rule.1);
  mark_is = sym (says.mark_is ∙ may.rule.2);
  marks = may.rule.3.marks;
  floors = told_upto b.upto 0 b.floors may.rule.3.floors;
  runs = subst (λ (place : ℕ). AreSpansInRow place (spans_in b.archives)) (sym says.runs_end_is) may.runs;
  rolls = subst (λ (place : ℕ). AreSpansInRow place (map roll_part b.rolls)) (sym says.rolls_end_is) may.rolls;
})

archived-marks : (marks : List ℕ) → marks_of (map Archived marks) ≡ marks
archived-marks [] = refl
archived-marks (upto ∷ marks) = ap (λ l. upto ∷ l) (archived-marks marks)

archived-floors : (f : ℕ → ℕ) (marks : List ℕ) → floors_after f (map Archived marks) ≡ f
archived-floors f [] = refl
archived-floors f (upto ∷ marks) = archived-floors f marks

floors-marks : (floors : List logs.RelationFloor) → marks_of (map floor_slot floors) ≡ []
floors-marks [] = refl
floors-marks (f ∷ floors) = floors-marks floors

last_upto-is : (before : ℕ) (marks : List ℕ) → last_mark before marks ≡ last_upto before marks
last_upto-is before [] = refl
last_upto-is before (mark ∷ marks) = last_upto-is mark marks

-- the marks and floors of a base's slots
base-marks : (b : Base) → marks_of (base_slots (base_told [] b)) ≡ uptos_in b.archives
base-marks b =
    let marks = uptos_in b.archives in
    let floors = map floor_slot (map floor_told b.floors) in
    marks-append (map Archived marks) floors ∙ ap (λ l. l ++ marks_of floors) (archived-marks marks)
    ∙ ap (λ l. marks ++ l) (floors-marks (map floor_told b.floors))
    ∙ append-nil marks

base-floors : (f : ℕ → ℕ) (b : Base) → floors_after f (base_slots (base_told [] b)) ≡ floors_after f (map floor_slot (map floor_told b.floors))
base-floors f b =
    let marks = uptos_in b.archives in
    let floors = map floor_slot (map floor_told b.floors) in
    floors-append f (map Archived marks) floors ∙ ap (λ (g : ℕ → ℕ). floors_after g floors) (archived-floors f marks)

uptos-runs : (archives : List Archive) → uptos_of (map run_of archives) ≡ uptos_in archives
uptos-runs [] = refl
uptos-runs (a ∷ archives) = ap (λ l. a.upto ∷ l) (uptos-runs archives)

-- it may come
base_may : (old : LogEnd) (most mark : ℕ) (s : LogState) (b : Base) → IsBase most b → IsNextBase old b → Says old mark s
    → MayComeBehind mark s (entries.Base b)
base_may old most mark s b is next says =
    let none = says.empty.0 next.empty in
    record {
      rule = (
        none.0,
        none.1,
        sym says.mark_is ∙ sym next.mark_is,
        record {
          some = is.whole.upto_low;
          most = is.whole.upto_high;
          rising = tt;
          named = omega arith;
          marks = next.marks;
          floors = told_floors b.upto 0 b.floors (any_least b.floors) is.whole.rising is.parts.floors next.floors;
        },
      );
      runs = subst (λ (place : ℕ). AreSpansInRow place (spans_in b.archives)) says.runs_end_is next.runs;
      rolls = subst (λ (place : ℕ). AreSpansInRow place (map roll_part b.rolls)) says.rolls_end_is next.rolls;
    }

-- what is told with it
base-tells : (s : LogState) (b : Base) → s.told ≡ [] → archive_mark (s.told ++ base_slots (base_told [] b)) ≡ last_upto 0 (uptos_in b.archives)
base-tells s b none =
    ap (λ l. archive_mark (l ++ base_slots (base_told [] b))) none ∙ last_mark-is 0 (base_slots (base_told [] b)) ∙ ap (last_mark 0) (base-marks b)
    ∙ last_upto-is 0 (uptos_in b.archives)

pub base_follows : (old new : LogEnd) (ends : BaseEnds) (most mark : ℕ) (s : LogState) (b : Base) → IsBase most b → IsNextBase old b × AreEnds old b ends
    → new ≡ record old {
      empty = false;
      archived = ends.archived;
      floors = new.floors;
      runs = new.runs;
      rolls = new.rolls;
      runs_end = ends.runs_end;
      rolls_end = ends.rolls_end;
    }
    → new.runs.items ≡ old.runs.items ++ map run_of b.archives
    → ((relation : ℕ) → floor_at new.floors relation ≡ floors_after (floor_at old.floors) (map floor_slot (map floor_told b.floors)) relation)
    → Says old mark s → IsFollowed old new mark s (entries.Base b)
base_follows old new ends most mark s b is next new_is runs_are floors_are says =
    let none = says.empty.0 next.0.empty in
    let slots = base_slots (base_told [] b) in
    record {
      may = base_may old most mark s b is next.0 says;
      says = record {
        empty = (
          λ yes. let no : new.empty ≡ false = ap (λ (e : LogEnd). e.empty) new_is in absurd cc,
          λ both. absurd (some_behind s.told (Reclaimed b.upto) (map Archived (uptos_in b.archives) ++ map floor_slot (map floor_told b.floors)) both.0),
        );
        mark_is = ap (λ (e : LogEnd). e.mark) new_is ∙ says.mark_is;
        last_is = ap (λ (e : LogEnd). e.last) new_is ∙ says.last_is;
        archived_is = ap (λ (e : LogEnd). e.archived) new_is ∙ next.1.archived_is ∙ sym (base-tells s b none.0);
        floors_are = λ relation.
            floors_are relation
            ∙ floors_alike (floor_at old.floors) (floor_of s.told) (map floor_slot (map floor_told b.floors)) relation says.floors_are
            ∙ sym (floors-behind s.told slots relation ∙ ap (λ (f : ℕ → ℕ). f relation) (base-floors (floor_of s.told) b));
        marks_are =
            ap uptos_of runs_are
            ∙ map-append (λ (run : Run). run.upto) old.runs.items (map run_of b.archives)
            ∙ ap (λ l. l ++ uptos_of (map run_of b.archives)) says.marks_are
            ∙ ap (λ l. marks_of s.told ++ l) (uptos-runs b.archives ∙ sym (base-marks b))
            ∙ sym (marks-append s.told slots);
        runs_end_is =
            ap (λ (e : LogEnd). e.runs_end) new_is ∙ next.1.runs_end_is ∙ ap (λ (place : ℕ). row_end place (spans_in b.archives)) says.runs_end_is;
        rolls_end_is =
            ap (λ (e : LogEnd). e.rolls_end) new_is ∙ next.1.rolls_end_is ∙ ap (λ (place : ℕ). row_end place (map roll_part b.rolls)) says.rolls_end_is;
      };
    }

-- ---- all chains

state_more : (mark : ℕ) (s : LogState) (front : List PlacedChain) (c : PlacedChain) → state_from mark s (front ++ c ∷ [])
    ≡ state_behind mark (state_from mark s front) c.entry
state_more mark s [] c = refl
state_more mark s (d ∷ front) c = state_more mark (state_behind mark s d.entry) front c

all_more : (mark : ℕ) (s : LogState) (front : List PlacedChain) (c : PlacedChain) → MayAllComeBehind mark s front
    → MayComeBehind mark (state_from mark s front) c.entry → MayAllComeBehind mark s (front ++ c ∷ [])
all_more mark s [] c all may = (may, tt)
all_more mark s (d ∷ front) c all may = (all.0, all_more mark (state_behind mark s d.entry) front c all.1 may)

runs_more : (runs : List Run) (front : List PlacedChain) (c : PlacedChain) → runs_from runs (front ++ c ∷ []) ≡ runs_behind (runs_from runs front) c.entry
runs_more runs [] c = refl
runs_more runs (d ∷ front) c = runs_more (runs_behind runs d.entry) front c

rolls_more : (front : List PlacedChain) (c : PlacedChain) → rolls_named (front ++ c ∷ []) ≡ rolls_named front ++ rolls_in c.entry
rolls_more front c =
    flat_map-append (λ (d : PlacedChain). rolls_in d.entry) front (c ∷ []) ∙ ap (λ l. rolls_named front ++ l) (append-nil (rolls_in c.entry))

one_more : (mark : ℕ) (front : List PlacedChain) (c : PlacedChain) (old new : LogEnd) → IsEndOf mark front old
    → IsFollowed old new mark (state_from mark no_log front) c.entry → HasParts old new c.entry → IsEndOf mark (front ++ c ∷ []) new
one_more mark front c old new is followed parts = record {
  keeps = all_more mark no_log front c is.keeps followed.may;
  says = subst (Says new mark) (sym (state_more mark no_log front c)) followed.says;
  runs_are = parts.runs ∙ ap (λ l. runs_behind l c.entry) is.runs_are ∙ sym (runs_more [] front c);
  rolls_are = parts.rolls ∙ ap (λ l. l ++ rolls_in c.entry) is.rolls_are ∙ sym (rolls_more front c);
}

pub next_chain : (mark : ℕ) (chains : List PlacedChain) (i : ℕ) (c : PlacedChain) (old new : LogEnd) → i < length chains → c ≡ get_or chains i c
    → IsEndOf mark (take i chains) old → IsFollowed old new mark (state_from mark no_log (take i chains)) c.entry → HasParts old new c.entry
    → IsEndOf mark (take (i + 1) chains) new
next_chain mark chains i c old new lt is end followed parts =
    let taken : take (i + 1) chains ≡ take i chains ++ c ∷ [] = take_more chains i c lt ∙ ap (λ d. take i chains ++ d ∷ []) (sym is) in
    subst (λ l. IsEndOf mark l new) (sym taken) (one_more mark (take i chains) c old new end followed parts)

pub breaks_at : (mark : ℕ) (chains : List PlacedChain) (i : ℕ) (c : PlacedChain) (old : LogEnd) (place : ℕ) → i < length chains → c ≡ get_or chains i c
    → IsEndOf mark (take i chains) old → (MayComeBehind mark (state_from mark no_log (take i chains)) c.entry → ⊥) → place ≡ first_or 0 c.numbers
    → FailsRule mark chains place
breaks_at mark chains i c old place lt is end not place_is =
    let taken : take (i + 1) chains ≡ take i chains ++ c ∷ [] = take_more chains i c lt ∙ ap (λ d. take i chains ++ d ∷ []) (sym is) in
    record {
      front = take i chains;
      chain = c;
      back = drop (i + 1) chains;
      chains_are =
          sym (take-append-drop (i + 1) chains) ∙ ap (λ l. l ++ drop (i + 1) chains) taken ∙ append_assoc (take i chains) (c ∷ []) (drop (i + 1) chains);
      front_keeps = end.keeps;
      breaks = not;
      place_is = place_is;
    }

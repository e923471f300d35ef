-- The runs that a front leaves, and the rolls and anchors that the log's base names.
use Rattle.std.proofs.Common.{◌≡◌, ℕ, ◌-◌, ◌<◌, ◌≤◌, zero, suc, true, false, cond, List, [], ◌∷◌, ◌++◌, length, map, take, refl, ap, sym, subst, ◌∙◌, arith}
use Rattle.std.proofs.Common.{inl}
use Rattle.std.specs.Prelude.{flat_map}
use Rattle.std.specs.List.{AllByRecursion}
use Rattle.std.proofs.lemmas.List.{append-nil, length-map, map-append, take-map}
use Rattle.wire.specs.declared.slot.Run.{Run}
use Rattle.law_image.specs.Reading.{Head, Slot, OldRecord}
use Rattle.law_image.specs.Reading as slots
use Rattle.law_image.specs.Log.{last_time_after, archive_mark}
use Rattle.law_image.specs.HeapPlans.{marks_of, first_runs}
use Rattle.law_image.proofs.HeapRuns.{marks-append, first-marks, last_mark, last_mark-is}
use Rattle.law_log.specs.Chains.{LogChain, OfBase, OfGroup, OfRun, OfFloor, commits_slot, later_heads, floor_slot, base_slots, heads_in, told_behind, told_from}
use Rattle.law_log.specs.Chains.{reclaimed_by, commits_in, AreMarksTo, MayFollow, MayAllFollow, IsUpTo, IsNoBase}
use Rattle.law_log.specs.Chains as logs
use Rattle.log_entries.specs.declared.entry.Archive.{Archive}
use Rattle.log_entries.specs.declared.entry.Roll.{Roll}
use Rattle.log_entries.specs.declared.entry.Entry.{Entry}
use Rattle.log_entries.specs.declared.entry.Entry.TheVariants.{Group, Archived, Floor}
use Rattle.log_entries.specs.declared.entry.Entry.TheVariants as entries
use Rattle.log_entries.specs.declared.entry.AnchorName.{AnchorName}
use Rattle.log_entries.specs.Ranges.{IsEntry, run_of}
use Rattle.log_extents.specs.Chains.{first_or}
use Rattle.law_log_layout.specs.HeapLog.{PlacedChain, PlacedAnchors, IsPlaced, member_told, base_told, chain_told, chains_told, rolls_in, anchors_in, AreNamed}
use Rattle.law_log_layout.specs.HeapLog as heap
use Rattle.log_recovery.specs.Live.{LiveChainValue, part_of, live_of}
use Rattle.log_base.specs.Bases.{is_later, front_len, in_base, runs_behind, runs_from, rolls_at, rolls_of, no_anchors, anchors_at, mark_of}
use Rattle.log_base.specs.Laws.{MayBeAnchors, AnchorsStay}
use Rattle.log_base.proofs.Fronts.{others-none}

-- ---- the runs

runs-one : (before : List Archive) (e : Entry) → map run_of (runs_behind before (part_of e)) ≡ heap.runs_behind (map run_of before) e
runs-one before (Group members) = refl
runs-one before (Archived archive) =
    let kept = length before - archive.runs in
    map-append run_of (take kept before) (in_base archive ∷ [])
    ∙ ap (λ (l : List Run). l ++ run_of archive ∷ []) (sym (take-map run_of kept before)
    ∙ ap (λ (n : ℕ). take (n - archive.runs) (map run_of before)) (sym (length-map before run_of)))
runs-one before (Floor floor) = refl
runs-one before (entries.Base base) = map-append run_of before base.archives

pub runs-left : (before : List Archive) (chains : List PlacedChain)
    → map run_of (runs_from before (map live_of chains)) ≡ heap.runs_from (map run_of before) chains
runs-left before [] = refl
runs-left before (c ∷ chains) =
    runs-left (runs_behind before (part_of c.entry)) chains ∙ ap (λ (l : List Run). heap.runs_from l chains) (runs-one before c.entry)

-- so it is with the front as memory keeps it
pub runs-live : (n : ℕ) (chains : List PlacedChain) → map run_of (runs_from [] (take n (map live_of chains))) ≡ heap.runs_from [] (take n chains)
runs-live n chains =
    ap (λ (cs : List LiveChainValue). map run_of (runs_from [] cs)) (take-map live_of n chains) ∙ runs-left [] (take n chains)

-- ---- the base's mark and rolls

pub mark-is : (names : List Head) (chains : List PlacedChain) → mark_of (map live_of chains) ≡ reclaimed_by (chains_told names chains)
mark-is names [] = refl
mark-is names (c ∷ chains) = by c.entry
  where
    by : (e : Entry) → mark_of (record { numbers = c.numbers; part = part_of e } ∷ map live_of chains)
        ≡ reclaimed_by (chain_told names e ∷ chains_told names chains)
    by (Group members) = refl
    by (Archived archive) = refl
    by (Floor floor) = refl
    by (entries.Base base) = refl

-- a chain that is no base names none
one-no_rolls : (names : List Head) (e : Entry) → IsNoBase (chain_told names e) → rolls_in e ≡ []
one-no_rolls names (Group members) none = refl
one-no_rolls names (Archived archive) none = refl
one-no_rolls names (Floor floor) none = refl
one-no_rolls names (entries.Base base) none = absurd none

pub no-rolls : (names : List Head) (chains : List PlacedChain) → AllByRecursion IsNoBase (chains_told names chains)
    → flat_map (λ (c : PlacedChain). rolls_in c.entry) chains ≡ []
no-rolls names [] none = refl
no-rolls names (c ∷ chains) none =
    let rest = no-rolls names chains none.1 in
    ap (λ (l : List Roll). l ++ flat_map (λ (c : PlacedChain). rolls_in c.entry) chains) (one-no_rolls names c.entry none.0) ∙ rest

rolls-one : (e : Entry) → rolls_at (part_of e) ≡ rolls_in e
rolls-one (Group members) = refl
rolls-one (Archived archive) = refl
rolls-one (Floor floor) = refl
rolls-one (entries.Base base) = refl

late-none : (mark : ℕ) (e : Entry) → is_later mark (part_of e) ≡ true → rolls_in e ≡ []
late-none mark (Group members) late = refl
late-none mark (Archived archive) late = refl
late-none mark (Floor floor) late = refl
late-none mark (entries.Base base) late = absurd cc

-- the rolls that the log names are those of its base, which stands in the front
pub rolls-left : (mark : ℕ) (names : List Head) (chains : List PlacedChain)
    → MayAllFollow (reclaimed_by (chains_told names chains)) 0 [] (chains_told names chains)
    → rolls_of (take (front_len mark (map live_of chains)) (map live_of chains)) ≡ flat_map (λ (c : PlacedChain). rolls_in c.entry) chains
rolls-left mark names [] may = refl
rolls-left mark names (c ∷ chains) may =
    let n = front_len mark (map live_of chains) in
    let none = no-rolls names chains (others-none chains names c may) in
    let rest : rolls_in c.entry ++ flat_map (λ (c : PlacedChain). rolls_in c.entry) chains ≡ rolls_in c.entry =
    ap (λ (l : List Roll). rolls_in c.entry ++ l) none ∙ append-nil (rolls_in c.entry) in
    (elim (is_later mark (part_of c.entry)) as (λ b. is_later mark (part_of c.entry) ≡ b
    → rolls_of (take (cond b zero (suc n)) (live_of c ∷ map live_of chains)) ≡ rolls_in c.entry ++ flat_map (λ (c : PlacedChain). rolls_in c.entry) chains) [
      | true ↦ λ e. sym (rest ∙ late-none mark c.entry e)
      | false ↦ λ e. rolls-one c.entry ∙ sym rest
    ]) refl

-- ---- its anchors

one-no_anchors : (names : List Head) (e : Entry) → IsNoBase (chain_told names e) → anchors_in e ≡ []
one-no_anchors names (Group members) none = refl
one-no_anchors names (Archived archive) none = refl
one-no_anchors names (Floor floor) none = refl
one-no_anchors names (entries.Base base) none = absurd none

no-anchors : (names : List Head) (chains : List PlacedChain) → AllByRecursion IsNoBase (chains_told names chains)
    → flat_map (λ (c : PlacedChain). anchors_in c.entry) chains ≡ []
no-anchors names [] none = refl
no-anchors names (c ∷ chains) none =
    let rest = no-anchors names chains none.1 in
    ap (λ (l : List AnchorName). l ++ flat_map (λ (c : PlacedChain). anchors_in c.entry) chains) (one-no_anchors names c.entry none.0) ∙ rest

-- where none are named there are none
none-named : (a : PlacedAnchors) → AreNamed [] a → AreNamed (no_anchors ∷ []) a
none-named a is = (ap (first_or 0) is.0, ap (λ (l : List ℕ). length l) is.0, ap (λ (l : List OldRecord). length l) is.1)

anchors-one : (e : Entry) (a : PlacedAnchors) → AreNamed (anchors_in e) a → AreNamed (anchors_at (part_of e) ∷ []) a
anchors-one (Group members) a is = none-named a is
anchors-one (Archived archive) a is = none-named a is
anchors-one (Floor floor) a is = none-named a is
anchors-one (entries.Base base) a is = is

none-may : (most : ℕ) → MayBeAnchors most no_anchors
none-may most = record {
  first = omega arith;
  extents = omega arith;
  records = omega arith;
  place = inl (record { first = refl; extents = refl; records = refl });
}

anchors-may : (most : ℕ) (e : Entry) → IsEntry most e → MayBeAnchors most (anchors_at (part_of e))
anchors-may most (Group members) is = none-may most
anchors-may most (Archived archive) is = none-may most
anchors-may most (Floor floor) is = none-may most
anchors-may most (entries.Base base) is =
    let parts = is.parts in
    let whole = is.whole in
    record { first = parts.first; extents = parts.extents; records = parts.records; place = whole.anchors }

-- the anchors that the log names are those of its base
pub anchors-stay : (most : ℕ) (names : List Head) (chains : List PlacedChain) (a : PlacedAnchors)
    → MayAllFollow (reclaimed_by (chains_told names chains)) 0 [] (chains_told names chains) → AllByRecursion (IsPlaced most) chains
    → AreNamed (flat_map (λ (c : PlacedChain). anchors_in c.entry) chains) a → AnchorsStay most chains a
anchors-stay most names [] a may placed named = record { named = none-named a named; may = none-may most }
anchors-stay most names (c ∷ chains) a may placed named =
    let rest : anchors_in c.entry ++ flat_map (λ (c : PlacedChain). anchors_in c.entry) chains ≡ anchors_in c.entry =
    ap (λ (l : List AnchorName). anchors_in c.entry ++ l) (no-anchors names chains (others-none chains names c may)) ∙ append-nil (anchors_in c.entry) in
    record {
      named = anchors-one c.entry a (subst (λ (l : List AnchorName). AreNamed l a) rest named);
      may = anchors-may most c.entry (placed.0).entry;
    }

-- ---- the marks of the runs

abbrev uptos : List Archive → List ℕ
uptos archives = map (λ (a : Archive). a.upto) archives

no-marks : (heads : List Head) → marks_of (commits_slot heads) ≡ []
no-marks [] = refl
no-marks (head ∷ heads) = refl

base-marks : (b : logs.Base) → marks_of (base_slots b) ≡ b.marks
base-marks b =
    marks-append (commits_slot b.names) (slots.Reclaimed b.upto ∷ (map slots.Archived b.marks ++ map floor_slot b.floors))
    ∙ ap (λ l. l ++ marks_of (map slots.Archived b.marks ++ map floor_slot b.floors)) (no-marks b.names)
    ∙ own b.marks b.floors
  where
    floors-no : (floors : List logs.RelationFloor) → marks_of (map floor_slot floors) ≡ []
    floors-no [] = refl
    floors-no (f ∷ floors) = floors-no floors

    own : (marks : List ℕ) (floors : List logs.RelationFloor) → marks_of (map slots.Archived marks ++ map floor_slot floors) ≡ marks
    own [] floors = floors-no floors
    own (m ∷ marks) floors = ap (λ l. m ∷ l) (own marks floors)

marks-one : (mark : ℕ) (before : List Slot) (runs : List Archive) (names : List Head) (e : Entry) → marks_of before ≡ uptos runs
    → marks_of (told_behind mark before (chain_told names e)) ≡ uptos (runs_behind runs (part_of e))
marks-one mark before runs names (Group members) is =
    let heads = later_heads mark (heads_in (map member_told members)) in
    marks-append before (commits_slot heads) ∙ ap (λ (l : List ℕ). marks_of before ++ l) (no-marks heads) ∙ append-nil (marks_of before) ∙ is
marks-one mark before runs names (Archived archive) is =
    let upto = λ (a : Archive). a.upto in
    let kept = length (marks_of before) - archive.runs in
    marks-append (first_runs kept before) (slots.Archived archive.upto ∷ [])
    ∙ ap (λ (l : List ℕ). l ++ archive.upto ∷ []) (
    first-marks kept before
    ∙ ap (λ (l : List ℕ). take (length l - archive.runs) l) is
    ∙ ap (λ (n : ℕ). take (n - archive.runs) (uptos runs)) (length-map runs upto)
    ∙ take-map upto (length runs - archive.runs) runs)
    ∙ sym (map-append upto (take (length runs - archive.runs) runs) (in_base archive ∷ []))
marks-one mark before runs names (Floor floor) is = marks-append before (floor_slot (heap.floor_told floor) ∷ []) ∙ append-nil (marks_of before) ∙ is
marks-one mark before runs names (entries.Base base) is =
    marks-append before (base_slots (base_told names base))
    ∙ ap (λ (l : List ℕ). marks_of before ++ l) (base-marks (base_told names base))
    ∙ ap (λ (l : List ℕ). l ++ uptos base.archives) is
    ∙ sym (map-append (λ (a : Archive). a.upto) runs base.archives)

-- the log tells the marks of the runs that stand
pub marks-left : (mark : ℕ) (before : List Slot) (runs : List Archive) (names : List Head) (chains : List PlacedChain) → marks_of before ≡ uptos runs
    → marks_of (told_from mark before (chains_told names chains)) ≡ uptos (runs_from runs (map live_of chains))
marks-left mark before runs names [] is = is
marks-left mark before runs names (c ∷ chains) is =
    marks-left mark (told_behind mark before (chain_told names c.entry)) (runs_behind runs (part_of c.entry)) names chains
    (marks-one mark before runs names c.entry is)

-- ---- they rise

marks-weaker : (early late mark : ℕ) (marks : List ℕ) → early ≤ late → AreMarksTo early mark marks → AreMarksTo late mark marks
marks-weaker early late mark [] le are = tt
marks-weaker early late mark (m ∷ marks) le are = (are.0, omega (arith, le, are.1), marks-weaker early late m marks le are.2)

marks-take : (end mark kept : ℕ) (marks : List ℕ) → AreMarksTo end mark marks → AreMarksTo end mark (take kept marks)
marks-take end mark zero marks are = tt
marks-take end mark (suc kept) [] are = tt
marks-take end mark (suc kept) (m ∷ marks) are = (are.0, are.1, marks-take end m kept marks are.2)

last-rises : (end mark : ℕ) (marks : List ℕ) → AreMarksTo end mark marks → mark ≤ last_mark mark marks
last-rises end mark [] are = omega arith
last-rises end mark (m ∷ marks) are = omega (arith, are.0, last-rises end m marks are.2)

last-taken : (end mark kept : ℕ) (marks : List ℕ) → AreMarksTo end mark marks → last_mark mark (take kept marks) ≤ last_mark mark marks
last-taken end mark zero marks are = last-rises end mark marks are
last-taken end mark (suc kept) [] are = omega arith
last-taken end mark (suc kept) (m ∷ marks) are = last-taken end m kept marks are.2

marks-more : (end mark upto : ℕ) (marks : List ℕ) → AreMarksTo end mark marks → last_mark mark marks < upto → upto ≤ end
    → AreMarksTo end mark (marks ++ upto ∷ [])
marks-more end mark upto [] are later le = (later, le, tt)
marks-more end mark upto (m ∷ marks) are later le = (are.0, are.1, marks-more end m upto marks are.2 later le)

marks-step : (end mark last : ℕ) (before : List Slot) (chain : LogChain) → mark ≤ end → last ≤ end → MayFollow mark last before chain
    → AreMarksTo end 0 (marks_of before) → AreMarksTo end 0 (marks_of (told_behind mark before chain))
marks-step end mark last before (OfBase b) le late may are =
    let same : marks_of (before ++ base_slots b) ≡ b.marks =
    marks-append before (base_slots b) ∙ ap (λ (l : List Slot). marks_of l ++ marks_of (base_slots b)) may.0 ∙ base-marks b in
    subst (AreMarksTo end 0) (sym same) (marks-weaker b.upto end 0 b.marks (omega (arith, le, may.2)) may.3.marks)
marks-step end mark last before (OfGroup members) le late may are =
    let heads = later_heads mark (heads_in members) in
    let same : marks_of (before ++ commits_slot heads) ≡ marks_of before =
    marks-append before (commits_slot heads) ∙ ap (λ (l : List ℕ). marks_of before ++ l) (no-marks heads) ∙ append-nil (marks_of before) in
    subst (AreMarksTo end 0) (sym same) are
marks-step end mark last before (OfRun upto runs) le late may are =
    let kept = length (marks_of before) - runs in
    let same : marks_of (first_runs kept before ++ slots.Archived upto ∷ []) ≡ take kept (marks_of before) ++ upto ∷ [] =
    marks-append (first_runs kept before) (slots.Archived upto ∷ []) ∙ ap (λ (l : List ℕ). l ++ upto ∷ []) (first-marks kept before) in
    let last_is : archive_mark before ≡ last_mark 0 (marks_of before) = last_mark-is 0 before in
    let taken = last-taken end 0 kept (marks_of before) are in
    subst (AreMarksTo end 0) (sym same)
    (marks-more end 0 upto (take kept (marks_of before)) (marks-take end 0 kept (marks_of before) are) (omega (arith, taken, last_is, may.0)) (omega (
      arith,
      le,
      late,
      may.1,
    )))
marks-step end mark last before (OfFloor f) le late may are =
    let same : marks_of (before ++ floor_slot f ∷ []) ≡ marks_of before = marks-append before (floor_slot f ∷ []) ∙ append-nil (marks_of before) in
    subst (AreMarksTo end 0) (sym same) are

-- commits up to a time leave the last time there
pub last-upto : (end last : ℕ) (heads : List Head) → last ≤ end → AllByRecursion (λ (head : Head). head.time ≤ end) heads → last_time_after last heads ≤ end
last-upto end last [] le all = le
last-upto end last (head ∷ heads) le all = last-upto end head.time heads all.0 all.1

pub marks-rise : (end mark last : ℕ) (before : List Slot) (chains : List LogChain) → mark ≤ end → last ≤ end → AllByRecursion (IsUpTo end) chains
    → MayAllFollow mark last before chains → AreMarksTo end 0 (marks_of before) → AreMarksTo end 0 (marks_of (told_from mark before chains))
marks-rise end mark last before [] le late up may are = are
marks-rise end mark last before (chain ∷ chains) le late up may are =
    marks-rise end mark (last_time_after last (commits_in chain)) (told_behind mark before chain) chains le (last-upto end last (commits_in chain) late up.0)
    up.1 may.1 (marks-step end mark last before chain le late may.0 are)

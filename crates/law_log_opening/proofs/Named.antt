-- The names in the rolls matter for nothing that opening asks of a log: without them it tells the same runs and floors, and its chains keep the same rules.
use Rattle.std.proofs.Common.{◌≡◌, ℕ, zero, suc, ◌+◌, ◌-◌, List, [], ◌∷◌, ◌++◌, map, length, take, refl, ap, sym, subst, ◌∙◌, arith}
use Rattle.std.proofs.Common.{append_assoc}
use Rattle.std.specs.Prelude.{flat_map}
use Rattle.std.proofs.lemmas.List.{append-nil, map-append}
use Rattle.history.specs.Floors.{raised}
use Rattle.law_image.specs.Reading.{Head, Slot}
use Rattle.law_image.specs.Reading as slots
use Rattle.law_image.specs.Log.{last_time_after, archive_mark, floors_after, floor_of}
use Rattle.law_image.specs.HeapPlans.{marks_of, first_runs}
use Rattle.law_image.proofs.Logs.{floors-append}
use Rattle.law_image.proofs.HeapRuns.{marks-append, first-marks, last_mark, last_mark-is}
use Rattle.law_log.specs.Chains.{IsBase, MayFollow, MayAllFollow, commits_slot, later_heads, floor_slot, base_slots, heads_in, told_behind, told_from}
use Rattle.law_log.specs.Chains.{commits_in, last_commit, reclaimed_by}
use Rattle.log_entries.specs.declared.entry.Base.{Base}
use Rattle.log_entries.specs.declared.entry.Entry.{Entry}
use Rattle.log_entries.specs.declared.entry.Entry.TheVariants.{Group, Archived, Floor}
use Rattle.log_entries.specs.declared.entry.Entry.TheVariants as entries
use Rattle.law_log_layout.specs.HeapLog.{PlacedChain, Span, AreSpansInRow, run_span, archives_in, rolls_in}
use Rattle.law_log_layout.specs.HeapLog.{member_told, floor_told, base_told, chain_told, chains_told}
use Rattle.log_recovery.specs.Rules.{LogState, MayAllComeBehind, roll_part, row_end, archive_spans, roll_spans, state_behind, state_from, mark_of}
use Rattle.log_recovery.specs.Ends.{rolls_named}

-- ---- what is told

-- the same runs and floors are told
pub record TellAlike (before after : List Slot) : Type 0 where
  pub marks : marks_of after ≡ marks_of before
  pub floors : floor_of after ≡ floor_of before

first-floors : (f : ℕ → ℕ) (kept : ℕ) (log : List Slot) → floors_after f (first_runs kept log) ≡ floors_after f log
first-floors f zero [] = refl
first-floors f (suc kept) [] = refl
first-floors f zero (slots.Commits heads ∷ rest) = first-floors f zero rest
first-floors f (suc kept) (slots.Commits heads ∷ rest) = first-floors f (suc kept) rest
first-floors f zero (slots.Archived upto ∷ rest) = first-floors f zero rest
first-floors f (suc kept) (slots.Archived upto ∷ rest) = first-floors f kept rest
first-floors f zero (slots.Reclaimed upto ∷ rest) = first-floors f zero rest
first-floors f (suc kept) (slots.Reclaimed upto ∷ rest) = first-floors f (suc kept) rest
first-floors f zero (slots.Floor scope floor ∷ rest) = first-floors (raised scope floor f) zero rest
first-floors f (suc kept) (slots.Floor scope floor ∷ rest) = first-floors (raised scope floor f) (suc kept) rest

alike-more : (before after more : List Slot) → TellAlike before after → TellAlike (before ++ more) (after ++ more)
alike-more before after more so = record {
  marks = marks-append after more ∙ ap (λ (l : List ℕ). l ++ marks_of more) so.marks ∙ sym (marks-append before more);
  floors = floors-append (λ q. 0) after more ∙ ap (λ (f : ℕ → ℕ). floors_after f more) so.floors ∙ sym (floors-append (λ q. 0) before more);
}

-- names are no runs and no floors
alike-names : (before after : List Slot) (names : List Head) → TellAlike before after → TellAlike (before ++ commits_slot names) after
alike-names before after [] so = subst (λ (l : List Slot). TellAlike l after) (sym (append-nil before)) so
alike-names before after (head ∷ heads) so = record {
  marks = so.marks ∙ sym (marks-append before (slots.Commits (head ∷ heads) ∷ []) ∙ append-nil (marks_of before));
  floors = so.floors ∙ sym (floors-append (λ q. 0) before (slots.Commits (head ∷ heads) ∷ []));
}

alike-first : (kept : ℕ) (before after : List Slot) → TellAlike before after → TellAlike (first_runs kept before) (first_runs kept after)
alike-first kept before after so = record {
  marks = first-marks kept after ∙ ap (take kept) so.marks ∙ sym (first-marks kept before);
  floors = first-floors (λ q. 0) kept after ∙ so.floors ∙ sym (first-floors (λ q. 0) kept before);
}

-- with one chain more
alike-behind : (mark : ℕ) (names : List Head) (before after : List Slot) (e : Entry) → TellAlike before after
    → TellAlike (told_behind mark before (chain_told names e)) (told_behind mark after (chain_told [] e))
alike-behind mark names before after (Group members) so =
    alike-more before after (commits_slot (later_heads mark (heads_in (map member_told members)))) so
alike-behind mark names before after (Archived archive) so =
    let kept = length (marks_of before) - archive.runs in
    let kept' = length (marks_of after) - archive.runs in
    let same : kept' ≡ kept = ap (λ (l : List ℕ). length l - archive.runs) so.marks in
    alike-more (first_runs kept before) (first_runs kept' after) (slots.Archived archive.upto ∷ [])
    (subst (λ (n : ℕ). TellAlike (first_runs kept before) (first_runs n after)) (sym same) (alike-first kept before after so))
alike-behind mark names before after (Floor floor) so = alike-more before after (floor_slot (floor_told floor) ∷ []) so
alike-behind mark names before after (entries.Base base) so =
    let rest : List Slot = base_slots (base_told [] base) in
    subst (λ (l : List Slot). TellAlike l (after ++ rest)) (append_assoc before (commits_slot names) rest)
    (alike-more (before ++ commits_slot names) after rest (alike-names before after names so))

-- and with all
pub alike-from : (mark : ℕ) (names : List Head) (before : List Slot) (s : LogState) (chains : List PlacedChain) → TellAlike before s.told
    → TellAlike (told_from mark before (chains_told names chains)) (state_from mark s chains).told
alike-from mark names before s [] so = so
alike-from mark names before s (c ∷ chains) so =
    alike-from mark names (told_behind mark before (chain_told names c.entry)) (state_behind mark s c.entry) chains
    (alike-behind mark names before s.told c.entry so)

pub alike-none : TellAlike [] []
alike-none = record { marks = refl; floors = refl }

pub alike-mark : (before after : List Slot) → TellAlike before after → archive_mark after ≡ archive_mark before
alike-mark before after so = last_mark-is 0 after ∙ ap (last_mark 0) so.marks ∙ sym (last_mark-is 0 before)

-- what is told is the log's state
pub told-state : (mark : ℕ) (s : LogState) (chains : List PlacedChain) → told_from mark s.told (chains_told [] chains) ≡ (state_from mark s chains).told
told-state mark s [] = refl
told-state mark s (c ∷ chains) = told-state mark (state_behind mark s c.entry) chains

-- ---- nothing told

append-none : (xs ys : List Slot) → xs ++ ys ≡ [] → (xs ≡ []) × (ys ≡ [])
append-none [] ys none = (refl, none)
append-none (x ∷ xs) ys none = absurd (cc)

more-none : (before after more : List Slot) → (before ≡ [] → after ≡ []) → before ++ more ≡ [] → after ++ more ≡ []
more-none before after more so none =
    let parts = append-none before more none in
    let first : after ≡ [] = so parts.0 in
    λ i. first i ++ parts.1 i

none-behind : (mark : ℕ) (names : List Head) (before after : List Slot) (e : Entry) → (before ≡ [] → after ≡ [])
    → told_behind mark before (chain_told names e) ≡ [] → told_behind mark after (chain_told [] e) ≡ []
none-behind mark names before after (Group members) so none =
    more-none before after (commits_slot (later_heads mark (heads_in (map member_told members)))) so none
none-behind mark names before after (Archived archive) so none =
    let last : slots.Archived archive.upto ∷ [] ≡ [] =
    (append-none (first_runs (length (marks_of before) - archive.runs) before) (slots.Archived archive.upto ∷ []) none).1 in
    absurd (cc)
none-behind mark names before after (Floor floor) so none = more-none before after (floor_slot (floor_told floor) ∷ []) so none
none-behind mark names before after (entries.Base base) so none =
    let rest = map slots.Archived (base_told [] base).marks ++ map floor_slot (base_told [] base).floors in
    let told : commits_slot names ++ (slots.Reclaimed base.upto ∷ rest) ≡ [] = (append-none before (base_slots (base_told names base)) none).1 in
    let last : slots.Reclaimed base.upto ∷ rest ≡ [] = (append-none (commits_slot names) (slots.Reclaimed base.upto ∷ rest) told).1 in
    absurd (cc)

-- ---- the rules

pub commits-same : (names : List Head) (e : Entry) → commits_in (chain_told names e) ≡ commits_in (chain_told [] e)
commits-same names (Group members) = refl
commits-same names (Archived archive) = refl
commits-same names (Floor floor) = refl
commits-same names (entries.Base base) = refl

pub last-same : (names : List Head) (last : ℕ) (chains : List PlacedChain)
    → last_commit last (chains_told names chains) ≡ last_commit last (chains_told [] chains)
last-same names last [] = refl
last-same names last (c ∷ chains) =
    ap (λ (hs : List Head). last_commit (last_time_after last hs) (chains_told names chains)) (commits-same names c.entry)
    ∙ last-same names (last_time_after last (commits_in (chain_told [] c.entry))) chains

pub mark-same : (names : List Head) (chains : List PlacedChain) → reclaimed_by (chains_told names chains) ≡ mark_of chains
mark-same names [] = refl
mark-same names (c ∷ chains) = by c.entry
  where
    by : (e : Entry) → reclaimed_by (chain_told names e ∷ chains_told names chains) ≡ reclaimed_by (chain_told [] e ∷ chains_told [] chains)
    by (Group members) = refl
    by (Archived archive) = refl
    by (Floor floor) = refl
    by (entries.Base base) = refl

base-unnamed : (names : List Head) (b : Base) → IsBase (base_told names b) → IsBase (base_told [] b)
base-unnamed names b is =
    record { some = is.some; most = is.most; rising = tt; named = omega arith; marks = is.marks; floors = is.floors }

rule-unnamed : (mark last : ℕ) (names : List Head) (before after : List Slot) (e : Entry) → TellAlike before after → (before ≡ [] → after ≡ [])
    → MayFollow mark last before (chain_told names e) → MayFollow mark last after (chain_told [] e)
rule-unnamed mark last names before after (Group members) so none may = may
rule-unnamed mark last names before after (Archived archive) so none may =
    let same = alike-mark before after so in
    let many = ap (λ (l : List ℕ). length l) so.marks in
    (omega (arith, same, may.0), may.1, omega (arith, many, may.2))
rule-unnamed mark last names before after (Floor floor) so none may =
    let same = ap (λ (f : ℕ → ℕ). f floor.relation) so.floors in
    (omega (arith, same, may.0), may.1)
rule-unnamed mark last names before after (entries.Base base) so none may = (none may.0, may.1, may.2, base-unnamed names base may.3)

-- ---- rows

row-front : (place : ℕ) (xs ys : List Span) → AreSpansInRow place (xs ++ ys) → AreSpansInRow place xs
row-front place [] ys row = tt
row-front place (x ∷ xs) ys row = (row.0, row-front (x.start + x.len) xs ys row.1)

row-back : (place : ℕ) (xs ys : List Span) → AreSpansInRow place (xs ++ ys) → AreSpansInRow (row_end place xs) ys
row-back place [] ys row = row
row-back place (x ∷ xs) ys row = row-back (x.start + x.len) xs ys row.1

-- Each chain may come behind those before it, whatever names were told.
pub come-behind : (mark : ℕ) (names : List Head) (before : List Slot) (s : LogState) (chains : List PlacedChain) → TellAlike before s.told
    → (before ≡ [] → s.told ≡ []) → MayAllFollow mark s.last before (chains_told names chains)
    → AreSpansInRow s.runs_end (map run_span (flat_map (λ (c : PlacedChain). archives_in c.entry) chains))
    → AreSpansInRow s.rolls_end (map roll_part (rolls_named chains)) → MayAllComeBehind mark s chains
come-behind mark names before s [] so none may runs rolls = tt
come-behind mark names before s (c ∷ chains) so none may runs rolls =
    let later = flat_map (λ (d : PlacedChain). archives_in d.entry) chains in
    let told : List Slot = told_behind mark before (chain_told names c.entry) in
    let all_runs = subst (AreSpansInRow s.runs_end) (map-append run_span (archives_in c.entry) later) runs in
    let all_rolls = subst (AreSpansInRow s.rolls_end) (map-append roll_part (rolls_in c.entry) (rolls_named chains)) rolls in (
      record {
        rule = rule-unnamed mark s.last names before s.told c.entry so none may.0;
        runs = row-front s.runs_end (archive_spans c.entry) (map run_span later) all_runs;
        rolls = row-front s.rolls_end (roll_spans c.entry) (map roll_part (rolls_named chains)) all_rolls;
      },
      come-behind mark names told (state_behind mark s c.entry) chains
          (alike-behind mark names before s.told c.entry so) (none-behind mark names before s.told c.entry none)
          (subst (λ (hs : List Head). MayAllFollow mark (last_time_after s.last hs) told (chains_told names chains)) (commits-same names c.entry) may.1)
          (row-back s.runs_end (archive_spans c.entry) (map run_span later) all_runs)
          (row-back s.rolls_end (roll_spans c.entry) (map roll_part (rolls_named chains)) all_rolls),
    )

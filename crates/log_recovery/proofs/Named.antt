-- Only the first chain of a log that keeps the rules names anchors and rolls.
use Rattle.std.proofs.Common.{◌≡◌, ℕ, ◌+◌, ◌<◌, ◌≤◌, List, [], ◌∷◌, ◌++◌, length, map, refl, sym, ◌∙◌, ap, subst, arith, length-append, ◌-◌}
use Rattle.std.specs.Prelude.{flat_map, filter, nat_lt}
use Rattle.std.proofs.lemmas.List.{append-nil}
use Rattle.law_image.specs.Reading.{Head, Slot, Archived, Reclaimed}
use Rattle.law_image.specs.HeapPlans.{first_runs, marks_of}
use Rattle.law_log.specs.Chains.{commits_slot, later_heads, heads_in, base_slots, floor_slot, told_behind}
use Rattle.law_log.proofs.Telling.{later-any}
use Rattle.log_entries.specs.declared.entry.AnchorName.{AnchorName}
use Rattle.log_entries.specs.declared.entry.Entry.{Entry}
use Rattle.log_entries.specs.declared.entry.Entry.TheVariants.{Group, Archived as ArchivedEntry, Floor}
use Rattle.log_entries.specs.declared.entry.Entry.TheVariants as entries
use Rattle.law_log_layout.specs.HeapLog.{PlacedChain, chain_told, base_told, member_told, anchors_in}
use Rattle.log_recovery.specs.Rules.{LogState, no_log, MayComeBehind, state_behind, MayAllComeBehind}
use Rattle.log_recovery.specs.Anchored.{anchor_names, first_names}

some_slot : (heads : List Head) → 0 < length heads → 0 < length (commits_slot heads)
some_slot [] some = absurd (omega (arith, some))
some_slot (h ∷ hs) some = omega arith

some_behind : (xs ys : List Slot) → 0 < length ys → 0 < length (xs ++ ys)
some_behind xs ys some = omega (arith, length-append xs ys, some)

some_before : (xs ys : List Slot) → 0 < length xs → 0 < length (xs ++ ys)
some_before xs ys some = omega (arith, length-append xs ys, some)

-- something is told behind every chain
told_some : (mark : ℕ) (s : LogState) (e : Entry) → MayComeBehind mark s e → 0 < length (state_behind mark s e).told
told_some mark s (Group members) may =
    some_behind s.told (commits_slot (later_heads mark (heads_in (map member_told members))))
    (some_slot (later_heads mark (heads_in (map member_told members)))
    (later-any mark s.last (heads_in (map member_told members)) may.rule.2 (some_heads may.rule.0) may.rule.3).0)
  where
    some_heads : 0 < length (map member_told members) → 0 < length (heads_in (map member_told members))
    some_heads some = omega (arith, Rattle.law_image.proofs.GroupStep.length-map (λ m. m.head) (map member_told members), some)
told_some mark s (ArchivedEntry archive) may =
    some_behind (first_runs (length (marks_of s.told) - archive.runs) s.told) (Archived archive.upto ∷ []) (omega arith)
told_some mark s (Floor floor) may = some_behind s.told _ (omega arith)
told_some mark s (entries.Base base) may = some_behind s.told (base_slots (base_told [] base)) (omega arith)

-- so no base comes behind another chain
none_behind : (mark : ℕ) (s : LogState) (chains : List PlacedChain) → 0 < length s.told → MayAllComeBehind mark s chains → anchor_names chains ≡ []
none_behind mark s [] some may = refl
none_behind mark s (c ∷ chains) some may =
    ap (λ (l : List AnchorName). l ++ anchor_names chains) (none_in c.entry may.0)
    ∙ none_behind mark (state_behind mark s c.entry) chains (told_some mark s c.entry may.0) may.1
  where
    none_in : (e : Entry) → MayComeBehind mark s e → anchors_in e ≡ []
    none_in (Group members) is = refl
    none_in (ArchivedEntry archive) is = refl
    none_in (Floor floor) is = refl
    none_in (entries.Base base) is = absurd (let none = ap length is.rule.0 in omega (arith, some, none))

pub names_are_first : (mark : ℕ) (chains : List PlacedChain) → MayAllComeBehind mark no_log chains → anchor_names chains ≡ first_names chains
names_are_first mark [] may = refl
names_are_first mark (c ∷ chains) may =
    ap (λ (l : List AnchorName). anchors_in c.entry ++ l)
    (none_behind mark (state_behind mark no_log c.entry) chains (told_some mark no_log c.entry may.0) may.1)
    ∙ append-nil (anchors_in c.entry)

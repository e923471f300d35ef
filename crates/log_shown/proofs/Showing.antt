-- What is shown of the heap, check by check.
use Rattle.std.proofs.Common.{◌≡◌, ℕ, suc, ◌+◌, ◌<◌, ◌≤◌, Bool, true, false, if◌then◌else◌, List, [], ◌∷◌, ◌++◌, length, get_or, take, drop}
use Rattle.std.proofs.Common.{refl, sym, ◌∙◌, ap, subst, add-one, append_assoc, length-append, drop-cons}
use Rattle.std.specs.Prelude.{replicate}
use Rattle.std.specs.List.{AllByRecursion}
use Rattle.std.proofs.lemmas.List.{append-nil, drop_all, take_more}
use Rattle.std.proofs.lemmas.Grind.{flat_map-append}
use Rattle.disk.specs.declared.area.Area.{Area}
use Rattle.disk.specs.declared.area.Area.TheVariants.{Status, Heap, Archive}
use Rattle.recovery.specs.declared.fault.OpenFault.{OpenFault}
use Rattle.recovery.specs.declared.fault.OpenFault.TheVariants.{Damaged}
use Rattle.log_extents.specs.Chains.{IsNumberOf}
use Rattle.law_log_layout.specs.HeapLog.{PlacedChain, PlacedAnchors}
use Rattle.log_space.specs.Uses.{all_used, used_count}
use Rattle.log_space.proofs.Uses.{used_are_counted, used_in_turn}
use Rattle.log_recovery.specs.Chains.{numbers_of, uses_of}
use Rattle.log_recovery.specs.Rules.{mark_of}
use Rattle.log_recovery.specs.Anchored.{first_names, IsAnchorsFault}
use Rattle.log_recovery.specs.Members.{values_of, IsMembersFault}
use Rattle.log_recovery.specs.Opening.{KeepsRules, HoldsAnchors, FailsHeap, AtAnchors, AtMembers}
use Rattle.log_shown.specs.Shown.{chain_items, items_of, begins_at, items_before, shown_at, IsHeapShown}
use Rattle.log_shown.specs.declared.items.LogItem.{LogItem}
use Rattle.log_shown.specs.declared.reading.ShownEnd.{ShownEnd}
use Rattle.log_shown.specs.declared.reading.ShownEnd.TheVariants as ends
use Rattle.log_entries.specs.declared.entry.AnchorName.{AnchorName}
use Rattle.log_entries.specs.declared.entry.Entry.{Entry}
use Rattle.log_entries.specs.declared.entry.Entry.TheVariants as entries
use Rattle.law_log_layout.specs.HeapLog.{anchors_in}
use Rattle.log_recovery.specs.Anchored.{anchor_names, FailsAnchors, HasNoAnchors, IsFirstOf}
use Rattle.log_recovery.proofs.HeapRead.{none_right}
use Rattle.log_recovery.proofs.Named.{names_are_first}

-- a check fails, and these items are shown of it
abbrev pub IsShownAt : (most root : ℕ) (heap : List ℕ) (place : ℕ) → List LogItem → Type 0
IsShownAt most root heap place items = (fails : FailsHeap most root heap place) × (items ≡ shown_at most root heap place fails)

-- so it is shown of the heap
pub shown_damaged : (most root : ℕ) (heap : List ℕ) (place : ℕ) (items shown : List LogItem) (end : ShownEnd) → IsShownAt most root heap place shown
    → items ≡ shown → end ≡ ends.Damaged place → IsHeapShown most root heap items end
shown_damaged most root heap place items shown end is same end_is =
    subst (IsHeapShown most root heap items) (sym end_is) (is.0, same ∙ is.1)

-- the anchors that an entry names, which begin at this extent
named_in : (e : Entry) (p : ℕ) → IsFirstOf p (anchors_in e) → (name : AnchorName) × (anchors_in e ≡ name ∷ []) × (p ≡ name.first)
named_in (entries.Group members) p is = absurd is
named_in (entries.Archived archive) p is = absurd is
named_in (entries.Floor floor) p is = absurd is
named_in (entries.Base base) p is = (base.anchors, refl, is)

first_named : (cs : List PlacedChain) (p : ℕ) → IsFirstOf p (first_names cs) → (name : AnchorName) × (first_names cs ≡ name ∷ []) × (p ≡ name.first)
first_named [] p is = absurd is
first_named (c ∷ cs) p is = named_in c.entry p is

-- those fail that the first chain names
named_fail : (most root : ℕ) (heap : List ℕ) (chains : List PlacedChain) (next : ℕ) → KeepsRules most root heap chains next → (flags : List Bool)
    → flags ≡ uses_of most chains → (place : ℕ) → IsFirstOf place (first_names chains)
    → HasNoAnchors most (mark_of chains) heap flags (first_names chains)
    → FailsAnchors most (mark_of chains) heap (numbers_of chains) (anchor_names chains) place
named_fail most root heap chains next keeps flags flags_are place first none =
    let found = first_named chains place first in
    record {
      name = found.0;
      names_are = names_are_first (mark_of chains) chains keeps.rules ∙ found.1;
      none = none_right most root heap chains next keeps flags flags_are none;
      place_is = found.2;
    }

-- where the anchors fail the base is shown
anchors_shown : (most root : ℕ) (heap : List ℕ) (chains : List PlacedChain) (next : ℕ) (flags : List Bool) (area : Area) (place : ℕ)
    → KeepsRules most root heap chains next → flags ≡ uses_of most chains
    → IsAnchorsFault most (mark_of chains) heap flags (first_names chains) (Damaged area place) → IsShownAt most root heap place (items_of (take 1 chains))
anchors_shown most root heap chains next flags Status place keeps flags_are is = absurd is
anchors_shown most root heap chains next flags Heap place keeps flags_are is =
    (AtAnchors chains next keeps (named_fail most root heap chains next keeps flags flags_are place is.1 is.0), refl)
anchors_shown most root heap chains next flags Archive place keeps flags_are is = absurd is

pub anchors_shown_of : (most root : ℕ) (heap : List ℕ) (chains : List PlacedChain) (next : ℕ) (flags : List Bool) (fault : OpenFault) (area : Area) (place : ℕ)
    → fault ≡ Damaged area place → KeepsRules most root heap chains next → flags ≡ uses_of most chains
    → IsAnchorsFault most (mark_of chains) heap flags (first_names chains) fault → IsShownAt most root heap place (items_of (take 1 chains))
anchors_shown_of most root heap chains next flags fault area place is keeps flags_are here =
    anchors_shown most root heap chains next flags area place keeps flags_are
    (subst (λ (f : OpenFault). IsAnchorsFault most (mark_of chains) heap flags (first_names chains) f) is here)

-- where a record of a chain fails the chains in front of it are shown
members_shown : (most root : ℕ) (heap : List ℕ) (chains : List PlacedChain) (next : ℕ) (a : PlacedAnchors) (area : Area) (place : ℕ)
    → HoldsAnchors most root heap chains next a → IsMembersFault (mark_of chains) (values_of a.records) chains (Damaged area place)
    → IsShownAt most root heap place (items_before place (items_of chains))
members_shown most root heap chains next a Status place holds is = absurd is
members_shown most root heap chains next a Heap place holds is = (AtMembers chains next a holds is, refl)
members_shown most root heap chains next a Archive place holds is = absurd is

pub members_shown_of : (most root : ℕ) (heap : List ℕ) (chains : List PlacedChain) (next : ℕ) (a : PlacedAnchors) (fault : OpenFault) (area : Area) (place : ℕ)
    → fault ≡ Damaged area place → HoldsAnchors most root heap chains next a → IsMembersFault (mark_of chains) (values_of a.records) chains fault
    → IsShownAt most root heap place (items_before place (items_of chains))
members_shown_of most root heap chains next a fault area place is holds here =
    members_shown most root heap chains next a area place holds
    (subst (λ (f : OpenFault). IsMembersFault (mark_of chains) (values_of a.records) chains f) is here)

-- the extents in use are those of the chains and of the anchors
pub used_is_live : (most root : ℕ) (heap : List ℕ) (chains : List PlacedChain) (next : ℕ) (a : PlacedAnchors) (flags : List Bool) (used : ℕ)
    → HoldsAnchors most root heap chains next a → AllByRecursion (IsNumberOf most) (numbers_of chains ++ a.numbers)
    → flags ≡ all_used (uses_of most chains) a.numbers → used ≡ used_count flags → used ≡ length (numbers_of chains) + length a.numbers
used_is_live most root heap chains next a flags used holds range flags_are used_is =
    used_is
    ∙ ap used_count (flags_are ∙ sym (used_in_turn (replicate most false) (numbers_of chains) a.numbers))
    ∙ used_are_counted most (numbers_of chains ++ a.numbers) range holds.anchors.apart
    ∙ length-append (numbers_of chains) a.numbers

-- ---- what is said

-- one chain more
pub items_more : (chains : List PlacedChain) (i : ℕ) (c : PlacedChain) → i < length chains → c ≡ get_or chains i c
    → items_of (take (i + 1) chains) ≡ items_of (take i chains) ++ chain_items c
items_more chains i c lt is =
    ap items_of (take_more chains i c lt ∙ ap (λ (d : PlacedChain). take i chains ++ d ∷ []) (sym is))
    ∙ flat_map-append chain_items (take i chains) (c ∷ [])
    ∙ ap (λ (l : List LogItem). items_of (take i chains) ++ l) (append-nil (chain_items c))

-- up to this item no chain begins at the place
abbrev pub IsUpTo : ℕ → List LogItem → ℕ → Type 0
IsUpTo place items i = items_before place items ≡ take i items ++ items_before place (drop i items)

-- what stands there, by whether such a chain begins with the item
there : (place : ℕ) (items : List LogItem) (i : ℕ) (d : LogItem) (begins : Bool) → i < length items → begins_at place (get_or items i d) ≡ begins
    → IsUpTo place items i
    → items_before place items ≡ take i items ++ (if begins then [] else get_or items i d ∷ items_before place (drop (i + 1) items))
there place items i d begins lt is before =
    before
    ∙ ap (λ (l : List LogItem). take i items ++ items_before place l) (drop-cons items i d lt)
    ∙ ap (λ (b : Bool). take i items ++ (if b then [] else get_or items i d ∷ items_before place (drop (suc i) items))) is
    ∙ ap (λ (n : ℕ). take i items ++ (if begins then [] else get_or items i d ∷ items_before place (drop n items))) (sym (add-one i))

pub front_more : (place : ℕ) (items : List LogItem) (i : ℕ) (d : LogItem) → i < length items → begins_at place (get_or items i d) ≡ false
    → IsUpTo place items i → IsUpTo place items (i + 1)
front_more place items i d lt other before =
    there place items i d false lt other before
    ∙ sym (append_assoc (take i items) (get_or items i d ∷ []) (items_before place (drop (i + 1) items)))
    ∙ ap (λ (l : List LogItem). l ++ items_before place (drop (i + 1) items)) (sym (take_more items i d lt))

pub front_stops : (place : ℕ) (items : List LogItem) (i : ℕ) (d : LogItem) → i < length items → begins_at place (get_or items i d) ≡ true
    → IsUpTo place items i → take i items ≡ items_before place items
front_stops place items i d lt same before = sym (there place items i d true lt same before ∙ append-nil (take i items))

pub front_ends : (place : ℕ) (items : List LogItem) (i : ℕ) → length items ≤ i → IsUpTo place items i → take i items ≡ items_before place items
front_ends place items i past before =
    sym (before ∙ ap (λ (l : List LogItem). take i items ++ items_before place l) (drop_all i items past) ∙ append-nil (take i items))

-- The heap is read, or its end is not right.
use Rattle.std.proofs.Common.{◌≡◌, ℕ, ◌+◌, ◌*◌, ◌/◌, ◌<◌, ◌≤◌, ◌↔◌, max, Bool, List, [], ◌∷◌, ◌++◌, length, map, refl, sym, ◌∙◌, ap, subst, arith}
use Rattle.std.specs.Prelude.{flat_map, IsTrue, Option, None, Some, is_some, MatchOption}
use Rattle.std.proofs.lemmas.Bool.{false≢true}
use Rattle.std.specs.List.{AllByRecursion}
use Rattle.law_image.specs.Reading.{OldRecord}
use Rattle.log_extents.specs.Chains.{count_of, IsNumberOf}
use Rattle.law_log_layout.specs.HeapLog.{PlacedChain, PlacedAnchors}
use Rattle.law_log_sizes.specs.Sizes.{anchors_len, greatest, lens_behind}
use Rattle.log_space.specs.Uses.{all_used}
use Rattle.log_recovery.specs.Chains.{uses_of}
use Rattle.log_recovery.specs.Rules.{mark_of}
use Rattle.log_recovery.specs.Following.{IsEndOf}
use Rattle.log_recovery.specs.Anchored.{first_names, TakesAnchors}
use Rattle.log_recovery.specs.Members.{values_of, members_of_all, AreAllStored}
use Rattle.log_recovery.specs.Ends.{EndsRight, IsEnd, IsEndSeen, KeepsLogShare, counted_in}
use Rattle.log_recovery.specs.Opening.{KeepsRules, HoldsAnchors, HoldsMembers, HoldsHeap, FailsHeap, AtEnd}
use Rattle.log_recovery.specs.Read.{IsAnchoredLog}
use Rattle.log_recovery.specs.declared.opening.AnchoredLog.{AnchoredLog}
use Rattle.log_recovery.specs.declared.rules.LogEnd.{LogEnd}
use Rattle.log_recovery.proofs.HeapRead.{anchors_right, all_in_range}
use Rattle.log_recovery.proofs.Deciding.{end_decides}

-- ---- the shares

-- how many extents the log has, where the shares are kept
abbrev pub IsKept : ℕ → List PlacedChain → LogEnd → Option ℕ → Type 0
IsKept most chains end kept =
    MatchOption kept (¬ KeepsLogShare most chains end) (λ count. KeepsLogShare most chains end × (count ≡ length (counted_in chains)))

pub kept_decides : (most : ℕ) (chains : List PlacedChain) (end : LogEnd) (kept : Option ℕ) → IsKept most chains end kept
    → IsTrue (is_some kept) ↔ KeepsLogShare most chains end
kept_decides most chains end None is = (λ same. absurd (false≢true same), λ keeps. absurd (is keeps))
kept_decides most chains end (Some count) is = (λ same. is.0, λ keeps. refl)

pub kept_count : (most : ℕ) (chains : List PlacedChain) (end : LogEnd) (kept : Option ℕ) (count : ℕ) → IsKept most chains end kept → kept ≡ Some count
    → count ≡ length (counted_in chains)
kept_count most chains end kept count is same = (subst (IsKept most chains end) same is).1

-- ---- the anchors

-- the anchors that were read
pub anchors_of : (most root : ℕ) (heap : List ℕ) (read : AnchoredLog) → IsAnchoredLog most root heap read → PlacedAnchors
anchors_of most root heap read is = record { numbers = read.anchors.numbers.items; records = is.takes.records }

pub holds_anchors : (most root : ℕ) (heap : List ℕ) (read : AnchoredLog) (is : IsAnchoredLog most root heap read)
    → HoldsAnchors most root heap read.log.chains.items read.log.next (record { numbers = read.anchors.numbers.items; records = is.takes.records })
holds_anchors most root heap read is =
    anchors_right most root heap read.log.chains.items read.log.next is.keeps (uses_of most read.log.chains.items) refl read.log.space read.anchors is.takes

-- the greatest number of bytes of a state's anchors
abbrev pub greatest_of : List PlacedChain → List OldRecord → ℕ
greatest_of chains olds = greatest (anchors_len olds) (lens_behind (anchors_len olds) (values_of olds) (members_of_all (mark_of chains) chains))

-- the three answers say whether the log ends right
pub three_decide : (most root : ℕ) (heap : List ℕ) (read : AnchoredLog) (is : IsAnchoredLog most root heap read) → IsNumberOf most read.log.next
    → IsEndOf (mark_of read.log.chains.items) read.log.chains.items read.log.end → (shares ends fit : Bool)
    → (IsTrue shares ↔ KeepsLogShare most read.log.chains.items read.log.end)
    → (IsTrue ends ↔ IsEndSeen (length heap) read.log.next read.log.space read.log.end)
    → (IsTrue fit ↔ (count_of (greatest_of read.log.chains.items is.takes.records) ≤ (3 * most) / 16))
    → (IsTrue shares × IsTrue ends × IsTrue fit)
    ↔ EndsRight most heap read.log.chains.items read.log.next (record { numbers = read.anchors.numbers.items; records = is.takes.records })
three_decide most root heap read is number end_is shares ends fit s e f =
    let chains : List PlacedChain = read.log.chains.items in
    let range = all_in_range most root heap chains read.log.next is.keeps (uses_of most chains) refl read.log.space read.anchors is.takes in
    let both = end_decides most root heap chains read.log.next (record { numbers = read.anchors.numbers.items; records = is.takes.records }) read.log.end
    read.log.space (greatest_of chains is.takes.records) (holds_anchors most root heap read is) number range end_is is.takes.taken refl in (
      λ all. both.0 (record { seen = e.0 all.1; log = (s.0 all.0).0; anchors = f.0 all.2; base = (s.0 all.0).1 }),
      λ right. (let end = both.1 right in (s.1 (end.log, end.base), e.1 end.seen, f.1 end.anchors)),
    )

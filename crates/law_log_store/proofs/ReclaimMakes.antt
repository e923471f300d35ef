-- What a reclaim that begins makes is what its store is to have: the anchors, in both cases.
use Rattle.std.proofs.Common.{◌≡◌, ℕ, Bool, true, false, List, [], ◌∷◌, ◌++◌, map}
use Rattle.std.proofs.Common.{refl, arith, ap, sym, ◌∙◌}
use Rattle.std.specs.Prelude.{flat_map}
use Rattle.std.specs.List.{AllByRecursion}
use Rattle.std.proofs.lemmas.List.{map-append}
use Rattle.std.proofs.lemmas.List.Concat.{flat_map-cons}
use Rattle.disk.specs.Areas.{AreaState}
use Rattle.law_image.specs.Reading.{OldRecord}
use Rattle.law_layout.specs.Records.{old_bytes}
use Rattle.deltas.specs.Records.{old_record_of, spelling}
use Rattle.log_entries.specs.Spelling.{entry_bytes}
use Rattle.log_entries.specs.declared.entry.Entry.TheVariants as entries
use Rattle.log_extents.specs.Chains.{AreDistinct, IsNew, IsNumberOf, chain_of}
use Rattle.log_writer.specs.Turns.{extent_part, open_gate, Part}
use Rattle.log_writer.specs.Whole.{whole_parts}
use Rattle.law_log_layout.specs.HeapLog.{ArePlaced, HeapLog, IsPlaced, PlacedAnchors, anchor_extents, extents_of, live_numbers}
use Rattle.law_log_layout.specs.Reclaims.{AreFree, NewBase, new_parts, placed_base}
use Rattle.law_log_store.specs.Reclaiming.{AreAnchorsOf, AreWritten, no_anchors, numbers_of, written_of}
use Rattle.law_log_store.proofs.Flags.{distinct-join}

-- ---- bytes

-- the records of anchors as the heap has them
pub olds-spelled : (olds : List OldRecord) → flat_map spelling (map old_record_of olds) ≡ flat_map old_bytes olds
unfolding old_bytes
olds-spelled [] = refl
olds-spelled (o ∷ olds) =
    flat_map-cons spelling (old_record_of o) (map old_record_of olds)
    ∙ ap (λ (bytes : List ℕ). spelling (old_record_of o) ++ bytes) (olds-spelled olds)
    ∙ sym (flat_map-cons old_bytes o olds)

-- ---- all that is written

-- the anchors that it makes, or those that stand
abbrev pub anchors_by : Bool → HeapLog → List ℕ → List OldRecord → PlacedAnchors
anchors_by true l made olds = record { numbers = made; records = olds }
anchors_by false l made olds = l.anchors

-- what is to be written are its parts
pub parts-written : (m : Bool) (l : HeapLog) (made : List ℕ) (olds : List OldRecord) (n : NewBase) (bytes content : List ℕ)
    → n.anchors ≡ anchors_by m l made olds
    → (m ≡ false → made ≡ []) → (m ≡ true → bytes ≡ flat_map old_bytes olds) → content ≡ entry_bytes (entries.Base n.base)
    → whole_parts 0 0 made bytes ++ whole_parts open_gate n.link n.numbers content ≡ new_parts (written_of m n)
parts-written true l made olds n bytes content are none spelled same =
    let base = extents_of (placed_base n.numbers n.link n.base) in
    (λ i. map extent_part (chain_of 0 0 made (spelled refl i)) ++ map extent_part (chain_of open_gate n.link n.numbers (same i)))
    ∙ sym (map-append extent_part (chain_of 0 0 made (flat_map old_bytes olds)) base)
    ∙ ap (λ (a : PlacedAnchors). map extent_part (anchor_extents a ++ base)) (sym are)
parts-written false l made olds n bytes content are none spelled same =
    (λ i. map extent_part (chain_of 0 0 (none refl i) bytes) ++ map extent_part (chain_of open_gate n.link n.numbers (same i)))

-- ---- where they lie

pub anchors-stand : (m : Bool) (l : HeapLog) (made : List ℕ) (olds : List OldRecord) (n : NewBase) → n.anchors ≡ anchors_by m l made olds → AreAnchorsOf m l n
anchors-stand true l made olds n are = tt
anchors-stand false l made olds n are = are

-- the extents that are taken are those of what is written
pub numbers-written : (m : Bool) (l : HeapLog) (made : List ℕ) (olds : List OldRecord) (n : NewBase) → n.anchors ≡ anchors_by m l made olds
    → (m ≡ false → made ≡ []) → made ++ n.numbers ≡ numbers_of (written_of m n)
numbers-written true l made olds n are none = ap (λ (a : PlacedAnchors). a.numbers ++ n.numbers) (sym are)
numbers-written false l made olds n are none = ap (λ (ns : List ℕ). ns ++ n.numbers) (none refl)

none-placed : (most : ℕ) → ArePlaced most no_anchors
none-placed most = record { count = omega arith; in_range = tt; each = tt }

written-placed : (most : ℕ) (m : Bool) (n : NewBase) → ArePlaced most n.anchors → ArePlaced most (written_of m n).anchors
written-placed most true n placed = placed
written-placed most false n placed = none-placed most

written-base : (most : ℕ) (m : Bool) (n : NewBase) → IsPlaced most (placed_base n.numbers n.link n.base)
    → IsPlaced most (placed_base (written_of m n).numbers (written_of m n).link (written_of m n).base)
written-base most true n placed = placed
written-base most false n placed = placed

-- each of them is free of the log
pub written-free : (most : ℕ) (m : Bool) (l : HeapLog) (n : NewBase) → ArePlaced most n.anchors → IsPlaced most (placed_base n.numbers n.link n.base)
    → IsNumberOf most l.next → AreDistinct (l.next ∷ live_numbers l) → AreDistinct (numbers_of (written_of m n))
    → AllByRecursion (λ (k : ℕ). IsNumberOf most k × IsNew k (l.next ∷ live_numbers l)) (numbers_of (written_of m n)) → AreFree most l (written_of m n)
written-free most m l n anchors placed next live own fresh = record {
  anchors = written-placed most m n anchors;
  placed = written-base most m n placed;
  next = next;
  apart = distinct-join (l.next ∷ live_numbers l) (numbers_of (written_of m n)) live own (news (numbers_of (written_of m n)) fresh);
}
  where
    news : (ks : List ℕ) → AllByRecursion (λ (k : ℕ). IsNumberOf most k × IsNew k (l.next ∷ live_numbers l)) ks
        → AllByRecursion (λ (k : ℕ). IsNew k (l.next ∷ live_numbers l)) ks
    news [] all = tt
    news (k ∷ ks) all = ((all.0).1, news ks all.1)

-- nothing of it is written yet
pub none-written : (parts left : List Part) (heap : AreaState) → left ≡ parts → AreWritten parts left heap
none-written parts left heap same = record { done = []; are = same; held = tt }

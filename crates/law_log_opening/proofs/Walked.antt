-- The chains of a log that a heap holds are right, one behind the other, and where it ends no gate is open.
use Rattle.std.proofs.Common.{◌≡◌, ◌≢◌, ℕ, List, [], ◌∷◌, ◌++◌, map, refl, sym, subst}
use Rattle.std.specs.Prelude.{flat_map}
use Rattle.std.specs.List.{AllByRecursion}
use Rattle.std.proofs.lemmas.List.{append_assoc, map-append}
use Rattle.disk.specs.Parts.{HoldsPart}
use Rattle.deltas.specs.Extents.{extent_start}
use Rattle.law_layout.proofs.Lists.{all_of_front, all_of_back}
use Rattle.log_extents.specs.Chains.{AreDistinct}
use Rattle.log_writer.specs.Turns.{open_gate, extent_part, Part}
use Rattle.law_log_layout.specs.Turns.{HoldsAll, IsClosed}
use Rattle.law_log_layout.specs.HeapLog.{PlacedChain, extents_of, IsPlaced, AreChained}
use Rattle.law_log_layout.proofs.OneLog.{part-same}
use Rattle.law_log_layout.proofs.Places.{AreNew, distinct-parts}
use Rattle.log_recovery.specs.Chains.{HasOpenGate, numbers_of, AreWalked}
use Rattle.log_recovery.proofs.Walking.{all_joined}

-- the parts of a heap in two lists
pub held-front : (heap : List ℕ) (ps qs : List Part) → HoldsAll (ps ++ qs) heap → HoldsAll ps heap
held-front heap ps qs held = all_of_front (λ (p : Part). HoldsPart p.place p.bytes heap) ps qs held

pub held-back : (heap : List ℕ) (ps qs : List Part) → HoldsAll (ps ++ qs) heap → HoldsAll qs heap
held-back heap ps qs held = all_of_back (λ (p : Part). HoldsPart p.place p.bytes heap) ps qs held

-- distinct numbers in two lists, of which each number of the first is none of the second
pub distinct-joined : (xs ys : List ℕ) → AreDistinct xs → AreDistinct ys → AreNew xs ys → AreDistinct (xs ++ ys)
distinct-joined [] ys first second new = second
distinct-joined (x ∷ xs) ys first second new =
    (all_joined (λ (m : ℕ). m ≢ x) xs ys first.0 new.0, distinct-joined xs ys first.1 second new.1)

-- distinct numbers stay so in the other order
pub distinct-turned : (xs ys : List ℕ) → AreDistinct (xs ++ ys) → AreDistinct (ys ++ xs)
distinct-turned xs ys all = let parts = distinct-parts xs ys all in distinct-joined ys xs parts.back parts.front parts.new

pub walked : (most : ℕ) (heap taken : List ℕ) (number : ℕ) (chains : List PlacedChain) (end : ℕ) → AllByRecursion (IsPlaced most) chains
    → AreChained number chains end → AreDistinct (taken ++ numbers_of chains) → HoldsAll (map extent_part (flat_map extents_of chains)) heap
    → AreWalked most heap taken number chains end
walked most heap taken number [] end placed chained apart held = chained
walked most heap taken number (c ∷ chains) end placed chained apart held =
    let all : AreDistinct ((taken ++ c.numbers) ++ numbers_of chains) = subst AreDistinct (sym (append_assoc taken c.numbers (numbers_of chains))) apart in
    let parts = subst (λ (ps : List Part). HoldsAll ps heap) (map-append extent_part (extents_of c) (flat_map extents_of chains)) held in
    let rest = map extent_part (flat_map extents_of chains) in (
      record {
        first = chained.0;
        placed = placed.0;
        apart = (distinct-parts (taken ++ c.numbers) (numbers_of chains) all).front;
        held = held-front heap (map extent_part (extents_of c)) rest parts;
      },
      walked most heap (taken ++ c.numbers) c.link chains end placed.1 chained.1 all (held-back heap (map extent_part (extents_of c)) rest parts),
    )

pub closed-ends : (heap : List ℕ) (next : ℕ) → IsClosed (extent_start next) heap → ¬ HasOpenGate heap next
closed-ends heap next closed = λ opened.
    let same : closed.gate ∷ [] ≡ open_gate ∷ [] = part-same (extent_start next) (closed.gate ∷ []) (open_gate ∷ []) heap refl closed.held opened in
    closed.closed (cc)

-- A heap holds one log at most from a root on.
use Rattle.std.proofs.Common.{◌≡◌, ℕ, suc, ◌+◌, ◌-◌, ◌^◌, ◌<◌, ◌≤◌, List, [], ◌∷◌, length, map, take, drop, refl, sym, ◌∙◌, ap, subst, arith}
use Rattle.std.specs.Prelude.{flat_map, slice_range}
use Rattle.std.specs.List.{AllByRecursion}
use Rattle.std.proofs.lemmas.List.{length-take, nil_from_length, map-append}
use Rattle.disk.specs.Parts.{HoldsPart}
use Rattle.law_image.specs.Reading.{Reading}
use Rattle.law_layout.specs.Records.{old_bytes}
use Rattle.law_layout.proofs.Lists.{all_of_front, all_of_back}
use Rattle.law_layout.proofs.OpensAsOne.{olds_once}
use Rattle.deltas.specs.Extents.{extent_start}
use Rattle.log_extents.specs.Extents.{LinkedExtent, linked_bytes}
use Rattle.log_extents.specs.Chains.{count_of, first_or, chain_to, chain_of, IsNumberOf, AreDistinct}
use Rattle.log_extents.specs.Laws.{IsSameContent}
use Rattle.log_extents.proofs.Bytes.{same_extent}
use Rattle.log_extents.proofs.Numbers.{AreSmall, small_numbers}
use Rattle.log_extents.proofs.Agreeing.{extent_in, small_in, one_chain}
use Rattle.log_entries.specs.declared.entry.AnchorName.{AnchorName}
use Rattle.log_entries.specs.Spelling.{entry_bytes}
use Rattle.log_entries.proofs.Entries.{one_entry}
use Rattle.log_writer.specs.Turns.{open_gate, extent_part, Part}
use Rattle.law_log_layout.specs.Turns.{HoldsAll, IsClosed}
use Rattle.law_log_layout.specs.HeapLog.{PlacedChain, PlacedAnchors, HeapLog, extents_of, anchor_extents, IsPlaced, ArePlaced, AreChained, AreNamed, anchors_in}
use Rattle.law_log_layout.specs.HeapLog.{IsLogOf, HoldsLog}
use Rattle.law_log_layout.specs.OneLog.{IsSameInHeap}
use Rattle.law_log_layout.proofs.Places.{linked-length, distinct-parts, ArePart}
use Rattle.law_log_layout.proofs.Joining.{opened-bytes}

-- ---- parts of one place

pub part-same : (place : ℕ) (a b heap : List ℕ) → length a ≡ length b → HoldsPart place a heap → HoldsPart place b heap → a ≡ b
part-same place a b heap same is_a is_b =
    sym is_a.is ∙ ap (λ (n : ℕ). slice_range heap place (place + n)) same ∙ is_b.is

-- ---- one chain

fits : (content : List ℕ) → length (take 8168 content) ≤ 8168
fits content = omega (arith, length-take 8168 content)

pub walk : (most : ℕ) (heap : List ℕ) (ns ms : List ℕ) (g k h j : ℕ) (xs ys : List ℕ) → most < 2 ^ 32
    → AllByRecursion (IsNumberOf most) ns → AllByRecursion (IsNumberOf most) ms → k < 2 ^ 32 → j < 2 ^ 32 → first_or 0 ns ≡ first_or 0 ms
    → HoldsAll (map extent_part (chain_to 0 g k ns xs)) heap → HoldsAll (map extent_part (chain_to 0 h j ms ys)) heap
    → map linked_bytes (chain_to 0 g k ns xs) ≡ map linked_bytes (chain_to 0 h j ms ys)
walk most heap [] [] g k h j xs ys few are_n are_m small_k small_j first held_n held_m = refl
walk most heap [] (m ∷ ms) g k h j xs ys few are_n are_m small_k small_j first held_n held_m = absurd (omega (arith, first, are_m.0.0))
walk most heap (n ∷ ns) [] g k h j xs ys few are_n are_m small_k small_j first held_n held_m = absurd (omega (arith, first, are_n.0.0))
walk most heap (n ∷ ns) (m ∷ ms) g k h j xs ys few are_n are_m small_k small_j first held_n held_m =
    let e : LinkedExtent = extent_in 0 g k n ns xs in
    let f : LinkedExtent = extent_in 0 h j m ms ys in
    let small_ns : AreSmall (n ∷ ns) = small_numbers most (n ∷ ns) few are_n in
    let small_ms : AreSmall (m ∷ ms) = small_numbers most (m ∷ ms) few are_m in
    let other : HoldsPart (extent_start n) (linked_bytes f) heap = subst (λ (x : ℕ). HoldsPart (extent_start x) (linked_bytes f) heap) (sym first) held_m.0 in
    let heads : linked_bytes e ≡ linked_bytes f =
    part-same (extent_start n) (linked_bytes e) (linked_bytes f) heap (linked-length e (fits xs) ∙ sym (linked-length f (fits ys))) held_n.0 other in
    let one : e ≡ f = same_extent e f (small_in 0 g k n ns xs (omega arith) small_k small_ns) (small_in 0 h j m ms ys (omega arith) small_j small_ms) heads in
    let tails =
    walk most heap ns ms 0 0 0 0 (drop 8168 xs) (drop 8168 ys) few are_n.1 are_m.1 (omega arith) (omega arith) (ap (λ (x : LinkedExtent). x.next) one)
    held_n.1 held_m.1 in
    λ i. heads i ∷ tails i

chain-same : (most : ℕ) (heap : List ℕ) (c d : PlacedChain) → most < 2 ^ 32 → IsPlaced most c → IsPlaced most d → AreDistinct c.numbers → AreDistinct d.numbers
    → first_or 0 c.numbers ≡ first_or 0 d.numbers → HoldsAll (map extent_part (extents_of c)) heap → HoldsAll (map extent_part (extents_of d)) heap → c ≡ d
chain-same most heap c d few is_c is_d distinct_c distinct_d first held_c held_d =
    let a = entry_bytes c.entry in
    let b = entry_bytes d.entry in
    let link_c = is_c.link in
    let link_d = is_d.link in
    let images = walk most heap c.numbers d.numbers open_gate c.link open_gate d.link a b few is_c.in_range is_d.in_range (omega (arith, few, link_c.1))
    (omega (arith, few, link_d.1)) first held_c held_d in
    let same : IsSameContent c.numbers d.numbers open_gate open_gate c.link d.link a b =
    one_chain most open_gate open_gate c.link d.link c.numbers d.numbers a b (map linked_bytes (extents_of c)) few link_c.1 link_d.1
    (record { some = omega (arith, is_c.some, is_c.count); count = is_c.count; in_range = is_c.in_range; distinct = distinct_c; images_are = refl })
    (record { some = omega (arith, is_d.some, is_d.count); count = is_d.count; in_range = is_d.in_range; distinct = distinct_d; images_are = images }) in
    let entry : c.entry ≡ d.entry = one_entry most c.entry d.entry is_c.entry is_d.entry same.content_is in
    λ i. record { numbers = same.numbers_are i; link = same.link_is i; entry = entry i }

-- ---- the chains

take-one : (n : ℕ) (xs : List ℕ) → take 1 (take (suc n) xs) ≡ take 1 xs
take-one n [] = refl
take-one n (x ∷ xs) = refl

-- a head whose gate is open is not where a log ends
open-head : (most : ℕ) (heap : List ℕ) (c : PlacedChain) → IsPlaced most c → HoldsAll (map extent_part (extents_of c)) heap
    → IsClosed (extent_start (first_or 0 c.numbers)) heap → ⊥
open-head most heap c is held closed = by-numbers c.numbers is.some held closed
  where
    by-numbers : (numbers : List ℕ) → 0 < length numbers → HoldsAll (map extent_part (chain_of open_gate c.link numbers (entry_bytes c.entry))) heap
        → IsClosed (extent_start (first_or 0 numbers)) heap → ⊥
    by-numbers [] some held closed = omega (arith, some)
    by-numbers (n ∷ ns) some held closed =
        let e : LinkedExtent = extent_in 0 open_gate c.link n ns (entry_bytes c.entry) in
        let p = extent_start n in
        let all : p + length (linked_bytes e) - p ≡ suc 8191 = omega (arith, linked-length e (fits (entry_bytes c.entry))) in
        let one : p + 1 - p ≡ 1 = omega arith in
        let opened : take 1 (drop p heap) ≡ open_gate ∷ [] =
        sym (take-one 8191 (drop p heap)) ∙ sym (ap (λ (k : ℕ). take 1 (take k (drop p heap))) all) ∙ ap (take 1) held.0.is
        ∙ ap (take 1) (sym (opened-bytes e)) in
        let shut : take 1 (drop p heap) ≡ closed.gate ∷ [] = sym (ap (λ (k : ℕ). take k (drop p heap)) one) ∙ closed.held.is in
        let same : closed.gate ∷ [] ≡ open_gate ∷ [] = sym shut ∙ opened in
        closed.closed (cc)

chains-same : (most : ℕ) (heap : List ℕ) (cs ds : List PlacedChain) (root next end : ℕ) → most < 2 ^ 32
    → AllByRecursion (IsPlaced most) cs → AllByRecursion (IsPlaced most) ds → AreChained root cs next → AreChained root ds end
    → AreDistinct (flat_map (λ (c : PlacedChain). c.numbers) cs) → AreDistinct (flat_map (λ (c : PlacedChain). c.numbers) ds)
    → HoldsAll (map extent_part (flat_map extents_of cs)) heap → HoldsAll (map extent_part (flat_map extents_of ds)) heap
    → IsClosed (extent_start next) heap → IsClosed (extent_start end) heap → (cs ≡ ds) × (next ≡ end)
chains-same most heap [] [] root next end few are_c are_d chained_c chained_d distinct_c distinct_d held_c held_d closed_c closed_d =
    (refl, sym chained_c ∙ chained_d)
chains-same most heap [] (d ∷ ds) root next end few are_c are_d chained_c chained_d distinct_c distinct_d held_c held_d closed_c closed_d =
    let mine = all_of_front (λ (p : Part). HoldsPart p.place p.bytes heap) (map extent_part (extents_of d)) (map extent_part (flat_map extents_of ds))
    (subst (λ (ps : List Part). HoldsAll ps heap) (map-append extent_part (extents_of d) (flat_map extents_of ds)) held_d) in
    absurd (open-head most heap d are_d.0 mine (subst (λ (n : ℕ). IsClosed (extent_start n) heap) (sym (chained_d.0 ∙ chained_c)) closed_c))
chains-same most heap (c ∷ cs) [] root next end few are_c are_d chained_c chained_d distinct_c distinct_d held_c held_d closed_c closed_d =
    let mine = all_of_front (λ (p : Part). HoldsPart p.place p.bytes heap) (map extent_part (extents_of c)) (map extent_part (flat_map extents_of cs))
    (subst (λ (ps : List Part). HoldsAll ps heap) (map-append extent_part (extents_of c) (flat_map extents_of cs)) held_c) in
    absurd (open-head most heap c are_c.0 mine (subst (λ (n : ℕ). IsClosed (extent_start n) heap) (sym (chained_c.0 ∙ chained_d)) closed_d))
chains-same most heap (c ∷ cs) (d ∷ ds) root next end few are_c are_d chained_c chained_d distinct_c distinct_d held_c held_d closed_c closed_d =
    let P = λ (p : Part). HoldsPart p.place p.bytes heap in
    let all_c = subst (λ (ps : List Part). HoldsAll ps heap) (map-append extent_part (extents_of c) (flat_map extents_of cs)) held_c in
    let all_d = subst (λ (ps : List Part). HoldsAll ps heap) (map-append extent_part (extents_of d) (flat_map extents_of ds)) held_d in
    let part_c : ArePart c.numbers (flat_map (λ (x : PlacedChain). x.numbers) cs) =
    distinct-parts c.numbers (flat_map (λ (x : PlacedChain). x.numbers) cs) distinct_c in
    let part_d : ArePart d.numbers (flat_map (λ (x : PlacedChain). x.numbers) ds) =
    distinct-parts d.numbers (flat_map (λ (x : PlacedChain). x.numbers) ds) distinct_d in
    let one : c ≡ d = chain-same most heap c d few are_c.0 are_d.0 part_c.front part_d.front (chained_c.0 ∙ sym chained_d.0)
    (all_of_front (λ (p : Part). HoldsPart p.place p.bytes heap) (map extent_part (extents_of c)) (map extent_part (flat_map extents_of cs)) all_c)
    (all_of_front (λ (p : Part). HoldsPart p.place p.bytes heap) (map extent_part (extents_of d)) (map extent_part (flat_map extents_of ds)) all_d) in
    let rest = chains-same most heap cs ds c.link next end few are_c.1 are_d.1 chained_c.1
    (subst (λ (x : PlacedChain). AreChained x.link ds end) (sym one) chained_d.1) part_c.back part_d.back
    (all_of_back (λ (p : Part). HoldsPart p.place p.bytes heap) (map extent_part (extents_of c)) (map extent_part (flat_map extents_of cs)) all_c)
    (all_of_back (λ (p : Part). HoldsPart p.place p.bytes heap) (map extent_part (extents_of d)) (map extent_part (flat_map extents_of ds)) all_d)
    closed_c closed_d in
    (λ i. one i ∷ rest.0 i, rest.1)

-- ---- the anchors

content-same : (most : ℕ) (heap : List ℕ) (ns ms xs ys : List ℕ) → most < 2 ^ 32
    → AllByRecursion (IsNumberOf most) ns → AllByRecursion (IsNumberOf most) ms → AreDistinct ns → AreDistinct ms
    → length ns ≡ count_of (length xs) → length ms ≡ count_of (length ys) → first_or 0 ns ≡ first_or 0 ms
    → HoldsAll (map extent_part (chain_of 0 0 ns xs)) heap → HoldsAll (map extent_part (chain_of 0 0 ms ys)) heap → (ns ≡ ms) × (xs ≡ ys)
content-same most heap [] [] xs ys few are_n are_m distinct_n distinct_m count_n count_m first held_n held_m =
    (refl, nil_from_length xs (omega (arith, count_n)) ∙ sym (nil_from_length ys (omega (arith, count_m))))
content-same most heap [] (m ∷ ms) xs ys few are_n are_m distinct_n distinct_m count_n count_m first held_n held_m = absurd (omega (arith, first, are_m.0.0))
content-same most heap (n ∷ ns) [] xs ys few are_n are_m distinct_n distinct_m count_n count_m first held_n held_m = absurd (omega (arith, first, are_n.0.0))
content-same most heap (n ∷ ns) (m ∷ ms) xs ys few are_n are_m distinct_n distinct_m count_n count_m first held_n held_m =
    let images = walk most heap (n ∷ ns) (m ∷ ms) 0 0 0 0 xs ys few are_n are_m (omega arith) (omega arith) first held_n held_m in
    let same : IsSameContent (n ∷ ns) (m ∷ ms) 0 0 0 0 xs ys =
    one_chain most 0 0 0 0 (n ∷ ns) (m ∷ ms) xs ys (map linked_bytes (chain_of 0 0 (n ∷ ns) xs)) few (omega arith) (omega arith)
    (record { some = omega (arith, count_n); count = count_n; in_range = are_n; distinct = distinct_n; images_are = refl })
    (record { some = omega (arith, count_m); count = count_m; in_range = are_m; distinct = distinct_m; images_are = images }) in
    (same.numbers_are, same.content_is)

anchors-same : (most : ℕ) (heap : List ℕ) (names : List AnchorName) (a b : PlacedAnchors) → most < 2 ^ 32 → ArePlaced most a → ArePlaced most b
    → AreDistinct a.numbers → AreDistinct b.numbers → AreNamed names a → AreNamed names b
    → HoldsAll (map extent_part (anchor_extents a)) heap → HoldsAll (map extent_part (anchor_extents b)) heap → a ≡ b
anchors-same most heap [] a b few is_a is_b distinct_a distinct_b named_a named_b held_a held_b =
    λ i. record { numbers = (named_a.0 ∙ sym named_b.0) i; records = (named_a.1 ∙ sym named_b.1) i }
anchors-same most heap (name ∷ names) a b few is_a is_b distinct_a distinct_b named_a named_b held_a held_b =
    let same = content-same most heap a.numbers b.numbers (flat_map old_bytes a.records) (flat_map old_bytes b.records) few is_a.in_range is_b.in_range
    distinct_a distinct_b is_a.count is_b.count (named_a.0 ∙ sym named_b.0) held_a held_b in
    let records = olds_once a.records b.records is_a.each is_b.each same.1 in
    λ i. record { numbers = same.0 i; records = records i }

-- ---- the log

pub one-log : (most root : ℕ) (l m : HeapLog) (r s : Reading) (heap archive other : List ℕ) → most < 2 ^ 32
    → IsLogOf most root l r → IsLogOf most root m s → HoldsLog l heap archive → HoldsLog m heap other → IsSameInHeap l m
one-log most root l m r s heap archive other few is_l is_m holds_l holds_m =
    let Held = λ (p : Part). HoldsPart p.place p.bytes heap in
    let numbers = λ (c : PlacedChain). c.numbers in
    let old_l = map extent_part (anchor_extents l.anchors) in
    let old_m = map extent_part (anchor_extents m.anchors) in
    let new_l = map extent_part (flat_map extents_of l.chains) in
    let new_m = map extent_part (flat_map extents_of m.chains) in
    let all_l = subst (λ (ps : List Part). HoldsAll ps heap) (map-append extent_part (anchor_extents l.anchors) (flat_map extents_of l.chains)) holds_l.parts in
    let all_m = subst (λ (ps : List Part). HoldsAll ps heap) (map-append extent_part (anchor_extents m.anchors) (flat_map extents_of m.chains)) holds_m.parts in
    let parts_l : ArePart l.anchors.numbers (flat_map numbers l.chains) = distinct-parts l.anchors.numbers (flat_map numbers l.chains) (is_l.apart).1 in
    let parts_m : ArePart m.anchors.numbers (flat_map numbers m.chains) = distinct-parts m.anchors.numbers (flat_map numbers m.chains) (is_m.apart).1 in
    let chains =
    chains-same most heap l.chains m.chains root l.next m.next few is_l.placed is_m.placed is_l.chained is_m.chained parts_l.back parts_m.back
    (all_of_back Held old_l new_l all_l) (all_of_back Held old_m new_m all_m) holds_l.ends holds_m.ends in
    let names_m =
    subst (λ (cs : List PlacedChain). AreNamed (flat_map (λ (c : PlacedChain). anchors_in c.entry) cs) m.anchors) (sym chains.0) is_m.anchors_named in
    record {
      chains = chains.0;
      next = chains.1;
      anchors = anchors-same most heap (flat_map (λ (c : PlacedChain). anchors_in c.entry) l.chains) l.anchors m.anchors few is_l.anchors is_m.anchors
          parts_l.front parts_m.front is_l.anchors_named names_m (all_of_front Held old_l new_l all_l) (all_of_front Held old_m new_m all_m);
    }

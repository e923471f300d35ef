-- A chain that comes behind the log: what is written of it is free, and once its gate is open the heap holds the log with it.
use Rattle.std.proofs.Common.{◌≡◌, ◌≢◌, ℕ, ◌+◌, ◌-◌, ◌<◌, List, [], ◌∷◌, ◌++◌, length, map, take, drop, refl, sym, ap, subst, ◌∙◌, arith, append_assoc}
use Rattle.std.specs.Prelude.{flat_map}
use Rattle.std.specs.List.{AllByRecursion}
use Rattle.std.proofs.lemmas.List.{append-nil, map-append, drop-drop}
use Rattle.std.proofs.Math.Seq.{take-add}
use Rattle.std.proofs.lemmas.Grind.{flat_map-append}
use Rattle.history.proofs.Filters.{AllByRecursion-append}
use Rattle.deltas.specs.Extents.{extent_start}
use Rattle.disk.specs.Parts.{HoldsPart}
use Rattle.log_extents.specs.Extents.{LinkedExtent, linked_bytes}
use Rattle.log_extents.specs.Chains.{first_or, chain_to, chain_of, IsNumberOf, IsNew, AreDistinct}
use Rattle.log_entries.specs.Spelling.{entry_bytes}
use Rattle.law_log_layout.specs.Turns.{HoldsAll, gate_part, IsClosed, ArePartsApart, AreApartFrom, IsFree, HoldsNew}
use Rattle.law_log_layout.specs.HeapLog.{PlacedChain, HeapLog, extents_of, anchor_extents, heap_parts, live_numbers, IsPlaced}
use Rattle.law_log_layout.specs.HeapLog.{ArePlaced, with_chain, turn_of, MayJoin}
use Rattle.law_layout.specs.Records.{old_bytes}
use Rattle.law_log_layout.proofs.Places.{new-front, new-back, none-new, within-apart, AreWithin, within-append, one-apart, apart-one, all-apart}
use Rattle.law_log_layout.proofs.Places.{distinct-parts, in-turn, chain-within, written-within, gate-within, head-apart}
use Rattle.log_writer.specs.Turns.{open_gate, Part}
use Rattle.log_writer.specs.Turns.{extent_part, written_parts}

-- ---- a byte and what follows it

pub joined-part : (place gate : ℕ) (rest content : List ℕ) → HoldsPart place (gate ∷ []) content → HoldsPart (place + 1) rest content
    → HoldsPart place (gate ∷ rest) content
joined-part place gate rest content first second =
    let n = length rest in
    let one : place + 1 - place ≡ 1 = omega arith in
    let many : place + 1 + n - (place + 1) ≡ n = omega arith in
    let all : place + length (gate ∷ rest) - place ≡ 1 + n = omega arith in
    let here : take 1 (drop place content) ≡ gate ∷ [] = sym (ap (λ (k : ℕ). take k (drop place content)) one) ∙ first.is in
    let there : take n (drop (place + 1) content) ≡ rest = sym (ap (λ (k : ℕ). take k (drop (place + 1) content)) many) ∙ second.is in
    record {
      inside = omega (arith, second.inside);
      is =
          ap (λ (k : ℕ). take k (drop place content)) all
          ∙ take-add 1 n (drop place content)
          ∙ ap (λ l. take 1 (drop place content) ++ take n l) (drop-drop 1 place content)
          ∙ ap (λ l. l ++ take n (drop (place + 1) content)) here
          ∙ ap (λ l. (gate ∷ []) ++ l) there;
    }

-- ---- where the log's parts lie

chains-within : (most : ℕ) (chains : List PlacedChain) → AllByRecursion (IsPlaced most) chains
    → AreWithin (flat_map (λ (c : PlacedChain). c.numbers) chains) (map extent_part (flat_map extents_of chains))
chains-within most [] are = tt
chains-within most (c ∷ chains) are =
    subst (AreWithin (c.numbers ++ flat_map (λ (c : PlacedChain). c.numbers) chains)) (sym (map-append extent_part (extents_of c) (flat_map extents_of chains)))
    (within-append c.numbers (flat_map (λ (c : PlacedChain). c.numbers) chains) (map extent_part (extents_of c)) (map extent_part (flat_map extents_of chains))
    (chain-within most 0 open_gate c.link c.numbers (entry_bytes c.entry) (let p = are.0 in p.in_range)) (chains-within most chains are.1))

pub log-within : (most : ℕ) (l : HeapLog) → AllByRecursion (IsPlaced most) l.chains → ArePlaced most l.anchors → AreWithin (live_numbers l) (heap_parts l)
log-within most l placed anchors =
    subst (AreWithin (live_numbers l)) (sym (map-append extent_part (anchor_extents l.anchors) (flat_map extents_of l.chains)))
    (within-append l.anchors.numbers (flat_map (λ (c : PlacedChain). c.numbers) l.chains) (map extent_part (anchor_extents l.anchors))
    (map extent_part (flat_map extents_of l.chains))
    (chain-within most 0 0 0 l.anchors.numbers (flat_map old_bytes l.anchors.records) anchors.in_range) (chains-within most l.chains placed))

-- ---- the chain is free

own-gate : (gate link next : ℕ) (numbers content : List ℕ) (most : ℕ) → AllByRecursion (IsNumberOf most) numbers → AreDistinct numbers → first_or 0 numbers
    ≡ next → 0 < length numbers
    → AreApartFrom (gate_part (extent_start next) 0) (written_parts (chain_of gate link numbers content))
    × AllByRecursion (λ (p : Part). ArePartsApart (gate_part (extent_start next) 0) p) (written_parts (chain_of gate link numbers content))
own-gate gate link next [] content most are distinct head some = absurd (omega (arith, some))
own-gate gate link next (n ∷ ns) content most are distinct head some =
    let e : LinkedExtent = record { gate = gate; number = n; next = first_or 0 ns; link = link; body = take 8168 content } in
    let first = head-apart e 0 in
    let within = chain-within most 0 0 0 ns (drop 8168 content) are.1 in
    subst (λ (m : ℕ). AreApartFrom (gate_part (extent_start m) 0) (written_parts (chain_of gate link (n ∷ ns) content))
    × AllByRecursion (λ (p : Part). ArePartsApart (gate_part (extent_start m) 0) p) (written_parts (chain_of gate link (n ∷ ns) content))) head (
      (
        first.0,
        one-apart n (gate_part (extent_start n) 0) ns (map extent_part (chain_to 0 0 0 ns (drop 8168 content))) (gate-within n 0 are.0.0) within
            distinct.0,
      ),
      (
        first.1,
        apart-one n (gate_part (extent_start n) 0) ns (map extent_part (chain_to 0 0 0 ns (drop 8168 content))) (gate-within n 0 are.0.0) within
            distinct.0,
      ),
    )

pub all-new : (P : ℕ → Type 0) (numbers : List ℕ) (next : ℕ) → AllByRecursion P numbers → first_or 0 numbers ≡ next → 0 < length numbers → P next
all-new P [] next all head some = absurd (omega (arith, some))
all-new P (n ∷ ns) next all head some = subst P head all.0

pub chain-free : (most : ℕ) (l : HeapLog) (c : PlacedChain) → AllByRecursion (IsPlaced most) l.chains → ArePlaced most l.anchors → MayJoin most l c
    → IsFree (heap_parts l) (turn_of l.next c)
chain-free most l c placed anchors joins =
    let is = joins.placed in
    let log = log-within most l placed anchors in
    let own = written-within most open_gate c.link c.numbers (entry_bytes c.entry) is.in_range in
    let parts = distinct-parts (live_numbers l) c.numbers joins.apart.1 in
    let link-live : IsNew c.link (live_numbers l) = new-front c.link (live_numbers l) c.numbers joins.apart.0 in
    let link-own : IsNew c.link c.numbers = new-back c.link (live_numbers l) c.numbers joins.apart.0 in
    let next-live : IsNew l.next (live_numbers l) = all-new (λ (n : ℕ). IsNew n (live_numbers l)) c.numbers l.next parts.new joins.head is.some in
    let next-low : IsNumberOf most l.next = all-new (IsNumberOf most) c.numbers l.next is.in_range joins.head is.some in
    let next-link : l.next ≢ c.link = all-new (λ (n : ℕ). n ≢ c.link) c.numbers l.next link-own joins.head is.some in
    let gate = own-gate open_gate c.link l.next c.numbers (entry_bytes c.entry) most is.in_range parts.back joins.head is.some in
    let link-low = is.link in
    record {
      live = all-apart (live_numbers l) (heap_parts l) c.numbers (written_parts (extents_of c)) log own parts.new;
      each = in-turn [] [] c.numbers (written_parts (extents_of c)) tt own parts.back (none-new c.numbers);
      gate_live = one-apart l.next (gate_part (extent_start l.next) 0) (live_numbers l) (heap_parts l) (gate-within l.next 0 next-low.0) log next-live;
      gate_parts = gate.0;
      parts_gate = gate.1;
      closes_live = one-apart c.link (gate_part (extent_start c.link) 0) (live_numbers l) (heap_parts l) (gate-within c.link 0 link-low.0) log link-live;
      closes_parts =
          one-apart c.link (gate_part (extent_start c.link) 0) c.numbers (written_parts (extents_of c)) (gate-within c.link 0 link-low.0) own link-own;
      closes_gate =
          within-apart l.next c.link (gate_part (extent_start l.next) 0) (gate_part (extent_start c.link) 0) (gate-within l.next 0 next-low.0)
          (gate-within c.link 0 link-low.0) next-link;
      gate_closes =
          within-apart c.link l.next (gate_part (extent_start c.link) 0) (gate_part (extent_start l.next) 0) (gate-within c.link 0 link-low.0)
          (gate-within l.next 0 next-low.0) (λ e. next-link (sym e));
    }

-- ---- the log with it

pub opened-bytes : (e : LinkedExtent) → open_gate ∷ drop 1 (linked_bytes (record e { gate = open_gate })) ≡ linked_bytes (record e { gate = open_gate })
unfolding linked_bytes
opened-bytes e = refl

chain-held : (link next : ℕ) (numbers content heap : List ℕ) → first_or 0 numbers ≡ next → HoldsPart (extent_start next) (open_gate ∷ []) heap
    → HoldsAll (written_parts (chain_of open_gate link numbers content)) heap
    → HoldsAll (map extent_part (chain_of open_gate link numbers content)) heap
chain-held link next [] content heap head gate held = tt
chain-held link next (n ∷ ns) content heap head gate held =
    let e : LinkedExtent = record { gate = open_gate; number = n; next = first_or 0 ns; link = link; body = take 8168 content } in
    let gate-here : HoldsPart (extent_start n) (open_gate ∷ []) heap = subst (λ (m : ℕ). HoldsPart (extent_start m) (open_gate ∷ []) heap) (sym head) gate in (
      subst (λ (bytes : List ℕ). HoldsPart (extent_start n) bytes heap) (opened-bytes e)
          (joined-part (extent_start n) open_gate (drop 1 (linked_bytes e)) heap gate-here held.0),
      held.1,
    )

pub parts-more : (l : HeapLog) (c : PlacedChain) → heap_parts (with_chain l c) ≡ heap_parts l ++ map extent_part (extents_of c)
parts-more l c =
    ap (λ es. map extent_part (anchor_extents l.anchors ++ es)) (flat_map-append extents_of l.chains (c ∷ [])
    ∙ ap (λ es. flat_map extents_of l.chains ++ es) (append-nil (extents_of c)))
    ∙ ap (map extent_part) (sym (append_assoc (anchor_extents l.anchors) (flat_map extents_of l.chains) (extents_of c)))
    ∙ map-append extent_part (anchor_extents l.anchors ++ flat_map extents_of l.chains) (extents_of c)

pub chain-joined : (most : ℕ) (l : HeapLog) (c : PlacedChain) (heap : List ℕ) → MayJoin most l c → HoldsNew (heap_parts l) (turn_of l.next c) heap
    → HoldsAll (heap_parts (with_chain l c)) heap × IsClosed (extent_start c.link) heap
chain-joined most l c heap joins held = (
  subst (λ (ps : List Part). HoldsAll ps heap) (sym (parts-more l c))
      (AllByRecursion-append (λ (p : Part). HoldsPart p.place p.bytes heap) (heap_parts l) (map extent_part (extents_of c)) held.live
      (chain-held c.link l.next c.numbers (entry_bytes c.entry) heap joins.head held.opened held.chain)),
  held.ends,
)

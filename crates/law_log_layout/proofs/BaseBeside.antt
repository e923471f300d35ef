-- A base in extents that are free of the log with a chain lies beside that chain.
use Rattle.std.proofs.Common.{◌≢◌, ℕ, List, [], ◌∷◌, ◌++◌, sym, subst}
use Rattle.std.specs.List.{AllByRecursion}
use Rattle.deltas.specs.Extents.{extent_start}
use Rattle.law_image.specs.Reading.{Reading}
use Rattle.law_layout.proofs.Lists.{weaker}
use Rattle.log_entries.specs.Spelling.{entry_bytes}
use Rattle.log_extents.specs.Chains.{IsNumberOf, IsNew}
use Rattle.log_writer.specs.Turns.{open_gate, written_parts, Part, Turn}
use Rattle.law_log_layout.specs.Turns.{gate_part, ArePartsApart, AreApartFrom}
use Rattle.law_log_layout.specs.HeapLog.{PlacedChain, HeapLog, heap_parts, live_numbers, extents_of, IsLogOf, MayJoin, with_chain, turn_of}
use Rattle.law_log_layout.specs.Reclaims.{NewBase, new_parts, AreFree}
use Rattle.law_log_layout.specs.Beside.{LiesBeside}
use Rattle.law_log_layout.proofs.Places.{AreNew, all-apart, apart-one, distinct-parts, gate-within, new-back, new-front, written-within}
use Rattle.law_log_layout.proofs.Joining.{all-new, log-within}
use Rattle.law_log_layout.proofs.GroupJoins.{live-more}
use Rattle.law_log_layout.proofs.BaseGoes.{new-within}

-- a number that none of these is
new-first : (x : ℕ) (xs ys : List ℕ) → AreNew ys (x ∷ xs) → IsNew x ys
new-first x xs ys new = weaker (λ (y : ℕ). IsNew y (x ∷ xs)) (λ (y : ℕ). y ≢ x) ys (λ y apart same. apart.0 (sym same)) new

new-rest : (x : ℕ) (xs ys : List ℕ) → AreNew ys (x ∷ xs) → AreNew ys xs
new-rest x xs ys new = weaker (λ (y : ℕ). IsNew y (x ∷ xs)) (λ (y : ℕ). IsNew y xs) ys (λ y apart. apart.1) new

-- where none of some is among others, none of the others is among them
new-turned : (xs ys : List ℕ) → AreNew ys xs → AreNew xs ys
new-turned [] ys new = tt
new-turned (x ∷ xs) ys new = (new-first x xs ys new, new-turned xs ys (new-rest x xs ys new))

lie-beside : (log : List Part) (t : Turn) (parts : List Part) → AllByRecursion (λ (p : Part). AreApartFrom p log) parts
    → AllByRecursion (λ (p : Part). AreApartFrom p t.parts) parts → AllByRecursion (λ (p : Part). ArePartsApart (gate_part t.gate 0) p) parts
    → AllByRecursion (λ (p : Part). ArePartsApart (gate_part t.closes 0) p) parts → AllByRecursion (LiesBeside log t) parts
lie-beside log t [] live own gate closes = tt
lie-beside log t (p ∷ parts) live own gate closes = (
  record { live = live.0; turn = record { parts = own.0; gate = gate.0; closes = closes.0 } },
  lie-beside log t parts live.1 own.1 gate.1 closes.1,
)

pub base-lies-beside : (most root : ℕ) (l : HeapLog) (reading : Reading) (c : PlacedChain) (n : NewBase) → IsLogOf most root l reading → MayJoin most l c
    → AreFree most (with_chain l c) n → AllByRecursion (LiesBeside (heap_parts l) (turn_of l.next c)) (new_parts n)
base-lies-beside most root l reading c n is joins free =
    let placed = joins.placed in
    let numbers = (n.anchors).numbers ++ n.numbers in
    let parts = new_parts n in
    let within = new-within most (with_chain l c) n free in
    let all = distinct-parts (c.link ∷ live_numbers (with_chain l c)) numbers free.apart in
    let new : AreNew numbers (c.link ∷ live_numbers l ++ c.numbers) = subst (λ (ns : List ℕ). AreNew numbers (c.link ∷ ns)) (live-more l c) all.new in
    let rest = new-rest c.link (live_numbers l ++ c.numbers) numbers new in
    let live : AreNew numbers (live_numbers l) =
    weaker (λ (m : ℕ). IsNew m (live_numbers l ++ c.numbers)) (λ (m : ℕ). IsNew m (live_numbers l)) numbers
    (λ m apart. new-front m (live_numbers l) c.numbers apart) rest in
    let own : AreNew numbers c.numbers =
    weaker (λ (m : ℕ). IsNew m (live_numbers l ++ c.numbers)) (λ (m : ℕ). IsNew m c.numbers) numbers
    (λ m apart. new-back m (live_numbers l) c.numbers apart) rest in
    let next : IsNew l.next numbers = all-new (λ (m : ℕ). IsNew m numbers) c.numbers l.next (new-turned c.numbers numbers own) joins.head placed.some in
    let next-low : IsNumberOf most l.next = all-new (IsNumberOf most) c.numbers l.next placed.in_range joins.head placed.some in
    let link-low = placed.link in
    lie-beside (heap_parts l) (turn_of l.next c) parts
    (all-apart (live_numbers l) (heap_parts l) numbers parts (log-within most l is.placed is.anchors) within live)
    (all-apart c.numbers (written_parts (extents_of c)) numbers parts
    (written-within most open_gate c.link c.numbers (entry_bytes c.entry) placed.in_range) within own)
    (apart-one l.next (gate_part (extent_start l.next) 0) numbers parts (gate-within l.next 0 next-low.0) within next)
    (apart-one c.link (gate_part (extent_start c.link) 0) numbers parts (gate-within c.link 0 link-low.0) within
    (new-first c.link (live_numbers l ++ c.numbers) numbers new))

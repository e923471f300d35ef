-- The extents of a base, while they are written and while a chain is on its way behind the log.
use Rattle.std.proofs.Common.{◌≡◌, ℕ, List, [], ◌∷◌, ◌++◌, Result, Ok, sym, subst, ◌∙◌}
use Rattle.std.specs.List.{AllByRecursion}
use Rattle.std.proofs.lemmas.List.{append-nil}
use Rattle.disk.specs.Areas.{AreaState, Areas, AreSound}
use Rattle.disk.specs.Calls.{Writes, Syncs}
use Rattle.disk.specs.declared.area.Area.TheVariants.{Heap}
use Rattle.disk.specs.declared.area.DeviceFault.{DeviceFault}
use Rattle.law_image.specs.Reading.{Reading}
use Rattle.law_layout.proofs.Lists.{weaker, all_of_front}
use Rattle.deltas.specs.Extents.{extent_start}
use Rattle.log_writer.specs.Turns.{IsCallOf, Part, Stage}
use Rattle.law_log_layout.specs.Turns.{HoldsAll, KeepsAll, gate_part, KeepsClosed, ArePartsApart, AreApartFrom, AreInTurn, IsAt}
use Rattle.law_log_layout.specs.HeapLog.{PlacedChain, HeapLog, live_numbers, heap_parts, IsLogOf, MayJoin, turn_of}
use Rattle.law_log_layout.specs.Laws.{KeepsLog}
use Rattle.law_log_layout.specs.Reclaims.{NewBase, new_parts, AreFree}
use Rattle.law_log_layout.specs.Beside.{LiesBeside, LiesBesideTurn, LieBesideTurn, LeavesParts, AreOthersSame}
use Rattle.law_log_layout.specs.Behind.{IsBesideBase}
use Rattle.law_log_layout.proofs.Parts.{before-apart, one-of}
use Rattle.law_log_layout.proofs.Places.{ArePart, all-apart, apart-one, distinct-parts, gate-within, in-turn, new-back, none-new}
use Rattle.law_log_layout.proofs.Joining.{log-within}
use Rattle.law_log_layout.proofs.BaseGoes.{new-within}
use Rattle.law_log_layout.proofs.StaysBehind.{free-stays}
use Rattle.law_log_layout.proofs.BaseBeside.{base-lies-beside}
use Rattle.law_log_layout.proofs.Beside.{chain-is-among, chain-leaves-parts, sync-keeps-parts, sync-leaves-parts, write-adds-part}
use Rattle.law_log_layout.proofs.Beside.{write-leaves-chain, write-leaves-parts}
use Rattle.law_log_store.specs.Reclaiming.{AreWritten}

-- ---- the log is kept

-- a closed gate is a part that is kept
closed-leaves : (place : ℕ) (old new : AreaState) → ((gate : ℕ) → LeavesParts (gate_part place gate ∷ []) old new) → KeepsClosed place old
    → KeepsClosed place new
closed-leaves place old new leaves keeps = record {
  gate = keeps.gate;
  closed = keeps.closed;
  kept = (let l = leaves keeps.gate in (l.kept (keeps.kept, tt)).0);
}

-- by a sync of the heap
pub sync-keeps-log : (l : HeapLog) (result : Result (Unit {0}) DeviceFault) (areas next : Areas) → AreSound areas → Syncs Heap result areas next
    → KeepsLog l areas.heap → KeepsLog l next.heap
sync-keeps-log l result areas next sound syncs log = record {
  parts = (let leaves = sync-leaves-parts (heap_parts l) result areas next sound syncs in leaves.kept log.parts);
  ends = closed-leaves (extent_start l.next) areas.heap next.heap
      (λ gate. sync-leaves-parts (gate_part (extent_start l.next) gate ∷ []) result areas next sound syncs) log.ends;
}

-- ---- what is written of a base

-- its parts lie apart from the log, from the gate where that ends, and from each other
record ArePartsFree (l : HeapLog) (parts : List Part) : Type 0 where
  pub live : AllByRecursion (λ (p : Part). AreApartFrom p (heap_parts l)) parts
  pub ends : AllByRecursion (λ (p : Part). ArePartsApart (gate_part (extent_start l.next) 0) p) parts
  pub each : AreInTurn [] parts

module _ (most root : ℕ) (l : HeapLog) (reading : Reading) (w : NewBase) (is : IsLogOf most root l reading) (free : AreFree most l w) where
  abbrev numbers : List ℕ
  numbers = (w.anchors).numbers ++ w.numbers

  parts-free : ArePartsFree l (new_parts w)
  parts-free =
      let own = new-within most l w free in
      let parts : ArePart (l.next ∷ live_numbers l) numbers = distinct-parts (l.next ∷ live_numbers l) numbers free.apart in
      let live : ArePart (live_numbers l) numbers = distinct-parts (live_numbers l) numbers (free.apart).1 in
      record {
        live = all-apart (live_numbers l) (heap_parts l) numbers (new_parts w) (log-within most l is.placed is.anchors) own live.new;
        ends = apart-one l.next (gate_part (extent_start l.next) 0) numbers (new_parts w) (gate-within l.next 0 (free.next).0) own
            (new-back l.next (live_numbers l) numbers (free.apart).0);
        each = in-turn [] [] numbers (new_parts w) tt own parts.back (none-new numbers);
      }

  module _ (done : List Part) (p : Part) (rest : List Part) (are : done ++ p ∷ rest ≡ new_parts w) (areas next : Areas) (sound : AreSound areas) where
    at-parts : (P : Part → Type 0) → AllByRecursion P (new_parts w) → P p
    at-parts P all = one-of P done p rest (subst (λ (ps : List Part). AllByRecursion P ps) (sym are) all)

    done-apart : AreApartFrom p done
    done-apart = before-apart [] done p rest (subst (AreInTurn []) (sym are) (parts-free).each)

    -- a write of one of them, made, refused, or made in part, keeps the log
    pub write-keeps-log : (result : Result (Unit {0}) DeviceFault) → Writes Heap p.place p.bytes result areas next → KeepsLog l areas.heap
        → KeepsLog l next.heap
    write-keeps-log result writes log = record {
      parts =
          (let leaves = write-leaves-parts p (heap_parts l) result areas next sound
          (at-parts (λ (q : Part). AreApartFrom q (heap_parts l)) (parts-free).live) writes in
          leaves.kept log.parts);
      ends = closed-leaves (extent_start l.next) areas.heap next.heap
          (λ gate. write-leaves-parts p (gate_part (extent_start l.next) gate ∷ []) result areas next sound
          (at-parts (λ (q : Part). ArePartsApart (gate_part (extent_start l.next) 0) q) (parts-free).ends, tt) writes) log.ends;
    }

    -- and what is written
    pub write-holds-done : (result : Result (Unit {0}) DeviceFault) → Writes Heap p.place p.bytes result areas next → HoldsAll done areas.heap.bytes
        → HoldsAll done next.heap.bytes
    write-holds-done result writes held =
        let leaves = write-leaves-parts p done result areas next sound (done-apart) writes in leaves.held held

    -- one part more is written
    pub write-adds : Writes Heap p.place p.bytes (Ok tt) areas next → HoldsAll done areas.heap.bytes → HoldsAll (done ++ p ∷ []) next.heap.bytes
    write-adds writes held = write-adds-part p done areas next (done-apart) held writes

    -- a chain behind the log is left on its way
    pub write-keeps-chain : (result : Result (Unit {0}) DeviceFault) (c : PlacedChain) (stage : Stage) → MayJoin most l c → IsBesideBase c w
        → Writes Heap p.place p.bytes result areas next → IsAt (heap_parts l) (turn_of l.next c) stage areas.heap
        → IsAt (heap_parts l) (turn_of l.next c) stage next.heap
    write-keeps-chain result c stage joins beside writes at =
        let lie = base-lies-beside most root l reading c w is joins (free-stays most l c w joins beside free) in
        write-leaves-chain (heap_parts l) (turn_of l.next c) stage p result areas next sound
        (at-parts (LiesBeside (heap_parts l) (turn_of l.next c)) lie) at writes

  -- ---- the calls of a chain behind the log

  module _ (c : PlacedChain) (joins : MayJoin most l c) (beside : IsBesideBase c w) where
    pub lie-beside : LieBesideTurn (turn_of l.next c) (new_parts w)
    lie-beside =
        weaker (LiesBeside (heap_parts l) (turn_of l.next c)) (LiesBesideTurn (turn_of l.next c)) (new_parts w) (λ p b. b.turn)
        (base-lies-beside most root l reading c w is joins (free-stays most l c w joins beside free))

    -- they leave what is written of the base
    pub chain-leaves : (stage : Stage) (result : Result (Unit {0}) DeviceFault) (areas next : Areas) → AreSound areas
        → IsAt (heap_parts l) (turn_of l.next c) stage areas.heap → IsCallOf (turn_of l.next c) stage result areas next
        → LeavesParts (new_parts w) areas.heap next.heap × AreOthersSame Heap areas next
    chain-leaves stage result areas next sound at call =
        chain-leaves-parts (turn_of l.next c) stage (new_parts w) result areas next sound
        (chain-is-among (heap_parts l) (turn_of l.next c) stage areas.heap at).1 lie-beside call

    pub chain-leaves-done : (stage : Stage) (done rest : List Part) (result : Result (Unit {0}) DeviceFault) (areas next : Areas) → AreSound areas
        → done ++ rest ≡ new_parts w → IsAt (heap_parts l) (turn_of l.next c) stage areas.heap → IsCallOf (turn_of l.next c) stage result areas next
        → HoldsAll done areas.heap.bytes → HoldsAll done next.heap.bytes
    chain-leaves-done stage done rest result areas next sound are at call held =
        let both = chain-leaves-parts (turn_of l.next c) stage done result areas next sound
        (chain-is-among (heap_parts l) (turn_of l.next c) stage areas.heap at).1
        (all_of_front (LiesBesideTurn (turn_of l.next c)) done rest
        (subst (λ (ps : List Part). LieBesideTurn (turn_of l.next c) ps) (sym are) lie-beside)) call in
        let leaves = both.0 in leaves.held held

-- ---- parts that are written

-- all of them are synced once none is left
pub written-synced : (parts : List Part) (areas next : Areas) → AreWritten parts [] areas.heap → Syncs Heap (Ok tt) areas next → KeepsAll parts next.heap
written-synced parts areas next written syncs =
    let all : written.done ≡ parts = sym (append-nil written.done) ∙ written.are in
    sync-keeps-parts parts areas next (subst (λ (ps : List Part). HoldsAll ps areas.heap.bytes) all written.held) syncs

-- what is read stays read over a sync, made or refused
pub written-still : (parts left : List Part) (result : Result (Unit {0}) DeviceFault) (areas next : Areas) → AreSound areas → Syncs Heap result areas next
    → AreWritten parts left areas.heap → AreWritten parts left next.heap
written-still parts left result areas next sound syncs written = record {
  done = written.done;
  are = written.are;
  held = (let leaves = sync-leaves-parts written.done result areas next sound syncs in leaves.held written.held);
}

-- What each device call of a chain leaves, and where it leads.
use Rattle.std.proofs.Common.{◌≡◌, ℕ, ◌+◌, ◌≤◌, List, [], ◌∷◌, ◌++◌, length, sym, ap, subst, ◌∙◌, arith, append_assoc, Result, Ok, ⊎_elim, ◌⊎◌}
use Rattle.std.proofs.Common.{inl, inr}
use Rattle.std.proofs.lemmas.List.{append-nil}
use Rattle.std.specs.List.{AllByRecursion}
use Rattle.history.proofs.Filters.{AllByRecursion-append}
use Rattle.disk.specs.declared.area.Area.TheVariants.{Heap}
use Rattle.disk.specs.declared.area.DeviceFault.{DeviceFault}
use Rattle.disk.specs.Areas.{AreaState, Areas, Image, AreSound, LeavesImage, MayLeave, written, loosened, synced}
use Rattle.disk.specs.Calls.{Writes, Syncs}
use Rattle.disk.specs.Parts.{HoldsPart, KeepsPart, IsLoosened}
use Rattle.disk.proofs.Parts.{synced_part, kept_by_sync, written_part, kept_by_write}
use Rattle.disk.proofs.Stops.{left_by_write, left_by_sync}
use Rattle.law_layout.proofs.Extents.{loosened_is, written_is}
use Rattle.law_log_layout.specs.Turns.{HoldsAll, KeepsAll, gate_part, KeepsClosed, ArePartsApart, AreApartFrom, IsFree, HoldsOld}
use Rattle.law_log_layout.specs.Turns.{HoldsNew, IsWriting, IsWritten, IsSynced}
use Rattle.law_log_layout.specs.Turns.{IsOpening, IsDone, IsAt, MayBe, MayBecome}
use Rattle.law_log_layout.specs.Laws.{IsChainWay}
use Rattle.law_log_layout.proofs.Parts.{all-kept, closed-kept, all-left, closed-left, all-still, closed-still, all-synced, all-beside, before-apart, one-of}
use Rattle.law_log_layout.proofs.Parts.{gate-either}
use Rattle.log_writer.specs.Turns.{open_gate, stage_after, Done, IsCallOf, Opening, Part, Settling, Stage, Syncing, Turn, Writing}

module _ (log : List Part) (t : Turn) (free : IsFree log t) (areas : Areas) (sound : AreSound areas) where
  abbrev heap : AreaState
  heap = areas.heap

  -- ---- what is left

  old-left : (a : AreaState) (content : List ℕ) → KeepsAll log a → KeepsClosed t.gate a → MayLeave a content → HoldsOld log t content
  old-left a content keeps ends left = record { live = all-left log a content keeps left; ends = closed-left t.gate a content ends left }

  -- while the gate is on its way a stop leaves either
  either-left : (a : AreaState) (content : List ℕ) → KeepsAll log a → KeepsAll t.parts a → KeepsPart t.closes (0 ∷ []) a → t.gate + 1 ≤ a.firm
      → MayLeave a content → HoldsOld log t content ⊎ HoldsNew log t content
  either-left a content keeps chain closes inside left =
      let live = all-left log a content keeps left in
      ⊎_elim
      (λ closed. inl (record { live = live; ends = closed }))
      (λ opened. inr (record {
        live = live;
        chain = all-left t.parts a content chain left;
        opened = opened;
        ends = record { gate = 0; closed = λ no. absurd (omega (arith, no)); held = closes.left content left };
      }))
      (gate-either t.gate content (let long = left.no_shorter in omega (arith, inside, long)))

  pub before-call : (stage : Stage) (content : List ℕ) → IsAt log t stage heap → MayLeave heap content
      → MayBe stage (HoldsOld log t content) (HoldsNew log t content)
  before-call (Writing done rest) content at left = old-left heap content at.live at.ends left
  before-call Syncing content at left = old-left heap content at.live at.ends left
  before-call Opening content at left = old-left heap content at.live at.ends left
  before-call Settling content at left = either-left heap content at.live at.written at.closes at.inside left
  before-call Done content at left =
      record {
        live = all-left log heap content at.live left;
        chain = all-left t.parts heap content at.written left;
        opened = (let o = at.opened in o.left content left);
        ends = closed-left t.closes heap content at.ends left;
      }

  -- within the write of this part
  within-write : (q : Part) (result : Result (Unit {0}) DeviceFault) (next : Areas) (image : Image) → Writes Heap q.place q.bytes result areas next
      → LeavesImage next image
      → MayLeave (loosened q.place (length q.bytes) (heap).bytes heap) image.heap
  within-write q result next image writes left = let no_more = left_by_write Heap q.place q.bytes result areas next writes sound in let l =
      no_more.each image left in l.heap

  within-sync : (result : Result (Unit {0}) DeviceFault) (next : Areas) (image : Image) → Syncs Heap result areas next → LeavesImage next image
      → MayLeave heap image.heap
  within-sync result next image syncs left = let no_more = left_by_sync Heap result areas next syncs sound in let l = no_more.each image left in l.heap

  abbrev loose : Part → AreaState
  loose q = loosened q.place (length q.bytes) (areas.heap).bytes areas.heap

  loose-is : (q : Part) → IsLoosened q.place (length q.bytes) areas.heap (loosened q.place (length q.bytes) (areas.heap).bytes areas.heap)
  loose-is q = loosened_is q.place (length q.bytes) areas.heap

  pub within-call : (stage : Stage) (result : Result (Unit {0}) DeviceFault) (next : Areas) (image : Image) → IsAt log t stage heap
      → IsCallOf t stage result areas next → LeavesImage next image
      → MayBecome stage (HoldsOld log t image.heap) (HoldsNew log t image.heap)
  within-call (Writing done (p ∷ rest)) result next image at call left =
      let mine = subst (λ (ps : List Part). AllByRecursion (λ (q : Part). AreApartFrom q log) ps) (sym at.parts_are) free.live in
      let gates = subst (λ (ps : List Part). AllByRecursion (λ (q : Part). ArePartsApart (gate_part t.gate 0) q) ps) (sym at.parts_are) free.parts_gate in
      old-left (loosened p.place (length p.bytes) (areas.heap).bytes areas.heap) image.heap
      (all-kept p log areas.heap (loosened p.place (length p.bytes) (areas.heap).bytes areas.heap) (sound Heap)
      (one-of (λ (q : Part). AreApartFrom q log) done p rest mine) (loose-is p) at.live)
      (closed-kept p t.gate areas.heap (loosened p.place (length p.bytes) (areas.heap).bytes areas.heap) (sound Heap)
      (one-of (λ (q : Part). ArePartsApart (gate_part t.gate 0) q) done p rest gates) (loose-is p) at.ends)
      (within-write p result next image call left)
  within-call (Writing done []) result next image at call left =
      let q = gate_part t.closes 0 in
      old-left (loosened t.closes 1 (areas.heap).bytes areas.heap) image.heap
      (all-kept q log areas.heap (loosened t.closes 1 (areas.heap).bytes areas.heap) (sound Heap) free.closes_live (loose-is q) at.live)
      (closed-kept q t.gate areas.heap (loosened t.closes 1 (areas.heap).bytes areas.heap) (sound Heap) free.closes_gate (loose-is q) at.ends)
      (within-write q result next image call left)
  within-call Syncing result next image at call left = old-left heap image.heap at.live at.ends (within-sync result next image call left)
  within-call Opening result next image at call left =
      let q = gate_part t.gate open_gate in
      let new : AreaState = loosened t.gate 1 (areas.heap).bytes areas.heap in
      either-left new image.heap
      (all-kept q log areas.heap new (sound Heap) free.gate_live (loose-is q) at.live)
      (all-kept q t.parts areas.heap new (sound Heap) free.gate_parts (loose-is q) at.written)
      (kept_by_write t.gate 1 t.closes (0 ∷ []) areas.heap new (sound Heap) at.closes free.gate_closes (loose-is q))
      (let k = (at.ends).kept in k.firm)
      (within-write q result next image call left)
  within-call Settling result next image at call left =
      either-left heap image.heap at.live at.written at.closes at.inside (within-sync result next image call left)
  within-call Done result next image at call left = absurd call

  -- ---- where it leads

  heap-written : (q : Part) (next : Areas) → Writes Heap q.place q.bytes (Ok tt) areas next → next.heap ≡ written q.place q.bytes areas.heap
  heap-written q next writes = ap (λ (a : Areas). a.heap) writes.written

  heap-synced : (next : Areas) → Syncs Heap (Ok tt) areas next → next.heap ≡ synced areas.heap
  heap-synced next syncs = ap (λ (a : Areas). a.heap) syncs.synced

  wrote-is : (q : Part) → IsLoosened q.place (length q.bytes) areas.heap (written q.place q.bytes areas.heap)
  wrote-is q = written_is q.place q.bytes areas.heap (sound Heap)

  pub leads-on : (stage : Stage) (next : Areas) → IsAt log t stage heap → IsCallOf t stage (Ok tt) areas next → IsAt log t (stage_after stage) next.heap
  leads-on (Writing done (p ∷ rest)) next at call =
      let mine = subst (λ (ps : List Part). AllByRecursion (λ (q : Part). AreApartFrom q log) ps) (sym at.parts_are) free.live in
      let gates = subst (λ (ps : List Part). AllByRecursion (λ (q : Part). ArePartsApart (gate_part t.gate 0) q) ps) (sym at.parts_are) free.parts_gate in
      let new : AreaState = written p.place p.bytes areas.heap in
      subst (IsWriting log t (done ++ p ∷ []) rest) (sym (heap-written p next call)) (record {
        live = all-kept p log areas.heap new (sound Heap) (one-of (λ (q : Part). AreApartFrom q log) done p rest mine) (wrote-is p) at.live;
        ends = closed-kept p t.gate areas.heap new (sound Heap) (one-of (λ (q : Part). ArePartsApart (gate_part t.gate 0) q) done p rest gates) (wrote-is p)
            at.ends;
        parts_are = append_assoc done (p ∷ []) rest ∙ at.parts_are;
        written = AllByRecursion-append (λ (q : Part). HoldsPart q.place q.bytes new.bytes) done (p ∷ [])
            (all-beside p done (areas.heap).bytes (before-apart [] done p rest (rw at.parts_are free.each)) at.written)
            (written_part p.place p.bytes (areas.heap).bytes, tt);
      })
  leads-on (Writing done []) next at call =
      let q = gate_part t.closes 0 in
      let new : AreaState = written t.closes (0 ∷ []) areas.heap in
      let all : done ≡ t.parts = sym (append-nil done) ∙ at.parts_are in
      subst (IsWritten log t) (sym (heap-written q next call)) (record {
        live = all-kept q log areas.heap new (sound Heap) free.closes_live (wrote-is q) at.live;
        ends = closed-kept q t.gate areas.heap new (sound Heap) free.closes_gate (wrote-is q) at.ends;
        written = all-beside q t.parts (areas.heap).bytes free.closes_parts (subst (λ (ps : List Part). HoldsAll ps (areas.heap).bytes) all at.written);
        closes = written_part t.closes (0 ∷ []) (areas.heap).bytes;
      })
  leads-on Syncing next at call = subst (IsSynced log t) (sym (heap-synced next call)) (record {
    live = all-still log areas.heap (sound Heap) at.live;
    ends = closed-still t.gate areas.heap (sound Heap) at.ends;
    written = all-synced t.parts areas.heap at.written;
    closes = synced_part t.closes (0 ∷ []) areas.heap at.closes;
  })
  leads-on Opening next at call =
      let q = gate_part t.gate open_gate in
      let new : AreaState = written t.gate (open_gate ∷ []) areas.heap in
      subst (IsOpening log t) (sym (heap-written q next call)) (record {
        live = all-kept q log areas.heap new (sound Heap) free.gate_live (wrote-is q) at.live;
        written = all-kept q t.parts areas.heap new (sound Heap) free.gate_parts (wrote-is q) at.written;
        closes = kept_by_write t.gate 1 t.closes (0 ∷ []) areas.heap new (sound Heap) at.closes free.gate_closes (wrote-is q);
        inside = (let k = (at.ends).kept in k.firm);
        opened = written_part t.gate (open_gate ∷ []) (areas.heap).bytes;
      })
  leads-on Settling next at call = subst (IsDone log t) (sym (heap-synced next call)) (record {
    live = all-still log areas.heap (sound Heap) at.live;
    written = all-still t.parts areas.heap (sound Heap) at.written;
    opened = synced_part t.gate (open_gate ∷ []) areas.heap at.opened;
    ends = record { gate = 0; closed = λ no. absurd (omega (arith, no)); kept = kept_by_sync t.closes (0 ∷ []) areas.heap (sound Heap) at.closes };
  })
  leads-on Done next at call = absurd call

  pub goes : (stage : Stage) → IsAt log t stage heap → IsChainWay log t stage areas
  goes stage at = record {
    before = λ content left. before-call stage content at left;
    within = λ result next image call left. within-call stage result next image at call left;
    leads = λ next call. leads-on stage next at call;
  }

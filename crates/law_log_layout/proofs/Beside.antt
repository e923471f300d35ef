-- What a write or a sync leaves of the parts beside it, and of a chain on its way.
use Rattle.std.proofs.Common.{◌≡◌, ℕ, ◌+◌, ◌<◌, ◌≤◌, List, [], ◌∷◌, ◌++◌, length, refl, sym, ap, subst, arith, Result, Ok, Err, inl, inr}
use Rattle.std.specs.List.{AllByRecursion}
use Rattle.history.proofs.Filters.{AllByRecursion-append}
use Rattle.disk.specs.Areas.{AreaState, Areas, AreSound, IsApart, IsSound, with_area}
use Rattle.disk.specs.Calls.{IsTorn, MadeInPart, Writes, Syncs}
use Rattle.disk.specs.declared.area.Area.{Area}
use Rattle.disk.specs.declared.area.Area.TheVariants.{Status, Heap, Archive}
use Rattle.disk.specs.declared.area.DeviceFault.{DeviceFault}
use Rattle.disk.specs.Parts.{HoldsPart, KeepsPart, AreApart, IsLoosened}
use Rattle.disk.proofs.Parts.{held_again, kept_by_sync, kept_by_write, written_part}
use Rattle.disk.proofs.Stops.{IsTorn-same, MayLeave-loosened, MayLeave-torn}
use Rattle.law_layout.proofs.Lists.{both, weaker, all_of_front}
use Rattle.law_log_layout.specs.Turns.{HoldsAll, KeepsAll, gate_part, KeepsClosed, ArePartsApart, AreApartFrom, IsAt}
use Rattle.law_log_layout.specs.Beside.{LiesBesideTurn, LiesBeside, LieBesideTurn, IsStageOf, AreOthersSame, LeavesParts}
use Rattle.law_log_layout.proofs.Parts.{all-synced, one-of}
use Rattle.log_writer.specs.Turns.{open_gate, Done, IsCallOf, Opening, Part, Settling, Stage, Syncing, Turn, Writing}

-- ---- the other areas

same-rest : (area : Area) (a : AreaState) (old new : Areas) → new ≡ with_area area a old → AreOthersSame area old new
same-rest Status a old new is = (ap (λ (x : Areas). x.heap) (sym is), ap (λ (x : Areas). x.archive) (sym is))
same-rest Heap a old new is = (ap (λ (x : Areas). x.status) (sym is), ap (λ (x : Areas). x.archive) (sym is))
same-rest Archive a old new is = (ap (λ (x : Areas). x.status) (sym is), ap (λ (x : Areas). x.heap) (sym is))

same-all : (area : Area) (old new : Areas) → new ≡ old → AreOthersSame area old new
same-all Status old new is = (ap (λ (x : Areas). x.heap) (sym is), ap (λ (x : Areas). x.archive) (sym is))
same-all Heap old new is = (ap (λ (x : Areas). x.status) (sym is), ap (λ (x : Areas). x.archive) (sym is))
same-all Archive old new is = (ap (λ (x : Areas). x.status) (sym is), ap (λ (x : Areas). x.heap) (sym is))

others-of-part : (area : Area) (at n : ℕ) (old new : Areas) → MadeInPart area at n old new → AreOthersSame area old new
others-of-part area at n old new (inl same) = same-all area old new same
others-of-part area at n old new (inr tears) = same-rest area _ old new tears.areas

pub write-leaves-others : (area : Area) (at : ℕ) (bytes : List ℕ) (result : Result (Unit {0}) DeviceFault) (areas next : Areas)
    → Writes area at bytes result areas next → AreOthersSame area areas next
write-leaves-others area at bytes result areas next writes = others-of-part area at (length bytes) areas next writes.in_part

pub sync-leaves-others : (area : Area) (result : Result (Unit {0}) DeviceFault) (areas next : Areas) → Syncs area result areas next
    → AreOthersSame area areas next
sync-leaves-others area (Ok x) areas next syncs = same-rest area _ areas next syncs.synced
sync-leaves-others area (Err e) areas next syncs = same-all area areas next syncs.same

-- ---- one part

apart-turned : (p q : Part) → ArePartsApart p q → ArePartsApart q p
apart-turned p q (inl before) = inr before
apart-turned p q (inr after) = inl after

-- the part is left as it was
record LeavesPart (old new : AreaState) (p : Part) : Type 0 where
  pub held : HoldsPart p.place p.bytes old.bytes → HoldsPart p.place p.bytes new.bytes
  pub kept : KeepsPart p.place p.bytes old → KeepsPart p.place p.bytes new

same-part : (old new : AreaState) (p : Part) → new ≡ old → LeavesPart old new p
same-part old new p same = record {
  held = λ held. subst (λ (a : AreaState). HoldsPart p.place p.bytes a.bytes) (sym same) held;
  kept = λ kept. subst (KeepsPart p.place p.bytes) (sym same) kept;
}

outside : (from m at n k : ℕ) → AreApart from m at n → from ≤ k → k < from + m → IsApart k (k + 1) (at, n)
outside from m at n k (inl before) low high = inl (omega (arith, before, high))
outside from m at n k (inr after) low high = inr (omega (arith, after, low))

-- a write that was made in part, at the most
torn-part : (at n : ℕ) (p : Part) (old new : List ℕ) → AreApart p.place (length p.bytes) at n → IsTorn at n old new → HoldsPart p.place p.bytes old
    → HoldsPart p.place p.bytes new
torn-part at n p old new apart torn held =
    let inside = held.inside in
    let long = torn.no_shorter in
    held_again p.place p.bytes old new (omega (arith, inside, long))
    (λ k low high. torn.elsewhere k (omega (arith, inside, high)) (outside p.place (length p.bytes) at n k apart low high)) held

in-part-torn : (at n : ℕ) (old new : Areas) → MadeInPart Heap at n old new → IsTorn at n old.heap.bytes new.heap.bytes
in-part-torn at n old new (inl same) = subst (λ (x : Areas). IsTorn at n old.heap.bytes x.heap.bytes) (sym same) (IsTorn-same at n old.heap.bytes)
in-part-torn at n old new (inr tears) = tears.torn

in-part-loosened : (at n : ℕ) (old new : Areas) → IsSound old.heap → MadeInPart Heap at n old new → IsLoosened at n old.heap new.heap
in-part-loosened at n old new sound (inl same) =
    subst (λ (x : Areas). IsLoosened at n old.heap x.heap) (sym same)
    (record { firm = refl; left = λ content left. MayLeave-loosened old.heap at n content left })
in-part-loosened at n old new sound (inr tears) =
    subst (λ (x : Areas). IsLoosened at n old.heap x.heap) (sym tears.areas)
    (record { firm = refl; left = λ content left. MayLeave-torn old.heap at n new.heap.bytes content sound tears.torn left })

part-by-write : (q p : Part) (result : Result (Unit {0}) DeviceFault) (areas next : Areas) → AreSound areas → Writes Heap q.place q.bytes result areas next
    → ArePartsApart p q → LeavesPart areas.heap next.heap p
part-by-write q p result areas next sound writes apart = record {
  held = torn-part q.place (length q.bytes) p areas.heap.bytes next.heap.bytes apart (in-part-torn q.place (length q.bytes) areas next writes.in_part);
  kept = λ kept. kept_by_write q.place (length q.bytes) p.place p.bytes areas.heap next.heap (sound Heap) kept apart
      (in-part-loosened q.place (length q.bytes) areas next (sound Heap) writes.in_part);
}

part-by-sync : (p : Part) (result : Result (Unit {0}) DeviceFault) (areas next : Areas) → AreSound areas → Syncs Heap result areas next
    → LeavesPart areas.heap next.heap p
part-by-sync p (Ok x) areas next sound syncs =
    subst (λ (y : Areas). LeavesPart areas.heap y.heap p) (sym syncs.synced)
    (record { held = λ held. held; kept = λ kept. kept_by_sync p.place p.bytes areas.heap (sound Heap) kept })
part-by-sync p (Err e) areas next sound syncs = same-part areas.heap next.heap p (ap (λ (x : Areas). x.heap) syncs.same)

-- ---- many parts

held-left : (parts : List Part) (old new : AreaState) → AllByRecursion (LeavesPart old new) parts → HoldsAll parts old.bytes → HoldsAll parts new.bytes
held-left parts old new leaves held =
    both (LeavesPart old new) (λ (p : Part). HoldsPart p.place p.bytes old.bytes) (λ (p : Part). HoldsPart p.place p.bytes new.bytes) parts
    (λ p l h. l.held h) leaves held

kept-left : (parts : List Part) (old new : AreaState) → AllByRecursion (LeavesPart old new) parts → KeepsAll parts old → KeepsAll parts new
kept-left parts old new leaves kept =
    both (LeavesPart old new) (λ (p : Part). KeepsPart p.place p.bytes old) (λ (p : Part). KeepsPart p.place p.bytes new) parts
    (λ p l k. l.kept k) leaves kept

leaves-all : (parts : List Part) (old new : AreaState) → AllByRecursion (LeavesPart old new) parts → LeavesParts parts old new
leaves-all parts old new leaves = record { held = held-left parts old new leaves; kept = kept-left parts old new leaves }

all-by-write : (q : Part) (parts : List Part) (result : Result (Unit {0}) DeviceFault) (areas next : Areas) → AreSound areas
    → Writes Heap q.place q.bytes result areas next → AreApartFrom q parts → AllByRecursion (LeavesPart areas.heap next.heap) parts
all-by-write q parts result areas next sound writes apart =
    weaker (λ (p : Part). ArePartsApart p q) (LeavesPart areas.heap next.heap) parts (λ p a. part-by-write q p result areas next sound writes a) apart

all-by-sync : (parts : List Part) (result : Result (Unit {0}) DeviceFault) (areas next : Areas) → AreSound areas → Syncs Heap result areas next
    → AllByRecursion (LeavesPart areas.heap next.heap) parts
all-by-sync [] result areas next sound syncs = tt
all-by-sync (p ∷ parts) result areas next sound syncs =
    (part-by-sync p result areas next sound syncs, all-by-sync parts result areas next sound syncs)

pub write-leaves-parts : (q : Part) (parts : List Part) (result : Result (Unit {0}) DeviceFault) (areas next : Areas) → AreSound areas
    → AreApartFrom q parts → Writes Heap q.place q.bytes result areas next → LeavesParts parts areas.heap next.heap
write-leaves-parts q parts result areas next sound apart writes =
    leaves-all parts areas.heap next.heap (all-by-write q parts result areas next sound writes apart)

pub write-adds-part : (q : Part) (parts : List Part) (areas next : Areas) → AreApartFrom q parts → HoldsAll parts areas.heap.bytes
    → Writes Heap q.place q.bytes (Ok tt) areas next → HoldsAll (parts ++ q ∷ []) next.heap.bytes
write-adds-part q parts areas next apart held writes =
    AllByRecursion-append (λ (p : Part). HoldsPart p.place p.bytes next.heap.bytes) parts (q ∷ [])
    (both (λ (p : Part). ArePartsApart p q) (λ (p : Part). HoldsPart p.place p.bytes areas.heap.bytes)
    (λ (p : Part). HoldsPart p.place p.bytes next.heap.bytes) parts
    (λ p a h. torn-part q.place (length q.bytes) p areas.heap.bytes next.heap.bytes a (in-part-torn q.place (length q.bytes) areas next writes.in_part) h)
    apart held)
    (subst (λ (x : Areas). HoldsPart q.place q.bytes x.heap.bytes) (sym writes.written) (written_part q.place q.bytes areas.heap.bytes), tt)

pub sync-leaves-parts : (parts : List Part) (result : Result (Unit {0}) DeviceFault) (areas next : Areas) → AreSound areas → Syncs Heap result areas next
    → LeavesParts parts areas.heap next.heap
sync-leaves-parts parts result areas next sound syncs = leaves-all parts areas.heap next.heap (all-by-sync parts result areas next sound syncs)

pub sync-keeps-parts : (parts : List Part) (areas next : Areas) → HoldsAll parts areas.heap.bytes → Syncs Heap (Ok tt) areas next → KeepsAll parts next.heap
sync-keeps-parts parts areas next held syncs =
    subst (λ (x : Areas). KeepsAll parts x.heap) (sym syncs.synced) (all-synced parts areas.heap held)

-- ---- a chain on its way

-- whatever byte is in a place of one, it is left
abbrev LeavesByte : AreaState → AreaState → ℕ → Type 0
LeavesByte old new place = (gate : ℕ) → LeavesPart old new (gate_part place gate)

record LeavesTurn (log : List Part) (t : Turn) (old new : AreaState) : Type 0 where
  pub live : AllByRecursion (LeavesPart old new) log
  pub parts : AllByRecursion (LeavesPart old new) t.parts
  pub gate : LeavesByte old new t.gate
  pub closes : LeavesByte old new t.closes
  pub firm : old.firm ≤ new.firm

closed-left : (place : ℕ) (old new : AreaState) → LeavesByte old new place → KeepsClosed place old → KeepsClosed place new
closed-left place old new leaves keeps =
    record { gate = keeps.gate; closed = keeps.closed; kept = (let l = leaves keeps.gate in l.kept keeps.kept) }

module _ (log : List Part) (t : Turn) (old new : AreaState) (leaves : LeavesTurn log t old new) where
  live-kept : KeepsAll log old → KeepsAll log new
  live-kept keeps = kept-left log old new leaves.live keeps

  front-held : (done rest : List Part) → done ++ rest ≡ t.parts → HoldsAll done old.bytes → HoldsAll done new.bytes
  front-held done rest are held =
      held-left done old new
      (all_of_front (LeavesPart old new) done rest (subst (λ (ps : List Part). AllByRecursion (LeavesPart old new) ps) (sym are) leaves.parts)) held

  chain-left : (stage : Stage) → IsAt log t stage old → IsAt log t stage new
  chain-left (Writing done rest) at = record {
    live = live-kept at.live;
    ends = closed-left t.gate old new leaves.gate at.ends;
    parts_are = at.parts_are;
    written = front-held done rest at.parts_are at.written;
  }
  chain-left Syncing at = record {
    live = live-kept at.live;
    ends = closed-left t.gate old new leaves.gate at.ends;
    written = held-left t.parts old new leaves.parts at.written;
    closes = (let l = leaves.closes 0 in l.held at.closes);
  }
  chain-left Opening at = record {
    live = live-kept at.live;
    ends = closed-left t.gate old new leaves.gate at.ends;
    written = kept-left t.parts old new leaves.parts at.written;
    closes = (let l = leaves.closes 0 in l.kept at.closes);
  }
  chain-left Settling at = record {
    live = live-kept at.live;
    written = kept-left t.parts old new leaves.parts at.written;
    closes = (let l = leaves.closes 0 in l.kept at.closes);
    inside = (let firm = leaves.firm in let inside = at.inside in omega (arith, firm, inside));
    opened = (let l = leaves.gate open_gate in l.held at.opened);
  }
  chain-left Done at = record {
    live = live-kept at.live;
    written = kept-left t.parts old new leaves.parts at.written;
    opened = (let l = leaves.gate open_gate in l.kept at.opened);
    ends = closed-left t.closes old new leaves.closes at.ends;
  }

pub write-leaves-chain : (live : List Part) (t : Turn) (stage : Stage) (p : Part) (result : Result (Unit {0}) DeviceFault) (areas next : Areas)
    → AreSound areas → LiesBeside live t p → IsAt live t stage areas.heap → Writes Heap p.place p.bytes result areas next → IsAt live t stage next.heap
write-leaves-chain live t stage p result areas next sound beside at writes =
    let turn = beside.turn in
    let loose = in-part-loosened p.place (length p.bytes) areas next (sound Heap) writes.in_part in
    chain-left live t areas.heap next.heap (record {
      live = all-by-write p live result areas next sound writes beside.live;
      parts = all-by-write p t.parts result areas next sound writes turn.parts;
      gate = λ gate. part-by-write p (gate_part t.gate gate) result areas next sound writes turn.gate;
      closes = λ gate. part-by-write p (gate_part t.closes gate) result areas next sound writes turn.closes;
      firm = (let same = loose.firm in omega (arith, same));
    }) stage at

firm-by-sync : (result : Result (Unit {0}) DeviceFault) (areas next : Areas) → AreSound areas → Syncs Heap result areas next → areas.heap.firm ≤ next.heap.firm
firm-by-sync (Ok x) areas next sound syncs =
    let same = ap (λ (y : Areas). y.heap.firm) syncs.synced in
    let inside = (sound Heap).firm in
    omega (arith, same, inside)
firm-by-sync (Err e) areas next sound syncs = let same = ap (λ (y : Areas). y.heap.firm) syncs.same in omega (arith, same)

pub sync-leaves-chain : (live : List Part) (t : Turn) (stage : Stage) (result : Result (Unit {0}) DeviceFault) (areas next : Areas)
    → AreSound areas → IsAt live t stage areas.heap → Syncs Heap result areas next → IsAt live t stage next.heap
sync-leaves-chain live t stage result areas next sound at syncs =
    chain-left live t areas.heap next.heap (record {
      live = all-by-sync live result areas next sound syncs;
      parts = all-by-sync t.parts result areas next sound syncs;
      gate = λ gate. part-by-sync (gate_part t.gate gate) result areas next sound syncs;
      closes = λ gate. part-by-sync (gate_part t.closes gate) result areas next sound syncs;
      firm = firm-by-sync result areas next sound syncs;
    }) stage at

pub chain-among-others : (live others : List Part) (t : Turn) (stage : Stage) (a : AreaState) → KeepsAll others a → IsAt live t stage a → IsAt others t stage a
chain-among-others live others t (Writing done rest) a keeps at =
    record { live = keeps; ends = at.ends; parts_are = at.parts_are; written = at.written }
chain-among-others live others t Syncing a keeps at = record { live = keeps; ends = at.ends; written = at.written; closes = at.closes }
chain-among-others live others t Opening a keeps at = record { live = keeps; ends = at.ends; written = at.written; closes = at.closes }
chain-among-others live others t Settling a keeps at =
    record { live = keeps; written = at.written; closes = at.closes; inside = at.inside; opened = at.opened }
chain-among-others live others t Done a keeps at = record { live = keeps; written = at.written; opened = at.opened; ends = at.ends }

pub chain-is-among : (live : List Part) (t : Turn) (stage : Stage) (a : AreaState) → IsAt live t stage a → KeepsAll live a × IsStageOf t stage
chain-is-among live t (Writing done rest) a at = (at.live, at.parts_are)
chain-is-among live t Syncing a at = (at.live, tt)
chain-is-among live t Opening a at = (at.live, tt)
chain-is-among live t Settling a at = (at.live, tt)
chain-is-among live t Done a at = (at.live, tt)

-- ---- the calls of a chain

-- a part of the chain lies apart from all that lie beside it
apart-of-turn : (t : Turn) (done : List Part) (q : Part) (rest parts : List Part) → done ++ q ∷ rest ≡ t.parts → LieBesideTurn t parts → AreApartFrom q parts
apart-of-turn t done q rest parts are beside =
    weaker (LiesBesideTurn t) (λ (p : Part). ArePartsApart p q) parts
    (λ p b. apart-turned q p
    (one-of (λ (w : Part). ArePartsApart w p) done q rest (subst (AreApartFrom p) (sym are) b.parts))) beside

chain-all : (t : Turn) (stage : Stage) (parts : List Part) (result : Result (Unit {0}) DeviceFault) (areas next : Areas) → AreSound areas
    → IsStageOf t stage → LieBesideTurn t parts → IsCallOf t stage result areas next → AllByRecursion (LeavesPart areas.heap next.heap) parts
chain-all t (Writing done (q ∷ rest)) parts result areas next sound are beside call =
    all-by-write q parts result areas next sound call (apart-of-turn t done q rest parts are beside)
chain-all t (Writing done []) parts result areas next sound are beside call =
    let q = gate_part t.closes 0 in
    all-by-write q parts result areas next sound call
    (weaker (LiesBesideTurn t) (λ (p : Part). ArePartsApart p q) parts (λ p b. apart-turned q p b.closes) beside)
chain-all t Syncing parts result areas next sound are beside call = all-by-sync parts result areas next sound call
chain-all t Opening parts result areas next sound are beside call =
    let q = gate_part t.gate open_gate in
    all-by-write q parts result areas next sound call
    (weaker (LiesBesideTurn t) (λ (p : Part). ArePartsApart p q) parts (λ p b. apart-turned q p b.gate) beside)
chain-all t Settling parts result areas next sound are beside call = all-by-sync parts result areas next sound call
chain-all t Done parts result areas next sound are beside call = absurd call

chain-others : (t : Turn) (stage : Stage) (result : Result (Unit {0}) DeviceFault) (areas next : Areas) → IsCallOf t stage result areas next
    → AreOthersSame Heap areas next
chain-others t (Writing done (q ∷ rest)) result areas next call = write-leaves-others Heap q.place q.bytes result areas next call
chain-others t (Writing done []) result areas next call = write-leaves-others Heap t.closes (0 ∷ []) result areas next call
chain-others t Syncing result areas next call = sync-leaves-others Heap result areas next call
chain-others t Opening result areas next call = write-leaves-others Heap t.gate (open_gate ∷ []) result areas next call
chain-others t Settling result areas next call = sync-leaves-others Heap result areas next call
chain-others t Done result areas next call = absurd call

pub chain-leaves-parts : (t : Turn) (stage : Stage) (parts : List Part) (result : Result (Unit {0}) DeviceFault) (areas next : Areas) → AreSound areas
    → IsStageOf t stage → LieBesideTurn t parts → IsCallOf t stage result areas next
    → LeavesParts parts areas.heap next.heap × AreOthersSame Heap areas next
chain-leaves-parts t stage parts result areas next sound are beside call = (
  leaves-all parts areas.heap next.heap (chain-all t stage parts result areas next sound are beside call),
  chain-others t stage result areas next call,
)

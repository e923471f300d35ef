-- What the calls of a piece of slots leave of a group that stands on the calm area, and what stands once the piece is open.
use Rattle.std.proofs.Common.{IsTrue, ap, ◌∙◌, ◌≡◌, ℕ, ◌+◌, ◌<◌, ◌≤◌, List, [], ◌∷◌, ◌++◌, length, Option, None, Some, refl, sym, subst, inr, arith}
use Rattle.status.specs.Rules.{is_built}
use Rattle.law_image.specs.Log.{is_in_heap}
use Rattle.law_refinement.proofs.Jobs.{built-slots}
use Rattle.disk.specs.Areas.{AreaState, Areas, IsSound, AreSound, synced}
use Rattle.disk.specs.Parts.{IsSettled}
use Rattle.disk.proofs.Stops.{MayLeave-synced}
use Rattle.wire.specs.declared.slot.Slot.{Slot}
use Rattle.history.specs.Machine.{Machine}
use Rattle.law_image.specs.Values.{Value}
use Rattle.law_image.specs.Plans.{with_piece}
use Rattle.law_image.proofs.PieceStep.{piece-stands_for}
use Rattle.status.specs.declared.header.Header.{Header}
use Rattle.status.specs.declared.growth.GrowthStage.TheVariants.{GateWritten as PieceWritten}
use Rattle.status.specs.Header.{total}
use Rattle.status.specs.Log.{IsLog}
use Rattle.status.specs.Growth.{grown}
use Rattle.status.specs.GrowthState.{GrowthState}
use Rattle.status.specs.Pieces.{MayGrow}
use Rattle.status.specs.SlotCalls.{SlotStage}
use Rattle.status.specs.SlotCalls as slots
use Rattle.status.specs.TurnState.{TurnState}
use Rattle.law_layout.specs.Growing.{IsGrowing}
use Rattle.law_layout.specs.Keeping.{StatusRests, KeepsParts, RestsAs}
use Rattle.law_layout.specs.Layouts.{Layout}
use Rattle.law_layout.specs.SlotTurns.{StatusAt, IsTurnAt}
use Rattle.law_layout.specs.Turn.{Group, laid_out}
use Rattle.law_layout.proofs.Growing.{sound-synced}
use Rattle.law_layout.proofs.Grown.{piece_laid, grown_rests, grown_turns}
use Rattle.group.specs.Queued.{QueuedValue}
use Rattle.group.specs.Order.{IsInOrder}
use Rattle.group.specs.Values.{TransactionsValue, with_more_slots}
use Rattle.group.specs.declared.stage.GroupStage.{GroupStage}
use Rattle.group.specs.declared.stage.GroupStage.TheVariants.{NoGroup, Storing, Stored, Turning}
use Rattle.store.specs.Jobs.{grown_store}
use Rattle.store.specs.Values.{StoreValue}
use Rattle.law_refinement.specs.Standing.{StandsInMemory}
use Rattle.law_refinement.specs.OnDisk.{IsAtStage, Works, group_of}
use Rattle.law_refinement.specs.Stands.{without_growth}
use Rattle.law_refinement.proofs.Orders.{memory-beside, order-beside}

-- ---- a sync of the status area

rests-synced : (header : Header) (ss : List Slot) (a : AreaState) → StatusRests header ss a → StatusRests header ss (synced a)
rests-synced header ss a rests = record { settled = record { firm = refl; loose = refl }; log = rests.log }

-- what is said of the area is said of it once it is synced
status-synced : (header : Header) (ss : List Slot) (slot : Slot) (stage : SlotStage) (a : AreaState) → StatusAt header ss slot stage a
    → StatusAt header ss slot stage (synced a)
status-synced header ss slot slots.Begun a at = rests-synced header ss a at
status-synced header ss slot slots.BodyWritten a at =
    record { log = at.log; body = at.body; left = λ content left. subst (λ (c : List ℕ). IsLog header c ss) (sym (MayLeave-synced a content left)) at.log }
status-synced header ss slot slots.BodySynced a at = record { rests = rests-synced header ss a at.rests; body = at.body }
status-synced header ss slot slots.GateWritten a at = record {
  log = at.log;
  left = λ content left. inr (subst (λ (c : List ℕ). IsLog header c (ss ++ slot ∷ [])) (sym (MayLeave-synced a content left)) at.log);
}
status-synced header ss slot slots.Opened a at = rests-synced header (ss ++ slot ∷ []) a at

parts-beside : (layout : Layout) (areas : Areas) (a : AreaState) → KeepsParts layout areas → KeepsParts layout (record areas { status = a })
parts-beside layout areas a keeps = record { extents = keeps.extents; runs = keeps.runs }

turn-synced : (header : Header) (old : Layout) (slot : Slot) (new : Layout) (stage : SlotStage) (areas : Areas) → IsTurnAt header old slot new stage areas
    → IsTurnAt header old slot new stage (record areas { status = synced areas.status })
turn-synced header old slot new stage areas at = record {
  status = status-synced header old.slots slot stage areas.status at.status;
  old_parts = parts-beside old areas (synced areas.status) at.old_parts;
  new_parts = parts-beside new areas (synced areas.status) at.new_parts;
}

pub stage-synced : (header : Header) (layout : Layout) (group : Group) (qs : List QueuedValue) (s : GroupStage) (turn : Option TurnState) (areas : Areas)
    → IsAtStage header layout group qs s turn areas
    → IsAtStage header layout group qs s turn (record areas { status = synced areas.status })
stage-synced header layout group qs NoGroup turn areas at =
    record { status = rests-synced header layout.slots areas.status at.status; parts = parts-beside layout areas (synced areas.status) at.parts }
stage-synced header layout group qs (Storing member extent) turn areas at = record {
  rests = record {
    status = rests-synced header layout.slots areas.status at.rests.status;
    parts = parts-beside layout areas (synced areas.status) at.rests.parts;
  };
  parts_are = at.parts_are;
  written = at.written;
}
stage-synced header layout group qs Stored turn areas at = turn-synced header layout group.slot (laid_out layout group) slots.Begun areas at
stage-synced header layout group qs Turning None areas at = absurd at
stage-synced header layout group qs Turning (Some t) areas at = record {
  number = at.number;
  long = at.long;
  spelled = at.spelled;
  at = turn-synced header layout group.slot (laid_out layout group) t.stage areas at.at;
}

-- ---- the piece is open

-- a group whose slot is begun, or is to be, has room for it
abbrev pub RoomFor : Header → Layout → GroupStage → Type 0
RoomFor header layout NoGroup = Unit {0}
RoomFor header layout (Storing member extent) = Unit {0}
RoomFor header layout Stored = length layout.slots < total header
RoomFor header layout Turning = length layout.slots < total header

-- what is said of the calm area is so of the area, by the header with one piece more
module _ (header : Header) (layout : Layout) (areas : Areas) (a : AreaState) (may : MayGrow header) (growing : IsGrowing header PieceWritten areas.status a)
    (sound : IsSound areas.status) (settled : IsSettled a) where
  turn-grown : (slot : Slot) (new : Layout) (stage : SlotStage) → length layout.slots < total header → IsTurnAt header layout slot new stage areas
      → IsTurnAt (grown header) layout slot new stage (record areas { status = a })
  turn-grown slot new stage room at = record {
    status = grown_turns header layout.slots slot stage areas.status a may growing sound settled room at.status;
    old_parts = parts-beside layout areas a at.old_parts;
    new_parts = parts-beside new areas a at.new_parts;
  }

  rests-grown : RestsAs header layout areas → RestsAs (grown header) layout (record areas { status = a })
  rests-grown at =
      record { status = grown_rests header layout.slots areas.status a may growing sound settled at.status; parts = parts-beside layout areas a at.parts }

  pub stage-grown : (group : Group) (qs : List QueuedValue) (s : GroupStage) (turn : Option TurnState) → RoomFor header layout s
      → IsAtStage header layout group qs s turn areas → IsAtStage (grown header) layout group qs s turn (record areas { status = a })
  stage-grown group qs NoGroup turn room at = rests-grown at
  stage-grown group qs (Storing member extent) turn room at = record { rests = rests-grown at.rests; parts_are = at.parts_are; written = at.written }
  stage-grown group qs Stored turn room at = turn-grown group.slot (laid_out layout group) slots.Begun room at
  stage-grown group qs Turning None room at = absurd at
  stage-grown group qs Turning (Some t) room at =
      record { number = at.number; long = at.long; spelled = at.spelled; at = turn-grown group.slot (laid_out layout group) t.stage room at.at }

-- ---- the transactions with more slots

pub more-memory : (v : TransactionsValue) (m : Machine Value) (count : ℕ) → StandsInMemory v m → StandsInMemory (with_more_slots count v) m
more-memory v m count stands = memory-beside v v.pending v.usages v.reserved (v.slots + count) v.used m m.raising m.gate stands

pub more-order : (v : TransactionsValue) (count : ℕ) → v.slots + count ≤ 65536 → IsInOrder v → IsInOrder (with_more_slots count v)
more-order v count few order = order-beside v v.opened (v.slots + count) v.used v.floors v.failed (omega (arith, order.room)) few order

-- ---- the disk with a piece more

-- the store's disk, where no job runs on it, has the same log with one piece more
pub grown-works : (header : Header) (growth : GrowthState) (old new : StoreValue) (m : Machine Value) (calm : AreaState) → MayGrow header
    → IsTrue (is_built header.profile 1) → (w : Works header (without_growth old calm) m)
    → IsGrowing header PieceWritten (synced calm) new.disk.areas.status → IsSound calm → IsSettled new.disk.areas.status → AreSound new.disk.areas
    → new.disk.areas ≡ record old.disk.areas { status = new.disk.areas.status }
    → RoomFor header w.log.layout old.transactions.stage → Works (grown header) (grown_store growth old new) m
grown-works header growth old new m calm may profile_built w growing sound settled real alone room =
    let base : Areas = record old.disk.areas { status = calm } in
    let at : IsAtStage header w.log.layout (group_of w.log.layout old.transactions m) old.transactions.queue old.transactions.stage old.turn
    (record old.disk.areas { status = calm }) =
    subst (λ (a : AreaState). IsAtStage header w.log.layout (group_of w.log.layout old.transactions m) old.transactions.queue old.transactions.stage old.turn
    (record old.disk.areas { status = a })) (sym w.group.rests) w.group.at in
    let settled-at =
    stage-synced header w.log.layout (group_of w.log.layout old.transactions m) old.transactions.queue old.transactions.stage old.turn base at in
    let opened =
    stage-grown header w.log.layout (record old.disk.areas { status = synced calm }) new.disk.areas.status may growing (sound-synced calm sound) settled
    (group_of w.log.layout old.transactions m) old.transactions.queue old.transactions.stage old.turn room settled-at in
    record {
      log = record {
        layout = w.log.layout;
        reading = with_piece w.log.reading;
        laid = piece_laid header w.log.layout w.log.reading w.log.laid;
        stands = piece-stands_for w.log.reading m.published m.floors w.log.stands
            (λ first. absurd (omega (arith, first, w.log.laid.heap.profile_is, may.pieces)))
            (ap is_in_heap w.log.laid.heap.profile_is ∙ built-slots header.profile profile_built)
            (omega (arith, may.room, w.log.laid.heap.slots_are, w.log.laid.heap.pieces_are));
        built = w.log.built;
        used = w.log.used;
        archived = w.log.archived;
        reclaimed = w.log.reclaimed;
        runs_end = w.log.runs_end;
      };
      heap = record { kept = w.heap.kept; times = w.heap.times; times_long = w.heap.times_long; facts = w.heap.facts };
      packed = w.packed;
      group = record {
        rested = new.disk.areas.status;
        rests = refl;
        at = subst (λ (x : Areas). IsAtStage (grown header) w.log.layout (group_of w.log.layout old.transactions m) old.transactions.queue
            old.transactions.stage old.turn x) (sym alone) opened;
      };
      job = tt;
      sound = real;
    }

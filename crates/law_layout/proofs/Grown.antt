-- One piece more changes no layout.
use Rattle.std.proofs.Common.{◌≡◌, ◌≢◌, ℕ, ◌+◌, ◌<◌, List, [], ◌∷◌, ◌++◌, length, ap, subst, sym, inr, arith}
use Rattle.std.specs.Prelude.{slice_index}
use Rattle.disk.specs.Areas.{AreaState, Image, MayLeave, IsSound}
use Rattle.disk.specs.Parts.{IsSettled}
use Rattle.wire.specs.Spelling.{IsSpelled}
use Rattle.wire.specs.declared.slot.Slot.{Slot}
use Rattle.law_image.specs.Reading.{Reading}
use Rattle.law_image.specs.Plans.{with_piece}
use Rattle.status.specs.declared.header.Header.{Header}
use Rattle.status.specs.declared.growth.GrowthStage.TheVariants.{GateWritten}
use Rattle.status.specs.Header.{total}
use Rattle.status.specs.Log.{body_at, IsLog}
use Rattle.status.specs.Growth.{grown}
use Rattle.status.specs.Pieces.{next_gate, MayGrow, IsBeside, HasZeros, piece_length}
use Rattle.status.specs.SlotCalls.{SlotStage}
use Rattle.status.specs.SlotCalls as slots
use Rattle.status.proofs.Pieces.{still_shut, then_grown, body_same}
use Rattle.law_layout.specs.Layouts.{Layout, IsLayoutOf, HoldsLayout}
use Rattle.law_layout.specs.Keeping.{StatusRests}
use Rattle.law_layout.specs.SlotTurns.{StatusAt}
use Rattle.law_layout.specs.Growing.{IsGrowing}

pub piece_laid : (header : Header) (layout : Layout) (reading : Reading) → IsLayoutOf header layout reading
    → IsLayoutOf (grown header) layout (with_piece reading)
piece_laid header layout reading laid = record {
  heap = record {
    profile_is = laid.heap.profile_is;
    slots_are = laid.heap.slots_are;
    pieces_are = ap (λ (n : ℕ). n + 1) laid.heap.pieces_are;
    log_is = laid.heap.log_is;
    members_are = laid.heap.members_are;
    entries_are = laid.heap.entries_are;
    each_member = laid.heap.each_member;
    anchors_are = laid.heap.anchors_are;
    apart = laid.heap.apart;
    in_row = laid.heap.in_row;
  };
  runs = record { runs_are = laid.runs.runs_are; entries_are = laid.runs.entries_are; each_run = laid.runs.each_run };
}

pub shut_holds : (header : Header) (layout : Layout) (image : Image) (calm : List ℕ) → MayGrow header
    → HoldsLayout header (record image { status = calm }) layout → IsBeside header calm image.status
    → slice_index image.status (next_gate header) ≢ 0xC7 → HoldsLayout header image layout
shut_holds header layout image calm may held beside shut = record {
  log = still_shut header layout.slots calm image.status may held.log beside shut;
  extents = held.extents;
  runs = held.runs;
}

pub open_holds : (header : Header) (layout : Layout) (image : Image) (calm : List ℕ) → MayGrow header
    → HoldsLayout header (record image { status = calm }) layout → IsBeside header calm image.status
    → HasZeros header piece_length image.status → slice_index image.status (next_gate header) ≡ 0xC7 → HoldsLayout (grown header) image layout
open_holds header layout image calm may held beside zeros is_open = record {
  log = then_grown header layout.slots calm image.status may held.log beside zeros is_open;
  extents = held.extents;
  runs = held.runs;
}

-- ---- once the piece is open

module _ (header : Header) (calm a : AreaState) (may : MayGrow header) (growing : IsGrowing header GateWritten calm a) (sound : IsSound calm)
    (settled : IsSettled a) where
  besides : IsBeside header calm.bytes a.bytes
  besides = record {
    room = omega (arith, growing.beside.room, sound.firm);
    long = omega (arith, growing.beside.firm, settled.firm);
    same = growing.beside.same;
  }

  zeros : HasZeros header piece_length a.bytes
  zeros = record { long = omega (arith, growing.at.1.firm, settled.firm); zeros = growing.at.1.zeros }

  now : (ss : List Slot) → IsLog header calm.bytes ss → IsLog (grown header) a.bytes ss
  now ss log = then_grown header ss calm.bytes a.bytes may log besides zeros growing.at.0

  left-is : (content : List ℕ) → MayLeave a content → content ≡ a.bytes
  left-is content left = left.settled settled.loose

  rests-now : (ss : List Slot) → StatusRests header ss calm → StatusRests (grown header) ss a
  rests-now ss rests = record { settled = settled; log = now ss rests.log }

  module _ (ss : List Slot) (slot : Slot) (room : length ss < total header) where
    body-now : (log : IsLog header calm.bytes ss) → IsSpelled header.profile (length ss) (body_at calm.bytes (length ss)) slot
        → IsSpelled header.profile (length ss) (body_at a.bytes (length ss)) slot
    body-now log spelled = rw (body_same header ss calm.bytes a.bytes may log besides (length ss) room) spelled

    at-now : (stage : SlotStage) → StatusAt header ss slot stage calm → StatusAt (grown header) ss slot stage a
    at-now slots.Begun at = rests-now ss at
    at-now slots.BodyWritten at = record {
      log = now ss at.log;
      body = body-now at.log at.body;
      left = λ content left. subst (λ (c : List ℕ). IsLog (grown header) c ss) (sym (left-is content left)) (now ss at.log);
    }
    at-now slots.BodySynced at = record { rests = rests-now ss at.rests; body = body-now at.rests.log at.body }
    at-now slots.GateWritten at = record {
      log = now (ss ++ slot ∷ []) at.log;
      left = λ content left. inr (subst (λ (c : List ℕ). IsLog (grown header) c (ss ++ slot ∷ [])) (sym (left-is content left)) (now (ss ++ slot ∷ []) at.log));
    }
    at-now slots.Opened at = rests-now (ss ++ slot ∷ []) at

pub grown_rests : (header : Header) (ss : List Slot) (calm a : AreaState) → MayGrow header → IsGrowing header GateWritten calm a → IsSound calm → IsSettled a
    → StatusRests header ss calm → StatusRests (grown header) ss a
grown_rests header ss calm a may growing sound settled rests = rests-now header calm a may growing sound settled ss rests

pub grown_turns : (header : Header) (ss : List Slot) (slot : Slot) (stage : SlotStage) (calm a : AreaState) → MayGrow header
    → IsGrowing header GateWritten calm a → IsSound calm → IsSettled a
    → length ss < total header → StatusAt header ss slot stage calm → StatusAt (grown header) ss slot stage a
grown_turns header ss slot stage calm a may growing sound settled room at = at-now header calm a may growing sound settled ss slot room stage at

-- What each device call of a slot's writing leaves, and where it leads.
use Rattle.std.proofs.Common.{◌≡◌, ◌⊎◌, inl, inr, ℕ, ◌+◌, ◌-◌, ◌<◌, List, [], ◌∷◌, ◌++◌, length, get_or, take, drop, refl, sym, ap, ◌∙◌, arith, Result, Ok}
use Rattle.std.specs.Prelude.{slice_index}
use Rattle.std.proofs.lemmas.List.Edits.{get_or-between}
use Rattle.disk.specs.declared.area.Area.TheVariants.{Status}
use Rattle.disk.specs.declared.area.DeviceFault.{DeviceFault}
use Rattle.disk.specs.Areas.{AreaState, Areas, Image, MayLeave, LeavesImage, AreSound, loosened, written, synced, overlaid}
use Rattle.disk.proofs.Stops.{left_by_write, left_by_sync, slice_range-overlaid_same}
use Rattle.disk.specs.Parts.{Agrees}
use Rattle.disk.proofs.Parts.{loosened_agrees, overlaid_agrees}
use Rattle.wire.specs.Spelling.{IsSpelled}
use Rattle.wire.specs.declared.slot.Slot.{Slot}
use Rattle.status.specs.Log.{slot_start, body_at, IsLog, IsOldOrNew}
use Rattle.status.proofs.Changes.{body_changes, gate_changes, gate_opens}
use Rattle.law_layout.specs.Layouts.{Layout, HoldsLayout}
use Rattle.law_layout.specs.Keeping.{LeavesOnly, StatusRests, IsBodyWritten, IsBodySynced, IsGateWritten, KeepsParts, RestsAs}
use Rattle.law_layout.specs.SlotTurns.{Adds, IsTurnAt, MayAt, MayWithin}
use Rattle.law_layout.specs.Laws.{IsSlotWay}
use Rattle.law_layout.proofs.Extents.{written_is}
use Rattle.law_layout.proofs.Standing.{rests_leave, parts_hold}
use Rattle.status.specs.declared.header.Header.{Header}
use Rattle.status.specs.Header.{total}
use Rattle.status.specs.SlotCalls.{SlotStage, Begun, BodyWritten, BodySynced, GateWritten, Opened, IsSlotCall, slot_stage_after}

-- ---- the status area alone

-- within the write of the body
body_left : (header : Header) (slots : List Slot) (n : ℕ) (a : AreaState) (content : List ℕ) → length slots < total header → n ≡ 511
    → StatusRests header slots a
    → MayLeave (loosened (slot_start (length slots) + 1) n a.bytes a) content → IsLog header content slots
body_left header slots n a content room long rests left =
    let may : MayLeave (loosened (slot_start (length slots) + 1) 511 a.bytes a) content = rw (← long) left in
    body_changes header slots room a.bytes content rests.log (loosened_agrees (slot_start (length slots) + 1) 511 a content rests.settled may)

-- within the write of the gate
gate_left : (header : Header) (slots : List Slot) (slot : Slot) (a : AreaState) (content : List ℕ) → length slots < total header
    → IsBodySynced header slots slot a
    → MayLeave (loosened (slot_start (length slots)) 1 a.bytes a) content → IsOldOrNew header slots slot content
gate_left header slots slot a content room synced left =
    gate_changes header slots room a.bytes content synced.rests.log slot synced.body
    (loosened_agrees (slot_start (length slots)) 1 a content synced.rests.settled left)

-- what was written is read, from its place on
read_again : (file : List ℕ) (at : ℕ) (bytes : List ℕ) → take (length bytes) (drop at (overlaid file at bytes)) ≡ bytes
read_again file at bytes =
    let long : at + length bytes - at ≡ length bytes = omega arith in
    sym (ap (λ n. take n (drop at (overlaid file at bytes))) long) ∙ slice_range-overlaid_same file at bytes

pub read_first : (file : List ℕ) (at byte : ℕ) → slice_index (overlaid file at (byte ∷ [])) at ≡ byte
read_first file at byte =
    let new : List ℕ = overlaid file at (byte ∷ []) in
    let place : at + 0 ≡ at = omega arith in
    let within : at + 0 < at + 1 = omega arith in
    sym (ap (λ k. get_or new k 0) place)
    ∙ sym (get_or-between new at (at + 1) 0 0 within)
    ∙ ap (λ (xs : List ℕ). get_or xs 0 0) (slice_range-overlaid_same file at (byte ∷ []))

-- after the body's write
body_done : (header : Header) (slots : List Slot) (slot : Slot) (body : List ℕ) (a : AreaState) → length slots < total header → length body ≡ 511
    → IsSpelled header.profile (length slots) body slot
    → StatusRests header slots a → LeavesOnly (λ bytes. IsLog header bytes slots) (written (slot_start (length slots) + 1) body a)
    → IsBodyWritten header slots slot (written (slot_start (length slots) + 1) body a)
body_done header slots slot body a room long spelled rests left =
    let at = slot_start (length slots) + 1 in
    let agrees : Agrees at 511 a.bytes (overlaid a.bytes at body) = rw (← long) (overlaid_agrees at body a.bytes) in
    let stands : body_at (overlaid a.bytes at body) (length slots) ≡ body =
    ap (λ n. take n (drop at (overlaid a.bytes at body))) (sym long) ∙ read_again a.bytes at body in
    record {
      log = body_changes header slots room a.bytes (overlaid a.bytes at body) rests.log agrees;
      body = rw stands spelled;
      left = left;
    }

-- after the gate's write
gate_done : (header : Header) (slots : List Slot) (slot : Slot) (a : AreaState) → length slots < total header
    → IsBodySynced header slots slot a → LeavesOnly (IsOldOrNew header slots slot) (written (slot_start (length slots)) (0xC7 ∷ []) a)
    → IsGateWritten header slots slot (written (slot_start (length slots)) (0xC7 ∷ []) a)
gate_done header slots slot a room synced left =
    let at = slot_start (length slots) in
    record {
      log = gate_opens header slots room a.bytes (overlaid a.bytes at (0xC7 ∷ [])) synced.rests.log slot synced.body (overlaid_agrees at (0xC7
          ∷ []) a.bytes) (read_first a.bytes at 0xC7);
      left = left;
    }

module _ (header : Header) (old_layout : Layout) (slot : Slot) (new_layout : Layout) (adds : Adds header old_layout slot new_layout) where
  -- ---- what a stop may leave

  old_held : (areas : Areas) (image : Image) → KeepsParts old_layout areas → IsLog header image.status old_layout.slots → MayLeave areas.heap image.heap
      → MayLeave areas.archive image.archive
      → HoldsLayout header image old_layout
  old_held areas image keeps log left_heap left_archive = parts_hold header old_layout areas image keeps log left_heap left_archive

  new_held : (areas : Areas) (image : Image) → KeepsParts new_layout areas → IsLog header image.status (old_layout.slots ++ slot ∷ [])
      → MayLeave areas.heap image.heap → MayLeave areas.archive image.archive
      → HoldsLayout header image new_layout
  new_held areas image keeps log left_heap left_archive = parts_hold header new_layout areas image keeps (rw adds.slots_are log) left_heap left_archive

  either_held : (areas : Areas) (image : Image) → KeepsParts old_layout areas → KeepsParts new_layout areas
      → IsOldOrNew header old_layout.slots slot image.status
      → MayLeave areas.heap image.heap → MayLeave areas.archive image.archive → HoldsLayout header image old_layout ⊎ HoldsLayout header image new_layout
  either_held areas image keeps_old keeps_new (inl log) left_heap left_archive = inl (old_held areas image keeps_old log left_heap left_archive)
  either_held areas image keeps_old keeps_new (inr log) left_heap left_archive = inr (new_held areas image keeps_new log left_heap left_archive)

  pub turn_holds : (stage : SlotStage) (areas : Areas) (image : Image) → IsTurnAt header old_layout slot new_layout stage areas → LeavesImage areas image
      → MayAt stage (HoldsLayout header image old_layout) (HoldsLayout header image new_layout)
  turn_holds Begun areas image at left =
      old_held areas image at.old_parts (rests_leave header areas.status image.status old_layout.slots at.status left.status) left.heap left.archive
  turn_holds BodyWritten areas image at left = old_held areas image at.old_parts (at.status.left image.status left.status) left.heap left.archive
  turn_holds BodySynced areas image at left =
      old_held areas image at.old_parts (rests_leave header areas.status image.status old_layout.slots at.status.rests left.status) left.heap left.archive
  turn_holds GateWritten areas image at left =
      either_held areas image at.old_parts at.new_parts (at.status.left image.status left.status) left.heap left.archive
  turn_holds Opened areas image at left =
      new_held areas image at.new_parts (rests_leave header areas.status image.status (old_layout.slots ++ slot
      ∷ []) at.status left.status) left.heap left.archive

  -- once the gate is synced, the areas are at rest with the new layout
  pub opened_rests : (areas : Areas) → IsTurnAt header old_layout slot new_layout Opened areas → RestsAs header new_layout areas
  opened_rests areas at = record { status = rw adds.slots_are at.status; parts = at.new_parts }

  module _ (body : List ℕ) (long : length body ≡ 511) (spelled : IsSpelled header.profile (length old_layout.slots) body slot) where
    place : ℕ
    place = length old_layout.slots

    pub turn_call_holds : (stage : SlotStage) (result : Result (Unit {0}) DeviceFault) (old new : Areas) (image : Image)
        → IsTurnAt header old_layout slot new_layout stage old → AreSound old
        → IsSlotCall (length old_layout.slots) body stage result old new → LeavesImage new image
        → MayWithin stage (HoldsLayout header image old_layout) (HoldsLayout header image new_layout)
    turn_call_holds Begun result old new image at sound call left =
        let before = (left_by_write Status (slot_start (length old_layout.slots) + 1) body result old new call sound).each image left in
        old_held old image at.old_parts (body_left header old_layout.slots (length body) old.status image.status adds.room long at.status before.status)
        before.heap before.archive
    turn_call_holds BodyWritten result old new image at sound call left =
        turn_holds BodyWritten old image at ((left_by_sync Status result old new call sound).each image left)
    turn_call_holds BodySynced result old new image at sound call left =
        let before = (left_by_write Status (slot_start (length old_layout.slots)) (0xC7 ∷ []) result old new call sound).each image left in
        either_held old image at.old_parts at.new_parts (gate_left header old_layout.slots slot old.status image.status adds.room at.status before.status)
        before.heap before.archive
    turn_call_holds GateWritten result old new image at sound call left =
        turn_holds GateWritten old image at ((left_by_sync Status result old new call sound).each image left)
    turn_call_holds Opened result old new image at sound call left = absurd call

    -- ---- where a call that is answered Ok leads

    -- the status area alone changes
    other_parts : (layout : Layout) (old : Areas) (a : AreaState) → KeepsParts layout old → KeepsParts layout (record old { status = a })
    other_parts layout old a keeps = record { extents = keeps.extents; runs = keeps.runs }

    body_written : (old : Areas) → IsTurnAt header old_layout slot new_layout Begun old → AreSound old
        → IsTurnAt header old_layout slot new_layout BodyWritten (record old { status = written (slot_start (length old_layout.slots) + 1) body old.status })
    body_written old at sound =
        let at_body = slot_start (length old_layout.slots) + 1 in
        record {
          status = body_done header old_layout.slots slot body old.status adds.room long spelled at.status (λ content left.
              body_left header old_layout.slots (length body) old.status content adds.room long at.status
              ((written_is at_body body old.status (sound Status)).left content left));
          old_parts = other_parts old_layout old (written at_body body old.status) at.old_parts;
          new_parts = other_parts new_layout old (written at_body body old.status) at.new_parts;
        }

    body_synced : (old : Areas) → IsTurnAt header old_layout slot new_layout BodyWritten old
        → IsTurnAt header old_layout slot new_layout BodySynced (record old { status = synced old.status })
    body_synced old at = record {
      status = record { rests = record { settled = record { firm = refl; loose = refl }; log = at.status.log }; body = at.status.body };
      old_parts = other_parts old_layout old (synced old.status) at.old_parts;
      new_parts = other_parts new_layout old (synced old.status) at.new_parts;
    }

    gate_written : (old : Areas) → IsTurnAt header old_layout slot new_layout BodySynced old → AreSound old
        → IsTurnAt header old_layout slot new_layout GateWritten (record old { status = written (slot_start (length old_layout.slots)) (0xC7 ∷ []) old.status })
    gate_written old at sound =
        let at_gate = slot_start (length old_layout.slots) in
        record {
          status = gate_done header old_layout.slots slot old.status adds.room at.status (λ content left.
              gate_left header old_layout.slots slot old.status content adds.room at.status
              ((written_is at_gate (0xC7 ∷ []) old.status (sound Status)).left content left));
          old_parts = other_parts old_layout old (written at_gate (0xC7 ∷ []) old.status) at.old_parts;
          new_parts = other_parts new_layout old (written at_gate (0xC7 ∷ []) old.status) at.new_parts;
        }

    gate_synced : (old : Areas) → IsTurnAt header old_layout slot new_layout GateWritten old
        → IsTurnAt header old_layout slot new_layout Opened (record old { status = synced old.status })
    gate_synced old at = record {
      status = record { settled = record { firm = refl; loose = refl }; log = at.status.log };
      old_parts = other_parts old_layout old (synced old.status) at.old_parts;
      new_parts = other_parts new_layout old (synced old.status) at.new_parts;
    }

    pub turn_call_leads : (stage : SlotStage) (old new : Areas) → IsTurnAt header old_layout slot new_layout stage old → AreSound old
        → IsSlotCall (length old_layout.slots) body stage (Ok tt) old new → IsTurnAt header old_layout slot new_layout (slot_stage_after stage) new
    turn_call_leads Begun old new at sound call = rw call.written (body_written old at sound)
    turn_call_leads BodyWritten old new at sound call = rw call.synced (body_synced old at)
    turn_call_leads BodySynced old new at sound call = rw call.written (gate_written old at sound)
    turn_call_leads GateWritten old new at sound call = rw call.synced (gate_synced old at)
    turn_call_leads Opened old new at sound call = absurd call

    pub slot_goes : (stage : SlotStage) (areas : Areas) → AreSound areas → IsTurnAt header old_layout slot new_layout stage areas
        → IsSlotWay header old_layout slot new_layout body stage areas
    slot_goes stage areas sound at = record {
      before = λ image left. turn_holds stage areas image at left;
      within = λ result next image call left. turn_call_holds stage result areas next image at sound call left;
      leads = λ next call. turn_call_leads stage areas next at sound call;
    }

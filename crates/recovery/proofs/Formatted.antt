-- The log that a format leaves.
use Rattle.std.proofs.Common.{◌≡◌, ℕ, ◌+◌, ◌*◌, ◌<◌, ◌≤◌, List, [], length, take, drop, refl, sym, ap, subst, ◌∙◌, arith, inr}
use Rattle.std.specs.Prelude.{slice_index}
use Rattle.std.proofs.lemmas.List.{take_at}
use Rattle.disk.specs.Areas.{Areas, AreaState, overlaid, written, synced}
use Rattle.disk.proofs.Parts.{overlaid_agrees, length-overlaid}
use Rattle.status.specs.Header.{new_header, HasNumbers, IsFront, piece_gate}
use Rattle.status.specs.Log.{slot_start, IsOpen, HasRoom, OpensWith, IsLog}
use Rattle.recovery.specs.Format.{IsSlotCount, HasZeroSlots, IsFormatted}

pub has_numbers : (slots : ℕ) → IsSlotCount slots → HasNumbers (new_header 3 slots)
has_numbers slots is = record { lowest = omega arith; highest = omega arith; some = is.0; whole = λ one. refl; total = let few = is.1 in omega arith }

module _ (slots : ℕ) (front file : List ℕ) (is : IsSlotCount slots) (long : length front ≡ 512) (front_is : IsFront (new_header 3 slots) front)
    (behind : (k : ℕ) → 16 ≤ k → slice_index front k ≡ 0) (room : slot_start slots ≤ length file) (zeros : (k : ℕ) → 512 ≤ k → k < slot_start slots
    → slice_index file k ≡ 0) where
  bytes : List ℕ
  bytes = overlaid file 0 front

  front-bytes : take 512 bytes ≡ front
  unfolding bytes
  front-bytes = take_at front (drop (0 + length front) file) 512 long

  room_left : slot_start (slots + 256 * 0) ≤ length bytes
  unfolding bytes
  room_left = omega (arith, length-overlaid file 0 front)

  shut : (n : ℕ) → n < slots → ¬ IsOpen bytes n
  unfolding bytes
  shut n below opened =
      let agrees = overlaid_agrees 0 front file in
      let same : slice_index bytes (slot_start n) ≡ slice_index file (slot_start n) = agrees.same (slot_start n) (omega arith) (inr (omega arith)) in
      let zero : slice_index file (slot_start n) ≡ 0 = zeros (slot_start n) (omega arith) (omega arith) in
      let both : ◌≡◌ {A = ℕ} 0xC7 0 = sym opened ∙ same ∙ zero in
      absurd (omega arith)

  has_room : HasRoom (new_header 3 slots) bytes
  has_room = record { few = let few = is.1 in omega arith; room = room_left }

  opens_none : OpensWith (new_header 3 slots) bytes []
  opens_none = record { has_room = has_room; fits = omega arith; each_open = λ n slot at. cc; each_spelled = λ n slot at. cc }

  pub formatted_log : IsLog (new_header 3 slots) (overlaid file 0 front) []
  unfolding bytes
  formatted_log = record {
    header_is = record { front = rw front-bytes front_is; room = room_left };
    opens = opens_none;
    closed = λ n low below. shut n (omega arith);
    pieces_closed = λ i low high opened.
        let zero : piece_gate (take 512 (overlaid file 0 front)) i ≡ 0 =
        ap (λ (f : List ℕ). slice_index f (16 + i)) front-bytes ∙ behind (16 + i) (omega arith) in
        let both : ◌≡◌ {A = ℕ} 0xC7 0 = sym opened ∙ zero in
        absurd (omega arith);
  }

  pub formatted : (before old new : Areas) → HasZeroSlots slots before old → old.status.bytes ≡ file → new
      ≡ record old { status = synced (written 0 front old.status) } → IsFormatted slots before new
  formatted before old new has is_file now = record {
    others = now ∙ ap (λ (a : Areas). record a { status = synced (written 0 front old.status) }) has.others
        ∙ ap (λ (a : AreaState). record before { status = a }) (sym (ap (λ (a : Areas). a.status) now));
    settled = rw now (record { firm = refl; loose = refl });
    log = subst (λ (b : List ℕ). IsLog (new_header 3 slots) b []) (sym (ap (λ (a : Areas). a.status.bytes) now
        ∙ ap (λ (f : List ℕ). overlaid f 0 front) is_file)) formatted_log;
  }

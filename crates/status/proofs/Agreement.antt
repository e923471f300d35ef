-- Contents that agree but within one slot hold the same log, but for that slot.
use Rattle.std.proofs.Common.{◌≡◌, ◌≢◌, ◌⊎◌, inl, inr, ℕ, zero, suc, ◌+◌, ◌<◌, ◌≤◌, List, [], ◌∷◌, ◌++◌, length, get_or, take, drop, Some, refl, sym, ◌∙◌, ap}
use Rattle.std.proofs.Common.{subst, arith}
use Rattle.std.specs.Prelude.{slice_get}
use Rattle.std.proofs.lemmas.Bool.{cases_lt, cases_eq}
use Rattle.std.proofs.lemmas.List.{length_push}
use Rattle.std.proofs.lemmas.Option.{slice_get_within}
use Rattle.disk.specs.Parts.{IsOutside, Agrees}
use Rattle.wire.specs.Spelling.{IsSpelled}
use Rattle.wire.specs.declared.slot.Slot.{Slot}
use Rattle.status.specs.declared.header.Header.{Header}
use Rattle.status.specs.Header.{total, piece_gate}
use Rattle.status.specs.Log.{slot_start, gate_at, body_at, IsOpen, HasHeader, HasRoom, IsLog}
use Rattle.status.proofs.Frame.{same_bytes}

pub same_part : (at n : ℕ) (old new : List ℕ) → at + n ≤ length old → length old ≤ length new
    → ((k : ℕ) → at ≤ k → k < at + n → get_or new k 0 ≡ get_or old k 0) → take n (drop at new) ≡ take n (drop at old)
same_part at n old new fits longer same = same_bytes at n old new fits (omega arith) same

pub slice_get-push : (xs : List Slot) (y x : Slot) (n : ℕ) → slice_get (xs ++ y ∷ []) n ≡ Some x → (slice_get xs n ≡ Some x) ⊎ ((n ≡ length xs) × (y ≡ x))
slice_get-push [] y x zero is = inr (refl, cc)
slice_get-push [] y x (suc n) is = absurd cc
slice_get-push (z ∷ xs) y x zero is = inl is
slice_get-push (z ∷ xs) y x (suc n) is = elim (slice_get-push xs y x n is) [
  | inl within ↦ inl within
  | inr last ↦ inr (ap suc last.0, last.1)
]

module _ (header : Header) (slots : List Slot) (old new : List ℕ) (log : IsLog header old slots) (agrees : Agrees (slot_start (length slots)) 512 old new) where
  room : slot_start (total header) ≤ length old
  room = log.header_is.room

  out_of_slot : (n k : ℕ) → n ≢ length slots → slot_start n ≤ k → k < slot_start n + 512 → IsOutside (slot_start (length slots)) 512 k
  out_of_slot n k other low high = elim (cases_lt n (length slots)) [
    | inl below ↦ inl (omega arith)
    | inr behind ↦ inr (omega arith)
  ]

  gate_kept : (n : ℕ) → n ≢ length slots → n < total header → gate_at new n ≡ gate_at old n
  gate_kept n other within = agrees.same (slot_start n) (omega (arith, room)) (out_of_slot n (slot_start n) other (omega arith) (omega arith))

  body_kept : (n : ℕ) → n ≢ length slots → n < total header → body_at new n ≡ body_at old n
  body_kept n other within =
      same_part (slot_start n + 1) 511 old new (omega (arith, room)) agrees.no_shorter
      (λ k low high. agrees.same k (omega (arith, room)) (out_of_slot n k other (omega arith) (omega arith)))

  front_same : take 512 new ≡ take 512 old
  front_same = same_part 0 512 old new (omega (arith, room)) agrees.no_shorter (λ k low high. agrees.same k (omega (arith, room)) (inl (omega arith)))

  header_kept : HasHeader header new
  header_kept = record { front = rw front_same log.header_is.front; room = omega (arith, room, agrees.no_shorter) }

  room_kept : HasRoom header new
  room_kept = record { few = log.opens.has_room.few; room = omega (arith, room, agrees.no_shorter) }

  pieces_kept : (i : ℕ) → header.pieces ≤ i → i < 255 → piece_gate (take 512 new) i ≢ 0xC7
  pieces_kept i behind within = rw front_same (log.pieces_closed i behind within)

  before : (n : ℕ) (slot : Slot) → slice_get slots n ≡ Some slot → (n ≢ length slots) × (n < total header)
  before n slot is = let within : n < length slots = slice_get_within slots n slot is in (omega arith, omega (arith, log.opens.fits))

  open_kept : (n : ℕ) (slot : Slot) → slice_get slots n ≡ Some slot → IsOpen new n
  open_kept n slot is = let at = before n slot is in gate_kept n at.0 at.1 ∙ log.opens.each_open n slot is

  spelled_kept : (n : ℕ) (slot : Slot) → slice_get slots n ≡ Some slot → IsSpelled header.profile n (body_at new n) slot
  spelled_kept n slot is = let at = before n slot is in rw (body_kept n at.0 at.1) (log.opens.each_spelled n slot is)

  -- with its gate closed the slot counts for nothing
  pub still_old : (length slots < total header → ¬ IsOpen new (length slots)) → IsLog header new slots
  still_old shut = record {
    header_is = header_kept;
    pieces_closed = pieces_kept;
    opens = record { has_room = room_kept; fits = log.opens.fits; each_open = open_kept; each_spelled = spelled_kept };
    closed = λ n behind within is_open. elim (cases_eq n (length slots)) [
      | inl here ↦ shut (omega arith) (subst (λ (m : ℕ). IsOpen new m) here is_open)
      | inr other ↦ log.closed n behind within (sym (gate_kept n other within) ∙ is_open)
    ];
  }

  -- with its gate open it is the last slot
  pub then_new : (slot : Slot) → length slots < total header → IsOpen new (length slots)
      → IsSpelled header.profile (length slots) (body_at new (length slots)) slot
      → IsLog header new (slots ++ slot ∷ [])
  then_new slot within is_open spelled = record {
    header_is = header_kept;
    pieces_closed = pieces_kept;
    opens = record {
      has_room = room_kept;
      fits = omega (arith, length_push slots slot);
      each_open = λ n other is. elim (slice_get-push slots slot other n is) [
        | inl earlier ↦ open_kept n other earlier
        | inr last ↦ rw last.0 is_open
      ];
      each_spelled = λ n other is. elim (slice_get-push slots slot other n is) [
        | inl earlier ↦ spelled_kept n other earlier
        | inr last ↦ rw (last.0, ← last.1) spelled
      ];
    };
    closed = λ n behind n_within opened.
        let later : length slots < n = omega (arith, length_push slots slot) in
        log.closed n (omega arith) n_within (sym (gate_kept n (omega arith) n_within) ∙ opened);
  }

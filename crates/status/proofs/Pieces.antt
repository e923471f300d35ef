-- Contents that differ in the gate of a piece and behind the slots hold the same log.
use Rattle.std.proofs.Common.{◌≡◌, ◌≢◌, ℕ, zero, suc, ◌+◌, ◌<◌, ◌≤◌, List, length, take, drop, Some, refl, sym, ◌∙◌, subst, arith, inl, inr}
use Rattle.std.specs.Prelude.{slice_get, slice_index}
use Rattle.std.proofs.lemmas.Bool.{cases_lt, cases_eq}
use Rattle.std.proofs.lemmas.List.{length-take, get_or-take, get_or-drop}
use Rattle.std.proofs.lemmas.Option.{slice_get_within}
use Rattle.byteorder.specs.Endian.{little_from}
use Rattle.wire.specs.Spelling.{IsSpelled}
use Rattle.wire.specs.declared.slot.Slot.{Slot}
use Rattle.status.specs.declared.header.Header.{Header}
use Rattle.status.specs.Header.{total, piece_gate, zeros_from, IsFront, HasNumbers}
use Rattle.status.specs.Log.{slot_start, gate_at, body_at, IsOpen, IsLog}
use Rattle.status.specs.Growth.{grown}
use Rattle.status.specs.Pieces.{next_gate, MayGrow, IsBeside, HasZeros, piece_length}
use Rattle.status.proofs.Frame.{same_bytes}
use Rattle.status.proofs.Headers.{zeros_from-other}

-- numbers are the same where their bytes are
little_same : (i n : ℕ) (xs ys : List ℕ) → ((k : ℕ) → i ≤ k → k < i + n → slice_index xs k ≡ slice_index ys k) → little_from i n xs ≡ little_from i n ys
little_same i zero xs ys same = refl
little_same i (suc n) xs ys same =
    let byte = same i (omega arith) (omega arith) in
    let rest = little_same (suc i) n xs ys (λ k low high. same k (omega arith) (omega arith)) in
    rw (byte, rest) refl

module _ (header : Header) (slots : List Slot) (calm content : List ℕ) (may : MayGrow header) (log : IsLog header calm slots)
    (beside : IsBeside header calm content) where
  numbers : HasNumbers header
  numbers = log.header_is.front.numbers

  few : header.pieces < 255
  few = omega (arith, may.room, numbers.some)

  old_long : length (take 512 calm) ≡ 512
  old_long = omega (arith, length-take 512 calm, beside.room)

  new_long : length (take 512 content) ≡ 512
  new_long = omega (arith, length-take 512 content, beside.long)

  front_at : (k : ℕ) → k < 512 → k ≢ next_gate header → slice_index (take 512 content) k ≡ slice_index (take 512 calm) k
  front_at k within other = get_or-take 512 content k 0 within ∙ beside.same k (omega arith) other ∙ sym (get_or-take 512 calm k 0 within)

  gate_is : slice_index (take 512 content) (next_gate header) ≡ slice_index content (next_gate header)
  gate_is = get_or-take 512 content (next_gate header) 0 (omega (arith, few))

  name_same : take 8 (take 512 content) ≡ take 8 (take 512 calm)
  name_same = same_bytes 0 8 (take 512 calm) (take 512 content) (omega (arith, old_long)) (omega (arith, new_long))
      (λ k low high. front_at k (omega arith) (omega arith))

  number_same : (from : ℕ) → from + 4 ≤ 16 → little_from 0 4 (drop from (take 512 content)) ≡ little_from 0 4 (drop from (take 512 calm))
  number_same from within =
      little_same 0 4 (drop from (take 512 content)) (drop from (take 512 calm))
      (λ k low high. get_or-drop from (take 512 content) k 0 ∙ front_at (from + k) (omega arith) (omega arith) ∙ sym (get_or-drop from (take 512 calm) k 0))

  other_gate : (i : ℕ) → i ≢ header.pieces → i < 255 → piece_gate (take 512 content) i ≡ piece_gate (take 512 calm) i
  other_gate i other within = front_at (16 + i) (omega arith) (λ same. other (omega (arith, same)))

  zeros_same : (k : ℕ) → 271 ≤ k → k < 512 → slice_index (take 512 content) k ≡ slice_index (take 512 calm) k
  zeros_same k low high = front_at k high (λ same. (let far : k < 271 = omega (arith, same, few) in absurd (omega arith)))

  from_271 : (k : ℕ) → 271 ≤ k → k < 512 → slice_index (take 512 calm) k ≡ 0
  from_271 k low high =
      log.header_is.front.zeros k (let from = zeros_from-other header.profile (λ one. absurd (omega (arith, one, may.pieces))) in omega (arith, from)) high

  zeros_271 : (p k : ℕ) → 1 < p → zeros_from p ≤ k → 271 ≤ k
  zeros_271 p k more low = let from = zeros_from-other p (λ one. absurd (omega (arith, one))) in omega (arith, from)

  -- ---- the slots

  gate_same : (n : ℕ) → n < total header → gate_at content n ≡ gate_at calm n
  gate_same n within = beside.same (slot_start n) (omega arith) (λ same. absurd (omega (arith, same, few)))

  pub body_same : (n : ℕ) → n < total header → body_at content n ≡ body_at calm n
  body_same n within =
      same_bytes (slot_start n + 1) 511 calm content (omega (arith, beside.room)) (omega (arith, beside.long))
      (λ k low high. beside.same k (omega arith) (λ same. absurd (omega (arith, same, few))))

  inside : (n : ℕ) (slot : Slot) → slice_get slots n ≡ Some slot → n < total header
  inside n slot is = let within : n < length slots = slice_get_within slots n slot is in omega (arith, log.opens.fits)

  open_same : (n : ℕ) (slot : Slot) → slice_get slots n ≡ Some slot → IsOpen content n
  open_same n slot is = gate_same n (inside n slot is) ∙ log.opens.each_open n slot is

  spelled_same : (n : ℕ) (slot : Slot) → slice_get slots n ≡ Some slot → IsSpelled header.profile n (body_at content n) slot
  spelled_same n slot is = rw (body_same n (inside n slot is)) (log.opens.each_spelled n slot is)

  -- ---- the gate is shut

  module _ (shut : slice_index content (next_gate header) ≢ 0xC7) where
    shut_front : IsFront header (take 512 content)
    shut_front = record {
      numbers = numbers;
      name = name_same ∙ log.header_is.front.name;
      says = record {
        profile = number_same 8 (omega arith) ∙ log.header_is.front.says.profile;
        slots = number_same 12 (omega arith) ∙ log.header_is.front.says.slots;
        few_pieces = log.header_is.front.says.few_pieces;
        open_pieces = λ i lt. other_gate i (omega arith) (omega (arith, few)) ∙ log.header_is.front.says.open_pieces i lt;
        next_piece = λ lt is_open. shut (sym gate_is ∙ is_open);
      };
      zeros = λ k low high. let far = zeros_271 header.profile k may.pieces low in zeros_same k far high ∙ from_271 k far high;
    }

    pub still_shut : IsLog header content slots
    still_shut = record {
      header_is = record { front = shut_front; room = beside.long };
      opens = record {
        has_room = record { few = log.opens.has_room.few; room = beside.long };
        fits = log.opens.fits;
        each_open = open_same;
        each_spelled = spelled_same;
      };
      closed = λ n behind within is_open. log.closed n behind within (sym (gate_same n within) ∙ is_open);
      pieces_closed = λ i behind within is_open. elim (cases_eq i header.pieces) [
        | inl here ↦ shut (sym gate_is ∙ subst (λ (j : ℕ). piece_gate (take 512 content) j ≡ 0xC7) here is_open)
        | inr other ↦ log.pieces_closed i behind within (sym (other_gate i other within) ∙ is_open)
      ];
    }

  -- ---- the gate is open

  module _ (zeros : HasZeros header piece_length content) (is_open : slice_index content (next_gate header) ≡ 0xC7) where
    grown_numbers : HasNumbers (grown header)
    grown_numbers = record {
      lowest = numbers.lowest;
      highest = numbers.highest;
      some = numbers.some;
      whole = λ one. absurd (omega (arith, one, may.pieces));
      total = omega (arith, may.room);
    }

    open_at : (i : ℕ) → i < header.pieces + 1 → piece_gate (take 512 content) i ≡ 0xC7
    open_at i lt = elim (cases_lt i header.pieces) [
      | inl before ↦ other_gate i (omega (arith, before)) (omega (arith, few)) ∙ log.header_is.front.says.open_pieces i before
      | inr here ↦ (let same : i ≡ header.pieces = omega arith in subst (λ (j : ℕ). piece_gate (take 512 content) j ≡ 0xC7) (sym same) (gate_is ∙ is_open))
    ]

    grown_front : IsFront (grown header) (take 512 content)
    grown_front = record {
      numbers = grown_numbers;
      name = name_same ∙ log.header_is.front.name;
      says = record {
        profile = number_same 8 (omega arith) ∙ log.header_is.front.says.profile;
        slots = number_same 12 (omega arith) ∙ log.header_is.front.says.slots;
        few_pieces = omega (arith, few);
        open_pieces = open_at;
        next_piece = λ lt opened. log.pieces_closed (header.pieces + 1) (omega arith) lt (sym (other_gate (header.pieces + 1) (omega arith) lt) ∙ opened);
      };
      zeros = λ k low high. let far = zeros_271 header.profile k may.pieces low in zeros_same k far high ∙ from_271 k far high;
    }

    grown_room : slot_start (total (grown header)) ≤ length content
    grown_room = omega (arith, zeros.long)

    pub then_grown : IsLog (grown header) content slots
    then_grown = record {
      header_is = record { front = grown_front; room = grown_room };
      opens = record {
        has_room = record { few = omega (arith, may.room); room = grown_room };
        fits = omega (arith, log.opens.fits);
        each_open = open_same;
        each_spelled = spelled_same;
      };
      closed = λ n behind within opened. elim (cases_lt n (total header)) [
        | inl low ↦ log.closed n behind low (sym (gate_same n low) ∙ opened)
        | inr high ↦ absurd (let zero = zeros.zeros (slot_start n) (omega arith) (omega arith) in cc)
      ];
      pieces_closed = λ i behind within opened. log.pieces_closed i (omega arith) within (sym (other_gate i (omega arith) within) ∙ opened);
    }

-- Contents that have the same header and slots, and no open gate behind them, hold the same log.
use Rattle.std.proofs.Common.{◌≡◌, ℕ, ◌+◌, ◌<◌, ◌≤◌, List, length, get_or, take, drop, Some, sym, ◌∙◌, arith}
use Rattle.std.specs.Prelude.{slice_get}
use Rattle.std.proofs.lemmas.List.{length-take, length-drop, get_or-take, get_or-drop, ext_get_or}
use Rattle.std.proofs.lemmas.Option.{slice_get_within}
use Rattle.wire.specs.declared.slot.Slot.{Slot}
use Rattle.status.specs.declared.header.Header.{Header}
use Rattle.status.specs.Log.{slot_start, body_at, IsLog, HasLogOf}

pub same_bytes : (at n : ℕ) (old new : List ℕ) → at + n ≤ length old → at + n ≤ length new
    → ((k : ℕ) → at ≤ k → k < at + n → get_or new k 0 ≡ get_or old k 0) → take n (drop at new) ≡ take n (drop at old)
same_bytes at n old new in_old in_new same =
    let long_old : length (take n (drop at old)) ≡ n = omega (arith, length-take n (drop at old), length-drop at old) in
    let long_new : length (take n (drop at new)) ≡ n = omega (arith, length-take n (drop at new), length-drop at new) in
    ext_get_or 0 (take n (drop at new)) (take n (drop at old)) (omega arith) (λ i lt.
    let within : i < n = omega arith in
    get_or-take n (drop at new) i 0 within
    ∙ get_or-drop at new i 0
    ∙ same (at + i) (omega arith) (omega arith)
    ∙ sym (get_or-drop at old i 0)
    ∙ sym (get_or-take n (drop at old) i 0 within))

module _ (header : Header) (slots : List Slot) (old new : List ℕ) (log : IsLog header old slots) (has : HasLogOf header slots old new) where
  below : (n : ℕ) (slot : Slot) → slice_get slots n ≡ Some slot → slot_start n + 512 ≤ slot_start (length slots)
  below n slot is = let within : n < length slots = slice_get_within slots n slot is in omega arith

  body_same : (n : ℕ) (slot : Slot) → slice_get slots n ≡ Some slot → body_at new n ≡ body_at old n
  body_same n slot is =
      let end = below n slot is in
      let fits = log.opens.fits in
      same_bytes (slot_start n + 1) 511 old new (omega (arith, log.header_is.room)) (omega (arith, has.long)) (λ k low high. has.same k (omega arith))

  front_same : take 512 new ≡ take 512 old
  front_same = same_bytes 0 512 old new (omega (arith, log.header_is.room)) (omega (arith, has.long)) (λ k low high. has.same k (omega arith))

  pub same_log : IsLog header new slots
  same_log = record {
    header_is = record { front = rw front_same log.header_is.front; room = has.long };
    opens = record {
      has_room = record { few = log.opens.has_room.few; room = has.long };
      fits = log.opens.fits;
      each_open = λ n slot is. let end = below n slot is in has.same (slot_start n) (omega arith) ∙ log.opens.each_open n slot is;
      each_spelled = λ n slot is. rw (body_same n slot is) (log.opens.each_spelled n slot is);
    };
    closed = has.shut;
    pieces_closed = λ i behind within. rw front_same (log.pieces_closed i behind within);
  }

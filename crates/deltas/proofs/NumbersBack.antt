-- The bytes of a number that was read are those that stand there.
use Rattle.std.proofs.Common.{◌≡◌, ℕ, ◌+◌, ◌≤◌, List, ◌++◌, length, take, drop, get_or, sym, ◌∙◌, ap, arith}
use Rattle.std.specs.Int.{w16, w32, w64, from_le_bytes}
use Rattle.std.proofs.lemmas.List.{length-take, length-drop, drop-drop, take-append-drop, get_or-take}
use Rattle.std.proofs.lemmas.Nat.{le_bytes_2, le_bytes_4, le_bytes_8}
use Rattle.byteorder.specs.Endian.{little_bytes, little_number}
use Rattle.wire.specs.Numbers.{u16_bytes, u32_bytes, u64_bytes}
use Rattle.wire.proofs.Zeros.{AreBytes, AreBytes-take, AreBytes-drop}

back_2 : (bytes : List ℕ) → AreBytes bytes → 2 ≤ length bytes → little_bytes 2 (little_number 2 bytes) ++ drop 2 bytes ≡ bytes
back_2 bytes small long =
    let number : little_number 2 bytes ≡ from_le_bytes w16 (take 2 bytes) =
    rw (get_or-take 2 bytes 0 0 (omega arith), get_or-take 2 bytes 1 0 (omega arith)) (omega arith) in
    let front : little_bytes 2 (little_number 2 bytes) ≡ take 2 bytes =
    le_bytes_2 (take 2 bytes) (little_number 2 bytes) (omega (arith, length-take 2 bytes)) (AreBytes-take 2 bytes small) number in
    ap (λ (xs : List ℕ). xs ++ drop 2 bytes) front ∙ take-append-drop 2 bytes

back_4 : (bytes : List ℕ) → AreBytes bytes → 4 ≤ length bytes → little_bytes 4 (little_number 4 bytes) ++ drop 4 bytes ≡ bytes
back_4 bytes small long =
    let number : little_number 4 bytes ≡ from_le_bytes w32 (take 4 bytes) =
    rw (
      get_or-take 4 bytes 0 0 (omega arith),
      get_or-take 4 bytes 1 0 (omega arith),
      get_or-take 4 bytes 2 0 (omega arith),
      get_or-take 4 bytes 3 0 (omega arith),
    ) (omega arith) in
    let front : little_bytes 4 (little_number 4 bytes) ≡ take 4 bytes =
    le_bytes_4 (take 4 bytes) (little_number 4 bytes) (omega (arith, length-take 4 bytes)) (AreBytes-take 4 bytes small) number in
    ap (λ (xs : List ℕ). xs ++ drop 4 bytes) front ∙ take-append-drop 4 bytes

back_8 : (bytes : List ℕ) → AreBytes bytes → 8 ≤ length bytes → little_bytes 8 (little_number 8 bytes) ++ drop 8 bytes ≡ bytes
back_8 bytes small long =
    let number : little_number 8 bytes ≡ from_le_bytes w64 (take 8 bytes) =
    rw (
      get_or-take 8 bytes 0 0 (omega arith),
      get_or-take 8 bytes 1 0 (omega arith),
      get_or-take 8 bytes 2 0 (omega arith),
      get_or-take 8 bytes 3 0 (omega arith),
      get_or-take 8 bytes 4 0 (omega arith),
      get_or-take 8 bytes 5 0 (omega arith),
      get_or-take 8 bytes 6 0 (omega arith),
      get_or-take 8 bytes 7 0 (omega arith),
    ) (omega arith) in
    let front : little_bytes 8 (little_number 8 bytes) ≡ take 8 bytes =
    le_bytes_8 (take 8 bytes) (little_number 8 bytes) (omega (arith, length-take 8 bytes)) (AreBytes-take 8 bytes small) number in
    ap (λ (xs : List ℕ). xs ++ drop 8 bytes) front ∙ take-append-drop 8 bytes

-- a number that is read at a place, and what stands behind it
pub then_2 : (at : ℕ) (bytes behind : List ℕ) → AreBytes bytes → at + 2 ≤ length bytes → behind ≡ drop (at + 2) bytes
    → u16_bytes (little_number 2 (drop at bytes)) ++ behind ≡ drop at bytes
unfolding u16_bytes
then_2 at bytes behind small long is =
    ap (λ (xs : List ℕ). little_bytes 2 (little_number 2 (drop at bytes)) ++ xs) (is ∙ sym (drop-drop 2 at bytes))
    ∙ back_2 (drop at bytes) (AreBytes-drop at bytes small) (omega (arith, length-drop at bytes))

pub then_4 : (at : ℕ) (bytes behind : List ℕ) → AreBytes bytes → at + 4 ≤ length bytes → behind ≡ drop (at + 4) bytes
    → u32_bytes (little_number 4 (drop at bytes)) ++ behind ≡ drop at bytes
unfolding u32_bytes
then_4 at bytes behind small long is =
    ap (λ (xs : List ℕ). little_bytes 4 (little_number 4 (drop at bytes)) ++ xs) (is ∙ sym (drop-drop 4 at bytes))
    ∙ back_4 (drop at bytes) (AreBytes-drop at bytes small) (omega (arith, length-drop at bytes))

pub then_8 : (at : ℕ) (bytes behind : List ℕ) → AreBytes bytes → at + 8 ≤ length bytes → behind ≡ drop (at + 8) bytes
    → u64_bytes (little_number 8 (drop at bytes)) ++ behind ≡ drop at bytes
unfolding u64_bytes
then_8 at bytes behind small long is =
    ap (λ (xs : List ℕ). little_bytes 8 (little_number 8 (drop at bytes)) ++ xs) (is ∙ sym (drop-drop 8 at bytes))
    ∙ back_8 (drop at bytes) (AreBytes-drop at bytes small) (omega (arith, length-drop at bytes))

-- The header of a new store, as it is written, says what it is to say.
use Rattle.std.proofs.Common.{◌≡◌, ℕ, ◌+◌, ◌-◌, ◌^◌, ◌<◌, ◌≤◌, List, ◌++◌, length, get_or, drop, replicate, refl, ◌∙◌, inl, inr, arith}
use Rattle.std.specs.Prelude.{slice_index}
use Rattle.std.proofs.lemmas.Bool.{cases_lt}
use Rattle.std.proofs.lemmas.Bool.Decides.{nat_tests}
use Rattle.std.proofs.lemmas.List.{get_or-append_right, get_or-drop, get_or-replicate, length-replicate, get_or_past}
use Rattle.byteorder.specs.Endian.{little_bytes, little_number}
use Rattle.byteorder.specs.Numbers.{little_from-bytes}
use Rattle.status.specs.Header.{zeros_from, HasNumbers, IsFront, header_front, new_header}

get_or-zeros : (n i : ℕ) → get_or {A = ℕ} (replicate n 0) i 0 ≡ 0
get_or-zeros n i = elim (cases_lt i n) [
  | inl lt ↦ get_or-replicate n i 0 0 lt
  | inr le ↦ get_or_past (replicate n 0) i 0 (omega (arith, length-replicate {A = ℕ} n 0))
]

-- zeros stand behind what is put at the front of zeros
pub zeros_stay : (front : List ℕ) (n m k : ℕ) → length front ≤ k → slice_index (front ++ drop m (replicate n 0)) k ≡ 0
zeros_stay front n m k behind =
    get_or-append_right front (drop m (replicate n 0)) (length front) k 0 refl behind
    ∙ get_or-drop m (replicate n 0) (k - length front) 0
    ∙ get_or-zeros n (m + (k - length front))

number_4 : (n : ℕ) (rest : List ℕ) → n < 2 ^ 32 → little_number 4 (little_bytes 4 n ++ rest) ≡ n
number_4 n rest lt = little_from-bytes 4 0 n rest ∙ omega arith

zeros_from-low : (profile : ℕ) → 16 ≤ zeros_from profile
zeros_from-low profile = grind (arith, nat_tests)

pub new_front : (profile slots : ℕ) (rest : List ℕ) → ((k : ℕ) → 16 ≤ k → slice_index (header_front profile slots ++ rest) k ≡ 0)
    → HasNumbers (new_header profile slots) → IsFront (new_header profile slots) (header_front profile slots ++ rest)
new_front profile slots rest zeros numbers = record {
  numbers = numbers;
  name = refl;
  says = record {
    profile = number_4 profile (little_bytes 4 slots ++ rest) (omega (arith, numbers.highest));
    slots = number_4 slots rest (omega (arith, numbers.total));
    few_pieces = omega arith;
    open_pieces = λ i lt. absurd (omega arith);
    next_piece = λ lt is_open. absurd (let zero = zeros 16 (omega arith) in cc);
  };
  zeros = λ k low high. zeros k (omega (arith, zeros_from-low profile));
}

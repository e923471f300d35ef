-- A number that was spelled is read again, whatever follows it.
use Rattle.std.proofs.Common.{◌≡◌, ℕ, ◌^◌, ◌<◌, List, ◌++◌, ◌∙◌, arith}
use Rattle.byteorder.specs.Endian.{little_bytes, little_number}
use Rattle.byteorder.specs.Numbers.{little_from-bytes}

pub number_2 : (n : ℕ) (rest : List ℕ) → n < 2 ^ 16 → little_number 2 (little_bytes 2 n ++ rest) ≡ n
number_2 n rest lt = little_from-bytes 2 0 n rest ∙ omega arith

pub number_4 : (n : ℕ) (rest : List ℕ) → n < 2 ^ 32 → little_number 4 (little_bytes 4 n ++ rest) ≡ n
number_4 n rest lt = little_from-bytes 4 0 n rest ∙ omega arith

pub number_8 : (n : ℕ) (rest : List ℕ) → n < 2 ^ 64 → little_number 8 (little_bytes 8 n ++ rest) ≡ n
number_8 n rest lt = little_from-bytes 8 0 n rest ∙ omega arith

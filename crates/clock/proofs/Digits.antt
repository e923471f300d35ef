-- The digits of a text.
use Rattle.std.proofs.Common.{◌≡◌, ℕ, ◌+◌, ◌*◌, ◌/◌, ◌%◌, ◌<◌, List, [], ◌∷◌, length, get_or, sym, arith}
use Rattle.std.proofs.lemmas.Slice.Eq.{text_from_reads}
use Rattle.clock.specs.Instant.{date_spelling, two_digits}

pair_parts : (a b x y : ℕ) → a ∷ b ∷ [] ≡ x ∷ y ∷ [] → (a ≡ x) × (b ≡ y)
pair_parts a b x y e = (cc, cc)

-- the text at i and i + 1 is the two digits of n
abbrev pub IsNumberAt : List ℕ → ℕ → ℕ → Type 0
IsNumberAt s i n = two_digits n ≡ get_or s i 0 ∷ get_or s (i + 1) 0 ∷ []

pub date_from_reads : (s : List ℕ) (c y month day : ℕ) → length s ≡ 10 → y < 100
    → IsNumberAt s 0 c → IsNumberAt s 2 y → get_or s 4 0 ≡ 45 → IsNumberAt s 5 month → get_or s 7 0 ≡ 45 → IsNumberAt s 8 day
    → s ≡ date_spelling (c * 100 + y) month day
date_from_reads s c y month day len lt e0 e2 e4 e5 e7 e8 =
    let century : (c * 100 + y) / 100 ≡ c = omega arith in
    let rest : (c * 100 + y) % 100 ≡ y = omega arith in
    let p0 = pair_parts _ _ _ _ e0 in
    let p2 = pair_parts _ _ _ _ e2 in
    let p5 = pair_parts _ _ _ _ e5 in
    let p8 = pair_parts _ _ _ _ e8 in
    text_from_reads s (date_spelling (c * 100 + y) month day) len
    (rw century (sym p0.0), (rw century (sym p0.1), (rw rest (sym p2.0), (rw rest (sym p2.1), (e4, (sym p5.0, (sym p5.1, (e7, (sym p8.0, (sym p8.1, tt))))))))))

-- Hexadecimal text in pieces.
use Rattle.std.proofs.Common.{◌≡◌, ℕ, ◌+◌, ◌*◌, ◌/◌, ◌%◌, List, [], ◌∷◌, ◌++◌, length, take, drop, map, refl, sym, ap, ◌∙◌, arith, append_assoc, append-nil}
use Rattle.std.proofs.Common.{slice_index, Result, Ok, Err, OnOk, zero, suc}
use Rattle.std.specs.List.{flat_map}
use Rattle.std.specs.Simd.{first_chunks}
use Rattle.std.proofs.lemmas.List.{take-append-drop, take-map, drop-drop}
use Rattle.std.proofs.Math.Seq.{take-append_seam}
use Rattle.hex.specs.Hex.{encode_with, encode_lower, lower_digits}
use Rattle.session.specs.Digits.{pair_text}

pub pairs-encode : (xs : List ℕ) → flat_map (λ (pair : List ℕ). pair) (map pair_text xs) ≡ encode_lower xs
unfolding encode_with
pairs-encode [] = refl
pairs-encode (x ∷ xs) = ap (λ (t : List ℕ). slice_index lower_digits (x / 16) ∷ slice_index lower_digits (x % 16) ∷ t) (pairs-encode xs)

pub encode-append : (xs ys : List ℕ) → encode_lower (xs ++ ys) ≡ encode_lower xs ++ encode_lower ys
unfolding encode_with
encode-append [] ys = refl
encode-append (x ∷ xs) ys = ap (λ (t : List ℕ). slice_index lower_digits (x / 16) ∷ slice_index lower_digits (x % 16) ∷ t) (encode-append xs ys)

-- nothing is spelled of no bytes
pub encode-none : (text xs : List ℕ) → length xs ≡ 0 → text ≡ text ++ encode_lower xs
unfolding encode_with
encode-none text [] none = sym (append-nil text)
encode-none text (x ∷ xs) none = absurd (omega arith)

-- the blocks of bytes and what is left of them
pub blocks-encode : (n k : ℕ) (xs : List ℕ) → flat_map (λ (b : List ℕ). encode_lower b) (first_chunks n k xs) ++ encode_lower (drop (k * n) xs)
    ≡ encode_lower xs
blocks-encode n zero xs =
    let none : 0 * n ≡ 0 = omega arith in
    ap (λ (m : ℕ). encode_lower (drop m xs)) none
blocks-encode n (suc k) xs =
    let count : n + k * n ≡ suc k * n = omega arith in
    let same : drop (k * n) (drop n xs) ≡ drop (suc k * n) xs = drop-drop (k * n) n xs ∙ ap (λ (m : ℕ). drop m xs) count in
    append_assoc (encode_lower (take n xs)) (flat_map (λ (b : List ℕ). encode_lower b) (first_chunks n k (drop n xs))) (encode_lower (drop (suc k * n) xs))
    ∙ ap (λ (t : List ℕ). encode_lower (take n xs) ++ t) (rw (sym same) (blocks-encode n k (drop n xs)))
    ∙ sym (encode-append (take n xs) (drop n xs)) ∙ ap encode_lower (take-append-drop n xs)

-- the digits of what stands at the front of a block
pub front-encode : (xs front ys : List ℕ) → front ≡ xs → flat_map (λ (pair : List ℕ). pair) (take (length xs) (map pair_text (front ++ ys))) ≡ encode_lower xs
front-encode xs front ys same = rw same (
    ap (flat_map (λ (pair : List ℕ). pair)) (take-map pair_text (length xs) (xs ++ ys) ∙ ap (map pair_text) (take-append_seam xs ys))
    ∙ pairs-encode xs)

-- what was written before and what is written last are the whole
pub whole_written : {T E : Type 0} (r : Result T E) (a b c done last text : List ℕ) → OnOk r (c ≡ b ++ last) → b ≡ a ++ done → done ++ last ≡ text
    → OnOk r (c ≡ a ++ text)
whole_written (Ok _) a b c done last text here before whole =
    here ∙ ap (λ (t : List ℕ). t ++ last) before ∙ append_assoc a done last ∙ ap (λ (t : List ℕ). a ++ t) whole
whole_written (Err _) a b c done last text here before whole = here

-- What is stored of a write is read as it.
use Rattle.std.proofs.Common.{◌≡◌, ℕ, ◌+◌, ◌*◌, ◌/◌, ◌%◌, ◌==◌, ◌&&◌, nat_lt, Bool, true, false, cond, List, [], ◌∷◌, length, Option, Some, None, refl, ap, sym}
use Rattle.std.proofs.Common.{◌∙◌, arith}
use Rattle.std.specs.Prelude.{bytes_eq}
use Rattle.std.specs.Cmp.Lexicographic.{bytes_decides}
use Rattle.std.proofs.lemmas.Bool.Decides.{nat_tests}
use Rattle.law_image.specs.Values.{Value}
use Rattle.law_image.specs.Reading.{Anchor, Delta}
use Rattle.law_image.specs.Facts.{patched, written, mask_of, changed_of, delta_bytes, anchor_bytes, stored}

patched-none : (mask : ℕ) (fields : Value) → patched mask [] fields ≡ fields
patched-none mask [] = refl
patched-none mask (field ∷ fields) = refl

-- a field that stays
same_field : (m : ℕ) (changed : List (List ℕ)) (o : List ℕ) (old : Value) (n : List ℕ) (new : Value) → o ≡ n → patched m changed old ≡ new
    → patched (0 + 2 * m) changed (o ∷ old) ≡ n ∷ new
same_field m [] o old n new same rest = cc (sym (patched-none m old), rest)
same_field m (c ∷ changed) o old n new same rest =
    let even : ((0 + 2 * m) % 2 == 1) ≡ false = grind (arith, nat_tests) in
    let half : (0 + 2 * m) / 2 ≡ m = omega arith in
    ap (λ b. cond b (c ∷ patched ((0 + 2 * m) / 2) changed old) (o ∷ patched ((0 + 2 * m) / 2) (c ∷ changed) old)) even
    ∙ ap (λ k. o ∷ patched k (c ∷ changed) old) half
    ∙ cc (same, rest)

patched-all : (old new : Value) → length old ≡ length new → patched (mask_of old new) (changed_of old new) old ≡ new
patched-all [] [] len = refl
patched-all [] (n ∷ new) len = absurd (omega arith)
patched-all (o ∷ old) [] len = absurd (omega arith)
patched-all (o ∷ old) (n ∷ new) len =
    let rest : patched (mask_of old new) (changed_of old new) old ≡ new = patched-all old new (omega arith) in
    let m = mask_of old new in
    let Goal : Bool → Type 0 =
    λ b. bytes_eq o n ≡ b → patched (cond b 0 1 + 2 * m) (cond b (changed_of old new) (n ∷ changed_of old new)) (o ∷ old) ≡ n ∷ new in
    let all : (b : Bool) → Goal b = λ b. elim b as Goal [
      | true ↦ λ e.
          let same : o ≡ n = (bytes_decides o n).0 e in
          same_field m (changed_of old new) o old n new same rest
      | false ↦ λ e.
          let odd : ((1 + 2 * m) % 2 == 1) ≡ true = grind (arith, nat_tests) in
          let half : (1 + 2 * m) / 2 ≡ m = omega arith in
          ap (λ b. cond b (n ∷ patched ((1 + 2 * m) / 2) (changed_of old new) old) (o ∷ patched ((1 + 2 * m) / 2) (n ∷ changed_of old new) old)) odd
          ∙ ap (λ k. n ∷ patched k (changed_of old new) old) half
          ∙ ap (λ l. n ∷ l) rest
    ] in
    all (bytes_eq o n) refl

pub written-stored : (before new : Option Value) → written before (stored before new) ≡ new
written-stored before None = refl
written-stored None (Some new) = refl
written-stored (Some old) (Some new) =
    let shorter = nat_lt (delta_bytes (changed_of old new)) (anchor_bytes new) in
    let Goal : Bool → Bool → Type 0 =
    λ a b. (length old == length new) ≡ a → written (Some old) (cond (a && b) (Delta (mask_of old new) (changed_of old new)) (Anchor new)) ≡ Some new in
    let all : (a b : Bool) → Goal a b = λ a b. elim a as (λ a. Goal a b) [
      | true ↦ elim b as (λ b. Goal true b) [
        | true ↦ λ e. let len : length old ≡ length new = grind (arith, nat_tests) in ap (λ (v : Value). Some v) (patched-all old new len)
        | false ↦ λ e. refl
      ]
      | false ↦ λ e. refl
    ] in
    all (length old == length new) shorter refl

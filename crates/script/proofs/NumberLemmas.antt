-- Reading a number from its front.
use Rattle.std.proofs.Common.{◌≡◌, ℕ, ◌+◌, ◌-◌, ◌*◌, ◌^◌, ◌<◌, ◌≤◌, true, length, take, get_or, take_all, refl, Option, Some, None, arith, ◌∙◌}
use Rattle.std.specs.List.{list_all}
use Rattle.std.specs.Char.{is_ascii_digit, digit_value}
use Rattle.std.specs.Option.{SomeIff}
use Rattle.std.proofs.lemmas.List.Folds.{list_all_more}
use Rattle.std.specs.Str.Parse.{digits_value}
use Rattle.std.proofs.lemmas.Int.Digits.{digits_value_more}
use Rattle.std.proofs.lemmas.Str.Parse.{digits_value-take-le}
use Rattle.std.proofs.lemmas.Bool.Decides.{nat_tests}
use Rattle.std.proofs.lemmas.Grind.{common_steps}
use Rattle.script.specs.Words.{Text, number_in}
use Rattle.script.specs.Lines.{most}

digit_of : (c : ℕ) → is_ascii_digit c ≡ true → digit_value c ≡ c - 48
digit_of c h = grind (arith, nat_tests)

pub number_more : (w : Text) (i : ℕ) → i < length w → is_ascii_digit (get_or w i 0) ≡ true
    → digits_value 10 (take (i + 1) w) ≡ digits_value 10 (take i w) * 10 + (get_or w i 0 - 48)
number_more w i lt digit = digits_value_more 10 w i lt ∙ rw (digit_of _ digit)

pub too_large : (w : Text) (i : ℕ) → 2 ^ 64 ≤ digits_value 10 (take i w) → number_in most w ≡ None
too_large w i h =
    let le = digits_value-take-le 10 w i (omega arith) in
    grind (arith, nat_tests, common_steps)

not_some : (r : Option ℕ) (P : Type 0) (x : ℕ) → SomeIff r P x → r ≡ None → ¬ P
not_some None P x h e = h
not_some (Some y) P x h e = absurd (let bad : Some y ≡ None = e in cc)

-- the digit after these makes a number past the greatest
pub refused_mul : (w : Text) (i value : ℕ) (r : Option ℕ) → value ≡ digits_value 10 (take i w) → i < length w
    → is_ascii_digit (get_or w i 0) ≡ true → SomeIff r (value * 10 < 18446744073709551616) (value * 10) → r ≡ None → number_in most w ≡ None
refused_mul w i value r e lt digit some none =
    let large = not_some r _ _ some none in
    too_large w (i + 1) (omega (arith, number_more w i lt digit, large))

pub refused_add : (w : Text) (i value : ℕ) (r : Option ℕ) (product d : ℕ) → value ≡ digits_value 10 (take i w) → i < length w
    → is_ascii_digit (get_or w i 0) ≡ true → product ≡ value * 10 → d ≡ get_or w i 0 - 48
    → SomeIff r (product + d < 18446744073709551616) (product + d) → r ≡ None → number_in most w ≡ None
refused_add w i value r product d e lt digit p q some none =
    let large = not_some r _ _ some none in
    too_large w (i + 1) (omega (arith, number_more w i lt digit, large))

pub whole : (w : Text) (i value : ℕ) → length w ≤ i → 0 < length w → length w ≤ 20 → list_all is_ascii_digit (take i w) ≡ true
    → value ≡ digits_value 10 (take i w) → value < 2 ^ 64 → Some value ≡ number_in most w
whole w i value le some short digits e fits =
    let all : take i w ≡ w = take_all i w le in
    let digits_w = rw all at digits in
    let e_w = rw all at e in
    grind (arith, nat_tests, common_steps)

pub next_digits : (w : Text) (i : ℕ) → i < length w → list_all is_ascii_digit (take i w) ≡ true → is_ascii_digit (get_or w i 0) ≡ true
    → list_all is_ascii_digit (take (i + 1) w) ≡ true
next_digits w i lt before digit = list_all_more is_ascii_digit w i 0 lt ∙ rw (before, digit) refl

pub next_value : (w : Text) (i value next : ℕ) → value ≡ digits_value 10 (take i w) → i < length w → is_ascii_digit (get_or w i 0) ≡ true
    → next ≡ value * 10 + (get_or w i 0 - 48) → next ≡ digits_value 10 (take (i + 1) w)
next_value w i value next e lt digit sum = omega (arith, number_more w i lt digit)

-- The text of a field means the field.
use Rattle.std.proofs.Common.{◌≡◌, ℕ, ◌==◌, ◌&&◌, if◌then◌else◌, Bool, true, false, [], ◌∷◌, ◌++◌, take, drop, refl, sym, ap, ◌∙◌, Some, arith, codes}
use Rattle.std.specs.Str.{bytes_eq}
use Rattle.std.specs.Result.{result_ok}
use Rattle.std.proofs.lemmas.Bool.Decides.{nat_tests}
use Rattle.hex.specs.Hex.{IsBytes, encode_lower}
use Rattle.hex.proofs.HexLemmas.{decode_of-encode_lower}
use Rattle.forms.specs.Fields.{Text, bytes_of_digits, escape_byte, escaped, field_of, is_hex_text, is_text, unescaped, with_byte}
use Rattle.forms.specs.Laws.{TextsMeanFields}

is : (b n : ℕ) → (b == n) ≡ true → b ≡ n
is b n e = grind (arith, nat_tests)

-- what stands for a byte, by these tests
chosen : Bool → Bool → Bool → Bool → ℕ → Text
chosen a t n r b = if a then codes "\\\\" else if t then codes "\\t" else if n then codes "\\n" else if r then codes "\\r" else b ∷ []

means_chosen : (a t n r : Bool) (b : ℕ) (rest : Text) → (b == 92) ≡ a → (b == 9) ≡ t → (b == 10) ≡ n → (b == 13) ≡ r
    → unescaped false (chosen a t n r b ++ rest) ≡ with_byte b (unescaped false rest)
unfolding chosen
means_chosen true t n r b rest ea et en er = ap (λ (m : ℕ). with_byte m (unescaped false rest)) (sym (is b 92 ea))
means_chosen false true n r b rest ea et en er = ap (λ (m : ℕ). with_byte m (unescaped false rest)) (sym (is b 9 et))
means_chosen false false true r b rest ea et en er = ap (λ (m : ℕ). with_byte m (unescaped false rest)) (sym (is b 10 en))
means_chosen false false false true b rest ea et en er = ap (λ (m : ℕ). with_byte m (unescaped false rest)) (sym (is b 13 er))
means_chosen false false false false b rest ea et en er =
    ap (λ (e : Bool). if e then unescaped true rest else with_byte b (unescaped false rest)) ea

means_byte : (b : ℕ) (rest : Text) → unescaped false (escape_byte b ++ rest) ≡ with_byte b (unescaped false rest)
unfolding chosen
means_byte b rest = means_chosen (b == 92) (b == 9) (b == 10) (b == 13) b rest refl refl refl refl

means_text : (field : Text) → unescaped false (escaped field) ≡ Some field
means_text [] = refl
means_text (b ∷ bs) = means_byte b (escaped bs) ∙ ap (with_byte b) (means_text bs)

chosen_no_hex : (a t n r : Bool) (b : ℕ) (rest : Text) → (b == 92) ≡ a → is_hex_text (chosen a t n r b ++ rest) ≡ false
unfolding chosen
chosen_no_hex true t n r b rest ea = refl
chosen_no_hex false true n r b rest ea = refl
chosen_no_hex false false true r b rest ea = refl
chosen_no_hex false false false true b rest ea = refl
chosen_no_hex false false false false b rest ea = ap (λ (e : Bool). e && bytes_eq (take 1 rest) (codes "x")) ea

no_hex : (field : Text) → is_hex_text (escaped field) ≡ false
unfolding chosen
no_hex [] = refl
no_hex (b ∷ bs) = chosen_no_hex (b == 92) (b == 9) (b == 10) (b == 13) b (escaped bs) refl

-- a text that begins so is that of bytes in hexadecimal
is_hex : (digits : Text) → field_of (codes "\\x" ++ digits) ≡ bytes_of_digits digits
is_hex digits = refl

of_text : (field : Text) → field_of (escaped field) ≡ Some field
of_text field =
    ap (λ (h : Bool). if h then bytes_of_digits (drop 2 (escaped field)) else unescaped false (escaped field)) (no_hex field) ∙ means_text field

of_hex : (field : Text) → IsBytes field → field_of (codes "\\x" ++ encode_lower field) ≡ Some field
of_hex field bytes = is_hex (encode_lower field) ∙ ap result_ok (decode_of-encode_lower field bytes)

by_test : (t : Bool) (field : Text) → IsBytes field → field_of (if t then escaped field else codes "\\x" ++ encode_lower field) ≡ Some field
by_test true field bytes = of_text field
by_test false field bytes = of_hex field bytes

pub texts_mean_fields_lem : TextsMeanFields
texts_mean_fields_lem field bytes = by_test (is_text field) field bytes

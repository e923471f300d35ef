-- How the fields of a value are spelled.
use Rattle.std.specs.Prelude.{◌≡◌, ℕ, ◌==◌, ◌&&◌, ◌||◌, nat_le, Bool, true, false, not}
use Rattle.std.specs.Prelude.{if◌then◌else◌, List, [], ◌∷◌, ◌++◌, take, drop, Option, Some, None, codes}
use Rattle.std.specs.Option.{option_map, option_and_then}
use Rattle.std.specs.Result.{result_ok}
use Rattle.std.specs.List.{flat_map, list_all}
use Rattle.std.specs.Str.{bytes_eq, is_utf8}
use Rattle.hex.specs.Hex.{decode_of, encode_lower}
use Rattle.json.specs.Token.{Token, begin_array, begin_object, end_array, end_object, key, string}

-- the bytes of a text
abbrev pub Text : Type 0
Text = List ℕ

-- ---- in hexadecimal

-- two lower-case digits a byte, or a dash where there is none
abbrev pub hex_field : Text → Text
hex_field [] = codes "-"
hex_field (b ∷ bs) = encode_lower (b ∷ bs)

-- ---- as text

-- a byte of a text that can be shown: no control character but a tab and the ends of lines
abbrev pub is_shown_byte : ℕ → Bool
is_shown_byte b = (nat_le 32 b && not (b == 127)) || ((b == 9) || ((b == 10) || (b == 13)))

abbrev pub are_shown : Text → Bool
are_shown bytes = list_all is_shown_byte bytes

-- the field is such a text, as UTF-8
abbrev pub is_text : Text → Bool
is_text field = are_shown field && is_utf8 field

-- what stands for a byte of it: an escape for a backslash, a tab and the ends of lines, else the byte
abbrev pub escape_byte : ℕ → Text
escape_byte b =
    if b == 92 then codes "\\\\" else if b == 9 then codes "\\t" else if b == 10 then codes "\\n" else if b == 13 then codes "\\r" else b ∷ []

abbrev pub escaped : Text → Text
escaped text = flat_map escape_byte text

-- The text, on one line; of a field that is none, all of its bytes in hexadecimal after an escape.
abbrev pub text_field : Text → Text
text_field field = if is_text field then escaped field else codes "\\x" ++ encode_lower field

-- the byte for which a backslash and this letter stand
abbrev pub escaped_byte : ℕ → Option ℕ
escaped_byte c = if c == 92 then Some 92 else if c == 116 then Some 9 else if c == 110 then Some 10 else if c == 114 then Some 13 else None

-- one byte before others
abbrev pub with_byte : ℕ → Option Text → Option Text
with_byte b more = option_map (λ (bs : Text). b ∷ bs) more

-- what a text means whose first byte stands after a backslash or not; none where a backslash stands before another letter or at the end
abbrev pub unescaped : Bool → Text → Option Text
unescaped false [] = Some []
unescaped true [] = None
unescaped false (b ∷ rest) = if b == 92 then unescaped true rest else with_byte b (unescaped false rest)
unescaped true (c ∷ rest) = option_and_then (λ (b : ℕ). with_byte b (unescaped false rest)) (escaped_byte c)

-- these bytes stand before those that a text means
abbrev pub prepended : Text → Option Text → Option Text
prepended before more = option_map (λ (bs : Text). before ++ bs) more

-- a byte was read: whatever follows it means the same, where it is told whether that stands after a backslash
abbrev pub ReadsByte : Text → Bool → ℕ → Text → Option Bool → Type 0
ReadsByte old is_after b new read = (rest : Text) → prepended old (unescaped is_after (b ∷ rest)) ≡ option_and_then (λ (after : Bool). prepended new
    (unescaped after rest)) read

-- the bytes that these digits spell, if they are digits
abbrev pub bytes_of_digits : Text → Option Text
bytes_of_digits digits = result_ok (decode_of digits)

-- the text begins as that of bytes in hexadecimal
abbrev pub is_hex_text : Text → Bool
is_hex_text text = bytes_eq (take 2 text) (codes "\\x")

-- the field that a text means, if it means one
abbrev pub field_of : Text → Option Text
field_of text = if is_hex_text text then bytes_of_digits (drop 2 text) else unescaped false text

-- ---- in JSON

-- a text as a string, and bytes that are none as an object with their hexadecimal digits
abbrev pub field_tokens : Text → List Token
field_tokens field = if is_utf8 field then string field ∷ [] else begin_object ∷ key (codes "hex") ∷ string (encode_lower field) ∷ end_object ∷ []

-- those of each field
abbrev pub fields_tokens : List Text → List Token
fields_tokens fields = flat_map field_tokens fields

-- the fields of a value as an array
abbrev pub value_tokens : List Text → List Token
value_tokens fields = begin_array ∷ (fields_tokens fields ++ end_array ∷ [])

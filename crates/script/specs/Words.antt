-- The words of a script line.
use Rattle.std.specs.Prelude.{ℕ, ◌+◌, ◌-◌, ◌*◌, ◌%◌, ◌==◌, ◌&&◌, ◌||◌, Bool, List, [], ◌∷◌, length, map, Option, Some, None, codes, nat_lt, if◌then◌else◌}
use Rattle.std.specs.List.{list_all, slice_split}
use Rattle.std.specs.Char.{is_ascii_digit}
use Rattle.std.specs.Str.{bytes_eq}
use Rattle.std.specs.Str.Parse.{digits_value}

-- the bytes of a line, or of a word
abbrev pub Text : Type 0
Text = List ℕ

-- a line's words, parted by one space
abbrev pub words_of : Text → List Text
words_of = slice_split (λ b. b == 32)

-- the words that are left, of a rest that may have none
abbrev pub words_left : Option Text → List Text
words_left None = []
words_left (Some text) = words_of text

-- a to z, or 0 to 9
abbrev pub is_name_byte : ℕ → Bool
is_name_byte b = (nat_lt 96 b && nat_lt b 123) || is_ascii_digit b

-- 1 to 16 of these
abbrev pub is_name : Text → Bool
is_name word = nat_lt 0 (length word) && (nat_lt (length word) 17 && list_all is_name_byte word)

-- the name that a word spells
abbrev pub name_in : Text → Option Text
name_in word = if is_name word then Some word else None

-- one to twenty digits
abbrev pub is_numeral : Text → Bool
is_numeral word = nat_lt 0 (length word) && (nat_lt (length word) 21 && list_all is_ascii_digit word)

-- the number up to `most` that a word spells
abbrev pub number_in : ℕ → Text → Option ℕ
number_in most word = if is_numeral word && nat_lt (digits_value 10 word) (most + 1) then Some (digits_value 10 word) else None

-- 0 to 9, or a to f
abbrev pub is_hex_digit : ℕ → Bool
is_hex_digit b = is_ascii_digit b || (nat_lt 96 b && nat_lt b 103)

-- the number that a hexadecimal digit stands for
abbrev pub hex_digit_value : ℕ → ℕ
hex_digit_value b = if is_ascii_digit b then b - 48 else b - 87

-- two digits a byte
abbrev pub hex_bytes : Text → Text
hex_bytes [] = []
hex_bytes (high ∷ []) = []
hex_bytes (high ∷ low ∷ rest) = (hex_digit_value high * 16 + hex_digit_value low) ∷ hex_bytes rest

-- an even number of hexadecimal digits, at least two
abbrev pub is_hex : Text → Bool
is_hex word = nat_lt 0 (length word) && ((length word % 2 == 0) && list_all is_hex_digit word)

-- the empty field
abbrev pub dash : Text
dash = codes "-"

-- a word that spells a field: a dash for the empty one, or the hexadecimal digits of its bytes
abbrev pub is_field : Text → Bool
is_field word = bytes_eq word dash || is_hex word

-- the bytes that a field's word spells
abbrev pub field_bytes : Text → Text
field_bytes word = if bytes_eq word dash then [] else hex_bytes word

-- the fields that words spell
abbrev pub fields_in : List Text → Option (List Text)
fields_in words = if list_all is_field words then Some (map field_bytes words) else None

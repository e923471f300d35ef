-- The cell of a field means the field.
use Rattle.std.proofs.Common.{◌≡◌, Bool, true, false, ◌++◌, ◌&&◌, drop, refl, ap, Some, codes, if◌then◌else◌}
use Rattle.std.specs.Prelude.{not}
use Rattle.std.specs.Result.{result_ok}
use Rattle.hex.specs.Hex.{IsBytes, encode_lower}
use Rattle.hex.proofs.HexLemmas.{decode_of-encode_lower}
use Rattle.forms.specs.Csv.{field_of_cell}
use Rattle.forms.specs.Fields.{Text, bytes_of_digits, is_hex_text, is_text}
use Rattle.forms.specs.Laws.{CellsMeanFields}

of_text : (field : Text) → is_hex_text field ≡ false → field_of_cell field ≡ Some field
of_text field plain = ap (λ (h : Bool). if h then bytes_of_digits (drop 2 field) else Some field) plain

of_hex : (field : Text) → IsBytes field → field_of_cell (codes "\\x" ++ encode_lower field) ≡ Some field
of_hex field bytes = ap result_ok (decode_of-encode_lower field bytes)

by_tests : (t h : Bool) (field : Text) → IsBytes field → is_hex_text field ≡ h
    → field_of_cell (if t && not h then field else codes "\\x" ++ encode_lower field) ≡ Some field
by_tests true false field bytes plain = of_text field plain
by_tests true true field bytes hex = of_hex field bytes
by_tests false h field bytes e = of_hex field bytes

pub cells_mean_fields_lem : CellsMeanFields
cells_mean_fields_lem field bytes = by_tests (is_text field) (is_hex_text field) field bytes refl

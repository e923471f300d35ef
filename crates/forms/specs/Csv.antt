-- Answers in CSV, as RFC 4180 has it.
use Rattle.std.specs.Prelude.{◌≡◌, ℕ, zero, suc, ◌-◌, ◌&&◌, Bool, not, if◌then◌else◌, List, [], ◌∷◌, ◌++◌, length, map, replicate, drop, Option, Some, None}
use Rattle.std.specs.Prelude.{codes}
use Rattle.std.specs.Fmt.{decimal}
use Rattle.hex.specs.Hex.{encode_lower}
use Rattle.csv.specs.Records.{Row, fields_of, partial_of}
use Rattle.csv.specs.Writing.{default_writer, row_text, with_terminator}
use Rattle.csv.specs.declared.parser.Terminator.TheVariants.{CRLF}
use Rattle.csv.specs.declared.writer.WriterBuilder.{WriterBuilder}
use Rattle.forms.specs.Fields.{Text, bytes_of_digits, is_hex_text, is_text}
use Rattle.forms.specs.Times.{Moment, time_text}

-- cells are parted by commas, and a row ends by both bytes of a line's end; a cell is in quotes exactly where it has a comma, a quote, or a byte of a line's
-- end, and a quote in it stands twice
abbrev pub rfc : WriterBuilder
rfc = with_terminator default_writer CRLF

-- the row of these cells
abbrev pub csv_line : List Text → Text
csv_line cells = row_text rfc cells

-- these cells are added, and none is begun
abbrev pub Gains : Row → Row → List Text → Type 0
Gains old new cells = (partial_of new ≡ []) × (fields_of new ≡ fields_of old ++ cells)

-- ---- the fields of a value

-- a text that is shown, and does not begin as that of bytes in hexadecimal
abbrev pub is_cell_text : Text → Bool
is_cell_text field = is_text field && not (is_hex_text field)

-- such a field is the cell itself; another one is in hexadecimal after an escape
abbrev pub cell : Text → Text
cell field = if is_cell_text field then field else codes "\\x" ++ encode_lower field

-- the field that a cell means, if it means one
abbrev pub field_of_cell : Text → Option Text
field_of_cell text = if is_hex_text text then bytes_of_digits (drop 2 text) else Some text

abbrev pub field_cells : List Text → List Text
field_cells fields = map cell fields

-- how many fields a value has, each of them, and empty cells up to the columns of the table, which has as many as its widest value
abbrev pub value_cells : ℕ → List Text → List Text
value_cells width fields = decimal (length fields) ∷ (field_cells fields ++ replicate (width - length fields) [])

-- the names of their columns: `fields`, `field1`, `field2` and so on
abbrev pub field_name : ℕ → Text
field_name number = codes "field" ++ decimal number

abbrev pub field_names : ℕ → List Text
field_names zero = []
field_names (suc n) = field_names n ++ field_name (suc n) ∷ []

abbrev pub value_names : ℕ → List Text
value_names width = codes "fields" ∷ field_names width

-- ---- tables

-- a value: its row below the names of its columns
abbrev pub value_table : List Text → Text
value_table fields = csv_line (value_names (length fields)) ++ csv_line (value_cells (length fields) fields)

-- a value, or none: then there is no row
abbrev pub found_table : Option (List Text) → Text
found_table None = csv_line (value_names 0)
found_table (Some fields) = value_table fields

-- records
abbrev pub record_names : ℕ → List Text
record_names width = codes "record" ∷ value_names width

abbrev pub record_cells : (width number : ℕ) → List Text → List Text
record_cells width number fields = decimal number ∷ value_cells width fields

-- rows: from when on and up to when a value stood, and the value
abbrev pub row_names : ℕ → List Text
row_names width = codes "from" ∷ codes "to" ∷ value_names width

abbrev pub row_cells : ℕ → Moment → Moment → List Text → List Text
row_cells width from to fields = time_text from ∷ time_text to ∷ value_cells width fields

-- What is true of the texts of fields.
use Rattle.std.specs.Prelude.{◌≡◌, List, Some, map}
use Rattle.std.specs.List.{flat_map}
use Rattle.csv.specs.Reading.{default_config, records}
use Rattle.csv.specs.Writing.{read_back}
use Rattle.hex.specs.Hex.{IsBytes}
use Rattle.forms.specs.Csv.{cell, csv_line, field_of_cell}
use Rattle.forms.specs.Fields.{Text, field_of, text_field}

-- the text of a field means that field
abbrev pub TextsMeanFields : Type 0
TextsMeanFields = (field : Text) → IsBytes field → field_of (text_field field) ≡ Some field

-- so does its cell
abbrev pub CellsMeanFields : Type 0
CellsMeanFields = (field : Text) → IsBytes field → field_of_cell (cell field) ≡ Some field

-- rows that are written as CSV are read back, with an empty cell in one that had none
abbrev pub RowsReadBack : Type 0
RowsReadBack = (rows : List (List Text)) → records default_config (flat_map csv_line rows) ≡ map read_back rows

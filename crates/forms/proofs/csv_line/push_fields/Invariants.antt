use Rattle.std.proofs.Common.{◌≡◌, ◌++◌, [], length}
use Rattle.csv.specs.Records.{fields_of, partial_of}
use Rattle.forms.specs.Csv.{field_cells}
use Rattle.forms.proofs.csv_line.push_fields.Given as goal

-- what was added, before the cells of what is left, are all cells
abbrev pub invariant-loop-field : goal.invariant-loop-field
invariant-loop-field l = (partial_of l.cells ≡ [])
    × (fields_of l.cells ++ field_cells l.left ≡ fields_of l.initial.cells ++ field_cells l.initial.left)

abbrev pub decreases-loop-field : goal.decreases-loop-field
decreases-loop-field l = length l.left

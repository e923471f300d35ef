use Rattle.forms.specs.Csv.{Gains, field_names}
use Rattle.forms.proofs.csv_line.push_names.Given as goal

abbrev pub invariant-loop-index : goal.invariant-loop-index
invariant-loop-index l = Gains l.initial.cells l.cells (field_names l.index)

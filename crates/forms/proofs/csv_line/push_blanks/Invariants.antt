use Rattle.std.proofs.Common.{[], replicate}
use Rattle.forms.specs.Csv.{Gains}
use Rattle.forms.proofs.csv_line.push_blanks.Given as goal

abbrev pub invariant-loop : goal.invariant-loop
invariant-loop l = Gains l.initial.cells l.cells (replicate l.counter [])

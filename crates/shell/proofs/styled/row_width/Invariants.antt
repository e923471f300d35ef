use Rattle.std.proofs.Common.{◌≡◌, List, drop}
use Rattle.history.specs.declared.time.Version.{Version}
use Rattle.forms.specs.Fields.{Text}
use Rattle.shell.specs.Styled.{row_width, widest}
use Rattle.shell.proofs.styled.row_width.Given as goal

-- with what is left it comes to the same
abbrev pub invariant-loop-row : goal.invariant-loop-row
invariant-loop-row l = widest (λ (row : Version (List Text)). row.value) l.width (drop l.row-index l.rows) ≡ row_width l.rows

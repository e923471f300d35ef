use Rattle.std.proofs.Common.{◌≡◌, ℕ, List, drop}
use Rattle.forms.specs.Fields.{Text}
use Rattle.shell.specs.Styled.{record_width, widest}
use Rattle.shell.proofs.styled.record_width.Given as goal

-- with what is left it comes to the same
abbrev pub invariant-loop-pair : goal.invariant-loop-pair
invariant-loop-pair l = widest (λ (pair : ℕ × List Text). pair.1) l.width (drop l.pair-index l.found) ≡ record_width l.found

use Rattle.std.proofs.Common.{Some, take}
use Rattle.shell.specs.Styled.{IsRowLine}
use Rattle.shell.proofs.DumpLemmas.{Written}
use Rattle.shell.proofs.styled.spell_versions.Given as goal

abbrev pub invariant-loop-row : goal.invariant-loop-row
invariant-loop-row l = Written (IsRowLine l.style l.width) (take l.row-index l.rows) (Some l.initial.text.items) (Some l.text.items)

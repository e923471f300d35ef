use Rattle.std.proofs.Common.{Some, take}
use Rattle.forms.specs.Lines as told
use Rattle.forms.proofs.EachLemmas.{Written}
use Rattle.forms.proofs.lines.spell_pieces.Given as goal

abbrev pub invariant-loop-time : goal.invariant-loop-time
invariant-loop-time l = Written (told.IsTimePiece l.style) (take l.time-index l.times) (Some l.initial.text.items) (Some l.text.items)

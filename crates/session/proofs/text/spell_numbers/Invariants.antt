use Rattle.std.proofs.Common.{Some, take}
use Rattle.std.specs.Io.KnownBytes.{Appends}
use Rattle.session.specs.Texts as told
use Rattle.session.proofs.text.spell_numbers.Given as goal

abbrev pub invariant-loop-number : goal.invariant-loop-number
invariant-loop-number l = Appends (Some l.initial.text.items) (Some l.text.items) (told.numbers_text (take l.number-index l.numbers))

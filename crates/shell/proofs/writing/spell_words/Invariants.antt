use Rattle.std.proofs.Common.{Some, take}
use Rattle.std.specs.Io.KnownBytes.{Appends}
use Rattle.shell.specs.Writing as told
use Rattle.shell.proofs.writing.spell_words.Given as goal

abbrev pub invariant-loop-word : goal.invariant-loop-word
invariant-loop-word l = Appends (Some l.initial.text.items) (Some l.text.items) (told.words_text l.is_text (take l.word-index l.words))

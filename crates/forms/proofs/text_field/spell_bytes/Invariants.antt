use Rattle.std.proofs.Common.{Some, take}
use Rattle.std.specs.Io.KnownBytes.{Appends}
use Rattle.forms.specs.Fields as told
use Rattle.forms.proofs.text_field.spell_bytes.Given as goal

abbrev pub invariant-loop-byte : goal.invariant-loop-byte
invariant-loop-byte l = Appends (Some l.initial.text.items) (Some l.text.items) (told.escaped (take l.byte-index l.bytes))

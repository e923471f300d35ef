use Rattle.std.proofs.Common.{◌≡◌, false, drop}
use Rattle.forms.specs.Fields as told
use Rattle.forms.proofs.text_field.unescaped.Given as goal

-- what the text means is what was read, before what is left means
abbrev pub invariant-loop-byte : goal.invariant-loop-byte
invariant-loop-byte l = told.unescaped false l.text ≡ told.prepended l.bytes.items (told.unescaped l.is_after (drop l.byte-index l.text))

use Rattle.std.proofs.Common.{◌≡◌, ◌++◌, List, length}
use Rattle.json.specs.Token.{Token}
use Rattle.forms.specs.Fields.{fields_tokens}
use Rattle.forms.specs.Json.{Adds}
use Rattle.forms.proofs.json_line.write_fields.Given as goal

-- what was written, before the tokens of what is left, are all tokens
abbrev pub invariant-loop-field : goal.invariant-loop-field
invariant-loop-field l = (written : List Token) × Adds l.initial.line l.line written × (fields_tokens l.initial.left ≡ written ++ fields_tokens l.left)

abbrev pub decreases-loop-field : goal.decreases-loop-field
decreases-loop-field l = length l.left

use Rattle.std.proofs.Common.{◌≡◌, ◌++◌, length, Some}
use Rattle.std.specs.Io.KnownBytes.{Appends}
use Rattle.forms.specs.Fields.{Text}
use Rattle.forms.specs.Lines as told
use Rattle.forms.proofs.field.spell_words.Given as goal

-- what was spelled, before the words of what is left, is the whole text
abbrev pub invariant-loop-field : goal.invariant-loop-field
invariant-loop-field l = (spelled : Text) × Appends (Some l.initial.text.items) (Some l.text.items) spelled
    × (told.field_words l.form l.initial.left ≡ spelled ++ told.field_words l.form l.left)

abbrev pub decreases-loop-field : goal.decreases-loop-field
decreases-loop-field l = length l.left

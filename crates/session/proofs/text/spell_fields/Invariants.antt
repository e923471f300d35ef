use Rattle.std.proofs.Common.{◌≡◌, ◌++◌, length, Some}
use Rattle.std.specs.Io.KnownBytes.{Appends}
use Rattle.session.specs.Texts as told
use Rattle.session.proofs.text.spell_fields.Given as goal

-- what was spelled, before the text of what is left, is the whole text
abbrev pub invariant-loop-field : goal.invariant-loop-field
invariant-loop-field l = (spelled : told.Text) × Appends (Some l.initial.text.items) (Some l.text.items) spelled
    × (told.fields_text l.initial.left ≡ spelled ++ told.fields_text l.left)

abbrev pub decreases-loop-field : goal.decreases-loop-field
decreases-loop-field l = length l.left

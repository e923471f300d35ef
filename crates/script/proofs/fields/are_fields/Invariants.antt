use Rattle.std.proofs.Common.{◌≡◌, length}
use Rattle.std.specs.List.{list_all}
use Rattle.script.specs.Words as told
use Rattle.script.proofs.fields.are_fields.Given as goal

abbrev pub invariant-loop-word : goal.invariant-loop-word
invariant-loop-word l = list_all told.is_field l.initial.words ≡ list_all told.is_field l.words

abbrev pub decreases-loop-word : goal.decreases-loop-word
decreases-loop-word l = length l.words

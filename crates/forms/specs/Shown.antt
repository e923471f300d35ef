-- The text of a time, as the program has it.
use Rattle.std.specs.Prelude.{option_map}
use Rattle.std.specs.Borrow.{Bor}
use Rattle.forms.specs.Fields.{Text}
use Rattle.forms.specs.Times.{Moment}
use Rattle.forms.specs.declared.moment.Shown.{Shown}

-- the time, and the text that it is shown by
abbrev pub moment_of : Shown → Moment
moment_of shown = record { time = shown.time; instant = option_map (λ (s : Bor Text). s.now) shown.instant }

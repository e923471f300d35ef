use Rattle.std.proofs.Common.{ap, sym, ◌∙◌}
use Rattle.command_line.specs.Moments as told
use Rattle.command_line.proofs.MomentLemmas.{second-there, third-there}
use Rattle.command_line.proofs.moment.moment.Goals as goal

pub returns-in-Some-midnight : goal.returns-in-Some-midnight
returns-in-Some-midnight c =
    let word = c.args.word.now in
    second-there (told.scripted word) (told.midnight word) (told.instant word) c.in-Some-midnight.time (sym c.in_default.is ∙ c.scripted.ensures)
    (sym c.in-Some-midnight.is ∙ (c.midnight.ensures ∙ ap told.midnight c.as_bytes.ensures.value))

pub returns : goal.returns
returns c =
    let word = c.args.word.now in
    third-there (told.scripted word) (told.midnight word) (told.instant word) c.instant.result (sym c.in_default.is ∙ c.scripted.ensures)
    (sym c.in_default-midnight.is ∙ (c.midnight.ensures ∙ ap told.midnight c.as_bytes.ensures.value)) c.instant.ensures

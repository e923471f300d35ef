use Rattle.std.proofs.Common.{ap, ◌∙◌}
use Rattle.script.specs.Lines.{time_in}
use Rattle.command_line.proofs.moment.scripted.Goals as goal

pub returns : goal.returns
returns c = c.read_time.ensures ∙ ap time_in c.as_bytes.ensures.value

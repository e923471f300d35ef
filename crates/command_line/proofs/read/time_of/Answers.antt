use Rattle.std.proofs.Common.{List, ℕ, ap, ◌∙◌}
use Rattle.script.specs.Lines.{time_in}
use Rattle.command_line.proofs.read.time_of.Goals as goal

pub returns : goal.returns
returns c = c.read_time.ensures ∙ ap (λ (text : List ℕ). time_in text) c.as_bytes.ensures.value

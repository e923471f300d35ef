use Rattle.command_line.specs.Commands.{telling, stress}
use Rattle.command_line.proofs.command.timestore.Goals as goal

pub returns : goal.returns
returns c = c.with_command.ensures telling stress c.telling.ensures c.stress.ensures

use Rattle.command_line.specs.Commands.{working, dump}
use Rattle.command_line.proofs.command.keeping.Goals as goal

pub returns : goal.returns
returns c = c.with_command.ensures working dump c.working.ensures c.dump.ensures

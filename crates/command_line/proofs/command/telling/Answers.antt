use Rattle.clap.specs.Words.{with_subcommand}
use Rattle.command_line.specs.Commands.{writing, floor, info}
use Rattle.command_line.proofs.command.telling.Goals as goal

pub returns : goal.returns
returns c =
    c.with_command.ensures (with_subcommand writing floor.top) info
    (c.with_command-command.ensures writing floor c.writing.ensures c.floor.ensures) c.info.ensures

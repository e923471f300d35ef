use Rattle.clap.specs.Words.{with_subcommand}
use Rattle.command_line.specs.Commands.{asking, vacuum, grow}
use Rattle.command_line.proofs.command.working.Goals as goal

pub returns : goal.returns
returns c =
    c.with_command.ensures (with_subcommand asking vacuum.top) grow
    (c.with_command-command.ensures asking vacuum c.asking.ensures c.vacuum.ensures) c.grow.ensures

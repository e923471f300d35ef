use Rattle.clap.specs.Words.{with_subcommand}
use Rattle.command_line.specs.Commands.{making, at, between}
use Rattle.command_line.proofs.command.asking.Goals as goal

pub returns : goal.returns
returns c =
    c.with_command.ensures (with_subcommand making at.top) between (c.with_command-command.ensures making at c.making.ensures c.at.ensures) c.between.ensures

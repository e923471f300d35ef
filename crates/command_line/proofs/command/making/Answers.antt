use Rattle.clap.specs.Words.{with_subcommand}
use Rattle.command_line.specs.Commands.{top, format, run}
use Rattle.command_line.proofs.command.making.Goals as goal

pub returns : goal.returns
returns c =
    c.with_command.ensures (with_subcommand top format.top) run (c.with_command-command.ensures top format c.top.ensures c.format.ensures) c.run.ensures

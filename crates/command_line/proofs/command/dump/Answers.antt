use Rattle.std.proofs.Common.{codes}
use Rattle.clap.specs.Words.{new_app}
use Rattle.command_line.specs.Commands.{dir}
use Rattle.command_line.proofs.command.dump.Goals as goal

pub returns : goal.returns
returns c =
    c.with_arg.ensures (new_app (codes "dump")) dir c.command-command.ensures c.dir.ensures

use Rattle.clap.specs.Words.{with_subcommand}
use Rattle.command_line.specs.Commands.{reading, put, del}
use Rattle.command_line.proofs.command.writing.Goals as goal

pub returns : goal.returns
returns c =
    c.with_command.ensures (with_subcommand reading put.top) del (c.with_command-command.ensures reading put c.reading.ensures c.put.ensures) c.del.ensures

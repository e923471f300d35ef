use Rattle.std.proofs.Common.{codes}
use Rattle.command_line.specs.Commands.{of_record, time}
use Rattle.command_line.proofs.command.at.Goals as goal

pub returns : goal.returns
returns c =
    c.with_arg.ensures (of_record (codes "at")) time c.of_record-command.ensures c.time.ensures

use Rattle.std.proofs.Common.{codes}
use Rattle.command_line.specs.Commands.{of_record, label}
use Rattle.command_line.proofs.command.del.Goals as goal

pub returns : goal.returns
returns c =
    c.with_arg.ensures (of_record (codes "del")) label c.of_record-command.ensures c.label.ensures

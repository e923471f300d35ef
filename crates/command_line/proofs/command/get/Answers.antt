use Rattle.std.proofs.Common.{codes}
use Rattle.clap.specs.Words.{with_rule}
use Rattle.command_line.specs.Commands.{of_record, time_or_now}
use Rattle.command_line.proofs.command.get.Goals as goal

pub returns : goal.returns
returns c = c.with_forms.ensures (with_rule (of_record (codes "get")) time_or_now)
    (c.with_arg.ensures (of_record (codes "get")) time_or_now c.of_record-command.ensures c.time_or_now.ensures)

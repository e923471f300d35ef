use Rattle.std.proofs.Common.{codes}
use Rattle.clap.specs.Words.{App, with_rule}
use Rattle.command_line.specs.Commands.{of_record, from_or_first, to_or_now}
use Rattle.command_line.proofs.command.history.Goals as goal

pub returns : goal.returns
returns c =
    let record_named : App = of_record (codes "history") in
    c.with_styles.ensures (with_rule (with_rule record_named from_or_first) to_or_now)
    (c.with_arg.ensures (with_rule record_named from_or_first) to_or_now
    (c.with_arg-command.ensures record_named from_or_first c.of_record-command.ensures c.from_or_first.ensures) c.to_or_now.ensures)

use Rattle.std.proofs.Common.{codes}
use Rattle.clap.specs.Words.{App, with_rule}
use Rattle.command_line.specs.Commands.{of_record, from, to}
use Rattle.command_line.proofs.command.between.Goals as goal

pub returns : goal.returns
returns c =
    let record_named : App = of_record (codes "between") in
    c.with_arg.ensures (with_rule record_named from) to (c.with_arg-command.ensures record_named from c.of_record-command.ensures c.from.ensures) c.to.ensures

use Rattle.std.proofs.Common.{codes}
use Rattle.clap.specs.Words.{App, with_rule}
use Rattle.command_line.specs.Commands.{of_record, fields, label, text_flag}
use Rattle.command_line.proofs.command.put.Goals as goal

pub returns : goal.returns
returns c =
    let record_named : App = of_record (codes "put") in
    c.with_arg.ensures (with_rule (with_rule record_named fields) label) text_flag
    (c.with_arg-command-2.ensures (with_rule record_named fields) label
    (c.with_arg-command.ensures record_named fields c.of_record-command.ensures c.fields.ensures) c.label.ensures) c.text_flag.ensures

use Rattle.std.proofs.Common.{codes}
use Rattle.clap.specs.Words.{App, new_app, with_rule}
use Rattle.command_line.specs.Commands.{dir, label_number}
use Rattle.command_line.proofs.command.times.Goals as goal

pub returns : goal.returns
returns c =
    let name : App = new_app (codes "times") in
    c.with_styles.ensures (with_rule (with_rule name dir) label_number)
    (c.with_arg.ensures (with_rule name dir) label_number (c.with_arg-command.ensures name dir c.command-command.ensures c.dir.ensures) c.label_number.ensures)

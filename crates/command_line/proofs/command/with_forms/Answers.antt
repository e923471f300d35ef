use Rattle.clap.specs.Words.{with_rule}
use Rattle.command_line.specs.Commands.{csv_flag, json_flag, text_flag}
use Rattle.command_line.proofs.command.with_forms.Goals as goal

pub returns : goal.returns
returns c = λ app is.
    let texts = with_rule app text_flag in
    let both = with_rule texts json_flag in
    c.with_arg.ensures both csv_flag (c.with_arg-command-2.ensures texts json_flag (c.with_arg-command.ensures app text_flag is c.text_flag.ensures)
    c.json_flag.ensures) c.csv_flag.ensures

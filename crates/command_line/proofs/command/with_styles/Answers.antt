use Rattle.command_line.specs.Commands.{instants_flag, with_forms}
use Rattle.command_line.proofs.command.with_styles.Goals as goal

pub returns : goal.returns
returns c = λ app is. c.with_arg.ensures (with_forms app) instants_flag (c.with_forms-command.ensures app is) c.instants_flag.ensures

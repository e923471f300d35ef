use Rattle.std.proofs.Common.{codes}
use Rattle.clap.specs.Words.{App, new_app, with_rule}
use Rattle.command_line.specs.Commands.{dir, json_flag}
use Rattle.command_line.proofs.command.info.Goals as goal

pub returns : goal.returns
returns c =
    let name : App = new_app (codes "info") in
    c.with_arg.ensures (with_rule name dir) json_flag (c.with_arg-command.ensures name dir c.command-command.ensures c.dir.ensures) c.json_flag.ensures

use Rattle.std.proofs.Common.{codes}
use Rattle.clap.specs.Words.{App, new_app, with_rule}
use Rattle.command_line.specs.Commands.{dir, relation, time}
use Rattle.command_line.proofs.command.floor.Goals as goal

pub returns : goal.returns
returns c =
    let name : App = new_app (codes "floor") in
    let with_dir = c.with_arg-command.ensures name dir c.command-command.ensures c.dir.ensures in
    c.with_arg.ensures (with_rule (with_rule name dir) relation) time
    (c.with_arg-command-2.ensures (with_rule name dir) relation with_dir c.relation.ensures) c.moment.ensures

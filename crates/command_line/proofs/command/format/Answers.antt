use Rattle.std.proofs.Common.{codes}
use Rattle.clap.specs.Words.{App, new_app, with_rule}
use Rattle.command_line.specs.Commands.{dir, extents, profile, slots}
use Rattle.command_line.proofs.command.format.Goals as goal

pub returns : goal.returns
returns c =
    let name : App = new_app (codes "format") in
    c.with_arg.ensures (with_rule (with_rule (with_rule name dir) profile) slots) extents
    (c.with_arg-command-3.ensures (with_rule (with_rule name dir) profile) slots
    (c.with_arg-command-2.ensures (with_rule name dir) profile
    (c.with_arg-command.ensures name dir c.command-command.ensures c.dir.ensures) c.profile.ensures) c.slots.ensures) c.extents.ensures

use Rattle.std.proofs.Common.{codes}
use Rattle.clap.specs.Words.{App, new_app, with_rule}
use Rattle.command_line.specs.Commands.{writers, readers, rounds}
use Rattle.command_line.proofs.command.stress.Goals as goal

pub returns : goal.returns
returns c =
    let name : App = new_app (codes "stress") in
    let with_writers = c.with_arg-command.ensures name writers c.command-command.ensures c.writers.ensures in
    c.with_arg.ensures (with_rule (with_rule name writers) readers) rounds
    (c.with_arg-command-2.ensures (with_rule name writers) readers with_writers c.readers.ensures) c.rounds.ensures

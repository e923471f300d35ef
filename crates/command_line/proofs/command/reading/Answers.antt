use Rattle.clap.specs.Words.{App, with_subcommand}
use Rattle.command_line.specs.Commands.{keeping, get, scan, history, times}
use Rattle.command_line.proofs.command.reading.Goals as goal

pub returns : goal.returns
returns c =
    let with_get : App = with_subcommand keeping get.top in
    let with_scan : App = with_subcommand with_get scan.top in
    let getting = c.with_command-command.ensures keeping get c.keeping.ensures c.get.ensures in
    let scanning = c.with_command-command-2.ensures with_get scan getting c.scan.ensures in
    c.with_command.ensures (with_subcommand with_scan history.top) times
    (c.with_command-command-3.ensures with_scan history scanning c.history.ensures) c.times.ensures

use Rattle.clap.specs.Words.{found_of, rows_of}
use Rattle.command_line.proofs.AskLemmas.{no_label}
use Rattle.command_line.proofs.read.times.Goals as goal

pub returns-in_err-label-clause-none : goal.returns-in_err-label-clause-none
returns-in_err-label-clause-none c = rw c.from_residual.ensures (no_label (rows_of (found_of c.args.matches.now)) c.in_err-label.ensures.none)

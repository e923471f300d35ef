use Rattle.clap.specs.Words.{found_of, rows_of}
use Rattle.command_line.proofs.AskLemmas.{no_key}
use Rattle.command_line.proofs.read.at.Goals as goal

pub returns-in_err-key-clause-none : goal.returns-in_err-key-clause-none
returns-in_err-key-clause-none c = rw c.from_residual-in_err-key.ensures (no_key (rows_of (found_of c.args.matches.now)) c.in_err-key.ensures.none)

use Rattle.clap.specs.Words.{found_of, rows_of}
use Rattle.command_line.proofs.AskLemmas.{no_key_history}
use Rattle.command_line.proofs.read.history.Goals as goal

pub returns-in_err-key-clause-none : goal.returns-in_err-key-clause-none
returns-in_err-key-clause-none c = rw c.from_residual.ensures (no_key_history (rows_of (found_of c.args.matches.now)) c.in_err-key.ensures.none)

use Rattle.clap.specs.Words.{found_of, rows_of}
use Rattle.command_line.proofs.AskLemmas.{no_floor}
use Rattle.command_line.proofs.read.floor.Goals as goal

pub returns-in_err-relation-clause-none : goal.returns-in_err-relation-clause-none
returns-in_err-relation-clause-none c = rw c.from_residual.ensures (no_floor (rows_of (found_of c.args.matches.now)) c.in_err-relation.ensures.none)

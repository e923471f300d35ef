use Rattle.clap.specs.Words.{found_of, rows_of}
use Rattle.command_line.proofs.AskLemmas.{no_delete}
use Rattle.command_line.proofs.read.del.Goals as goal

pub returns-in_err-key-clause-none : goal.returns-in_err-key-clause-none
returns-in_err-key-clause-none c = rw c.from_residual.ensures
    (no_delete c.args.now (rows_of (found_of c.args.matches.now)) (λ dir write asked. c.in_err-key.ensures.none write.key asked.1))

pub returns-in_err-u64_of-clause-none : goal.returns-in_err-u64_of-clause-none
returns-in_err-u64_of-clause-none c = rw c.from_residual-in_err-u64_of.ensures
    (no_delete c.args.now (rows_of (found_of c.args.matches.now)) (λ dir write asked. c.in_err-u64_of.ensures.none write.label asked.4))

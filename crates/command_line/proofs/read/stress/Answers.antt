use Rattle.clap.specs.Words.{found_of, rows_of}
use Rattle.command_line.proofs.AskLemmas.{no_stress}
use Rattle.command_line.proofs.read.stress.Goals as goal

pub returns-in_err-u8_of-clause-none : goal.returns-in_err-u8_of-clause-none
returns-in_err-u8_of-clause-none c =
    rw c.from_residual.ensures (no_stress (rows_of (found_of c.args.matches.now)) (λ writers readers rounds asked. c.in_err-u8_of.ensures.none writers asked.0))

pub returns-in_err-u8_of-2-clause-none : goal.returns-in_err-u8_of-2-clause-none
returns-in_err-u8_of-2-clause-none c = rw c.from_residual-in_err-u8_of-2.ensures
    (no_stress (rows_of (found_of c.args.matches.now)) (λ writers readers rounds asked. c.in_err-u8_of-2.ensures.none readers asked.1))

pub returns-in_err-u16_of-clause-none : goal.returns-in_err-u16_of-clause-none
returns-in_err-u16_of-clause-none c = rw c.from_residual-in_err-u16_of.ensures
    (no_stress (rows_of (found_of c.args.matches.now)) (λ writers readers rounds asked. c.in_err-u16_of.ensures.none rounds asked.2))

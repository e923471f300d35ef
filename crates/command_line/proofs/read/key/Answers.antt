use Rattle.command_line.proofs.read.key.Goals as goal

pub returns-in_err-u16_of-clause-none : goal.returns-in_err-u16_of-clause-none
returns-in_err-u16_of-clause-none c = rw c.from_residual.ensures (λ k asked. c.in_err-u16_of.ensures.none k.relation asked.0)

pub returns-in_err-u64_of-clause-none : goal.returns-in_err-u64_of-clause-none
returns-in_err-u64_of-clause-none c = rw c.from_residual-in_err-u64_of.ensures (λ k asked. c.in_err-u64_of.ensures.none k.«record» asked.1)

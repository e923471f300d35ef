use Rattle.law_layout.proofs.Unique.{one_log, one_chain}
use Rattle.law_layout.proofs.laws.bytes_are_one.Goals as goal

pub returns-clause-log : goal.returns-clause-log
returns-clause-log c = λ header bytes a b log_a log_b. one_log header bytes a b log_a log_b

pub returns-clause-chain : goal.returns-clause-chain
returns-clause-chain c =
    λ heap first extents records records' a b list list' is_a is_b held_a held_b. one_chain heap first extents records records' a b list list' is_a is_b held_a
    held_b

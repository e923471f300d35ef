use Rattle.std.proofs.Common.{arith}
use Rattle.std.proofs.lemmas.Grind.{common_steps}
use Rattle.archive.proofs.blocks.BlockReader.read_front.Goals as goal

pub returns-in_err-read_block-clause-kept : goal.returns-in_err-read_block-clause-kept
returns-in_err-read_block-clause-kept g c = grind (arith, common_steps)

pub returns-then-not-branch-clause-kept : goal.returns-then-not-branch-clause-kept
returns-then-not-branch-clause-kept g c = grind (arith, common_steps)

pub returns-then-not-branch-clause-answers : goal.returns-then-not-branch-clause-answers
returns-then-not-branch-clause-answers g c = grind (arith, common_steps)

pub returns-clause-kept : goal.returns-clause-kept
returns-clause-kept g c = grind (arith, common_steps)

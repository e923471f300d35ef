use Rattle.std.proofs.Common.{arith}
use Rattle.std.proofs.lemmas.Grind.{common_steps}
use Rattle.status.proofs.status_log.StatusLog.next_piece.Goals as goal

pub returns-then-self-gt-MOST_SLOTS : goal.returns-then-self-gt-MOST_SLOTS
returns-then-self-gt-MOST_SLOTS c = grind (arith, common_steps)

pub returns-else-self-gt-MOST_SLOTS : goal.returns-else-self-gt-MOST_SLOTS
returns-else-self-gt-MOST_SLOTS c = grind (arith, common_steps)

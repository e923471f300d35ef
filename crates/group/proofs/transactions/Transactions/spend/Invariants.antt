use Rattle.std.proofs.Common.{deque_len}
use Rattle.group.proofs.transactions.Transactions.spend.Given as goal

abbrev pub decreases-loop-queued : goal.decreases-loop-queued
decreases-loop-queued l = deque_len l.queue

use Rattle.std.proofs.Common.{◌≡◌, take, map}
use Rattle.group.specs.Queued.{QueuedValue}
use Rattle.arrayvec.specs.ArrayVec.{array_vec_len}
use Rattle.group.proofs.transactions.Transactions.slot_body.Given as goal

abbrev pub invariant-loop-place : goal.invariant-loop-place
invariant-loop-place l = record {
  many : array_vec_len l.members ≡ l.place;
  items : l.members.items ≡ map (λ (q : QueuedValue). q.entry) (take l.place l.self.queue);
}

use Rattle.std.proofs.Common.{◌≡◌}
use Rattle.log_shown.proofs.Showing.{IsUpTo}
use Rattle.log_shown.proofs.items.count_before.Given as goal

abbrev pub invariant-loop-item : goal.invariant-loop-item
invariant-loop-item l = (l.count ≡ l.item-index) × IsUpTo l.place l.items l.item-index

use Rattle.std.proofs.Common.{◌≡◌, ◌++◌, length, map}
use Rattle.group.specs.CommitOrder.{IsRisingAfter, last_time}
use Rattle.log_store.specs.Opens.{head_as}
use Rattle.log_store.proofs.opening.heads_of.Given as goal

abbrev pub invariant-loop-commit : goal.invariant-loop-commit
invariant-loop-commit l =
    (l.heads.items ++ map head_as l.rest ≡ map head_as l.fn.commits) × IsRisingAfter 0 l.heads.items × (l.last ≡ last_time l.heads.items)

abbrev pub decreases-loop-commit : goal.decreases-loop-commit
decreases-loop-commit l = length l.rest

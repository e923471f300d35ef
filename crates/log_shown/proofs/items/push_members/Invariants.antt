use Rattle.std.proofs.Common.{◌≡◌, ◌++◌, length, map}
use Rattle.log_shown.specs.Shown.{member_item}
use Rattle.log_shown.proofs.items.push_members.Given as goal

abbrev pub invariant-loop-rest : goal.invariant-loop-rest
invariant-loop-rest l = l.items.items ++ map member_item l.rest ≡ l.fn.items.items ++ map member_item l.members

abbrev pub decreases-loop-rest : goal.decreases-loop-rest
decreases-loop-rest l = length l.rest

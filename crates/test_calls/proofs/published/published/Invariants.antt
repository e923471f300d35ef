use Rattle.std.proofs.Common.{◌≤◌}
use Rattle.chains.specs.KeyWrites.{latest}
use Rattle.test_calls.proofs.published.published.Given as goal

-- what is published is as old as the last commit, or older
abbrev pub invariant-loop-time : goal.invariant-loop-time
invariant-loop-time l = latest l.frozen ≤ l.last

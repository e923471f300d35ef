use Rattle.std.proofs.Common.{◌≤◌}
use Rattle.chains.specs.KeyWrites.{latest}
use Rattle.test_calls.proofs.key_versions.many_keys.Given as goal

-- all of them are older than the next one
abbrev pub invariant-loop-number : goal.invariant-loop-number
invariant-loop-number l = latest l.frozen ≤ l.number

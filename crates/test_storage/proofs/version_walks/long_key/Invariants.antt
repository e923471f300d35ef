use Rattle.std.proofs.Common.{◌*◌, ◌<◌, ◌≤◌}
use Rattle.chains.specs.KeyWrites.{latest}
use Rattle.test_storage.proofs.version_walks.long_key.Given as goal

-- all of them are older than the next one
abbrev pub invariant-loop-number : goal.invariant-loop-number
invariant-loop-number l = record {
  begun : 1 ≤ l.number;
  older : latest l.frozen < l.number * 10;
}

use Rattle.std.proofs.Common.{◌≡◌, ◌++◌, ◌<◌, map}
use Rattle.std.specs.List.Sorted.{IsStrictlySortedBy}
use Rattle.history.specs.declared.key.KeyWrite.{KeyWrite}
use Rattle.history.specs.Key.{key_cmp}
use Rattle.chains.specs.KeyWrites.{IsOrdered, latest, with_commit}
use Rattle.chains.specs.Writes.{Value}
use Rattle.chains.proofs.committing.into_with_writes.Given as goal

-- what was put and what the writes that are left make of the chains that are left is all
abbrev pub invariant-loop-chain : goal.invariant-loop-chain
invariant-loop-chain l = record {
  ordered : IsOrdered l.chain-iterator.rest.items;
  earlier : latest l.chain-iterator.rest.items < l.time;
  rising : IsStrictlySortedBy key_cmp (map (λ (w : KeyWrite Value). w.key) l.left);
  put : l.found.items ++ with_commit l.chain-iterator.rest.items l.time l.left ≡ with_commit l.fn.chains.items l.time l.fn.writes;
}

use Rattle.std.proofs.Common.{◌≡◌, take}
use Rattle.log_shown.specs.Shown.{items_of}
use Rattle.log_shown.proofs.items.items_of.Given as goal

abbrev pub invariant-loop-chain : goal.invariant-loop-chain
invariant-loop-chain l = l.items.items ≡ items_of (take l.chain-index l.chains)

use Rattle.std.proofs.Common.{◌≡◌, ◌++◌, take}
use Rattle.chains.proofs.share.add_shared.Given as goal

-- those so far
abbrev pub invariant-loop-item : goal.invariant-loop-item
invariant-loop-item g l = l.found.items ≡ l.initial.found.items ++ take l.item-index l.items

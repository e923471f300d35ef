use Rattle.std.proofs.Common.{◌≡◌, ◌<◌, ◌≤◌, ◌-◌, length, take}
use Rattle.chains.specs.Shapes.{highest}
use Rattle.chains.proofs.branching.padded.Given as goal

abbrev pub invariant-loop-all : goal.invariant-loop-all
invariant-loop-all l = record {
  some : 0 < length l.all.items;
  within : length l.all.items ≤ 32;
  front : take (length l.fn.branches.items) l.all.items ≡ l.fn.branches.items;
  low : highest l.all.items ≤ highest l.fn.branches.items;
}

abbrev pub decreases-loop-all : goal.decreases-loop-all
decreases-loop-all l = 32 - length l.all.items

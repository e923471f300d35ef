use Rattle.std.proofs.Common.{◌≡◌, ◌++◌, length, map}
use Rattle.std.specs.Vec.Iter.{into_iter_items}
use Rattle.deltas.specs.Extents.{extent_bytes}
use Rattle.deltas.specs.Chains.{chain_of}
use Rattle.group.proofs.sealing.seal_images.Given as goal

abbrev pub invariant-loop-numbers : goal.invariant-loop-numbers
invariant-loop-numbers l =
    l.images.items ++ map extent_bytes (chain_of l.numbers (into_iter_items l.bodies)) ≡ map extent_bytes (chain_of l.extents l.fn.bodies.items)

abbrev pub decreases-loop-numbers : goal.decreases-loop-numbers
decreases-loop-numbers l = length l.numbers

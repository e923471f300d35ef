-- A fork is higher than each node below it.
use Rattle.std.specs.Prelude.{◌+◌, ◌≤◌, max, List, [], ◌∷◌}
use Rattle.std.proofs.Common.{arith}
use Rattle.chains.specs.KeyWrites.{KeyWrites}
use Rattle.chains.specs.Shapes.{Shape, highest}
use Rattle.chains.specs.KeyNodes.{chains_in}
use Rattle.chains.specs.declared.key_node.KeyInside.{KeyInside}
use Rattle.chains.specs.declared.key_node.KeyInside.TheVariants.{Leaf, Fork}
use Rattle.chains.specs.declared.key_node.KeyNode.TheDeep.{deep-KeyInside}
use denote.Param.Weighed.{most}

-- the most of the nodes' heights, each with one more, is at most one more than the highest of them
most-highest : (ns : List (Shape KeyWrites)) → most (λ n. n.height + 1) ns ≤ highest ns + 1
most-highest [] = omega arith
most-highest (n ∷ ns) = omega (arith, most-highest ns)

-- what stands inside a node is no deeper than its height says
pub depth_le-height : (i : KeyInside) → max (deep-KeyInside i) 0 ≤ (chains_in i).height
depth_le-height (Leaf first shared) = omega arith
depth_le-height (Fork first shared) = omega (arith, most-highest shared.value.items)

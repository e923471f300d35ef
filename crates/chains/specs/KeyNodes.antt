-- The chains of all keys in nodes: chains that lie together, and below one another several nodes that lie together.
use Rattle.std.specs.Prelude.{◌≡◌, ◌+◌, ◌≤◌, true, false, List, [], ◌∷◌, ◌++◌, length, Option, None, Some, Result, Ok, Err}
use Rattle.history.specs.declared.key.Key.{Key}
use Rattle.chains.specs.declared.bound.Bound.{Bound}
use Rattle.chains.specs.declared.key_node.KeyParts.{KeyParts}
use Rattle.chains.specs.declared.key_node.KeyParts.TheVariants.{Chains, Nodes}
use Rattle.chains.specs.declared.key_node.OwnParts.{OwnParts}
use Rattle.chains.specs.declared.key_node.OwnParts.TheVariants as own
use Rattle.chains.specs.declared.key_node.KeyInside.{KeyInside}
use Rattle.chains.specs.declared.key_node.KeyInside.TheVariants.{Leaf, Fork}
use Rattle.chains.specs.Bounds.{is_in}
use Rattle.chains.specs.KeyWrites.{KeyWrites, IsOrdered}
use Rattle.chains.specs.Shapes.{Shape, all_of, highest, leaf, fork_of}

-- the chains of the node on top, if there is one
abbrev pub chains_below : Option (Shape KeyWrites) → List KeyWrites
chains_below None = []
chains_below (Some node) = node.chunks

-- what lies in a node, in the order of the keys, and how many forks stand above one another in it
abbrev pub chains_in : KeyInside → Shape KeyWrites
chains_in (Leaf first shared) = leaf shared.value.items
chains_in (Fork first shared) = fork_of (highest shared.value.items + 1) shared.value.items

-- there are chains, of which the first is of this key
abbrev pub BeginAt : Key → List KeyWrites → Type 0
BeginAt first [] = 1 ≤ 0
BeginAt first (c ∷ cs) = first ≡ c.key

-- a node holds some chains in the order of their keys, and says the first of these
abbrev pub IsKeyNode : KeyInside → Type 0
IsKeyNode (Leaf first shared) = BeginAt first shared.value.items × IsOrdered shared.value.items
IsKeyNode (Fork first shared) = BeginAt first (all_of shared.value.items) × IsOrdered (all_of shared.value.items)

-- a node is a fork of these
pub record IsKeyFork (fork : Shape KeyWrites) (nodes : List (Shape KeyWrites)) : Type 0 where
  pub chains : all_of nodes ≡ fork.chunks
  pub height : fork.height ≡ highest nodes + 1
  pub ordered : IsOrdered (all_of nodes)
  pub some : 1 ≤ length nodes

-- what a node is made of
abbrev pub AreKeyParts : Shape KeyWrites → KeyParts → Type 0
AreKeyParts node (Chains chains) = (node ≡ leaf chains.now) × IsOrdered chains.now
AreKeyParts node (Nodes nodes) = IsKeyFork node nodes.now

-- what a node is made of, that can be given away
abbrev pub IsMadeOf : Shape KeyWrites → OwnParts → Type 0
IsMadeOf node (own.Chains chains) = (node ≡ leaf chains.items) × IsOrdered chains.items
IsMadeOf node (own.Nodes nodes) = IsKeyFork node nodes.items

-- what a node is made of, or else the node itself
abbrev pub IsMadeOfOwn : Shape KeyWrites → Result OwnParts (Shape KeyWrites) → Type 0
IsMadeOfOwn node (Ok parts) = IsMadeOf node parts
IsMadeOfOwn node (Err same) = same ≡ node

-- there are chains, of which the first is without the bound
abbrev pub BeginWithout : Bound → List KeyWrites → Type 0
BeginWithout bound [] = 1 ≤ 0
BeginWithout bound (c ∷ cs) = is_in bound c.key ≡ false

-- there are chains, of which the first is within the bound
abbrev pub BeginWithin : Bound → List KeyWrites → Type 0
BeginWithin bound [] = 1 ≤ 0
BeginWithin bound (c ∷ cs) = is_in bound c.key ≡ true

-- there are nodes, of which the first begins without the bound
abbrev pub FirstWithout : Bound → List (Shape KeyWrites) → Type 0
FirstWithout bound [] = 1 ≤ 0
FirstWithout bound (n ∷ ns) = BeginWithout bound n.chunks

-- the first of some nodes, if there is one, begins within the bound
abbrev pub FirstWithin : Bound → List (Shape KeyWrites) → Type 0
FirstWithin bound [] = Unit {0}
FirstWithin bound (n ∷ ns) = BeginWithin bound n.chunks

-- behind some nodes come those of which the first begins without the bound
abbrev pub WithoutBehind : Bound → List (Shape KeyWrites) → List (Shape KeyWrites) → Type 0
WithoutBehind bound [] rest = Unit {0}
WithoutBehind bound (n ∷ ns) rest = FirstWithout bound rest

-- all of these are within the bound
abbrev pub AreWithin : Bound → List KeyWrites → Type 0
AreWithin bound [] = Unit {0}
AreWithin bound (c ∷ cs) = (is_in bound c.key ≡ true) × AreWithin bound cs

-- the chains of all nodes but the first are within the bound
abbrev pub AreWithinBehind : Bound → List (Shape KeyWrites) → Type 0
AreWithinBehind bound [] = Unit {0}
AreWithinBehind bound (n ∷ ns) = AreWithin bound (all_of ns)

-- these are the last of all nodes, and begin with the last one that begins without the bound, or are all where none does
pub record IsFromBound (bound : Bound) (all rest : List (Shape KeyWrites)) : Type 0 where
  pub front : List (Shape KeyWrites)
  pub parts : all ≡ front ++ rest
  pub begun : WithoutBehind bound front rest
  pub later : AreWithinBehind bound rest

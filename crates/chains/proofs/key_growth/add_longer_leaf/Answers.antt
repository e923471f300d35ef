use Rattle.std.proofs.Common.{[], ◌∷◌}
use Rattle.chains.proofs.Order.{ordered-front}
use Rattle.chains.proofs.key_growth.add_longer_leaf.Goals as goal

pub add_leaf-requires-2 : goal.add_leaf-requires-2
add_leaf-requires-2 c = ordered-front c.args.chains.items (c.args.chain ∷ []) c.requires

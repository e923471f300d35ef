use Rattle.std.proofs.Common.{◌∙◌, sym, arith}
use Rattle.chains.specs.Bounds.{is_in}
use Rattle.chains.specs.KeyWrites.{KeyWrites}
use Rattle.chains.proofs.KeyNodes.{rest_low, rest_least}
use Rattle.chains.proofs.Shapes.{behind_low, find_first, find_behind}
use Rattle.chains.proofs.key_node.KeyNode.+least.Goals as goal

pub loop-rest-init : goal.loop-rest-init
loop-rest-init t c = record { low = rest_low c.in-Nodes.ensures c.from_bound-rest.ensures; found = rest_least c.in-Nodes.ensures c.from_bound-rest.ensures }

pub returns-in-Some : goal.returns-in-Some
returns-in-Some t c =
    sym (find_first c.loop-rest.rest.now c.in-len1-up.len_at_least c.node-item.is (λ (d : KeyWrites). is_in c.args.bound d.key) c.in-Some.chain.now
    (sym c.in-Some.ensures)) ∙ c.loop-rest.invariant.found

pub loop-rest-preserved : goal.loop-rest-preserved
loop-rest-preserved t c = record {
  low = omega (arith, behind_low c.loop-rest.rest.now c.in-len1-up.len_at_least c.node-item.is, c.loop-rest.invariant.low);
  found = find_behind c.loop-rest.rest.now c.in-len1-up.len_at_least c.node-item.is (λ (d : KeyWrites). is_in c.args.bound d.key)
      (sym c.in_default-least.ensures) ∙ c.loop-rest.invariant.found;
}

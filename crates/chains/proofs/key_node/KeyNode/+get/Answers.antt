use Rattle.std.proofs.Common.{◌<◌, ◌∙◌, sym, arith, rules}
use Rattle.chains.proofs.KeyNodes.{none_without, node_lower, node_key}
use Rattle.chains.proofs.key_node.KeyNode.+get.Goals as goal

pub returns-then-without-eq0 : goal.returns-then-without-eq0
returns-then-without-eq0 t c = sym (none_without c.in-Nodes.ensures _ _ c.without_count-without.ensures.after c.if-without-eq0.true)

pub get-requires : goal.get-requires
get-requires t c =
    let count = c.without_count-without.ensures in
    let some : 0 < c.without_count-without.result = omega (arith, c.if-without-eq0.false) in
    let low = node_lower c.in-Nodes.ensures _ _ count.after some count.within c.index-nodes-without.is in
    search rules

pub returns-else-without-eq0 : goal.returns-else-without-eq0
returns-else-without-eq0 t c =
    let count = c.without_count-without.ensures in
    let some : 0 < c.without_count-without.result = omega (arith, c.if-without-eq0.false) in
    c.get.ensures ∙ sym (node_key c.in-Nodes.ensures _ _ count.after some count.within c.index-nodes-without.is count.before)

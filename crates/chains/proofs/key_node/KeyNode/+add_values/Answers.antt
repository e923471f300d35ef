use Rattle.std.proofs.Common.{◌∙◌, ◌++◌, ap, sym, arith, append-nil, append_assoc}
use Rattle.chains.specs.Rows.{of_relation}
use Rattle.chains.specs.Scans.{shown_value}
use Rattle.chains.specs.Shapes.{all_of}
use Rattle.chains.proofs.KeyNodes.{rest_low, rest_ordered, fork_relation, relation_first, relation_late, behind_ordered}
use Rattle.chains.proofs.Shapes.{behind, behind_low}
use Rattle.chains.proofs.key_node.KeyNode.+add_values.Goals as goal

pub loop-rest-init : goal.loop-rest-init
loop-rest-init t c = record {
  low = rest_low c.in-Nodes.ensures c.from_bound-rest.ensures;
  ordered = rest_ordered c.in-Nodes.ensures c.from_bound-rest.ensures;
  left = ap (λ l. c.args.found.now.items ++ l) (fork_relation c.in-Nodes.ensures (shown_value c.args.time) c.from_bound-rest.ensures);
}

pub returns-then-relation-first_key : goal.returns-then-relation-first_key
returns-then-relation-first_key t c =
    let none =
    relation_late c.loop-rest.rest.now c.in-len1-up.len_at_least c.node-item.is c.args.relation (shown_value c.args.time) c.first_key.result
    c.first_key.ensures c.if-relation-first_key.true c.loop-rest.invariant.ordered in
    sym (append-nil c.loop-rest.found.items) ∙ ap (λ l. c.loop-rest.found.items ++ l) (sym none) ∙ c.loop-rest.invariant.left

pub loop-rest-preserved : goal.loop-rest-preserved
loop-rest-preserved t c =
    let rest = c.loop-rest.rest.now in
    let some = c.in-len1-up.len_at_least in
    let here = of_relation c.args.relation (shown_value c.args.time) c.node-item.result.chunks in
    let later = of_relation c.args.relation (shown_value c.args.time) (all_of (behind rest)) in
    record {
      low = omega (arith, behind_low rest some c.node-item.is, c.loop-rest.invariant.low);
      ordered = behind_ordered rest some c.node-item.is c.loop-rest.invariant.ordered;
      left =
          ap (λ l. l ++ later) c.in_ok-add_values.ensures
          ∙ append_assoc c.loop-rest.found.items here later
          ∙ ap (λ l. c.loop-rest.found.items ++ l) (sym (relation_first rest some c.node-item.is c.args.relation (shown_value c.args.time)))
          ∙ c.loop-rest.invariant.left;
    }

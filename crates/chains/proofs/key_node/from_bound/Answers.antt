use Rattle.std.proofs.Common.{List, sym, subst}
use Rattle.std.proofs.lemmas.List.{take_rest}
use Rattle.chains.specs.KeyNodes.{IsFromBound}
use Rattle.chains.specs.KeyWrites.{KeyWrites}
use Rattle.chains.specs.Shapes.{Shape}
use Rattle.chains.proofs.KeyNodes.{is-from}
use Rattle.chains.proofs.key_node.from_bound.Goals as goal

pub returns : goal.returns
returns c =
    let ns = c.args.nodes.now in
    subst (λ (rest : List (Shape KeyWrites)). IsFromBound c.args.bound ns rest) (sym (take_rest ns c.saturating_sub.result))
    (is-from c.args.bound c.without_count-without.result c.saturating_sub.result ns c.saturating_sub.ensures c.without_count-without.ensures.before
    c.without_count-without.ensures.after c.requires)

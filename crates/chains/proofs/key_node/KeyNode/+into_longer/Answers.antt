use Rattle.std.proofs.Common.{◌≡◌, ◌<◌, ◌∙◌, ◌∷◌, ◌++◌, [], List, ap, sym, subst, arith, rules, append_assoc}
use Rattle.chains.specs.KeyNodes.{IsKeyFork}
use Rattle.chains.specs.KeyWrites.{KeyWrites, IsOrdered}
use Rattle.chains.specs.Shapes.{all_of}
use Rattle.chains.proofs.Order.{ordered-back}
use Rattle.chains.proofs.RowParts.{on-ok}
use Rattle.chains.proofs.Shapes.{popped, popped_low}
use Rattle.chains.proofs.key_node.KeyNode.+into_longer.Goals as goal

pub into_longer-requires : goal.into_longer-requires
into_longer-requires t c =
    let fork : IsKeyFork c.args.self c.in-Nodes.nodes.items = rw c.in-Nodes.is at c.in_ok-parts.ensures in
    let low : c.in-Some.last.height < c.args.self.height = omega (arith, fork.height, popped_low _ _ c.in-Some.ensures.items) in
    let whole : c.args.self.chunks ++ c.args.chain ∷ [] ≡ all_of c.pop.new.self.items ++ (c.in-Some.last.chunks ++ c.args.chain ∷ []) =
    ap (λ (l : List KeyWrites). l ++ c.args.chain ∷ []) (sym fork.chains ∙ popped _ _ c.in-Some.ensures.items)
    ∙ append_assoc (all_of c.pop.new.self.items) c.in-Some.last.chunks (c.args.chain ∷ []) in
    let ordered = ordered-back (all_of c.pop.new.self.items) (c.in-Some.last.chunks ++ c.args.chain ∷ []) (subst IsOrdered whole c.requires) in
    search rules

pub add_longer_fork-requires : goal.add_longer_fork-requires
add_longer_fork-requires t c =
    let fork : IsKeyFork c.args.self c.in-Nodes.nodes.items = rw c.in-Nodes.is at c.in_ok-parts.ensures in
    let whole : c.args.self.chunks ++ c.args.chain ∷ [] ≡ all_of c.pop.new.self.items ++ (c.in-Some.last.chunks ++ c.args.chain ∷ []) =
    ap (λ (l : List KeyWrites). l ++ c.args.chain ∷ []) (sym fork.chains ∙ popped _ _ c.in-Some.ensures.items)
    ∙ append_assoc (all_of c.pop.new.self.items) c.in-Some.last.chunks (c.args.chain ∷ []) in
    subst IsOrdered (whole ∙ sym c.in_ok-into_longer-in-Nodes.ensures) c.requires

pub returns-in_ok-into_longer-in-Nodes : goal.returns-in_ok-into_longer-in-Nodes
returns-in_ok-into_longer-in-Nodes t c =
    let fork : IsKeyFork c.args.self c.in-Nodes.nodes.items = rw c.in-Nodes.is at c.in_ok-parts.ensures in
    let whole : c.args.self.chunks ++ c.args.chain ∷ [] ≡ all_of c.pop.new.self.items ++ (c.in-Some.last.chunks ++ c.args.chain ∷ []) =
    ap (λ (l : List KeyWrites). l ++ c.args.chain ∷ []) (sym fork.chains ∙ popped _ _ c.in-Some.ensures.items)
    ∙ append_assoc (all_of c.pop.new.self.items) c.in-Some.last.chunks (c.args.chain ∷ []) in
    on-ok c.add_longer_fork.result (λ e. e
    ∙ ap (λ (l : List KeyWrites). all_of c.args.found.now.items ++ l) (c.in_ok-into_longer-in-Nodes.ensures ∙ sym whole)) c.add_longer_fork.ensures

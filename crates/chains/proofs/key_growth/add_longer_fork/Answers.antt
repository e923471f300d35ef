use Rattle.std.proofs.Common.{◌≡◌, ◌∙◌, ◌++◌, List, ap, sym, subst, append-nil}
use Rattle.chains.specs.KeyWrites.{KeyWrites, IsOrdered}
use Rattle.chains.specs.Shapes.{all_of}
use Rattle.chains.proofs.Order.{ordered-front}
use Rattle.chains.proofs.RowParts.{on-ok}
use Rattle.chains.proofs.Shapes.{popped, put-two}
use Rattle.chains.proofs.key_growth.add_longer_fork.Goals as goal

pub add_fork-requires-2 : goal.add_fork-requires-2
add_fork-requires-2 c = ordered-front (all_of c.pop.new.self.items) c.in-Some.node.chunks (subst IsOrdered (popped _ _ c.in-Some.ensures.items) c.requires)

pub returns : goal.returns
returns c =
    let alone : all_of c.push.new.self.items ≡ c.in-Some.node.chunks =
    rw (c.in_ok-push.ensures.items, c.in_ok-last.ensures.items) (append-nil c.in-Some.node.chunks) in
    on-ok c.add_fork-3.result
    (λ e. put-two (all_of c.args.found.now.items) (all_of c.add_fork-2.new.found.items) (all_of c.add_fork-3.new.found.items) (all_of c.pop.new.self.items)
    (all_of c.push.new.self.items) (all_of c.args.nodes.items)
    c.in_ok-add_fork.ensures e (popped _ _ c.in-Some.ensures.items ∙ ap (λ (l : List KeyWrites). all_of c.pop.new.self.items ++ l) (sym alone)))
    c.add_fork-3.ensures

use Rattle.std.proofs.Common.{◌≡◌, ◌++◌, [], List, sym, subst}
use Rattle.chains.specs.KeyWrites.{KeyWrites, IsOrdered}
use Rattle.chains.proofs.Order.{ordered-back}
use Rattle.chains.proofs.RowParts.{on-ok}
use Rattle.chains.proofs.key_parts.put_full_leaf.Goals as goal

pub returns-clause-ordered : goal.returns-clause-ordered
returns-clause-ordered c =
    let empty : c.replace-full.new.dest.items ≡ [] = rw c.replace-full.ensures.after c.in_ok-next.ensures.items in
    on-ok c.add_leaf.result (λ e rest o. subst (λ (l : List KeyWrites). IsOrdered (l ++ rest)) (sym empty) (ordered-back c.args.part.now.items rest o))
    c.add_leaf.ensures

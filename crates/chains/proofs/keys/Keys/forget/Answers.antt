use Rattle.std.proofs.Common.{◌≡◌, sym, subst}
use Rattle.chains.specs.KeyWrites.{IsOrdered}
use Rattle.chains.proofs.Order.{ordered-forgotten}
use Rattle.chains.proofs.keys.Keys.forget.Goals as goal

pub of-requires : goal.of-requires
of-requires c =
    let view : c.in-Some.node.chunks ≡ c.args.self.now = rw c.in-Some.is at c.self.view_is in
    rw (c.in_ok-add_kept.ensures.is, c.in_ok-nodes.ensures.items) (ordered-forgotten c.args.mark c.in-Some.node.chunks (subst IsOrdered (sym view) c.requires))

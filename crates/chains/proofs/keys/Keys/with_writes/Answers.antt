use Rattle.std.proofs.Common.{◌≡◌, sym, subst}
use Rattle.chains.specs.KeyWrites.{IsOrdered}
use Rattle.chains.proofs.CommitParts.{ordered-with_commit}
use Rattle.chains.proofs.keys.Keys.with_writes.Goals as goal

pub of-requires : goal.of-requires
of-requires c =
    let view : c.in-Some.node.chunks ≡ c.args.self.now = rw c.in-Some.is at c.self.view_is in
    rw (
      c.in_ok-add_written.ensures,
      c.in_ok-nodes.ensures.items,
    ) (ordered-with_commit c.in-Some.node.chunks c.args.time c.args.writes.now (subst IsOrdered (sym view) c.requires.ordered))

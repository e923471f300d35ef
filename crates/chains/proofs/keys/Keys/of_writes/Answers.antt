use Rattle.std.proofs.Common.{[]}
use Rattle.chains.proofs.CommitParts.{ordered-with_commit}
use Rattle.chains.proofs.keys.Keys.of_writes.Goals as goal

pub of-requires : goal.of-requires
of-requires c = rw (c.in_ok-add_alone.ensures, c.in_ok-nodes.ensures.items) (ordered-with_commit [] c.args.time c.args.writes.now tt)

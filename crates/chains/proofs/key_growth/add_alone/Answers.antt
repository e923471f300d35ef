use Rattle.std.proofs.Common.{[]}
use Rattle.chains.proofs.CommitParts.{ordered-with_commit}
use Rattle.chains.proofs.key_growth.add_alone.Goals as goal

pub add_leaves-requires : goal.add_leaves-requires
add_leaves-requires c = rw (c.in_ok-add_new.ensures, c.in_ok-chains.ensures.items) (ordered-with_commit [] c.args.time c.args.writes.now tt)

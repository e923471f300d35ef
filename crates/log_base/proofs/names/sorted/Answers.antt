use Rattle.log_base.proofs.Naming.{names-between}
use Rattle.log_base.proofs.names.sorted.Goals as goal

pub returns : goal.returns
returns c =
    names-between c.args.after c.args.upto c.args.heads.now _ _ c.requires c.in_ok-names.ensures c.sort_unstable.ensures.permutation
    c.sort_unstable.ensures.sorted

use Rattle.std.proofs.Common.{◌∙◌, List, map, ap}
use Rattle.group.specs.declared.commit_order.CommitHead.{CommitHead}
use Rattle.log_base.specs.Names.{name_of, named_between}
use Rattle.log_base.proofs.NamesTold.{between-told}
use Rattle.log_base.proofs.laws.heads_are.Goals as goal

pub returns : goal.returns
returns c = λ mark upto told heads are.
    ap (λ (hs : List CommitHead). map name_of (named_between mark upto hs)) are.heads_are
    ∙ between-told mark upto are.kept are.late are.before told are.waiting are.kept_early are.before_early are.names_are are.waiting_late

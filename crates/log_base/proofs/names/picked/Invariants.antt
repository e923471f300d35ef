use Rattle.std.proofs.Common.{◌≡◌, ◌++◌, map, length}
use Rattle.log_base.specs.Names.{head_of, name_of, named_between}
use Rattle.log_base.proofs.names.picked.Given as goal

abbrev pub invariant-loop-rest : goal.invariant-loop-rest
invariant-loop-rest l =
    map head_of l.names.items ++ map name_of (named_between l.after l.upto l.rest) ≡ map name_of (named_between l.after l.upto l.heads)

abbrev pub decreases-loop-rest : goal.decreases-loop-rest
decreases-loop-rest l = length l.rest

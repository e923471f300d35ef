use Rattle.std.proofs.Common.{◌≡◌, ◌+◌, ◌*◌, ◌<◌, ◌^◌, length}
use Rattle.law_log_sizes.specs.Sizes.{len_behind}
use Rattle.log_sizes.specs.Counted.{values_in}
use Rattle.log_sizes.proofs.lens.len_with_all.Given as goal

abbrev pub invariant-loop-rest : goal.invariant-loop-rest
invariant-loop-rest l =
    (l.behind + 4116 * length l.rest < 2 ^ 63)
    × (len_behind l.behind (values_in l.before) l.rest ≡ len_behind l.fn.len (values_in l.fn.before) l.fn.writes)

abbrev pub decreases-loop-rest : goal.decreases-loop-rest
decreases-loop-rest l = length l.rest

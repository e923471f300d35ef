use Rattle.std.proofs.Common.{◌≡◌, drop}
use Rattle.std.specs.List.{list_all}
use Rattle.group.specs.Values.{is_of_value}
use Rattle.commits.proofs.submit.gone_is_of_value.Given as goal

abbrev pub invariant-loop-w : goal.invariant-loop-w
invariant-loop-w l = list_all (is_of_value l.versions l.snapshot) (drop l.w-index l.writes) ≡ list_all (is_of_value l.versions l.snapshot) l.writes

use Rattle.std.proofs.Common.{◌≡◌, ◌++◌, length}
use Rattle.std.specs.List.{flat_map}
use Rattle.log_entries.specs.Writing.{IsLonger}
use Rattle.log_entries.proofs.encode.push_list.Given as goal

abbrev pub invariant-loop-rest : goal.invariant-loop-rest
invariant-loop-rest g l = record {
  all : l.out.items ++ flat_map g.W.Written.spelled l.rest ≡ l.initial.out.items ++ flat_map g.W.Written.spelled l.list;
  longer : IsLonger l.initial.out.items l.out.items;
}

abbrev pub decreases-loop-rest : goal.decreases-loop-rest
decreases-loop-rest g l = length l.rest

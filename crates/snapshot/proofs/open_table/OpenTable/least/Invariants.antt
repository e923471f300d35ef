use Rattle.std.proofs.Common.{◌≡◌, length}
use Rattle.snapshot.specs.OpenTable.{least_with, least_open}
use Rattle.snapshot.proofs.open_table.OpenTable.least.Given as goal

abbrev pub invariant-loop-rest : goal.invariant-loop-rest
invariant-loop-rest l = least_with l.least l.rest ≡ least_open l.self

abbrev pub decreases-loop-rest : goal.decreases-loop-rest
decreases-loop-rest l = length l.rest

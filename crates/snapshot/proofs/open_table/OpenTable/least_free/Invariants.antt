use Rattle.std.proofs.Common.{◌≤◌, length, ◌-◌}
use Rattle.snapshot.specs.OpenTable.{least_free}
use Rattle.snapshot.proofs.open_table.OpenTable.least_free.Given as goal

abbrev pub invariant-loop-place : goal.invariant-loop-place
invariant-loop-place l = l.place ≤ least_free l.self

abbrev pub decreases-loop-place : goal.decreases-loop-place
decreases-loop-place l = length l.self - l.place

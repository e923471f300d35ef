use Rattle.std.proofs.Common.{◌≡◌, length, map}
use Rattle.shared.specs.Posted.{write_of}
use Rattle.shared.proofs.copied.are_copies.Given as goal

abbrev pub invariant-loop-rest : goal.invariant-loop-rest
invariant-loop-rest l = map write_of l.rest ≡ l.left → map write_of l.changes ≡ l.writes

abbrev pub decreases-loop-rest : goal.decreases-loop-rest
decreases-loop-rest l = length l.rest

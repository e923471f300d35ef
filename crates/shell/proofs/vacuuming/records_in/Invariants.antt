use Rattle.std.proofs.Common.{◌≡◌, length}
use Rattle.shell.specs.Vacuums.{records_in}
use Rattle.shell.proofs.vacuuming.records_in.Given as goal

abbrev pub invariant-loop-rest : goal.invariant-loop-rest
invariant-loop-rest l = records_in l.job l.upto l.initial.rest ≡ records_in l.job l.upto l.rest

abbrev pub decreases-loop-rest : goal.decreases-loop-rest
decreases-loop-rest l = length l.rest

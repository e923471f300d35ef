use Rattle.std.proofs.Common.{◌≡◌, length}
use Rattle.shell.specs.Vacuums.{records_among}
use Rattle.shell.proofs.job_records.records_among.Given as goal

abbrev pub invariant-loop-rest : goal.invariant-loop-rest
invariant-loop-rest l = records_among l.job l.upto l.initial.rest ≡ records_among l.job l.upto l.rest

abbrev pub decreases-loop-rest : goal.decreases-loop-rest
decreases-loop-rest l = length l.rest

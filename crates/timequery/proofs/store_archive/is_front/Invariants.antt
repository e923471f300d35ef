use Rattle.std.proofs.Common.{◌≡◌, length}
use Rattle.timequery.specs.Archives.{is_front}
use Rattle.timequery.proofs.store_archive.is_front.Given as goal

abbrev pub invariant-loop-rest : goal.invariant-loop-rest
invariant-loop-rest l = is_front l.rest l.left ≡ is_front l.runs l.others

abbrev pub decreases-loop-rest : goal.decreases-loop-rest
decreases-loop-rest l = length l.rest

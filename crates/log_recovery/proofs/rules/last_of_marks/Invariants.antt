use Rattle.std.proofs.Common.{◌≡◌, ◌↔◌, length}
use Rattle.law_log.specs.Chains.{AreMarksTo}
use Rattle.log_recovery.specs.Following.{uptos_in, last_upto}
use Rattle.log_recovery.proofs.rules.last_of_marks.Given as goal

abbrev pub invariant-loop-rest : goal.invariant-loop-rest
invariant-loop-rest l = record {
  marks : AreMarksTo l.end l.mark (uptos_in l.rest) ↔ AreMarksTo l.end l.before (uptos_in l.archives);
  last : last_upto l.mark (uptos_in l.rest) ≡ last_upto l.before (uptos_in l.archives);
}

abbrev pub decreases-loop-rest : goal.decreases-loop-rest
decreases-loop-rest l = length l.rest

use Rattle.std.proofs.Common.{◌≡◌, ◌↔◌, length}
use Rattle.std.specs.List.{AllByRecursion}
use Rattle.law_image.specs.Log.{last_time_after, AreRisingAfter}
use Rattle.log_entries.specs.Ranges.{IsMember}
use Rattle.log_recovery.specs.Following.{group_heads}
use Rattle.log_recovery.proofs.rules.last_of_rising.Given as goal

abbrev pub invariant-loop-rest : goal.invariant-loop-rest
invariant-loop-rest l = record {
  each : AllByRecursion IsMember l.rest;
  rising : AreRisingAfter l.time (group_heads l.rest) ↔ AreRisingAfter l.last (group_heads l.members);
  last : last_time_after l.time (group_heads l.rest) ≡ last_time_after l.last (group_heads l.members);
}

abbrev pub decreases-loop-rest : goal.decreases-loop-rest
decreases-loop-rest l = length l.rest

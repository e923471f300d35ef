use Rattle.std.proofs.Common.{◌≡◌, length}
use Rattle.std.specs.Prelude.{◌↔◌}
use Rattle.log_recovery.specs.Ends.{AreBasesSmall}
use Rattle.log_recovery.proofs.shares.are_bases_small.Given as goal

abbrev pub invariant-loop-chain : goal.invariant-loop-chain
invariant-loop-chain l = AreBasesSmall l.fn.most l.rest ↔ AreBasesSmall l.fn.most l.fn.chains

abbrev pub decreases-loop-chain : goal.decreases-loop-chain
decreases-loop-chain l = length l.rest

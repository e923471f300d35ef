use Rattle.std.proofs.Common.{take}
use Rattle.log_recovery.specs.Rules.{mark_of}
use Rattle.log_recovery.specs.Following.{IsEndOf}
use Rattle.log_recovery.proofs.rules.check_rules.Given as goal

abbrev pub invariant-loop-chain : goal.invariant-loop-chain
invariant-loop-chain l = IsEndOf (mark_of l.chains) (take l.chain-index l.chains) l.end

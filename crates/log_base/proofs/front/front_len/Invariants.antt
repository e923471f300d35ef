use Rattle.std.proofs.Common.{◌≡◌, ◌+◌, length}
use Rattle.log_base.specs.Bases.{front_len}
use Rattle.log_base.proofs.front.front_len.Given as goal

abbrev pub invariant-loop-rest : goal.invariant-loop-rest
invariant-loop-rest l = record {
  len : l.len + front_len l.mark l.rest ≡ front_len l.mark l.chains;
  within : l.len + length l.rest ≡ length l.chains;
}

abbrev pub decreases-loop-rest : goal.decreases-loop-rest
decreases-loop-rest l = length l.rest

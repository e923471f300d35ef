use Rattle.std.proofs.Common.{◌↔◌, length}
use Rattle.log_extents.specs.Chains.{IsNew}
use Rattle.log_extents.proofs.chain_reader.is_new.Given as goal

abbrev pub invariant-loop-rest : goal.invariant-loop-rest
invariant-loop-rest l = IsNew l.number l.rest ↔ IsNew l.number l.numbers

abbrev pub decreases-loop-rest : goal.decreases-loop-rest
decreases-loop-rest l = length l.rest

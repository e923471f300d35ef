use Rattle.std.proofs.Common.{◌↔◌, length, map}
use Rattle.wire.specs.Fields.{AreShort}
use Rattle.wire.proofs.value.are_short.Given as goal

abbrev pub invariant-loop-rest : goal.invariant-loop-rest
invariant-loop-rest l = AreShort (map (λ part. part.now) l.rest) ↔ AreShort (map (λ part. part.now) l.parts)

abbrev pub decreases-loop-rest : goal.decreases-loop-rest
decreases-loop-rest l = length l.rest

use Rattle.std.proofs.Common.{◌≡◌, ◌≤◌, ◌+◌, ◌++◌, length, map}
use Rattle.wire.specs.Fields.{AreShort}
use Rattle.wire.proofs.fields.Fields.gather.Given as goal

abbrev pub invariant-loop-rest : goal.invariant-loop-rest
invariant-loop-rest l = record {
  so_far : l.fields ++ map (λ part. part.now) l.rest ≡ map (λ part. part.now) l.parts;
  few : length l.fields + length l.rest ≤ 16;
  short : AreShort (map (λ part. part.now) l.rest);
}

abbrev pub decreases-loop-rest : goal.decreases-loop-rest
decreases-loop-rest l = length l.rest

use Rattle.std.proofs.Common.{◌≡◌, ◌++◌, length}
use Rattle.std.specs.Prelude.{map}
use Rattle.chains.specs.Writes.{Write}
use Rattle.chains.proofs.full_chunk.times_of.Given as goal

-- what was put, and what is left, is all
abbrev pub invariant-loop-rest : goal.invariant-loop-rest
invariant-loop-rest l = l.times.items ++ map (λ (w : Write). w.time) l.rest ≡ map (λ (w : Write). w.time) l.writes

abbrev pub decreases-loop-rest : goal.decreases-loop-rest
decreases-loop-rest l = length l.rest

use Rattle.std.proofs.Common.{◌≡◌, length}
use Rattle.std.specs.Prelude.{find}
use Rattle.chains.specs.Bounds.{is_in}
use Rattle.chains.specs.KeyWrites.{KeyWrites}
use Rattle.chains.proofs.key_queries.first_within.Given as goal

abbrev pub invariant-loop-rest : goal.invariant-loop-rest
invariant-loop-rest l = find (λ (c : KeyWrites). is_in l.bound c.key) l.rest ≡ find (λ (c : KeyWrites). is_in l.bound c.key) l.chains

abbrev pub decreases-loop-rest : goal.decreases-loop-rest
decreases-loop-rest l = length l.rest

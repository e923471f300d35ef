use Rattle.std.proofs.Common.{sym, subst}
use Rattle.std.specs.Prelude.{List, ℕ}
use Rattle.clock.specs.Instant.{Spells}
use Rattle.clock.proofs.instant.read_instant.Goals as goal

pub returns-clause-only : goal.returns-clause-only
returns-clause-only c = λ t spells.
    let P : List ℕ → Type 0 = λ text. Spells text t in
    c.read_instant_bytes.ensures.only t (subst P (sym c.as_bytes.ensures.value) spells)

use Rattle.std.proofs.Common.{rules, ◌≡◌, ℕ, List, subst}
use Rattle.log_roots.specs.Roots.{HasRoots}
use Rattle.log_recovery.proofs.roots.read_roots.Goals as goal

pub returns-in-None-clause-fault : goal.returns-in-None-clause-fault
returns-in-None-clause-fault g c = λ told roots reads.
    let absurdity = c.in-None.ensures.only roots (subst (λ (l : List ℕ). HasRoots l roots) (search rules) reads.has) in cc

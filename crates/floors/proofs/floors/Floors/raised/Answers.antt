use Rattle.std.proofs.Common.{sym, subst, rules}
use Rattle.floors.specs.Floors.{AreRising}
use Rattle.floors.proofs.floors.Floors.raised.Goals as goal

pub invariant_of-result : goal.invariant_of-result
invariant_of-result c = subst (λ v. AreRising v.items) (sym c.in_ok-new.ensures.ok) c.in_ok-own.ensures.rising

use Rattle.std.proofs.Common.{◌≡◌, ◌++◌, map, length}
use Rattle.std.specs.List.{AllByRecursion}
use Rattle.deltas.specs.Chains.{IsPermitted}
use Rattle.deltas.specs.declared.chain.Kinds.TheVariants.{OfAnchors}
use Rattle.recovery.specs.Anchored.{anchor_writes}
use Rattle.recovery.proofs.anchors.anchored.Given as goal

abbrev pub invariant-loop-anchor : goal.invariant-loop-anchor
invariant-loop-anchor l =
    (l.chains ++ map anchor_writes l.rest ≡ map anchor_writes l.fn.anchors) × AllByRecursion (λ r. IsPermitted (OfAnchors l.fn.mark) r.content) l.rest

abbrev pub decreases-loop-anchor : goal.decreases-loop-anchor
decreases-loop-anchor l = length l.rest

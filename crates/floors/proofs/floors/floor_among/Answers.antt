use Rattle.std.proofs.Common.{◌≡◌, nat_lt, rules, of_calls, arith, ap, sym, ◌∙◌}
use Rattle.std.proofs.lemmas.Fn.{always_returns_same}
use Rattle.floors.specs.declared.floors.OwnFloor.{OwnFloor}
use Rattle.floors.proofs.Owns.{partitioned, floor-at, not_there, any_default}
use Rattle.floors.proofs.floors.floor_among.Goals as goal
use Rattle.floors.proofs.floors.floor_among.Goals.{else-place-own-via-then-place-own+else-own-place, else-place-own-via-else-place-own}

pub returns-then-own-place : goal.returns-then-own-place
returns-then-own-place c =
    let own = c.args.own.now in
    let point =
    c.partition_point-place.ensures.partitioned (λ (o : OwnFloor). nat_lt o.relation c.args.relation)
    (always_returns_same _ _ _ (λ a r f k. search (rules, of_calls))) (partitioned c.args.relation own c.requires) in
    floor-at c.args.every c.args.relation own c.partition_point-place.result _ (λ k e low low'. point.0 k e (omega arith) low) c.if-place-own.true
    c.if-own-place.true

pub returns-else-place-own : goal.returns-else-place-own
returns-else-place-own c =
    let own = c.args.own.now in
    let place = c.partition_point-place.result in
    let point =
    c.partition_point-place.ensures.partitioned (λ (o : OwnFloor). nat_lt o.relation c.args.relation)
    (always_returns_same _ _ _ (λ a r f k. search (rules, of_calls))) (partitioned c.args.relation own c.requires) in
    elim c.else-place-own.branch [
      | else-place-own-via-then-place-own+else-own-place w ↦ not_there c.args.every c.args.relation own place c.requires point
          (λ d low is. w.if-own-place.false (ap (λ (o : OwnFloor). o.relation) (any_default own place _ d low) ∙ is))
      | else-place-own-via-else-place-own w ↦ not_there c.args.every c.args.relation own place c.requires point
          (λ d low is. absurd (omega (arith, w.if-place-own.false, low)))
    ]

use Rattle.std.proofs.Common.{nat_lt, rules, of_calls, arith, ◌∙◌}
use Rattle.std.proofs.lemmas.Fn.{always_returns_same}
use Rattle.group.specs.declared.commit_order.CommitHead.{CommitHead}
use Rattle.group.proofs.Heads.{rising-partitioned, not_there, any_default}
use Rattle.group.proofs.commit_order.place_of.Goals as goal
use Rattle.group.proofs.commit_order.place_of.Goals.{else-place-heads-via-then-place-heads+else-heads-place, else-place-heads-via-else-place-heads}

pub returns-else-place-heads : goal.returns-else-place-heads
returns-else-place-heads c =
    let heads = c.args.heads.now in
    let time = c.args.time in
    let point = c.partition_point-place.ensures.partitioned (λ (head : CommitHead). nat_lt head.time time)
    (always_returns_same _ _ _ (λ a r f k. search (rules, of_calls))) (rising-partitioned time heads c.requires) in
    elim c.else-place-heads.branch [
      | else-place-heads-via-then-place-heads+else-heads-place w ↦
          not_there time heads c.partition_point-place.result c.requires point
          (λ d low is. w.if-heads-place.false (any_default heads c.partition_point-place.result _ d low ∙ is))
      | else-place-heads-via-else-place-heads w ↦ not_there time heads c.partition_point-place.result c.requires point
          (λ d low is. absurd (omega (arith, w.if-place-heads.false, low)))
    ]

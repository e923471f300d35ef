use Rattle.std.proofs.Common.{◌≡◌, nat_lt, rules, of_calls, ap, sym, ◌∙◌, subst, ◌∷◌, [], drop, take, append_assoc}
use Rattle.std.proofs.lemmas.Fn.{always_returns_same}
use Rattle.std.proofs.lemmas.List.{take_rest}
use Rattle.floors.specs.declared.floors.OwnFloor.{OwnFloor}
use Rattle.floors.specs.Floors.{AreRising, behind}
use Rattle.floors.proofs.Owns.{partitioned, raised-at, rising-with}
use Rattle.floors.proofs.floors.with_own.Goals as goal

is : goal.returns-clause-is
is c =
    let own = c.args.own.now in
    let place = c.partition_point-place.result in
    let point =
    c.partition_point-place.ensures.partitioned (λ (o : OwnFloor). nat_lt o.relation c.args.relation)
    (always_returns_same _ _ _ (λ a r f k. search (rules, of_calls))) (partitioned c.args.relation own c.requires) in
    rw (
      c.in_ok-extend_from_slice-2.ensures.items,
      c.in_ok-push.ensures.items,
      c.in_ok-extend_from_slice.ensures.items,
      c.new-raised.ensures.items,
      c.behind.ensures,
      take_rest own place,
    )
    (append_assoc (take place own) (record { relation = c.args.relation; floor = c.args.floor } ∷ []) (behind (drop place own) c.args.relation)
    ∙ raised-at own c.args.relation c.args.floor place c.partition_point-place.ensures.bound point)

pub returns-clause-is : goal.returns-clause-is
returns-clause-is c = is c

pub returns-clause-rising : goal.returns-clause-rising
returns-clause-rising c = subst AreRising (sym (is c)) (rising-with c.args.own.now c.args.relation c.args.floor c.requires)

use Rattle.std.proofs.Common.{◌≢◌, ◌<◌, ◌≤◌, nat_lt, List, ◌∷◌, ◌++◌, take, length, get_or, rules, of_calls, arith, ap, sym, subst, ◌∙◌}
use Rattle.std.proofs.lemmas.Fn.{always_returns_same}
use Rattle.floors.specs.declared.floors.OwnFloor.{OwnFloor}
use Rattle.floors.specs.Floors.{AreRising}
use Rattle.floors.proofs.Owns.{IsPoint, partitioned, raised-at, rising-with, any_default}
use Rattle.log_base.proofs.OwnFloors.{set-behind, none-behind}
use Rattle.log_base.proofs.raising.raise.Goals as goal
use Rattle.log_base.proofs.raising.raise.Goals.{else-place-len-via-then-place-len+else-index-relation, else-place-len-via-else-place-len}

there : goal.returns-then-index-relation-clause-ok
there c =
    let own = c.args.own.now.items in
    let relation = c.args.floor.now.relation in
    let place = c.partition_point-place.result in
    let raised : OwnFloor = record { relation = relation; floor = c.args.floor.now.floor } in
    let is = c.deref.ensures.value in
    let point : IsPoint relation own place = subst (λ (xs : List OwnFloor). IsPoint relation xs place) is
    (c.partition_point-place.ensures.partitioned (λ (o : OwnFloor). nat_lt o.relation relation)
    (always_returns_same _ _ _ (λ a r f k. search (rules, of_calls))) (partitioned relation c.deref.result.now (subst AreRising (sym is) c.requires))) in
    let within : place < length own = omega (arith, c.if-place-len.true, c.len.ensures) in
    let at = λ (d : OwnFloor).
    ap (λ (o : OwnFloor). o.relation) (any_default own place d c.index.result.now within ∙ sym c.index.ensures) ∙ c.if-index-relation.true in
    set-behind own place relation raised within at ∙ raised-at own relation c.args.floor.now.floor place (omega (arith, within)) point

inserted : goal.returns-in_ok-insert-clause-ok
inserted c =
    let own = c.args.own.now.items in
    let relation = c.args.floor.now.relation in
    let place = c.partition_point-place.result in
    let raised : OwnFloor = record { relation = relation; floor = c.args.floor.now.floor } in
    let is = c.deref.ensures.value in
    let point : IsPoint relation own place = subst (λ (xs : List OwnFloor). IsPoint relation xs place) is
    (c.partition_point-place.ensures.partitioned (λ (o : OwnFloor). nat_lt o.relation relation)
    (always_returns_same _ _ _ (λ a r f k. search (rules, of_calls))) (partitioned relation c.deref.result.now (subst AreRising (sym is) c.requires))) in
    let within : place ≤ length own = omega (arith, c.partition_point-place.ensures.bound, ap (λ (xs : List OwnFloor). length xs) is) in
    let none : (d : OwnFloor) → place < length own → (get_or own place d).relation ≢ relation =
    elim c.else-place-len.branch [
      | else-place-len-via-then-place-len+else-index-relation w ↦ λ d low here.
          w.if-index-relation.false (ap (λ (o : OwnFloor). o.relation) (w.index.ensures ∙ any_default own place w.index.result.now d low) ∙ here)
      | else-place-len-via-else-place-len w ↦ λ d low here. absurd (omega (arith, w.if-place-len.false, low, c.len.ensures))
    ] in
    c.in_ok-insert.ensures.items
    ∙ ap (λ (rest : List OwnFloor). take place own ++ raised ∷ rest) (sym (none-behind own place relation none))
    ∙ raised-at own relation c.args.floor.now.floor place within point

pub returns-then-index-relation-clause-ok : goal.returns-then-index-relation-clause-ok
returns-then-index-relation-clause-ok c = there c

pub returns-then-index-relation-clause-rising : goal.returns-then-index-relation-clause-rising
returns-then-index-relation-clause-rising c =
    subst AreRising (sym (there c)) (rising-with c.args.own.now.items c.args.floor.now.relation c.args.floor.now.floor c.requires)

pub returns-in_ok-insert-clause-ok : goal.returns-in_ok-insert-clause-ok
returns-in_ok-insert-clause-ok c = inserted c

pub returns-in_ok-insert-clause-rising : goal.returns-in_ok-insert-clause-rising
returns-in_ok-insert-clause-rising c =
    subst AreRising (sym (inserted c)) (rising-with c.args.own.now.items c.args.floor.now.relation c.args.floor.now.floor c.requires)

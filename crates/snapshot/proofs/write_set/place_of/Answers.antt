use Rattle.std.proofs.Common.{rules, of_calls, arith, sym, ap, ◌∙◌}
use Rattle.std.proofs.lemmas.Fn.{always_returns_same}
use Rattle.std.proofs.lemmas.List.{get_or_default}
use Rattle.history.specs.declared.key.KeyWrite.{KeyWrite}
use Rattle.history.specs.Key.{key_lt}
use Rattle.snapshot.proofs.WriteSetLemmas.{partitioned, place_for, place_of as found_place}
use Rattle.snapshot.proofs.write_set.place_of.Goals as goal
use Rattle.snapshot.proofs.write_set.place_of.Goals.{else-place-writes-via-then-place-writes+else-not-is_before, else-place-writes-via-else-place-writes}

pub returns-then-not-is_before : goal.returns-then-not-is_before
returns-then-not-is_before g c =
    let writes = c.args.writes.now in
    let key = c.args.key in
    let point =
    c.partition_point-place.ensures.partitioned (λ (w : KeyWrite g.row.V.Denot). key_lt w.key key)
    (always_returns_same _ _ _ (λ a r f k. search (rules, of_calls))) (partitioned key writes c.requires) in
    found_place key writes c.partition_point-place.result c.if-place-writes.true point
    (λ d. ap (λ (w : KeyWrite g.row.V.Denot). key_lt key w.key)
    (get_or_default writes c.partition_point-place.result d c.index-writes-place.result c.if-place-writes.true)
    ∙ (sym c.is_before.ensures ∙ c.if-not-is_before.true))

pub returns-else-place-writes : goal.returns-else-place-writes
returns-else-place-writes g c =
    let writes = c.args.writes.now in
    let key = c.args.key in
    let point =
    c.partition_point-place.ensures.partitioned (λ (w : KeyWrite g.row.V.Denot). key_lt w.key key)
    (always_returns_same _ _ _ (λ a r f k. search (rules, of_calls))) (partitioned key writes c.requires) in
    elim c.else-place-writes.branch [
      | else-place-writes-via-then-place-writes+else-not-is_before w ↦ place_for key writes c.partition_point-place.result c.requires
          c.partition_point-place.ensures.bound point
          (λ d low. ap (λ (w : KeyWrite g.row.V.Denot). key_lt key w.key)
          (get_or_default writes c.partition_point-place.result d w.index-writes-place.result low) ∙ (sym w.is_before.ensures ∙ w.if-not-is_before.false))
      | else-place-writes-via-else-place-writes w ↦ place_for key writes c.partition_point-place.result c.requires c.partition_point-place.ensures.bound point
          (λ d low. absurd (omega (arith, w.if-place-writes.false, low)))
    ]

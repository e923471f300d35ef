use Rattle.std.proofs.Common.{rules, []}
use denote.Param.Send.{sendable}
use Rattle.shared.proofs.Fresh.{queue-none}
use Rattle.bench.proofs.many_callers.soak.measure.Goals as goal

pub run_over-requires-sync-R : goal.run_over-requires-sync-R
run_over-requires-sync-R g c κs within = (
  search rules,
  (
    search sendable,
    (c.in_ok-store.ensures.stands, (c.in_ok-store.ensures.fresh, queue-none c.in_ok-store.store [] (λ relation. 0))),
  ),
)

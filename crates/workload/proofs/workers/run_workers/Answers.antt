use Rattle.std.proofs.Common.{rules, ◌∙◌}
use denote.Param.Send.{sendable}
use Rattle.std.proofs.Crossing.{crosses}
use Rattle.shared.proofs.observer.Observer.TheSendSync as observer
use Rattle.workload.proofs.workers.Plan.TheSendSync as plan
use Rattle.workload.proofs.workers.Badge.TheSendSync as badge
use Rattle.shared.proofs.Sending.{shared-sync}
use Rattle.workload.proofs.workers.run_workers.Goals as goal
use Rattle.workload.proofs.workers.run_workers.Goals.{in-Ok-Ok, in-Some, in-None, in_default}

pub join-worked-requires-send-F : goal.join-worked-requires-send-F
join-worked-requires-send-F g c κs within = search (shared-sync, plan.the_send, badge.the_send, observer.the_send, sendable, crosses) depth 20

pub returns : goal.returns
returns g c =
    let r = c.into_store.ensures.reached in
    record {
      counted = (
        r.0,
        r.1,
        r.2,
        elim c.match-badges.branch [
          | in-Ok-Ok w ↦
              elim w.match-worked.branch [
                | in-Some w' ↦ let gathered = w'.gather.ensures in search rules
                | in-None w' ↦ rw (w.done-is ∙ w'.done-is) tt
              ]
          | in_default w ↦ rw w.done-is tt
        ],
      );
    }

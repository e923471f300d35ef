use denote.Param.Send.{sendable}
use Rattle.std.proofs.Crossing.{crosses}
use Rattle.workload.proofs.workers.Badge.TheSendSync as badge
use Rattle.shared.proofs.Sending.{shared-sync}
use Rattle.workload.proofs.workers.call_all.Goals as goal

pub join-worked-requires-send-F : goal.join-worked-requires-send-F
join-worked-requires-send-F g c κs within = search (shared-sync, badge.the_send, sendable, crosses) depth 20

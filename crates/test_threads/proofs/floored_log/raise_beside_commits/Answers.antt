use denote.Param.Send.{sendable}
use Rattle.std.proofs.Crossing.{crosses}
use Rattle.shared.proofs.observer.Observer.TheSendSync as observer
use Rattle.shared.proofs.Sending.{shared-sync}
use Rattle.test_threads.proofs.floored_log.raise_beside_commits.Goals as goal

pub join-requires-send-F : goal.join-requires-send-F
join-requires-send-F g c κs within = search (shared-sync, observer.the_send, sendable, crosses) depth 20

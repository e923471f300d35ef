use denote.Param.Send.{sendable}
use Rattle.std.proofs.Crossing.{crosses}
use Rattle.shared.proofs.observer.Observer.TheSendSync as observer
use Rattle.shared.proofs.Sending.{shared-sync}
use Rattle.test_threads.proofs.latest_views.watch_beside_commits.Goals as goal

pub join-reader-requires-send-F : goal.join-reader-requires-send-F
join-reader-requires-send-F g c κs within = search (shared-sync, observer.the_send, sendable, crosses) depth 20

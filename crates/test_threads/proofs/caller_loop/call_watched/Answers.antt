use denote.Param.Send.{sendable}
use Rattle.std.proofs.Crossing.{crosses}
use Rattle.std.proofs.sync.ledger.Share.TheSendSync as share
use Rattle.shared.proofs.observer.Observer.TheSendSync as observer
use Rattle.shared.proofs.Sending.{shared-sync}
use Rattle.test_threads.proofs.caller_loop.call_watched.Goals as goal

pub join-requires-send-F : goal.join-requires-send-F
join-requires-send-F g c κs within = search (shared-sync, share.the_send, observer.the_send, sendable, crosses) depth 20

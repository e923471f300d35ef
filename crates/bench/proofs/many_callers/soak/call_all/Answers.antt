use denote.Param.Send.{sendable}
use Rattle.std.proofs.Crossing.{crosses}
use Rattle.shared.proofs.Sending.{shared-sync}
use Rattle.bench.proofs.many_callers.soak.Writing.TheSendSync as writing
use Rattle.bench.proofs.many_callers.soak.call_all.Goals as goal

pub join-noted-requires-send-F : goal.join-noted-requires-send-F
join-noted-requires-send-F g c κs within = search (shared-sync, writing.the_send, sendable, crosses) depth 20

use denote.Param.Send.{sendable}
use Rattle.std.proofs.Crossing.{crosses}
use Rattle.shared.proofs.Sending.{shared-sync}
use Rattle.bench.proofs.many_callers.crew.Writer.TheSendSync as writer
use Rattle.bench.proofs.many_callers.crew.call_all.Goals as goal

pub join-commits-requires-send-F : goal.join-commits-requires-send-F
join-commits-requires-send-F g c κs within = search (shared-sync, writer.the_send, sendable, crosses) depth 20

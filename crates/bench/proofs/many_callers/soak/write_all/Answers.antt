use denote.Param.Send.{sendable}
use Rattle.std.proofs.Crossing.{crosses}
use Rattle.shared.proofs.Sending.{shared-sync}
use Rattle.bench.proofs.many_callers.soak.write_all.Goals as goal

pub map_vec-noted-requires-sync-F : goal.map_vec-noted-requires-sync-F
map_vec-noted-requires-sync-F g c κs within = search (shared-sync, sendable, crosses) depth 20

use denote.RattleType.{RattleType}
use denote.Param.Send.{IsSend, sendable}
use denote.Param.SendFields.{declared_send}
use Rattle.std.proofs.Crossing.{crosses}
use Rattle.std.specs.declared.sync.ledger.Ledger as ledgers
use Rattle.shared.specs.declared.naming.Opening as openings
use Rattle.shared.proofs.Carrying.{shared_view-send}
use Rattle.test_threads.specs.contracts.moved_view.Carried as Carried
use Rattle.test_threads.proofs.moved_view.keeps_its_moment.Goals as goal

carried-send : (L : RattleType) (opening : openings.Ghosts L.Denot) (ledger : ledgers.Ghosts L.Denot) → IsSend (Carried.the_row L opening ledger)
carried-send L opening ledger = declared_send (Carried.the_type L opening ledger) (search (sendable, shared_view-send), tt)

pub join-carried-requires-send-F : goal.join-carried-requires-send-F
join-carried-requires-send-F g c κs within = search (carried-send, sendable, crosses) depth 20

pub join-carried-requires-send-A : goal.join-carried-requires-send-A
join-carried-requires-send-A g c κs within = search (carried-send, sendable, crosses) depth 20

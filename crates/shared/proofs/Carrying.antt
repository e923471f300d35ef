-- Views and transactions may go to another thread.
use denote.RattleType.{RattleType}
use denote.Param.Send.{IsSend, view_send, sendable}
use denote.Param.SendFields.{declared_send}
use Rattle.std.proofs.Crossing.{crosses}
use Rattle.std.proofs.option.Option.TheSendSync as option
use Rattle.std.specs.declared.sync.ledger.Ledger as ledgers
use Rattle.history.proofs.key.Key.TheSendSync as key
use Rattle.history.proofs.key.KeyWrite.TheSendSync as key_write
use Rattle.chains.proofs.shared_value.SharedValue.TheSendSync as shared_value
use Rattle.floors.proofs.floors.Floors.TheSendSync as floors
use Rattle.snapshot.specs.contracts.txn.Txn as Txn
use Rattle.snapshot.specs.contracts.txn.Txn.TheInside as txn
use Rattle.timequery.proofs.runs.Runs.TheSendSync as runs
use Rattle.timequery.specs.contracts.view.View as View
use Rattle.timequery.specs.contracts.view.View.TheInside as view
use Rattle.shared.specs.declared.naming.Opening as openings
use Rattle.shared.specs.contracts.shared_txn.SharedTxn as SharedTxn
use Rattle.shared.specs.contracts.shared_txn.SharedTxn.TheInside as shared_txn
use Rattle.shared.specs.contracts.shared_view.SharedView as SharedView
use Rattle.shared.specs.contracts.shared_view.SharedView.TheInside as shared_view
use Rattle.shared.proofs.moment.Moment.TheSendSync as moment
use Rattle.shared.proofs.txn_pass.TxnPass.TheSendSync as txn_pass
use Rattle.shared.proofs.Versions.{frozen_send}

view_inside : IsSend view.the_row
view_inside =
    declared_send view.the_type (
      search sendable,
      (search sendable, (search (sendable, floors.the_send), (search sendable, (search (sendable, runs.the_send), (search (sendable, frozen_send), tt))))),
    )

view_sent : IsSend View.the_row
view_sent = view_send view.the_row _ _ _ _ view_inside

txn_inside : IsSend txn.the_row
txn_inside = declared_send txn.the_type (
  search sendable,
  (
    search sendable,
    (
      search sendable,
      (
        search (sendable, frozen_send),
        (search (sendable, crosses, key_write.the_send, key.the_send, option.the_send, shared_value.the_send) depth 20, tt),
      ),
    ),
  ),
)

txn_sent : IsSend Txn.the_row
txn_sent = view_send txn.the_row _ _ _ _ txn_inside

module _ (L : RattleType) (opening : openings.Ghosts L.Denot) (ledger : ledgers.Ghosts L.Denot) where
  shared_view_inside : IsSend (shared_view.the_row L opening ledger)
  shared_view_inside = declared_send (shared_view.the_type L opening ledger) (search (sendable, view_sent), (search (sendable, moment.the_send), tt))

  pub shared_view-send : IsSend (SharedView.the_row L opening ledger)
  shared_view-send = view_send (shared_view.the_row L opening ledger) _ _ _ _ shared_view_inside

  shared_txn_inside : IsSend (shared_txn.the_row L opening ledger)
  shared_txn_inside = declared_send (shared_txn.the_type L opening ledger) (search (sendable, txn_sent), (search (sendable, txn_pass.the_send), tt))

  pub shared_txn-send : IsSend (SharedTxn.the_row L opening ledger)
  shared_txn-send = view_send (shared_txn.the_row L opening ledger) _ _ _ _ shared_txn_inside

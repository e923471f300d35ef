use Rattle.std.proofs.Common.{◌≡◌, drop}
use Rattle.snapshot.specs.Txn.{at_snapshot}
use Rattle.snapshot.specs.declared.txn.TxnFault.{TxnFault}
use Rattle.shared.specs.Posted.{AreBarred, written}
use Rattle.shared.proofs.copied.apply.Given as goal

abbrev pub invariant-loop-write : goal.invariant-loop-write
invariant-loop-write l =
    (l.txn ≡ record l.initial.txn { writes = l.txn.writes })
    × (written (at_snapshot l.initial.txn.state l.initial.txn.snapshot) l.txn.writes (drop l.write-index l.initial.writes)
    ≡ written (at_snapshot l.initial.txn.state l.initial.txn.snapshot) l.initial.txn.writes l.initial.writes)
    × ((why : TxnFault) → AreBarred (at_snapshot l.initial.txn.state l.initial.txn.snapshot) l.txn.writes (drop l.write-index l.initial.writes) why
    → AreBarred (at_snapshot l.initial.txn.state l.initial.txn.snapshot) l.initial.txn.writes l.initial.writes why)

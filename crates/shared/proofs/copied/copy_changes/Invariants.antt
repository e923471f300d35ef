use Rattle.std.proofs.Common.{◌≡◌, ◌++◌, drop, map}
use Rattle.snapshot.specs.declared.txn.TxnFault.{TxnFault}
use Rattle.shared.specs.Posted.{AreUncopied, write_of}
use Rattle.shared.proofs.copied.copy_changes.Given as goal

abbrev pub invariant-loop-change : goal.invariant-loop-change
invariant-loop-change l =
    (l.writes.items ++ map write_of (drop l.change-index l.initial.changes) ≡ map write_of l.initial.changes)
    × ((why : TxnFault) → AreUncopied (map write_of (drop l.change-index l.initial.changes)) why → AreUncopied (map write_of l.initial.changes) why)

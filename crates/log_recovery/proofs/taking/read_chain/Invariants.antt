use Rattle.std.proofs.Common.{◌≡◌, ◌≤◌, IsTrue}
use Rattle.log_recovery.specs.Taking.{free_left}
use Rattle.log_recovery.proofs.Images.{IsReading}
use Rattle.log_recovery.proofs.taking.read_chain.Given as goal

abbrev pub invariant-loop-heap : goal.invariant-loop-heap
invariant-loop-heap g l =
    (g.D.Disk.state l.disk ≡ g.D.Disk.state l.initial.disk)
    × (IsTrue g.D.Disk.tells
    → IsReading l.fn.kind l.fn.heap.most l.fn.number (g.D.Disk.state l.initial.disk).areas.heap.bytes l.initial.space l.space l.reader l.next)
    × (free_left l.space ≤ free_left l.initial.space)
    × (l.reader.kind ≡ l.fn.kind)
    × (l.reader.most ≡ l.fn.heap.most)

abbrev pub decreases-loop-heap : goal.decreases-loop-heap
decreases-loop-heap g l = free_left l.space

use Rattle.std.proofs.Common.{◌≡◌, IsTrue}
use Rattle.recovery.proofs.Walking.{IsWalking}
use Rattle.recovery.proofs.chain.read_chain.Given as goal

abbrev pub invariant-loop-i : goal.invariant-loop-i
invariant-loop-i g l =
    (g.D.Disk.state l.disk ≡ g.D.Disk.state l.initial.disk)
    × (IsTrue g.D.Disk.tells
    → IsWalking (g.D.Disk.state l.initial.disk).areas.heap.bytes l.heap_len l.initial.extents l.first l.count l._i l.next l.numbers.items l.images.items
    l.extents)

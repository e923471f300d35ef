use Rattle.std.proofs.Common.{◌≡◌, IsTrue}
use Rattle.std.specs.List.{AllByRecursion}
use Rattle.log_recovery.specs.Chains.{HasEntry}
use Rattle.log_extents.specs.Chains.{IsNumberOf}
use Rattle.log_recovery.specs.Taking.{free_left}
use Rattle.log_recovery.proofs.Walking.{IsWalking}
use Rattle.log_shown.proofs.walk.read_front.Given as goal

abbrev pub invariant-loop-chains : goal.invariant-loop-chains
invariant-loop-chains g l =
    (g.D.Disk.state l.disk ≡ g.D.Disk.state l.initial.disk)
    × IsNumberOf l.heap.most l.next
    × AllByRecursion (HasEntry l.heap.most) l.chains.items
    × (IsTrue g.D.Disk.tells
    → IsWalking l.heap.most l.root (g.D.Disk.state l.initial.disk).areas.heap.bytes l.chains.items l.next l.space)

abbrev pub decreases-loop-chains : goal.decreases-loop-chains
decreases-loop-chains g l = free_left l.space

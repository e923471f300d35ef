use Rattle.std.proofs.Common.{◌≡◌, ◌≤◌, ◌-◌, IsTrue}
use Rattle.recovery.specs.Format.{IsZeroed, CountsFirst}
use Rattle.recovery.proofs.formatting.zero_slots.Given as goal

abbrev pub invariant-loop-at : goal.invariant-loop-at
invariant-loop-at g l =
    (512 ≤ l.at) × (l.at ≤ l.end) × ((g.D.Disk.state l.disk).refused ≡ (g.D.Disk.state l.initial.disk).refused)
    × (IsTrue g.D.Disk.tells → IsZeroed 512 l.at (g.D.Disk.state l.initial.disk).areas.status (g.D.Disk.state l.disk).areas.status)
    × (IsTrue g.D.Disk.tells → (g.D.Disk.state l.disk).areas ≡ record (g.D.Disk.state l.initial.disk).areas { status = (g.D.Disk.state l.disk).areas.status })
    × CountsFirst (g.D.Disk.state l.initial.disk) (g.D.Disk.state l.disk)

abbrev pub decreases-loop-at : goal.decreases-loop-at
decreases-loop-at g l = l.end - l.at

use Rattle.std.proofs.Common.{◌≡◌, IsTrue, map, length}
use Rattle.std.specs.List.{AllByRecursion}
use Rattle.law_image.specs.Log.{AreRisingAfter, last_time_after}
use Rattle.status.specs.Rules.{head_of}
use Rattle.wire.specs.Spelling.{IsMember}
use Rattle.recovery.proofs.HeldMembers.{IsUnderWay}
use Rattle.recovery.proofs.members.read_members.Given as goal

abbrev pub invariant-loop-entry : goal.invariant-loop-entry
invariant-loop-entry g l =
    (g.D.Disk.state l.disk ≡ g.D.Disk.state l.initial.disk)
    × AreRisingAfter l.heap.last (map head_of l.rest)
    × (last_time_after l.heap.last (map head_of l.rest) ≡ last_time_after l.fn.anchors.upto (map head_of l.fn.entries))
    × AllByRecursion IsMember l.rest
    × (IsTrue g.D.Disk.tells → IsUnderWay (g.D.Disk.state l.initial.disk).areas.heap.bytes l.fn.anchors.upto l.fn.anchors l.fn.entries l.rest l.heap)

abbrev pub decreases-loop-entry : goal.decreases-loop-entry
decreases-loop-entry g l = length l.rest

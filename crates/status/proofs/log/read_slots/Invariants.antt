use Rattle.std.proofs.Common.{◌≡◌, ◌-◌, ◌≤◌, length}
use Rattle.std.specs.Prelude.{IsTrue}
use Rattle.status.specs.declared.header.Header.{Header}
use Rattle.status.specs.Header.{total}
use Rattle.status.specs.Log.{OpensWith}
use Rattle.status.specs.Walking.{IsWalk}
use Rattle.status.proofs.log.read_slots.Given as goal

abbrev pub invariant-loop-disk : goal.invariant-loop-disk
invariant-loop-disk g l = record {
  profile : l.walk.profile ≡ l.fn.walk.profile;
  walk : IsWalk l.walk.profile l.walk.slots.items l.walk.end;
  within : length l.walk.slots.items ≤ l.all;
  same : g.D.Disk.state l.disk ≡ g.D.Disk.state l.fn.disk;
  goes : IsTrue g.D.Disk.tells → (header : Header) → header.profile ≡ l.fn.walk.profile → total header ≡ l.all
      → OpensWith header (g.D.Disk.state l.fn.disk).areas.status.bytes l.fn.walk.slots.items
      → OpensWith header (g.D.Disk.state l.fn.disk).areas.status.bytes l.walk.slots.items;
}

abbrev pub decreases-loop-disk : goal.decreases-loop-disk
decreases-loop-disk g l = l.all - length l.walk.slots.items

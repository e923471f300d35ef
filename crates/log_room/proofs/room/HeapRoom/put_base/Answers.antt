use Rattle.std.proofs.Common.{◌≤◌, ◌+◌, ◌/◌, length, sym, subst}
use Rattle.log_room.specs.Rooms.{RoomValue}
use Rattle.log_room.proofs.Taken.{room_based}
use Rattle.log_room.proofs.room.HeapRoom.put_base.Goals as goal

pub invariant_of-self : goal.invariant_of-self
invariant_of-self c =
    let old : RoomValue = record {
      used = c.self.inside.space;
      next = c.self.inside.next;
      log = c.self.inside.log;
      promised = c.self.inside.promised;
      anchors = c.self.inside.anchors;
      reserved = c.self.inside.reserved;
    } in
    let share : length c.args.anchors.now + length c.args.base.now ≤ length old.used / 4 =
    subst (λ (v : RoomValue). length c.args.anchors.now + length c.args.base.now ≤ length v.used / 4) (sym c.self.view_is) c.requires.share in
    room_based old c.clear.new.self c.claim_all.new.self c.claim_all-2.new.self c.args.anchors.now c.args.base.now c.self.invariant c.clear.ensures
    c.claim_all.ensures.is c.claim_all-2.ensures.is c.claim_all.ensures.most c.claim_all-2.ensures.most share

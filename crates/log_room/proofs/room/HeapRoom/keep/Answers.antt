use Rattle.std.proofs.Common.{◌≤◌, ◌+◌, ◌/◌, length, sym, subst}
use Rattle.log_room.specs.Rooms.{RoomValue}
use Rattle.log_room.proofs.Taken.{room_kept}
use Rattle.log_room.proofs.room.HeapRoom.keep.Goals as goal

pub invariant_of-self : goal.invariant_of-self
invariant_of-self c =
    let old : RoomValue = record {
      used = c.self.inside.space;
      next = c.self.inside.next;
      log = c.self.inside.log;
      promised = c.self.inside.promised;
      anchors = c.self.inside.anchors;
      reserved = c.self.inside.reserved;
    } in
    let half : old.log + length c.args.numbers.now + old.promised ≤ length old.used / 2 =
    subst (λ (v : RoomValue). v.log + length c.args.numbers.now + v.promised ≤ length v.used / 2) (sym c.self.view_is) c.requires.half in
    room_kept old c.claim_all.new.self c.args.numbers.now c.self.invariant c.claim_all.ensures.is c.claim_all.ensures.most half

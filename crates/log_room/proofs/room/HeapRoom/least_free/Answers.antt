use Rattle.std.proofs.Common.{◌≡◌, sym, subst, arith}
use Rattle.log_room.specs.Rooms.{RoomValue}
use Rattle.log_room.proofs.Taken.{free-one}
use Rattle.log_room.proofs.room.HeapRoom.least_free.Goals as goal

pub unreachable-requires : goal.unreachable-requires
unreachable-requires c =
    let none : c.self.inside.reserved ≡ 0 = subst (λ (v : RoomValue). v.reserved ≡ 0) (sym c.self.view_is) c.requires in
    let few = c.self.invariant.few in
    let half = c.self.invariant.half in
    let low = c.self.invariant.low in
    let one = free-one c.self.inside.space (omega (arith, none, few, half, low)) in
    c.in-None.ensures one.number one.free

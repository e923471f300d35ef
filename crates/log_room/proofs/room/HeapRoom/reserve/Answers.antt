use Rattle.std.proofs.Common.{◌≡◌, ◌≤◌, ◌+◌, ◌/◌, ◌^◌, ◌++◌, Bool, List, length, ap, sym, subst, arith}
use Rattle.log_room.specs.Rooms.{RoomValue, TakesLeast}
use Rattle.log_room.specs.Reserves.{Reserves}
use Rattle.log_room.proofs.Taken.{both_taken, taken_many, room_reserved, in_heap}
use Rattle.log_room.proofs.room.HeapRoom.reserve.Goals as goal

pub take_free-second-requires-clause-room : goal.take_free-second-requires-clause-room
take_free-second-requires-clause-room c =
    let old = c.self.inside in
    let none : old.reserved ≡ 0 = subst (λ (v : RoomValue). v.reserved ≡ 0) (sym c.self.view_is) c.requires.none in
    let share : c.args.anchors + c.args.base ≤ length old.space / 4 =
    subst (λ (v : RoomValue). c.args.anchors + c.args.base ≤ length v.used / 4) (sym c.self.view_is) c.requires.share in
    let few = c.self.invariant.few in
    let half = c.self.invariant.half in
    let took = taken_many old.space c.take_free-first.new.space c.args.anchors c.take_free-first.result.items c.take_free-first.ensures in
    omega (arith, none, share, few, half, took.0, took.1)

pub take_free-second-requires-clause-few : goal.take_free-second-requires-clause-few
take_free-second-requires-clause-few c =
    let took = taken_many c.self.inside.space c.take_free-first.new.space c.args.anchors c.take_free-first.result.items c.take_free-first.ensures in
    let high = c.self.invariant.high in
    omega (arith, high, took.1)

pub invariant_of-self : goal.invariant_of-self
invariant_of-self c =
    let old : RoomValue = record {
      used = c.self.inside.space;
      next = c.self.inside.next;
      log = c.self.inside.log;
      promised = c.self.inside.promised;
      anchors = c.self.inside.anchors;
      reserved = c.self.inside.reserved;
    } in
    let none : old.reserved ≡ 0 = subst (λ (v : RoomValue). v.reserved ≡ 0) (sym c.self.view_is) c.requires.none in
    let share : c.args.anchors + c.args.base ≤ length old.used / 4 =
    subst (λ (v : RoomValue). c.args.anchors + c.args.base ≤ length v.used / 4) (sym c.self.view_is) c.requires.share in
    room_reserved old (c.args.anchors + c.args.base) (c.take_free-first.result.items ++ c.take_free-second.result.items) c.take_free-second.new.space
    c.self.invariant none share
    (both_taken old.used c.take_free-first.new.space c.take_free-second.new.space c.args.anchors c.args.base c.take_free-first.result.items
    c.take_free-second.result.items c.take_free-first.ensures c.take_free-second.ensures)

pub returns-clause-ok : goal.returns-clause-ok
returns-clause-ok c =
    let old : RoomValue = record {
      used = c.self.inside.space;
      next = c.self.inside.next;
      log = c.self.inside.log;
      promised = c.self.inside.promised;
      anchors = c.self.inside.anchors;
      reserved = c.self.inside.reserved;
    } in
    let count = c.args.anchors + c.args.base in
    let taken = c.take_free-first.result.items ++ c.take_free-second.result.items in
    let takes : TakesLeast old.used count taken c.take_free-second.new.space =
    both_taken old.used c.take_free-first.new.space c.take_free-second.new.space c.args.anchors c.args.base c.take_free-first.result.items
    c.take_free-second.result.items c.take_free-first.ensures c.take_free-second.ensures in
    subst (λ (v : RoomValue). Reserves v count taken (record old { used = c.take_free-second.new.space; reserved = count })) c.self.view_is (record {
      many = takes.many;
      least = takes.least;
      new_is = ap (λ (u : List Bool). record old { used = u; reserved = count }) takes.new_is;
    })

pub returns-clause-in_range : goal.returns-clause-in_range
returns-clause-in_range c =
    let high = c.self.invariant.high in
    let first = c.take_free-first.ensures in
    let second = c.take_free-second.ensures in
    let took = taken_many c.self.inside.space c.take_free-first.new.space c.args.anchors c.take_free-first.result.items first in (
      in_heap (2 ^ 20) c.self.inside.space c.take_free-first.result.items high first.least,
      in_heap (2 ^ 20) c.take_free-first.new.space c.take_free-second.result.items (omega (arith, high, took.1)) second.least,
    )

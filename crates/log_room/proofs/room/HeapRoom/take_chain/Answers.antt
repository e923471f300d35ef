use Rattle.std.proofs.Common.{sym, subst, ◌+◌, ◌-◌, ◌≤◌}
use Rattle.log_room.specs.Rooms.{RoomValue, TakesChain}
use Rattle.log_room.proofs.Taken.{chain_taken, room_taken, chain_in_range}
use Rattle.log_room.proofs.room.HeapRoom.take_chain.Goals as goal

pub invariant_of-self-in-Some : goal.invariant_of-self-in-Some
invariant_of-self-in-Some c =
    let old : RoomValue = record {
      used = c.self.inside.space;
      next = c.self.inside.next;
      log = c.self.inside.log;
      promised = c.self.inside.promised;
      anchors = c.self.inside.anchors;
      reserved = c.self.inside.reserved;
    } in
    let took = c.in_ok-numbers.ensures.ok in
    let chain = chain_taken old c.args.count c.args.promised took.0 c.in_ok-numbers.numbers.items c.pop.new.self.items c.in-Some.link c.take_least.new.space
    c.requires.some took.1 took.2 c.in-Some.ensures.items in
    let had : c.args.promised ≤ old.promised = subst (λ (v : RoomValue). c.args.promised ≤ v.promised) (sym c.self.view_is) c.requires.promised in
    room_taken old c.args.count c.args.promised c.pop.new.self.items c.in-Some.link _ c.self.invariant c.requires.some c.requires.within had chain

pub returns-clause-ok : goal.returns-clause-ok
returns-clause-ok c =
    let old : RoomValue = record {
      used = c.self.inside.space;
      next = c.self.inside.next;
      log = c.self.inside.log;
      promised = c.self.inside.promised;
      anchors = c.self.inside.anchors;
      reserved = c.self.inside.reserved;
    } in
    let took = c.in_ok-numbers.ensures.ok in
    subst (λ (v : RoomValue). TakesChain v c.args.count c.args.promised c.pop.new.self.items c.in-Some.link
    (record old { used = c.take_least.new.space; next = c.in-Some.link; log = old.log + c.args.count; promised = old.promised - c.args.promised }))
    c.self.view_is
    (chain_taken old c.args.count c.args.promised took.0 c.in_ok-numbers.numbers.items c.pop.new.self.items c.in-Some.link c.take_least.new.space
    c.requires.some took.1 took.2 c.in-Some.ensures.items)

pub returns-clause-in_range : goal.returns-clause-in_range
returns-clause-in_range c =
    let old : RoomValue = record {
      used = c.self.inside.space;
      next = c.self.inside.next;
      log = c.self.inside.log;
      promised = c.self.inside.promised;
      anchors = c.self.inside.anchors;
      reserved = c.self.inside.reserved;
    } in
    let took = c.in_ok-numbers.ensures.ok in
    chain_in_range old c.args.count c.args.promised c.pop.new.self.items c.in-Some.link _ c.self.invariant
    (chain_taken old c.args.count c.args.promised took.0 c.in_ok-numbers.numbers.items c.pop.new.self.items c.in-Some.link c.take_least.new.space
    c.requires.some took.1 took.2 c.in-Some.ensures.items)

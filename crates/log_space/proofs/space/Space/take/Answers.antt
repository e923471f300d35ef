use Rattle.std.proofs.Common.{arith, subst}
use Rattle.log_space.specs.Uses.{IsLeastPlace}
use Rattle.log_space.proofs.Uses.{room_for_one}
use Rattle.log_space.proofs.space.Space.take.Goals as goal

pub overflow_add-self : goal.overflow_add-self
overflow_add-self c =
    let least = subst (λ used. IsLeastPlace used c.in-Some.place) c.deref.ensures.value c.in-Some.ensures in
    let room = room_for_one c.self.inside.used.items c.in-Some.place least.free in
    omega (arith, room, c.self.invariant.used_len, c.self.invariant.count_is)

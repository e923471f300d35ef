use Rattle.std.proofs.Common.{◌-◌, arith}
use Rattle.std.proofs.lemmas.Grind.{common_steps}
use Rattle.log_space.specs.Uses.{IsFree}
use Rattle.log_space.proofs.Uses.{room_for_one}
use Rattle.log_space.proofs.space.Space.claim.Goals as goal

pub overflow_add-self : goal.overflow_add-self
overflow_add-self c =
    let free : IsFree c.self.inside.used.items c.args.number = grind (arith, common_steps) in
    let room = room_for_one c.self.inside.used.items (c.args.number - 1) free.is in
    omega (arith, room, c.self.invariant.used_len, c.self.invariant.count_is)

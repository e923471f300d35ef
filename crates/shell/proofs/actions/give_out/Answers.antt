use Rattle.std.proofs.Common.{inl, inr, refl}
use Rattle.shell.proofs.actions.give_out.Goals as goal

pub returns-in-Ok : goal.returns-in-Ok
returns-in-Ok g c = λ before. (refl, c.give_out.ensures.kept, inl (refl, c.in-Ok.ensures.given))

pub returns-in-Err : goal.returns-in-Err
returns-in-Err g c = λ before. (refl, c.give_out.ensures.kept, inr (refl, c.in-Err.ensures.refused))

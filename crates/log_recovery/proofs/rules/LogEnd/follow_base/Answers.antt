use Rattle.std.proofs.Common.{refl, arith}
use Rattle.std.proofs.lemmas.Grind.{common_steps}
use Rattle.log_recovery.proofs.Following.{base_stops, base_follows}
use Rattle.log_recovery.proofs.rules.LogEnd.follow_base.Goals as goal

pub returns-in_default-clause-answers : goal.returns-in_default-clause-answers
returns-in_default-clause-answers c = λ mark s says. base_stops c.args.self.now mark s c.args.base.now c.in_default.ensures says

pub returns-clause-answers : goal.returns-clause-answers
returns-clause-answers c = λ mark s says.
    base_follows c.args.self.now _ c.in-Some.ends c.requires.0 mark s c.args.base.now c.requires.1 c.in-Some.ensures refl (grind (arith, common_steps))
    (grind (arith, common_steps)) says

use Rattle.std.proofs.Common.{refl, arith}
use Rattle.std.proofs.lemmas.Grind.{common_steps}
use Rattle.log_recovery.proofs.Following.{run_follows}
use Rattle.log_recovery.proofs.rules.LogEnd.follow_run.Goals as goal

pub returns-clause-answers : goal.returns-clause-answers
returns-clause-answers c = λ mark s says.
    run_follows c.args.self.now _ mark s c.args.archive.now (c.takes_run.ensures.0 c.if-not-takes_run.false) refl (grind (arith, common_steps)) says

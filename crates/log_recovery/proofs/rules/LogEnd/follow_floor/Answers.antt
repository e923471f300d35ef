use Rattle.log_recovery.proofs.Following.{floor_follows}
use Rattle.log_recovery.proofs.rules.LogEnd.follow_floor.Goals as goal

pub returns-clause-answers : goal.returns-clause-answers
returns-clause-answers c = λ mark s says.
    floor_follows c.args.self.now c.in_ok-self.field-0 mark s c.args.floor.now (c.takes_floor.ensures.0 c.if-not-takes_floor.false) c.in_ok-self.ensures.is says

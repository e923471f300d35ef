use Rattle.log_recovery.proofs.Following.{group_follows}
use Rattle.log_recovery.proofs.rules.LogEnd.follow_group.Goals as goal

pub returns-clause-answers : goal.returns-clause-answers
returns-clause-answers c = λ mark s says.
    group_follows c.args.self.now c.in-Some.last mark s c.args.members.now c.requires c.if-last-self.false c.in-Some.ensures says

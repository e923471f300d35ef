use Rattle.std.proofs.Common.{sym}
use Rattle.status.proofs.Rules.{last_taken}
use Rattle.status.proofs.log_end.last_after.Goals as goal

pub loop-member-preserved : goal.loop-member-preserved
loop-member-preserved c = sym (last_taken c.args.before c.args.members.now c.loop-member.member-index _ c.loop-member-test.true)

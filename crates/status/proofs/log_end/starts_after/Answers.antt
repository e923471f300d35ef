use Rattle.status.proofs.Rules.{first_member}
use Rattle.status.proofs.log_end.starts_after.Goals as goal

pub returns-in-len1-up : goal.returns-in-len1-up
returns-in-len1-up c = first_member c.args.time c.args.members.now _ c.in-len1-up.len_at_least

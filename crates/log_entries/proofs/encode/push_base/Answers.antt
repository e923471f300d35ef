use Rattle.log_entries.proofs.Pushed.{length_pushed}
use Rattle.log_entries.proofs.encode.push_base.Goals as goal

pub returns-in-Ok-clause-len : goal.returns-in-Ok-clause-len
returns-in-Ok-clause-len c = length_pushed c.args.base.now c.args.out.now.items c.push_parts.new.out.items c.in-Ok.ensures.ok

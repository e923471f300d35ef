use Rattle.log_entries.proofs.CommitLengths.{length-member}
use Rattle.log_entries.proofs.laws.commit_len.Goals as goal

pub returns : goal.returns
returns c = length-member

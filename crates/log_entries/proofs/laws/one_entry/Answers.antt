use Rattle.log_entries.proofs.Entries.{one_entry}
use Rattle.log_entries.proofs.laws.one_entry.Goals as goal

pub returns : goal.returns
returns c = one_entry

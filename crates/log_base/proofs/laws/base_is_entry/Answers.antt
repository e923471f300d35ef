use Rattle.log_base.proofs.BaseEntries.{is-live_base}
use Rattle.log_base.proofs.laws.base_is_entry.Goals as goal

pub returns : goal.returns
returns c = is-live_base

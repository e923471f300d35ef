use Rattle.law_live_ranges.proofs.Stays.{opened_behind, opened_names}
use Rattle.law_live_ranges.proofs.opened_names.Goals as goal

pub returns-clause-behind : goal.returns-clause-behind
returns-clause-behind c = opened_behind

pub returns-clause-names : goal.returns-clause-names
returns-clause-names c = opened_names

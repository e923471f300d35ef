use Rattle.run.proofs.Tracing.{times-stay-kept, floors-rise}
use Rattle.run.proofs.laws.times_stay_kept.Goals as goal

pub returns-clause-kept : goal.returns-clause-kept
returns-clause-kept c = times-stay-kept

pub returns-clause-rise : goal.returns-clause-rise
returns-clause-rise c = floors-rise

use Rattle.law_log_layout.proofs.BaseGoes.{base-goes, base-rests}
use Rattle.law_log_layout.proofs.laws.base_goes.Goals as goal

pub returns-clause-goes : goal.returns-clause-goes
returns-clause-goes c = λ most root l n reading h floors done rest areas is stands free are sound archive at.
    base-goes most root l n reading h floors areas is stands free sound archive done rest are at

pub returns-clause-rests : goal.returns-clause-rests
returns-clause-rests c = λ l n front back a split at. base-rests l n front back a split at

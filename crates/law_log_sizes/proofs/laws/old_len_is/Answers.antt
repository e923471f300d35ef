use Rattle.law_log_sizes.proofs.Bytes.{old-len, old-fits}
use Rattle.law_log_sizes.proofs.laws.old_len_is.Goals as goal

pub returns-clause-len : goal.returns-clause-len
returns-clause-len c = λ key from value. old-len key from value

pub returns-clause-fits : goal.returns-clause-fits
returns-clause-fits c = λ value is. old-fits value is

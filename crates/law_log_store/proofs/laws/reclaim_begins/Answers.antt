use Rattle.law_log_store.proofs.Planned.{reclaim-begins}
use Rattle.law_log_store.proofs.laws.reclaim_begins.Goals as goal

pub returns : goal.returns
returns c = λ v new h queue floors s step none no_reclaim some holds begun.
    reclaim-begins v h queue floors s none no_reclaim some holds new begun

use Rattle.law_log_store.proofs.Beginning.{group-begins}
use Rattle.law_log_store.proofs.laws.group_begins.Goals as goal

pub returns : goal.returns
returns c = λ old begun h queue floors step at_rest unbarred some s b.
    group-begins old begun h queue floors step at_rest unbarred some s b

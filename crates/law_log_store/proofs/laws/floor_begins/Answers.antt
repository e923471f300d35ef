use Rattle.law_log_store.proofs.Jobs.{floor-begins}
use Rattle.law_log_store.proofs.laws.floor_begins.Goals as goal

pub returns : goal.returns
returns c = λ v relation time h queue floors none no_reclaim room rises upto range s.
    floor-begins v relation time h queue floors none no_reclaim room rises upto range s

use Rattle.law_log_store.proofs.Going.{standing-stops, call-goes}
use Rattle.law_log_store.proofs.laws.group_goes_on.Goals as goal

pub returns-clause-stops : goal.returns-clause-stops
returns-clause-stops c = λ v h queue floors works s. standing-stops v h queue floors works s

pub returns-clause-call : goal.returns-clause-call
returns-clause-call c = λ tells w old new answer h queue floors tell works standing s advances sound.
    call-goes tells w old new answer h queue floors tell works standing s advances sound

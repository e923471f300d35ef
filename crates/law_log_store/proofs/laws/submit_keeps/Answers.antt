use Rattle.law_log_store.proofs.Submitting.{group-within, queued-stands}
use Rattle.law_log_store.proofs.laws.submit_keeps.Goals as goal

pub returns : goal.returns
returns c = λ v label time writes h queue floors step may fit s. queued-stands v label time writes h queue floors (group-within v step) may fit s

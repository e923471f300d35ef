use Rattle.law_log_steps.proofs.Resting.{opened-stands}
use Rattle.law_log_steps.proofs.laws.opened_stands.Goals as goal

pub returns : goal.returns
returns c = λ tells v image l reading h floors same sound reads is held stands on works marks memory.
    opened-stands tells v image l reading h floors same sound reads is held stands on works marks memory

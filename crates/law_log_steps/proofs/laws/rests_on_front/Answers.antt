use Rattle.law_log_steps.proofs.Resting.{rests-on-front}
use Rattle.law_log_steps.proofs.laws.rests_on_front.Goals as goal

pub returns : goal.returns
returns c = λ tells v m image told step is left. rests-on-front tells v m image told step is left

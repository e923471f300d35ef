use Rattle.law_log_layout.proofs.StaysBehind.{base-stays, free-stays, plan-stays}
use Rattle.law_log_layout.proofs.behind.base_stays_by_group.Goals as goal

pub returns-clause-place : goal.returns-clause-place
returns-clause-place c = λ most root l reading h next floors numbers link members names front back n is stands group joins beside are may.
    base-stays most root l reading h next floors numbers link members names front back n is stands group joins beside are may

pub returns-clause-free : goal.returns-clause-free
returns-clause-free c = λ most l c n joins beside free. free-stays most l c n joins beside free

pub returns-clause-plan : goal.returns-clause-plan
returns-clause-plan c = plan-stays

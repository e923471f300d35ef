use Rattle.law_image.proofs.PlansStay.{archive-plan-stays, reclaim-plan-stays}
use Rattle.law_image.proofs.laws.plans_stay.Goals as goal

pub returns-clause-archive : goal.returns-clause-archive
returns-clause-archive c =
    λ reading h next floors group upto run stands joins room by plan. archive-plan-stays reading h next floors group stands joins room upto run by plan

pub returns-clause-reclaim : goal.returns-clause-reclaim
returns-clause-reclaim c = λ reading h next floors group olds stands joins room plan. reclaim-plan-stays reading h next floors group stands joins room olds plan

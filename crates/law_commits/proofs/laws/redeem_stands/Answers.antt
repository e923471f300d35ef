use Rattle.law_commits.proofs.Answering.{redeem-step, awaited-answered, others-strangers}
use Rattle.law_commits.proofs.laws.redeem_stands.Goals as goal

pub returns-clause-stands : goal.returns-clause-stands
returns-clause-stands c = redeem-step

pub returns-clause-awaited : goal.returns-clause-awaited
returns-clause-awaited c = awaited-answered

pub returns-clause-others : goal.returns-clause-others
returns-clause-others c = others-strangers

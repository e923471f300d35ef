use Rattle.law_image.proofs.Kept.{at-recent, between-recent}
use Rattle.law_image.proofs.laws.recent_queries_agree.Goals as goal

pub returns-clause-values : goal.returns-clause-values
returns-clause-values c = λ reading h floors key t stands from recent before. at-recent reading h floors stands key t from recent before

pub returns-clause-rows : goal.returns-clause-rows
returns-clause-rows c = λ reading h floors key a b stands from recent. between-recent reading h floors stands key a b from recent

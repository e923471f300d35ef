use Rattle.law_image.proofs.Kept.{at-kept, between-kept}
use Rattle.law_image.proofs.laws.kept_queries_agree.Goals as goal

pub returns-clause-values : goal.returns-clause-values
returns-clause-values c = λ reading h floors key t stands from before. at-kept reading h floors stands key t from before

pub returns-clause-rows : goal.returns-clause-rows
returns-clause-rows c = λ reading h floors key a b stands from. between-kept reading h floors stands key a b from

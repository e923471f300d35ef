use Rattle.deltas.proofs.FilledChains.{one_image, filled_is_packed}
use Rattle.deltas.proofs.laws.filled_is_packed.Goals as goal

pub returns-clause-first : goal.returns-clause-first
returns-clause-first c = λ number numbers before after image filled. one_image number numbers before after image filled

pub returns-clause-all : goal.returns-clause-all
returns-clause-all c = filled_is_packed

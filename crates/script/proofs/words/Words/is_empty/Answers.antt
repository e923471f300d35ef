use Rattle.script.proofs.WordLemmas.{is_none_when_empty}
use Rattle.script.proofs.words.Words.is_empty.Goals as goal

pub returns : goal.returns
returns c = is_none_when_empty c.self.inside.rest c.is_none.result _ c.is_none.ensures c.self.view_is

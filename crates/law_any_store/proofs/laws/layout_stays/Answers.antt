use Rattle.law_any_store.proofs.Marks.{layout-stays}
use Rattle.law_any_store.proofs.laws.layout_stays.Goals as goal

pub returns : goal.returns
returns c = layout-stays

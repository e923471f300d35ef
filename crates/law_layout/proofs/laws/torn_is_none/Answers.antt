use Rattle.law_layout.proofs.Unique.{torn_is_none}
use Rattle.law_layout.proofs.laws.torn_is_none.Goals as goal

pub returns : goal.returns
returns c = λ header n image h floors within is_open none stands. torn_is_none header n image h floors within is_open none stands

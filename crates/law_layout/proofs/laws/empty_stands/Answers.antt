use Rattle.law_layout.proofs.Ways.{empty_image_stands}
use Rattle.law_layout.proofs.laws.empty_stands.Goals as goal

pub returns : goal.returns
returns c = λ header image log. empty_image_stands header image log

use Rattle.law_image.proofs.Empty.{empty-stands_for}
use Rattle.law_image.proofs.laws.empty_stands.Goals as goal

pub returns : goal.returns
returns c = λ profile slots pieces header. empty-stands_for profile slots pieces header

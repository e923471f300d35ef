use Rattle.law_layout.proofs.Opening.{held_opens}
use Rattle.law_layout.proofs.laws.image_opens.Goals as goal

pub returns : goal.returns
returns c = λ header image layout reading h floors laid held stands built. held_opens header image layout reading h floors laid held stands built

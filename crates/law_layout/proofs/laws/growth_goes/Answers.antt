use Rattle.law_layout.proofs.Growing.{growth_goes}
use Rattle.law_layout.proofs.laws.growth_goes.Goals as goal

pub returns : goal.returns
returns c = λ header stage calm old growing sound_calm sound. growth_goes header stage calm old growing sound_calm sound

use Rattle.law_log_layout.proofs.RootGoes.{goes}
use Rattle.law_log_layout.proofs.laws.root_goes.Goals as goal

pub returns : goal.returns
returns c = λ header turned old new stage areas apart old_long new_long sound at. goes header turned old new apart old_long new_long areas sound stage at

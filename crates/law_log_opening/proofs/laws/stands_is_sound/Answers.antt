use Rattle.law_log_opening.proofs.Sound.{sound}
use Rattle.law_log_opening.proofs.laws.stands_is_sound.Goals as goal

pub returns : goal.returns
returns c = λ image roots h floors fault reads stands is. sound image roots h floors reads stands fault is

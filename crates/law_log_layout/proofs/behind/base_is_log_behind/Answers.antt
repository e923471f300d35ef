use Rattle.law_log_layout.proofs.StaysBehind.{same-behind}
use Rattle.law_log_layout.proofs.behind.base_is_log_behind.Goals as goal

pub returns : goal.returns
returns c = λ most root l reading h next floors numbers link members names front back n is stands group joins beside are may.
    same-behind most root l reading h next floors numbers link members names front back n is stands group joins beside are may

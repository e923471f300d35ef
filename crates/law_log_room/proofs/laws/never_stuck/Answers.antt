use Rattle.law_log_room.proofs.Stuck.{never-stuck}
use Rattle.law_log_room.proofs.laws.never_stuck.Goals as goal

pub returns : goal.returns
returns c = λ tells v m tell stands idle left. never-stuck tells tell v (record { machine = m; stands = stands; left = left }) idle

use Rattle.law_log_room.proofs.Lasts.{last-has-room}
use Rattle.law_log_room.proofs.laws.last_has_room.Goals as goal

pub returns : goal.returns
returns c = λ tells v new m answer tell step stands none room starts.
    last-has-room tells v m tell stands.store step none room new answer starts

use Rattle.law_log_room.proofs.Calls.{call-leaves, never-full, roomy-left}
use Rattle.law_log_room.proofs.Reopened.{reopened}
use Rattle.law_log_room.proofs.Shares.{reclaim-has-room}
use Rattle.law_log_room.proofs.Starting.{created-left}
use Rattle.law_log_room.proofs.laws.reclaim_has_room.Goals as goal

pub returns-clause-room : goal.returns-clause-room
returns-clause-room c = λ tells v new m answer tell stands left starts.
    reclaim-has-room tells v new m answer tell stands.store left starts

pub returns-clause-created : goal.returns-clause-created
returns-clause-created c = created-left

pub returns-clause-archive : goal.returns-clause-archive
returns-clause-archive c = roomy-left

pub returns-clause-call : goal.returns-clause-call
returns-clause-call c = call-leaves

pub returns-clause-never : goal.returns-clause-never
returns-clause-never c = never-full

pub returns-clause-reopened : goal.returns-clause-reopened
returns-clause-reopened c = λ tells v again m old mark tell step stands works left leaves sound opens.
    reopened tells v again m old mark tell step stands.store works left leaves sound opens

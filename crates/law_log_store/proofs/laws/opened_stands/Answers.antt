use Rattle.law_log_store.proofs.Opened.{leaves-room, opened-stands}
use Rattle.law_log_store.proofs.laws.opened_stands.Goals as goal

pub returns-clause-room : goal.returns-clause-room
returns-clause-room c = λ most root l reading h floors is stands. leaves-room most root l reading h floors is stands

pub returns-clause-stands : goal.returns-clause-stands
returns-clause-stands c = λ v image l reading h floors same sound reads is held stands opened.
    opened-stands v image l reading h floors same sound reads is held stands opened

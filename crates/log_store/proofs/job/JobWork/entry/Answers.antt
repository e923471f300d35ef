use Rattle.log_store.proofs.Entering.{floor-entry, archive-entry}
use Rattle.log_store.proofs.job.JobWork.entry.Goals as goal

pub returns-in_ok-push_floor-in-Floor-clause-is : goal.returns-in_ok-push_floor-in-Floor-clause-is
returns-in_ok-push_floor-in-Floor-clause-is c =
    rw c.in_ok-push_floor-in-Floor.ensures.items (rw c.new-bytes.ensures.items (rw c.in-Floor.is (floor-entry c.in-Floor.floor c.in-Floor.floors)))

pub returns-in_ok-push_archive-in-Archive-clause-is : goal.returns-in_ok-push_archive-in-Archive-clause-is
returns-in_ok-push_archive-in-Archive-clause-is c =
    rw c.in_ok-push_archive-in-Archive.ensures.items
    (rw c.new-bytes.ensures.items (rw c.in-Archive.is (archive-entry c.in-Archive.archive c.in-Archive.archives)))

use Rattle.std.proofs.Common.{◌≤◌, arith}
use Rattle.law_image.specs.Log.{last_time}
use Rattle.law_image.proofs.Standing.{last-is}
use Rattle.law_image.proofs.ArchiveStep.{archive-stands_for}
use Rattle.law_image.proofs.ReclaimStep.{reclaim-stands_for}
use Rattle.law_image.proofs.FloorStep.{floor-stands_for}
use Rattle.law_image.proofs.PieceStep.{piece-stands_for}
use Rattle.law_image.proofs.laws.jobs_stand.Goals as goal

pub returns-clause-archive : goal.returns-clause-archive
returns-clause-archive c = λ reading h floors upto run stands plan after within slots room.
    let may : upto ≤ last_time reading.log = omega (arith, last-is reading h floors stands) in
    archive-stands_for reading h floors stands upto run plan (after, may) slots room

pub returns-clause-reclaim : goal.returns-clause-reclaim
returns-clause-reclaim c = λ reading h floors olds stands plan advances slots room. reclaim-stands_for reading h floors stands olds plan advances slots room

pub returns-clause-floor : goal.returns-clause-floor
returns-clause-floor c = λ reading h floors scope floor stands may slots room. floor-stands_for reading h floors stands scope floor may slots room

pub returns-clause-piece : goal.returns-clause-piece
returns-clause-piece c = λ reading h floors stands later slots room. piece-stands_for reading h floors stands later slots room

use Rattle.recovery.proofs.Settling.{still_left, settles_one, settles_two, settles_three, three_more}
use Rattle.disk.proofs.Stops.{left_by_sync}
use Rattle.recovery.proofs.opening.settle.Goals as goal

pub returns-in_err-sync-clause-moments : goal.returns-in_err-sync-clause-moments
returns-in_err-sync-clause-moments g c = let sound = g.met.D.Disk.sound in
    settles_one _ _ _ (record { answer = c.sync.result; counts = c.sync.ensures.counts; areas = c.sync.ensures.areas }) (sound _)

pub returns-in_err-sync-2-clause-left : goal.returns-in_err-sync-2-clause-left
returns-in_err-sync-2-clause-left g c = λ told. let sound = g.met.D.Disk.sound in
    still_left _ _ _
    (left_by_sync _ _ _ _ (c.sync.ensures.areas told) (sound _ told))
    (left_by_sync _ _ _ _ (c.sync-2.ensures.areas told) (sound _ told))

pub returns-in_err-sync-2-clause-moments : goal.returns-in_err-sync-2-clause-moments
returns-in_err-sync-2-clause-moments g c = let sound = g.met.D.Disk.sound in
    settles_two _ _ _ _
    (record { answer = c.sync.result; counts = c.sync.ensures.counts; areas = c.sync.ensures.areas })
    (record { answer = c.sync-2.result; counts = c.sync-2.ensures.counts; areas = c.sync-2.ensures.areas })
    (sound _) (sound _)

pub returns-in_err-sync-3-clause-left : goal.returns-in_err-sync-3-clause-left
returns-in_err-sync-3-clause-left g c = λ told. let sound = g.met.D.Disk.sound in
    still_left _ _ _
    (left_by_sync _ _ _ _ (c.sync.ensures.areas told) (sound _ told))
    (still_left _ _ _
    (left_by_sync _ _ _ _ (c.sync-2.ensures.areas told) (sound _ told))
    (left_by_sync _ _ _ _ (c.sync-3.ensures.areas told) (sound _ told)))

pub returns-in_err-sync-3-clause-moments : goal.returns-in_err-sync-3-clause-moments
returns-in_err-sync-3-clause-moments g c = let sound = g.met.D.Disk.sound in
    settles_three _ _ _ _ _
    (record { answer = c.sync.result; counts = c.sync.ensures.counts; areas = c.sync.ensures.areas })
    (record { answer = c.sync-2.result; counts = c.sync-2.ensures.counts; areas = c.sync-2.ensures.areas })
    (record { answer = c.sync-3.result; counts = c.sync-3.ensures.counts; areas = c.sync-3.ensures.areas })
    (sound _) (sound _) (sound _)

pub returns-clause-left : goal.returns-clause-left
returns-clause-left g c = λ told. let sound = g.met.D.Disk.sound in
    still_left _ _ _
    (left_by_sync _ _ _ _ (c.sync.ensures.areas told) (sound _ told))
    (still_left _ _ _
    (left_by_sync _ _ _ _ (c.sync-2.ensures.areas told) (sound _ told))
    (left_by_sync _ _ _ _ (c.sync-3.ensures.areas told) (sound _ told)))

pub returns-clause-moments : goal.returns-clause-moments
returns-clause-moments g c = let sound = g.met.D.Disk.sound in
    settles_three _ _ _ _ _
    (record { answer = c.sync.result; counts = c.sync.ensures.counts; areas = c.sync.ensures.areas })
    (record { answer = c.sync-2.result; counts = c.sync-2.ensures.counts; areas = c.sync-2.ensures.areas })
    (record { answer = c.sync-3.result; counts = c.sync-3.ensures.counts; areas = c.sync-3.ensures.areas })
    (sound _) (sound _) (sound _)

pub returns-clause-made : goal.returns-clause-made
returns-clause-made g c = three_more _ _ _ _ c.in_ok-sync.ensures.counts c.in_ok-sync-2.ensures.counts c.in_ok-sync-3.ensures.counts

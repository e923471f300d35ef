use Rattle.shared.proofs.Fresh.{fresh-stands, fresh-kind, fresh-size, fresh-none, opened-told, opened-mark}
use Rattle.shared.proofs.opening.fresh_store.Goals as goal

pub returns-in-Ok-open-clause-stands : goal.returns-in-Ok-open-clause-stands
returns-in-Ok-open-clause-stands g c =
    let told = c.requires in
    fresh-stands _ _ _ _ _ _ told (g.met.D.Disk.sound c.format.new.disk told) (c.in-Ok.ensures.formatted told) c.in-Ok-open.ensures.ok

pub returns-in-Ok-open-clause-layout : goal.returns-in-Ok-open-clause-layout
returns-in-Ok-open-clause-layout g c =
    let told = c.requires in
    fresh-kind _ _ _ _ _ _ told (g.met.D.Disk.sound c.format.new.disk told) (c.in-Ok.ensures.formatted told) c.in-Ok-open.ensures.ok

pub returns-in-Ok-open-clause-size : goal.returns-in-Ok-open-clause-size
returns-in-Ok-open-clause-size g c =
    let told = c.requires in
    fresh-size _ _ _ _ _ _ told (c.in-Ok.ensures.formatted told) c.in-Ok-open.ensures.ok

pub returns-in-Ok-open-clause-none : goal.returns-in-Ok-open-clause-none
returns-in-Ok-open-clause-none g c =
    let told = c.requires in
    fresh-none _ _ _ _ _ _ told (g.met.D.Disk.sound c.format.new.disk told) (c.in-Ok.ensures.formatted told) c.in-Ok-open.ensures.ok

pub returns-in-Ok-open-clause-fresh : goal.returns-in-Ok-open-clause-fresh
returns-in-Ok-open-clause-fresh g c = opened-told _ _ _ _ c.in-Ok-open.ensures.ok

pub returns-in-Ok-open-clause-mark : goal.returns-in-Ok-open-clause-mark
returns-in-Ok-open-clause-mark g c = opened-mark _ _ _ _ c.in-Ok-open.ensures.ok

use Rattle.std.proofs.Common.{◌≡◌, ◌∙◌, ap, refl}
use Rattle.disk.specs.Areas.{Areas, synced, written}
use Rattle.recovery.proofs.Formatted.{formatted}
use Rattle.recovery.proofs.formatting.put_front.Goals as goal

pub returns-clause-formatted : goal.returns-clause-formatted
returns-clause-formatted g c = λ told before has.
    let old : Areas = (g.D.Disk.state c.args.disk.now).areas in
    let new : Areas = (g.D.Disk.state c.sync.new.self).areas in
    let now : new ≡ record old { status = synced (written 0 c.args.front.now old.status) } =
    (c.in_ok-sync.ensures.areas told).synced ∙ ap (λ (a : Areas). record a { status = synced a.status }) (c.in_ok-write_at.ensures.areas told).written in
    formatted c.args.slots c.args.front.now old.status.bytes c.requires.slots c.requires.long c.requires.is c.requires.behind has.room has.zeros before old new
    has refl now

use Rattle.std.proofs.Common.{rules}
use Rattle.shared.proofs.Passes.{queues}
use Rattle.shared.proofs.observer.queue.Goals as goal

pub load_as-requires : goal.load_as-requires
load_as-requires g c =
    let r = c.requires in (search rules, (search rules, (r.cell, queues _ _ g.K.Next.next r.writes r.later r.legal r.published)))

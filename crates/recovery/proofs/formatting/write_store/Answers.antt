use Rattle.std.proofs.Common.{inr}
use Rattle.recovery.proofs.formatting.write_store.Goals as goal

pub returns-in_err-write_front-clause-stop : goal.returns-in_err-write_front-clause-stop
returns-in_err-write_front-clause-stop g c =
    λ told. inr (c.in_err-write_front.ensures.stop told (g.D.Disk.state c.args.disk.now).areas (c.in_ok-close_slots.ensures.closed told))

pub returns-clause-formatted : goal.returns-clause-formatted
returns-clause-formatted g c =
    λ told. c.in_ok-write_front.ensures.formatted told (g.D.Disk.state c.args.disk.now).areas (c.in_ok-close_slots.ensures.closed told)

pub returns-clause-stop : goal.returns-clause-stop
returns-clause-stop g c = λ told. inr (c.in_ok-write_front.ensures.stop told (g.D.Disk.state c.args.disk.now).areas (c.in_ok-close_slots.ensures.closed told))

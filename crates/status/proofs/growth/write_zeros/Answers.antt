use Rattle.std.proofs.Common.{◌≡◌, ℕ, ◌+◌, ◌*◌, replicate, subst, arith}
use Rattle.disk.specs.Calls.{Writes}
use Rattle.disk.specs.declared.area.Area.TheVariants.{Status}
use Rattle.status.specs.Log.{slot_start}
use Rattle.status.proofs.growth.write_zeros.Goals as goal

pub returns-clause-call : goal.returns-clause-call
returns-clause-call g c = λ told.
    let place : c.slot_place.result + 8192 * c.from.result ≡ slot_start c.args.slots + 8192 * c.args.parts =
    omega (arith, c.slot_place.ensures, c.from.ensures) in
    subst (λ (at : ℕ). Writes Status at (replicate 8192 0) c.write_at.result (g.D.Disk.state c.args.disk.now).areas (g.D.Disk.state c.write_at.new.self).areas)
    place (c.write_at.ensures.areas told)

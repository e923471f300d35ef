use Rattle.std.proofs.Common.{◌≡◌, refl, sym, subst, inr, Ok}
use Rattle.disk.specs.Areas.{Areas, AreSound}
use Rattle.disk.specs.Calls.{Writes}
use Rattle.disk.proofs.Stops.{Tears-written}
use Rattle.c_engine.specs.LastWrites.{writes_of, last_writes}
use Rattle.c_engine.proofs.RelaySounds.{sound_after_write}
use Rattle.c_engine.proofs.Relaying.{write_noted}
use Rattle.c_engine.proofs.relay_disk.RelayDiskDisk.write_at.Goals as goal

pub invariant_of-self-in-Ok-clause-sound : goal.invariant_of-self-in-Ok-clause-sound
invariant_of-self-in-Ok-clause-sound c =
    subst AreSound (sym c.then-self.ensures)
    (sound_after_write c.args.area c.args.at c.args.bytes.now c.args.self.now.shadow.areas c.args.self.now.sound c.write.ensures.are_bytes)

pub invariant_of-self-in-Ok-clause-noted : goal.invariant_of-self-in-Ok-clause-noted
invariant_of-self-in-Ok-clause-noted c =
    subst (λ (a : Areas). ∥ writes_of c.write.new.self ≡ last_writes a ∥₁) (sym c.then-self.ensures)
    (write_noted c.args.area c.args.at c.args.bytes.now (writes_of c.args.self.now.writes) (writes_of c.write.new.self) c.args.self.now.shadow.areas
    c.args.self.now.noted c.in-Ok.ensures.noted)

pub returns-in-Ok-clause-areas : goal.returns-in-Ok-clause-areas
returns-in-Ok-clause-areas c told =
    subst (Writes c.args.area c.args.at c.args.bytes.now (Ok tt) c.args.self.now.shadow.areas) (sym c.then-self.ensures)
    (record { written = refl; in_part = inr (Tears-written c.args.area c.args.at c.args.bytes.now c.args.self.now.shadow.areas) })

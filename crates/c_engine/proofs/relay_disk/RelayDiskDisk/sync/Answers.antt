use Rattle.std.proofs.Common.{◌≡◌, sym, subst}
use Rattle.disk.specs.Areas.{Areas, AreSound}
use Rattle.c_engine.specs.LastWrites.{writes_of, last_writes}
use Rattle.c_engine.proofs.RelaySounds.{sound_after_sync}
use Rattle.c_engine.proofs.Relaying.{sync_noted}
use Rattle.c_engine.proofs.relay_disk.RelayDiskDisk.sync.Goals as goal

pub invariant_of-self-clause-sound : goal.invariant_of-self-clause-sound
invariant_of-self-clause-sound c = subst AreSound (sym c.then-self.ensures) (sound_after_sync c.args.area c.args.self.now.shadow.areas c.args.self.now.sound)

pub invariant_of-self-clause-noted : goal.invariant_of-self-clause-noted
invariant_of-self-clause-noted c =
    subst (λ (a : Areas). ∥ writes_of c.sync.new.self ≡ last_writes a ∥₁) (sym c.then-self.ensures)
    (sync_noted c.args.area (writes_of c.args.self.now.writes) (writes_of c.sync.new.self) c.args.self.now.shadow.areas c.args.self.now.noted c.sync.ensures)

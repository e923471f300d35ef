use Rattle.std.proofs.Common.{◌∙◌}
use Rattle.c_engine.specs.LastWrites.{writes_of}
use Rattle.c_engine.proofs.Relaying.{noted_is}
use Rattle.c_engine.proofs.relay_disk.RelayDisk.last_write.Goals as goal

pub returns : goal.returns
returns c = c.of.ensures ∙ noted_is c.args.area (writes_of c.args.self.now.writes) c.args.self.now.shadow.areas c.args.self.now.noted

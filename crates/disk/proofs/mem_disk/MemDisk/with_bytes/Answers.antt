use Rattle.std.proofs.Common.{arith}
use Rattle.std.proofs.lemmas.Grind.{common_steps}
use Rattle.disk.proofs.mem_disk.MemDisk.with_bytes.Goals as goal

pub returns-clause-fresh : goal.returns-clause-fresh
returns-clause-fresh c = grind (arith, common_steps)

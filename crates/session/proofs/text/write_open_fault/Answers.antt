use Rattle.std.proofs.Common.{rules}
use Rattle.session.proofs.text.write_open_fault.Goals as goal

pub returns-in-NoMemory : goal.returns-in-NoMemory
returns-in-NoMemory g c = rw c.in-NoMemory.is (search rules)

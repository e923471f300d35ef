use Rattle.std.proofs.Common.{rules}
use Rattle.session.proofs.text.write_submit_fault.Goals as goal

pub returns-in-Conflict : goal.returns-in-Conflict
returns-in-Conflict g c = rw c.in-Conflict.is (search rules)

pub returns-in-StatusFull : goal.returns-in-StatusFull
returns-in-StatusFull g c = rw c.in-StatusFull.is (search rules)

pub returns-in-ClockEnd : goal.returns-in-ClockEnd
returns-in-ClockEnd g c = rw c.in-ClockEnd.is (search rules)

pub returns-in-NoMemory : goal.returns-in-NoMemory
returns-in-NoMemory g c = rw c.in-NoMemory.is (search rules)

pub returns-in-Failed : goal.returns-in-Failed
returns-in-Failed g c = rw c.in-Failed.is (search rules)

pub returns-in-Stranger : goal.returns-in-Stranger
returns-in-Stranger g c = rw c.in-Stranger.is (search rules)

use Rattle.law_any_store.proofs.Memory.{memory-stands, last-published}
use Rattle.law_any_store.proofs.laws.memory_stands.Goals as goal

pub returns-clause-memory : goal.returns-clause-memory
returns-clause-memory c = memory-stands

pub returns-clause-last : goal.returns-clause-last
returns-clause-last c = last-published

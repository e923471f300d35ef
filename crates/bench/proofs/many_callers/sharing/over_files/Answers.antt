use Rattle.bench.proofs.Over.{over-stands, over-told}
use Rattle.bench.proofs.many_callers.sharing.over_files.Goals as goal

pub returns-clause-stands : goal.returns-clause-stands
returns-clause-stands c = over-stands _ _ _ _ _ _ c.over-store.ensures.store c.requires.stands

pub returns-clause-fresh : goal.returns-clause-fresh
returns-clause-fresh c = over-told _ _ _ c.over-store.ensures.store c.requires.fresh

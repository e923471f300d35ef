use Rattle.archive.proofs.Sound.{held_entry, held_head, held_value, held_unbroken}
use Rattle.archive.proofs.Whole.{whole_run}
use Rattle.archive.proofs.laws.unbroken_runs_are_held.Goals as goal

pub returns-clause-places : goal.returns-clause-places
returns-clause-places c = held_entry

pub returns-clause-heads : goal.returns-clause-heads
returns-clause-heads c = held_head

pub returns-clause-values : goal.returns-clause-values
returns-clause-values c = held_value

pub returns-clause-unbroken : goal.returns-clause-unbroken
returns-clause-unbroken c = held_unbroken

pub returns-clause-held : goal.returns-clause-held
returns-clause-held c = whole_run

use Rattle.law_layout.proofs.Beside.{turn_beside_write, turn_beside_sync}
use Rattle.law_layout.proofs.laws.turn_beside.Goals as goal

pub returns-clause-write : goal.returns-clause-write
returns-clause-write c = λ header old slot new stage e areas heap old_are new_are is old_apart new_apart sound loose at.
    turn_beside_write header old slot new stage e areas heap old_are new_are is old_apart new_apart sound loose at

pub returns-clause-sync : goal.returns-clause-sync
returns-clause-sync c = λ header old slot new stage areas sound at. turn_beside_sync header old slot new stage areas sound at

use Rattle.law_layout.proofs.Turns.{turn_stands}
use Rattle.law_layout.proofs.laws.turn_stands.Goals as goal

pub returns : goal.returns
returns c = λ header old slot new reading reading' h h' floors floors' body stage areas adds laid stands laid' stands' long spelled sound at.
    turn_stands header old slot new reading reading' h h' floors floors' body stage areas adds laid stands laid' stands' long spelled sound at

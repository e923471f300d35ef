use Rattle.law_layout.proofs.SlotTurns.{slot_goes}
use Rattle.law_layout.proofs.laws.slot_goes.Goals as goal

pub returns : goal.returns
returns c = λ header old slot new body stage areas adds long spelled sound at. slot_goes header old slot new adds body long spelled stage areas sound at

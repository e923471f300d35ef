use Rattle.law_any_store.proofs.Calls.{pump-stands}
use Rattle.law_any_store.proofs.laws.pump_stands.Goals as goal

pub returns : goal.returns
returns c = pump-stands
